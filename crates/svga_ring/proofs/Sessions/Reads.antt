-- The words of a command that was sent may be read, one after another.
use Rattle.std.proofs.Common.{◌≡◌, ℕ, List, [], ◌∷◌, ◌++◌, length, slice_index, sym, ap, subst, ◌∙◌, arith, append_assoc, append-nil, length-append}
use Rattle.std.proofs.Math.Seq.{get_or-append_seam}
use Rattle.svga_cmd.specs.Spelling.{Spells}
use Rattle.svga_cmd.specs.declared.command.Command.{Command}
use Rattle.svga_cmd.specs.declared.session.Session.{Session}
use Rattle.svga_model.proofs.GrammarPrefixes.{same_length}
use Rattle.svga_ring.proofs.Steps.Each.{keeps_event}
use Rattle.svga_ring.specs.Conditions.{Can}
use Rattle.svga_ring.specs.Core.{Core, Event, LoadCell, after, read_count}
use Rattle.svga_ring.specs.Layouts.{word_cell}
use Rattle.svga_ring.specs.Lists.{CanAll, after_all}
use Rattle.svga_ring.specs.Sound.{IsSound}
use Rattle.svga_ring.specs.Views.{Apart}

-- a load for each word
abbrev pub loads : List ℕ → List Event
loads [] = []
loads (w ∷ ws) = LoadCell ∷ loads ws

-- the word behind those taken and read
word_at : (taken front left rest : List ℕ) (w : ℕ)
    → slice_index ((taken ++ (front ++ w ∷ left)) ++ rest) (length (taken ++ front)) ≡ w
word_at taken front left rest w =
    ap (λ l. slice_index l (length (taken ++ front)))
    (ap (λ l. l ++ rest) (sym (append_assoc taken front (w ∷ left)))
    ∙ append_assoc (taken ++ front) (w ∷ left) rest)
    ∙ get_or-append_seam (taken ++ front) w (left ++ rest) 0

module _ (k : Session) (command : Command) (words : List ℕ) (spells : Spells command words) where
  pub can_read : (left front rest : List ℕ) (c : Core) → IsSound k c → c.seats ≡ Apart
      → words ≡ front ++ left → c.device.read ≡ front → c.driver.sent ≡ (c.device.taken ++ words) ++ rest
      → c.device.next ≡ length c.driver.sent
      → CanAll (loads left) c × ((after_all (loads left) c).device.read ≡ words)
  can_read [] front rest c o apart are read sent next = (tt, read ∙ sym (are ∙ append-nil front))
  can_read (w ∷ left) front rest c o apart are read sent next =
      let e = c.device in
      let x : ℕ = slice_index c.words (word_cell e.layout (read_count e)) in
      let size = length-append front (w ∷ left) in
      let all = length-append (e.taken ++ words) rest in
      let parts = length-append e.taken words in
      let can : Can LoadCell c = (
        apart,
        (
          omega (arith, ap length read, ap length are, size, ap length sent, all, parts, next),
          λ other spelled. omega (
            arith,
            ap length are,
            size,
            same_length other command front words (w ∷ left) [] (subst (Spells other) read spelled) spells
                (sym are ∙ sym (append-nil words)),
          ),
        ),
      ) in
      let then : IsSound k (after LoadCell c) = keeps_event k LoadCell c o can in
      let told : c.driver.sent ≡ (e.taken ++ (front ++ x ∷ [])) ++ then.of_words.order.ahead =
      then.of_words.order.read_follows_sent
      ∙ (λ i. (e.taken ++ (read i ++ x ∷ [])) ++ then.of_words.order.ahead) in
      let here : x ≡ w =
      sym (word_at e.taken front [] then.of_words.order.ahead x)
      ∙ ap (λ l. slice_index l (length (e.taken ++ front)))
      (sym told ∙ sent ∙ ap (λ l. (e.taken ++ l) ++ rest) are)
      ∙ word_at e.taken front left rest w in
      let on = can_read left (front ++ w ∷ []) rest (after LoadCell c) then apart
      (are ∙ sym (append_assoc front (w ∷ []) left)) (λ i. read i ++ here i ∷ []) sent next in
      ((can, on.0), on.1)

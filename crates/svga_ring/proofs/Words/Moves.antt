-- Each step on words keeps what is sound of words.
use Rattle.std.proofs.Common.{◌≡◌, ℕ, ◌<◌, List, [], ◌∷◌, ◌++◌, length, get_or, slice_set, refl, sym, ap, ◌∙◌, subst, arith, get_or-set_other}
use Rattle.svga_cmd.specs.WellFormed.{IsWellFormed}
use Rattle.svga_cmd.specs.declared.command.Command.{Command}
use Rattle.svga_cmd.specs.declared.session.Session.{Session}
use Rattle.svga_model.specs.Acts.{Act, Do}
use Rattle.svga_model.specs.Faults.{IsAdmissible}
use Rattle.svga_model.specs.Runs.{run}
use Rattle.svga_model.specs.States.{opening_state}
use Rattle.svga_ring.proofs.Acts.Append.{acts_more}
use Rattle.svga_ring.proofs.Words.Cells.{IsOpen, fixed_set, long, not_cell, open_cell, open_next, open_stop, ring_cell, ring_sent, ring_taken}
use Rattle.svga_ring.proofs.Words.FenceOrder.{fences_beside, fences_commit, fences_read, fences_taken}
use Rattle.svga_ring.proofs.Words.Told.{in_hand}
use Rattle.svga_ring.proofs.Words.Order.{known_commit, known_take, loaded_word, order_commit, order_read, order_send, order_take}
use Rattle.svga_ring.proofs.Words.NextCommand.{commands-append}
use Rattle.svga_ring.specs.Committed.{commands}
use Rattle.svga_ring.specs.Conditions.{Can, IsNextFence}
use Rattle.svga_ring.specs.Core.{Commit, Core, LoadCell, SendMore, StoreCell, StoreStop, after, put_count, read_count}
use Rattle.svga_ring.specs.Layouts.{Layout, ring_dwords, word_address, word_cell}
use Rattle.svga_ring.specs.SharedTable.{fence_word, next_word, stop_word}
use Rattle.svga_ring.specs.Sound.{IsSoundOfWords}
use Rattle.svga_ring.specs.SoundActs.{AreAdmissible}
use Rattle.svga_ring.specs.SoundFences.{AreFencesInOrder}
use Rattle.svga_ring.specs.SoundWords.{AreInOrder, IsKnownWhole}
use Rattle.svga_ring.specs.Views.{Terms, terms_of}

pub words_store_cell : (k : Session) (c : Core) (word : ℕ) → IsSoundOfWords k c → Can (StoreCell word) c
    → IsSoundOfWords k (after (StoreCell word) c)
words_store_cell k c word o can =
    let d = c.driver in
    let e = c.device in
    let lay = e.layout in
    let i : ℕ = word_cell d.layout (put_count d) in
    let here : i ≡ word_cell lay (put_count d) = ap (λ (l : Layout). word_cell l (put_count d))
    o.session.one_layout in
    let dwords : ring_dwords d.layout ≡ ring_dwords lay = ap ring_dwords o.session.one_layout in
    let wide = long _ _ lay _ o.fixed in
    record {
      session = o.session;
      order = o.order;
      ring = ring_cell lay _ _ _ _ _ i word o.session.layout wide here (omega (arith, can.1.0.room, dwords))
          can.1.0.short
          (omega (arith, o.order.read_known, o.order.known_sent)) can.1.1 o.ring;
      fixed = fixed_set _ _ lay _ i word
          (subst (λ n. IsOpen lay n) (sym here) (open_cell lay (put_count d) o.session.layout)) o.fixed;
      known = o.known;
      loads = o.loads;
      fences = fences_beside _ _ _ _ _ _ _ _ _
          (get_or-set_other c.words i fence_word word 0
          (λ q. not_cell lay (put_count d) fence_word o.session.layout (omega arith) (sym here ∙ sym q)))
          o.fences;
      acts = o.acts;
    }

-- an act more that is admissible in the driver's terms
commit_acts : (k : Session) (terms : Terms) (acts : List Act) (c : Command) → terms ≡ terms_of k
    → IsWellFormed c
    → IsAdmissible (run (opening_state terms.limits terms.first) acts) (Do c)
    → AreAdmissible k.limits k.first acts → AreAdmissible k.limits k.first (acts ++ Do c ∷ [])
commit_acts k terms acts c same well admissible o = acts_more k.limits k.first acts (Do c) well
    (subst (λ (t : Terms). IsAdmissible (run (opening_state t.limits t.first) acts) (Do c)) same admissible) o

pub words_commit : (k : Session) (c : Core) (command : Command) → IsSoundOfWords k c → Can (Commit command) c
    → IsSoundOfWords k (after (Commit command) c)
words_commit k c command o can =
    let d = c.driver in
    let e = c.device in
    let lay = e.layout in
    let cs = commands d.acts in
    let more : cs ++ command ∷ [] ≡ commands (d.acts ++ Do command ∷ []) =
    sym (commands-append d.acts (Do command ∷ [])) in
    let x : ℕ = word_address d.layout (put_count d) in
    let here : x ≡ word_address lay (put_count d) =
    ap (λ (l : Layout). word_address l (put_count d)) o.session.one_layout in
    let wide = long _ _ lay _ o.fixed in
    let fence : IsNextFence k.first cs d.seen command =
    subst (λ (t : Terms). IsNextFence t.first cs d.seen command) o.session.of_driver can.1.fence in
    let register : ℕ = get_or (slice_set c.words next_word x) fence_word 0 in
    let beside = fences_beside _ _ _ _ _ _ register _ _
    (get_or-set_other c.words next_word fence_word x 0 (λ q. omega (arith, q))) o.fences in
    record {
      session = o.session;
      order = subst (λ l. AreInOrder d.terms.way l (d.sent ++ d.pending) e.taken e.read e.done e.next) more
          (order_commit _ cs command d.sent d.pending _ _ _ _ can.1.all_sent can.1.pending o.order);
      ring = ring_sent lay _ _ _ _ _ x o.session.layout wide here o.ring;
      fixed = fixed_set _ _ lay _ next_word x (open_next lay) o.fixed;
      known = subst (λ l. IsKnownWhole l e.done d.stop d.passed) more
          (known_commit cs command _ _ _ o.order.done_low o.known);
      loads = o.loads;
      fences = subst (λ l. AreFencesInOrder k.first l e.done e.read e.stored register d.seen
          d.fence_loads.last) more
          (fences_commit _ cs command _ _ _ _ _ _ o.order.done_low fence beside);
      acts = commit_acts k d.terms d.acts command o.session.of_driver can.1.spelled.well_formed
          can.1.admissible
          o.acts;
    }

pub words_send_more : (k : Session) (c : Core) → IsSoundOfWords k c → Can SendMore c
    → IsSoundOfWords k (after SendMore c)
words_send_more k c o can =
    let d = c.driver in
    let e = c.device in
    let lay = e.layout in
    let x : ℕ = word_address d.layout (put_count d) in
    let here : x ≡ word_address lay (put_count d) =
    ap (λ (l : Layout). word_address l (put_count d)) o.session.one_layout in
    let wide = long _ _ lay _ o.fixed in
    record {
      session = o.session;
      order = order_send _ _ d.sent d.pending _ _ _ _ can.1.0 o.order;
      ring = ring_sent lay _ _ _ _ _ x o.session.layout wide here o.ring;
      fixed = fixed_set _ _ lay _ next_word x (open_next lay) o.fixed;
      known = o.known;
      loads = o.loads;
      fences = fences_beside _ _ _ _ _ _ _ _ _
          (get_or-set_other c.words next_word fence_word x 0 (λ q. omega (arith, q))) o.fences;
      acts = o.acts;
    }

pub words_load_cell : (k : Session) (c : Core) → IsSoundOfWords k c → Can LoadCell c
    → IsSoundOfWords k (after LoadCell c)
words_load_cell k c o can =
    let d = c.driver in
    let e = c.device in
    let word : ℕ = get_or c.words (word_cell e.layout (read_count e)) 0 in
    let sent : read_count e < length d.sent = omega (arith, can.1.0, o.order.known_sent) in
    let is = loaded_word e.layout _ _ _ _ _ (read_count e) (omega arith) sent o.ring in
    record {
      session = o.session;
      order = order_read _ _ _ _ _ _ _ word can.1.0 is o.order;
      ring = o.ring;
      fixed = o.fixed;
      known = o.known;
      loads = o.loads;
      fences = fences_read _ _ _ _ (e.read ++ word ∷ []) _ _ _ _ can.1.1 o.fences;
      acts = o.acts;
    }

pub words_store_stop : (k : Session) (c : Core) (command : Command) → IsSoundOfWords k c
    → Can (StoreStop command) c
    → IsSoundOfWords k (after (StoreStop command) c)
words_store_stop k c command o can =
    let d = c.driver in
    let e = c.device in
    let lay = e.layout in
    let cs = commands d.acts in
    let x : ℕ = word_address lay (read_count e) in
    let wide = long _ _ lay _ o.fixed in
    let spells = can.1.read_whole in
    let next = in_hand command o spells in
    let beside = fences_beside _ _ _ _ _ _ _ _ _
    (get_or-set_other c.words stop_word fence_word x 0 (λ q. omega (arith, q))) o.fences in
    record {
      session = o.session;
      order = order_take _ cs command _ _ _ _ _ next o.order;
      ring = ring_taken lay _ _ _ _ e.read _ x o.session.layout wide refl o.ring;
      fixed = fixed_set _ _ lay _ stop_word x (open_stop lay) o.fixed;
      known = known_take cs _ _ _ o.known;
      loads = o.loads;
      fences = fences_taken _ cs command _ _ _ _ _ _ next spells can.1.fence beside;
      acts = o.acts;
    }

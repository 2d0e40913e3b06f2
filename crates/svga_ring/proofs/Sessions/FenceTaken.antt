-- A FENCE that was sent, and nothing else, may be read, stored and taken.
use Rattle.std.proofs.Common.{◌≡◌, ℕ, ◌<◌, ◌^◌, List, [], ◌∷◌, ◌++◌, length, slice_index, refl, sym, ap, subst, ◌∙◌, arith}
use mathlib.Core.Bool.{true≢false}
use Rattle.svga_cmd.specs.Spelling.{Spells}
use Rattle.svga_cmd.specs.declared.command.Command.{Command}
use Rattle.svga_cmd.specs.declared.command.Command.TheVariants.{Fence}
use Rattle.svga_cmd.specs.declared.page.PageKey.{PageKey}
use Rattle.svga_cmd.specs.declared.session.Session.{Session}
use Rattle.svga_model.proofs.GrammarPrefixes.{same_length}
use Rattle.svga_model.proofs.GrammarSpelled.{spelled_some}
use Rattle.svga_model.specs.Acts.{Do}
use Rattle.svga_model.specs.Faults.{IsAdmissible, fault_of}
use Rattle.svga_model.specs.States.{State}
use Rattle.svga_model.specs.Touches.{Touches, has_page}
use Rattle.svga_ring.proofs.Steps.Each.{keeps_event}
use Rattle.svga_ring.proofs.Steps.Joining.{idle_held}
use Rattle.svga_ring.specs.Conditions.{Can, IsServed}
use Rattle.svga_ring.specs.Core.{Core, LoadCell, StoreFence, StoreStop, after, read_count}
use Rattle.svga_ring.specs.Layouts.{word_cell}
use Rattle.svga_ring.specs.Lists.{CanAll, after_all}
use Rattle.svga_ring.specs.Noting.{known_state}
use Rattle.svga_ring.specs.Sound.{IsSound}
use Rattle.svga_ring.specs.Views.{Apart}

-- a FENCE has no fault, and touches no page
pub fence_admissible : (s : State) (v : ℕ) → IsAdmissible s (Do (Fence v))
unfolding fault_of
fence_admissible s v = refl

pub fence_touches : (s : State) (v : ℕ) (key : PageKey) → Touches s (Do (Fence v)) key → ⊥
unfolding has_page
fence_touches s v key touched = true≢false (sym touched)

pub spells_fence : (v : ℕ) → v < 2 ^ 32 → Spells (Fence v) (30 ∷ v ∷ [])
spells_fence v low = record { well_formed = tt; words = refl }

-- one word of it spells no command
not_one : (v : ℕ) (command : Command) → v < 2 ^ 32 → Spells command (30 ∷ []) → ⊥
not_one v command low spells =
    omega (
      arith,
      same_length command (Fence v) (30 ∷ []) (30 ∷ v ∷ []) (v ∷ []) [] spells (spells_fence v low) refl,
    )

-- what is read of these words, where none is taken: the first, or both
first_is : (taken read ahead : List ℕ) (a b x : ℕ) → taken ≡ [] → read ≡ []
    → a ∷ b ∷ [] ≡ (taken ++ (read ++ x ∷ [])) ++ ahead → x ≡ a
first_is taken read ahead a b x none_taken none_read e =
    sym (ap (λ l. slice_index l 0) (e ∙ (λ i. (none_taken i ++ (none_read i ++ x ∷ [])) ++ ahead)))

second_is : (taken read ahead : List ℕ) (a b x : ℕ) → taken ≡ [] → read ≡ a ∷ []
    → a ∷ b ∷ [] ≡ (taken ++ (read ++ x ∷ [])) ++ ahead → x ≡ b
second_is taken read ahead a b x none_taken one_read e =
    sym (ap (λ l. slice_index l 1) (e ∙ (λ i. (none_taken i ++ (one_read i ++ x ∷ [])) ++ ahead)))

module _ (k : Session) (c : Core) (v : ℕ) (o : IsSound k c) (low : v < 2 ^ 32) (apart : c.seats ≡ Apart)
    (answered : c.driver.request.number ≡ c.device.answered) (sent : c.driver.sent ≡ 30 ∷ v ∷ [])
    (taken : c.device.taken ≡ []) (read : c.device.read ≡ []) (known : c.device.next ≡ 2) where
  can_first : Can LoadCell c
  can_first = (
    apart,
    (
      omega (arith, ap length taken, ap length read, known),
      λ command spells. omega (arith, ap length read, spelled_some command c.device.read spells),
    ),
  )

  abbrev c1 : Core
  c1 = after LoadCell c

  o1 : IsSound k c1
  o1 = keeps_event k LoadCell c o can_first

  abbrev x1 : ℕ
  x1 = slice_index c.words (word_cell c.device.layout (read_count c.device))

  read1 : c1.device.read ≡ 30 ∷ []
  read1 =
      let is = first_is c.device.taken c.device.read o1.of_words.order.ahead 30 v x1 taken read
      (sym sent ∙ o1.of_words.order.read_follows_sent) in
      λ i. read i ++ is i ∷ []

  can_second : Can LoadCell c1
  can_second = (
    apart,
    (
      omega (arith, ap length taken, ap length read1, known),
      λ command spells. not_one v command low (subst (Spells command) read1 spells),
    ),
  )

  abbrev c2 : Core
  c2 = after LoadCell c1

  o2 : IsSound k c2
  o2 = keeps_event k LoadCell c1 o1 can_second

  abbrev x2 : ℕ
  x2 = slice_index c.words (word_cell c.device.layout (read_count c1.device))

  read2 : c2.device.read ≡ 30 ∷ v ∷ []
  read2 =
      let is = second_is c.device.taken c1.device.read o2.of_words.order.ahead 30 v x2 taken read1
      (sym sent ∙ o2.of_words.order.read_follows_sent) in
      λ i. read1 i ++ is i ∷ []

  whole : Spells (Fence v) c2.device.read
  whole = subst (Spells (Fence v)) (sym read2) (spells_fence v low)

  abbrev c3 : Core
  c3 = after (StoreFence v) c2

  served : IsServed c3.device (Fence v)
  served = record {
    read_whole = whole;
    none_held = idle_held k c o read answered;
    given = λ key touched. absurd (fence_touches (known_state c3.device) v key touched);
    all_given = λ key touched. absurd (fence_touches (known_state c3.device) v key touched);
    fence = λ value e. refl;
  }

  pub can_take : CanAll (LoadCell ∷ LoadCell ∷ StoreFence v ∷ StoreStop (Fence v) ∷ []) c
  can_take = (can_first, (can_second, ((apart, whole), ((apart, served), tt))))

  pub all_is_taken : c.driver.sent
      ≡ (after_all (LoadCell ∷ LoadCell ∷ StoreFence v ∷ StoreStop (Fence v) ∷ []) c).device.taken
  all_is_taken = sent ∙ (λ i. sym taken i ++ sym read2 i)

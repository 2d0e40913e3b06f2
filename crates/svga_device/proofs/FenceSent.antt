-- The first FENCE of a session may be sent.
use Rattle.std.proofs.Common.{◌≡◌, ℕ, List, [], ◌∷◌, Bool, true, false, if◌then◌else◌, arith, refl, sym, ap, subst, ◌∙◌}
use Rattle.svga_cmd.specs.Spelling.{Spells}
use Rattle.svga_cmd.specs.declared.command.Command.TheVariants.{Fence}
use Rattle.svga_cmd.specs.declared.page.PageKey.{PageKey}
use Rattle.svga_cmd.specs.declared.session.Session.{Session}
use Rattle.svga_link.specs.ReserveAnswers.{IsBegun}
use Rattle.svga_link.specs.Reserving.{MaySend, goes_in_place, putting}
use Rattle.svga_link.specs.Told.{with_pending}
use Rattle.svga_link.specs.declared.reserving.Reserved.{Reserved}
use Rattle.svga_model.specs.Acts.{Act, Do}
use Rattle.svga_model.specs.Faults.{IsAdmissible, fault_of}
use Rattle.svga_model.specs.Runs.{run}
use Rattle.svga_model.specs.States.{State}
use Rattle.svga_model.specs.Touches.{Touches, has_page}
use Rattle.svga_ring.specs.Committed.{commands}
use Rattle.svga_ring.specs.Conditions.{IsNextFence, NoneOpen, first_state}
use Rattle.svga_ring.specs.Requests.{Request}
use Rattle.svga_ring.specs.Views.{DriverView, Loads, Terms, opening_driver}

-- what a reservation and its words leave of a driver's view
pub record Lasting : Type 0 where
  pub terms : Terms
  pub acts : List Act
  pub seen : ℕ
  pub request : Request
  pub replies : Loads
  pub stopped : Bool

abbrev pub lasting : DriverView → Lasting
lasting d = record { terms = d.terms; acts = d.acts; seen = d.seen; request = d.request; replies = d.reply_loads; stopped = d.stopped }

pub lasts_begun : (d left : DriverView) (bytes : ℕ) (r : Reserved) → IsBegun d bytes r left → lasting left ≡ lasting d
lasts_begun d left bytes r begun = ap lasting begun.left_is ∙ ap lasting begun.told.view

pub lasts_put : (d : DriverView) (bytes word : ℕ) → lasting (putting d bytes word) ≡ lasting d
lasts_put d bytes word = go (goes_in_place d bytes) where
  go : (b : Bool) → lasting (if b then with_pending d word else d) ≡ lasting d
  go true = refl
  go false = refl

fence_admissible : (s : State) (value : ℕ) → IsAdmissible s (Do (Fence value))
unfolding fault_of
fence_admissible s value = refl

fence_alone : (s : State) (value : ℕ) (key : PageKey) → Touches s (Do (Fence value)) key → ⊥
unfolding has_page
fence_alone s value key touched = cc

pub none_open_still : (d : DriverView) (session : Session) → lasting d ≡ lasting (opening_driver session) → NoneOpen d
none_open_still d session lasts = ap (λ (l : Lasting). l.request.number) lasts ∙ sym (ap (λ (l : Lasting). l.replies.last) lasts)

-- so the first fence may be sent
pub may_send : (d : DriverView) (words : List ℕ) (session : Session) → session.first ≡ 1 → lasting d ≡ lasting (opening_driver session)
    → words ≡ 30 ∷ 1 ∷ [] → MaySend d words (Fence 1)
may_send d words session first lasts are = record {
  spelled = subst (λ ws. Spells (Fence 1) ws) (sym are) (record { well_formed = tt; words = refl });
  none_open = none_open_still d session lasts;
  admissible = fence_admissible (run (first_state d) d.acts) 1;
  pages_lent = λ key touched. absurd (fence_alone (run (first_state d) d.acts) 1 key touched);
  fence = subst (λ (l : Lasting). IsNextFence l.terms.first (commands l.acts) l.seen (Fence 1)) (sym lasts)
      (subst (λ n. IsNextFence n [] 0 (Fence 1)) (sym first) (refl, omega arith));
}

-- What a command touches is a page of the device.
use Rattle.std.proofs.Common.{◌≡◌, ℕ, List, [], ◌∷◌, ◌++◌, All, Bool, true, false, ◌||◌, Some, None, IfSome, refl, sym, subst, ◌∙◌}
use Rattle.std.proofs.lemmas.List.Elements.{All-head, All-tail}
use Rattle.std.specs.Ordering.{eq_by_cmp}
use Rattle.svga_cmd.proofs.KeyLaws.{keys_exact, keys_total}
use Rattle.svga_cmd.proofs.Maps.{one_key}
use Rattle.svga_cmd.specs.Limits.{AreLimits}
use Rattle.svga_cmd.specs.Pages.{IsKey, key_cmp}
use Rattle.svga_cmd.specs.declared.command.Command.{Command}
use Rattle.svga_cmd.specs.declared.limits.Limits.{Limits}
use Rattle.svga_cmd.specs.declared.page.PageKey.{PageKey}
use Rattle.svga_model.proofs.TouchedKeys.{touched_keys}
use Rattle.svga_model.proofs.ValidRuns.{run_good}
use Rattle.svga_model.proofs.ValidStateLaws.{opening_good, step_limits}
use Rattle.svga_model.specs.Acts.{Act, Do, IsAct}
use Rattle.svga_model.specs.Regions.{Places}
use Rattle.svga_model.specs.Runs.{run}
use Rattle.svga_model.specs.States.{State, opening_state}
use Rattle.svga_model.specs.Touches.{Touches, has_page, touched_places}
use Rattle.svga_model.specs.ValidStates.{ArePlaces, IsState}
use Rattle.svga_ring.proofs.Acts.Append.{all_front}
use Rattle.svga_ring.proofs.Acts.Runs.{run_keeps}

-- A page of places of the device is one of the device.
more_key : (l : Limits) (other : PageKey) (places : Places) (key : PageKey) (same : Bool)
    → eq_by_cmp key_cmp key other ≡ same → IsKey l other → (same || has_page places key) ≡ true
    → (has_page places key ≡ true → IsKey l key) → IsKey l key
more_key l other places key true same is has rest =
    subst (IsKey l) (sym (one_key keys_total keys_exact key other same)) is
more_key l other places key false same is has rest = rest has

page_key : (l : Limits) (places : Places) (key : PageKey) → ArePlaces l places → has_page places key ≡ true
    → IsKey l key
unfolding has_page
page_key l [] key are has = absurd (cc has)
page_key l (None ∷ places) key are has =
    page_key l places key (All-tail (λ place. IfSome place (IsKey l)) None places are) has
page_key l (Some other ∷ places) key are has =
    let here : IsKey l other = All-head (λ place. IfSome place (IsKey l)) (Some other) places are in
    let rest : ArePlaces l places = All-tail (λ place. IfSome place (IsKey l)) (Some other) places are in
    more_key l other places key (eq_by_cmp key_cmp key other) refl here has (page_key l places key rest)

-- what a command touches where some of the acts were run is a page of the device
pub touched_key : (l : Limits) (first : ℕ) (front rest : List Act) (c : Command) (key : PageKey) → AreLimits l
    → All (IsAct l) (front ++ rest) → Touches (run (opening_state l first) front) (Do c) key → IsKey l key
touched_key l first front rest c key limits all touched =
    let s : State = run (opening_state l first) front in
    let good : IsState s =
    run_good (opening_state l first) front (opening_good l first limits)
    (all_front (IsAct l) front rest all) in
    let is : IsKey s.kept.limits key =
    page_key s.kept.limits (touched_places s.kept c) key (touched_keys s c good) touched in
    let same : s.kept.limits ≡ l =
    run_keeps (λ (t : State). t.kept.limits ≡ l) (λ t act e. step_limits t act ∙ e) (opening_state l first)
    front
    refl in
    subst (λ m. IsKey m key) same is

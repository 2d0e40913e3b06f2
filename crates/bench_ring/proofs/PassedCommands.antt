-- The commands that are passed may be sent and taken at any time.
use Rattle.std.proofs.Common.{subst, ◌≡◌, ℕ, ◌+◌, ◌<◌, List, [], ◌∷◌, ◌++◌, length, length-append, refl, sym, ap, ◌∙◌, arith, take, drop, take-append-drop, append-nil}
use Rattle.std.proofs.lemmas.List.{length-take-le}
use Rattle.std.proofs.lemmas.List.Elements.{filter_map-append}
use Rattle.svga_cmd.specs.Spelling.{Spells}
use Rattle.svga_cmd.specs.declared.command.Command.{Command}
use Rattle.svga_cmd.specs.declared.command.Command.TheVariants.{DefineGmr2, DefineGmrfb, Fence}
use Rattle.svga_cmd.specs.declared.format.Format.TheVariants.{Bgrx32}
use Rattle.svga_cmd.specs.declared.page.PageKey.{PageKey}
use Rattle.svga_model.proofs.GrammarPrefixes.{same_length}
use Rattle.svga_model.proofs.ValidRegions.{place_count-empty}
use Rattle.svga_model.proofs.WorkedRegions.{define_admissible}
use Rattle.svga_model.specs.Acts.{Act, Do}
use Rattle.svga_model.specs.Faults.{IsAdmissible, fault_of}
use Rattle.svga_model.specs.Fences.{fence_value, fences}
use Rattle.svga_model.specs.Runs.{run}
use Rattle.svga_model.specs.States.{State}
use Rattle.svga_model.specs.Touches.{Touches, has_page}
use Rattle.svga_ring.proofs.Words.NextCommand.{commands-append}
use Rattle.svga_ring.specs.Committed.{commands}
use Rattle.svga_ring.specs.Conditions.{first_state}
use Rattle.svga_ring.specs.Views.{DriverView}

-- a GMRFB in region 1
abbrev pub gmrfb : ℕ → Command
gmrfb n = DefineGmrfb (record { region = 1; offset = n; pitch = 16; format = Bgrx32 })

pub gmrfb_admissible : (s : State) (n : ℕ) → IsAdmissible s (Do (gmrfb n))
unfolding fault_of
gmrfb_admissible s n = refl

pub fence_admissible : (s : State) (value : ℕ) → IsAdmissible s (Do (Fence value))
unfolding fault_of
fence_admissible s value = refl

-- a region of one place is admissible as the first act
pub gmr2_admissible : (d : DriverView) → d.acts ≡ []
    → IsAdmissible (run (first_state d) d.acts) (Do (DefineGmr2 1 1))
gmr2_admissible d none =
    subst (λ (acts : List Act). IsAdmissible (run (first_state d) acts) (Do (DefineGmr2 1 1))) (sym none)
    (define_admissible (first_state d) 1 1 (omega arith) (omega (arith, place_count-empty)))

pub gmr2_alone : (s : State) (key : PageKey) → Touches s (Do (DefineGmr2 1 1)) key → ⊥
unfolding has_page
gmr2_alone s key touched = cc

pub gmr2_no_fence : (value : ℕ) → DefineGmr2 1 1 ≡ Fence value → ⊥
gmr2_no_fence value same = cc

pub gmrfb_alone : (s : State) (n : ℕ) (key : PageKey) → Touches s (Do (gmrfb n)) key → ⊥
unfolding has_page
gmrfb_alone s n key touched = cc

pub fence_alone : (s : State) (value : ℕ) (key : PageKey) → Touches s (Do (Fence value)) key → ⊥
unfolding has_page
fence_alone s value key touched = cc

-- the first words of a command spell none
pub part_spells_none : (c d : Command) (words : List ℕ) (i : ℕ) → Spells c words → i < length words → Spells d (take i words) → ⊥
part_spells_none c d words i spells less part =
    let rest : take i words ++ drop i words ≡ words ++ [] = take-append-drop i words ∙ sym (append-nil words) in
    let long = length-take-le i words (omega (arith, less)) in
    let same = same_length d c (take i words) words (drop i words) [] part spells rest in
    omega (arith, same, long, less)

-- one fence more, or none
pub fences_more : (acts : List Act) (value : ℕ) → length (fences (commands (acts ++ Do (Fence value) ∷ []))) ≡ length (fences (commands acts)) + 1
fences_more acts value =
    ap (λ (cs : List Command). length (fences cs)) (commands-append acts (Do (Fence value) ∷ []))
    ∙ ap length (filter_map-append fence_value (commands acts) (Fence value ∷ []))
    ∙ length-append (fences (commands acts)) (value ∷ [])

pub fences_stay : (acts : List Act) (n : ℕ) → length (fences (commands (acts ++ Do (gmrfb n) ∷ []))) ≡ length (fences (commands acts))
fences_stay acts n =
    ap (λ (cs : List Command). length (fences cs)) (commands-append acts (Do (gmrfb n) ∷ []))
    ∙ ap length (filter_map-append fence_value (commands acts) (gmrfb n ∷ []))
    ∙ ap length (append-nil (fences (commands acts)))

pub gmrfb_no_fence : (n value : ℕ) → gmrfb n ≡ Fence value → ⊥
gmrfb_no_fence n value same = cc

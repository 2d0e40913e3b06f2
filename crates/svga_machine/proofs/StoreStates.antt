-- A machine with all pages of its device beside it: what it answers to a command leaves it so.
use Rattle.std.proofs.Common.{◌≡◌, ℕ, refl, sym, subst, ◌∙◌, List, None, Result, Ok, Err, OnOk, OnErr}
use Rattle.std.specs.FinMap as map
use Rattle.std.specs.Result.{result_err}
use Rattle.svga_cmd.proofs.MemoryLaws.{zeros-IsMemoryOf}
use Rattle.svga_cmd.specs.Limits.{AreLimits}
use Rattle.svga_cmd.specs.Pages.{IsKey, IsPage, IsZeroMemoryOf, Memory}
use Rattle.svga_cmd.specs.WellFormed.{IsWellFormed}
use Rattle.svga_cmd.specs.declared.command.Command.{Command}
use Rattle.svga_cmd.specs.declared.fault.Fault.{Fault}
use Rattle.svga_cmd.specs.declared.limits.Limits.{Limits}
use Rattle.svga_cmd.specs.declared.page.PageKey.{PageKey}
use Rattle.svga_model.proofs.PutLaws.{with_page-has}
use Rattle.svga_model.proofs.TouchedKeys.{touched_keys}
use Rattle.svga_model.proofs.ValidMemory.{pages_put, same_keys}
use Rattle.svga_model.proofs.ValidStateLaws.{opening_good, step_good, step_keys, step_limits}
use Rattle.svga_model.specs.Acts.{Do}
use Rattle.svga_model.specs.Faults.{fault_of}
use Rattle.svga_model.specs.States.{State, opening_kept}
use Rattle.svga_model.specs.Steps.{step}
use Rattle.svga_model.specs.Touches.{touched_places}
use Rattle.svga_model.specs.ValidStates.{IsState}
use Rattle.svga_machine.specs.MachineSet.{MachineSet, state_with}
use Rattle.svga_machine.specs.Touched.{HasTouched}
use Rattle.svga_machine.proofs.StoreLaws.{HasAll, has_pages}

-- a valid state of a device with these limits, with all of its pages
abbrev pub IsServed : Limits → State → Type 0
IsServed l s = (s.kept.limits ≡ l) × IsState s × HasAll l s.memory

-- it serves every command
pub serves : (l : Limits) (s : State) (c : Command) → IsServed l s → HasTouched s.kept s.memory c
serves l s c is = λ admitted. has_pages s.kept.limits s.memory (touched_places s.kept c)
    (subst (λ limits. HasAll limits s.memory) (sym is.0) is.2) (touched_keys s c is.1)

-- a command that isn't refused leaves such a state
served_step : (l : Limits) (s : State) (c : Command) → IsServed l s → IsWellFormed c → fault_of s (Do c) ≡ None
    → IsServed l (step s (Do c))
served_step l s c is well none = (
  step_limits s (Do c) ∙ is.0,
  step_good s (Do c) is.1 well none,
  λ key low. (step_keys s (Do c) key).0 (is.2 key low),
)

-- so does what a machine answers to a command
pub served_after : {E : Type 0} (l : Limits) (old new : MachineSet) (before after : Memory) (c : Command)
    (r : Result E Fault)
    → IsServed l (state_with old before) → IsWellFormed c → result_err r ≡ fault_of (state_with old before) (Do c)
    → OnOk r (state_with new after ≡ step (state_with old before) (Do c)) → OnErr r ((new ≡ old) × (after ≡ before))
    → IsServed l (state_with new after)
served_after l old new before after c (Ok e) is well fault ok err =
    subst (IsServed l) (sym ok) (served_step l (state_with old before) c is well (sym fault))
served_after l old new before after c (Err f) is well fault ok err =
    subst (IsServed l) (λ i. state_with (sym err.0 i) (sym err.1 i)) is

-- a machine at its opening, and pages of zeros
pub served_first : (l : Limits) (m : MachineSet) (memory : Memory) → AreLimits l → m.kept ≡ opening_kept l 1
    → IsZeroMemoryOf l memory → IsServed l (state_with m memory)
served_first l m memory limits is zeros =
    subst (λ k. IsServed l (record { kept = k; memory = memory })) (sym is) (
      refl,
      record {
        kept = (opening_good l 1 limits).kept;
        memory = record { keys = λ key. (zeros.keys key).0; pages = (zeros-IsMemoryOf l memory zeros).pages };
      },
      λ key. (zeros.keys key).1,
    )

-- a page of the device with other bytes
pub served_put : (l : Limits) (m : MachineSet) (memory : Memory) (key : PageKey) (bytes : List ℕ)
    → IsServed l (state_with m memory) → IsKey l key → IsPage bytes
    → IsServed l (state_with m (map.insert memory key bytes))
served_put l m memory key bytes is low page =
    subst (λ after. IsServed l (state_with m after)) (with_page-has memory key bytes (is.2 key low)) (
      is.0,
      record {
        kept = is.1.kept;
        memory = pages_put m.kept.limits memory key bytes is.1.memory (λ has. page);
      },
      λ q of. same_keys memory key bytes q ∙ is.2 q of,
    )

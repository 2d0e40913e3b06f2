-- What contracts see of a display.
use Rattle.std.specs.Prelude.{◌≡◌, refl}
use Rattle.std.specs.Coded.{Coded, code_by, coded×, coded_ℕ, coded_list}
use Rattle.std.specs.FinMap as map
use Rattle.svga_cmd.specs.Pages.{HasPage, IsKey, Memory}
use Rattle.svga_cmd.specs.contracts.page.PageKey as key
use Rattle.svga_cmd.specs.declared.limits.Limits.{Limits}
use Rattle.svga_cmd.specs.declared.page.PageKey.{PageKey}
use Rattle.svga_model.specs.States.{Kept, State}
use Rattle.svga_model.specs.ValidStates.{IsState}
use Rattle.svga_machine.specs.MachineSet.{coded_kept}

-- a valid state of a device with these limits, with all of its pages
abbrev pub IsWholeState : Limits → State → Type 0
IsWholeState l s = (s.kept.limits ≡ l) × IsState s × ((key : PageKey) → IsKey l key → HasPage s.memory key)

abbrev pub coded_state : Coded State
coded_state = code_by (Kept × Memory) (coded× coded_kept (map.code key.the_row.coded (coded_list coded_ℕ)))
    (λ s. (s.kept, s.memory)) (λ p. record { kept = p.0; memory = p.1 }) (λ _. refl)

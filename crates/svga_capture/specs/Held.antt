-- What contracts see of a capture: what its bytes hold.
use Rattle.std.specs.Prelude.{ℕ, List, refl}
use Rattle.std.specs.Coded.{Coded, code_by, coded×, coded_ℕ, coded_list}
use Rattle.svga_cmd.specs.contracts.limits.Limits as limits_row
use Rattle.svga_cmd.specs.declared.limits.Limits.{Limits}
use Rattle.svga_machine.specs.Displays.{coded_state}
use Rattle.svga_model.specs.Captures.{Capture}
use Rattle.svga_model.specs.States.{State}

abbrev pub coded_capture : Coded Capture
coded_capture =
    code_by (ℕ × (ℕ × (Limits × (State × List ℕ))))
    (coded× coded_ℕ (coded× coded_ℕ
    (coded× limits_row.the_row.coded (coded× coded_state (coded_list coded_ℕ)))))
    (λ c. (c.min, (c.max, (c.limits, (c.opening, c.words))))) (λ p. record {
      min = p.0;
      max = p.1.0;
      limits = p.1.1.0;
      opening = p.1.1.1.0;
      words = p.1.1.1.1;
    }) (λ _. refl)

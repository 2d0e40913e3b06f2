-- How the act that a script's meaning refuses is told.
use Rattle.std.specs.Prelude.{◌≡◌, Option, Some, None}
use Rattle.svga_model.specs.ClientFaults.{client_key, client_number}
use Rattle.svga_model.specs.Meanings.{Refusal as Refused}
use Rattle.svga_pair.specs.declared.raced.Refusal.{Refusal}

-- by its line, the number of its fault, and the page that the fault is about
abbrev pub IsTold : Option Refusal → Option Refused → Type 0
IsTold None None = Unit {0}
IsTold (Some r) (Some f) =
    (r.line ≡ f.line) × (r.number ≡ client_number f.fault) × (r.key ≡ client_key f.fault)
IsTold r f = ⊥

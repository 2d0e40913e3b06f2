-- How far the listing of words was written.
use Rattle.std.specs.Prelude.{ℕ, List, Option, Result, MatchResult}
use Rattle.svga.specs.Texts.{listing}
use Rattle.svga_cmd.specs.declared.command.Command.{Command}
use Rattle.svga_io.specs.Growing.{Grows, GrowsByPrefix}
use Rattle.svga_io.specs.declared.fault.WriteFault.{WriteFault}
use Rattle.svga_model.specs.Endings.{IsFront, StandAtFront}

-- the lines of the commands at the front of the words were written, or a prefix of those of some of them
abbrev pub Lists : {K : Type 0} → (K → Option (List ℕ)) → (K → ℕ) → K → K → List ℕ
    → Result (Unit {0}) WriteFault → Type 0
Lists held faults before now ws result = MatchResult result
    (λ _. (cs : List Command) × IsFront ws cs × Grows held faults before now (listing 0 cs))
    (λ _. (cs : List Command) × StandAtFront cs ws × GrowsByPrefix held faults before now (listing 0 cs))

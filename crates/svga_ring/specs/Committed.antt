-- What the acts of a session say of its commands.
use Rattle.std.specs.Prelude.{ℕ, zero, suc, ◌+◌, List, [], ◌∷◌, take, length, Bool, false, true, not, ◌&&◌, if◌then◌else◌}
use Rattle.svga_cmd.specs.declared.command.Command.{Command}
use Rattle.svga_cmd.specs.declared.command.Command.TheVariants.{Fence}
use Rattle.svga_model.specs.Acts.{Act, Do, Put, Chain}
use Rattle.svga_model.specs.Fences.{fences}

-- the commands among the acts, in order
abbrev pub commands : List Act → List Command
commands [] = []
commands (Do c ∷ acts) = c ∷ commands acts
commands (Put key bytes ∷ acts) = commands acts
commands (Chain id first ∷ acts) = commands acts

-- the acts before command n, or all of them where there are fewer commands
abbrev pub before : ℕ → List Act → List Act
before n [] = []
before zero (Do c ∷ acts) = []
before (suc n) (Do c ∷ acts) = Do c ∷ before n acts
before n (Put key bytes ∷ acts) = Put key bytes ∷ before n acts
before n (Chain id first ∷ acts) = Chain id first ∷ before n acts

-- the acts behind command n
abbrev pub behind : ℕ → List Act → List Act
behind n [] = []
behind zero (Do c ∷ acts) = acts
behind (suc n) (Do c ∷ acts) = behind n acts
behind n (Put key bytes ∷ acts) = behind n acts
behind n (Chain id first ∷ acts) = behind n acts

-- the Puts among the acts
abbrev pub puts_of : List Act → List Act
puts_of [] = []
puts_of (Do c ∷ acts) = puts_of acts
puts_of (Put key bytes ∷ acts) = Put key bytes ∷ puts_of acts
puts_of (Chain id first ∷ acts) = puts_of acts

abbrev pub has_chain : List Act → Bool
has_chain [] = false
has_chain (Do c ∷ acts) = has_chain acts
has_chain (Put key bytes ∷ acts) = has_chain acts
has_chain (Chain id first ∷ acts) = true

-- What is settled once n commands are done: the acts before command n, and the Puts behind. While a chain is
-- out that is asked for, it is the last one, and is left out with what stands behind it but for Puts.
abbrev pub settled : ℕ → Bool → List Act → List Act
settled n out [] = []
settled zero out (Do c ∷ acts) = puts_of acts
settled (suc n) out (Do c ∷ acts) = Do c ∷ settled n out acts
settled n out (Put key bytes ∷ acts) = Put key bytes ∷ settled n out acts
settled n out (Chain id first ∷ acts) = if out && not (has_chain acts) then puts_of acts else Chain id first
    ∷ settled n out acts

-- the acts without the commands from number n on
abbrev pub without_commands_from : ℕ → List Act → List Act
without_commands_from n [] = []
without_commands_from zero (Do c ∷ acts) = without_commands_from zero acts
without_commands_from (suc n) (Do c ∷ acts) = Do c ∷ without_commands_from n acts
without_commands_from n (Put key bytes ∷ acts) = Put key bytes ∷ without_commands_from n acts
without_commands_from n (Chain id first ∷ acts) = Chain id first ∷ without_commands_from n acts

-- how many fences have passed where so many commands are done: theirs, and the one in hand where its number
-- is stored
abbrev pub fences_passed : List Command → ℕ → Bool → ℕ
fences_passed cs done stored = length (fences (take done cs)) + (if stored then 1 else 0)

-- how many commands stand before fence j
abbrev pub before_fence : ℕ → List Command → ℕ
before_fence j [] = 0
before_fence zero (Fence value ∷ cs) = 0
before_fence (suc j) (Fence value ∷ cs) = suc (before_fence j cs)
before_fence j (c ∷ cs) = suc (before_fence j cs)

-- The fault of an act, and when there is none.
use Rattle.std.proofs.Common.{◌≡◌, refl, true, Option, Some, None, is_none}
use Rattle.svga_model.specs.Acts.{Act}
use Rattle.svga_model.specs.Faults.{act_tests, fault_of}
use Rattle.svga_model.specs.Standing.{least_standing}
use Rattle.svga_model.specs.States.{State}

-- the fault is the least of the act's tests
pub fault_is : (s : State) (act : Act) → fault_of s act ≡ least_standing (act_tests s act)
unfolding fault_of
fault_is s act = refl

-- what the test for a fault says of it
pub none_is : {X : Type 0} (o : Option X) → is_none o ≡ true → o ≡ None
none_is None e = refl
none_is (Some x) e = cc

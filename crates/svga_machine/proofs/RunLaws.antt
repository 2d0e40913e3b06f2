-- What a machine's judgement of a command, by its shape, says of its state.
use Rattle.std.proofs.Common.{◌≡◌, ap, refl, sym, ◌∙◌, None, Some}
use Rattle.std.specs.Prelude.{Result, Ok, Err, IsErrAnd, OnErr, OnOk}
use Rattle.std.specs.Result.{result_err}
use Rattle.svga_cmd.specs.declared.command.Command.{Command}
use Rattle.svga_cmd.specs.declared.fault.Fault.{Fault}
use Rattle.svga_model.proofs.ActLaws.{fault_is}
use Rattle.svga_model.proofs.ShapeLaws.{bytes_add, judged_whole, told_stays}
use Rattle.svga_model.specs.Acts.{Do}
use Rattle.svga_model.specs.Faults.{ReadsNumbers, act_tests, fault_of, shape_tests}
use Rattle.svga_model.specs.Standing.{least_standing}
use Rattle.svga_model.specs.States.{Shape, State, shape_of}

-- a command that is admitted stays so, said of an equal shape and command
pub admitted_as : (σ τ : Shape) (c d : Command) → σ ≡ τ → c ≡ d → None ≡ least_standing (shape_tests σ c) → least_standing (shape_tests τ d) ≡ None
admitted_as σ τ c d same is none = (λ i. least_standing (shape_tests (sym same i) (sym is i))) ∙ sym none

-- one that reads no numbers then has no fault
pub admitted_none : (s : State) (c : Command) (σ : Shape) → σ ≡ shape_of s.kept → None ≡ least_standing (shape_tests σ c) → (ReadsNumbers c → ⊥) → None ≡ fault_of s (Do c)
admitted_none s c σ same none named = sym (fault_is s (Do c) ∙ judged_whole s c named ∙ admitted_as σ (shape_of s.kept) c c same refl none)

-- a fault that is told is the command's
pub refused_is : (s : State) (c : Command) (σ : Shape) (f : Fault) → σ ≡ shape_of s.kept → Some f ≡ least_standing (shape_tests σ c) → Some f ≡ fault_of s (Do c)
refused_is s c σ f same told =
    sym (fault_is s (Do c) ∙ told_stays (least_standing (shape_tests (shape_of s.kept) c)) (least_standing (act_tests s (Do c))) f (bytes_add s c)
    (ap (λ τ. least_standing (shape_tests τ c)) (sym same) ∙ sym told))

-- the fault of an answer that is one
pub given_fault : {A : Type 0} (r : Result A Fault) (f : Fault) → IsErrAnd r (λ g. g ≡ f) → result_err r ≡ Some f
given_fault (Ok a) f is = absurd is
given_fault (Err g) f is = ap Some is

-- such an answer isn't Ok
pub not_ok : {A : Type 0} (P : Type 0) (r : Result A Fault) (f : Fault) → IsErrAnd r (λ g. g ≡ f) → OnOk r P
not_ok P (Ok a) f is = absurd is
not_ok P (Err g) f is = tt

-- what holds in any case holds on an answer that isn't Ok
pub on_err_also : {A : Type 0} (P : Type 0) (r : Result A Fault) → P → OnErr r P
on_err_also P (Ok a) holds = tt
on_err_also P (Err g) holds = holds

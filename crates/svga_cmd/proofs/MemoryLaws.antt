-- Memories where no byte was written yet.
use Rattle.std.proofs.Common.{◌≡◌, ◌<◌, ℕ, List, replicate, Option, Some, None, IsSome, IfSome, refl, sym, subst, ◌∙◌, arith}
use Rattle.std.proofs.lemmas.List.{length-replicate}
use Rattle.std.proofs.lemmas.List.Elements.{All-replicate}
use Rattle.svga_cmd.proofs.KeyLaws.{keys_total, keys_exact}
use Rattle.svga_cmd.proofs.Maps.{same_gets}
use Rattle.svga_cmd.specs.Pages.{IsMemoryOf, IsPage, IsZeroMemoryOf, Memory}
use Rattle.svga_cmd.specs.declared.constants.TheConstants.{PAGE_SIZE}
use Rattle.svga_cmd.specs.declared.limits.Limits.{Limits}

all_zeros : IsPage (replicate PAGE_SIZE 0)
all_zeros = record { length_is = length-replicate {A = ℕ} PAGE_SIZE 0; each = All-replicate (λ byte. byte < 256) PAGE_SIZE 0 (omega arith) }

is_page : (page : Option (List ℕ)) → IfSome page (λ bytes. bytes ≡ replicate PAGE_SIZE 0) → IfSome page IsPage
is_page None is = tt
is_page (Some bytes) is = subst IsPage (sym is) all_zeros

-- they are memories of the device
pub zeros-IsMemoryOf : (l : Limits) (m : Memory) → IsZeroMemoryOf l m → IsMemoryOf l m
zeros-IsMemoryOf l m zero = record { keys = zero.keys; pages = λ key. is_page _ (zero.zeros key) }

one_page : (bytes : List ℕ) (a b : Option (List ℕ)) → (IsSome a → IsSome b) → (IsSome b → IsSome a) → IfSome a (λ x. x ≡ bytes) → IfSome b (λ x. x ≡ bytes) → a ≡ b
one_page bytes None None there back is also = refl
one_page bytes None (Some y) there back is also = cc (back refl)
one_page bytes (Some x) None there back is also = cc (there refl)
one_page bytes (Some x) (Some y) there back is also = λ i. Some ((is ∙ sym also) i)

-- there is one for each device
pub one_zero_memory : (l : Limits) (m n : Memory) → IsZeroMemoryOf l m → IsZeroMemoryOf l n → m ≡ n
one_zero_memory l m n a b = same_gets keys_total keys_exact m n (λ key. one_page (replicate PAGE_SIZE 0) _ _ (λ h. (b.keys key).1 ((a.keys key).0 h)) (λ h. (a.keys key).1 ((b.keys key).0 h)) (a.zeros key) (b.zeros key))

-- Spellings in front of words: where two lists of words are one, the command at their front is one.
use Rattle.std.proofs.Common.{◌≡◌, ℕ, ◌≤◌, List, [], ◌∷◌, ◌++◌, length, refl, ap, sym, subst, ◌∙◌, arith, length-append, append-nil, append_assoc}
use Rattle.svga_cmd.proofs.SpelledLaws.{same_command}
use Rattle.svga_cmd.specs.Spelling.{Spells}
use Rattle.svga_cmd.specs.declared.command.Command.{Command}
use Rattle.svga_model.specs.Lengths.{whole_length}
use Rattle.svga_model.specs.Sentences.{IsCommandBegun}
use Rattle.svga_model.proofs.GrammarSpelled.{whole_length-spelled}

-- the shorter of two fronts of one list is a front of the longer
pub shorter_front : (xs ys a b : List ℕ) → xs ++ a ≡ ys ++ b → length xs ≤ length ys → (more : List ℕ) × (ys ≡ xs ++ more) × (a ≡ more ++ b)
shorter_front [] ys a b e l = (ys, refl, e)
shorter_front (x ∷ xs) [] a b e l = absurd (omega arith)
shorter_front (x ∷ xs) (y ∷ ys) a b e l =
    let tails : xs ++ a ≡ ys ++ b = cc in
    let heads : x ≡ y = cc in
    let shorter = shorter_front xs ys a b tails (omega arith) in
    (shorter.0, (λ i. sym heads i ∷ shorter.1 i), shorter.2)

-- spellings at the front of one list have one length
pub same_length : (c d : Command) (xs ys a b : List ℕ) → Spells c xs → Spells d ys → xs ++ a ≡ ys ++ b → length xs ≡ length ys
same_length c d xs ys a b s t e = sym (whole_length-spelled c xs a s) ∙ ap whole_length e ∙ whole_length-spelled d ys b t

pub same_front : (xs ys a b : List ℕ) → xs ++ a ≡ ys ++ b → length xs ≡ length ys → (xs ≡ ys) × (a ≡ b)
same_front [] [] a b e l = (refl, e)
same_front [] (y ∷ ys) a b e l = absurd (omega arith)
same_front (x ∷ xs) [] a b e l = absurd (omega arith)
same_front (x ∷ xs) (y ∷ ys) a b e l =
    let tails : xs ++ a ≡ ys ++ b = cc in
    let heads : x ≡ y = cc in
    let same = same_front xs ys a b tails (omega arith) in
    ((λ i. heads i ∷ same.0 i), same.1)

-- the command at the front, and what is behind it
pub same_first : (c d : Command) (xs ys a b : List ℕ) → Spells c xs → Spells d ys → xs ++ a ≡ ys ++ b → (c ≡ d) × (a ≡ b)
same_first c d xs ys a b s t e =
    let same = same_front xs ys a b e (same_length c d xs ys a b s t e) in
    (same_command c d xs s (subst (λ w. Spells d w) (sym same.0) t), same.1)

-- words that have begun have no command at their front, whatever follows them
pub begun_has_none : (ws rest ys a : List ℕ) (d : Command) → IsCommandBegun ws → Spells d ys → ws ++ rest ≡ ys ++ a → length ys ≤ length ws → ⊥
begun_has_none ws rest ys a d b t e l =
    let front = shorter_front ys ws a rest (sym e) l in
    let longer : (ws ++ b.1 ∷ b.2) ≡ ys ++ (front.0 ++ b.1 ∷ b.2) = ap (λ w. w ++ b.1 ∷ b.2) front.1 ∙ append_assoc ys front.0 (b.1 ∷ b.2) in
    let same : length (ws ++ b.1 ∷ b.2) ≡ length ys = same_length b.0 d (ws ++ b.1 ∷ b.2) ys [] (front.0 ++ b.1 ∷ b.2) b.3 t (append-nil (ws ++ b.1 ∷ b.2) ∙ longer) in
    omega (arith, same, length-append ws (b.1 ∷ b.2))

-- of accepted words, those that spell a command haven't only begun one
pub spelled_not_begun : (c : Command) (ws : List ℕ) → Spells c ws → IsCommandBegun ws → ⊥
spelled_not_begun c ws s b = begun_has_none ws [] ws [] c b s refl (omega arith)

-- What a decoder's answers say of all words so far.
use Rattle.std.proofs.Common.{◌≡◌, ℕ, ◌-◌, List, [], ◌∷◌, ◌++◌, length, slice_index, Some, refl, ap, sym, subst, ◌∙◌, arith, length-append}
use Rattle.svga_cmd.specs.declared.cause.Cause.{Cause}
use Rattle.svga_cmd.specs.declared.command.Command.{Command}
use Rattle.svga_decode.specs.Answers.{IsFedAnswer, IsLastRefused}
use Rattle.svga_decode.specs.declared.answer.Fed.{Fed}
use Rattle.svga_decode.specs.declared.answer.Fed.TheVariants.{More, Whole, Refused}
use Rattle.svga_model.specs.Endings as model
use Rattle.svga_cmd.specs.declared.ending.Ending.TheVariants as ending
use Rattle.svga_model.specs.Progress.{HasCome}
use Rattle.svga_model.specs.RefusedWords.{refusal}
use Rattle.svga_model.proofs.GrammarBadWords.{verdict}
use Rattle.svga_model.proofs.GrammarEndings.{refused_ending}
use Rattle.svga_model.proofs.GrammarPrefixes.{spelled_not_begun}
use Rattle.svga_model.proofs.GrammarSpelled.{begun_begins, spelled_begins}

last_verdict : (front : List ℕ) (word : ℕ) (cause : Cause) → IsLastRefused (front ++ word ∷ []) cause → verdict front word ≡ Some cause
last_verdict front word cause e = subst (λ n. refusal n (slice_index (front ++ word ∷ []) 0) (slice_index (front ++ word ∷ []) n) ≡ Some cause)
    (let n : length (front ++ word ∷ []) - 1 ≡ length front = omega (arith, length-append front (word ∷ [])) in n) e

-- the word is refused, and so the words end there, whatever follows
pub fed_refused : (ws : List ℕ) (cs : List Command) (front : List ℕ) (word : ℕ) (rest : List ℕ) (cause : Cause) → HasCome ws cs front → IsFedAnswer (Refused cause) (front ++ word ∷ [])
    → model.IsEnding (ws ++ word ∷ rest) cs (ending.Refused (length ws) cause)
fed_refused ws cs front word rest cause come answer = refused_ending ws cs front word rest cause come answer.0 (last_verdict front word cause answer.1)

-- the table gives a word one cause
same_cause : (ws : List ℕ) (c d : Cause) → IsLastRefused ws c → IsLastRefused ws d → c ≡ d
same_cause ws c d a b = let some : Some c ≡ Some d = sym a ∙ b in cc

-- words have one right answer
pub same_answer : (ws : List ℕ) (fed other : Fed) → IsFedAnswer fed ws → IsFedAnswer other ws → fed ≡ other
same_answer ws More More a b = refl
same_answer ws More Whole a b = absurd (spelled_not_begun b.0 ws b.1 a)
same_answer ws More (Refused d) a b = absurd (b.0 (begun_begins ws a))
same_answer ws Whole More a b = absurd (spelled_not_begun a.0 ws a.1 b)
same_answer ws Whole Whole a b = refl
same_answer ws Whole (Refused d) a b = absurd (b.0 (spelled_begins a.0 ws a.1))
same_answer ws (Refused c) More a b = absurd (a.0 (begun_begins ws b))
same_answer ws (Refused c) Whole a b = absurd (a.0 (spelled_begins b.0 ws b.1))
same_answer ws (Refused c) (Refused d) a b = ap (λ c. Refused c) (same_cause ws c d a.1 b.1)

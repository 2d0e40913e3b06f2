-- Bytes that are written piece by piece.
use Rattle.std.proofs.Common.{◌≡◌, ℕ, ◌-◌, List, ◌++◌, length, take, drop, None, Some, sym, ◌∙◌, ap, arith, append_assoc, append-nil, take-append-drop, length-drop}
use Rattle.std.proofs.lemmas.List.{take_all}
use Rattle.std.specs.Prelude.{Option}
use Rattle.std.specs.Io.KnownBytes.{Keeps}
use Rattle.svga_io.specs.Growing.{AppendsPrefix}

-- the first n of the rest are done too
pub one_piece_more : (all done rest : List ℕ) (n len : ℕ) → len ≡ length rest → all ≡ done ++ rest → all ≡ (done ++ take n rest) ++ take (len - n) (drop n rest)
one_piece_more all done rest n len is whole =
    whole
    ∙ ap (λ (l : List ℕ). done ++ l) (sym (take-append-drop n rest))
    ∙ sym (append_assoc done (take n rest) (drop n rest))
    ∙ ap (λ (l : List ℕ). (done ++ take n rest) ++ l) (sym (take_all (len - n) (drop n rest) (omega (arith, is, length-drop n rest))))

-- what is kept grows by nothing
pub AppendsPrefix-kept : (before now : Option (List ℕ)) (bytes : List ℕ) → Keeps before now → AppendsPrefix before now bytes
AppendsPrefix-kept None now bytes kept = (0, omega arith, tt)
AppendsPrefix-kept (Some xs) None bytes kept = absurd kept
AppendsPrefix-kept (Some xs) (Some ys) bytes kept = (0, omega arith, kept ∙ sym (append-nil xs))

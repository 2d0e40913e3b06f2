-- What is read is the next of the commands that were sent.
use Rattle.std.proofs.Common.{◌≡◌, ℕ, zero, suc, ◌<◌, ◌≤◌, List, [], ◌∷◌, ◌++◌, length, take, All, Some, refl, sym, ap, ◌∙◌, arith, append_assoc, append-nil, length-append}
use Rattle.std.proofs.lemmas.List.{append_cancel_left}
use Rattle.std.proofs.lemmas.List.Elements.{All-head, All-tail}
use Rattle.std.specs.List.{slice_get}
use Rattle.svga_cmd.specs.Spelling.{Spells, spelling}
use Rattle.svga_cmd.specs.WellFormed.{IsWellFormed}
use Rattle.svga_cmd.specs.declared.command.Command.{Command}
use Rattle.svga_model.proofs.GrammarPrefixes.{same_first}
use Rattle.svga_model.proofs.GrammarSpelled.{spelled_some}
use Rattle.svga_model.specs.Acts.{Act, IsAct, Do}
use Rattle.svga_model.specs.Sentences.{spelling_all}
use Rattle.svga_cmd.specs.declared.limits.Limits.{Limits}
use Rattle.svga_ring.specs.Committed.{commands}

-- the spelling of the first command that is left out, behind those before it
pub record IsNext (cs : List Command) (n : ℕ) (c : Command) (ws : List ℕ) : Type 0 where
  pub there : suc n ≤ length cs
  pub spelled : spelling_all (take (suc n) cs) ≡ spelling_all (take n cs) ++ ws
  pub is : slice_get cs n ≡ Some c

none_left : (ws ahead : List ℕ) → 0 < length ws → [] ≡ ws ++ ahead → ⊥
none_left ws ahead some e = let n = ap length e in omega (arith, n, length-append ws ahead)

pub next_command : (cs : List Command) (n : ℕ) (c : Command) (ws ahead : List ℕ) → All IsWellFormed cs
    → Spells c ws
    → spelling_all cs ≡ (spelling_all (take n cs) ++ ws) ++ ahead → IsNext cs n c ws
next_command [] zero c ws ahead all spells e = absurd (none_left ws ahead (spelled_some c ws spells) e)
next_command [] (suc n) c ws ahead all spells e = absurd (none_left ws ahead (spelled_some c ws spells) e)
next_command (d ∷ ds) zero c ws ahead all spells e =
    let own : Spells d (spelling d) = record { well_formed = All-head IsWellFormed d ds all; words = refl } in
    let same = same_first d c (spelling d) ws (spelling_all ds) ahead own spells e in
    record {
      there = omega arith;
      spelled = append-nil (spelling d) ∙ ap spelling same.0 ∙ sym spells.words;
      is = ap Some same.0;
    }
next_command (d ∷ ds) (suc n) c ws ahead all spells e =
    let first = spelling_all (take n ds) in
    let regroup : ((spelling d ++ first) ++ ws) ++ ahead ≡ spelling d ++ ((first ++ ws) ++ ahead) =
    ap (λ t. t ++ ahead) (append_assoc (spelling d) first ws)
    ∙ append_assoc (spelling d) (first ++ ws) ahead in
    let rest = next_command ds n c ws ahead (All-tail IsWellFormed d ds all) spells
    (append_cancel_left (spelling d) (spelling_all ds) ((first ++ ws) ++ ahead) (e ∙ regroup)) in
    record {
      there = omega (arith, rest.there);
      spelled = ap (λ t. spelling d ++ t) rest.spelled ∙ sym (append_assoc (spelling d) first ws);
      is = rest.is;
    }

-- commands among acts that a device can be given are well formed
pub well_formed : (l : Limits) (acts : List Act) → All (IsAct l) acts → All IsWellFormed (commands acts)
well_formed l [] all k d less = absurd (omega arith)
well_formed l (Do c ∷ acts) all zero d less = All-head (IsAct l) (Do c) acts all
well_formed l (Do c ∷ acts) all (suc k) d less =
    well_formed l acts (All-tail (IsAct l) (Do c) acts all) k d (omega arith)
well_formed l (act ∷ acts) all k d less = well_formed l acts (All-tail (IsAct l) act acts all) k d less

pub commands-append : (xs ys : List Act) → commands (xs ++ ys) ≡ commands xs ++ commands ys
commands-append [] ys = refl
commands-append (Do c ∷ xs) ys = ap (λ l. c ∷ l) (commands-append xs ys)
commands-append (x ∷ xs) ys = commands-append xs ys

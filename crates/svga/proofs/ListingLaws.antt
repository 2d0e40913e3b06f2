-- Listings of commands one after another.
use Rattle.std.proofs.Common.{◌≡◌, ℕ, ◌+◌, List, [], ◌∷◌, ◌++◌, length, drop, sym, ap, subst, ◌∙◌, append_assoc, append-nil, arith, length-append}
use Rattle.std.specs.Prelude.{Option}
use Rattle.svga.specs.Texts.{listing}
use Rattle.svga_capture.proofs.ReplayEnds.{front_extends}
use Rattle.svga_cmd.specs.Spelling.{spelling}
use Rattle.svga_cmd.specs.declared.command.Command.{Command}
use Rattle.svga_cmd.specs.declared.ending.Ending.{Ending}
use Rattle.svga_decode.specs.Visits.{AreTaken, IsVisited, IsVisitedUpTo, Stopping, Taking}
use Rattle.svga_io.proofs.Chains.{Grows-nil, Grows-then, GrowsByPrefix-first, GrowsByPrefix-then}
use Rattle.svga_io.specs.Growing.{Grows, GrowsByPrefix}
use Rattle.svga_model.proofs.GrammarFronts.{one_front}
use Rattle.svga_model.specs.Endings.{IsFront, StandAtFront}
use Rattle.svga_model.specs.Sentences.{spelling_all}
use Rattle.svga_text.specs.CommandLines.{command_line}

-- the second commands begin behind the words of the first
listing-append : (word : ℕ) (cs ds : List Command)
    → listing word (cs ++ ds) ≡ listing word cs ++ listing (word + length (spelling_all cs)) ds
listing-append word [] ds = ap (λ n. listing n ds) (let e : word ≡ word + 0 = omega arith in e)
listing-append word (c ∷ cs) ds =
    let behind : (word + length (spelling c)) + length (spelling_all cs) ≡ word + length (spelling_all (c ∷ cs))
    = omega (arith, length-append (spelling c) (spelling_all cs)) in
    ap (λ t. command_line word c ++ t) (listing-append (word + length (spelling c)) cs ds)
    ∙ sym (append_assoc (command_line word c) (listing (word + length (spelling c)) cs)
    (listing ((word + length (spelling c)) + length (spelling_all cs)) ds))
    ∙ ap (λ n. (command_line word c ++ listing (word + length (spelling c)) cs) ++ listing n ds) behind

listing-push : (cs : List Command) (c : Command)
    → listing 0 (cs ++ c ∷ []) ≡ listing 0 cs ++ command_line (length (spelling_all cs)) c
listing-push cs c =
    listing-append 0 cs (c ∷ [])
    ∙ ap (λ t. listing 0 cs ++ t) (append-nil (command_line (0 + length (spelling_all cs)) c)
    ∙ ap (λ n. command_line n c)
    (let e : 0 + length (spelling_all cs) ≡ length (spelling_all cs) = omega arith in e))

-- what taking a command writes, and stopping at one
abbrev Lines : {K : Type 0} (V : Type 0) → (K → Option (List ℕ)) → (K → ℕ) → Taking V K
Lines V held faults v sink first c now after = Grows held faults sink after (command_line first c)

abbrev Stops : {K : Type 0} (V S : Type 0) → (K → Option (List ℕ)) → (K → ℕ) → Stopping V K S
Stops V S held faults v sink first c stop now after = GrowsByPrefix held faults sink after (command_line first c)

taken_listing : {K V : Type 0} (held : K → Option (List ℕ)) (faults : K → ℕ) (v : V) (sink : K) (first : ℕ)
    (cs : List Command) (w : V) (after : K) → AreTaken (Lines V held faults) v sink first cs w after
    → Grows held faults sink after (listing first cs)
taken_listing held faults v sink first [] w after taken =
    subst (λ k. Grows held faults sink k []) (sym taken.1) (Grows-nil sink)
taken_listing held faults v sink first (c ∷ cs) w after taken =
    Grows-then taken.2 (taken_listing held faults taken.0 taken.1 (first + length (spelling c)) cs w after taken.3)

-- all lines were written
pub listed_all : {K V : Type 0} (held : K → Option (List ℕ)) (faults : K → ℕ) (given ws : List ℕ) (v : V) (sink : K)
    (end : Ending) (w : V) (after : K) → given ≡ ws → IsVisited (Lines V held faults) given v sink end w after
    → (cs : List Command) × IsFront ws cs × Grows held faults sink after (listing 0 cs)
listed_all held faults given ws v sink end w after is (cs, ending, taken) =
    (cs, subst (λ t. IsFront t cs) is ending.front, taken_listing held faults v sink 0 cs w after taken)

-- one failed
pub listed_fault : {K V S : Type 0} (held : K → Option (List ℕ)) (faults : K → ℕ) (given ws : List ℕ) (v : V)
    (sink : K) (stop : S) (w : V) (after : K) → given ≡ ws
    → IsVisitedUpTo (Lines V held faults) (Stops V S held faults) given v sink stop w after
    → (cs : List Command) × StandAtFront cs ws × GrowsByPrefix held faults sink after (listing 0 cs)
listed_fault held faults given ws v sink stop w after is (cs, c, stands, x, y, taken, fault) = (
  cs ++ c ∷ [],
  subst (StandAtFront (cs ++ c ∷ [])) is stands,
  subst (GrowsByPrefix held faults sink after) (sym (listing-push cs c))
      (GrowsByPrefix-then (taken_listing held faults v sink 0 cs x y taken) fault),
)

module _ {K : Type 0} {held : K → Option (List ℕ)} {faults : K → ℕ} where
  -- the listing of the front was written, whatever list of commands it was told by
  pub Lists-ok : (before now : K) (ws : List ℕ) (cs : List Command) → IsFront ws cs
      → (ds : List Command) × IsFront ws ds × Grows held faults before now (listing 0 ds)
      → Grows held faults before now (listing 0 cs)
  Lists-ok before now ws cs front (ds, other, grown) =
      subst (λ t. Grows held faults before now (listing 0 t)) (one_front ws ds cs other front) grown

  -- a prefix of a part of it is a prefix of it
  pub Lists-fault : (before now : K) (ws : List ℕ) (cs : List Command) → IsFront ws cs
      → (ds : List Command) × StandAtFront ds ws × GrowsByPrefix held faults before now (listing 0 ds)
      → GrowsByPrefix held faults before now (listing 0 cs)
  Lists-fault before now ws cs front (ds, stands, fault) = subst (GrowsByPrefix held faults before now)
      (sym (listing-append 0 ds (drop (length ds) cs)) ∙ ap (listing 0) (sym (front_extends ws cs ds front stands)))
      (GrowsByPrefix-first (listing (0 + length (spelling_all ds)) (drop (length ds) cs)) fault)

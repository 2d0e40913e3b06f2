-- What is counted of commands, and what a decoder keeps behind them.
use Rattle.std.proofs.Common.{◌≡◌, ℕ, ◌+◌, ◌≤◌, ◌<◌, List, [], ◌∷◌, ◌++◌, length, drop, refl, ap, sym, subst, ◌∙◌, arith, inl, inr, length-append, length-drop}
use Rattle.std.proofs.lemmas.List.{append_cancel_left, drop_at, get_or_push}
use Rattle.std.proofs.lemmas.List.Elements.{All-get_or}
use Rattle.std.specs.Prelude.{All, fold}
use Rattle.svga_cmd.specs.Spelling.{spelling}
use Rattle.svga_cmd.specs.WellFormed.{IsWellFormed}
use Rattle.svga_cmd.specs.declared.command.Command.{Command}
use Rattle.svga_cmd.specs.declared.constants.TheConstants.{MAX_COMMAND_WORDS}
use Rattle.svga_cmd.specs.declared.ending.Ending.{Ending}
use Rattle.svga_cmd.specs.declared.ending.Ending.TheVariants.{Torn, Whole}
use Rattle.svga_decode.specs.DecoderStates.{DecoderState, IsReady}
use Rattle.svga_decode.specs.Scans.{AreCounted, IsLeft, counts}
use Rattle.svga_decode.specs.Visits.{AreTaken, IsVisited}
use Rattle.svga_decode.specs.declared.answer.Fed.TheVariants as fed
use Rattle.svga_decode.specs.declared.scanning.Counted.{Counted}
use Rattle.svga_model.specs.Accepted.{IsCommandWhole, IsCommandPart}
use Rattle.svga_model.specs.Endings.{IsEnding, fence_after}
use Rattle.svga_model.specs.Sentences.{IsCommandBegun, spelling_all}
use Rattle.svga_model.proofs.GrammarFronts.{come_front, one_front, spelling_all-push, viable_come}
use Rattle.svga_model.proofs.GrammarGrown.{part_room}
use Rattle.svga_model.proofs.GrammarLengths.{whole_length-le}
use Rattle.svga_model.proofs.GrammarSpelled.{begun_part, spelled_complete}
use Rattle.svga_model.proofs.GrammarTable.{le_or_lt}

-- what is counted of commands, the first of which begins at this word
pub record IsCountedFrom (before : Counted) (first : ℕ) (cs : List Command) (n : Counted) : Type 0 where
  pub commands : n.commands ≡ before.commands + length cs
  pub fence : n.fence ≡ fold fence_after before.fence cs
  pub last : (front : List Command) (c : Command) → cs ≡ front ++ c ∷ [] → n.first ≡ first + length (spelling_all front)
  pub behind : before.end ≡ first → n.end ≡ first + length (spelling_all cs)

not_pushed : (front : List Command) (c : Command) → [] ≡ front ++ c ∷ [] → ⊥
not_pushed front c e = let n : 0 ≡ length (front ++ c ∷ []) = ap length e in omega (arith, n, length-append front (c ∷ []))

abbrev pub Counts : Counted → Unit {0} → ℕ → Command → Counted → Unit {0} → Type 0
Counts n on first c now on' = now ≡ counts n first c

taken_counts : (v : Counted) (t : Unit {0}) (first : ℕ) (cs : List Command) (w : Counted) (u : Unit {0}) → AreTaken Counts v t first cs w u → IsCountedFrom v first cs w
taken_counts v t first [] w u taken = record {
  commands = ap (λ n. n.commands) taken.0 ∙ (let e : v.commands ≡ v.commands + 0 = omega arith in e);
  fence = ap (λ n. n.fence) taken.0;
  last = λ front c e. absurd (not_pushed front c e);
  behind = λ e. ap (λ n. n.end) taken.0 ∙ e ∙ (let e : first ≡ first + 0 = omega arith in e);
}
taken_counts v t first (c ∷ cs) w u taken = step taken.0 taken.1 taken.2 taken.3 (taken_counts taken.0 taken.1 (first + length (spelling c)) cs w u taken.3) where
  longer : (ds : List Command) → first + length (spelling c) + length (spelling_all ds) ≡ first + length (spelling_all (c ∷ ds))
  longer ds = omega (arith, length-append (spelling c) (spelling_all ds))

  at : (x : Counted) (y : Unit {0}) → x ≡ counts v first c → AreTaken Counts x y (first + length (spelling c)) cs w u → IsCountedFrom x (first + length (spelling c)) cs w
      → (front : List Command) (d : Command) → c ∷ cs ≡ front ++ d ∷ [] → w.first ≡ first + length (spelling_all front)
  at x y is rest from [] d e =
      let none : cs ≡ [] = cc in
      let same : (w ≡ x) × (u ≡ y) = subst (λ t. AreTaken Counts x y (first + length (spelling c)) t w u) none rest in
      ap (λ n. n.first) same.0 ∙ ap (λ n. n.first) is ∙ (let e : first ≡ first + 0 = omega arith in e)
  at x y is rest from (b ∷ front) d e =
      let tails : cs ≡ front ++ d ∷ [] = cc in
      let same : c ≡ b = cc in
      from.last front d tails ∙ longer front ∙ ap (λ k. first + length (spelling_all (k ∷ front))) same

  step : (x : Counted) (y : Unit {0}) → x ≡ counts v first c → AreTaken Counts x y (first + length (spelling c)) cs w u → IsCountedFrom x (first + length (spelling c)) cs w → IsCountedFrom v first (c ∷ cs) w
  step x y is rest from = record {
    commands = from.commands ∙ ap (λ n. n.commands + length cs) is ∙ (let e : v.commands + 1 + length cs ≡ v.commands + length (c ∷ cs) = omega arith in e);
    fence = from.fence ∙ ap (λ n. fold fence_after n.fence cs) is;
    last = at x y is rest from;
    behind = λ e. from.behind (ap (λ n. n.end) is) ∙ longer cs;
  }

-- what a visit that counts tells
pub visited_counts : (ws : List ℕ) (v : Counted) (t : Unit {0}) (end : Ending) (w : Counted) (u : Unit {0}) → v ≡ record { commands = 0; fence = 0; first = 0; end = 0 } → IsVisited Counts ws v t end w u
    → (cs : List Command) × AreCounted ws cs w end
visited_counts ws v t end w u is (cs, ending, taken) =
    let from = taken_counts v t 0 cs w u taken in (
      cs,
      record {
        ending = ending;
        commands = from.commands ∙ ap (λ n. n.commands + length cs) is ∙ (let e : 0 + length cs ≡ length cs = omega arith in e);
        fence = from.fence ∙ ap (λ n. fold fence_after n.fence cs) is;
        last = λ front c e. from.last front c e ∙ (let e : 0 + length (spelling_all front) ≡ length (spelling_all front) = omega arith in e);
        behind = from.behind (ap (λ n. n.end) is) ∙ (let e : 0 + length (spelling_all cs) ≡ length (spelling_all cs) = omega arith in e);
      },
    )

-- some commands have a last one
some_last : (cs : List Command) → 0 < length cs → (front : List Command) × (c : Command) × (cs ≡ front ++ c ∷ [])
some_last [] l = absurd (omega arith)
some_last (c ∷ []) l = ([], c, refl)
some_last (c ∷ d ∷ cs) l = let (front, last, e) = some_last (d ∷ cs) (omega arith) in (c ∷ front, last, ap (λ t. c ∷ t) e)

-- the words of the last command
last_words : (ws : List ℕ) (cs front : List Command) (c : Command) (first : ℕ) → IsEnding ws cs Whole → cs ≡ front ++ c ∷ [] → first ≡ length (spelling_all front) → drop first ws ≡ spelling c
last_words ws cs front c first ending e at =
    ap (drop first) (ending.ends ∙ ap spelling_all e ∙ spelling_all-push front c) ∙ drop_at (spelling_all front) (spelling c) first (sym at)

last_well : (front : List Command) (c : Command) → All IsWellFormed (front ++ c ∷ []) → IsWellFormed c
last_well front c well = subst IsWellFormed (get_or_push front c c (length front) refl)
    (All-get_or IsWellFormed (front ++ c ∷ []) (length front) c (omega (arith, length-append front (c ∷ []))) well)

last_complete : (ws : List ℕ) (cs front : List Command) (c : Command) (first : ℕ) → IsEnding ws cs Whole → cs ≡ front ++ c ∷ [] → first ≡ length (spelling_all front) → IsCommandWhole (drop first ws)
last_complete ws cs front c first ending e at =
    let well : IsWellFormed c = last_well front c (subst (All IsWellFormed) e ending.front.stands.well_formed) in
    spelled_complete c (drop first ws) (record { well_formed = well; words = last_words ws cs front c first ending e at })

-- how many words a whole command has at most
pub complete_few : (ws : List ℕ) → IsCommandWhole ws → length ws ≤ MAX_COMMAND_WORDS
complete_few ws complete = elim (le_or_lt (length ws) 4) as (λ _. length ws ≤ MAX_COMMAND_WORDS) [
  | inl few ↦ omega arith
  | inr many ↦ omega (arith, whole_length-le ws complete.accepted many, complete.full)
]

-- the words of a torn command
torn_words : (ws : List ℕ) (cs : List Command) (count behind : ℕ) → IsEnding ws cs (Torn count) → behind ≡ length (spelling_all cs) → ws ≡ spelling_all cs ++ drop behind ws
torn_words ws cs count behind ending at =
    let (rest, e) = ending.front.stands.words in
    e ∙ ap (λ t. spelling_all cs ++ t) (sym (drop_at (spelling_all cs) rest behind (sym at)) ∙ ap (drop behind) (sym e))

torn_part : (ws : List ℕ) (cs : List Command) (count behind : ℕ) → IsEnding ws cs (Torn count) → behind ≡ length (spelling_all cs) → IsCommandPart (drop behind ws)
torn_part ws cs count behind ending at =
    let (ds, rest, come) = viable_come ws ending.ends.0 in
    let same : cs ≡ ds = one_front ws cs ds ending.front (come_front ws ds rest come) in
    let words : spelling_all cs ++ drop behind ws ≡ spelling_all cs ++ rest = sym (torn_words ws cs count behind ending at) ∙ come.words ∙ ap (λ t. spelling_all t ++ rest) (sym same) in
    begun_part (drop behind ws) (subst IsCommandBegun (sym (append_cancel_left (spelling_all cs) (drop behind ws) rest words)) come.begun)

pub part_few : (ws : List ℕ) → IsCommandPart ws → length ws ≤ MAX_COMMAND_WORDS
part_few ws part = omega (arith, part_room ws part)

-- What a decoder keeps where all words are whole commands, and what it is then.
pub whole_kept : (ws : List ℕ) (n : Counted) (end : Ending) → end ≡ Whole → 0 < n.commands → (cs : List Command) × AreCounted ws cs n end → (n.end ≤ length ws) × (n.first ≤ length ws) × IsCommandWhole (drop n.first ws)
whole_kept ws n end is some (cs, counted) =
    let ending : IsEnding ws cs Whole = subst (IsEnding ws cs) is counted.ending in
    let (front, c, e) = some_last cs (omega (arith, counted.commands)) in
    let complete = last_complete ws cs front c n.first ending e (counted.last front c e) in
    let count : length ws ≡ length (spelling_all cs) = ap length ending.ends in
    (omega (arith, counted.behind), omega (arith, complete.some, length-drop n.first ws), complete)

pub whole_left : (ws : List ℕ) (n : Counted) (end : Ending) (cs : List Command) (before after : DecoderState) → end ≡ Whole → 0 < n.commands → AreCounted ws cs n end
    → after ≡ record { words = drop n.first ws; last = fed.Whole } → IsLeft end ws cs before after
whole_left ws n end cs before after is some counted kept = subst (λ e. IsLeft e ws cs before after) (sym is) (record {
  ready = subst IsReady (sym kept) tt;
  last = λ front c e. kept ∙ ap (λ t. record { words = t; last = fed.Whole }) (last_words ws cs front c n.first (subst (IsEnding ws cs) is counted.ending) e (counted.last front c e));
  unchanged = λ none. absurd (let count : length cs ≡ 0 = ap length none in omega (arith, counted.commands));
})

pub none_left : (ws : List ℕ) (n : Counted) (end : Ending) (cs : List Command) (before : DecoderState) → end ≡ Whole → n.commands ≤ 0 → IsReady before → AreCounted ws cs n end → IsLeft end ws cs before before
none_left ws n end cs before is none ready counted = subst (λ e. IsLeft e ws cs before before) (sym is) (record {
  ready = ready;
  last = λ front c e. absurd (let count : length cs ≡ length (front ++ c ∷ []) = ap length e in omega (arith, counted.commands, length-append front (c ∷ [])));
  unchanged = λ e. refl;
})

-- The same where the words end in a command.
pub torn_kept : (ws : List ℕ) (n : Counted) (end : Ending) (count : ℕ) → end ≡ Torn count → (cs : List Command) × AreCounted ws cs n end → (n.end ≤ length ws) × IsCommandPart (drop n.end ws)
torn_kept ws n end count is (cs, counted) =
    let ending : IsEnding ws cs (Torn count) = subst (IsEnding ws cs) is counted.ending in
    let words : length ws ≡ length (spelling_all cs ++ drop n.end ws) = ap length (torn_words ws cs count n.end ending counted.behind) in
    (omega (arith, counted.behind, length-append (spelling_all cs) (drop n.end ws)), torn_part ws cs count n.end ending counted.behind)

pub torn_left : (ws : List ℕ) (n : Counted) (end : Ending) (count : ℕ) (cs : List Command) (before after : DecoderState) → end ≡ Torn count → AreCounted ws cs n end
    → after ≡ record { words = drop n.end ws; last = fed.More } → IsLeft end ws cs before after
torn_left ws n end count cs before after is counted kept = subst (λ e. IsLeft e ws cs before after) (sym is) (
  ap (λ d. d.last) kept,
  torn_words ws cs count n.end (subst (IsEnding ws cs) is counted.ending) counted.behind ∙ ap (λ d. spelling_all cs ++ d.words) (sym kept),
)

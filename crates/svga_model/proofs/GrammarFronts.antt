-- Words that come one after another, and the commands at their front.
use Rattle.std.proofs.Common.{◌≡◌, ℕ, ◌+◌, ◌≤◌, ◌<◌, List, [], ◌∷◌, ◌++◌, length, refl, ap, sym, subst, ◌∙◌, arith, inl, inr, length-append, append-nil, append_assoc}
use Rattle.std.proofs.lemmas.Grind.{flat_map-append}
use Rattle.std.proofs.lemmas.List.{append_cancel_left}
use Rattle.std.proofs.lemmas.List.Elements.{All-cons, All-head, All-nil, All-push, All-tail}
use Rattle.std.specs.List.{flat_map}
use Rattle.std.specs.Prelude.{All, fold}
use Rattle.svga_cmd.specs.Spelling.{Spells, spelling}
use Rattle.svga_cmd.specs.WellFormed.{IsWellFormed}
use Rattle.svga_cmd.specs.declared.command.Command.{Command}
use Rattle.svga_cmd.specs.declared.command.Command.TheVariants.{Fence}
use Rattle.svga_model.specs.Endings.{IsFront, fence_after, last_fence}
use Rattle.svga_model.specs.Progress.{HasCome}
use Rattle.svga_model.specs.Sentences.{Begins, IsCommandBegun, IsViable, spelling_all}
use Rattle.svga_model.proofs.GrammarPrefixes.{begun_has_none, same_first, shorter_front}
use Rattle.svga_model.proofs.GrammarSpelled.{begun_begins}
use Rattle.svga_model.proofs.GrammarTable.{le_or_lt}

spells : (c : Command) → IsWellFormed c → Spells c (spelling c)
spells c well = record { well_formed = well; words = refl }

pub spelling_all-push : (cs : List Command) (c : Command) → spelling_all (cs ++ c ∷ []) ≡ spelling_all cs ++ spelling c
spelling_all-push cs c = flat_map-append spelling cs (c ∷ []) ∙ ap (λ t. flat_map spelling cs ++ t) (append-nil (spelling c))

pub nothing_begun : IsCommandBegun []
nothing_begun = (Fence 0, 30, 0 ∷ [], record { well_formed = tt; words = refl })

-- no word has come
pub HasCome-nil : HasCome [] [] []
HasCome-nil = record { well_formed = All-nil IsWellFormed; words = refl; begun = nothing_begun }

-- a word has come with which a command has begun and isn't whole
pub HasCome-more : (ws : List ℕ) (cs : List Command) (front : List ℕ) (word : ℕ) → HasCome ws cs front → IsCommandBegun (front ++ word ∷ []) → HasCome (ws ++ word ∷ []) cs (front ++ word ∷ [])
HasCome-more ws cs front word come begun = record {
  well_formed = come.well_formed;
  words = ap (λ t. t ++ word ∷ []) come.words ∙ append_assoc (spelling_all cs) front (word ∷ []);
  begun = begun;
}

-- a word has come with which a command is whole
pub HasCome-whole : (ws : List ℕ) (cs : List Command) (front : List ℕ) (word : ℕ) (c : Command) → HasCome ws cs front → Spells c (front ++ word ∷ []) → HasCome (ws ++ word ∷ []) (cs ++ c ∷ []) []
HasCome-whole ws cs front word c come s = record {
  well_formed = All-push IsWellFormed cs c come.well_formed s.well_formed;
  words = ap (λ t. t ++ word ∷ []) come.words ∙ append_assoc (spelling_all cs) front (word ∷ []) ∙ ap (λ t. spelling_all cs ++ t) s.words ∙ sym (spelling_all-push cs c) ∙ sym (append-nil (spelling_all (cs ++ c ∷ [])));
  begun = nothing_begun;
}

-- no command stands at the front of the words
abbrev pub HasNone : List ℕ → Type 0
HasNone ws = (d : Command) (rest : List ℕ) → IsWellFormed d → ws ≡ spelling d ++ rest → ⊥

pub begun_none : (ws : List ℕ) → IsCommandBegun ws → HasNone ws
begun_none ws b d rest well e =
    let count : length ws ≡ length (spelling d) + length rest = ap length e ∙ length-append (spelling d) rest in
    begun_has_none ws [] (spelling d) rest d b (spells d well) (append-nil ws ∙ e) (omega arith)

-- a word with which no command goes on, behind words that have begun, whatever follows
pub refused_none : (front rest : List ℕ) (word : ℕ) → IsCommandBegun front → (Begins (front ++ word ∷ []) → ⊥) → HasNone (front ++ word ∷ rest)
refused_none front rest word b refused d more well e = elim (le_or_lt (length (spelling d)) (length front)) as (λ _. ⊥) [
  | inl short ↦ begun_has_none front (word ∷ rest) (spelling d) more d b (spells d well) e short
  | inr long ↦
      let same : (front ++ word ∷ []) ++ rest ≡ spelling d ++ more = append_assoc front (word ∷ []) rest ∙ e in
      let longer = shorter_front (front ++ word ∷ []) (spelling d) rest more same (omega (arith, length-append front (word ∷ []))) in
      refused (d, longer.0, record { well_formed = well; words = sym longer.1 })
]

-- the rests of one list behind a command at its front
behind : (c d : Command) (a b : List ℕ) → IsWellFormed c → IsWellFormed d → spelling c ++ a ≡ spelling d ++ b → (c ≡ d) × (a ≡ b)
behind c d a b wc wd e = same_first c d (spelling c) (spelling d) a b (spells c wc) (spells d wd) e

no_more : (cs ds : List Command) (rest more : List ℕ) → All IsWellFormed cs → All IsWellFormed ds → spelling_all cs ++ rest ≡ spelling_all ds ++ more → HasNone rest → length ds ≤ length cs
no_more cs [] rest more wc wd e none = omega arith
no_more [] (d ∷ ds) rest more wc wd e none = absurd (none d (spelling_all ds ++ more) (All-head IsWellFormed d ds wd) (e ∙ append_assoc (spelling d) (spelling_all ds) more))
no_more (c ∷ cs) (d ∷ ds) rest more wc wd e none =
    let same = behind c d (spelling_all cs ++ rest) (spelling_all ds ++ more) (All-head IsWellFormed c cs wc) (All-head IsWellFormed d ds wd)
    (sym (append_assoc (spelling c) (spelling_all cs) rest) ∙ e ∙ append_assoc (spelling d) (spelling_all ds) more) in
    omega (arith, no_more cs ds rest more (All-tail IsWellFormed c cs wc) (All-tail IsWellFormed d ds wd) same.1 none)

-- commands behind which none stands are the front
pub none_behind : (ws rest : List ℕ) (cs : List Command) → All IsWellFormed cs → ws ≡ spelling_all cs ++ rest → HasNone rest → IsFront ws cs
none_behind ws rest cs well e none = record {
  stands = record { well_formed = well; words = (rest, e) };
  longest = λ ds stand. no_more cs ds rest stand.words.0 well stand.well_formed (sym e ∙ stand.words.1) none;
}

-- all words have come: the commands that came are their front
pub come_front : (ws : List ℕ) (cs : List Command) (front : List ℕ) → HasCome ws cs front → IsFront ws cs
come_front ws cs front come = none_behind ws front cs come.well_formed come.words (begun_none front come.begun)

-- a word was refused: the commands that came are the front of all words
pub refused_front : (ws : List ℕ) (cs : List Command) (front : List ℕ) (word : ℕ) (rest : List ℕ) → HasCome ws cs front → (Begins (front ++ word ∷ []) → ⊥) → IsFront (ws ++ word ∷ rest) cs
refused_front ws cs front word rest come refused = none_behind (ws ++ word ∷ rest) (front ++ word ∷ rest) cs come.well_formed
    (ap (λ t. t ++ word ∷ rest) come.words ∙ append_assoc (spelling_all cs) front (word ∷ rest)) (refused_none front rest word come.begun refused)

pub as_many : (cs ds : List Command) (a b : List ℕ) → All IsWellFormed cs → All IsWellFormed ds → spelling_all cs ++ a ≡ spelling_all ds ++ b → length cs ≡ length ds → cs ≡ ds
as_many [] [] a b wc wd e l = refl
as_many [] (d ∷ ds) a b wc wd e l = absurd (omega arith)
as_many (c ∷ cs) [] a b wc wd e l = absurd (omega arith)
as_many (c ∷ cs) (d ∷ ds) a b wc wd e l =
    let same = behind c d (spelling_all cs ++ a) (spelling_all ds ++ b) (All-head IsWellFormed c cs wc) (All-head IsWellFormed d ds wd)
    (sym (append_assoc (spelling c) (spelling_all cs) a) ∙ e ∙ append_assoc (spelling d) (spelling_all ds) b) in
    let tails : cs ≡ ds = as_many cs ds a b (All-tail IsWellFormed c cs wc) (All-tail IsWellFormed d ds wd) same.1 (omega arith) in
    λ i. same.0 i ∷ tails i

-- words have one front
pub one_front : (ws : List ℕ) (cs ds : List Command) → IsFront ws cs → IsFront ws ds → cs ≡ ds
one_front ws cs ds f g = as_many cs ds f.stands.words.0 g.stands.words.0 f.stands.well_formed g.stands.well_formed
    (sym f.stands.words.1 ∙ g.stands.words.1) (omega (arith, f.longest ds g.stands, g.longest cs f.stands))

-- words that begin a command, behind whole ones, are viable
pub begins_viable : (ws tail : List ℕ) (cs : List Command) → All IsWellFormed cs → ws ≡ spelling_all cs ++ tail → Begins tail → IsViable ws
begins_viable ws tail cs well e b = (
  cs ++ b.0 ∷ [],
  b.1,
  record {
    well_formed = All-push IsWellFormed cs b.0 well b.2.well_formed;
    words = ap (λ t. t ++ b.1) e ∙ append_assoc (spelling_all cs) tail b.1 ∙ ap (λ t. spelling_all cs ++ t) b.2.words ∙ sym (spelling_all-push cs b.0);
  },
)

-- words that have come so are viable
pub come_viable : (ws : List ℕ) (cs : List Command) (front : List ℕ) → HasCome ws cs front → IsViable ws
come_viable ws cs front come = begins_viable ws front cs come.well_formed come.words (begun_begins front come.begun)

-- a command more in front
HasCome-cons : (ws : List ℕ) (c : Command) (cs : List Command) (front : List ℕ) → IsWellFormed c → HasCome ws cs front → HasCome (spelling c ++ ws) (c ∷ cs) front
HasCome-cons ws c cs front well come = record {
  well_formed = All-cons IsWellFormed c cs well come.well_formed;
  words = ap (λ t. spelling c ++ t) come.words ∙ sym (append_assoc (spelling c) (spelling_all cs) front);
  begun = come.begun;
}

come_within : (ds : List Command) (ws rest : List ℕ) → All IsWellFormed ds → ws ++ rest ≡ spelling_all ds → (cs : List Command) × (front : List ℕ) × HasCome ws cs front
come_within [] [] rest well e = ([], [], HasCome-nil)
come_within [] (w ∷ ws) rest well e = absurd (cc)
come_within (d ∷ ds) ws rest well e = elim (le_or_lt (length (spelling d)) (length ws)) as (λ _. (cs : List Command) × (front : List ℕ) × HasCome ws cs front) [
  | inl long ↦
      let behind_d = shorter_front (spelling d) ws (spelling_all ds) rest (sym e) long in
      let come = come_within ds behind_d.0 rest (All-tail IsWellFormed d ds well) (sym behind_d.2) in
      (d ∷ come.0, come.1, subst (λ t. HasCome t (d ∷ come.0) come.1) (sym behind_d.1) (HasCome-cons behind_d.0 d come.0 come.1 (All-head IsWellFormed d ds well) come.2))
  | inr short ↦
      let inside = shorter_front ws (spelling d) rest (spelling_all ds) e (omega arith) in
      ([], ws, record { well_formed = All-nil IsWellFormed; words = refl; begun = part d ws inside.0 (All-head IsWellFormed d ds well) inside.1 short })
]
  where
    part : (d : Command) (ws more : List ℕ) → IsWellFormed d → spelling d ≡ ws ++ more → length ws < length (spelling d) → IsCommandBegun ws
    part d ws [] well e short = absurd (let same : length (spelling d) ≡ length ws = ap length (e ∙ append-nil ws) in omega arith)
    part d ws (word ∷ more) well e short = (d, word, more, record { well_formed = well; words = sym e })

-- and viable words have come so
pub viable_come : (ws : List ℕ) → IsViable ws → (cs : List Command) × (front : List ℕ) × HasCome ws cs front
viable_come ws v = come_within v.0 ws v.1 v.2.well_formed v.2.words

-- with a word with which no command goes on the words aren't viable
pub refused_not_viable : (ws : List ℕ) (cs : List Command) (front : List ℕ) (word : ℕ) → HasCome ws cs front → (Begins (front ++ word ∷ []) → ⊥) → IsViable (ws ++ word ∷ []) → ⊥
refused_not_viable ws cs front word come refused v =
    let other = viable_come (ws ++ word ∷ []) v in
    let same : cs ≡ other.0 = one_front (ws ++ word ∷ []) cs other.0 (refused_front ws cs front word [] come refused) (come_front (ws ++ word ∷ []) other.0 other.1 other.2) in
    let words : spelling_all cs ++ (front ++ word ∷ []) ≡ spelling_all cs ++ other.1 = sym (append_assoc (spelling_all cs) front (word ∷ [])) ∙ ap (λ t. t ++ word ∷ []) (sym come.words) ∙ other.2.words ∙ ap (λ t. spelling_all t ++ other.1) (sym same) in
    refused (subst Begins (sym (append_cancel_left (spelling_all cs) (front ++ word ∷ []) other.1 words)) (begun_begins other.1 other.2.begun))

pub last_fence-push : (cs : List Command) (c : Command) → last_fence (cs ++ c ∷ []) ≡ fence_after (last_fence cs) c
last_fence-push cs c = from 0 cs where
  from : (fence : ℕ) (cs : List Command) → fold fence_after fence (cs ++ c ∷ []) ≡ fence_after (fold fence_after fence cs) c
  from fence [] = refl
  from fence (d ∷ cs) = from (fence_after fence d) cs

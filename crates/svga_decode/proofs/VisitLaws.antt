-- How a visit goes on with one command, and how it ends.
use Rattle.std.proofs.Common.{◌≡◌, ℕ, ◌+◌, ◌-◌, ◌≤◌, ◌<◌, List, [], ◌∷◌, ◌++◌, length, take, drop, slice_index, refl, ap, sym, subst, ◌∙◌, arith, append-nil, length-append, length-drop, length-take}
use Rattle.std.proofs.lemmas.List.{drop-take, drop_more, take-append-drop, take-take, take_all, take_more}
use Rattle.std.proofs.lemmas.List.Elements.{All-push}
use Rattle.svga_cmd.specs.Spelling.{Spells, spelling}
use Rattle.svga_cmd.specs.WellFormed.{IsWellFormed}
use Rattle.svga_cmd.specs.declared.cause.Cause.{Cause}
use Rattle.svga_cmd.specs.declared.command.Command.{Command}
use Rattle.svga_cmd.specs.declared.ending.Ending.TheVariants as ending
use Rattle.svga_decode.specs.Answers.{IsFedAnswer}
use Rattle.svga_decode.specs.Nexts.{words_between}
use Rattle.svga_decode.specs.Visits.{AreTaken, Taking}
use Rattle.svga_decode.specs.declared.answer.Fed.TheVariants as fed
use Rattle.svga_decode.proofs.FeedLaws.{fed_refused}
use Rattle.svga_decode.proofs.NextLaws.{at_drop}
use Rattle.svga_model.specs.Endings.{IsEnding, StandAtFront}
use Rattle.svga_model.specs.Progress.{HasCome}
use Rattle.svga_model.specs.Sentences.{IsCommandBegun, spelling_all}
use Rattle.svga_model.proofs.GrammarBadWords.{split_at}
use Rattle.svga_model.proofs.GrammarEndings.{torn_ending, whole_ending}
use Rattle.svga_model.proofs.GrammarFronts.{nothing_begun, spelling_all-push}

-- one command more is taken
pub AreTaken-push : {V T : Type 0} (takes : Taking V T) (v : V) (t : T) (first : ℕ) (cs : List Command) (c : Command) (x : V) (y : T) (w : V) (u : T)
    → AreTaken takes v t first cs x y → takes x y (first + length (spelling_all cs)) c w u → AreTaken takes v t first (cs ++ c ∷ []) w u
AreTaken-push takes v t first [] c x y w u taken here = (
  w,
  u,
  subst (λ n. takes v t n c w u) (let e : first + 0 ≡ first = omega arith in e)
      (subst (λ b. takes v b (first + 0) c w u) taken.1 (subst (λ a. takes a y (first + 0) c w u) taken.0 here)),
  (refl, refl),
)
AreTaken-push takes v t first (d ∷ cs) c x y w u taken here = (
  taken.0,
  taken.1,
  taken.2,
  AreTaken-push takes taken.0 taken.1 (first + length (spelling d)) cs c x y w u taken.3
      (subst (λ n. takes x y n c w u)
      (let e : first + length (spelling d ++ spelling_all cs) ≡ (first + length (spelling d)) + length (spelling_all cs) = omega (arith, length-append (spelling d) (spelling_all cs)) in e) here),
)

-- the words up to a word, in two parts
take_between : (first end : ℕ) (ws : List ℕ) → first ≤ end → take end ws ≡ take first ws ++ words_between ws first end
take_between first end ws l =
    sym (take-append-drop first (take end ws))
    ∙ ap (λ t. t ++ drop first (take end ws)) (take-take first end ws l)
    ∙ ap (λ t. take first ws ++ t) (ap (λ n. drop first (take n ws)) (let e : end ≡ first + (end - first) = omega arith in e) ∙ drop-take first (end - first) ws)

-- a command has come
pub command_come : (ws : List ℕ) (first end : ℕ) (cs : List Command) (c : Command) → HasCome (take first ws) cs [] → first ≤ end → Spells c (words_between ws first end)
    → HasCome (take end ws) (cs ++ c ∷ []) []
command_come ws first end cs c come l s = record {
  well_formed = All-push IsWellFormed cs c come.well_formed s.well_formed;
  words = take_between first end ws l ∙ ap (λ t. t ++ words_between ws first end) (come.words ∙ append-nil (spelling_all cs)) ∙ ap (λ t. spelling_all cs ++ t) s.words
      ∙ sym (spelling_all-push cs c) ∙ sym (append-nil (spelling_all (cs ++ c ∷ [])));
  begun = nothing_begun;
}

-- where the next command begins
pub come_length : (ws : List ℕ) (first : ℕ) (cs : List Command) → first ≤ length ws → HasCome (take first ws) cs [] → first ≡ length (spelling_all cs)
come_length ws first cs l come = (let e : first ≡ length (take first ws) = omega (arith, length-take first ws) in e) ∙ ap length (come.words ∙ append-nil (spelling_all cs))

-- the words are those of the commands that have come, and the rest
come_words : (ws : List ℕ) (first : ℕ) (cs : List Command) → HasCome (take first ws) cs [] → ws ≡ spelling_all cs ++ drop first ws
come_words ws first cs come = sym (take-append-drop first ws) ∙ ap (λ t. t ++ drop first ws) (come.words ∙ append-nil (spelling_all cs))

-- the commands that have come stand at the front of the words
pub come_stands : (ws : List ℕ) (first : ℕ) (cs : List Command) → HasCome (take first ws) cs [] → StandAtFront cs ws
come_stands ws first cs come = record {
  well_formed = come.well_formed;
  words = (drop first ws, come_words ws first cs come);
}

-- no word is left
pub whole_visit : (ws : List ℕ) (first : ℕ) (cs : List Command) → length ws ≤ first → HasCome (take first ws) cs [] → IsEnding ws cs ending.Whole
whole_visit ws first cs past come = whole_ending ws cs (subst (λ t. HasCome t cs []) (take_all first ws past) come)

-- the words end in a command
pub torn_visit : (ws : List ℕ) (first : ℕ) (cs : List Command) → first < length ws → HasCome (take first ws) cs [] → IsCommandBegun (drop first ws) → IsEnding ws cs (ending.Torn (length ws))
torn_visit ws first cs l come begun = torn_ending ws cs (slice_index ws first) (drop (first + 1) ws) (subst (HasCome ws cs) (drop_more ws first 0 l) (record {
  well_formed = come.well_formed;
  words = come_words ws first cs come;
  begun = begun;
}))

-- a word is refused
pub refused_visit : (ws : List ℕ) (first word : ℕ) (cs : List Command) (cause : Cause) → HasCome (take first ws) cs [] → first ≤ word → word < length ws → IsCommandBegun (words_between ws first word)
    → IsFedAnswer (fed.Refused cause) (words_between ws first (word + 1)) → IsEnding ws cs (ending.Refused word cause)
refused_visit ws first word cs cause come l within begun answer =
    subst (λ t. IsEnding t cs (ending.Refused word cause)) (split_at ws word within)
    (subst (λ n. IsEnding (take word ws ++ slice_index ws word ∷ drop (word + 1) ws) cs (ending.Refused n cause)) (let e : length (take word ws) ≡ word = omega (arith, length-take word ws) in e)
    (fed_refused (take word ws) cs (words_between ws first word) (slice_index ws word) (drop (word + 1) ws) cause before (subst (IsFedAnswer (fed.Refused cause)) upto answer)))
  where
    before : HasCome (take word ws) cs (words_between ws first word)
    before = record {
      well_formed = come.well_formed;
      words = take_between first word ws l ∙ ap (λ t. t ++ words_between ws first word) (come.words ∙ append-nil (spelling_all cs));
      begun = begun;
    }

    upto : words_between ws first (word + 1) ≡ words_between ws first word ++ slice_index ws word ∷ []
    upto = ap (λ n. take n (drop first ws)) (let e : word + 1 - first ≡ (word - first) + 1 = omega arith in e)
        ∙ take_more (drop first ws) (word - first) 0 (omega (arith, length-drop first ws))
        ∙ ap (λ w. take (word - first) (drop first ws) ++ w ∷ []) (at_drop first (word - first) word ws (omega arith))

-- Endings: each list of words has one, and one alone.
use Rattle.std.proofs.Common.{◌≡◌, ℕ, ◌+◌, List, [], ◌∷◌, ◌++◌, length, Some, refl, ap, sym, subst, ◌∙◌, append-nil, append_assoc}
use Rattle.std.proofs.lemmas.List.{append_cancel_left}
use Rattle.svga_cmd.specs.declared.cause.Cause.{Cause}
use Rattle.svga_cmd.specs.declared.command.Command.{Command}
use Rattle.svga_cmd.specs.declared.ending.Ending.TheVariants.{Refused, Torn, Whole}
use Rattle.svga_cmd.specs.declared.ending.Ending.{Ending}
use Rattle.svga_model.specs.Accepted.{AreWords}
use Rattle.svga_model.specs.Endings.{EndsAs, IsBadWord, IsEnding, IsFront, IsRefusedAs}
use Rattle.svga_model.specs.Progress.{HasCome}
use Rattle.svga_model.specs.Sentences.{Begins, IsSentence, IsViable, spelling_all}
use Rattle.svga_model.proofs.GrammarBadWords.{goes_on, is_whole, is_refused, judged, verdict, command_words, one_bad_word, refused_as, refused_bad_word, viable_take}
use Rattle.svga_model.proofs.GrammarFronts.{HasCome-nil, HasCome-more, HasCome-whole, come_front, come_viable, nothing_begun, one_front, refused_front}

-- all words have come, and no command is torn
pub whole_ending : (ws : List ℕ) (cs : List Command) → HasCome ws cs [] → IsEnding ws cs Whole
whole_ending ws cs come = record { front = come_front ws cs [] come; ends = come.words ∙ append-nil (spelling_all cs) }

sentence_come : (ds : List Command) (ws : List ℕ) → IsSentence ds ws → HasCome ws ds []
sentence_come ds ws s = record { well_formed = s.well_formed; words = s.words ∙ sym (append-nil (spelling_all ds)); begun = nothing_begun }

-- all words have come, and the last command isn't whole
pub torn_ending : (ws : List ℕ) (cs : List Command) (word : ℕ) (rest : List ℕ) → HasCome ws cs (word ∷ rest) → IsEnding ws cs (Torn (length ws))
torn_ending ws cs word rest come = record { front = come_front ws cs (word ∷ rest) come; ends = (come_viable ws cs (word ∷ rest) come, no_sentence, refl) } where
  no_sentence : (ds : List Command) → IsSentence ds ws → ⊥
  no_sentence ds s =
      let other = sentence_come ds ws s in
      let same : cs ≡ ds = one_front ws cs ds (come_front ws cs (word ∷ rest) come) (come_front ws ds [] other) in
      let words : spelling_all cs ++ word ∷ rest ≡ spelling_all cs ++ [] = sym come.words ∙ other.words ∙ ap (λ t. spelling_all t ++ []) (sym same) in
      let none : word ∷ rest ≡ [] = append_cancel_left (spelling_all cs) (word ∷ rest) [] words in
      cc

-- a word was refused
pub refused_ending : (ws : List ℕ) (cs : List Command) (front : List ℕ) (word : ℕ) (rest : List ℕ) (why : Cause) → HasCome ws cs front → (Begins (front ++ word ∷ []) → ⊥) → verdict front word ≡ Some why → IsEnding (ws ++ word ∷ rest) cs (Refused (length ws) why)
refused_ending ws cs front word rest why come refused e = record {
  front = refused_front ws cs front word rest come refused;
  ends = (refused_bad_word ws cs front word rest come refused, refused_as ws cs front word rest why come e);
}

-- the ending of words of which these have come
ending_from : (ws : List ℕ) (cs : List Command) (front : List ℕ) (rest : List ℕ) → HasCome ws cs front → AreWords (ws ++ rest) → (cs : List Command) × (end : Ending) × IsEnding (ws ++ rest) cs end
ending_from ws cs [] [] come words = (cs, Whole, subst (λ t. IsEnding t cs Whole) (sym (append-nil ws)) (whole_ending ws cs come))
ending_from ws cs (word ∷ more) [] come words = (cs, Torn (length ws), subst (λ t. IsEnding t cs (Torn (length ws))) (sym (append-nil ws)) (torn_ending ws cs word more come))
ending_from ws cs front (word ∷ rest) come words = elim (judged front word come.begun (command_words ws cs front word rest come words)) as (λ _. (cs : List Command) × (end : Ending) × IsEnding (ws ++ word ∷ rest) cs end) [
  | goes_on begun ↦
      let e = ending_from (ws ++ word ∷ []) cs (front ++ word ∷ []) rest (HasCome-more ws cs front word come begun) (subst AreWords (sym next) words) in
      (e.0, e.1, subst (λ t. IsEnding t e.0 e.1) next e.2)
  | is_whole s ↦
      let e = ending_from (ws ++ word ∷ []) (cs ++ s.0 ∷ []) [] rest (HasCome-whole ws cs front word s.0 come s.1) (subst AreWords (sym next) words) in
      (e.0, e.1, subst (λ t. IsEnding t e.0 e.1) next e.2)
  | is_refused why e none ↦ (cs, Refused (length ws) why, refused_ending ws cs front word rest why come none e)
]
  where
    next : (ws ++ word ∷ []) ++ rest ≡ ws ++ word ∷ rest
    next = append_assoc ws (word ∷ []) rest

pub some_ending : (ws : List ℕ) → AreWords ws → (cs : List Command) × (end : Ending) × IsEnding ws cs end
some_ending ws words = ending_from [] [] [] ws HasCome-nil words

viable_no_bad_word : (ws : List ℕ) (k : ℕ) → IsViable ws → IsBadWord ws k → ⊥
viable_no_bad_word ws k v bad = bad.not_after (viable_take ws (k + 1) v)

front_sentence : (ws : List ℕ) (cs : List Command) → IsFront ws cs → ws ≡ spelling_all cs → IsSentence cs ws
front_sentence ws cs f e = record { well_formed = f.stands.well_formed; words = e }

sentence_viable : (ws : List ℕ) (cs : List Command) → IsSentence cs ws → IsViable ws
sentence_viable ws cs s = come_viable ws cs [] (sentence_come cs ws s)

same_end : (ws : List ℕ) (cs : List Command) (end other : Ending) → IsFront ws cs → EndsAs end ws cs → EndsAs other ws cs → end ≡ other
same_end ws cs Whole Whole f a b = refl
same_end ws cs Whole (Refused k why) f a b = absurd (viable_no_bad_word ws k (sentence_viable ws cs (front_sentence ws cs f a)) b.0)
same_end ws cs Whole (Torn count) f a b = absurd (b.1 cs (front_sentence ws cs f a))
same_end ws cs (Refused k why) Whole f a b = absurd (viable_no_bad_word ws k (sentence_viable ws cs (front_sentence ws cs f b)) a.0)
same_end ws cs (Refused j why) (Refused k other) f a b =
    let place : j ≡ k = one_bad_word ws j k a.0 b.0 in
    let refused : IsRefusedAs ws cs k why = subst (λ n. IsRefusedAs ws cs n why) place a.1 in
    let cause : why ≡ other = let same : Some why ≡ Some other = sym refused.by_table ∙ b.1.by_table in cc in
    λ i. Refused (place i) (cause i)
same_end ws cs (Refused k why) (Torn count) f a b = absurd (viable_no_bad_word ws k b.0 a.0)
same_end ws cs (Torn count) Whole f a b = absurd (a.1 cs (front_sentence ws cs f b))
same_end ws cs (Torn count) (Refused k why) f a b = absurd (viable_no_bad_word ws k a.0 b.0)
same_end ws cs (Torn count) (Torn other) f a b = ap Torn (a.2 ∙ sym b.2)

pub one_ending : (ws : List ℕ) (cs ds : List Command) (end other : Ending) → IsEnding ws cs end → IsEnding ws ds other → (cs ≡ ds) × (end ≡ other)
one_ending ws cs ds end other a b =
    let same : cs ≡ ds = one_front ws cs ds a.front b.front in
    (same, same_end ws cs end other a.front a.ends (subst (EndsAs other ws) (sym same) b.ends))

-- words without a bad word are viable
pub good_viable : (ws : List ℕ) → AreWords ws → ((k : ℕ) → IsBadWord ws k → ⊥) → IsViable ws
good_viable ws words good = by_end (some_ending ws words) where
  by_end : (cs : List Command) × (end : Ending) × IsEnding ws cs end → IsViable ws
  by_end e = go e.0 e.1 e.2 where
    go : (cs : List Command) (end : Ending) → IsEnding ws cs end → IsViable ws
    go cs Whole e = sentence_viable ws cs (front_sentence ws cs e.front e.ends)
    go cs (Refused k why) e = absurd (good k e.ends.0)
    go cs (Torn count) e = e.ends.0

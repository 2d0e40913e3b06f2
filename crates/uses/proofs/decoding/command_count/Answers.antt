use Rattle.std.proofs.Common.{◌≡◌, ℕ, ◌+◌, List, [], ◌++◌, take, drop, refl, sym, subst, ◌∙◌, append-nil}
use Rattle.std.proofs.lemmas.List.{take-append-drop}
use Rattle.svga_cmd.specs.declared.command.Command.{Command}
use Rattle.svga_cmd.specs.declared.ending.Ending.{Ending}
use Rattle.svga_cmd.specs.declared.ending.Ending.TheVariants.{Whole, Refused, Torn}
use Rattle.svga_model.specs.Endings.{IsEnding}
use Rattle.svga_model.specs.Sentences.{IsSentence, IsViable}
use Rattle.uses.proofs.decoding.command_count.Goals as goal

-- words that end otherwise than whole are no sentence
no_sentence : (beginning : (ws rest : List ℕ) → IsViable (ws ++ rest) → IsViable ws) (ws : List ℕ) (ds : List Command) (ending : Ending)
    → IsEnding ws ds ending → (ending ≡ Whole → ⊥) → (cs : List Command) → IsSentence cs ws → ⊥
no_sentence beginning ws ds Whole ends not_whole cs sentence = not_whole refl
no_sentence beginning ws ds (Torn count) ends not_whole cs sentence = ends.ends.1 cs sentence
no_sentence beginning ws ds (Refused k cause) ends not_whole cs sentence =
    let whole : (take (k + 1) ws ++ drop (k + 1) ws) ++ [] ≡ ws = append-nil _ ∙ take-append-drop (k + 1) ws in
    ends.ends.0.not_after (beginning (take (k + 1) ws) (drop (k + 1) ws) (cs, [], subst (IsSentence cs) (sym whole) sentence))

pub returns-in_default : goal.returns-in_default
returns-in_default c = record {
  some = tt;
  ready = λ some. cc;
  none = λ _. no_sentence c.viable_words.ensures.beginning c.args.words.now c.scan-scanned.ensures.0 c.scan-scanned.result.ending c.scan-scanned.ensures.1.ending c.in_default.not-Whole;
}

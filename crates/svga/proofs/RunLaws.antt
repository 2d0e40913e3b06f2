-- How a run ends, from what its last call did.
use Rattle.std.proofs.Common.{◌≡◌, ◌≢◌, ◌↔◌, ◌-◌, ◌⊎◌, IfSome, IsSome, inl, inr, ℕ, ◌≤◌, ◌<◌, ◌+◌, List, [], length, Some, None, refl, sym, ap, subst, ◌∙◌, append-nil, arith}
use Rattle.std.proofs.lemmas.List.{length-map}
use Rattle.std.proofs.lemmas.Option.{slice_get_past}
use Rattle.std.specs.Option.{option_and_then}
use Rattle.std.specs.Prelude.{Bool, Option, String}
use Rattle.std.specs.declared.alloc.Global.{Global}
use Rattle.svga.specs.Bytes.{IsEndingOfBytes, IsSentenceInBytes, torn_by, words_in}
use Rattle.svga.specs.Due.{IsComplete, IsDue, IsEnded, IsRun, SourceTells, GivesAll, TakesAtMost, TakesMore, WasHad, had, read_fault, too_long, source_tells, usage}
use Rattle.svga.specs.Forms.{AsksFor, every_form, IsAsked, plain_form, form_word}
use Rattle.svga.specs.Inputs.{IsOfInput, IsReplayed, IsWholeInput, TellsInput, no_capture, no_script, raced, replayed}
use Rattle.svga.specs.ReplayTexts.{replay_status, replay_text}
use Rattle.svga.specs.Telling.{Tells}
use Rattle.svga.specs.Texts.{words_status, words_text}
use Rattle.svga.specs.declared.form.Form.{Form}
use Rattle.svga.specs.declared.form.Form.TheVariants.{Words, Replay, Race}
use Rattle.svga_cmd.specs.declared.command.Command.{Command}
use Rattle.svga_cmd.specs.declared.constants.TheConstants.{MAX_INPUT_BYTES}
use Rattle.svga_cmd.specs.declared.ending.Ending.{Ending}
use Rattle.svga_cmd.specs.declared.ending.Ending.TheVariants.{Refused, Torn, Whole}
use Rattle.svga_cmd.specs.declared.ending.ReplayEnd.{ReplayEnd}
use Rattle.svga_cmd.specs.declared.ending.ReplayEnd.TheVariants as replay
use Rattle.svga_io.specs.Growing.{Grows}
use Rattle.svga_io.specs.Taking.{taken_count}
use Rattle.svga_model.proofs.GrammarEndings.{one_ending, whole_ending}
use Rattle.svga_model.proofs.GrammarFronts.{nothing_begun}
use Rattle.svga_model.specs.Acts.{Act, Do}
use Rattle.svga_model.specs.Captures.{Capture}
use Rattle.svga_model.specs.Closings.{Closed}
use Rattle.svga_model.specs.Endings.{IsEnding}
use Rattle.svga_model.specs.Faults.{fault_of}
use Rattle.svga_model.specs.Meanings.{Refusal}
use Rattle.svga_model.specs.Replays.{acts_of, replay_end, replay_of}
use Rattle.svga_model.specs.Runs.{done, run, stopping_fault}
use Rattle.svga_model.specs.Scripts.{meaning_of}
use Rattle.svga_model.specs.Sentences.{IsSentence, spelling_all}
use Rattle.svga_model.specs.States.{State}
use Rattle.svga_text.specs.RaceTexts.{meaning_status, meaning_text}

module _ {K : Type 0} {does : Form → Bool} {words : List (String Global)} {r : SourceTells}
    {held : K → Option (List ℕ)} {faults : K → ℕ} {race : Option Closed} where
  -- a text that is due was told
  pub run_told : {before now : K} {text : List ℕ} (status answer : ℕ) → IsDue does words r status text race
      → status ≢ 5 → status ≢ 6 → Tells held faults before now text status answer
      → IsRun does words r held faults before now answer race
  run_told {before} {now} {text} status answer due not5 not6 (inl (is, grown)) = record {
    told = λ _ _. (text, subst (λ n. IsDue does words r n text race) (sym is) due, grown);
    write_fault = λ five. absurd (not5 (sym is ∙ five));
    memory = λ six. absurd (not6 (sym is ∙ six));
  }
  run_told {before} {now} {text} status answer due not5 not6 (inr (is, prefix)) = record {
    told = λ other _. absurd (other is);
    write_fault = λ _. (status, text, due, prefix);
    memory = λ six. absurd (omega arith);
  }

  -- no memory was found
  pub run_memory : (before now : K) (answer : ℕ) → answer ≡ 6 → IsAsked does words → now ≡ before
      → race ≡ None → IsRun does words r held faults before now answer race
  run_memory before now answer is asked same none = record {
    told = λ _ other. absurd (other is);
    write_fault = λ five. absurd (omega arith);
    memory = λ _. (asked, same, none);
  }

-- what `read_all` says of the bytes that it gives
pub gives_all : (before now : Option (List ℕ)) (bytes items : List ℕ) → bytes ≡ items
    → IfSome before (λ left. items ≡ left) → IfSome before (λ _. now ≡ Some []) → GivesAll before now bytes
gives_all None now bytes items same given ended = tt
gives_all (Some left) now bytes items same given ended = (same ∙ given, ended)

-- what it says of the bytes that it took, where the input isn't too long and where it is
pub takes_at_most : (before now : Option (List ℕ)) (limit : ℕ) (P : Type 0)
    → IfSome (taken_count before now) (λ n. P ↔ (limit < n)) → (P → ⊥) → (IsSome before → IsSome now)
    → TakesAtMost limit before now
takes_at_most None now limit P counts not told = tt
takes_at_most (Some left) None limit P counts not told = absurd (cc (told refl))
takes_at_most (Some left) (Some now) limit P counts not told = by (le_or_lt limit (length left - length now)) where
  le_or_lt : (n k : ℕ) → (n < k) ⊎ (k ≤ n)
  le_or_lt n k = grind arith

  by : (limit < length left - length now) ⊎ (length left - length now ≤ limit) → length left ≤ limit + length now
  by (inl more) = absurd (not (counts.1 more))
  by (inr few) = omega arith

pub takes_more : (before now : Option (List ℕ)) (limit : ℕ) (P : Type 0)
    → IfSome (taken_count before now) (λ n. P ↔ (limit < n)) → P → (IsSome before → IsSome now)
    → TakesMore limit before now
takes_more None now limit P counts long told = tt
takes_more (Some left) None limit P counts long told = absurd (cc (told refl))
takes_more (Some left) (Some now) limit P counts long told =
    let more : limit < length left - length now = counts.0 long in omega arith

-- a status that an input gets is no 5 and no 6
words_status-small : (end : Ending) → words_status end ≤ 3
words_status-small Whole = omega arith
words_status-small (Refused word cause) = omega arith
words_status-small (Torn count) = omega arith

replay_status-small : (end : ReplayEnd) → replay_status end ≤ 3
replay_status-small replay.Whole = omega arith
replay_status-small (replay.Refused word cause) = omega arith
replay_status-small (replay.Torn word) = omega arith
replay_status-small (replay.Fault command fault) = omega arith

meaning_status-small : (refused : Option Refusal) → meaning_status refused ≤ 3
meaning_status-small None = omega arith
meaning_status-small (Some r) = omega arith

status-small : (form : Form) (bytes : List ℕ) (status : ℕ) (text : List ℕ) (race : Option Closed)
    → IsOfInput form bytes status text race → status ≤ 3
status-small Words bytes status text race (of, none) = omega (arith, of.status_is, words_status-small of.end)
status-small Replay bytes status text race (replayed c is of, none) =
    let end = (replay_of c.opening of.commands of.end).ending in omega (arith, of.status_is, replay_status-small end)
status-small Replay bytes status text race (no_capture byte cause is status_is text_is, none) = omega arith
status-small Race bytes status text race (raced s is session opened closed some meant status_is text_is) =
    omega (arith, status_is, meaning_status-small (meaning_of s).refused)
status-small Race bytes status text race (no_script f is none status_is text_is) = omega arith

-- a sentence ends whole
sentence_ending : (cs : List Command) (ws : List ℕ) → IsSentence cs ws → IsEnding ws cs Whole
sentence_ending cs ws sentence = whole_ending ws cs (record {
  well_formed = sentence.well_formed;
  words = sentence.words ∙ sym (append-nil (spelling_all cs));
  begun = nothing_begun;
})

-- a sentence in bytes is whole, and its commands are those of the front
sentence_in_bytes : (bytes : List ℕ) (cs ds : List Command) (end : Ending) → IsSentenceInBytes cs bytes
    → IsEndingOfBytes bytes ds end → (ds ≡ cs) × (end ≡ Whole)
sentence_in_bytes bytes cs ds end sentence ending =
    let whole = sentence_ending cs (words_in bytes) sentence.words in
    let same = one_ending (words_in bytes) ds cs ending.of_words Whole ending.ending whole in
    (same.0, ending.of_bytes ∙ ap (torn_by bytes) same.1 ∙ no_rest)
  where
    no_rest : torn_by bytes Whole ≡ Whole
    no_rest = rw sentence.whole

-- a run that does all acts stops at no fault
all_done : (s : State) (acts : List Act) → done s acts ≡ length acts → stopping_fault s acts ≡ None
all_done s acts all =
    ap (option_and_then (fault_of (run s acts))) (slice_get_past acts (done s acts) (omega arith))

-- and a replay that does all commands ends as its words do
whole_end : (s : State) (cs : List Command) → done s (acts_of cs) ≡ length cs
    → (replay_of s cs Whole).ending ≡ replay.Whole
whole_end s cs all =
    let no_fault = all_done s (acts_of cs) (all ∙ sym (length-map cs Do)) in
    ap (λ fault. replay_end (done s (acts_of cs)) fault Whole) no_fault

replayed_whole : (c d : Capture) (cs : List Command) (status : ℕ) (text : List ℕ) → d ≡ c → IsSentence cs c.words
    → done c.opening (acts_of cs) ≡ length cs → IsReplayed d status text
    → (status ≡ 0) × (text ≡ replay_text (replay_of c.opening cs Whole))
replayed_whole c d cs status text same sentence all of =
    let ending = subst (λ (t : Capture). IsEnding t.words of.commands of.end) same of.ending in
    let one = one_ending c.words of.commands cs of.end Whole ending (sentence_ending cs c.words sentence) in
    let replays : replay_of d.opening of.commands of.end ≡ replay_of c.opening cs Whole
    = λ i. replay_of (same i).opening (one.0 i) (one.1 i) in (
      of.status_is ∙ ap (λ r. replay_status r.ending) replays ∙ ap replay_status (whole_end c.opening cs all),
      of.text_is ∙ ap replay_text replays,
    )

-- an input that is whole gets status 0 and its text
told_whole : (form : Form) (bytes : List ℕ) (status : ℕ) (text due : List ℕ) (race : Option Closed)
    → IsWholeInput form bytes due → IsOfInput form bytes status text race → (status ≡ 0) × (text ≡ due)
told_whole Words bytes status text due race (cs, sentence, is) (of, none) =
    let whole = sentence_in_bytes bytes cs of.commands of.end sentence of.ending in
    (of.status_is ∙ ap words_status whole.1, of.text_is ∙ (λ i. words_text (whole.0 i) (whole.1 i)) ∙ sym is)
told_whole Replay bytes status text due race (c, held, cs, sentence, all, is) (replayed d held_too of, none) =
    let told = replayed_whole c d cs status text (cc (held, held_too)) sentence all of in
    (told.0, told.1 ∙ sym is)
told_whole Replay bytes status text due race whole (no_capture byte cause none status_is text_is, no_race) =
    absurd (cc (whole.1, none))
told_whole Race bytes status text due race (s, read, whole, is)
    (raced t also session opened closed some meant status_is text_is) =
    let same : t ≡ s = cc (read, also) in (
      status_is ∙ ap (λ u. meaning_status (meaning_of u).refused) same ∙ ap meaning_status whole,
      text_is ∙ ap (λ u. meaning_text (meaning_of u)) same ∙ sym is,
    )
told_whole Race bytes status text due race whole (no_script f none no_race status_is text_is) =
    absurd (cc (whole.1, none))

-- words ask for one form
one_form : (does : Form → Bool) (words : List (String Global)) (form other : Form) → AsksFor does form words
    → AsksFor does other words → form ≡ other
one_form does words form other asked also = by form other (cc (asked.1, also.1)) where
  by : (f g : Form) → form_word f ≡ form_word g → f ≡ g
  by Words Words e = refl
  by Words Replay e = absurd (cc e)
  by Words Race e = absurd (cc e)
  by Replay Words e = absurd (cc e)
  by Replay Replay e = refl
  by Replay Race e = absurd (cc e)
  by Race Words e = absurd (cc e)
  by Race Replay e = absurd (cc e)
  by Race Race e = refl

-- which bytes were read, where a source told these
given : (bytes read : List ℕ) (before now : Option (List ℕ)) → before ≡ Some bytes → GivesAll before now read
    → read ≡ bytes
given bytes read before now told gives = (subst (λ t. GivesAll t now read) told gives).0

not_more : (bytes : List ℕ) (before now : Option (List ℕ)) (limit : ℕ) → before ≡ Some bytes → length bytes ≤ limit
    → TakesMore limit before now → ⊥
not_more bytes before now limit told few more = by now (subst (λ t. TakesMore limit t now) told more) where
  by : (n : Option (List ℕ)) → TakesMore limit (Some bytes) n → ⊥
  by None taken = taken
  by (Some left) taken = absurd (omega arith)

is_or_not : (n k : ℕ) → (n ≡ k) ⊎ (n ≢ k)
is_or_not n k = grind arith

module _ {K : Type 0} {does : Form → Bool} {words : List (String Global)} {s : SourceTells}
    {held : K → Option (List ℕ)} {faults : K → ℕ} {before now : K} {race : Option Closed} where
  -- an input was had, and was told what it gets
  pub run_input : (form : Form) (bytes : List ℕ) (answer : ℕ) → AsksFor does form words → WasHad s bytes
      → TellsInput held faults before now form bytes answer race
      → IsRun does words s held faults before now answer race
  run_input form bytes answer asked was (inl (is, same, none)) =
      run_memory before now answer is (form, asked) same none
  run_input form bytes answer asked was (inr (status, text, of, told)) =
      let small = status-small form bytes status text race of in
      run_told status answer (had form asked bytes was of) (λ e. absurd (omega arith)) (λ e. absurd (omega arith)) told

  -- the same, where the bytes were read and then told
  pub run_read : {middle : K} (form : Form) (bytes items : List ℕ) (answer : ℕ) → AsksFor does form words
      → bytes ≡ items → (middle ≡ before) × WasHad s items
      → TellsInput held faults middle now form bytes answer race
      → IsRun does words s held faults before now answer race
  run_read form bytes items answer asked same (kept, was) told =
      run_input form bytes answer asked (subst (WasHad s) (sym same) was)
      (subst (λ m. TellsInput held faults m now form bytes answer race) kept told)

  -- an input that is whole is told whole
  pub run_complete : (status : ℕ) → IsRun does words s held faults before now status race
      → IsComplete does words s held faults before now status
  run_complete status run form bytes due asked told few whole steady sink_steady =
      by (is_or_not status 5) (is_or_not status 6)
    where
      zero_of : {text : List ℕ} → IsDue does words s status text race → (status ≡ 0) × (text ≡ due)
      zero_of (usage none is text_is no_race) = absurd (none (form, asked))
      zero_of {text} (had other also read was of) =
          let same = given bytes read s.before s.now told was.all in
          let of_these = subst (λ t. IsOfInput other t status text race) same of in
          let of_form = subst (λ f. IsOfInput f bytes status text race)
          (one_form does words other form also asked) of_these in
          told_whole form bytes status text due race whole of_form
      zero_of (read_fault also rose few_taken is text_is no_race) = absurd (steady rose)
      zero_of (too_long also more is text_is no_race) =
          absurd (not_more bytes s.before s.now MAX_INPUT_BYTES told few more)

      by : (status ≡ 5) ⊎ (status ≢ 5) → (status ≡ 6) ⊎ (status ≢ 6)
          → ((status ≡ 0) × Grows held faults before now due) ⊎ (status ≡ 6)
      by (inl five) other = absurd (sink_steady (run.write_fault five).3.cause)
      by (inr not5) (inl six) = inr six
      by (inr not5) (inr not6) =
          let last = run.told not5 not6 in
          let zero = zero_of last.1 in
          inl (zero.0, subst (Grows held faults before now) zero.1 last.2)

-- a run ends so, of which nothing was read where the words are no form
pub is_ended : {S K : Type 0} {does : Form → Bool} {words : List (String Global)}
    {left : S → Option (List ℕ)} {source_faults : S → ℕ} {source source_now : S} {held : K → Option (List ℕ)}
    {faults : K → ℕ} {sink sink_now : K} {race : Option Closed} (status : ℕ)
    → IsRun does words (source_tells left source_faults source source_now) held faults sink sink_now status race
    → ((IsAsked does words → ⊥) → source_now ≡ source)
    → IsEnded does words left source_faults source source_now held faults sink sink_now status race
is_ended status run unread = record { run = run; unread = unread; complete = run_complete status run }

-- words that don't ask for a race ask for no more than for the forms that wait for nobody
not_race : (words : List (String Global)) → (AsksFor every_form Race words → ⊥)
    → (form : Form) → AsksFor every_form form words → AsksFor plain_form form words
not_race words none Words asked = (refl, asked.1)
not_race words none Replay asked = (refl, asked.1)
not_race words none Race asked = absurd (none asked)

of_plain : (words : List (String Global)) (form : Form) → AsksFor plain_form form words → AsksFor every_form form words
of_plain words form asked = (refl, asked.1)

module _ {words : List (String Global)} {s : SourceTells} {race : Option Closed}
    (none : AsksFor every_form Race words → ⊥) where
  due_of_plain : {status : ℕ} {text : List ℕ} → IsDue plain_form words s status text race
      → IsDue every_form words s status text race
  due_of_plain (usage unasked is text_is no_race) =
      usage (λ asked. unasked (asked.0, not_race words none asked.0 asked.1)) is text_is no_race
  due_of_plain (had form asked read was of) = had form (of_plain words form asked) read was of
  due_of_plain (read_fault asked rose few is text_is no_race) =
      read_fault (asked.0, of_plain words asked.0 asked.1) rose few is text_is no_race
  due_of_plain (too_long asked more is text_is no_race) =
      too_long (asked.0, of_plain words asked.0 asked.1) more is text_is no_race

  -- and so a run of these is one of all forms
  run_of_plain : {K : Type 0} {held : K → Option (List ℕ)} {faults : K → ℕ} {before now : K} (status : ℕ)
      → IsRun plain_form words s held faults before now status race
      → IsRun every_form words s held faults before now status race
  run_of_plain status run = record {
    told = λ not5 not6. let (text, due, grown) = run.told not5 not6 in (text, due_of_plain due, grown);
    write_fault = λ five. let (status_due, text, due, prefix) = run.write_fault five in
        (status_due, text, due_of_plain due, prefix);
    memory = λ six. let (asked, same, no_race) = run.memory six in
        ((asked.0, of_plain words asked.0 asked.1), same, no_race);
  }

pub ended_of_plain : {S K : Type 0} {words : List (String Global)}
    {left : S → Option (List ℕ)} {source_faults : S → ℕ} {source source_now : S} {held : K → Option (List ℕ)}
    {faults : K → ℕ} {sink sink_now : K} {race : Option Closed} (status : ℕ)
    → (AsksFor every_form Race words → ⊥)
    → IsEnded plain_form words left source_faults source source_now held faults sink sink_now status race
    → IsEnded every_form words left source_faults source source_now held faults sink sink_now status race
ended_of_plain {words = words} status none ended = is_ended status (run_of_plain none status ended.run)
    (λ unasked. ended.unread (λ asked. unasked (asked.0, of_plain words asked.0 asked.1)))

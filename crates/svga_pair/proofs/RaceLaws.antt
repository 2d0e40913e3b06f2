-- The acts of a script, from the first to the last, and what is written meanwhile.
use Rattle.std.proofs.Common.{◌≡◌, ℕ, zero, suc, ◌+◌, ◌<◌, List, [], ◌∷◌, ◌++◌, length, take, drop, Bool, true, false, refl, sym, ap, subst, ◌∙◌, Option, Some, None, option_map, option_to_list, Ok, Err, append-nil, append_assoc, slice_index_or, take-append-drop, take-suc, arith}
use Rattle.std.proofs.lemmas.List.Concat.{flat_map-append}
use Rattle.std.specs.List.{flat_map, slice_get}
use Rattle.svga_driver.specs.Driving.{DriverHas, client_in}
use Rattle.svga_io.proofs.Chains.{Grows-nil, Grows-then, GrowsByPrefix-first, GrowsByPrefix-then}
use Rattle.svga_model.proofs.MeaningLaws.{meaning_ends, meaning_goes_on}
use Rattle.svga_model.specs.ClientActs.{ClientAct, NextFence, calls_of}
use Rattle.svga_model.specs.Clients.{Client}
use Rattle.svga_model.specs.Meanings.{LineAct, LineCall, Meaning, joined, line_calls, meaning_from}
use Rattle.svga_model.specs.Closings.{stores_of}
use Rattle.svga_model.specs.Scripts.{Script, meaning_of}
use Rattle.svga_model.specs.Sentences.{spelling_all}
use Rattle.svga_pair.proofs.DriverLaws.{goes_then}
use Rattle.svga_pair.proofs.FreshLaws.{all_sent, all_stored, fresh_meaning}
use Rattle.svga_pair.specs.Answering.{told_in}
use Rattle.svga_pair.specs.Going.{GoesOn, IsFresh}
use Rattle.svga_pair.specs.Racing.{AreDone, AreEnded, HasRaced, IsOneRefused, in_line}
use Rattle.svga_pair.specs.Refusals.{IsTold}
use Rattle.svga_pair.specs.Written.{IsWritten, IsWrittenOn}
use Rattle.svga_pair.specs.declared.answer.Refused.{Refused}
use Rattle.svga_pair.specs.declared.answer.Told.{Told}
use Rattle.svga_pair.specs.declared.raced.Refusal.{Refusal}
use Rattle.svga_text.specs.RaceTexts.{told_text}

-- act i, with its line
abbrev pub act_at : List LineAct → ℕ → LineAct
act_at acts i = slice_index_or acts i (record { line = 0; act = NextFence })

pub act_is : (acts : List LineAct) (i : ℕ) (act : ClientAct) → i < length acts
    → option_map (λ (a : LineAct). a.act) (slice_get acts i) ≡ Some act → (act_at acts i).act ≡ act
act_is [] i act low is = absurd (omega arith)
act_is (a ∷ acts) zero act low is = cc is
act_is (a ∷ acts) (suc i) act low is = act_is acts i act (omega arith) is

pub line_is : (acts : List LineAct) (i line : ℕ) → i < length acts
    → option_map (λ (a : LineAct). a.line) (slice_get acts i) ≡ Some line → (act_at acts i).line ≡ line
line_is [] i line low is = absurd (omega arith)
line_is (a ∷ acts) zero line low is = cc is
line_is (a ∷ acts) (suc i) line low is = line_is acts i line (omega arith) is

-- the calls of an act in its line
abbrev calls_at : LineAct → List LineCall
calls_at a = in_line a.line (calls_of a.act)

-- the calls of one act more, and those of all acts
one_more : (acts : List LineAct) (i : ℕ) → i < length acts
    → line_calls (take (i + 1) acts) ≡ line_calls (take i acts) ++ calls_at (act_at acts i)
one_more acts i low =
    ap (λ n. line_calls (take n acts)) (let e : i + 1 ≡ suc i = omega arith in e)
    ∙ ap line_calls (take-suc acts i (record { line = 0; act = NextFence }) low)
    ∙ flat_map-append calls_at (take i acts) (act_at acts i ∷ [])
    ∙ ap (λ l. line_calls (take i acts) ++ l) (append-nil (calls_at (act_at acts i)))

all_calls : (acts : List LineAct) (i : ℕ) → i < length acts
    → line_calls acts
    ≡ line_calls (take i acts) ++ (calls_at (act_at acts i) ++ line_calls (drop (suc i) acts))
all_calls acts i low =
    ap line_calls (sym (take-append-drop (suc i) acts)
    ∙ ap (λ l. l ++ drop (suc i) acts) (take-suc acts i (record { line = 0; act = NextFence }) low)
    ∙ append_assoc (take i acts) (act_at acts i ∷ []) (drop (suc i) acts))
    ∙ flat_map-append calls_at (take i acts) (act_at acts i ∷ drop (suc i) acts)

none_told : (m : Meaning) → m.told ≡ [] → flat_map told_text m.told ≡ []
none_told m none = ap (flat_map told_text) none

module _ {K : Type 0} (held : K → Option (List ℕ)) (faults : K → ℕ) where
  -- a text behind another
  written_on : (before between now : K) (text more : List ℕ) (failed fails : Bool)
      → IsWritten held faults before between text failed
      → IsWrittenOn held faults failed between now more fails
      → IsWritten held faults before now (text ++ more) fails
  written_on before between now text more false false old new = Grows-then old new
  written_on before between now text more false true old new = GrowsByPrefix-then old new
  written_on before between now text more true fails old new =
      subst (λ b. IsWritten held faults before now (text ++ more) b) (sym new.1)
      (GrowsByPrefix-first more (subst (λ k. IsWritten held faults before k text true) (sym new.0) old))

  pub race_begins : (first : Client) (sink : K) → HasRaced held faults first [] first sink sink false
  race_begins first sink = record { none = refl; client_is = refl; text = Grows-nil sink }

  -- calls more that are done
  calls_done : (first now next : Client) (calls more : List LineCall) (told : Told) (before between after : K)
      (failed fails : Bool) → HasRaced held faults first calls now before between failed
      → AreDone (meaning_from now more) told next
      → IsWrittenOn held faults failed between after
      (flat_map told_text (option_to_list (told_in next told))) fails
      → HasRaced held faults first (calls ++ more) next before after fails
  calls_done first now next calls more told before between after failed fails o is written = record {
    none = ap (λ (m : Meaning). m.refused) whole ∙ ap (λ c. (meaning_from c more).refused) (sym o.client_is) ∙ is.none;
    client_is = is.client_is ∙ ap (λ c. (meaning_from c more).client) o.client_is
        ∙ sym (ap (λ (m : Meaning). m.client) whole);
    text = subst (λ text. IsWritten held faults before after text fails) (sym same)
        (written_on before between after (flat_map told_text (meaning_from first calls).told)
        (flat_map told_text (option_to_list (told_in next told))) failed fails o.text written);
  }
    where
      last : Client
      last = (meaning_from first calls).client

      whole : meaning_from first (calls ++ more) ≡ joined (meaning_from first calls) (meaning_from last more)
      whole = meaning_goes_on first calls more o.none

      told_is : (meaning_from last more).told ≡ option_to_list (told_in next told)
      told_is = ap (λ c. (meaning_from c more).told) (sym o.client_is) ∙ is.told_is

      same : flat_map told_text (meaning_from first (calls ++ more)).told
          ≡ flat_map told_text (meaning_from first calls).told
          ++ flat_map told_text (option_to_list (told_in next told))
      same = ap (λ (m : Meaning). flat_map told_text m.told) whole
          ∙ ap (λ ts. flat_map told_text ((meaning_from first calls).told ++ ts)) told_is
          ∙ flat_map-append told_text (meaning_from first calls).told (option_to_list (told_in next told))

  -- what a race leaves that means this
  pub record Leaves (m : Meaning) (refused : Option Refusal) (now : Client) (before after : K)
      (failed : Bool) : Type 0 where
    pub client : now ≡ m.client
    pub told : IsTold refused m.refused
    pub text : IsWritten held faults before after (flat_map told_text m.told) failed

  -- calls one of which is refused: those behind it mean nothing
  calls_refused : (first now next : Client) (calls more rest : List LineCall) (line : ℕ) (r : Refused)
      (before after : K)
      (failed : Bool) → HasRaced held faults first calls now before after failed
      → IsOneRefused line (meaning_from now more) r next
      → Leaves (meaning_from first (calls ++ (more ++ rest)))
      (Some (record { line = line; number = r.number; key = r.key })) next before after failed
  calls_refused first now next calls more rest line r before after failed o is = record {
    client = is.client_is ∙ sym (ap (λ (m : Meaning). m.client) here);
    told = subst (λ f. IsTold (Some (record { line = line; number = r.number; key = r.key })) f)
        (sym (ap (λ (m : Meaning). m.refused) here ∙ is.refused)) (refl, is.number_is, is.key_is);
    text = subst (λ text. IsWritten held faults before after text failed) (sym same) o.text;
  }
    where
      last : Client
      last = (meaning_from first calls).client

      some : (meaning_from now more).refused ≡ None → ⊥
      some none = absurd (cc (is.refused, none))

      here : meaning_from first (calls ++ (more ++ rest)) ≡ joined (meaning_from first calls)
          (meaning_from now more)
      here = meaning_goes_on first calls (more ++ rest) o.none
          ∙ ap (λ c. joined (meaning_from first calls) (meaning_from c (more ++ rest))) (sym o.client_is)
          ∙ ap (joined (meaning_from first calls)) (meaning_ends now more rest some)

      same : flat_map told_text (meaning_from first (calls ++ (more ++ rest))).told
          ≡ flat_map told_text (meaning_from first calls).told
      same = ap (λ (m : Meaning). flat_map told_text m.told) here
          ∙ ap (λ ts. flat_map told_text ((meaning_from first calls).told ++ ts)) is.none_told
          ∙ ap (flat_map told_text) (append-nil (meaning_from first calls).told)

  -- an act more is done
  pub race_goes : (acts : List LineAct) (i : ℕ) (act : ClientAct) (first now next : Client) (told : Told)
      (before between after : K) (failed fails : Bool) → i < length acts
      → option_map (λ (a : LineAct). a.act) (slice_get acts i) ≡ Some act
      → HasRaced held faults first (line_calls (take i acts)) now before between failed
      → ((line : ℕ) → AreEnded line now (calls_of act) (Ok told) next)
      → IsWrittenOn held faults failed between after
      (flat_map told_text (option_to_list (told_in next told))) fails
      → HasRaced held faults first (line_calls (take (i + 1) acts)) next before after fails
  race_goes acts i act first now next told before between after failed fails low here o is written =
      subst (λ calls. HasRaced held faults first calls next before after fails) (sym (one_more acts i low))
      (calls_done first now next (line_calls (take i acts)) (calls_at (act_at acts i)) told before between after
      failed fails o
      (subst (λ a. AreDone (meaning_from now (in_line (act_at acts i).line (calls_of a))) told next)
      (sym (act_is acts i act low here)) (is (act_at acts i).line)) written)

  -- or refused
  pub race_ends : (acts : List LineAct) (i line : ℕ) (act : ClientAct) (first now next : Client) (r : Refused)
      (before after : K) (failed : Bool) → i < length acts
      → option_map (λ (a : LineAct). a.act) (slice_get acts i) ≡ Some act
      → option_map (λ (a : LineAct). a.line) (slice_get acts i) ≡ Some line
      → HasRaced held faults first (line_calls (take i acts)) now before after failed
      → ((line : ℕ) → AreEnded line now (calls_of act) (Err r) next)
      → Leaves (meaning_from first (line_calls acts))
      (Some (record { line = line; number = r.number; key = r.key })) next before after failed
  race_ends acts i line act first now next r before after failed low here there o is =
      subst (λ calls. Leaves (meaning_from first calls)
      (Some (record { line = line; number = r.number; key = r.key })) next before after failed)
      (sym (all_calls acts i low))
      (calls_refused first now next (line_calls (take i acts)) (calls_at (act_at acts i))
      (line_calls (drop (suc i) acts)) line r before after failed o
      (subst (λ n. IsOneRefused line (meaning_from now (in_line n (calls_of (act_at acts i).act))) r next)
      (sym (line_is acts i line low there))
      (subst (λ a. IsOneRefused line (meaning_from now (in_line line (calls_of a))) r next)
      (sym (act_is acts i act low here)) (is line))))

  -- all acts are done
  pub race_done : (acts : List LineAct) (n : ℕ) (first now : Client) (before after : K) (failed : Bool)
      → n ≡ length acts → HasRaced held faults first (line_calls (take n acts)) now before after failed
      → Leaves (meaning_from first (line_calls acts)) None now before after failed
  race_done acts n first now before after failed all o =
      let same = ap (λ n. take n acts) all ∙ take_all acts in
      let whole = subst (λ all. HasRaced held faults first (line_calls all) now before after failed) same o in record {
        client = whole.client_is;
        told = subst (λ f. IsTold None f) (sym whole.none) tt;
        text = whole.text;
      }
    where
      take_all : (acts : List LineAct) → take (length acts) acts ≡ acts
      take_all [] = refl
      take_all (a ∷ acts) = ap (λ l. a ∷ l) (take_all acts)

  -- what a driver is left with that did a script
  pub record IsLeft (s : Script) (refused : Option Refusal) (left : DriverHas) (before after : K)
      (failed : Bool) : Type 0 where
    pub leaves : Leaves (meaning_of s) refused (client_in left) before after failed
    pub sent : left.view.sent ≡ spelling_all (meaning_of s).client.commands
    pub stores : left.view.next_stores ≡ stores_of s.session.way (meaning_of s).client.commands

  left_so : (s : Script) (d left : DriverHas) (n : ℕ) (refused : Option Refusal) (before after : K)
      (failed : Bool)
      → IsFresh s.session d → GoesOn d n left
      → Leaves (meaning_from (client_in d) (line_calls s.acts)) refused (client_in left) before after failed
      → IsLeft s refused left before after failed
  left_so s d left n refused before after failed fresh goes o =
      let here = subst (λ m. Leaves m refused (client_in left) before after failed) (fresh_meaning s d fresh) o in record {
        leaves = here;
        sent = all_sent s.session d left n (meaning_of s).client fresh goes here.client;
        stores = all_stored s.session d left n (meaning_of s).client fresh goes here.client;
      }

  pub ended : (s : Script) (d now next : DriverHas) (i line : ℕ) (act : ClientAct) (r : Refused)
      (before after : K)
      (failed : Bool) → IsFresh s.session d → i < length s.acts
      → option_map (λ (a : LineAct). a.act) (slice_get s.acts i) ≡ Some act
      → option_map (λ (a : LineAct). a.line) (slice_get s.acts i) ≡ Some line
      → HasRaced held faults (client_in d) (line_calls (take i s.acts)) (client_in now) before after failed
      → GoesOn d i now → ((line : ℕ) → AreEnded line (client_in now) (calls_of act) (Err r) (client_in next))
      → GoesOn now 1 next
      → IsLeft s (Some (record { line = line; number = r.number; key = r.key })) next before after failed
  ended s d now next i line act r before after failed fresh low here there o goes is more =
      left_so s d next (i + 1) (Some (record { line = line; number = r.number; key = r.key })) before after failed
      fresh (goes_then d now next i 1 goes more)
      (race_ends s.acts i line act (client_in d) (client_in now) (client_in next) r before after failed low here
      there o is)

  pub all_ended : (s : Script) (d left : DriverHas) (n : ℕ) (before after : K) (failed : Bool)
      → IsFresh s.session d
      → n ≡ length s.acts
      → HasRaced held faults (client_in d) (line_calls (take n s.acts)) (client_in left) before after failed
      → GoesOn d n left → IsLeft s None left before after failed
  all_ended s d left n before after failed fresh all o goes =
      left_so s d left n None before after failed fresh goes
      (race_done s.acts n (client_in d) (client_in left) before after failed all o)

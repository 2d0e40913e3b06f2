-- An act more at the end: it is admissible, what is in front of the others stays, and what is sound of acts
-- stays so.
use Rattle.std.proofs.Common.{◌≡◌, ◌≢◌, ◌⊎◌, inl, inr, ℕ, zero, suc, ◌+◌, ◌<◌, List, [], ◌∷◌, ◌++◌, length, All, true, Some, is_none, refl, sym, ap, subst, ◌∙◌, arith, append_assoc, append-nil, length-append}
use Rattle.std.proofs.lemmas.Bool.{cases_lt}
use Rattle.std.proofs.lemmas.List.{get_or_append_left}
use Rattle.std.proofs.lemmas.List.Elements.{All-append, All-cons, All-nil}
use Rattle.std.proofs.lemmas.Option.{same_Some, slice_get_within}
use Rattle.std.specs.FinMap as map
use Rattle.std.specs.List.{slice_get}
use Rattle.svga_cmd.specs.declared.command.Command.{Command}
use Rattle.svga_cmd.specs.declared.limits.Limits.{Limits}
use Rattle.svga_cmd.specs.declared.page.PageKey.{PageKey}
use Rattle.svga_model.proofs.RunLaws.{done-first, head_same, run_whole, tail_same}
use Rattle.svga_model.specs.Acts.{Act, Do, Put, Chain, IsAct}
use Rattle.svga_model.specs.Faults.{IsAdmissible}
use Rattle.svga_model.specs.Members.{IsIn}
use Rattle.svga_model.specs.Memories.{page_bytes}
use Rattle.svga_model.specs.Runs.{done, run}
use Rattle.svga_model.specs.States.{Kept, State, opening_state}
use Rattle.svga_model.specs.Touches.{IsPut, Touches}
use Rattle.svga_ring.proofs.Acts.Settled.{AreChainsDone}
use Rattle.svga_ring.proofs.Words.NextCommand.{commands-append}
use Rattle.svga_ring.specs.Committed.{before, behind, commands}
use Rattle.svga_ring.specs.Noting.{NotedPages}
use Rattle.svga_ring.specs.Requests.{IsChainOut, Request, is_chain_out}
use Rattle.svga_ring.specs.SoundActs.{AreAdmissible}
use Rattle.svga_ring.specs.SoundPages.{ChainTouches, IsLastChain, IsRunSoFar, PutsPage, TouchesAt, TouchesInHand, by_chain, by_command, reached}
use Rattle.svga_ring.specs.SoundRequests.{AreRequests}
use Rattle.svga_ring.specs.Views.{Noted}

-- an act more that is admissible
pub acts_more : (l : Limits) (first : ℕ) (acts : List Act) (x : Act) → IsAct l x
    → IsAdmissible (run (opening_state l first) acts) x
    → AreAdmissible l first acts → AreAdmissible l first (acts ++ x ∷ [])
acts_more l first acts x is admissible o =
    let s = opening_state l first in
    let whole = (run_whole s acts (x ∷ []) o.in_turn).1 in
    let one = done-first (run s acts) x [] true (ap is_none admissible) in record {
      each = All-append (IsAct l) acts (x ∷ []) o.each (All-cons (IsAct l) x [] is (All-nil (IsAct l)));
      in_turn = omega (arith, whole, one, o.in_turn, length-append acts (x ∷ []));
    }

-- a command that is there
pub there : (s : State) (acts : List Act) (n : ℕ) (key : PageKey) → TouchesAt s acts n key
    → n < length (commands acts)
there s acts n key touched = slice_get_within (commands acts) n touched.0 touched.1

before_append : (acts more : List Act) (n : ℕ) → n < length (commands acts)
    → before n (acts ++ more) ≡ before n acts
before_append [] more n low = absurd (omega arith)
before_append (Do c ∷ acts) more zero low = refl
before_append (Do c ∷ acts) more (suc n) low = ap (λ l. Do c ∷ l) (before_append acts more n (omega arith))
before_append (act ∷ acts) more n low = ap (λ l. act ∷ l) (before_append acts more n low)

-- so it is with a command
command_append : (acts more : List Act) (n : ℕ) → n < length (commands acts)
    → slice_get (commands (acts ++ more)) n ≡ slice_get (commands acts) n
command_append acts more n low =
    ap (λ cs. slice_get cs n) (commands-append acts more) ∙ get_append (commands acts) (commands more) n low
  where
    get_append : (cs ds : List Command) (i : ℕ) → i < length cs → slice_get (cs ++ ds) i ≡ slice_get cs i
    get_append [] ds i less = absurd (omega arith)
    get_append (c ∷ cs) ds zero less = refl
    get_append (c ∷ cs) ds (suc i) less = get_append cs ds i (omega arith)

-- an act more that is no command
pub commands_still : (acts : List Act) (x : Act) → commands (x ∷ []) ≡ []
    → commands (acts ++ x ∷ []) ≡ commands acts
commands_still acts x none =
    commands-append acts (x ∷ []) ∙ ap (λ cs. commands acts ++ cs) none ∙ append-nil (commands acts)

-- what a command touches in its turn
pub touches_still : (s : State) (acts more : List Act) (n : ℕ) (key : PageKey) → TouchesAt s acts n key
    → TouchesAt s (acts ++ more) n key
touches_still s acts more n key touched =
    let low : n < length (commands acts) = there s acts n key touched in (
      touched.0,
      command_append acts more n low ∙ touched.1,
      subst (λ l. Touches (run s l) (Do touched.0) key) (sym (before_append acts more n low)) touched.2,
    )

pub touches_before : (s : State) (acts more : List Act) (n : ℕ) (key : PageKey) → n < length (commands acts)
    → TouchesAt s (acts ++ more) n key → TouchesAt s acts n key
touches_before s acts more n key low touched = (
  touched.0,
  sym (command_append acts more n low) ∙ touched.1,
  subst (λ l. Touches (run s l) (Do touched.0) key) (before_append acts more n low) touched.2,
)

-- behind a Put there are no more commands; a command more touches what it touches in the state that the acts
-- leave
pub touches_put : (s : State) (acts : List Act) (key other : PageKey) (bytes : List ℕ) (n : ℕ)
    → TouchesAt s (acts ++ Put other bytes ∷ []) n key → TouchesAt s acts n key
touches_put s acts key other bytes n touched =
    let x : Act = Put other bytes in
    let low : n < length (commands (acts ++ x ∷ [])) = there s (acts ++ x ∷ []) n key touched in
    touches_before s acts (x ∷ []) n key (omega
    (arith, low, ap length (commands_still acts (Put other bytes) refl))) touched

-- all acts stand before a command that comes last
all_before : (acts : List Act) (c : Command) → before (length (commands acts)) (acts ++ Do c ∷ []) ≡ acts
all_before [] c = refl
all_before (Do d ∷ acts) c = ap (λ l. Do d ∷ l) (all_before acts c)
all_before (act ∷ acts) c = ap (λ l. act ∷ l) (all_before acts c)

last_command : (cs : List Command) (c : Command) → slice_get (cs ++ c ∷ []) (length cs) ≡ Some c
last_command [] c = refl
last_command (d ∷ cs) c = last_command cs c

pub touches_last : (s : State) (acts : List Act) (c : Command) (n : ℕ) (key : PageKey)
    → TouchesAt s (acts ++ Do c ∷ []) n key
    → TouchesAt s acts n key ⊎ ((n ≡ length (commands acts)) × Touches (run s acts) (Do c) key)
touches_last s acts c n key touched =
    elim (cases_lt n (length (commands acts))) as
    (λ _. TouchesAt s acts n key ⊎ ((n ≡ length (commands acts)) × Touches (run s acts) (Do c) key)) [
      | inl low ↦ inl (touches_before s acts (Do c ∷ []) n key low touched)
      | inr past ↦
          let is : n ≡ length (commands acts) = omega (arith, past, less, longer) in
          let same : touched.0 ≡ c = same_Some touched.0 c
          (sym touched.1 ∙ ap (λ cs. slice_get cs n) (commands-append acts (Do c ∷ []))
          ∙ ap (λ i. slice_get (commands acts ++ c ∷ []) i) is
          ∙ last_command (commands acts) c) in
          let all : before n (acts ++ Do c ∷ []) ≡ acts =
          ap (λ i. before i (acts ++ Do c ∷ [])) is ∙ all_before acts c in
          inr (
            is,
            subst (λ d. Touches (run s acts) (Do d) key) same
                (subst (λ l. Touches (run s l) (Do touched.0) key) all touched.2),
          )
    ]
  where
    less : n < length (commands (acts ++ Do c ∷ []))
    less = there s (acts ++ Do c ∷ []) n key touched

    longer : length (commands (acts ++ Do c ∷ [])) ≡ length (commands acts) + 1
    longer = ap length (commands-append acts (Do c ∷ [])) ∙ length-append (commands acts) (c ∷ [])

-- an act that stands in one of two lists
in_either : (x : Act) (xs ys : List Act) → IsIn x (xs ++ ys) → IsIn x xs ⊎ IsIn x ys
in_either x [] ys is = inr is
in_either x (y ∷ xs) ys (inl e) = inl (inl e)
in_either x (y ∷ xs) ys (inr is) = elim (in_either x xs ys is) as (λ _. ((y ≡ x) ⊎ IsIn x xs) ⊎ IsIn x ys) [
  | inl front ↦ inl (inr front)
  | inr back ↦ inr back
]

-- Puts among acts with one more are among the acts, or that one is such a Put,
pub puts_in_more : (acts : List Act) (x : Act) (key : PageKey) → PutsPage (acts ++ x ∷ []) key
    → PutsPage acts key ⊎ PutsPage (x ∷ []) key
puts_in_more acts x key puts =
    elim (in_either (Put key puts.0) acts (x ∷ []) puts.1) as
    (λ _. PutsPage acts key ⊎ PutsPage (x ∷ []) key) [
      | inl front ↦ inl (puts.0, front)
      | inr back ↦ inr (puts.0, back)
    ]

-- and so are those behind a command.
pub puts_behind_more : (acts : List Act) (x : Act) (n : ℕ) (key : PageKey)
    → PutsPage (behind n (acts ++ x ∷ [])) key
    → PutsPage (behind n acts) key ⊎ PutsPage (x ∷ []) key
puts_behind_more [] (Do c) zero key puts = absurd puts.1
puts_behind_more [] x n key puts = absurd puts.1
puts_behind_more (Do c ∷ acts) x zero key puts = puts_in_more acts x key puts
puts_behind_more (Do c ∷ acts) x (suc n) key puts = puts_behind_more acts x n key puts
puts_behind_more (act ∷ acts) x n key puts = puts_behind_more acts x n key puts

-- one Put is of its page, and a command is none
pub put_is : {key other : PageKey} {bytes : List ℕ} → PutsPage (Put other bytes ∷ []) key → key ≡ other
put_is {key} {other} {bytes} puts = at puts.0 puts.1 where
  at : (old : List ℕ) → IsIn (Put key old) (Put other bytes ∷ []) → key ≡ other
  at old (inl e) = cc
  at old (inr none) = elim none [ ]

pub no_put : {key : PageKey} {c : Command} → PutsPage (Do c ∷ []) key → ⊥
no_put {key} {c} puts = at puts.0 puts.1 where
  at : (old : List ℕ) → IsIn (Put key old) (Do c ∷ []) → ⊥
  at old (inl e) = cc e
  at old (inr none) = elim none [ ]

-- the last chain, and what it touches in its turn, with a Put more behind it
pub last_chain_put : (r : Request) (acts : List Act) (key : PageKey) (bytes : List ℕ) → IsLastChain r acts
    → IsLastChain r (acts ++ Put key bytes ∷ [])
last_chain_put r acts key bytes last = record {
  front = last.front;
  rest = last.rest ++ Put key bytes ∷ [];
  acts_are = ap (λ l. l ++ Put key bytes ∷ []) last.acts_are
      ∙ append_assoc last.front (Chain r.id r.descriptor ∷ last.rest) (Put key bytes ∷ []);
  puts_behind = All-append IsPut last.rest (Put key bytes ∷ []) last.puts_behind
      (All-cons IsPut (Put key bytes) [] tt (All-nil IsPut));
}

pub chain_touches_put : (s : State) (r : Request) (acts : List Act) (key other : PageKey) (bytes : List ℕ)
    → ChainTouches s r acts key → ChainTouches s r (acts ++ Put other bytes ∷ []) key
unfolding last_chain_put
chain_touches_put s r acts key other bytes touched = (last_chain_put r acts other bytes touched.0, touched.1)

-- what holds of all holds of a front of them
pub all_front : {X : Type 0} (P : X → Type 0) (xs ys : List X) → All P (xs ++ ys) → All P xs
all_front P xs ys all k d less =
    subst P (get_or_append_left xs ys d k less) (all k d (omega (arith, less, length-append xs ys)))

-- a Put is no chain
pub put_no_chain : {key : PageKey} {bytes : List ℕ} (id first : ℕ) → Put key bytes ≢ Chain id first
put_no_chain id first e = cc e

-- an act before another one that comes last
pub record IsBeforeLast (acts front : List Act) (x last : Act) (rest : List Act) : Type 0 where
  pub between : List Act
  pub rest_is : rest ≡ between ++ last ∷ []
  pub acts_are : acts ≡ front ++ x ∷ between

pub before_last : (acts front : List Act) (x last : Act) (rest : List Act) → last ≢ x
    → acts ++ last ∷ [] ≡ front ++ x ∷ rest → IsBeforeLast acts front x last rest
before_last [] [] x last rest differ e = absurd (differ (head_same last x [] rest e))
before_last [] (f ∷ fs) x last rest differ e = absurd
    (omega (arith, ap length e, length-append fs (x ∷ rest)))
before_last (y ∷ ys) [] x last rest differ e = record {
  between = ys;
  rest_is = sym (tail_same y x (ys ++ last ∷ []) rest e);
  acts_are = ap (λ z. z ∷ ys) (head_same y x (ys ++ last ∷ []) rest e);
}
before_last (y ∷ ys) (f ∷ fs) x last rest differ e =
    let head = head_same y f (ys ++ last ∷ []) (fs ++ x ∷ rest) e in
    let inner = before_last ys fs x last rest differ (tail_same y f (ys ++ last ∷ []) (fs ++ x ∷ rest) e) in
    record { between = inner.between; rest_is = inner.rest_is; acts_are = λ i. head i ∷ inner.acts_are i }

-- so chains among acts with one more that is none stand among the acts
pub chains_more : (acts : List Act) (n : ℕ) (x : Act) → ((id first : ℕ) → x ≢ Chain id first)
    → AreChainsDone n acts → AreChainsDone n (acts ++ x ∷ [])
chains_more acts n x none chains front rest id first e =
    let last = before_last acts front (Chain id first) x rest (none id first) e in
    chains front last.between id first last.acts_are

-- the last chain, without a Put that comes last
abbrev pub last_chain_before : (r : Request) (acts : List Act) (other : PageKey) (bytes : List ℕ)
    → IsLastChain r (acts ++ Put other bytes ∷ []) → IsLastChain r acts
last_chain_before r acts other bytes chain =
    let x : Act = Put other bytes in
    let is : Act = Chain r.id r.descriptor in
    let last = before_last acts chain.front is x chain.rest (put_no_chain r.id r.descriptor) chain.acts_are in
    record {
      front = chain.front;
      rest = last.between;
      acts_are = last.acts_are;
      puts_behind = all_front IsPut last.between (x ∷ [])
          (subst (λ l. All IsPut l) last.rest_is chain.puts_behind);
    }

pub chain_touches_before : (s : State) (r : Request) (acts : List Act) (key other : PageKey) (bytes : List ℕ)
    → ChainTouches s r (acts ++ Put other bytes ∷ []) key → ChainTouches s r acts key
chain_touches_before s r acts key other bytes touched =
    (last_chain_before r acts other bytes touched.0, touched.1)

-- What the act in hand touches it touches with an act more behind it,
pub hand_more : {s : State} {acts : List Act} {done : ℕ} {read : List ℕ} {request wanted : Request}
    {answered : ℕ}
    {key : PageKey} (more : List Act)
    → (IsChainOut request answered → ChainTouches s request acts key
    → ChainTouches s request (acts ++ more) key)
    → TouchesInHand s acts done read request wanted answered key
    → TouchesInHand s (acts ++ more) done read request wanted answered key
hand_more {s} {acts} {done} {read} {request} {wanted} {answered} {key} more chain
    (by_command c spells touched) =
    by_command c spells (touches_still s acts more done key touched)
hand_more {s} {acts} {done} {read} {request} {wanted} {answered} {key} more chain
    (by_chain none out is touched) =
    by_chain none out is (chain out touched)

-- and what the device keeps and has noted is what is settled with one more that leaves it.
pub runs_more : {s : State} {acts : List Act} {done : ℕ} {read : List ℕ} {kept : Kept} {noted : NotedPages}
    {request wanted : Request} {answered : ℕ} (x : Act) → ((id first : ℕ) → x ≢ Chain id first)
    → (reached s done (is_chain_out request answered) acts).kept
    ≡ (reached s done (is_chain_out request answered) (acts ++ x ∷ [])).kept
    → ((key : PageKey) (note : Noted) → map.get noted key ≡ Some note
    → page_bytes (reached s done (is_chain_out request answered) acts).memory key
    ≡ page_bytes (reached s done (is_chain_out request answered) (acts ++ x ∷ [])).memory key)
    → ((key : PageKey) → IsChainOut request answered → ChainTouches s request acts key
    → ChainTouches s request (acts ++ x ∷ []) key)
    → IsRunSoFar s acts done read kept noted request wanted answered
    → IsRunSoFar s (acts ++ x ∷ []) done read kept noted request wanted answered
runs_more {acts = acts} {done = done} x none same_kept same_bytes chain o = record {
  kept_is_run = o.kept_is_run ∙ same_kept;
  noted_is_run = λ key bytes back is. o.noted_is_run key bytes back is ∙ same_bytes key _ is;
  noted_touched = λ key is. hand_more (x ∷ []) (chain key) (o.noted_touched key is);
  chains_done = chains_more acts done x none o.chains_done;
}

-- Requests are as before, where the chain that is out stays the last one.
pub requests_more : {words : List ℕ} {acts : List Act} {request wanted : Request}
    {answered last_reply reserved : ℕ}
    (more : List Act) → (IsChainOut request answered → IsLastChain request acts → IsLastChain request more)
    → AreRequests words acts request wanted answered last_reply reserved
    → AreRequests words more request wanted answered last_reply reserved
requests_more more last o = record {
  request_is = o.request_is;
  reply_is = o.reply_is;
  out_is_open = o.out_is_open;
  out_is_last_chain = λ out. last out (o.out_is_last_chain out);
  loaded_is = o.loaded_is;
  reserved_is = o.reserved_is;
  fits = o.fits;
  answered_fits = o.answered_fits;
  no_ring = o.no_ring;
}

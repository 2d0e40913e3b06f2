-- What calls mean by parts, and what the acts are that they do.
use Rattle.std.proofs.Common.{◌≡◌, ℕ, ◌+◌, ◌-◌, ◌==◌, if◌then◌else◌, List, [], ◌∷◌, ◌++◌, length, true, false, refl, sym, ap, subst, ◌∙◌, Option, Some, None, is_none, arith, append-nil, append_assoc, length-append, option_map, option_to_list, All, replicate, map as map_list}
use Rattle.std.proofs.lemmas.Bool.Decides.{nat_tests}
use Rattle.std.proofs.lemmas.List.Elements.{filter_map-append}
use Rattle.std.specs.List.{cons_option}
use Rattle.std.specs.Option.{option_or}
use Rattle.svga_cmd.specs.declared.command.Command.{Command}
use Rattle.svga_cmd.specs.declared.command.Command.TheVariants.{Update, Fence, DefineScreen, DestroyScreen, DefineGmrfb, BlitToScreen, BlitToGmrfb, DefineGmr2, RemapGmr2}
use Rattle.svga_cmd.specs.declared.blit.Blit.{Blit}
use Rattle.svga_cmd.specs.declared.constants.TheConstants.{PAGE_SIZE}
use Rattle.svga_cmd.specs.declared.gmrfb.Gmrfb.{Gmrfb}
use Rattle.svga_model.proofs.PutLaws.{put_admissible}
use Rattle.svga_model.proofs.RunLaws.{done-first, run-first, run_whole}
use Rattle.svga_model.specs.Acts.{Act, Do, Put, Chain}
use Rattle.svga_model.specs.ClientActs as act
use Rattle.svga_model.specs.ClientActs.{BlitBack, BlitTo, Call, ClientAct, Commit, CommitFence, Describe, DescribeRegion, Destroy, Fill, Lend, LendPage, Map, NextFence, Region, Same, Screen, SetGmrfb, Show, ShowPage, Take, TakePage, Write, WritePage, calls_of, keys_from}
use Rattle.svga_model.specs.ClientFaults.{ClientFault, Refused}
use Rattle.svga_model.specs.Clients.{Client, HasFence, IsPlain, act_of, after_call, committed, next_fence, opening_client, over_written, refusal_of}
use Rattle.svga_model.specs.Faults.{IsAdmissible, fault_of}
use Rattle.svga_model.specs.Fences.{fence_value, fences, number_of_fence, register_after}
use Rattle.svga_model.specs.Meanings.{LineAct, LineCall, Meaning, joined, line_calls, meaning_from, meaning_with, told_by}
use Rattle.svga_model.specs.Memories.{page_bytes}
use Rattle.svga_model.specs.Runs.{done, run}
use Rattle.svga_model.specs.Scripts.{Script, meaning_of}
use Rattle.svga_model.specs.States.{State}
use Rattle.svga_cmd.specs.declared.page.PageKey.{PageKey}
use Rattle.std.proofs.lemmas.List.Elements.{All-append, All-cons, All-head, All-nil, All-tail}
use Rattle.svga_model.specs.Steps.{read_back, shown, step}

-- what a first call's refusal makes of a meaning
first_call : (c : Client) (l : LineCall) (calls : List LineCall) (f : Option ClientFault) → refusal_of c l.call ≡ f
    → meaning_from c (l ∷ calls) ≡ meaning_with c l f (meaning_from (after_call c l.call) calls)
first_call c l calls f e = ap (λ r. meaning_with c l r (meaning_from (after_call c l.call) calls)) e

-- calls behind others that aren't refused mean what they mean behind them
abbrev GoesOn : Client → List LineCall → List LineCall → Type 0
GoesOn c xs ys = meaning_from c (xs ++ ys) ≡ joined (meaning_from c xs) (meaning_from (meaning_from c xs).client ys)

joined_more : (c : Client) (l : LineCall) (m n : Meaning) → meaning_with c l None (joined m n) ≡ joined (meaning_with c l None m) n
joined_more c l m n = λ i. record {
  client = n.client;
  acts = sym (append_assoc (option_to_list (act_of c l.call)) m.acts n.acts) i;
  told = sym (append_assoc (option_to_list (told_by c l.call)) m.told n.told) i;
  refused = n.refused;
}

pub meaning_goes_on : (c : Client) (xs ys : List LineCall) → (meaning_from c xs).refused ≡ None → GoesOn c xs ys
meaning_goes_on c [] ys none = refl
meaning_goes_on c (l ∷ xs) ys none = go (refusal_of c l.call) refl (λ rest. meaning_goes_on (after_call c l.call) xs ys rest) where
  go : (f : Option ClientFault) → refusal_of c l.call ≡ f
      → ((meaning_from (after_call c l.call) xs).refused ≡ None → GoesOn (after_call c l.call) xs ys) → GoesOn c (l ∷ xs) ys
  go None e rest =
      let first = first_call c l xs None e in
      let on = rest (sym (ap (λ (m : Meaning). m.refused) first) ∙ none) in
      first_call c l (xs ++ ys) None e
      ∙ ap (meaning_with c l None) on
      ∙ joined_more c l (meaning_from (after_call c l.call) xs) (meaning_from (meaning_from (after_call c l.call) xs).client ys)
      ∙ ap (λ (m : Meaning). joined m (meaning_from m.client ys)) (sym first)
  go (Some f) e rest = absurd (let first = ap (λ (m : Meaning). m.refused) (first_call c l xs (Some f) e) in cc (first, none))

-- calls behind one that is refused mean nothing more
pub meaning_ends : (c : Client) (xs ys : List LineCall) → ((meaning_from c xs).refused ≡ None → ⊥) → meaning_from c (xs ++ ys) ≡ meaning_from c xs
meaning_ends c [] ys some = absurd (some refl)
meaning_ends c (l ∷ xs) ys some = go (refusal_of c l.call) refl (λ rest. meaning_ends (after_call c l.call) xs ys rest) where
  go : (f : Option ClientFault) → refusal_of c l.call ≡ f
      → (((meaning_from (after_call c l.call) xs).refused ≡ None → ⊥) → meaning_from (after_call c l.call) (xs ++ ys) ≡ meaning_from (after_call c l.call) xs)
      → meaning_from c (l ∷ (xs ++ ys)) ≡ meaning_from c (l ∷ xs)
  go None e rest =
      first_call c l (xs ++ ys) None e
      ∙ ap (meaning_with c l None) (rest (λ none. some (ap (λ (m : Meaning). m.refused) (first_call c l xs None e) ∙ none)))
      ∙ sym (first_call c l xs None e)
  go (Some f) e rest = first_call c l (xs ++ ys) (Some f) e ∙ sym (first_call c l xs (Some f) e)

-- a refusal that isn't there
or_none : {X : Type 0} (a b : Option X) → option_or a b ≡ None → (a ≡ None) × (b ≡ None)
or_none None b e = (refl, e)
or_none (Some x) b e = absurd (cc e)

no_fault : {X Y : Type 0} (f : X → Y) (o : Option X) → option_map f o ≡ None → o ≡ None
no_fault f None e = refl
no_fault f (Some x) e = absurd (cc e)

-- FENCE is always admissible
fence_admits : (s : State) (value : ℕ) → fault_of s (Do (Fence value)) ≡ None
unfolding fault_of
fence_admits s value = refl

-- what a call that isn't refused does is admissible
pub call_admits : (c : Client) (call : Call) (act : Act) → refusal_of c call ≡ None → act_of c call ≡ Some act → IsAdmissible c.state act
call_admits c (Commit command) act none is =
    subst (λ a. fault_of c.state a ≡ None) (some_same is) (no_fault Refused (fault_of c.state (Do command)) (or_none _ _ none).0)
  where
    some_same : {a b : Act} → Some a ≡ Some b → a ≡ b
    some_same e = cc e
call_admits c CommitFence act none is = subst (λ a. fault_of c.state a ≡ None) (some_same is) (fence_admits c.state (next_fence c)) where
  some_same : {a b : Act} → Some a ≡ Some b → a ≡ b
  some_same e = cc e
call_admits c (WritePage key offset bytes) act none is = subst (λ a. fault_of c.state a ≡ None) (some_same is) (put_admissible c.state key _) where
  some_same : {a b : Act} → Some a ≡ Some b → a ≡ b
  some_same e = cc e
call_admits c (LendPage key) act none is = absurd (cc is)
call_admits c (TakePage key) act none is = absurd (cc is)
call_admits c (ShowPage key) act none is = absurd (cc is)
call_admits c (DescribeRegion id first) act none is =
    subst (λ a. fault_of c.state a ≡ None) (some_same is) (no_fault Refused (fault_of c.state (Chain id first)) (or_none _ _ (or_none _ _ none).1).1)
  where
    some_same : {a b : Act} → Some a ≡ Some b → a ≡ b
    some_same e = cc e

-- A call does its act, if it has one, to the state.
abbrev Does : Client → Call → List Act → Type 0
Does c call acts = (run c.state acts ≡ (after_call c call).state) × (done c.state acts ≡ length acts)

one_act : (s : State) (act : Act) → IsAdmissible s act → (run s (act ∷ []) ≡ step s act) × (done s (act ∷ []) ≡ 1)
one_act s act admits = (run-first s act [] true (ap is_none admits), (let n = done-first s act [] true (ap is_none admits) in omega (arith, n)))

pub call_does : (c : Client) (call : Call) → refusal_of c call ≡ None → Does c call (option_to_list (act_of c call))
call_does c (Commit command) none = one_act c.state (Do command) (call_admits c (Commit command) (Do command) none refl)
call_does c CommitFence none = one_act c.state (Do (Fence (next_fence c))) (call_admits c CommitFence (Do (Fence (next_fence c))) none refl)
call_does c (WritePage key offset bytes) none =
    one_act c.state (Put key (over_written (page_bytes c.state.memory key) offset bytes)) (put_admissible c.state key (over_written (page_bytes c.state.memory key) offset bytes))
call_does c (LendPage key) none = (refl, refl)
call_does c (TakePage key) none = (refl, refl)
call_does c (ShowPage key) none = (refl, refl)
call_does c (DescribeRegion id first) none = one_act c.state (Chain id first) (call_admits c (DescribeRegion id first) (Chain id first) none refl)

-- The last state is that of a run of the acts, all of which are run.
abbrev IsRunOf : State → List Act → State → Type 0
IsRunOf s acts t = (run s acts ≡ t) × (done s acts ≡ length acts)

run_behind : (s : State) (xs ys : List Act) (t u : State) → IsRunOf s xs t → IsRunOf t ys u → IsRunOf s (xs ++ ys) u
run_behind s xs ys t u first second =
    let parts = run_whole s xs ys first.1 in (
      parts.0 ∙ ap (λ v. run v ys) first.0 ∙ second.0,
      (let n = ap (λ v. done v ys) first.0 in omega (arith, parts.1, n, first.1, second.1, length-append xs ys)),
    )

pub meaning_run : (c : Client) (calls : List LineCall) → IsRunOf c.state (meaning_from c calls).acts (meaning_from c calls).client.state
meaning_run c [] = (refl, refl)
meaning_run c (l ∷ calls) = go (refusal_of c l.call) refl (meaning_run (after_call c l.call) calls) where
  go : (f : Option ClientFault) → refusal_of c l.call ≡ f
      → IsRunOf (after_call c l.call).state (meaning_from (after_call c l.call) calls).acts (meaning_from (after_call c l.call) calls).client.state
      → IsRunOf c.state (meaning_from c (l ∷ calls)).acts (meaning_from c (l ∷ calls)).client.state
  go None e rest = subst (λ (m : Meaning). IsRunOf c.state m.acts m.client.state) (sym (first_call c l calls None e))
      (run_behind c.state (option_to_list (act_of c l.call)) (meaning_from (after_call c l.call) calls).acts (after_call c l.call).state
      (meaning_from (after_call c l.call) calls).client.state (call_does c l.call e) rest)
  go (Some f) e rest = subst (λ (m : Meaning). IsRunOf c.state m.acts m.client.state) (sym (first_call c l calls (Some f) e)) (refl, refl)

-- The fence of the state is what the register shows after the fences so far: what each act keeps of it.
shown_fence : (s : State) (g : Option Gmrfb) (b : Blit) → (shown s g b).kept.fence ≡ s.kept.fence
shown_fence s None b = refl
shown_fence s (Some g) b = refl

back_fence : (s : State) (g : Option Gmrfb) (b : Blit) → (read_back s g b).kept.fence ≡ s.kept.fence
back_fence s None b = refl
back_fence s (Some g) b = refl

-- a command that is none keeps it
other_fence : (c : Client) (command : Command) → fence_value command ≡ None → (step c.state (Do command)).kept.fence ≡ c.state.kept.fence
other_fence c (Update x y width height) none = refl
other_fence c (Fence value) none = absurd (cc none)
other_fence c (DefineScreen d) none = refl
other_fence c (DestroyScreen id) none = refl
other_fence c (DefineGmrfb g) none = refl
other_fence c (BlitToScreen b) none = shown_fence c.state c.state.kept.gmrfb b
other_fence c (BlitToGmrfb b) none = back_fence c.state c.state.kept.gmrfb b
other_fence c (DefineGmr2 region pages) none = refl
other_fence c (RemapGmr2 region offset pages entries) none = refl

-- the fences of one command more that is none
same_fences : (cs : List Command) (command : Command) → fence_value command ≡ None → fences (cs ++ command ∷ []) ≡ fences cs
same_fences cs command none = filter_map-append fence_value cs (command ∷ []) ∙ ap (λ o. fences cs ++ cons_option o []) none ∙ append-nil (fences cs)

pub other_keeps : (c : Client) (command : Command) → fence_value command ≡ None → HasFence c → HasFence (committed c command)
other_keeps c command none has =
    other_fence c command none ∙ has ∙ ap (λ (ns : List ℕ). register_after c.first (length ns)) (sym (same_fences c.commands command none))

pub fence_keeps : (c : Client) → HasFence (committed c (Fence (next_fence c)))
fence_keeps c = sym (last (length (fences (c.commands ++ Fence (next_fence c) ∷ []))) (length (fences c.commands))
    (ap length (filter_map-append fence_value c.commands (Fence (next_fence c) ∷ [])) ∙ length-append (fences c.commands) (next_fence c ∷ [])))
  where
    last : (n k : ℕ) → n ≡ k + 1 → register_after c.first n ≡ number_of_fence c.first k
    last n k e =
        let some : (n == 0) ≡ false = grind (arith, nat_tests) in
        let less : n - 1 ≡ k = omega (arith, e) in
        ap (λ t. if t then c.first - 1 else number_of_fence c.first (n - 1)) some ∙ ap (number_of_fence c.first) less

-- a chain keeps it, and so does a Put
call_keeps : (c : Client) (call : Call) → IsPlain call → HasFence c → HasFence (after_call c call)
call_keeps c (Commit command) plain has = other_keeps c command plain has
call_keeps c CommitFence plain has = fence_keeps c
call_keeps c (WritePage key offset bytes) plain has = has
call_keeps c (LendPage key) plain has = has
call_keeps c (TakePage key) plain has = has
call_keeps c (ShowPage key) plain has = has
call_keeps c (DescribeRegion id first) plain has = has

pub meaning_fence : (c : Client) (calls : List LineCall) → All (λ (l : LineCall). IsPlain l.call) calls → HasFence c → HasFence (meaning_from c calls).client
meaning_fence c [] plain has = has
meaning_fence c (l ∷ calls) plain has =
    go (refusal_of c l.call) refl (meaning_fence (after_call c l.call) calls (All-tail (λ (k : LineCall). IsPlain k.call) l calls plain)
    (call_keeps c l.call (All-head (λ (k : LineCall). IsPlain k.call) l calls plain) has))
  where
    go : (f : Option ClientFault) → refusal_of c l.call ≡ f → HasFence (meaning_from (after_call c l.call) calls).client → HasFence (meaning_from c (l ∷ calls)).client
    go None e rest = subst (λ (m : Meaning). HasFence m.client) (sym (first_call c l calls None e)) rest
    go (Some f) e rest = subst (λ (m : Meaning). HasFence m.client) (sym (first_call c l calls (Some f) e)) has

-- calls of acts commit no FENCE by themselves
all_plain : (line : ℕ) (f : PageKey → Call) (keys : List PageKey) → ((key : PageKey) → IsPlain (f key))
    → All (λ (l : LineCall). IsPlain l.call) (map_list (λ call. record { line = line; call = call }) (map_list f keys))
all_plain line f [] plain = All-nil (λ (l : LineCall). IsPlain l.call)
all_plain line f (key ∷ keys) plain = All-cons (λ (l : LineCall). IsPlain l.call) (record { line = line; call = f key })
    (map_list (λ call. record { line = line; call = call }) (map_list f keys)) (plain key) (all_plain line f keys plain)

one_plain : (line : ℕ) (call : Call) → IsPlain call → All (λ (l : LineCall). IsPlain l.call) (record { line = line; call = call } ∷ [])
one_plain line call plain = All-cons (λ (l : LineCall). IsPlain l.call) (record { line = line; call = call }) [] plain (All-nil (λ (l : LineCall). IsPlain l.call))

act_plain : (line : ℕ) (act : ClientAct) → All (λ (l : LineCall). IsPlain l.call) (map_list (λ call. record { line = line; call = call }) (calls_of act))
act_plain line (Screen id width height x y) = one_plain line _ refl
act_plain line (Destroy id) = one_plain line _ refl
act_plain line (Region id pages) = one_plain line _ refl
act_plain line (Map id offset runs) = one_plain line _ refl
act_plain line (Same id offset count page) = one_plain line _ refl
act_plain line (SetGmrfb g) = one_plain line _ refl
act_plain line (BlitTo b) = one_plain line _ refl
act_plain line (BlitBack b) = one_plain line _ refl
act_plain line (act.Update x y width height) = one_plain line _ refl
act_plain line NextFence = one_plain line CommitFence tt
act_plain line (Write key offset bytes) = one_plain line (WritePage key offset bytes) tt
act_plain line (Fill key byte) = one_plain line (WritePage key 0 (replicate PAGE_SIZE byte)) tt
act_plain line (Lend key count) = all_plain line LendPage (keys_from key count) (λ k. tt)
act_plain line (Take key count) = all_plain line TakePage (keys_from key count) (λ k. tt)
act_plain line (Show key) = one_plain line (ShowPage key) tt
act_plain line (Describe id first) = one_plain line (DescribeRegion id first) tt

pub acts_plain : (acts : List LineAct) → All (λ (l : LineCall). IsPlain l.call) (line_calls acts)
acts_plain [] = All-nil (λ (l : LineCall). IsPlain l.call)
acts_plain (a ∷ acts) = All-append (λ (l : LineCall). IsPlain l.call) (map_list (λ call. record { line = a.line; call = call }) (calls_of a.act)) (line_calls acts) (act_plain a.line a.act) (acts_plain acts)

pub script_fence : (s : Script) → HasFence (meaning_of s).client
unfolding meaning_of
script_fence s = meaning_fence (opening_client s.session.limits s.session.first) (line_calls s.acts) (acts_plain s.acts) refl

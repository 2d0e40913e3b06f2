-- What is settled, by where the act in hand stands among the acts.
use Rattle.std.proofs.Common.{◌≡◌, inl, inr, ℕ, zero, suc, ◌≤◌, List, [], ◌∷◌, ◌++◌, length, All, Bool, false, true, not, ◌&&◌, if◌then◌else◌, Some, refl, sym, ap, ◌∙◌, arith, append_assoc, append-nil, length-append}
use Rattle.std.proofs.lemmas.List.Elements.{All-nil, All-cons, All-head, All-tail}
use Rattle.std.proofs.lemmas.Option.{none-some, same_Some}
use Rattle.std.specs.List.{slice_get}
use Rattle.svga_cmd.specs.declared.command.Command.{Command}
use Rattle.svga_cmd.specs.declared.page.PageKey.{PageKey}
use Rattle.svga_model.specs.Acts.{Act, Do, Put, Chain}
use Rattle.svga_model.specs.Members.{IsIn}
use Rattle.svga_model.specs.Touches.{IsPut}
use Rattle.svga_ring.proofs.Words.NextCommand.{commands-append}
use Rattle.svga_ring.specs.Committed.{before, behind, commands, has_chain, puts_of, settled, without_commands_from}
use Rattle.svga_ring.specs.Requests.{Request}
use Rattle.svga_ring.specs.SoundPages.{IsLastChain, PutsPage}

-- no chain stands behind a command past the first n
abbrev pub AreChainsDone : ℕ → List Act → Type 0
AreChainsDone n acts =
    (front rest : List Act) (id first : ℕ) → acts ≡ front ++ Chain id first ∷ rest
    → length (commands front) ≤ n

-- command n stands between those before it and those behind
pub act_at : (acts : List Act) (n : ℕ) (c : Command) → slice_get (commands acts) n ≡ Some c
    → acts ≡ before n acts ++ Do c ∷ behind n acts
act_at [] n c at = absurd (none-some c at)
act_at (Do d ∷ acts) zero c at = ap (λ x. Do x ∷ acts) (same_Some d c at)
act_at (Do d ∷ acts) (suc n) c at = ap (λ l. Do d ∷ l) (act_at acts n c at)
act_at (act ∷ acts) n c at = ap (λ l. act ∷ l) (act_at acts n c at)

-- there are n before it
commands_before : (acts : List Act) (n : ℕ) (c : Command) → slice_get (commands acts) n ≡ Some c
    → length (commands (before n acts)) ≡ n
commands_before [] n c at = absurd (none-some c at)
commands_before (Do d ∷ acts) zero c at = refl
commands_before (Do d ∷ acts) (suc n) c at = ap suc (commands_before acts n c at)
commands_before (act ∷ acts) n c at = commands_before acts n c at

pub puts_are : (acts : List Act) → All IsPut (puts_of acts)
puts_are [] = All-nil IsPut
puts_are (Put key bytes ∷ acts) = All-cons IsPut (Put key bytes) (puts_of acts) tt (puts_are acts)
puts_are (act ∷ acts) = puts_are acts

-- a Put that is left is one of the acts
puts_among : (acts : List Act) (x : Act) → IsIn x (puts_of acts) → IsIn x acts
puts_among [] x there = there
puts_among (Put key bytes ∷ acts) x (inl is) = inl is
puts_among (Put key bytes ∷ acts) x (inr there) = inr (puts_among acts x there)
puts_among (act ∷ acts) x there = inr (puts_among acts x there)

-- the page is put by one that is left
pub puts_page_among : (acts : List Act) (key : PageKey) → PutsPage (puts_of acts) key → PutsPage acts key
puts_page_among acts key puts = (puts.0, puts_among acts (Put key puts.0) puts.1)

-- where a chain stands among acts
record ChainAt (acts : List Act) : Type 0 where
  front : List Act
  rest : List Act
  id : ℕ
  first : ℕ
  acts_are : acts ≡ front ++ Chain id first ∷ rest

-- one act further
chain_further : (act : Act) (acts : List Act) → ChainAt acts → ChainAt (act ∷ acts)
chain_further act acts at = record {
  front = act ∷ at.front;
  rest = at.rest;
  id = at.id;
  first = at.first;
  acts_are = ap (λ l. act ∷ l) at.acts_are;
}

chain_at : (acts : List Act) → has_chain acts ≡ true → ChainAt acts
chain_at [] has = absurd (cc has)
chain_at (Chain id first ∷ acts) has = record
    { front = []; rest = acts; id = id; first = first; acts_are = refl }
chain_at (act ∷ acts) has = chain_further act acts (chain_at acts has)

-- no chain stands behind a command that isn't done
pub no_chain_behind : (acts : List Act) (n m : ℕ) (c : Command) → AreChainsDone n acts → n ≤ m
    → slice_get (commands acts) m ≡ Some c → has_chain (behind m acts) ≡ false
no_chain_behind acts n m c chains le at = go (has_chain (behind m acts)) refl where
  go : (b : Bool) → has_chain (behind m acts) ≡ b → b ≡ false
  go false none = refl
  go true has =
      let chain = chain_at (behind m acts) has in
      let front : List Act = before m acts ++ Do c ∷ chain.front in
      let back : List Act = Chain chain.id chain.first ∷ chain.rest in
      let is : acts ≡ front ++ back =
      act_at acts m c at ∙ ap (λ l. before m acts ++ Do c ∷ l) chain.acts_are
      ∙ sym (append_assoc (before m acts) (Do c ∷ chain.front) back) in
      let low = chains front chain.rest chain.id chain.first is in
      let parts = ap length (commands-append (before m acts) (Do c ∷ chain.front)) in
      let sum = length-append (commands (before m acts)) (c ∷ commands chain.front) in
      absurd (omega (arith, low, parts, sum, commands_before acts m c at))

-- Puts are neither commands nor chains
puts_no_commands : (acts : List Act) → All IsPut acts → commands acts ≡ []
puts_no_commands [] puts = refl
puts_no_commands (Put key bytes ∷ acts) puts = puts_no_commands acts
    (All-tail IsPut (Put key bytes) acts puts)
puts_no_commands (act ∷ acts) puts = absurd (All-head IsPut act acts puts)

puts_no_chain : (acts : List Act) → All IsPut acts → has_chain acts ≡ false
puts_no_chain [] puts = refl
puts_no_chain (Put key bytes ∷ acts) puts = puts_no_chain acts (All-tail IsPut (Put key bytes) acts puts)
puts_no_chain (act ∷ acts) puts = absurd (All-head IsPut act acts puts)

-- while a chain is out all commands are done
pub all_before_chain : (r : Request) (acts : List Act) (n : ℕ) → IsLastChain r acts → AreChainsDone n acts
    → length (commands acts) ≤ n
all_before_chain r acts n last chains =
    let low = chains last.front last.rest r.id r.descriptor last.acts_are in
    let back : List Act = Chain r.id r.descriptor ∷ last.rest in
    let parts : commands acts ≡ commands last.front ++ [] =
    ap commands last.acts_are ∙ commands-append last.front back
    ∙ ap (λ l. commands last.front ++ l) (puts_no_commands last.rest last.puts_behind) in
    omega (arith, low, ap length (parts ∙ append-nil (commands last.front)))

-- what is settled before command n, and with it
pub settled_at : (acts : List Act) (n : ℕ) (c : Command) → slice_get (commands acts) n ≡ Some c
    → has_chain (behind n acts) ≡ false → settled n false acts ≡ before n acts ++ puts_of (behind n acts)
settled_at [] n c at none = absurd (none-some c at)
settled_at (Do d ∷ acts) zero c at none = refl
settled_at (Do d ∷ acts) (suc n) c at none = ap (λ l. Do d ∷ l) (settled_at acts n c at none)
settled_at (act ∷ acts) n c at none = ap (λ l. act ∷ l) (settled_at acts n c at none)

-- where no command is done and no chain stands, Puts alone are settled
settled_puts : (acts : List Act) → has_chain acts ≡ false → settled 0 false acts ≡ puts_of acts
settled_puts [] none = refl
settled_puts (Do c ∷ acts) none = refl
settled_puts (Put key bytes ∷ acts) none = ap (λ l. Put key bytes ∷ l) (settled_puts acts none)
settled_puts (Chain id first ∷ acts) none = absurd (cc none)

pub settled_next : (acts : List Act) (n : ℕ) (c : Command) → slice_get (commands acts) n ≡ Some c
    → has_chain (behind n acts) ≡ false
    → settled (suc n) false acts ≡ before n acts ++ Do c ∷ puts_of (behind n acts)
settled_next [] n c at none = absurd (none-some c at)
settled_next (Do d ∷ acts) zero c at none =
    ap (λ x. Do x ∷ settled 0 false acts) (same_Some d c at) ∙ ap (λ l. Do c ∷ l) (settled_puts acts none)
settled_next (Do d ∷ acts) (suc n) c at none = ap (λ l. Do d ∷ l) (settled_next acts n c at none)
settled_next (act ∷ acts) n c at none = ap (λ l. act ∷ l) (settled_next acts n c at none)

-- all acts are, where all commands are done
pub settled_all : (acts : List Act) (n : ℕ) → length (commands acts) ≤ n → settled n false acts ≡ acts
settled_all [] n all = refl
settled_all (Do c ∷ acts) zero all = absurd (omega (arith, all))
settled_all (Do c ∷ acts) (suc n) all = ap (λ l. Do c ∷ l) (settled_all acts n (omega (arith, all)))
settled_all (act ∷ acts) n all = ap (λ l. act ∷ l) (settled_all acts n all)

-- a chain stands where one does
chain_there : (front rest : List Act) (id first : ℕ) → has_chain (front ++ Chain id first ∷ rest) ≡ true
chain_there [] rest id first = refl
chain_there (Chain other from ∷ front) rest id first = refl
chain_there (act ∷ front) rest id first = chain_there front rest id first

-- all but the chain that is out
pub settled_chain : (front rest : List Act) (id first n : ℕ) → All IsPut rest → length (commands front) ≤ n
    → settled n true (front ++ Chain id first ∷ rest) ≡ front ++ puts_of rest
settled_chain [] rest id first n puts all =
    ap (λ b. if not b then puts_of rest else Chain id first ∷ settled n true rest) (puts_no_chain rest puts)
settled_chain (Do c ∷ front) rest id first zero puts all = absurd (omega (arith, all))
settled_chain (Do c ∷ front) rest id first (suc n) puts all =
    ap (λ l. Do c ∷ l) (settled_chain front rest id first n puts (omega (arith, all)))
settled_chain (Put key bytes ∷ front) rest id first n puts all =
    ap (λ l. Put key bytes ∷ l) (settled_chain front rest id first n puts all)
settled_chain (Chain other from ∷ front) rest id first n puts all =
    let acts : List Act = front ++ Chain id first ∷ rest in
    ap (λ b. if not b then puts_of acts else Chain other from ∷ settled n true acts)
    (chain_there front rest id first)
    ∙ ap (λ l. Chain other from ∷ l) (settled_chain front rest id first n puts all)

-- Where no chain stands behind a command that isn't done, all acts but those commands are.
chains_further : (act : Act) (acts : List Act) (n : ℕ) → commands (act ∷ []) ≡ []
    → AreChainsDone n (act ∷ acts) → AreChainsDone n acts
chains_further act acts n none chains front rest id first e =
    let low = chains (act ∷ front) rest id first (ap (λ l. act ∷ l) e) in
    omega (arith, low, ap length (commands-append (act ∷ []) front ∙ ap (λ l. l ++ commands front) none))

puts_left : (acts : List Act) → has_chain acts ≡ false → puts_of acts ≡ without_commands_from 0 acts
puts_left [] none = refl
puts_left (Do c ∷ acts) none = puts_left acts none
puts_left (Put key bytes ∷ acts) none = ap (λ l. Put key bytes ∷ l) (puts_left acts none)
puts_left (Chain id first ∷ acts) none = absurd (cc none)

pub settled_left : (acts : List Act) (n : ℕ) → AreChainsDone n acts
    → settled n false acts ≡ without_commands_from n acts
settled_left [] n chains = refl
settled_left (Do c ∷ acts) zero chains =
    puts_left acts (no_chain_behind (Do c ∷ acts) 0 0 c chains (omega arith) refl)
settled_left (Do c ∷ acts) (suc n) chains =
    ap (λ l. Do c ∷ l) (settled_left acts n (λ front rest id first e. (
    let low = chains (Do c ∷ front) rest id first (ap (λ l. Do c ∷ l) e) in
    omega (arith, low)
    )))
settled_left (Put key bytes ∷ acts) n chains = ap (λ l. Put key bytes ∷ l)
    (settled_left acts n (chains_further (Put key bytes) acts n refl chains))
settled_left (Chain id first ∷ acts) n chains = ap (λ l. Chain id first ∷ l)
    (settled_left acts n (chains_further (Chain id first) acts n refl chains))

-- All acts are Puts, so these are all of them.
all_puts : (acts : List Act) → All IsPut acts → puts_of acts ≡ acts
all_puts [] puts = refl
all_puts (Put key bytes ∷ acts) puts = ap (λ l. Put key bytes ∷ l)
    (all_puts acts (All-tail IsPut (Put key bytes) acts puts))
all_puts (act ∷ acts) puts = absurd (All-head IsPut act acts puts)

pub settled_but_chain : (r : Request) (acts : List Act) (n : ℕ) → AreChainsDone n acts
    → (last : IsLastChain r acts) → settled n true acts ≡ last.front ++ last.rest
settled_but_chain r acts n chains last =
    let low = chains last.front last.rest r.id r.descriptor last.acts_are in
    ap (λ l. settled n true l) last.acts_are
    ∙ settled_chain last.front last.rest r.id r.descriptor n last.puts_behind low
    ∙ ap (λ l. last.front ++ l) (all_puts last.rest last.puts_behind)

-- Acts more at the end: the Puts among them, and whether a chain is.
puts_of-append : (xs ys : List Act) → puts_of (xs ++ ys) ≡ puts_of xs ++ puts_of ys
puts_of-append [] ys = refl
puts_of-append (Put key bytes ∷ xs) ys = ap (λ l. Put key bytes ∷ l) (puts_of-append xs ys)
puts_of-append (x ∷ xs) ys = puts_of-append xs ys

no_chain_more : (acts more : List Act) → has_chain more ≡ false → has_chain (acts ++ more) ≡ has_chain acts
no_chain_more [] more none = none
no_chain_more (Chain id first ∷ acts) more none = refl
no_chain_more (act ∷ acts) more none = no_chain_more acts more none

-- the same acts behind either of two lists
append_if : (b : Bool) (xs ys more : List Act)
    → (if b then xs ++ more else (ys ++ more)) ≡ (if b then xs else ys) ++ more
append_if true xs ys more = refl
append_if false xs ys more = refl

-- a Put more is settled, and a command more isn't
pub settled_put : (acts : List Act) (n : ℕ) (out : Bool) (key : PageKey) (bytes : List ℕ)
    → settled n out (acts ++ Put key bytes ∷ []) ≡ settled n out acts ++ Put key bytes ∷ []
settled_put [] n out key bytes = refl
settled_put (Do c ∷ acts) zero out key bytes = puts_of-append acts (Put key bytes ∷ [])
settled_put (Do c ∷ acts) (suc n) out key bytes = ap (λ l. Do c ∷ l) (settled_put acts n out key bytes)
settled_put (Put other old ∷ acts) n out key bytes = ap (λ l. Put other old ∷ l)
    (settled_put acts n out key bytes)
settled_put (Chain id first ∷ acts) n out key bytes =
    let more : List Act = Put key bytes ∷ [] in
    let chains = no_chain_more acts more refl in
    let puts = puts_of-append acts more in
    let others = settled_put acts n out key bytes in
    (λ i. if out && not (chains i) then puts i else Chain id first ∷ others i)
    ∙ append_if (out && not (has_chain acts)) (puts_of acts) (Chain id first ∷ settled n out acts) more

pub settled_command : (acts : List Act) (n : ℕ) (out : Bool) (c : Command) → n ≤ length (commands acts)
    → settled n out (acts ++ Do c ∷ []) ≡ settled n out acts
settled_command [] zero out c le = refl
settled_command [] (suc n) out c le = absurd (omega (arith, le))
settled_command (Do d ∷ acts) zero out c le = puts_of-append acts (Do c ∷ []) ∙ append-nil (puts_of acts)
settled_command (Do d ∷ acts) (suc n) out c le =
    ap (λ l. Do d ∷ l) (settled_command acts n out c (omega (arith, le)))
settled_command (Put key bytes ∷ acts) n out c le = ap (λ l. Put key bytes ∷ l)
    (settled_command acts n out c le)
settled_command (Chain id first ∷ acts) n out c le =
    let chains = no_chain_more acts (Do c ∷ []) refl in
    let puts = puts_of-append acts (Do c ∷ []) ∙ append-nil (puts_of acts) in
    let others = settled_command acts n out c le in
    λ i. if out && not (chains i) then puts i else Chain id first ∷ others i

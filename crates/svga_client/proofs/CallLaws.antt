-- The client's calls that aren't refused, as the driver does them.
use Rattle.std.proofs.Common.{◌≡◌, ℕ, ◌+◌, ◌≤◌, List, [], ◌∷◌, Bool, true, false, not, nat_le, ◌&&◌, if◌then◌else◌, refl, sym, ap, subst, ◌∙◌, Option, Some, None, option_map, is_some, IsSome, unwrap_or, length, arith}
use Rattle.std.proofs.lemmas.Bool.Decides.{nat_tests}
use Rattle.std.proofs.lemmas.Option.{none-some}
use Rattle.std.specs.FinMap as map
use Rattle.std.specs.FinSet as set
use Rattle.std.specs.Option.{option_or}
use Rattle.svga_client.proofs.ClientOfLaws.{judged_by_shape, own_reads, same_places}
use Rattle.svga_client.proofs.FollowLaws.{IsAsked, IsGranted, fenced_free, follows_chain, follows_commit, follows_lend, follows_take, follows_write, limits_are, untouched_free}
use Rattle.svga_client.proofs.WalkLaws.{tables_lent}
use Rattle.svga_client.specs.Following.{IsFollowed, Known, acting, lending, refusal_by, state_of, taking}
use Rattle.svga_client.specs.Marks.{IsSeenBehind}
use Rattle.svga_client.specs.OwnPages.{writing}
use Rattle.svga_cmd.specs.Pages.{IsKey, is_key, page_at}
use Rattle.svga_cmd.specs.declared.command.Command.{Command}
use Rattle.svga_cmd.specs.declared.constants.TheConstants.{PAGE_SIZE}
use Rattle.svga_cmd.specs.declared.limits.Limits.{Limits}
use Rattle.svga_cmd.specs.declared.page.PageKey.{PageKey}
use Rattle.svga_cmd.specs.declared.page.PageKey.TheVariants.{Frame, Guest}
use Rattle.svga_model.specs.Acts.{Chain, Do, Put}
use Rattle.svga_model.specs.ClientActs.{Commit, DescribeRegion, LendPage, TakePage, WritePage}
use Rattle.svga_model.specs.ClientFaults.{ClientFault, NoFence, NotLent, PageLent, PageOut, PageRange, Refused, first_true}
use Rattle.svga_model.specs.Clients.{Client, after_call, commit_refusal, first_out, is_unfenced, over_written, page_tests, refusal_of, take_tests}
use Rattle.svga_model.specs.Faults.{ReadsNumbers, fault_of}
use Rattle.svga_model.specs.Memories.{page_bytes}
use Rattle.svga_model.specs.States.{opening_state}
use Rattle.svga_model.specs.Steps.{step}
use Rattle.svga_model.specs.Touches.{touched_places}
use Rattle.svga_ring.specs.SoundPages.{TouchesAt, known_done}

-- where none of two is there
neither : {X Y Z : Type 0} (f : X → Z) (g : Y → Z) (a : Option X) (b : Option Y)
    → option_or (option_map f a) (option_map g b) ≡ None → (a ≡ None) × (b ≡ None)
neither f g None None none = (refl, refl)
neither f g None (Some y) none = absurd (none-some (g y) (sym none))
neither f g (Some x) b none = absurd (none-some (f x) (sym none))

or_none : {X : Type 0} (a b : Option X) → option_or a b ≡ None → (a ≡ None) × (b ≡ None)
or_none None b none = (refl, none)
or_none (Some x) b none = absurd (none-some x (sym none))

map_none : {X Y : Type 0} (f : X → Y) (a : Option X) → option_map f a ≡ None → a ≡ None
map_none f None none = refl
map_none f (Some x) none = absurd (none-some (f x) (sym none))

-- a command that isn't refused
pub granted : (c : Client) (command : Command) → commit_refusal c command ≡ None → IsGranted c command
granted c command none =
    let both = neither _ _ (fault_of c.state (Do command))
    (first_out c.lent (touched_places c.state.kept command)) none in
    record { admissible = both.0; lent = both.1 }

-- a test that refuses nothing
no_rule : (b : Bool) (f : ClientFault) (rest : Option ClientFault) → (if b then Some f else rest) ≡ None
    → (b ≡ false) × (rest ≡ None)
no_rule true f rest none = absurd (none-some f (sym none))
no_rule false f rest none = (refl, none)

not_false : (b : Bool) → not b ≡ false → b ≡ true
not_false true e = refl
not_false false e = absurd (cc e)

both_true : (a b : Bool) → (a && b) ≡ true → (a ≡ true) × (b ≡ true)
both_true true b e = (refl, e)
both_true false b e = absurd (cc e)

within : (l : Limits) (key : PageKey) → is_key l key ≡ true → IsKey l key
within l (Guest p) is = grind (arith, nat_tests, is)
within l (Frame g) is = grind (arith, nat_tests, is)

-- a page that can be had is with the client
pub record IsHad (c : Client) (key : PageKey) : Type 0 where
  pub within_limits : is_key c.state.kept.limits key ≡ true
  pub not_lent : set.contains c.lent key ≡ false

pub had : (c : Client) (key : PageKey) (bytes : ℕ) → first_true (page_tests c key bytes) ≡ None → IsHad c key
had c key bytes none =
    let out : Bool = not (is_key c.state.kept.limits key && nat_le bytes PAGE_SIZE) in
    let rest : Option ClientFault = first_true ((set.contains c.lent key, PageLent key) ∷ []) in
    let range = no_rule out (PageRange key) rest none in
    record {
      within_limits = (both_true (is_key c.state.kept.limits key) (nat_le bytes PAGE_SIZE)
          (not_false (is_key c.state.kept.limits key && nat_le bytes PAGE_SIZE) range.0)).0;
      not_lent = (no_rule (set.contains c.lent key) (PageLent key) None range.1).0;
    }

-- one that may be taken back is lent
pub record IsTaken (c : Client) (key : PageKey) : Type 0 where
  pub within_limits : is_key c.state.kept.limits key ≡ true
  pub lent : set.contains c.lent key ≡ true

pub taken : (c : Client) (key : PageKey) → first_true (take_tests c key) ≡ None → IsTaken c key
taken c key none =
    let unfenced : Bool = is_unfenced c.commands (map.get c.touched key) in
    let last : Option ClientFault = first_true ((unfenced, NoFence key) ∷ []) in
    let rest : Option ClientFault = first_true
    ((not (set.contains c.lent key), NotLent key) ∷ (unfenced, NoFence key) ∷ []) in
    let range = no_rule (not (is_key c.state.kept.limits key)) (PageRange key) rest none in
    record {
      within_limits = not_false (is_key c.state.kept.limits key) range.0;
      lent = not_false (set.contains c.lent key)
          (no_rule (not (set.contains c.lent key)) (NotLent key) last range.1).0;
    }

module _ {l : Limits} {c : Client} {k : Known} (o : IsFollowed l c k) where
  in_limits : (key : PageKey) → is_key c.state.kept.limits key ≡ true → IsKey l key
  in_limits key is = within l key (ap (λ limits. is_key limits key) (sym (limits_are o)) ∙ is)

  -- its bytes are with the driver
  pub own_bytes : (key : PageKey) (bytes : ℕ) → first_true (page_tests c key bytes) ≡ None
      → page_at k.own key ≡ Some (page_bytes k.own key)
  own_bytes key bytes none =
      let here = had c key bytes none in
      there (page_at k.own key) refl (o.own_pages key (in_limits key here.within_limits)
      (ap (λ lent. set.contains lent key) (sym o.lent_is) ∙ here.not_lent))
    where
      there : (p : Option (List ℕ)) → page_at k.own key ≡ p → IsSome (page_at k.own key)
          → page_at k.own key ≡ Some (page_bytes k.own key)
      there None e some = absurd (cc (ap is_some e, some))
      there (Some b) e some = e ∙ ap Some (sym (ap (λ p. unwrap_or p []) e))

  pub call_write : (key : PageKey) (offset : ℕ) (bytes : List ℕ)
      → refusal_of c (WritePage key offset bytes) ≡ None
      → IsFollowed l (after_call c (WritePage key offset bytes))
      (record k { own = writing k.own key offset bytes })
  call_write key offset bytes none =
      let own = own_bytes key (offset + length bytes) none in
      let same : page_bytes c.state.memory key ≡ page_bytes k.own key =
      ap (λ p. unwrap_or p []) (own_reads o key (page_bytes k.own key) own) in
      subst (λ old. IsFollowed l
      (record c { state = step c.state (Put key (over_written old offset bytes)) })
      (record k { own = writing k.own key offset bytes })) (sym same)
      (follows_write o key (over_written (page_bytes k.own key) offset bytes) (ap is_some own))

  pub call_lend : (key : PageKey) → refusal_of c (LendPage key) ≡ None
      → IsFollowed l (after_call c (LendPage key)) (lending k key)
  call_lend key none = follows_lend o key (page_bytes k.own key) (own_bytes key 0 none)

  -- a page that isn't with the client, and that may be taken back
  pub taken_free : (key : PageKey) → IsSeenBehind c k.seen key → (n : ℕ)
      → known_done k.acts k.passed k.seen ≤ n
      → TouchesAt (opening_state l c.first) k.acts n key → ⊥
  taken_free key behind n low touched = go (map.get c.touched key) refl where
    go : (p : Option ℕ) → map.get c.touched key ≡ p → ⊥
    go None e = untouched_free o key e n low touched
    go (Some place) e = fenced_free o key place e (behind place e) n low touched

  pub call_take : (key : PageKey) → refusal_of c (TakePage key) ≡ None → IsSeenBehind c k.seen key
      → IsFollowed l (after_call c (TakePage key)) (taking l c k key)
  call_take key none behind =
      let away = taken c key none in
      follows_take o key (in_limits key away.within_limits)
      (ap (λ lent. set.contains lent key) (sym o.lent_is) ∙ away.lent) (taken_free key behind)

  -- commands and chains
  pub call_commit : (command : Command) → refusal_of c (Commit command) ≡ None
      → IsFollowed l (after_call c (Commit command)) (acting k (Do command))
  call_commit command none = follows_commit o command (granted c command none)

  pub asked : (id first : ℕ) → refusal_of c (DescribeRegion id first) ≡ None → IsAsked c id first
  asked id first none =
      let start = or_none _ _ none in
      let rest = or_none _ _ start.1 in
      record {
        admissible = map_none _ _ rest.1;
        lent = λ key touched. tables_lent c.state id first c.lent key (map_none _ _ rest.0) touched;
      }

  pub call_describe : (id first : ℕ) → refusal_of c (DescribeRegion id first) ≡ None
      → IsFollowed l (after_call c (DescribeRegion id first)) (acting k (Chain id first))
  call_describe id first none = follows_chain o id first (asked id first none)

  -- what the driver tells of a command by itself
  pub commit_judged : (command : Command) → (ReadsNumbers command → ⊥)
      → refusal_of c (Commit command) ≡ refusal_by (state_of l c k).kept k.lent command
  commit_judged command named = λ i. option_or
      (option_map Refused (judged_by_shape o command named i))
      (option_map PageOut (first_out (o.lent_is i) (same_places o command i)))

-- A client that is followed is the one that the driver stands for; and what it shows of the device.
use Rattle.std.proofs.Common.{◌≡◌, ℕ, List, [], ◌∷◌, ◌++◌, Bool, true, false, cond, refl, sym, ap, ◌∙◌, Option, Some, None, is_some, IsSome}
use Rattle.std.specs.FinMap as map
use Rattle.std.specs.FinMap.{find, get-entries, get-from_entries}
use Rattle.std.specs.FinSet as set
use Rattle.std.specs.Option.{option_or}
use Rattle.std.specs.Ordering.{eq_by_cmp}
use Rattle.svga_client.proofs.OwnLaws.{none_there, own_none, own_some}
use Rattle.svga_client.specs.Following.{IsFollowed, Known, client_of, state_of}
use Rattle.svga_client.specs.OwnPages.{IsWithPages, overlaid, with_own}
use Rattle.svga_cmd.proofs.KeyLaws.{keys_exact, keys_total}
use Rattle.svga_cmd.proofs.Maps.{same_gets}
use Rattle.svga_cmd.specs.Pages.{Memory, key_cmp, page_at}
use Rattle.svga_cmd.specs.declared.command.Command.{Command}
use Rattle.svga_cmd.specs.declared.limits.Limits.{Limits}
use Rattle.svga_cmd.specs.declared.page.PageKey.{PageKey}
use Rattle.svga_model.proofs.ActLaws.{fault_is}
use Rattle.svga_model.proofs.ShapeLaws.{judged_whole}
use Rattle.svga_model.specs.Acts.{Do}
use Rattle.svga_model.specs.Clients.{Client}
use Rattle.svga_model.specs.Faults.{ReadsNumbers, fault_of, shape_tests}
use Rattle.svga_model.specs.Standing.{least_standing}
use Rattle.svga_model.specs.States.{Kept, State, shape_of}
use Rattle.svga_model.specs.Touches.{touched_places}

-- what is found in two lists of entries
find_either : (q : PageKey) (xs ys : List (PageKey × List ℕ))
    → find key_cmp q (xs ++ ys) ≡ option_or (find key_cmp q xs) (find key_cmp q ys)
find_either q [] ys = refl
find_either q (x ∷ xs) ys = go (eq_by_cmp key_cmp q x.0) (find_either q xs ys) where
  go : (b : Bool) → find key_cmp q (xs ++ ys) ≡ option_or (find key_cmp q xs) (find key_cmp q ys)
      → cond b (Some x.1) (find key_cmp q (xs ++ ys)) ≡ option_or (cond b (Some x.1) (find key_cmp q xs))
      (find key_cmp q ys)
  go true rest = refl
  go false rest = rest

pub overlaid_at : (own m : Memory) (q : PageKey)
    → page_at (overlaid own m) q ≡ option_or (page_at own q) (page_at m q)
unfolding overlaid
overlaid_at own m q =
    get-from_entries keys_total (map.entries own ++ map.entries m) q
    ∙ find_either q (map.entries own) (map.entries m)
    ∙ (λ i. option_or (sym (get-entries own q) i) (sym (get-entries m q) i))

-- a state with pages in their places is that one
pub with_own_is : (own : Memory) (s now : State) → IsWithPages own s now → now ≡ with_own own s
with_own_is own s now o = λ i. record {
  kept = o.kept i;
  memory = same_gets keys_total keys_exact now.memory (overlaid own s.memory) (λ q. o.pages q
      ∙ sym (overlaid_at own s.memory q)) i;
}

pub is_with_own : (own : Memory) (s : State) → IsWithPages own s (with_own own s)
is_with_own own s = record { kept = refl; pages = overlaid_at own s.memory }

module _ {l : Limits} {c : Client} {k : Known} (o : IsFollowed l c k) where
  pub client_is : c ≡ client_of l c.first c.touched k
  client_is = λ i. record {
    first = c.first;
    state = with_own_is k.own (state_of l c k) c.state o.state i;
    commands = o.commands_are i;
    lent = o.lent_is i;
    touched = c.touched;
  }

  -- a command is judged by the shape of what the acts leave, and touches the same places there
  pub judged_by_shape : (command : Command) → (ReadsNumbers command → ⊥)
      → fault_of c.state (Do command) ≡ least_standing (shape_tests (shape_of (state_of l c k).kept) command)
  judged_by_shape command named =
      fault_is c.state (Do command) ∙ judged_whole c.state command named
      ∙ ap (λ (kept : Kept). least_standing (shape_tests (shape_of kept) command)) o.state.kept

  pub same_places : (command : Command) → touched_places c.state.kept command ≡ touched_places
      (state_of l c k).kept command
  same_places command = ap (λ (kept : Kept). touched_places kept command) o.state.kept

  -- a page that is with the driver reads as the client has it
  pub own_reads : (key : PageKey) (bytes : List ℕ) → page_at k.own key ≡ Some bytes
      → page_at c.state.memory key ≡ Some bytes
  own_reads key bytes own = own_some k.own (state_of l c k) c.state key bytes o.state own

  -- all pages, each from the acts where it is lent and else from the driver, are the client's
  pub all_pages : (all : Memory)
      → ((key : PageKey) → page_at k.own key ≡ None → page_at all key ≡ page_at (state_of l c k).memory key)
      → ((key : PageKey) → IsSome (page_at k.own key) → page_at all key ≡ page_at k.own key)
      → all ≡ c.state.memory
  all_pages all lent own = same_gets keys_total keys_exact all c.state.memory
      (λ q. at q (page_at k.own q) refl) where
        at : (q : PageKey) (p : Option (List ℕ)) → page_at k.own q ≡ p
            → page_at all q ≡ page_at c.state.memory q
        at q None e = lent q e ∙ sym (own_none k.own (state_of l c k) c.state q o.state e)
        at q (Some bytes) e = own q (ap is_some e) ∙ e
            ∙ sym (own_some k.own (state_of l c k) c.state q bytes o.state e)

  -- a page that is lent reads for the client as the acts leave it
  pub lent_reads : (key : PageKey) → set.contains k.lent key ≡ true
      → page_at c.state.memory key ≡ page_at (state_of l c k).memory key
  lent_reads key lent = own_none k.own (state_of l c k) c.state key o.state
      (none_there (page_at k.own key) (λ own. let free = (o.own_keys key own).1 in cc (lent, free)))

-- The client at first, and pages that the driver takes and lends again as they were.
use Rattle.std.proofs.Common.{◌≡◌, ℕ, ◌≤◌, List, [], ◌∷◌, ◌++◌, length, refl, sym, ap, subst, ◌∙◌, Option, Some, None, IsSome, unwrap_or, arith}
use Rattle.std.proofs.lemmas.Option.{none-some}
use Rattle.std.specs.FinMap as map
use Rattle.std.specs.FinMap.{get-empty}
use Rattle.std.specs.FinSet.{contains-empty}
use Rattle.std.specs.Option.{option_or}
use Rattle.svga_client.proofs.FollowLaws.{done_more, run_more}
use Rattle.svga_client.specs.Following.{IsFollowed, Known, giving_again, opening_known, state_of}
use Rattle.svga_client.specs.OwnPages.{IsWithPages}
use Rattle.svga_cmd.proofs.KeyLaws.{keys_exact, keys_total}
use Rattle.svga_cmd.proofs.Maps.{by_key}
use Rattle.svga_cmd.specs.Pages.{HasPage, IsKey, key_cmp, page_at}
use Rattle.svga_cmd.specs.declared.limits.Limits.{Limits}
use Rattle.svga_cmd.specs.declared.page.PageKey.{PageKey}
use Rattle.svga_model.proofs.PutLaws.{page_other, page_put, put_admissible}
use Rattle.svga_model.proofs.ValidMemory.{opening_has, opening_pages}
use Rattle.svga_model.specs.Acts.{Act, Put}
use Rattle.svga_model.specs.Clients.{Client, opening_client}
use Rattle.svga_model.specs.Faults.{IsAdmissible}
use Rattle.svga_model.specs.Fences.{fences}
use Rattle.svga_model.specs.Memories.{page_bytes}
use Rattle.svga_model.specs.States.{State, opening_memory, opening_state}
use Rattle.svga_model.specs.Steps.{step}
use Rattle.svga_ring.proofs.Acts.Append.{commands_still, touches_put}
use Rattle.svga_ring.proofs.Acts.KnownDone.{known_done_still}
use Rattle.svga_ring.proofs.Acts.Runs.{page_there}
use Rattle.svga_ring.specs.SoundPages.{known_done}

twice : {X : Type 0} (o : Option X) → o ≡ option_or o o
twice None = refl
twice (Some x) = refl

pub follows_opening : (l : Limits) (first : ℕ) → IsFollowed l (opening_client l first) (opening_known l)
follows_opening l first = record {
  state = record { kept = refl; pages = λ key. twice (page_at (opening_memory l) key) };
  commands_are = refl;
  lent_is = refl;
  own_keys = λ key own. ((opening_pages l).keys key own, contains-empty key_cmp key);
  own_pages = λ key is free. opening_has l key is;
  in_turn = refl;
  seen_low = omega arith;
  touched_lent = λ n key low touched. absurd (none-some touched.0 touched.1);
  touched_last = λ n key low touched. absurd (none-some touched.0 touched.1);
  places_low = λ key place at. absurd (let none = get-empty key_cmp key in none-some place (sym none ∙ at));
}

-- a Put that changes nothing
same_put : (own : map.FinMap key_cmp (List ℕ)) (s now : State) (key : PageKey) → HasPage s.memory key
    → IsWithPages own s now
    → IsWithPages own (step s (Put key (page_bytes s.memory key))) now
same_put own s now key has o = record {
  kept = o.kept;
  pages = λ q. o.pages q ∙ ap (λ p. option_or (page_at own q) p) (same q);
}
  where
    put : State
    put = step s (Put key (page_bytes s.memory key))

    some_bytes : (p : Option (List ℕ)) → page_at s.memory key ≡ p → IsSome p
        → page_at s.memory key ≡ Some (page_bytes s.memory key)
    some_bytes None e there = absurd (cc there)
    some_bytes (Some b) e there = e ∙ ap Some (sym (ap (λ p. unwrap_or p []) e))

    same : (q : PageKey) → page_at s.memory q ≡ page_at put.memory q
    same q = by_key keys_total keys_exact q key (page_at s.memory q ≡ page_at put.memory q)
        (λ is. subst (λ p. page_at s.memory p ≡ page_at put.memory p) (sym is)
        (some_bytes (page_at s.memory key) refl has ∙ sym
        (page_put s.memory key (page_bytes s.memory key) has)))
        (λ differ. sym (page_other s.memory key q (page_bytes s.memory key) differ))

-- A lent page that the driver may take is lent again as it was: the client's lending goes on.
pub follows_relend : {l : Limits} {c : Client} {k : Known} (key : PageKey) → IsFollowed l c k → IsKey l key
    → IsFollowed l c (giving_again l c k key)
follows_relend {l} {c} {k} key o is = record {
  state = subst (λ t. IsWithPages k.own t c.state) (sym (run_more s k.acts x o.in_turn admits))
      (same_put k.own (state_of l c k) c.state key (page_there l c.first k.acts key is) o.state);
  commands_are = o.commands_are ∙ sym (commands_still k.acts x refl);
  lent_is = o.lent_is;
  own_keys = o.own_keys;
  own_pages = o.own_pages;
  in_turn = done_more s k.acts x o.in_turn admits;
  seen_low = omega (arith, o.seen_low, ap (λ cs. length (fences cs)) (commands_still k.acts x refl));
  touched_lent = λ n q low touched. o.touched_lent n q (at_place n low)
      (touches_put s k.acts q key bytes n touched);
  touched_last = λ n q low touched. o.touched_last n q (at_place n low)
      (touches_put s k.acts q key bytes n touched);
  places_low = λ q place at. let low = o.places_low q place at in
      omega (arith, low, ap length (commands_still k.acts x refl));
}
  where
    s : State
    s = opening_state l c.first

    bytes : List ℕ
    bytes = page_bytes (state_of l c k).memory key

    x : Act
    x = Put key bytes

    admits : IsAdmissible (state_of l c k) x
    admits = put_admissible (state_of l c k) key bytes

    at_place : (n : ℕ) → known_done (k.acts ++ x ∷ []) k.passed k.seen ≤ n
        → known_done k.acts k.passed k.seen ≤ n
    at_place n low = omega (arith, low, known_done_still k.acts x k.passed k.seen refl)

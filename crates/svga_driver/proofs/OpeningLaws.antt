-- What a new driver keeps.
use Rattle.std.proofs.Common.{◌≡◌, ℕ, List, [], ◌∷◌, refl, sym, ap, subst, ◌∙◌, Option, Some, None, option_map, is_some, IfSome, map as map_list, replicate, arith}
use Rattle.std.proofs.lemmas.Option.{none-some}
use Rattle.std.specs.FinMap as map
use Rattle.std.specs.FinMap.{FinMap, get-empty}
use Rattle.std.specs.FinSet.{contains-empty}
use Rattle.std.specs.Ordering.{nat_cmp}
use Rattle.svga_client.proofs.ClientOfLaws.{client_is}
use Rattle.svga_client.proofs.OpeningLaws.{follows_opening}
use Rattle.svga_client.specs.Following.{IsFollowed}
use Rattle.svga_cmd.proofs.KeyLaws.{keys_exact, keys_total}
use Rattle.svga_cmd.proofs.Maps.{by_key, get_other, get_same}
use Rattle.svga_cmd.proofs.MemoryLaws.{one_zero_memory}
use Rattle.svga_cmd.specs.Pages.{IsZeroMemoryOf, Memory, key_cmp, page_at}
use Rattle.svga_cmd.specs.declared.constants.TheConstants.{PAGE_SIZE, RING_START}
use Rattle.svga_cmd.specs.declared.limits.Limits.{Limits}
use Rattle.svga_cmd.specs.declared.page.PageKey.{PageKey}
use Rattle.svga_cmd.specs.declared.screen.ScreenDef.{ScreenDef}
use Rattle.svga_cmd.specs.declared.session.Session.{Session}
use Rattle.svga_driver.specs.Driving.{IsDriver, known_by}
use Rattle.svga_driver.specs.LendingSet.{LendingSet}
use Rattle.svga_link.specs.Ends.{DriverSeen}
use Rattle.svga_model.proofs.ValidMemory.{opening_has, opening_pages}
use Rattle.svga_model.specs.Screens.{Screen, Screens, definitions_of}
use Rattle.svga_model.specs.States.{all_keys, opening_memory}
use Rattle.svga_ring.specs.Views.{opening_driver}
use Rattle.svga_ring.specs.declared.plans.Geometry.{Geometry}
use Rattle.svga_shape.specs.ShapeSet.{ShapeSet, opening_shape}

-- pages that all have the same bytes
all_same : (zeros : List ℕ) (keys : List PageKey) (q : PageKey)
    → IfSome (page_at (map.from_entries (map_list (λ key. (key, zeros)) keys)) q) (λ bytes. bytes ≡ zeros)
all_same zeros [] q = subst (λ o. IfSome o (λ bytes. bytes ≡ zeros)) (sym (get-empty key_cmp q)) tt
all_same zeros (key ∷ keys) q =
    let rest : Memory = map.from_entries (map_list (λ key. (key, zeros)) keys) in
    let P : Option (List ℕ) → Type 0 = λ o. IfSome o (λ bytes. bytes ≡ zeros) in
    by_key keys_total keys_exact q key (P (page_at (map.insert rest key zeros) q))
    (λ is. subst P (sym (ap (page_at (map.insert rest key zeros)) is
    ∙ get_same keys_total keys_exact rest key zeros)) refl)
    (λ ne. subst P (sym (get_other keys_total keys_exact rest key q zeros ne)) (all_same zeros keys q))

opening_zero : (l : Limits) → IsZeroMemoryOf l (opening_memory l)
unfolding opening_memory
opening_zero l = record {
  keys = λ key. ((opening_pages l).keys key, opening_has l key);
  zeros = λ key. all_same (replicate PAGE_SIZE 0) (all_keys l) key;
}

abbrev pub none_lent : Limits → LendingSet
none_lent l = record { limits = l; lent = map.empty; touched = map.empty }

abbrev no_definitions : FinMap nat_cmp ScreenDef
no_definitions = map.empty

abbrev no_screens : Screens
no_screens = map.empty

none_defined : (id : ℕ) → definitions_of no_screens id ≡ map.get no_definitions id
none_defined id = go (map.get no_screens id) (get-empty nat_cmp id) where
  go : (o : Option Screen) → o ≡ None → option_map (λ (s : Screen). s.def) o ≡ map.get no_definitions id
  go None e = sym (get-empty nat_cmp id)
  go (Some s) e = absurd (none-some s (sym e))

-- the ring of a session
abbrev pub opening_ring : Session → Geometry
opening_ring session = record { min = RING_START; max = session.ring }

opens_so : (session : Session) (e : DriverSeen) → e.reserved ≡ 0 → e.words ≡ []
    → e.view ≡ opening_driver session
    → e.pages ≡ opening_memory session.limits
    → IsDriver (opening_ring session) RING_START (record e { view = opening_driver session; pages = opening_memory session.limits })
    (opening_shape session.limits) (none_lent session.limits) session.first 0 0 0 None
opens_so session e reserved words view pages = record {
  followed = subst (λ c. IsFollowed session.limits c
      (known_by (opening_driver session) (opening_memory session.limits)))
      (client_is (follows_opening session.limits session.first))
      (follows_opening session.limits session.first);
  none_reserved = reserved;
  none_put = words;
  runs = refl;
  large = let least = session.within.ring_end.least in omega (arith, least);
  shape_is = λ i. record {
    limits = session.limits;
    regions = map.empty;
    gmrfb = None;
    definitions =
        λ id. none_defined id i;
  };
  limits_are = refl;
  lent_are = λ key. ap is_some (get-empty key_cmp key) ∙ sym (contains-empty key_cmp key);
  marks = λ key command fences got. absurd (let none = get-empty key_cmp key in none-some _ (sym none ∙ got));
  first_is = refl;
  some_first = session.within.first_fence.least;
  emitted_are = refl;
  committed_are = refl;
  fenced = omega arith;
  counted = omega arith;
  seen_are = refl;
  window = omega arith;
  passed = refl;
  some_passed = omega arith;
  asked_is = refl;
  at_next = record {
    ring_is = refl;
    ring_good = record {
      min_whole = refl;
      max_whole = session.within.whole_words;
      some = let least = session.within.ring_end.least in omega (arith, least);
      most = let most = session.within.ring_end.most in omega (arith, most);
    };
    none_before = refl;
    offset = record {
      whole = refl;
      least = omega arith;
      below = let least = session.within.ring_end.least in omega (arith, least);
    };
    next_is = omega arith;
  };
}

pub opens : (session : Session) (e : DriverSeen) (s : ShapeSet) (n : LendingSet)
    → e.view ≡ opening_driver session
    → e.reserved ≡ 0 → e.words ≡ [] → IsZeroMemoryOf session.limits e.pages
    → s ≡ opening_shape session.limits → n ≡ none_lent session.limits
    → IsDriver (opening_ring session) RING_START e s n session.first 0 0 0 None
opens session e s n view reserved words zeros shape none =
    let pages : e.pages ≡ opening_memory session.limits =
    one_zero_memory session.limits e.pages (opening_memory session.limits) zeros
    (opening_zero session.limits) in
    let whole : e ≡ record e { view = opening_driver session; pages = opening_memory session.limits } =
    (λ i. record e { view = view i; pages = pages i }) in
    subst (λ x. IsDriver (opening_ring session) RING_START x s n session.first 0 0 0 None) (sym whole)
    (subst (λ x. IsDriver (opening_ring session) RING_START (record e {
      view = opening_driver session;
      pages =
          opening_memory session.limits;
    }) x n session.first 0 0 0 None) (sym shape)
    (subst (λ x. IsDriver (opening_ring session) RING_START (record e { view = opening_driver session; pages = opening_memory session.limits })
    (opening_shape session.limits) x session.first 0 0 0 None) (sym none)
    (opens_so session e reserved words view pages)))

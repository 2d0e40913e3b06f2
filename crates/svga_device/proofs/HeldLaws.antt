-- The list of the pages that are held.
use Rattle.std.proofs.Common.{◌≡◌, ◌≤◌, ◌*◌, ◌==◌, ◌++◌, ◌∷◌, arith, ℕ, List, [], Bool, true, false, cond, nat_lt, inl, inr, refl, sym, ap, subst, ◌∙◌, Option, Some, None, is_some, length, option_map, unwrap_or}
use Rattle.std.proofs.lemmas.Bool.Decides.{nat_tests}
use Rattle.std.proofs.lemmas.List.Elements.{Contains-append_left, Contains-push, Contains-push_cases}
use Rattle.std.proofs.lemmas.List.FromFn.{length-map-range_with_len}
use Rattle.std.proofs.lemmas.Nat.{mul-le}
use Rattle.std.proofs.lemmas.Option.{none-some, same_Some}
use Rattle.std.specs.Cmp.{nat_cmp_total}
use Rattle.std.specs.FinMap as map
use Rattle.std.specs.FinMap.{get-empty, get-insert, nat_cmp-IsAntisymmetric}
use Rattle.std.specs.List.{Contains}
use Rattle.std.specs.Ordering.{eq_by_cmp}
use mathlib.Core.Bool.{true≢false}
use Rattle.svga_cmd.proofs.KeyLaws.{keys_exact, keys_total}
use Rattle.svga_cmd.proofs.Maps.{get_kept, get_removed, one_key}
use Rattle.svga_cmd.specs.Limits.{AreLimits, frame_page_count}
use Rattle.svga_cmd.specs.Pages.{HasPage, IsKey, Memory, key_cmp, page_at}
use Rattle.svga_cmd.specs.declared.constants.TheConstants.{MAX_PLACES, MAX_REGION_ID, SVGA_GMR_FRAMEBUFFER}
use Rattle.svga_cmd.specs.declared.limits.Limits.{Limits}
use Rattle.svga_cmd.specs.declared.page.PageKey.{PageKey}
use Rattle.svga_cmd.specs.declared.page.PageKey.TheVariants.{Frame}
use Rattle.svga_model.proofs.ValidRegions.{place_count-changed}
use Rattle.svga_model.specs.Regions.{Places, Regions, frame_places, place_count, places_of, region_length}
use Rattle.svga_model.specs.ValidStates.{AreRegions}
use Rattle.svga_device.specs.Serving.{AreListed}

-- none is there
pub listed_none : (l : Limits) (pages : Memory) (keys : List PageKey) → pages ≡ map.empty → keys ≡ [] → AreListed l pages keys
listed_none l pages keys none empty = record {
  each = λ key (k, low, is). absurd (let e = ap length empty in omega (arith, low, e));
  all = λ key has. absurd (true≢false (sym has ∙ ap (λ m. is_some (page_at m key)) none ∙ ap is_some (get-empty key_cmp key)));
}

-- one more is there
pub listed_more : (l : Limits) (pages pages' : Memory) (keys keys' : List PageKey) (key : PageKey) (bytes : List ℕ)
    → IsKey l key → pages' ≡ map.insert pages key bytes → keys' ≡ keys ++ key ∷ [] → AreListed l pages keys → AreListed l pages' keys'
listed_more l pages pages' keys keys' key bytes is put pushed a =
    let now : AreListed l (map.insert pages key bytes) (keys ++ key ∷ []) = record {
      each = λ q on. elim (Contains-push_cases keys key q on) as (λ _. IsKey l q) [ inl before ↦ a.each q before | inr same ↦ subst (IsKey l) same is ];
      all = λ q has.
          let go : (b : Bool) → eq_by_cmp key_cmp q key ≡ b → is_some (cond b (Some bytes) (page_at pages q)) ≡ true → Contains (keys ++ key ∷ []) q =
          λ b. elim b as (λ b. eq_by_cmp key_cmp q key ≡ b → is_some (cond b (Some bytes) (page_at pages q)) ≡ true → Contains (keys ++ key ∷ []) q) [
            | true ↦ (λ e h. subst (Contains (keys ++ key ∷ [])) (sym (one_key keys_total keys_exact q key e)) (Contains-push keys key))
            | false ↦ (λ e h. Contains-append_left keys (key ∷ []) q (a.all q h))
          ] in
          go (eq_by_cmp key_cmp q key) refl (sym (ap is_some (get-insert keys_total pages key bytes q)) ∙ has);
    } in
    subst (λ m. AreListed l m keys') (sym put) (subst (AreListed l (map.insert pages key bytes)) (sym pushed) now)

-- the same pages are there
pub listed_same : (l : Limits) (pages pages' : Memory) (keys : List PageKey) → ((key : PageKey) → HasPage pages' key → HasPage pages key)
    → AreListed l pages keys → AreListed l pages' keys
listed_same l pages pages' keys back a = record { each = a.each; all = λ key has. a.all key (back key has) }

-- the last one goes
pub listed_less : (l : Limits) (pages pages' : Memory) (keys keys' : List PageKey) (key : PageKey) → keys ≡ keys' ++ key ∷ []
    → page_at pages' key ≡ None → ((q : PageKey) → page_at pages q ≡ None → page_at pages' q ≡ None)
    → AreListed l pages keys → AreListed l pages' keys'
listed_less l pages pages' keys keys' key popped gone none a =
    let was : AreListed l pages (keys' ++ key ∷ []) = subst (AreListed l pages) popped a in record {
      each = λ q on. was.each q (Contains-append_left keys' (key ∷ []) q on);
      all = λ q has.
          let before : HasPage pages q = there (page_at pages q) q refl has in
          elim (Contains-push_cases keys' key q (was.all q before)) as (λ _. Contains keys' q) [
            | inl still ↦ still
            | inr same ↦ absurd (true≢false (sym has ∙ ap (λ k. is_some (page_at pages' k)) (sym same) ∙ ap is_some gone))
          ];
    }
  where
    there : (o : Option (List ℕ)) → (q : PageKey) → page_at pages q ≡ o → HasPage pages' q → HasPage pages q
    there None q e has = absurd (true≢false (sym has ∙ ap is_some (none q e)))
    there (Some b) q e has = ap is_some e

-- the last one is one of them
pub last_key : (l : Limits) (pages : Memory) (keys keys' : List PageKey) (key : PageKey) → keys ≡ keys' ++ key ∷ []
    → AreListed l pages keys → IsKey l key
last_key l pages keys keys' key popped a = (subst (AreListed l pages) popped a).each key (Contains-push keys' key)

-- where none is listed, none is there
pub none_listed : (l : Limits) (pages : Memory) (keys : List PageKey) → length keys ≡ 0 → AreListed l pages keys
    → (key : PageKey) → page_at pages key ≡ None
none_listed l pages keys none a key = go (page_at pages key) refl where
  go : (o : Option (List ℕ)) → page_at pages key ≡ o → page_at pages key ≡ None
  go None e = e
  go (Some b) e = let on = a.all key (ap is_some e) in absurd (let low = on.1 in omega (arith, low, none))

pub none_of : (keys : List PageKey) → length keys ≡ 0 → keys ≡ []
none_of [] none = refl
none_of (key ∷ keys) none = absurd (omega (arith, none))

-- the framebuffer has no more pages than that
frame_few : (l : Limits) → AreLimits l → frame_page_count l ≤ MAX_PLACES
frame_few l a =
    let bytes = mul-le (4 * l.gfb_width) l.gfb_height 16384 2048 (omega (arith, a.gfb_width.most)) a.gfb_height.most in
    omega (arith, bytes)

-- and no region more places
region_few : (l : Limits) (regions : Regions) (id : ℕ) → id ≤ MAX_REGION_ID → AreRegions l regions → region_length regions id ≤ MAX_PLACES
region_few l regions id small are =
    let without : Regions = map.remove regions id in
    let changed = place_count-changed regions without id small (λ q ne. get_kept nat_cmp_total nat_cmp-IsAntisymmetric regions id q ne) in
    let nothing : region_length without id ≡ 0 = none (nat_lt MAX_REGION_ID id) (map.get without id) (get_removed nat_cmp_total nat_cmp-IsAntisymmetric regions id) in
    let fewer : region_length regions id ≤ place_count regions = omega (arith, changed, nothing) in
    omega (arith, fewer, are.within)
  where
    none : (above : Bool) (o : Option Places) → o ≡ None → length (unwrap_or (cond above None o) []) ≡ 0
    none true o e = refl
    none false o e = ap (λ p. length (unwrap_or p [])) e

length_of : (o : Option Places) (n m : ℕ) → Some n ≡ option_map length o → length (unwrap_or o []) ≤ m → n ≤ m
length_of None n m is low = absurd (none-some n (sym is))
length_of (Some places) n m is low = let same = same_Some n (length places) is in omega (arith, same, low)

pub few_places : (l : Limits) (frame : ℕ) (regions : Regions) (id n : ℕ) → AreLimits l → frame ≡ frame_page_count l → AreRegions l regions
    → Some n ≡ option_map length (places_of frame regions id) → n ≤ MAX_PLACES
few_places l frame regions id n limits is are count = go (id == SVGA_GMR_FRAMEBUFFER) (nat_lt MAX_REGION_ID id) refl count where
  full : length (frame_places frame) ≡ frame
  full = length-map-range_with_len (λ g. Some (Frame g)) 0 frame

  go : (b above : Bool) → nat_lt MAX_REGION_ID id ≡ above → Some n ≡ option_map length (cond b (Some (frame_places frame)) (cond above None (map.get regions id))) → n ≤ MAX_PLACES
  go true above e here = let same = same_Some n (length (frame_places frame)) here in omega (arith, same, full, is, frame_few l limits)
  go false true e here = absurd (none-some n (sym here))
  go false false e here =
      let small : id ≤ MAX_REGION_ID = grind (arith, e, nat_tests) in
      length_of (cond false None (map.get regions id)) n MAX_PLACES here
      (subst (λ b. length (unwrap_or (cond b None (map.get regions id)) []) ≤ MAX_PLACES) e (region_few l regions id small are))

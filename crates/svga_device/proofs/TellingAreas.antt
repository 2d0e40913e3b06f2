-- The areas that were painted are told one after another.
use Rattle.std.proofs.Common.{◌≡◌, ℕ, ◌+◌, ◌<◌, ◌≤◌, inl, inr, refl, sym, ap, subst, ◌∙◌, List, length, Option, Some, None, IfSome, IsSomeAnd, arith}
use Rattle.std.proofs.lemmas.Bool.{cases_lt}
use Rattle.std.specs.Cmp.{nat_cmp_total as total}
use Rattle.std.specs.FinMap as map
use Rattle.std.specs.FinMap.{nat_cmp-IsAntisymmetric as exact}
use Rattle.std.specs.Prelude.{option_map}
use Rattle.svga_cmd.proofs.Maps.{by_key, get_other, get_same, same_gets}
use Rattle.svga_model.proofs.TabulatedLaws.{get-tabulated, get-tabulated_past}
use Rattle.svga_model.specs.BlitEffects.{repainted, repainted_screens}
use Rattle.svga_model.specs.Screens.{IsScreen, Screen, Screens}
use Rattle.svga_screen.specs.declared.area.Area.{Area}
use Rattle.svga_transfer.proofs.PaintRows.{repainted_none}
use Rattle.svga_transfer.specs.Areas.{HasAreaOf, IsPainted, area_at}
use Rattle.svga_device.proofs.TellingRows.{no_colour}
use Rattle.svga_device.specs.Telling.{AreRepaintedIn, IsRepaintedIn, with_area}

module _ (areas : List Area) (before after : Screens) (r : AreRepaintedIn areas before after) where
  abbrev slot : ℕ → Option Screen
  slot id = option_map (λ s. repainted (r.colours id s.def) s) (map.get before id)

  -- a screen that has no area stays
  stays : (id : ℕ) → (HasAreaOf areas id → ⊥) → slot id ≡ map.get before id
  stays id none = go (map.get before id) refl (r.valid.each id) where
    go : (o : Option Screen) → map.get before id ≡ o → IfSome o (IsScreen id)
        → option_map (λ s. repainted (r.colours id s.def) s) o ≡ o
    go None e is = refl
    go (Some s) e is = ap Some (repainted_none s id is (r.colours id s.def)
        (λ x y wide high. no_colour (r.colours id s.def x y)
        (λ there. none (r.areas_are.all id s.def x y (ap (option_map (λ u. u.def)) e) wide high there))))

  -- what the screens are at last
  get_new : (id : ℕ) → map.get (repainted_screens r.colours before) id ≡ slot id
  unfolding repainted_screens
  get_new id = elim (cases_lt id 16) as (λ _. map.get (repainted_screens r.colours before) id ≡ slot id) [
    | inl low ↦ get-tabulated 16 slot id low
    | inr past ↦ get-tabulated_past 16 slot id past
        ∙ sym (ap (option_map (λ s. repainted (r.colours id s.def) s)) (r.valid.ids id past))
  ]

  get_after : (id : ℕ) → map.get after id ≡ slot id
  get_after id = ap (λ m. map.get m id) r.after_is ∙ get_new id

  -- The first k areas are told: the screens with ids below one are as they are at last, and the others
  -- as they were.
  pub record AreTold (k : ℕ) (now : Screens) : Type 0 where
    pub low : ℕ
    pub past : (i : ℕ) → i < k → (area_at areas i).screen < low
    pub next : (i : ℕ) → k ≤ i → i < length areas → low ≤ (area_at areas i).screen
    pub below : (id : ℕ) → id < low → map.get now id ≡ slot id
    pub from : (id : ℕ) → low ≤ id → map.get now id ≡ map.get before id

  pub none_told : AreTold 0 before
  none_told = record {
    low = 0;
    past = λ i l. absurd (omega arith);
    next = λ i l m. omega arith;
    below = λ id l. absurd (omega arith);
    from = λ id l. refl;
  }

  -- the area that is told next
  module _ (k : ℕ) (in_list : k < length areas) (now : Screens) (told : AreTold k now) where
    abbrev a : Area
    a = area_at areas k

    pub next_area : IsRepaintedIn a now after
    next_area = go (map.get before a.screen) refl (r.valid.each a.screen) (r.areas_are.each k in_list) where
      go : (o : Option Screen) → map.get before a.screen ≡ o → IfSome o (IsScreen a.screen)
          → IsSomeAnd (option_map (λ s. s.def) o) (λ d. IsPainted (r.colours a.screen d) d a)
          → IsRepaintedIn a now after
      go None e is p = absurd p
      go (Some s) e is p = record {
        screen = s;
        colour = r.colours a.screen s.def;
        valid = is;
        painted = p;
        here = told.from a.screen (told.next k (omega arith) in_list) ∙ e;
        there = get_after a.screen ∙ ap (option_map (λ u. repainted (r.colours a.screen u.def) u)) e;
      }

    -- the screens between that of the last area and this one have none
    between : (id : ℕ) → told.low ≤ id → id < a.screen → HasAreaOf areas id → ⊥
    between id low high (i, l, is) = elim (cases_lt i k) as (λ _. ⊥) [
      | inl less ↦ let earlier = told.past i less in omega (arith, earlier, is, low)
      | inr from ↦ elim (cases_lt k i) as (λ _. ⊥) [
        | inl more ↦ let later = r.areas_are.ascending k i more l in omega (arith, later, is, high)
        | inr here ↦
            let same : k ≡ i = omega (arith, from, here) in
            let screen : a.screen ≡ id = ap (λ j. (area_at areas j).screen) same ∙ is in
            omega (arith, screen, high)
      ]
    ]

    pub one_more : (t : IsRepaintedIn a now after) → AreTold (k + 1) (with_area a now after t)
    one_more t = record {
      low = a.screen + 1;
      past = λ i l. elim (cases_lt i k) as (λ _. (area_at areas i).screen < a.screen + 1) [
        | inl less ↦
            let earlier = told.past i less in
            let low = told.next k (omega arith) in_list in
            omega (arith, earlier, low)
        | inr from ↦
            let same : i ≡ k = omega (arith, from, l) in
            let screen : (area_at areas i).screen ≡ a.screen = ap (λ j. (area_at areas j).screen) same in
            omega (arith, screen)
      ];
      next = λ i l m. let later = r.areas_are.ascending k i (omega arith) m in omega (arith, later);
      below = λ id l. by_key total exact id a.screen (map.get new id ≡ slot id)
          (λ is. subst (λ q. map.get new q ≡ slot q) (sym is)
          (get_same total exact now a.screen (repainted t.colour t.screen) ∙ sym t.there ∙ get_after a.screen))
          (λ ne. get_other total exact now a.screen id (repainted t.colour t.screen) ne
          ∙ elim (cases_lt id told.low) as (λ _. map.get now id ≡ slot id) [
            | inl less ↦ told.below id less
            | inr past ↦ told.from id past ∙ sym (stays id (between id past (omega (arith, ne, l))))
          ]);
      from = λ id l. get_other total exact now a.screen id (repainted t.colour t.screen) (λ is. absurd (omega arith))
          ∙ told.from id (let low = told.next k (omega arith) in_list in omega (arith, l, low));
    } where
      new : Screens
      new = with_area a now after t

  -- behind the last area the screens are those at last
  pub all_told : (k : ℕ) → length areas ≤ k → (now : Screens) → AreTold k now → now ≡ after
  all_told k last now told = same_gets total exact now after (λ id. at id ∙ sym (get_after id)) where
    none_left : (id : ℕ) → told.low ≤ id → HasAreaOf areas id → ⊥
    none_left id high (i, l, is) = let earlier = told.past i (omega arith) in omega (arith, earlier, is, high)

    at : (id : ℕ) → map.get now id ≡ slot id
    at id = elim (cases_lt id told.low) as (λ _. map.get now id ≡ slot id) [
      | inl less ↦ told.below id less
      | inr past ↦ told.from id past ∙ sym (stays id (none_left id past))
    ]

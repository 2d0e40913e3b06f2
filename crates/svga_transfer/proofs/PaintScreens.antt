-- The screens get their new colours one after another, by their ids.
use Rattle.std.proofs.Common.{◌≡◌, ℕ, ◌+◌, ◌<◌, ◌≤◌, inl, inr, sym, ap, subst, ◌∙◌, Option, None, arith}
use Rattle.std.specs.Prelude.{option_map}
use Rattle.std.proofs.lemmas.Bool.{cases_lt}
use Rattle.std.specs.Cmp.{nat_cmp_total}
use Rattle.std.specs.FinMap as map
use Rattle.std.specs.FinMap.{nat_cmp-IsAntisymmetric}
use Rattle.svga_cmd.proofs.Maps.{same_gets}
use Rattle.svga_cmd.specs.declared.screen.ScreenDef.{ScreenDef}
use Rattle.svga_model.proofs.TabulatedLaws.{get-tabulated, get-tabulated_past}
use Rattle.svga_model.specs.BlitEffects.{repainted, repainted_screens}
use Rattle.svga_model.specs.Screens.{Screen, definitions_of}
use Rattle.svga_screen.specs.ScreenSet.{ScreenSet}
use Rattle.svga_transfer.proofs.PaintScreen.{kept_def}
use Rattle.svga_transfer.specs.Painting.{IsRepainted}

-- the screens with ids below n have their new colours, and the others are as they were
pub record AreRepainted (colour : ℕ → ScreenDef → ℕ → ℕ → Option ℕ) (n : ℕ) (old new : ScreenSet) : Type 0 where
  pub budget : new.budget ≡ old.budget
  pub below : (id : ℕ) → id < n
      → map.get new.screens id ≡ option_map (λ s. repainted (colour id s.def) s) (map.get old.screens id)
  pub from : (id : ℕ) → n ≤ id → map.get new.screens id ≡ map.get old.screens id

module _ (colour : ℕ → ScreenDef → ℕ → ℕ → Option ℕ) (old : ScreenSet) where
  abbrev slot : ℕ → Option Screen
  slot id = option_map (λ s. repainted (colour id s.def) s) (map.get old.screens id)

  -- one screen more
  pub one_more : (n : ℕ) (now new : ScreenSet) → AreRepainted colour n old now → IsRepainted (colour n) n now new
      → AreRepainted colour (n + 1) old new
  one_more n now new before step = record {
    budget = step.budget ∙ before.budget;
    below = λ id l. elim (cases_lt id n) as (λ _. map.get new.screens id ≡ slot id) [
      | inl low ↦ step.others id (λ is. absurd (omega arith)) ∙ before.below id low
      | inr past ↦ subst (λ k. map.get new.screens k ≡ slot k) (let last : n ≡ id = omega arith in last)
          (step.here ∙ ap (option_map (λ s. repainted (colour n s.def) s)) (before.from n (omega arith)))
    ];
    from = λ id l. step.others id (λ is. absurd (omega arith)) ∙ before.from id (omega arith);
  }

  -- the definitions stay
  same_at : (n : ℕ) (now : ScreenSet) → AreRepainted colour n old now
      → (id : ℕ) → definitions_of now.screens id ≡ definitions_of old.screens id
  same_at n now done id = elim (cases_lt id n) as (λ _. definitions_of now.screens id ≡ definitions_of old.screens id) [
    | inl low ↦ ap (option_map (λ s. s.def)) (done.below id low) ∙ kept_def (colour id) (map.get old.screens id)
    | inr high ↦ ap (option_map (λ s. s.def)) (done.from id high)
  ]

  pub same_definitions : (n : ℕ) (now : ScreenSet) → AreRepainted colour n old now
      → definitions_of now.screens ≡ definitions_of old.screens
  same_definitions n now done = λ i id. same_at n now done id i

  -- behind the last id all screens have their new colours
  module _ (past : (q : ℕ) → 16 ≤ q → map.get old.screens q ≡ None) (now : ScreenSet)
      (done : AreRepainted colour 16 old now) where
    there : (id : ℕ) → id < 16 → map.get (repainted_screens colour old.screens) id ≡ slot id
    unfolding repainted_screens
    there id low = get-tabulated 16 slot id low

    beyond : (id : ℕ) → 16 ≤ id → map.get (repainted_screens colour old.screens) id ≡ None
    unfolding repainted_screens
    beyond id high = get-tabulated_past 16 slot id high

    same_screens : now.screens ≡ repainted_screens colour old.screens
    same_screens = same_gets nat_cmp_total nat_cmp-IsAntisymmetric now.screens (repainted_screens colour old.screens)
        (λ id. elim (cases_lt id 16)
        as (λ _. map.get now.screens id ≡ map.get (repainted_screens colour old.screens) id) [
          | inl low ↦ done.below id low ∙ sym (there id low)
          | inr high ↦ done.from id high ∙ past id high ∙ sym (beyond id high)
        ])

    pub all_repainted : now ≡ record old { screens = repainted_screens colour old.screens }
    all_repainted = λ i. record { budget = done.budget i; screens = same_screens i }

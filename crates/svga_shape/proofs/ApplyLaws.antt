-- The shape of the state after a command.
use Rattle.std.proofs.Common.{◌≡◌, ℕ, ◌<◌, ◌≤◌, refl, sym, ap, subst, ◌∙◌, Option, Some, None, ◌⊎◌, inl, inr}
use Rattle.std.proofs.lemmas.Bool.{cases_lt}
use Rattle.std.specs.Cmp.{nat_cmp_total}
use Rattle.std.specs.FinMap as map
use Rattle.std.specs.FinMap.{FinMap, nat_cmp-IsAntisymmetric}
use Rattle.std.specs.Ordering.{nat_cmp}
use Rattle.std.specs.Prelude.{option_map}
use Rattle.svga_cmd.proofs.Maps.{by_key, get_kept, get_other, get_removed, get_same}
use Rattle.svga_cmd.specs.declared.gmrfb.Gmrfb.{Gmrfb}
use Rattle.svga_cmd.specs.declared.screen.ScreenDef.{ScreenDef}
use Rattle.svga_model.proofs.TabulatedLaws.{get-tabulated, get-tabulated_past}
use Rattle.svga_model.specs.BlitEffects.{repainted, repainted_screens}
use Rattle.svga_model.specs.Screens.{Screen, Screens, black_screen, definitions_of, with_screen, without_screen}
use Rattle.svga_cmd.specs.declared.blit.Blit.{Blit}
use Rattle.svga_model.specs.States.{Kept, State, shape_of}
use Rattle.svga_model.specs.Steps.{shown}
use Rattle.svga_screen.specs.Definitions.{AreScreenDefinitions}
use Rattle.svga_shape.specs.ShapeSet.{ShapeSet, shape_in}

-- the definitions with one more
pub definitions-insert : (screens : Screens) (definitions : FinMap nat_cmp ScreenDef) (d : ScreenDef) → definitions_of screens ≡ map.get definitions
    → definitions_of (with_screen screens d) ≡ map.get (map.insert definitions d.id d)
definitions-insert screens definitions d same = λ i id. at id i where
  at : (id : ℕ) → definitions_of (with_screen screens d) id ≡ map.get (map.insert definitions d.id d) id
  at id = by_key nat_cmp_total nat_cmp-IsAntisymmetric id d.id (definitions_of (with_screen screens d) id ≡ map.get (map.insert definitions d.id d) id)
      (λ is. subst (λ k. definitions_of (with_screen screens d) k ≡ map.get (map.insert definitions d.id d) k) (sym is)
      (ap (option_map (λ s. s.def)) (get_same nat_cmp_total nat_cmp-IsAntisymmetric screens d.id (black_screen d))
      ∙ sym (get_same nat_cmp_total nat_cmp-IsAntisymmetric definitions d.id d)))
      (λ ne. ap (option_map (λ s. s.def)) (get_other nat_cmp_total nat_cmp-IsAntisymmetric screens d.id id (black_screen d) ne)
      ∙ ap (λ f. f id) same ∙ sym (get_other nat_cmp_total nat_cmp-IsAntisymmetric definitions d.id id d ne))

-- the definitions without one
pub definitions-remove : (screens : Screens) (definitions : FinMap nat_cmp ScreenDef) (gone : ℕ) → definitions_of screens ≡ map.get definitions
    → definitions_of (without_screen screens gone) ≡ map.get (map.remove definitions gone)
definitions-remove screens definitions gone same = λ i id. at id i where
  at : (id : ℕ) → definitions_of (without_screen screens gone) id ≡ map.get (map.remove definitions gone) id
  at id = by_key nat_cmp_total nat_cmp-IsAntisymmetric id gone (definitions_of (without_screen screens gone) id ≡ map.get (map.remove definitions gone) id)
      (λ is. subst (λ k. definitions_of (without_screen screens gone) k ≡ map.get (map.remove definitions gone) k) (sym is)
      (ap (option_map (λ s. s.def)) (get_removed nat_cmp_total nat_cmp-IsAntisymmetric screens gone)
      ∙ sym (get_removed nat_cmp_total nat_cmp-IsAntisymmetric definitions gone)))
      (λ ne. ap (option_map (λ s. s.def)) (get_kept nat_cmp_total nat_cmp-IsAntisymmetric screens gone id ne)
      ∙ ap (λ f. f id) same ∙ sym (get_kept nat_cmp_total nat_cmp-IsAntisymmetric definitions gone id ne))

-- new colours leave a screen's definition
def_stays : (colour : ScreenDef → ℕ → ℕ → Option ℕ) (o : Option Screen) → option_map (λ s. s.def) (option_map (λ s. repainted (colour s.def) s) o) ≡ option_map (λ s. s.def) o
def_stays colour None = refl
def_stays colour (Some s) = refl

-- new colours leave the definitions of screens whose ids end at 15
pub definitions-repainted : (colour : ℕ → ScreenDef → ℕ → ℕ → Option ℕ) (screens : Screens) → ((id : ℕ) → 16 ≤ id → definitions_of screens id ≡ None)
    → definitions_of (repainted_screens colour screens) ≡ definitions_of screens
unfolding repainted_screens
definitions-repainted colour screens none = λ i id. at id (cases_lt id 16) i where
  f : ℕ → Option Screen
  f id = option_map (λ s. repainted (colour id s.def) s) (map.get screens id)

  at : (id : ℕ) → (id < 16) ⊎ (16 ≤ id) → definitions_of (repainted_screens colour screens) id ≡ definitions_of screens id
  at id (inl small) = ap (option_map (λ s. s.def)) (get-tabulated 16 f id small) ∙ def_stays (colour id) (map.get screens id)
  at id (inr large) = ap (option_map (λ s. s.def)) (get-tabulated_past 16 f id large) ∙ sym (none id large)

-- a shape with other definitions
pub with_definitions : (k : Kept) (screens : Screens) (set : ShapeSet) (definitions : FinMap nat_cmp ScreenDef) → shape_of k ≡ shape_in set → definitions_of screens ≡ map.get definitions
    → shape_of (record k { screens = screens }) ≡ shape_in (record set { screens = record set.screens { screens = definitions } })
with_definitions k screens set definitions same are = λ i. record {
  limits = ap (λ s. s.limits) same i;
  regions = ap (λ s. s.regions) same i;
  gmrfb = ap (λ s. s.gmrfb) same i;
  definitions = are i;
}

-- and one whose screens were repainted
pub with_repainted : (k : Kept) (colour : ℕ → ScreenDef → ℕ → ℕ → Option ℕ) (set : ShapeSet) → shape_of k ≡ shape_in set → AreScreenDefinitions set.screens
    → shape_of (record k { screens = repainted_screens colour k.screens }) ≡ shape_in set
with_repainted k colour set same valid = with_definitions k (repainted_screens colour k.screens) set set.screens.screens same
    (definitions-repainted colour k.screens (λ id large. ap (λ s. s.definitions id) same ∙ valid.ids id large) ∙ ap (λ s. s.definitions) same)

-- DEFINE_SCREEN
pub shape_defined : (k : Kept) (d : ScreenDef) (set : ShapeSet) → shape_of k ≡ shape_in set
    → shape_of (record k { screens = with_screen k.screens d }) ≡ shape_in (record set { screens = record set.screens { screens = map.insert set.screens.screens d.id d } })
shape_defined k d set same = with_definitions k (with_screen k.screens d) set (map.insert set.screens.screens d.id d) same (definitions-insert k.screens set.screens.screens d (ap (λ s. s.definitions) same))

-- DESTROY_SCREEN
pub shape_destroyed : (k : Kept) (id : ℕ) (set : ShapeSet) → shape_of k ≡ shape_in set
    → shape_of (record k { screens = without_screen k.screens id }) ≡ shape_in (record set { screens = record set.screens { screens = map.remove set.screens.screens id } })
shape_destroyed k id set same = with_definitions k (without_screen k.screens id) set (map.remove set.screens.screens id) same (definitions-remove k.screens set.screens.screens id (ap (λ s. s.definitions) same))

-- a blit to the screen
pub shape_shown : (s : State) (gmrfb : Option Gmrfb) (b : Blit) (set : ShapeSet) → shape_of s.kept ≡ shape_in set → AreScreenDefinitions set.screens → shape_of (shown s gmrfb b).kept ≡ shape_in set
shape_shown s None b set same valid = same
shape_shown s (Some g) b set same valid = with_repainted s.kept _ set same valid

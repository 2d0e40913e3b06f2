-- What a command's effect says of the screens after it.
use Rattle.std.proofs.Common.{◌≡◌, ℕ, refl, sym, ap, subst, ◌∙◌, List, [], ◌∷◌, Bool, true, false, ◌&&◌, Option, Some, None, IsSome, IfSome, nat_le, nat_lt, inl, inr, arith}
use Rattle.std.proofs.lemmas.Bool.{cases_lt}
use Rattle.std.proofs.lemmas.Bool.Decides.{nat_tests}
use Rattle.std.specs.Cmp.{nat_cmp_total as total}
use Rattle.std.specs.FinMap as map
use Rattle.std.specs.FinMap.{nat_cmp-IsAntisymmetric as exact}
use Rattle.std.specs.Prelude.{⊤, is_none, option_map}
use Rattle.svga_cmd.proofs.Maps.{same_gets}
use Rattle.svga_cmd.specs.Pages.{Memory}
use Rattle.svga_cmd.specs.declared.blit.Blit.{Blit}
use Rattle.svga_cmd.specs.declared.command.Command.{Command}
use Rattle.svga_cmd.specs.declared.command.Command.TheVariants.{Update, Fence, DefineScreen, DestroyScreen, DefineGmrfb, BlitToScreen, BlitToGmrfb, DefineGmr2, RemapGmr2}
use Rattle.svga_cmd.specs.declared.fault.Fault.TheVariants as fault
use Rattle.svga_cmd.specs.declared.gmrfb.Gmrfb.{Gmrfb}
use Rattle.svga_cmd.specs.declared.screen.ScreenDef.{ScreenDef}
use Rattle.svga_machine.specs.Effects.{IsEffect, Paints, blit_colours}
use Rattle.svga_machine.specs.declared.effect.Effect.{Effect}
use Rattle.svga_machine.specs.declared.effect.Effect.TheVariants as effect
use Rattle.svga_model.proofs.TabulatedLaws.{get-tabulated, get-tabulated_past}
use Rattle.svga_model.specs.Acts.{Do}
use Rattle.svga_model.specs.BlitEffects.{NewColours, repainted, repainted_screens}
use Rattle.svga_model.specs.Faults.{IsAdmissible, fault_of}
use Rattle.svga_model.specs.Screens.{AreScreens, IsScreen, Screen, Screens, definitions_of, destroy_screen_tests, with_screen, without_screen}
use Rattle.svga_model.specs.Standing.{least_standing}
use Rattle.svga_model.specs.States.{Kept, State}
use Rattle.svga_model.specs.Steps.{read_back, shown, shown_colours, step, updated_colours}
use Rattle.svga_screen.specs.declared.area.Area.{Area}
use Rattle.svga_transfer.proofs.PaintRows.{repainted_none}
use Rattle.svga_device.specs.Telling.{AreRepaintedIn, HasMade, IsQuiet}

abbrev after : State → Command → Screens
after s c = (step s (Do c)).kept.screens

-- no command that paints has a quiet effect
never_quiet : (s : State) (e : Effect) (colours : NewColours) → Paints s e colours → IsQuiet e → ⊥
never_quiet s effect.Nothing colours p q = p
never_quiet s (effect.Fence value) colours p q = p
never_quiet s (effect.Shown id) colours p q = p
never_quiet s (effect.Hidden id) colours p q = p
never_quiet s (effect.Painted areas) colours p q = q

read_back_keeps : (s : State) (o : Option Gmrfb) (b : Blit) → (read_back s o b).kept.screens ≡ s.kept.screens
read_back_keeps s None b = refl
read_back_keeps s (Some g) b = refl

quiet_keeps : (s : State) (c : Command) (e : Effect) → IsEffect s c e → IsQuiet e → after s c ≡ s.kept.screens
quiet_keeps s (Update x y width height) e is quiet =
    absurd (never_quiet s e (updated_colours s x y width height) is quiet)
quiet_keeps s (Fence value) e is quiet = refl
quiet_keeps s (DefineScreen d) e is quiet = absurd (subst IsQuiet is quiet)
quiet_keeps s (DestroyScreen id) e is quiet = absurd (subst IsQuiet is quiet)
quiet_keeps s (DefineGmrfb g) e is quiet = refl
quiet_keeps s (BlitToScreen b) e is quiet = absurd (never_quiet s e (blit_colours s s.kept.gmrfb b) is quiet)
quiet_keeps s (BlitToGmrfb b) e is quiet = read_back_keeps s s.kept.gmrfb b
quiet_keeps s (DefineGmr2 region pages) e is quiet = refl
quiet_keeps s (RemapGmr2 region offset pages entries) e is quiet = refl

-- the effect of a screen that is defined
defined_by : (s : State) (c : Command) (id : ℕ) → IsEffect s c (effect.Shown id)
    → (d : ScreenDef) × (d.id ≡ id) × (after s c ≡ with_screen s.kept.screens d)
defined_by s (Update x y width height) id is = absurd is
defined_by s (Fence value) id is = absurd (cc is)
defined_by s (DefineScreen d) id is = (d, cc is, refl)
defined_by s (DestroyScreen q) id is = absurd (cc is)
defined_by s (DefineGmrfb g) id is = absurd (cc is)
defined_by s (BlitToScreen b) id is = absurd is
defined_by s (BlitToGmrfb b) id is = absurd (cc is)
defined_by s (DefineGmr2 region pages) id is = absurd (cc is)
defined_by s (RemapGmr2 region offset pages entries) id is = absurd (cc is)

-- a screen that may be destroyed is there
destroyable : (definitions : ℕ → Option ScreenDef) (id : ℕ)
    → least_standing (destroy_screen_tests definitions id) ≡ None
    → IsSome (definitions id)
destroyable definitions id e =
    go (nat_le id 15) (nat_lt 15 id) (definitions id) (λ not_low. grind (arith, nat_tests)) e
  where
    go : (low high : Bool) (o : Option ScreenDef) → (low ≡ false → high ≡ true)
        → least_standing ((low && is_none o, fault.NoScreen) ∷ (high, fault.ScreenId) ∷ []) ≡ None → IsSome o
    go low high (Some d) h e = refl
    go true high None h e = absurd (cc e)
    go false true None h e = absurd (cc e)
    go false false None h e = absurd (cc (h refl))

-- and of one that is removed
destroyed_by : (s : State) (c : Command) (id : ℕ) → IsEffect s c (effect.Hidden id) → IsAdmissible s (Do c)
    → IsSome (definitions_of s.kept.screens id) × (after s c ≡ without_screen s.kept.screens id)
unfolding fault_of
destroyed_by s (Update x y width height) id is ok = absurd is
destroyed_by s (Fence value) id is ok = absurd (cc is)
destroyed_by s (DefineScreen d) id is ok = absurd (cc is)
destroyed_by s (DestroyScreen q) id is ok =
    let same : q ≡ id = cc is in (
      subst (λ n. IsSome (definitions_of s.kept.screens n)) same (destroyable (definitions_of s.kept.screens) q ok),
      ap (without_screen s.kept.screens) same,
    )
destroyed_by s (DefineGmrfb g) id is ok = absurd (cc is)
destroyed_by s (BlitToScreen b) id is ok = absurd is
destroyed_by s (BlitToGmrfb b) id is ok = absurd (cc is)
destroyed_by s (DefineGmr2 region pages) id is ok = absurd (cc is)
destroyed_by s (RemapGmr2 region offset pages entries) id is ok = absurd (cc is)

-- screens of which no pixel gets a colour stay
none_painted : (budget : ℕ) (screens : Screens) → AreScreens budget screens
    → screens ≡ repainted_screens (λ id d x y. None) screens
unfolding repainted_screens
none_painted budget screens valid = same_gets total exact screens (repainted_screens (λ id d x y. None) screens)
    (λ id. elim (cases_lt id 16) as (λ _. map.get screens id ≡ map.get (repainted_screens (λ id d x y. None) screens) id) [
      | inl low ↦ sym (get-tabulated 16 slot id low ∙ stays id (map.get screens id) (valid.each id))
      | inr past ↦ valid.ids id past ∙ sym (get-tabulated_past 16 slot id past)
    ])
  where
    slot : ℕ → Option Screen
    slot id = option_map (λ s. repainted (λ x y. None) s) (map.get screens id)

    stays : (id : ℕ) (o : Option Screen) → IfSome o (IsScreen id)
        → option_map (λ s. repainted (λ x y. None) s) o ≡ o
    stays id None is = refl
    stays id (Some s) is = ap Some (repainted_none s id is (λ x y. None) (λ x y wide high. refl))

-- what holds of the areas of an effect that has some
abbrev pub IfPainted : Effect → (List Area → Type 0) → Type 0
IfPainted effect.Nothing P = ⊤
IfPainted (effect.Fence value) P = ⊤
IfPainted (effect.Shown id) P = ⊤
IfPainted (effect.Hidden id) P = ⊤
IfPainted (effect.Painted areas) P = P areas.items

-- The effect of a command that paints names the areas in which the screens get new colours.
module _ (s : State) (valid : AreScreens s.kept.limits.budget s.kept.screens) where
  abbrev ArePaintedTo : Screens → List Area → Type 0
  ArePaintedTo new areas = AreRepaintedIn areas s.kept.screens new

  by_colours : (e : Effect) (colours : NewColours) (new : Screens) → Paints s e colours
      → new ≡ repainted_screens colours s.kept.screens → IfPainted e (ArePaintedTo new)
  by_colours effect.Nothing colours new p is = tt
  by_colours (effect.Fence value) colours new p is = tt
  by_colours (effect.Shown id) colours new p is = tt
  by_colours (effect.Hidden id) colours new p is = tt
  by_colours (effect.Painted areas) colours new p is =
      record { budget = s.kept.limits.budget; colours = colours; valid = valid; areas_are = p; after_is = is }

  by_blit : (o : Option Gmrfb) (b : Blit) (e : Effect) → Paints s e (blit_colours s o b)
      → IfPainted e (ArePaintedTo (shown s o b).kept.screens)
  by_blit None b e p =
      by_colours e (blit_colours s None b) s.kept.screens p
      (none_painted s.kept.limits.budget s.kept.screens valid)
  by_blit (Some g) b e p = by_colours e (shown_colours s g b) (shown s (Some g) b).kept.screens p refl

  unpainted : (e f : Effect) (P : List Area → Type 0) → e ≡ f → IfPainted f P → IfPainted e P
  unpainted e f P is p = subst (λ g. IfPainted g P) (sym is) p

  painted_by : (c : Command) (e : Effect) → IsEffect s c e → IfPainted e (ArePaintedTo (after s c))
  painted_by (Update x y width height) e is =
      by_colours e (updated_colours s x y width height) (after s (Update x y width height)) is refl
  painted_by (Fence value) e is = unpainted e (effect.Fence value) _ is tt
  painted_by (DefineScreen d) e is = unpainted e (effect.Shown d.id) _ is tt
  painted_by (DestroyScreen id) e is = unpainted e (effect.Hidden id) _ is tt
  painted_by (DefineGmrfb g) e is = unpainted e effect.Nothing _ is tt
  painted_by (BlitToScreen b) e is = by_blit s.kept.gmrfb b e is
  painted_by (BlitToGmrfb b) e is = unpainted e effect.Nothing _ is tt
  painted_by (DefineGmr2 region pages) e is = unpainted e effect.Nothing _ is tt
  painted_by (RemapGmr2 region offset pages entries) e is = unpainted e effect.Nothing _ is tt

-- The same of the screens that such a command has made.
module _ (before now : Screens) where
  pub made_quiet : (e : Effect) → HasMade e before now → IsQuiet e → now ≡ before
  made_quiet e h quiet = sym h.after_is ∙ quiet_keeps h.state h.command e h.effect_is quiet ∙ h.before_is

  pub made_shown : (id : ℕ) → HasMade (effect.Shown id) before now
      → (d : ScreenDef) × (d.id ≡ id) × (now ≡ with_screen before d)
  made_shown id h =
      let by = defined_by h.state h.command id h.effect_is in
      (by.0, by.1, sym h.after_is ∙ by.2 ∙ ap (λ m. with_screen m by.0) h.before_is)

  pub made_hidden : (id : ℕ) → HasMade (effect.Hidden id) before now
      → IsSome (definitions_of before id) × (now ≡ without_screen before id)
  made_hidden id h =
      let by = destroyed_by h.state h.command id h.effect_is h.admissible in (
        subst (λ m. IsSome (definitions_of m id)) h.before_is by.0,
        sym h.after_is ∙ by.1 ∙ ap (λ m. without_screen m id) h.before_is,
      )

  pub made_painted : (e : Effect) → HasMade e before now
      → IfPainted e (λ areas. AreRepaintedIn areas before now)
  made_painted e h =
      subst (λ m. IfPainted e (λ areas. AreRepaintedIn areas m now)) h.before_is
      (subst (λ m. IfPainted e (λ areas. AreRepaintedIn areas h.state.kept.screens m)) h.after_is
      (painted_by h.state h.valid h.command e h.effect_is))

-- a command that ran on some pages has made the screens that are kept then
pub has_made : (k left : Kept) (memory pages : Memory) (c : Command) (e : Effect) (screens : Screens)
    → AreScreens k.limits.budget k.screens → IsEffect (record { kept = k; memory = memory }) c e
    → IsAdmissible (record { kept = k; memory = memory }) (Do c)
    → ◌≡◌ {A = State} (record { kept = left; memory = pages })
    (step (record { kept = k; memory = memory }) (Do c))
    → screens ≡ left.screens → HasMade e k.screens screens
has_made k left memory pages c e screens valid is admissible stepped same = record {
  state = record { kept = k; memory = memory };
  command = c;
  effect_is = is;
  admissible = admissible;
  valid = valid;
  before_is = refl;
  after_is = sym (ap (λ (s : State). s.kept.screens) stepped) ∙ sym same;
}

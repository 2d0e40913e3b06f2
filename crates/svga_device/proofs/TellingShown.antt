-- Heads that are told what a command changed show the screens after it.
use Rattle.std.proofs.Common.{◌≡◌, Bool, ℕ, refl, sym, ap, subst, ◌∙◌, List, [], ◌∷◌, Option, Some, None, All, IsSome, IfSome, is_some, arith}
use Rattle.std.specs.Cmp.{nat_cmp_total as total}
use Rattle.std.specs.FinMap as map
use Rattle.std.specs.FinMap.{nat_cmp-IsAntisymmetric as exact}
use Rattle.std.specs.List.{AllZip}
use Rattle.std.specs.Ordering.{nat_cmp}
use Rattle.std.specs.Prelude.{option_map}
use Rattle.svga_cmd.proofs.Maps.{get_same, same_gets}
use Rattle.svga_cmd.specs.declared.screen.ScreenDef.{ScreenDef}
use Rattle.svga_head.proofs.PictureLaws.{defined_picture, pictures_of-empty, pictures_of-with_screen, pictures_of-without_screen}
use Rattle.svga_head.proofs.ShowingLaws.{all_may, begun, hide_alike, may_hide, show_alike, told_showing}
use Rattle.svga_head.specs.Changes.{with_picture, without_picture}
use Rattle.svga_head.specs.HeadStates.{HeadState}
use Rattle.svga_head.specs.Plugs.{IfPlugged, IsPlugTold, plug_states}
use Rattle.svga_head.specs.PlugStates.{PlugState, Plugged, DroppedFault, DroppedMemory, Empty}
use Rattle.svga_head.specs.Showing.{AllShow, IsPlugShowing, IsShowing, ShowsEach}
use Rattle.svga_head.specs.Telling.{MayHide}
use Rattle.svga_head.specs.declared.plug.PlugOf.{PlugOf}
use Rattle.svga_machine.specs.declared.effect.Effect.{Effect}
use Rattle.svga_machine.specs.declared.effect.Effect.TheVariants as effect
use Rattle.svga_link.specs.Holding.{with_config}
use Rattle.svga_link.specs.Told.{NextTold}
use Rattle.svga_model.specs.Pictures.{Pictures, pictures_of}
use Rattle.svga_model.specs.Screens.{Screens, black_screen, definitions_of, with_screen}
use Rattle.svga_model.specs.States.{Kept}
use Rattle.svga_ring.specs.Views.{DeviceView}
use Rattle.svga_device.proofs.TellingEffects.{made_hidden, made_quiet, made_shown}
use Rattle.svga_device.specs.Telling.{HasMade, IsQuiet, ShowNext, SomeShow}

just_defined : (before after : Screens) (d : ScreenDef) → after ≡ with_screen before d
    → definitions_of after d.id ≡ Some d
just_defined before after d is =
    ap (λ m. definitions_of m d.id) is ∙ ap (option_map (λ r. r.def)) (get_same total exact before d.id (black_screen d))

-- the screen that is shown anew is there
pub shown_there : (before after : Screens) (id : ℕ) → HasMade (effect.Shown id) before after
    → IsSome (definitions_of after id)
shown_there before after id h =
    let by = made_shown before after id h in
    subst (λ n. IsSome (definitions_of after n)) by.1 (subst IsSome (sym (just_defined before after by.0 by.2)) refl)

module _ {B : Type 0} (state : B → HeadState) (before after : Screens) (old new : List (PlugOf B)) where
  abbrev Next : Type 0
  Next = ShowNext (pictures_of before) (pictures_of after) (plug_states state old) (plug_states state new)

  pub quiet_next : (e : Effect) → HasMade e before after → IsQuiet e → new ≡ old → Next
  quiet_next e h quiet same = λ first shows.
      subst (λ m. AllShow (pictures_of m) first (plug_states state new)) (sym (made_quiet before after e h quiet))
      (subst (λ ps. AllShow (pictures_of before) first (plug_states state ps)) (sym same) shows)

  pub shown_next : (id : ℕ) → HasMade (effect.Shown id) before after
      → IfSome (definitions_of after id)
      (λ d. AllZip (IsPlugTold state (with_picture id d.width d.height)) old new)
      → Next
  shown_next id h told = λ first shows.
      subst (λ ps. AllShow ps first (plug_states state new)) (sym (ap pictures_of by.2 ∙ pictures_of-with_screen before by.0))
      (told_showing state (with_picture by.0.id by.0.width by.0.height) (pictures_of before)
      (show_alike by.0.id by.0.width by.0.height (pictures_of before)) first old new shows told_d)
    where
      by : (d : ScreenDef) × (d.id ≡ id) × (after ≡ with_screen before d)
      by = made_shown before after id h

      told_d : AllZip (IsPlugTold state (with_picture by.0.id by.0.width by.0.height)) old new
      told_d = subst (λ o. IfSome o (λ e. AllZip (IsPlugTold state (with_picture by.0.id e.width e.height)) old new))
          (just_defined before after by.0 by.2)
          (subst (λ n. IfSome (definitions_of after n)
          (λ e. AllZip (IsPlugTold state (with_picture n e.width e.height)) old new))
          (sym by.1) told)

  pub hidden_next : (id : ℕ) → HasMade (effect.Hidden id) before after
      → AllZip (IsPlugTold state (without_picture id)) old new → Next
  hidden_next id h told = λ first shows.
      subst (λ ps. AllShow ps first (plug_states state new))
      (sym (ap pictures_of (made_hidden before after id h).1 ∙ pictures_of-without_screen before id))
      (told_showing state (without_picture id) (pictures_of before) (hide_alike id (pictures_of before)) first old new
      shows told)

  pub may_hide_it : (id : ℕ) → HasMade (effect.Hidden id) before after → (first : List PlugState)
      → AllShow (pictures_of before) first (plug_states state old) → All (IfPlugged state (MayHide id)) old
  may_hide_it id h first shows =
      all_may state (pictures_of before) (λ own. IsSome (map.get own id))
      (may_hide (pictures_of before) id (defined_picture before id (made_hidden before after id h).0)) first old shows

-- before there is a screen, heads show the device's pictures as they were handed in
pub nothing_yet : (screens : Screens) (plugs : List PlugState) → screens ≡ map.empty
    → AllShow (pictures_of screens) plugs plugs
nothing_yet screens plugs none =
    subst (λ ps. AllShow ps plugs plugs) (sym (ap pictures_of none ∙ pictures_of-empty)) (begun plugs)

-- Heads that show the device's pictures would do so if they were handed in as they are.
none_else : (ps : Pictures) → ShowsEach ps map.empty → map.empty ≡ ps
none_else ps each = same_gets total exact none ps (λ id. go id (map.get ps id) refl (each id)) where
  none : Pictures
  none = map.empty

  go : (id : ℕ) (o : Option (List (List ℕ))) → map.get ps id ≡ o
      → (IsSome (map.get ps id) → map.get none id ≡ map.get ps id) → map.get none id ≡ map.get ps id
  go id None e each = map.get-empty nat_cmp id ∙ sym e
  go id (Some rows) e each = each (ap is_some e)

head_itself : (ps : Pictures) (a b : HeadState) → IsShowing ps a b → IsShowing ps b b
head_itself ps a b s = record {
  told = refl;
  each = s.each;
  alone = λ none. none ∙ ap Some (none_else ps (subst (λ o. IfSome o (ShowsEach ps)) none s.each));
  faults = omega arith;
  refusals = omega arith;
}

plug_itself : (ps : Pictures) (m p : PlugState) → IsPlugShowing ps m p → IsPlugShowing ps p p
plug_itself ps (Plugged a) (Plugged b) f = head_itself ps a b f
plug_itself ps (DroppedFault a) (Plugged b) f = absurd (cc f)
plug_itself ps (DroppedMemory a) (Plugged b) f = absurd (cc f)
plug_itself ps Empty (Plugged b) f = absurd (cc f)
plug_itself ps m (DroppedFault b) f = refl
plug_itself ps m (DroppedMemory b) f = refl
plug_itself ps m Empty f = refl

pub shows_itself : (ps : Pictures) (first now : List PlugState) → AllShow ps first now → AllShow ps now now
shows_itself ps [] [] f = tt
shows_itself ps [] (p ∷ now) f = absurd f
shows_itself ps (m ∷ first) [] f = tt
shows_itself ps (m ∷ first) (p ∷ now) f = (plug_itself ps m p f.0, shows_itself ps first now f.1)

-- The loads and the words of a step leave what is kept.
pub kept_read : (before configured loaded e : DeviceView) (runs : Bool) (found : ℕ) (read : List ℕ)
    → configured ≡ with_config before runs → NextTold configured loaded found
    → e ≡ record loaded { read = read }
    → e.kept ≡ before.kept
kept_read before configured loaded e runs found read config told is =
    ap (λ (v : DeviceView). v.kept) is ∙ ap (λ (v : DeviceView). v.kept) told.view
    ∙ ap (λ (v : DeviceView). v.kept) config

-- so heads show the device's pictures as before
module _ {B : Type 0} (state : B → HeadState) (heads : List (PlugOf B)) (k now : Kept)
    (same : now ≡ k) where
  pub still_shown : (first : List PlugState) → AllShow (pictures_of k.screens) first (plug_states state heads)
      → AllShow (pictures_of now.screens) first (plug_states state heads)
  still_shown first shows =
      subst (λ (n : Kept). AllShow (pictures_of n.screens) first (plug_states state heads)) (sym same) shows

  pub some_still : SomeShow (pictures_of k.screens) (plug_states state heads)
      → SomeShow (pictures_of now.screens) (plug_states state heads)
  some_still some = (some.0, still_shown some.0 some.1)

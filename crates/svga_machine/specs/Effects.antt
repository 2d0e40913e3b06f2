-- What a command shows to whoever looks at the machine.
use Rattle.std.specs.Prelude.{◌≡◌, Option, Some, None}
use Rattle.svga_cmd.specs.declared.blit.Blit.{Blit}
use Rattle.svga_cmd.specs.declared.command.Command.{Command}
use Rattle.svga_cmd.specs.declared.command.Command.TheVariants.{Update, Fence, DefineScreen, DestroyScreen, DefineGmrfb, BlitToScreen, BlitToGmrfb, DefineGmr2, RemapGmr2}
use Rattle.svga_cmd.specs.declared.gmrfb.Gmrfb.{Gmrfb}
use Rattle.svga_model.specs.BlitEffects.{NewColours}
use Rattle.svga_model.specs.Screens.{definitions_of}
use Rattle.svga_model.specs.States.{State}
use Rattle.svga_model.specs.Steps.{shown_colours, updated_colours}
use Rattle.svga_transfer.specs.Areas.{ArePainted}
use Rattle.svga_machine.specs.declared.effect.Effect.{Effect}
use Rattle.svga_machine.specs.declared.effect.Effect.TheVariants as effect

-- the colours that a blit of the GMRFB gives, none without a GMRFB
abbrev pub blit_colours : State → Option Gmrfb → Blit → NewColours
blit_colours s None b = λ id d x y. None
blit_colours s (Some g) b = shown_colours s g b

-- The effect names of each screen the area whose pixels get a colour.
abbrev pub Paints : State → Effect → NewColours → Type 0
Paints s effect.Nothing colours = ⊥
Paints s (effect.Fence value) colours = ⊥
Paints s (effect.Shown id) colours = ⊥
Paints s (effect.Hidden id) colours = ⊥
Paints s (effect.Painted areas) colours = ArePainted colours (definitions_of s.kept.screens) areas.items

-- the effect of a command on a state
abbrev pub IsEffect : State → Command → Effect → Type 0
IsEffect s (Update x y width height) e = Paints s e (updated_colours s x y width height)
IsEffect s (Fence value) e = e ≡ effect.Fence value
IsEffect s (DefineScreen d) e = e ≡ effect.Shown d.id
IsEffect s (DestroyScreen id) e = e ≡ effect.Hidden id
IsEffect s (DefineGmrfb g) e = e ≡ effect.Nothing
IsEffect s (BlitToScreen b) e = Paints s e (blit_colours s s.kept.gmrfb b)
IsEffect s (BlitToGmrfb b) e = e ≡ effect.Nothing
IsEffect s (DefineGmr2 region pages) e = e ≡ effect.Nothing
IsEffect s (RemapGmr2 region offset pages entries) e = e ≡ effect.Nothing

-- What blits leave where the GMRFB, its region's places and the screens' definitions are known.
use Rattle.std.proofs.Common.{◌≡◌, ℕ, ◌<◌, ◌≤◌, ◌∙◌, [], Option, Some, None, sym, ap, subst}
use Rattle.std.specs.Prelude.{unwrap_or}
use Rattle.std.specs.FinMap as map
use Rattle.svga_cmd.specs.declared.blit.Blit.{Blit}
use Rattle.svga_cmd.specs.declared.command.Command.TheVariants.{BlitToGmrfb, BlitToScreen}
use Rattle.svga_cmd.specs.declared.gmrfb.Gmrfb.{Gmrfb}
use Rattle.svga_cmd.specs.declared.screen.ScreenDef.{ScreenDef}
use Rattle.svga_model.proofs.WorkedScreens.{Colouring, definitions_after, new_row, pixel_after, row_after}
use Rattle.svga_model.specs.BlitEffects.{blit_colour, blit_writes, repainted_screens}
use Rattle.svga_model.specs.Memories.{region_byte, written}
use Rattle.svga_model.specs.Regions.{Places}
use Rattle.svga_model.specs.Screens.{Screens, row_of}
use Rattle.svga_model.specs.States.{State, with_screens}
use Rattle.svga_model.specs.Steps.{read_back, shown}
use Rattle.svga_model.specs.Worked.{IsSetUp, after, shown_at}

module _ (s : State) (g : Gmrfb) (places : Places) (definitions : ℕ → Option ScreenDef)
    (set_up : IsSetUp s g places definitions) (b : Blit) where
  -- the colours that the blit gives, and the screens with them
  abbrev pub given : ℕ → Colouring
  given = blit_colour (region_byte s.memory places) g b

  abbrev pub fresh : Screens
  fresh = repainted_screens given s.kept.screens

  -- a blit to the screen
  pub shown_by : after s (BlitToScreen b) ≡ with_screens s fresh
  shown_by = ap (λ o. shown s o b) set_up.gmrfb ∙ ap painted set_up.region where
    painted : Option Places → State
    painted o = with_screens s (repainted_screens (blit_colour (region_byte s.memory (unwrap_or o [])) g b) s.kept.screens)

  -- and one back
  pub read_by : after s (BlitToGmrfb b) ≡ record s { memory = written places s.memory (blit_writes s.kept.screens g b) }
  read_by = ap (λ o. read_back s o b) set_up.gmrfb
      ∙ ap (λ o. record s { memory = written (unwrap_or o []) s.memory (blit_writes s.kept.screens g b) }) set_up.region

  -- a row and a pixel of a screen after a blit to the screen
  module _ (id : ℕ) (d : ScreenDef) (low : id < 16) (is : definitions id ≡ Some d) where
    pub shown_row : (y : ℕ) → y < d.height
        → row_of (after s (BlitToScreen b)).kept.screens id y
        ≡ Some (new_row (given id d) (map.get s.kept.screens id) d.width y)
    shown_row y high = ap (λ t. row_of t.kept.screens id y) shown_by
        ∙ row_after given s.kept.screens id d low (ap (λ f. f id) set_up.screens ∙ is) y high

    pub shown_pixel : (x y : ℕ) → x < d.width → y < d.height
        → shown_at (after s (BlitToScreen b)) id x y ≡ unwrap_or (given id d x y) (shown_at s id x y)
    shown_pixel x y wide high = ap (λ t. shown_at t id x y) shown_by
        ∙ pixel_after given s.kept.screens id d low (ap (λ f. f id) set_up.screens ∙ is) x y wide high

  -- the next blit begins with the same
  pub set_up_after : ((id : ℕ) → 16 ≤ id → definitions id ≡ None) → IsSetUp (after s (BlitToScreen b)) g places definitions
  set_up_after none = subst (λ t. IsSetUp t g places definitions) (sym shown_by) (record {
    gmrfb = set_up.gmrfb;
    region = set_up.region;
    screens = definitions_after given s.kept.screens (λ id past. ap (λ f. f id) set_up.screens ∙ none id past)
        ∙ set_up.screens;
  })

  pub memory_after : (after s (BlitToScreen b)).memory ≡ s.memory
  memory_after = ap (λ t. t.memory) shown_by

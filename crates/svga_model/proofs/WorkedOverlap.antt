-- The worked blits to two screens that share a place, and back.
use Rattle.std.proofs.Common.{◌≡◌, ℕ, ◌≤◌, ◌∙◌, false, List, [], ◌∷◌, Option, Some, None, pos, slice_index, arith, refl, ap}
use Rattle.std.specs.Prelude.{unsigned_abs, unwrap_or}
use Rattle.std.specs.List.{flat_map}
use Rattle.std.proofs.lemmas.Bool.Decides.{nat_tests}
use Rattle.svga_cmd.specs.Pages.{Memory}
use Rattle.svga_cmd.specs.declared.command.Command.TheVariants.{BlitToGmrfb, BlitToScreen}
use Rattle.svga_cmd.specs.declared.format.Format.TheVariants.{Bgrx32}
use Rattle.svga_cmd.specs.declared.page.PageKey.{PageKey}
use Rattle.svga_cmd.specs.declared.screen.ScreenDef.{ScreenDef}
use Rattle.svga_model.proofs.WorkedBlits.{memory_after, read_by, set_up_after, shown_row}
use Rattle.svga_model.proofs.WorkedRules.{MayBlit, done_more, is_far, near_blit}
use Rattle.svga_model.proofs.WorkedScreens.{pixel_of}
use Rattle.svga_model.specs.Acts.{Act, Do}
use Rattle.svga_model.specs.BlitEffects.{blit_colour, blit_writes, first_colour}
use Rattle.svga_model.specs.BlitExamples.{gmrfb, screen_def, two_screens, virtual_blit}
use Rattle.svga_model.specs.BlitFaults.{some_byte}
use Rattle.svga_model.specs.BlitPixels.{BlitPixel, blit_pixels, covers}
use Rattle.svga_model.specs.Colours.{bytes_of, row_bytes}
use Rattle.svga_model.specs.Memories.{ByteWrite, region_byte, writes_from, written}
use Rattle.svga_model.specs.Regions.{Places}
use Rattle.svga_model.specs.Runs.{done}
use Rattle.svga_model.specs.Screens.{Screens, row_of}
use Rattle.svga_model.specs.States.{State}
use Rattle.svga_model.specs.Worked.{AreOverlapping, AreShown, IsSetUp, after_back, after_both, after_inner}
use Rattle.svga_model.specs.Worked.{inner_blit, lower_blit, shown_at}

-- the two screens
abbrev pub left_screen : ScreenDef
left_screen = screen_def 0 2 1 (pos 0) (pos 0)

abbrev pub right_screen : ScreenDef
right_screen = screen_def 1 2 1 (pos 1) (pos 0)

no_more : (id : ℕ) → 16 ≤ id → two_screens id ≡ None
no_more id past = grind (arith, nat_tests)

-- a pixel of row 0, where the row is known
known : (s : State) (id x : ℕ) (row : List ℕ) → row_of s.kept.screens id 0 ≡ Some row
    → shown_at s id x 0 ≡ slice_index row x
known s id x row e = pixel_of s.kept.screens id x 0 row e

-- what a blit back writes where these screens are defined
abbrev pub writes_by : Screens → (ℕ → Option ScreenDef) → List ByteWrite
writes_by screens definitions = flat_map (λ p. writes_from (unsigned_abs p.offset) (bytes_of Bgrx32 (colour p)))
    (blit_pixels definitions gmrfb lower_blit)
  where
    colour : BlitPixel → ℕ
    colour p = first_colour screens (covers definitions lower_blit.screen p.x p.y)

module _ (s : State) (places : Places) where
  -- the set-up of the second and the third blit
  set_up_both : IsSetUp s gmrfb places two_screens → IsSetUp (after_both s) gmrfb places two_screens
  set_up_both set_up = set_up_after s gmrfb places two_screens set_up virtual_blit no_more

  set_up_inner : IsSetUp s gmrfb places two_screens → IsSetUp (after_inner s) gmrfb places two_screens
  set_up_inner set_up = set_up_after (after_both s) gmrfb places two_screens (set_up_both set_up) inner_blit no_more

  module _ (a b c d : ℕ) (o : AreOverlapping s places a b c d) where
    pub shown_on_both : AreShown (after_both s) (a ∷ b ∷ []) (b ∷ c ∷ [])
    shown_on_both = record {
      screen_0 = shown_row s gmrfb places two_screens o.set_up virtual_blit 0 left_screen (omega arith) refl 0 (omega arith)
          ∙ (λ i. Some (o.first i ∷ o.second i ∷ []));
      screen_1 = shown_row s gmrfb places two_screens o.set_up virtual_blit 1 right_screen (omega arith) refl 0 (omega arith)
          ∙ (λ i. Some (o.second i ∷ o.third i ∷ []));
    }

    same_memory : (after_both s).memory ≡ s.memory
    same_memory = memory_after s gmrfb places two_screens o.set_up virtual_blit

    pub shown_on_inner : AreShown (after_inner s) (a ∷ b ∷ []) (d ∷ c ∷ [])
    shown_on_inner = record {
      screen_0 = shown_row t gmrfb places two_screens set_up inner_blit 0 left_screen (omega arith) refl 0 (omega arith)
          ∙ (λ i. Some (left 0 i ∷ left 1 i ∷ []));
      screen_1 = shown_row t gmrfb places two_screens set_up inner_blit 1 right_screen (omega arith) refl 0 (omega arith)
          ∙ ap (λ m. Some (painted m ∷ shown_at t 1 1 0 ∷ [])) same_memory
          ∙ (λ i. Some (o.fourth i ∷ known t 1 1 (b ∷ c ∷ []) shown_on_both.screen_1 i ∷ []));
    } where
      t : State
      t = after_both s

      set_up : IsSetUp t gmrfb places two_screens
      set_up = set_up_both o.set_up

      left : (x : ℕ) → shown_at t 0 x 0 ≡ slice_index (a ∷ b ∷ []) x
      left x = known t 0 x (a ∷ b ∷ []) shown_on_both.screen_0

      painted : Memory → ℕ
      painted m = unwrap_or (blit_colour (region_byte m places) gmrfb inner_blit 1 right_screen 0 0) 0

    -- what is written back
    abbrev pub three : List ByteWrite
    three = writes_from 100 (row_bytes Bgrx32 (a ∷ b ∷ c ∷ []))

    pub written_back : blit_writes (after_inner s).kept.screens gmrfb lower_blit ≡ three
    unfolding blit_writes
    written_back = ap (writes_by (after_inner s).kept.screens) (set_up_inner o.set_up).screens
        ∙ (λ i. writes_from 100 (row_bytes Bgrx32 (left 0 i ∷ left 1 i ∷ right i ∷ [])))
      where
        right : shown_at (after_inner s) 1 1 0 ≡ c
        right = known (after_inner s) 1 1 (d ∷ c ∷ []) shown_on_inner.screen_1

        left : (x : ℕ) → shown_at (after_inner s) 0 x 0 ≡ slice_index (a ∷ b ∷ []) x
        left x = known (after_inner s) 0 x (a ∷ b ∷ []) shown_on_inner.screen_0

    pub memory_written : (after_back s).memory ≡ written places s.memory three
    memory_written =
        ap (λ t. t.memory) (read_by (after_inner s) gmrfb places two_screens (set_up_inner o.set_up) lower_blit)
        ∙ ap (written places (after_inner s).memory) written_back
        ∙ ap (λ m. written places m three)
        (memory_after (after_both s) gmrfb places two_screens (set_up_both o.set_up) inner_blit ∙ same_memory)

    pub kept_back : (after_back s).kept ≡ (after_inner s).kept
    kept_back = ap (λ t. t.kept) (read_by (after_inner s) gmrfb places two_screens (set_up_inner o.set_up) lower_blit)

-- the bytes of all three blits lie on the first place
near_virtual : some_byte two_screens gmrfb virtual_blit is_far ≡ false
unfolding some_byte
near_virtual = refl

near_inner : some_byte two_screens gmrfb inner_blit is_far ≡ false
unfolding some_byte
near_inner = refl

near_lower : some_byte two_screens gmrfb lower_blit is_far ≡ false
unfolding some_byte
near_lower = refl

-- the acts, from the last to all
abbrev pub last_act : List Act
last_act = Do (BlitToGmrfb lower_blit) ∷ []

abbrev pub last_acts : List Act
last_acts = Do (BlitToScreen inner_blit) ∷ last_act

pub all_done : (s : State) (key : PageKey) (places : Places) (a b c d : ℕ) → AreOverlapping s (Some key ∷ places) a b c d
    → done s (Do (BlitToScreen virtual_blit) ∷ last_acts) ≡ 3
all_done s key places a b c d o = done_more s (Do (BlitToScreen virtual_blit)) last_acts 2 first.to_screen
    (done_more (after_both s) (Do (BlitToScreen inner_blit)) last_act 1 second.to_screen
    (done_more (after_inner s) (Do (BlitToGmrfb lower_blit)) [] 0 third.to_gmrfb refl))
  where
    first : MayBlit s virtual_blit
    first = near_blit two_screens gmrfb virtual_blit near_virtual refl refl refl s key places o.set_up

    second : MayBlit (after_both s) inner_blit
    second = near_blit two_screens gmrfb inner_blit near_inner refl refl refl (after_both s) key places
        (set_up_both s (Some key ∷ places) o.set_up)

    third : MayBlit (after_inner s) lower_blit
    third = near_blit two_screens gmrfb lower_blit near_lower refl refl refl (after_inner s) key places
        (set_up_inner s (Some key ∷ places) o.set_up)

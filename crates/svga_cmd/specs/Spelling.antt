-- Commands as words: the id, and then the fields in order.
use Rattle.std.specs.Prelude.{◌≡◌, ℕ, List, [], ◌∷◌}
use Rattle.svga_cmd.specs.declared.command.Command.{Command}
use Rattle.svga_cmd.specs.declared.command.Command.TheVariants.{Update, Fence, DefineScreen, DestroyScreen, DefineGmrfb, BlitToScreen, BlitToGmrfb, DefineGmr2, RemapGmr2}
use Rattle.svga_cmd.specs.WellFormed.{IsWellFormed}
use Rattle.svga_cmd.specs.Words.{word_of, format_word, struct_size, backing_words, blit_words, flags_of, entry_words}
use Rattle.svga_cmd.specs.declared.constants.TheConstants.{SVGA_CMD_BLIT_GMRFB_TO_SCREEN, SVGA_CMD_BLIT_SCREEN_TO_GMRFB, SVGA_CMD_DEFINE_GMR2, SVGA_CMD_DEFINE_GMRFB, SVGA_CMD_DEFINE_SCREEN, SVGA_CMD_DESTROY_SCREEN, SVGA_CMD_FENCE, SVGA_CMD_REMAP_GMR2, SVGA_CMD_UPDATE}

-- the words of a command
abbrev pub spelling : Command → List ℕ
spelling (Update x y width height) = SVGA_CMD_UPDATE ∷ x ∷ y ∷ width ∷ height ∷ []
spelling (Fence value) = SVGA_CMD_FENCE ∷ value ∷ []
spelling (DefineScreen d) =
    SVGA_CMD_DEFINE_SCREEN ∷ struct_size d.backing ∷ d.id ∷ d.flags ∷ d.width ∷ d.height ∷ word_of d.x
    ∷ word_of d.y ∷ backing_words d.backing
spelling (DestroyScreen id) = SVGA_CMD_DESTROY_SCREEN ∷ id ∷ []
spelling (DefineGmrfb g) = SVGA_CMD_DEFINE_GMRFB ∷ g.region ∷ g.offset ∷ g.pitch ∷ format_word g.format ∷ []
spelling (BlitToScreen b) = SVGA_CMD_BLIT_GMRFB_TO_SCREEN ∷ blit_words b
spelling (BlitToGmrfb b) = SVGA_CMD_BLIT_SCREEN_TO_GMRFB ∷ blit_words b
spelling (DefineGmr2 region pages) = SVGA_CMD_DEFINE_GMR2 ∷ region ∷ pages ∷ []
spelling (RemapGmr2 region offset pages entries) =
    SVGA_CMD_REMAP_GMR2 ∷ region ∷ flags_of entries ∷ offset ∷ pages ∷ entry_words entries

-- the command is well formed, and these are its words
pub record Spells (c : Command) (ws : List ℕ) : Type 0 where
  pub well_formed : IsWellFormed c
  pub words : ws ≡ spelling c

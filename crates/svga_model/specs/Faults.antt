-- The rules by which an act is refused, and the fault that it has.
use Rattle.std.specs.Prelude.{◌≡◌, ℕ, List, [], ◌∷◌, ◌++◌, Bool, nat_lt, ◌==◌, ◌&&◌, not, is_none, Option, Some, None, IsSome}
use Rattle.svga_cmd.specs.Limits.{frame_page_count}
use Rattle.svga_cmd.specs.declared.command.Command.{Command}
use Rattle.svga_cmd.specs.declared.command.Command.TheVariants.{Update, Fence, DefineScreen, DestroyScreen, DefineGmrfb, BlitToScreen, BlitToGmrfb, DefineGmr2, RemapGmr2}
use Rattle.svga_cmd.specs.declared.constants.TheConstants.{MAX_REGION_ID, SVGA_GMR_FRAMEBUFFER, SVGA_GMR_NULL}
use Rattle.svga_cmd.specs.declared.fault.Fault.{Fault}
use Rattle.svga_cmd.specs.declared.fault.Fault.TheVariants as fault
use Rattle.svga_cmd.specs.declared.remap.RemapData.{RemapData}
use Rattle.svga_model.specs.Acts.{Act, Do, Put, Chain}
use Rattle.svga_model.specs.BlitFaults.{blit_tests}
use Rattle.svga_model.specs.PointedNumbers.{Pointed, numbers_judged, pointed, pointer_tests}
use Rattle.svga_model.specs.Regions.{Regions, define_tests, named_pages, remap_tests}
use Rattle.svga_model.specs.Screens.{define_screen_tests, destroy_screen_tests}
use Rattle.svga_model.specs.Standing.{Stands, least_standing}
use Rattle.svga_model.specs.States.{Shape, State, shape_of}
use Rattle.svga_model.specs.Walks.{chain_tests, tables_of}

-- when DEFINE_GMRFB is refused; a region that isn't defined may be named
abbrev pub gmrfb_tests : ℕ → List (Bool × Fault)
gmrfb_tests region = (
  nat_lt MAX_REGION_ID region && not (region == SVGA_GMR_FRAMEBUFFER) && not (region == SVGA_GMR_NULL),
  fault.RegionId,
) ∷ []

-- when the numbers of a remap can't be read, where they are read from a region
abbrev pub pointed_tests : ℕ → Regions → Option Pointed → ℕ → List (Bool × Fault)
pointed_tests frame regions None pages = []
pointed_tests frame regions (Some at) pages = pointer_tests frame regions at pages

-- the rules on a command, where a remap is judged by these page numbers
abbrev pub tests_by : Shape → List ℕ → Command → List (Bool × Fault)
tests_by s numbers (Update x y width height) = []
tests_by s numbers (Fence value) = []
tests_by s numbers (DefineScreen d) = define_screen_tests s.limits.budget s.definitions d
tests_by s numbers (DestroyScreen id) = destroy_screen_tests s.definitions id
tests_by s numbers (DefineGmrfb g) = gmrfb_tests g.region
tests_by s numbers (BlitToScreen b) = blit_tests s b
tests_by s numbers (BlitToGmrfb b) = blit_tests s b
tests_by s numbers (DefineGmr2 region pages) = define_tests s.regions region pages
tests_by s numbers (RemapGmr2 region offset pages entries) =
    remap_tests s.limits.pages s.regions region offset pages numbers
    ++ pointed_tests (frame_page_count s.limits) s.regions (pointed entries) pages

-- the page numbers that a command names itself
abbrev pub numbers_named : Command → List ℕ
numbers_named (RemapGmr2 region offset pages entries) = named_pages entries pages
numbers_named c = []

-- the command is a remap by VIA_GMR
abbrev pub ReadsNumbers : Command → Type 0
ReadsNumbers (RemapGmr2 region offset pages entries) = IsSome (pointed entries)
ReadsNumbers c = ⊥

-- The rules that are judged without bytes: all but BadPage of a remap by VIA_GMR.
abbrev pub shape_tests : Shape → Command → List (Bool × Fault)
shape_tests s c = tests_by s (numbers_named c) c

-- the page numbers by which a remap is judged: named, or read where all of them can be
abbrev pub remap_judged : State → RemapData → Option Pointed → ℕ → List ℕ
remap_judged s entries None pages = named_pages entries pages
remap_judged s entries (Some at) pages =
    numbers_judged (frame_page_count s.kept.limits) s.kept.regions s.memory at pages

abbrev pub judged_by : State → Command → List ℕ
judged_by s (RemapGmr2 region offset pages entries) = remap_judged s entries (pointed entries) pages
judged_by s c = []

-- the rules on an act: a Put is never refused
abbrev pub act_tests : State → Act → List (Bool × Fault)
act_tests s (Do c) = tests_by (shape_of s.kept) (judged_by s c) c
act_tests s (Put key bytes) = []
act_tests s (Chain id first) = chain_tests s.kept.limits.pages s.kept.regions (tables_of s.memory) id first

-- the fault stands: a rule of it is broken
abbrev pub HasFault : State → Act → Fault → Type 0
HasFault s act f = Stands (act_tests s act) f

-- the fault that an act is refused with: the one with the least number
unfoldable pub fault_of : State → Act → Option Fault
fault_of s act = least_standing (act_tests s act)

-- no rule refuses it
abbrev pub is_admissible : State → Act → Bool
is_admissible s act = is_none (fault_of s act)

abbrev pub IsAdmissible : State → Act → Type 0
IsAdmissible s act = fault_of s act ≡ None

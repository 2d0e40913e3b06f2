-- What contracts see of a machine.
use Rattle.std.specs.Prelude.{◌≡◌, ℕ, Option, refl}
use Rattle.std.specs.Coded.{Coded, code_by, coded×, coded_ℕ, coded_option}
use Rattle.svga_cmd.specs.Limits.{AreLimits, frame_page_count}
use Rattle.svga_cmd.specs.Pages.{Memory}
use Rattle.svga_cmd.specs.contracts.gmrfb.Gmrfb as gmrfb_row
use Rattle.svga_cmd.specs.contracts.limits.Limits as limits_row
use Rattle.svga_cmd.specs.declared.gmrfb.Gmrfb.{Gmrfb}
use Rattle.svga_cmd.specs.declared.limits.Limits.{Limits}
use Rattle.svga_model.specs.Codes.{coded_regions}
use Rattle.svga_model.specs.Regions.{Regions}
use Rattle.svga_model.specs.Screens.{Screens, coded_screens}
use Rattle.svga_model.specs.States.{Kept, State, opening_kept, shape_of}
use Rattle.svga_region.specs.RegionSet.{Chain, RegionSet, coded_chain}
use Rattle.svga_screen.specs.ScreenSet.{ScreenSet}
use Rattle.svga_shape.specs.ShapeSet.{AreOfLimits, ShapeSet, shape_in}

-- all of a device's state but its pages, and the chain that is begun, if one is
pub record MachineSet : Type 0 where
  pub kept : Kept
  pub chain : Option Chain

-- the state that it is with these pages
abbrev pub state_with : MachineSet → Memory → State
state_with m memory = record { kept = m.kept; memory = memory }

-- a machine at its opening with these regions, a chain that is begun, and this fence: no GMRFB and no screen
abbrev pub opened_machine : Limits → RegionSet → ℕ → MachineSet
opened_machine l regions fence = record {
  kept = record (opening_kept l 1) { regions = regions.regions; fence = fence };
  chain = regions.chain;
}

-- what a machine with these parts keeps
abbrev pub kept_of : ShapeSet → ScreenSet → ℕ → Kept
kept_of shape screens fence = record {
  limits = shape.limits;
  regions = shape.regions.regions;
  gmrfb = shape.gmrfb;
  screens = screens.screens;
  fence = fence;
}

-- the regions that it has, with the chain that is begun
abbrev pub regions_in : MachineSet → RegionSet
regions_in m = record {
  guest = m.kept.limits.pages;
  frame = frame_page_count m.kept.limits;
  regions = m.kept.regions;
  chain = m.chain;
}

-- the same machine but for its regions, which are those of another
abbrev pub with_regions_of : MachineSet → MachineSet → MachineSet
with_regions_of m other = record {
  kept = record m.kept { regions = other.kept.regions };
  chain = other.chain;
}

-- its parts fit together: the shape is that of what is kept
pub record AreParts (k : Kept) (set : ShapeSet) (screens : ScreenSet) : Type 0 where
  pub limits : AreLimits k.limits
  pub valid : AreOfLimits set
  pub shape : shape_in set ≡ shape_of k
  pub budget : screens.budget ≡ k.limits.budget

abbrev pub coded_kept : Coded Kept
coded_kept = code_by (Limits × (Regions × (Option Gmrfb × (Screens × ℕ))))
    (coded× limits_row.the_row.coded (coded× coded_regions
    (coded× (coded_option gmrfb_row.the_row.coded) (coded× coded_screens coded_ℕ))))
    (λ k. (k.limits, (k.regions, (k.gmrfb, (k.screens, k.fence)))))
    (λ p. record { limits = p.0; regions = p.1.0; gmrfb = p.1.1.0; screens = p.1.1.1.0; fence = p.1.1.1.1 })
    (λ _. refl)

abbrev pub coded_machine_set : Coded MachineSet
coded_machine_set = code_by (Kept × Option Chain) (coded× coded_kept (coded_option coded_chain))
    (λ m. (m.kept, m.chain)) (λ p. record { kept = p.0; chain = p.1 }) (λ _. refl)

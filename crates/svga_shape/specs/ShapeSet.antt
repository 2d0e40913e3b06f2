-- What contracts see of a shape.
use Rattle.std.specs.Prelude.{◌≡◌, Option, None, refl}
use Rattle.std.specs.Coded.{Coded, code_by, coded×, coded_option}
use Rattle.std.specs.FinMap as map
use Rattle.svga_cmd.specs.Limits.{frame_page_count}
use Rattle.svga_cmd.specs.contracts.gmrfb.Gmrfb as gmrfb_row
use Rattle.svga_cmd.specs.contracts.limits.Limits as limits_row
use Rattle.svga_cmd.specs.declared.gmrfb.Gmrfb.{Gmrfb}
use Rattle.svga_cmd.specs.declared.limits.Limits.{Limits}
use Rattle.svga_model.specs.States.{Shape}
use Rattle.svga_region.specs.RegionSet.{RegionSet, coded_set}
use Rattle.svga_screen.specs.Definitions.{DefinitionSet, coded_definition_set}

-- the limits, the regions with the chain that is begun, the GMRFB, and the screens' definitions
pub record ShapeSet : Type 0 where
  pub limits : Limits
  pub regions : RegionSet
  pub gmrfb : Option Gmrfb
  pub screens : DefinitionSet

-- the shape that this is
abbrev pub shape_in : ShapeSet → Shape
shape_in s = record {
  limits = s.limits;
  regions = s.regions.regions;
  gmrfb = s.gmrfb;
  definitions = map.get
      s.screens.screens;
}

-- the parts have the limits of the whole
pub record AreOfLimits (s : ShapeSet) : Type 0 where
  pub guest : s.regions.guest ≡ s.limits.pages
  pub frame : s.regions.frame ≡ frame_page_count s.limits
  pub budget : s.screens.budget ≡ s.limits.budget

-- the shape of a device at its opening
abbrev pub opening_shape : Limits → ShapeSet
opening_shape l = record {
  limits = l;
  regions = record { guest = l.pages; frame = frame_page_count l; regions = map.empty; chain = None };
  gmrfb = None;
  screens = record { budget = l.budget; screens = map.empty };
}

abbrev pub coded_shape_set : Coded ShapeSet
coded_shape_set = code_by (Limits × (RegionSet × (Option Gmrfb × DefinitionSet)))
    (coded× limits_row.the_row.coded (coded× coded_set
    (coded× (coded_option gmrfb_row.the_row.coded) coded_definition_set)))
    (λ s. (s.limits, (s.regions, (s.gmrfb, s.screens))))
    (λ p. record { limits = p.0; regions = p.1.0; gmrfb = p.1.1.0; screens = p.1.1.1 }) (λ _. refl)

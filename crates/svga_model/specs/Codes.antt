-- The codes of maps and records, by which a type that is seen as one tells its values apart.
use Rattle.std.specs.Coded.{Coded, coded_ℕ, coded_list, coded_option}
use Rattle.std.specs.FinMap as map
use Rattle.svga_cmd.specs.contracts.page.PageKey as key
use Rattle.svga_model.specs.Regions.{Regions}

-- regions
abbrev pub coded_regions : Coded Regions
coded_regions = map.code coded_ℕ (coded_list (coded_option key.the_row.coded))

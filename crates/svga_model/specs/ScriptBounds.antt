-- How large a script's acts can be.
use Rattle.std.specs.Prelude.{◌≡◌, ℕ, ◌≤◌, List, length, sum_by, Bool, true, nat_le, ◌&&◌}
use Rattle.std.specs.List.{list_all}
use Rattle.svga_cmd.specs.declared.constants.TheConstants.{MAX_MAP_PAGES, MAX_REMAP_PAGES, MAX_SCRIPT_LINES, PAGE_SIZE}
use Rattle.svga_cmd.specs.Pages.{number_in_kind}
use Rattle.svga_model.specs.ClientActs.{ClientAct, Lend, Map, PageRun, Same, Take, Write}
use Rattle.svga_model.specs.Meanings.{LineAct}
use Rattle.svga_model.specs.ScriptLines.{ends_within}

-- the last page of a run has a number of 32 bits
abbrev pub run_ends : PageRun → Bool
run_ends r = ends_within r.first r.count

abbrev pub pages_in : List PageRun → ℕ
pages_in runs = sum_by (λ (r : PageRun). r.count) runs

-- at most so many pages or bytes, and no run or list of keys that goes past 4,294,967,295
abbrev pub is_bounded : ClientAct → Bool
is_bounded (Map id offset runs) = list_all run_ends runs && nat_le (pages_in runs) MAX_MAP_PAGES
is_bounded (Same id offset count page) = nat_le count MAX_REMAP_PAGES
is_bounded (Write key offset bytes) = nat_le (length bytes) PAGE_SIZE
is_bounded (Lend first count) = ends_within (number_in_kind first) count
is_bounded (Take first count) = ends_within (number_in_kind first) count
is_bounded act = true

pub record AreBounded (acts : List LineAct) : Type 0 where
  pub few : length acts ≤ MAX_SCRIPT_LINES
  pub each : list_all (λ (a : LineAct). is_bounded a.act) acts ≡ true

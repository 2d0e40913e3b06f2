-- The pages of the places so far are held.
use Rattle.std.proofs.Common.{◌≡◌, ◌<◌, ◌≤◌, ℕ, None, [], IfSome, length, slice_index_or, unwrap_or}
use Rattle.svga_cmd.specs.Pages.{HasPage}
use Rattle.svga_model.specs.Regions.{places_of}
use Rattle.svga_device.specs.Serving.{AreListed, IsHolding}
use Rattle.svga_device.proofs.holding.hold_places.Given as goal

abbrev pub invariant-loop-k : goal.invariant-loop-k
invariant-loop-k l = record {
  table : l.end.table ≡ l.initial.end.table;
  holding : IsHolding l.initial.end.view l.end.view l.end.pages;
  listed : AreListed l.initial.end.view.terms.limits l.end.pages l.held;
  most : length l.held ≤ l.k;
  so_far : (j : ℕ) → j < l.k → IfSome (slice_index_or (unwrap_or (places_of l.regions.frame l.regions.regions l.id) []) j None) (HasPage l.end.pages);
}

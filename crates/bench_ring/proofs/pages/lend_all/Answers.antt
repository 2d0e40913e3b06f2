use Rattle.std.proofs.Common.{ap, ◌∙◌}
use Rattle.std.specs.FinMap as map
use Rattle.svga_cmd.specs.Pages.{key_cmp}
use Rattle.svga_ring.proofs.Pages.Noted.{held_unnoted}
use Rattle.svga_ring.specs.Noting.{holds}
use Rattle.bench_ring.proofs.pages.lend_all.Goals as goal

-- the device opens with nothing read, and no page
pub spawn-requires-after_bounds : goal.spawn-requires-after_bounds
spawn-requires-after_bounds g c κs within = record {
  none_read = ap (λ e. e.read) c.in_ok-driver.ensures.device;
  none_held = λ key. ap (λ e. holds e.noted key) c.in_ok-driver.ensures.device
      ∙ held_unnoted map.empty key (map.get-empty key_cmp key);
}

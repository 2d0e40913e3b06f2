-- How large a device may be.
use Rattle.std.specs.Prelude.{ℕ, ◌+◌, ◌-◌, ◌*◌, ◌/◌, ◌≤◌}
use Rattle.svga_cmd.specs.declared.constants.TheConstants.{MAX_FRAME_HEIGHT, MAX_FRAME_WIDTH, MAX_GUEST_PAGES, MAX_PIXEL_BUDGET, PAGE_SIZE}
use Rattle.svga_cmd.specs.declared.limits.Limits.{Limits}

-- lowest and highest, both allowed
pub record IsBetween (low high n : ℕ) : Type 0 where
  pub least : low ≤ n
  pub most : n ≤ high

pub record AreLimits (l : Limits) : Type 0 where
  pub pages : IsBetween 1 MAX_GUEST_PAGES l.pages
  pub gfb_width : IsBetween 1 MAX_FRAME_WIDTH l.gfb_width
  pub gfb_height : IsBetween 1 MAX_FRAME_HEIGHT l.gfb_height
  pub budget : IsBetween 1 MAX_PIXEL_BUDGET l.budget

-- the guest framebuffer's bytes in pages, rounded up
abbrev pub frame_page_count : Limits → ℕ
frame_page_count l = (4 * l.gfb_width * l.gfb_height + (PAGE_SIZE - 1)) / PAGE_SIZE

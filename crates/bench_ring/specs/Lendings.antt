-- What a driver keeps that lends pages and sends no command but fences.
use Rattle.std.specs.Prelude.{◌≡◌, ℕ, ◌*◌, length, All, nat_le, nat_lt, ◌&&◌}
use Rattle.std.specs.FinSet as set
use Rattle.std.specs.FinSet.{FinSet}
use Rattle.svga_cmd.specs.Pages.{key_cmp}
use Rattle.svga_cmd.specs.declared.command.Command.{Command}
use Rattle.svga_cmd.specs.declared.command.Command.TheVariants.{Fence}
use Rattle.svga_cmd.specs.declared.page.PageKey.TheVariants.{Guest}
use Rattle.svga_link.specs.Ends.{DriverSeen}
use Rattle.svga_ring.specs.Committed.{commands}
use Rattle.svga_ring.specs.Views.{DriverView}
use Rattle.bench_ring.specs.Passing.{IsReady, fence_count}

abbrev pub IsFence : Command → Type 0
IsFence c = (value : ℕ) × (c ≡ Fence value)

-- a driver of 4,096 pages that sent fences alone, from number 1 on
pub record SendsFences (d : DriverSeen) : Type 0 where
  pub ready : IsReady d
  pub pages : d.view.terms.limits.pages ≡ 4096
  pub first : d.view.terms.first ≡ 1
  pub fences : All IsFence (commands d.view.acts)
  pub sent : length d.view.sent ≡ 2 * fence_count d.view

-- of the guest's pages those are lent from one number to before another
abbrev pub AreLent : FinSet key_cmp → ℕ → ℕ → Type 0
AreLent pages from past = (n : ℕ) → set.contains pages (Guest n) ≡ (nat_le from n && nat_lt n past)

-- each fence was seen
abbrev pub HasSeenAll : DriverView → Type 0
HasSeenAll d = d.seen ≡ fence_count d

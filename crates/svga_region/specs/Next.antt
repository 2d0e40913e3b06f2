-- What a chain asks for.
use Rattle.std.specs.Prelude.{ℕ, Option, Some, None}
use Rattle.svga_region.specs.declared.chain.ChainNext.{ChainNext}
use Rattle.svga_region.specs.declared.chain.ChainNext.TheVariants.{Page, Whole}

-- the table page that is wanted, or nothing more
abbrev pub next_by : Option ℕ → ChainNext
next_by (Some page) = Page page
next_by None = Whole

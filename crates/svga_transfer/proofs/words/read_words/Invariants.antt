use Rattle.std.proofs.Common.{◌≡◌, ℕ, ◌+◌, ◌*◌, ◌<◌, slice_index}
use Rattle.svga_model.specs.Memories.{region_byte}
use Rattle.svga_model.specs.Walks.{word_at}
use Rattle.svga_model.specs.Regions.{region_places}
use Rattle.svga_transfer.proofs.words.read_words.Given as goal

abbrev pub invariant-loop-k : goal.invariant-loop-k
invariant-loop-k g l = (k : ℕ) → k < l.k
    → slice_index l.words k
    ≡ word_at (region_byte (g.P.PageStore.pages l.store) (region_places l.regions.frame l.regions.regions l.region))
    (l.from + 4 * k)

use Rattle.std.proofs.Common.{◌+◌, ◌*◌, arith, length}
use Rattle.std.proofs.lemmas.List.FromFn.{fill_by_all}
use Rattle.svga_model.specs.Memories.{region_byte}
use Rattle.svga_model.specs.Walks.{word_at}
use Rattle.svga_model.specs.Regions.{region_places}
use Rattle.svga_transfer.proofs.words.read_words.Goals as goal

pub returns : goal.returns
returns g c =
    let places = region_places c.args.regions.now.frame c.args.regions.now.regions c.args.region in
    fill_by_all (λ k. word_at (region_byte (g.P.PageStore.pages c.args.store.now) places) (c.args.from + 4 * k))
    c.loop-k.words (length c.args.words.now) 0 c.loop-k.auto.words (λ k l. c.loop-k.invariant k (omega arith))

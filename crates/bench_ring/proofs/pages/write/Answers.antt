use Rattle.std.proofs.Common.{IsSome, Some, sym, subst, rules, slice_set}
use Rattle.svga_cmd.proofs.KeyLaws.{keys_exact, keys_total}
use Rattle.svga_cmd.proofs.Maps.{get_same}
use Rattle.svga_cmd.specs.declared.page.PageKey.TheVariants.{Guest}
use Rattle.bench_ring.proofs.pages.write.Goals as goal

pub returns-clause-mine : goal.returns-clause-mine
returns-clause-mine c =
    let bytes = slice_set c.bytes_mut.result.now c.args.page c.byte_of.result in
    let some : IsSome (Some bytes) = search rules in
    subst IsSome (sym (get_same keys_total keys_exact c.args.driver.now.pages (Guest c.args.page) bytes)) some

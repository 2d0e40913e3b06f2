use Rattle.std.proofs.Common.{[], ◌∷◌, ◌++◌, ◌<◌, arith, length}
use Rattle.std.proofs.lemmas.List.Elements.{all_zip_more}
use Rattle.svga_head.proofs.Loops.{read_there, told_count, whole_more}
use Rattle.svga_head.proofs.telling.tell_all.Goals as goal

pub loop-k-preserved : goal.loop-k-preserved
loop-k-preserved g c =
    let xs = c.args.plugs.now.items in
    let done = c.loop-k.invariant.done in
    let k = c.loop-k.k in
    let within : k < length xs = omega (arith, c.len-k-end.ensures, c.loop-k-test.true) in
    let count = told_count _ xs done k c.loop-k.invariant.told within in
    record {
      done = done ++ c.tell_plug.new.plug ∷ [];
      told = all_zip_more _ xs done k c.index_mut.result.now c.tell_plug.new.plug within (read_there xs done c.loop-k.plugs.items k c.loop-k.invariant.whole count within _ c.index_mut.ensures.value) c.loop-k.invariant.told c.tell_plug.ensures;
      whole = whole_more xs done c.loop-k.plugs.items k c.loop-k.invariant.whole count within c.tell_plug.new.plug;
      within = omega (arith, within);
    }

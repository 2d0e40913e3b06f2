use Rattle.std.proofs.Common.{[], unwrap_or, refl, sym, ap, subst, ◌∙◌, arith, length}
use Rattle.svga_cmd.specs.Lent.{command_of}
use Rattle.svga_model.specs.Regions.{places_of}
use Rattle.svga_model.specs.Touches.{touched_places}
use Rattle.svga_device.specs.Serving.{AreListed}
use Rattle.svga_device.proofs.HeldLaws.{listed_none}
use Rattle.svga_device.proofs.NotedLaws.{holding_none}
use Rattle.svga_device.proofs.ServingLaws.{mapped_touched, so_far_more}
use Rattle.svga_device.proofs.holding.hold_places.Goals as goal

pub loop-k-init : goal.loop-k-init
loop-k-init c = record {
  table = refl;
  holding = holding_none c.args.end.now.view c.args.end.now.pages c.requires.noted c.requires.pages;
  listed = listed_none c.args.end.now.view.terms.limits c.args.end.now.pages c.args.held.now c.requires.pages c.requires.empty;
  most = let none = ap length c.requires.empty in omega (arith, none);
  so_far = λ j low. absurd (omega (arith, low));
}

pub hold_place-requires-clause-touched : goal.hold_place-requires-clause-touched
hold_place-requires-clause-touched c =
    let r = c.args.regions.now in
    let command = command_of c.args.command.now in
    mapped_touched (unwrap_or (places_of r.frame r.regions c.args.id) []) (touched_places c.loop-k.end.view.kept command) c.loop-k.k c.place.result c.place.ensures
    (ap (λ e. touched_places e.kept command) c.loop-k.invariant.holding.view ∙ c.requires.touched)

pub hold_place-requires-clause-room : goal.hold_place-requires-clause-room
hold_place-requires-clause-room c = omega (arith, c.loop-k.invariant.most, c.loop-k-test.true, c.requires.few)

pub loop-k-preserved : goal.loop-k-preserved
loop-k-preserved c =
    let r = c.args.regions.now in
    let limits = ap (λ e. e.terms.limits) c.loop-k.invariant.holding.view in record {
      table = c.hold_place.ensures.table ∙ c.loop-k.invariant.table;
      holding = c.hold_place.ensures.holding c.args.end.now.view c.loop-k.invariant.holding;
      listed = subst (λ l. AreListed l c.hold_place.new.end.pages c.hold_place.new.held) limits
          (c.hold_place.ensures.listed (subst (λ l. AreListed l c.loop-k.end.pages c.loop-k.held) (sym limits) c.loop-k.invariant.listed));
      most = omega (arith, c.hold_place.ensures.most, c.loop-k.invariant.most);
      so_far = so_far_more (unwrap_or (places_of r.frame r.regions c.args.id) []) c.loop-k.end.pages c.hold_place.new.end.pages c.loop-k.k c.place.result c.place.ensures
          c.hold_place.ensures.there c.hold_place.ensures.more c.loop-k.invariant.so_far;
    }

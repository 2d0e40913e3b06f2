use Rattle.std.proofs.Common.{[], Some, unwrap_or, sym, ap, subst, ◌∙◌}
use Rattle.svga_cmd.specs.Lent.{command_of}
use Rattle.svga_cmd.specs.Limits.{frame_page_count}
use Rattle.svga_model.specs.Regions.{places_of}
use Rattle.svga_model.specs.States.{shape_of}
use Rattle.svga_model.specs.Touches.{touched_places, touched_region}
use Rattle.svga_model.specs.ValidStates.{ArePlaces, AreRegions}
use Rattle.svga_shape.specs.Admission.{region_of}
use Rattle.svga_device.proofs.HeldLaws.{few_places, listed_none}
use Rattle.svga_device.proofs.NotedLaws.{holding_none}
use Rattle.svga_device.proofs.ServingLaws.{touched_good, touched_is}
use Rattle.svga_device.proofs.holding.hold_touched.Goals as goal

pub hold_places-requires-clause-keys : goal.hold_places-requires-clause-keys
hold_places-requires-clause-keys c =
    let k = c.args.end.now.view.kept in
    let command = command_of c.args.command.now in
    let s = c.shape-in-Ok-Region.result.now in
    let r = c.regions-regions.result.now in
    let region = ap region_of (sym c.in-Ok-Region.field-0-is) ∙ c.in-Ok-Region.ensures.touch ∙ ap (λ x. touched_region x.gmrfb command) (c.shape.ensures.shape ∙ ap shape_of (sym c.requires.kept)) in
    let all = touched_is k s command (Some c.in-Ok-Region.id) (c.shape-in-Ok-Region.ensures.shape ∙ ap shape_of (sym c.requires.kept)) c.shape-in-Ok-Region.ensures.valid region
    ∙ ap (λ r. unwrap_or (places_of r.frame r.regions c.in-Ok-Region.id) []) (sym c.regions-regions.ensures.regions) in
    subst (ArePlaces c.args.end.now.view.terms.limits) all (subst (λ l. ArePlaces l (touched_places k command)) (sym c.requires.limits) (touched_good k command c.requires.valid))

pub hold_places-requires-clause-few : goal.hold_places-requires-clause-few
hold_places-requires-clause-few c =
    let k = c.args.end.now.view.kept in
    let set = c.shape-in-Ok-Region.result.now in
    let r = c.regions-regions.result.now in
    let shape = c.shape-in-Ok-Region.ensures.shape ∙ ap shape_of (sym c.requires.kept) in
    let same = c.regions-regions.ensures.regions in
    let frame = ap (λ x. x.frame) same ∙ c.shape-in-Ok-Region.ensures.valid.frame ∙ ap (λ x. frame_page_count x.limits) shape in
    let regions = ap (λ x. x.regions) same ∙ ap (λ x. x.regions) shape in
    few_places k.limits r.frame r.regions c.in-Ok-Region.id c.in-Some.count c.requires.valid.limits frame
    (subst (AreRegions k.limits) (sym regions) c.requires.valid.regions) (sym c.in-Some.is ∙ c.length.ensures)

pub returns-clause-listed : goal.returns-clause-listed
returns-clause-listed c = listed_none c.args.end.now.view.terms.limits c.args.end.now.pages c.args.held.now c.requires.pages c.requires.empty

pub returns-2-clause-listed : goal.returns-2-clause-listed
returns-2-clause-listed c = listed_none c.args.end.now.view.terms.limits c.args.end.now.pages c.args.held.now c.requires.pages c.requires.empty

pub returns-clause-holding : goal.returns-clause-holding
returns-clause-holding c = holding_none c.args.end.now.view c.args.end.now.pages c.requires.noted c.requires.pages

pub returns-2-clause-holding : goal.returns-2-clause-holding
returns-2-clause-holding c = holding_none c.args.end.now.view c.args.end.now.pages c.requires.noted c.requires.pages

use Rattle.std.proofs.Common.{sym, ap, subst, ◌∙◌}
use Rattle.std.proofs.lemmas.Option.{none-some}
use Rattle.svga_cmd.specs.Lent.{command_of}
use Rattle.svga_cmd.specs.Pages.{HasPage}
use Rattle.svga_cmd.specs.Spelling.{Spells}
use Rattle.svga_head.specs.Plugs.{plug_states}
use Rattle.svga_head.specs.Showing.{AllShow}
use Rattle.svga_link.specs.Ends.{DeviceRest, DeviceSeen}
use Rattle.svga_link.specs.Told.{served}
use Rattle.svga_model.proofs.ValidStateLaws.{step_keys}
use Rattle.svga_model.specs.Acts.{Do}
use Rattle.svga_model.specs.Pictures.{pictures_of}
use Rattle.svga_model.specs.States.{State}
use Rattle.svga_model.specs.ValidStates.{IsKept}
use Rattle.svga_ring.specs.Conditions.{IsServed}
use Rattle.svga_ring.specs.Views.{DeviceView}
use Rattle.svga_device.proofs.KeptGood.{kept_good}
use Rattle.svga_device.proofs.HeldLaws.{listed_same}
use Rattle.svga_device.proofs.TellingEffects.{has_made}
use Rattle.svga_device.specs.Serving.{AreListed, IsHolding}
use Rattle.svga_screen.specs.ScreenSet.{ScreenSet}
use Rattle.svga_device.proofs.ServingLaws.{is_served, never_refused, no_pages, taken_is, view_after}
use Rattle.svga_device.proofs.serving.serve.Goals as goal

pub hold_touched-requires-clause-valid : goal.hold_touched-requires-clause-valid
hold_touched-requires-clause-valid g c = let p = c.facts.ensures.possible in subst (λ (e : DeviceView). IsKept e.kept) p.view_is (kept_good p.key p.core p.sound)

pub give_all-requires-clause-listed : goal.give_all-requires-clause-listed
give_all-requires-clause-listed g c =
    let first : DeviceView = c.args.end.now.view in
    let held = c.hold_touched.new.end.pages in
    let before : State = record { kept = c.args.machine.now.kept; memory = held } in
    let limits = ap (λ (r : DeviceRest). r.view.terms.limits) c.in-Ok.ensures.rest ∙ ap (λ (e : DeviceView). e.terms.limits) c.hold_touched.ensures.holding.view in
    subst (λ l. AreListed l c.run.new.store.pages c.hold_touched.new.held) (sym limits)
    (listed_same first.terms.limits held c.run.new.store.pages c.hold_touched.new.held
    (λ key has. (step_keys before (Do (command_of c.args.command.now)) key).1 (subst (λ (s : State). HasPage s.memory key) c.in-Ok.ensures.ok has))
    c.hold_touched.ensures.listed)

pub tell-requires : goal.tell-requires
tell-requires g c =
    let before = c.args.machine.now.kept.screens in
    let p = c.facts.ensures.possible in
    let valid = subst IsKept c.requires.kept (subst (λ (e : DeviceView). IsKept e.kept) p.view_is (kept_good p.key p.core p.sound)) in (
      before,
      has_made c.args.machine.now.kept c.run.new.self.kept c.hold_touched.new.end.pages c.run.new.store.pages (command_of c.args.command.now) c.in-Ok.effect c.screens.result.now.screens
          valid.screens c.in-Ok.ensures.effect (sym c.in-Ok.ensures.fault) c.in-Ok.ensures.ok (ap (λ (set : ScreenSet). set.screens) c.screens.ensures),
      c.requires.showing,
    )

pub store_fence-requires : goal.store_fence-requires
store_fence-requires g c =
    let first = c.args.end.now.view in
    let e1 = c.run.new.store.view in
    let e2 = c.give_all.new.end.view in
    let held = c.hold_touched.new.end.pages in
    let ran = c.run.new.store.pages in
    let left = c.give_all.new.end.pages in
    let command = command_of c.args.command.now in
    let stays = ap (λ (r : DeviceRest). r.view) c.in-Ok.ensures.rest in
    let h = subst (λ v. IsHolding first v held) (sym stays) c.hold_touched.ensures.holding in
    let none = sym c.in-Ok.ensures.fault in
    let view = view_after first e1 e2 held ran left c.args.machine.now.kept c.run.new.self.kept command h c.requires.kept c.hold_touched.ensures.there none c.in-Ok.ensures.ok c.give_all.ensures.giving c.give_all.ensures.none_there in
    subst (λ (e : DeviceView). Spells command e.read) (sym view) c.requires.read

pub store_stop-requires : goal.store_stop-requires
store_stop-requires g c =
    let first = c.args.end.now.view in
    let e1 = c.run.new.store.view in
    let e2 = c.give_all.new.end.view in
    let held = c.hold_touched.new.end.pages in
    let ran = c.run.new.store.pages in
    let left = c.give_all.new.end.pages in
    let command = command_of c.args.command.now in
    let stays = ap (λ (r : DeviceRest). r.view) c.in-Ok.ensures.rest in
    let h = subst (λ v. IsHolding first v held) (sym stays) c.hold_touched.ensures.holding in
    let none = sym c.in-Ok.ensures.fault in
    let stored = c.store_fence.new.end.view.stored in
    let is = is_served first e1 e2 held ran left c.args.machine.now.kept c.run.new.self.kept command h c.requires.kept c.hold_touched.ensures.there none c.in-Ok.ensures.ok c.give_all.ensures.giving c.give_all.ensures.none_there stored c.requires.read c.give_all.ensures.none_held c.store_fence.ensures.stored in
    (command, subst (λ e. IsServed e command) (sym (ap (λ (d : DeviceSeen). d.view) c.store_fence.ensures.left)) is)

pub returns-clause-ran : goal.returns-clause-ran
returns-clause-ran g c = record {
  pages = c.hold_touched.new.end.pages;
  pages_left = c.run.new.store.pages;
  stepped = c.in-Ok.ensures.ok;
  effect_is = c.in-Ok.ensures.effect;
}

pub returns-clause-taken : goal.returns-clause-taken
returns-clause-taken g c =
    let first = c.args.end.now.view in
    let e1 = c.run.new.store.view in
    let e2 = c.give_all.new.end.view in
    let held = c.hold_touched.new.end.pages in
    let ran = c.run.new.store.pages in
    let left = c.give_all.new.end.pages in
    let command = command_of c.args.command.now in
    let stays = ap (λ (r : DeviceRest). r.view) c.in-Ok.ensures.rest in
    let h = subst (λ v. IsHolding first v held) (sym stays) c.hold_touched.ensures.holding in
    let none = sym c.in-Ok.ensures.fault in
    let stored = c.store_fence.new.end.view.stored in
    let fenced = c.store_fence.ensures.left in
    let view = view_after first e1 e2 held ran left c.args.machine.now.kept c.run.new.self.kept command h c.requires.kept c.hold_touched.ensures.there none c.in-Ok.ensures.ok c.give_all.ensures.giving c.give_all.ensures.none_there in
    let read = subst (λ (e : DeviceView). Spells command e.read) (sym (ap (λ (d : DeviceSeen). d.view) fenced ∙ ap (λ (e : DeviceView). record e { stored = stored }) view)) c.requires.read in
    let stopped = c.store_stop.ensures command read in
    let table = c.give_all.ensures.table ∙ ap (λ (r : DeviceRest). r.table) c.in-Ok.ensures.rest ∙ c.hold_touched.ensures.table in
    let pages = no_pages left c.give_all.ensures.none_there ∙ sym c.requires.pages in
    let taken = taken_is first e1 e2 held ran left c.args.machine.now.kept c.run.new.self.kept command h c.requires.kept c.hold_touched.ensures.there none c.in-Ok.ensures.ok c.give_all.ensures.giving c.give_all.ensures.none_there stored in
    stopped ∙ ap (λ (d : DeviceSeen). record d { view = served d.view command }) fenced
    ∙ (λ i. record { table = table i; view = taken i; pages = pages i })

pub unreachable-requires : goal.unreachable-requires
unreachable-requires g c =
    let p = c.facts-2.ensures.possible in
    let h = c.hold_touched.ensures.holding in
    let command = command_of c.args.command.now in
    let kept = ap (λ (e : DeviceView). e.kept) h.view ∙ c.requires.kept in
    let spells = subst (λ (e : DeviceView). Spells command e.read) (sym h.view) c.requires.read in
    let none = never_refused c.hold_touched.new.end.view p.key p.core p.sound p.view_is command spells c.hold_touched.new.end.pages c.args.machine.now.kept
    h.noted_is kept c.hold_touched.ensures.there in
    none-some _ (sym (c.in-Err.ensures.fault ∙ none))

pub returns-clause-shows : goal.returns-clause-shows
returns-clause-shows g c = λ first shows.
    let before = c.args.machine.now.kept.screens in
    let p = c.facts.ensures.possible in
    let valid = subst IsKept c.requires.kept (subst (λ (e : DeviceView). IsKept e.kept) p.view_is (kept_good p.key p.core p.sound)) in
    let same = ap (λ (set : ScreenSet). set.screens) c.screens.ensures in
    let made = has_made c.args.machine.now.kept c.run.new.self.kept c.hold_touched.new.end.pages c.run.new.store.pages (command_of c.args.command.now) c.in-Ok.effect
    c.screens.result.now.screens valid.screens c.in-Ok.ensures.effect (sym c.in-Ok.ensures.fault) c.in-Ok.ensures.ok same in
    subst (λ m. AllShow (pictures_of m) first (plug_states g.B.Head.state c.tell.new.heads)) same (c.tell.ensures.shows before made first shows)

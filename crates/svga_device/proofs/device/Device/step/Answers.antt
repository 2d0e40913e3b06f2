use Rattle.std.proofs.Common.{List, None, ◌≡◌, sym, ap, refl, subst, ◌∙◌, arith, length, rules}
use Rattle.svga_decode.specs.DecoderStates.{IsLive, begun_after}
use Rattle.svga_device.proofs.ChainOut.{answered_read, answered_screens, reading_same, told_read, told_screens}
use Rattle.svga_device.proofs.ReadingLaws.{nothing_begun}
use Rattle.svga_device.proofs.TellingShown.{kept_read, shows_itself, some_still, still_shown}
use Rattle.svga_device.proofs.device.Device.step.Goals as goal
use Rattle.svga_device.specs.Chains.{HasAnswered}
use Rattle.svga_device.specs.Devices.{DeviceHas, IsServedBy, Shows}
use Rattle.svga_head.specs.Plugs.{plug_states}
use Rattle.svga_head.specs.PlugStates.{PlugState}
use Rattle.svga_head.specs.Showing.{AllShow}
use Rattle.svga_link.specs.Ends.{DeviceSeen}
use Rattle.svga_link.specs.Holding.{RequestTold, with_config}
use Rattle.svga_link.specs.Told.{NextTold}
use Rattle.svga_model.specs.Pictures.{pictures_of}
use Rattle.svga_model.specs.Screens.{Screens}
use Rattle.svga_model.specs.Sentences.{IsCommandBegun}
use Rattle.svga_ring.specs.Core.{read_count}
use Rattle.svga_ring.specs.Layouts.{word_address}
use Rattle.svga_ring.specs.Views.{DeviceView}

pub serve_whole-requires-clause-showing : goal.serve_whole-requires-clause-showing
serve_whole-requires-clause-showing g c =
    let runs = c.read_config-runs.result in
    let config = ap (λ (d : DeviceSeen). d.view) c.read_config-runs.ensures in
    let read = ap (λ (d : DeviceSeen). d.view) c.read_command.ensures.left in
    let kept = kept_read c.self.inside.end.view c.read_config-runs.new.self.view c.read_next-next.new.self.view c.read_command.new.end.view
    runs c.read_next-next.result c.read_command.new.end.view.read config c.read_next-next.ensures.told read in
    some_still g.B.Head.state c.self.inside.heads c.self.inside.end.view.kept c.read_command.new.end.view.kept kept c.self.invariant.3

pub invariant_of-self : goal.invariant_of-self
invariant_of-self g c =
    let runs = c.read_config-runs.result in
    let config = ap (λ (d : DeviceSeen). d.view) c.read_config-runs.ensures in
    let read = ap (λ (d : DeviceSeen). d.view) c.read_command.ensures.left in
    let kept = kept_read c.self.inside.end.view c.read_config-runs.new.self.view c.read_next-next.new.self.view c.read_command.new.end.view
    runs c.read_next-next.result c.read_command.new.end.view.read config c.read_next-next.ensures.told read in
    let some = some_still g.B.Head.state c.self.inside.heads c.self.inside.end.view.kept c.read_command.new.end.view.kept kept c.self.invariant.3 in
    let whole = c.read_command.ensures.whole c.if-read_command.true in
    let words = c.read_command.new.decoder.words in
    let taken = c.serve_whole.ensures.served.1.taken in
    let none = ap (λ (e : DeviceView). e.read) taken in (
      c.serve_whole.ensures.resting,
      record {
        live = subst IsLive (sym whole.last) tt;
        words = ap (λ l. begun_after l words) whole.last ∙ sym none;
        begun = subst IsCommandBegun (sym none) nothing_begun;
      },
      c.serve_whole.ensures.empty,
      (some.0, c.serve_whole.ensures.shows some.0 some.1),
    )

pub returns-then-read_command-clause-told : goal.returns-then-read_command-clause-told
returns-then-read_command-clause-told g c =
    let runs = c.read_config-runs.result in
    let config = ap (λ (d : DeviceSeen). d.view) c.read_config-runs.ensures ∙ ap (λ (s : DeviceHas). with_config s.view runs) c.self.view_is in
    let read = ap (λ (d : DeviceSeen). d.view) c.read_command.ensures.left in
    let served = c.serve_whole.ensures.served in
    record {
      runs = runs;
      found = c.read_next-next.result;
      loaded = c.read_next-next.new.self.view;
      next = subst (λ e. NextTold e c.read_next-next.new.self.view c.read_next-next.result) config c.read_next-next.ensures.told;
      read = c.read_command.new.end.view.read;
      answers = (
        served.0,
        subst (λ e. IsServedBy e c.serve_whole.new.end.view served.0) read served.1,
        λ quiet. ap (plug_states g.B.Head.state) (served.2 quiet) ∙ ap (λ (d : DeviceHas). d.heads) c.self.view_is,
      );
    }

pub returns-then-read_command-clause-shows : goal.returns-then-read_command-clause-shows
returns-then-read_command-clause-shows g c = λ first shows.
    let runs = c.read_config-runs.result in
    let config = ap (λ (d : DeviceSeen). d.view) c.read_config-runs.ensures in
    let read = ap (λ (d : DeviceSeen). d.view) c.read_command.ensures.left in
    let kept = kept_read c.self.inside.end.view c.read_config-runs.new.self.view c.read_next-next.new.self.view c.read_command.new.end.view
    runs c.read_next-next.result c.read_command.new.end.view.read config c.read_next-next.ensures.told read in
    c.serve_whole.ensures.shows first
    (still_shown g.B.Head.state c.self.inside.heads c.self.inside.end.view.kept c.read_command.new.end.view.kept kept first (subst (Shows first) (sym c.self.view_is) shows))

pub returns-then-read_command-clause-dropped : goal.returns-then-read_command-clause-dropped
returns-then-read_command-clause-dropped g c =
    let runs = c.read_config-runs.result in
    let config = ap (λ (d : DeviceSeen). d.view) c.read_config-runs.ensures in
    let read = ap (λ (d : DeviceSeen). d.view) c.read_command.ensures.left in
    let kept = kept_read c.self.inside.end.view c.read_config-runs.new.self.view c.read_next-next.new.self.view c.read_command.new.end.view
    runs c.read_next-next.result c.read_command.new.end.view.read config c.read_next-next.ensures.told read in
    let some = c.self.invariant.3 in
    let plugs = plug_states g.B.Head.state c.self.inside.heads in
    let own = shows_itself (pictures_of c.self.inside.end.view.kept.screens) some.0 plugs some.1 in
    subst (λ (first : List PlugState). AllShow (pictures_of c.serve_whole.new.end.view.kept.screens) first (plug_states g.B.Head.state c.serve_whole.new.heads))
    (ap (λ (d : DeviceHas). d.heads) c.self.view_is)
    (c.serve_whole.ensures.shows plugs
    (still_shown g.B.Head.state c.self.inside.heads c.self.inside.end.view.kept c.read_command.new.end.view.kept kept plugs own))

pub invariant_of-self-2 : goal.invariant_of-self-2
invariant_of-self-2 g c =
    let runs = c.read_config-runs.result in
    let config = ap (λ (d : DeviceSeen). d.view) c.read_config-runs.ensures in
    let read = ap (λ (d : DeviceSeen). d.view) c.read_command.ensures.left in
    let kept = kept_read c.self.inside.end.view c.read_config-runs.new.self.view c.read_next-next.new.self.view c.read_command.new.end.view
    runs c.read_next-next.result c.read_command.new.end.view.read config c.read_next-next.ensures.told read in
    let some = some_still g.B.Head.state c.self.inside.heads c.self.inside.end.view.kept c.read_command.new.end.view.kept kept c.self.invariant.3 in (
      search rules,
      search rules,
      search rules,
      some,
    )

pub returns-clause-told : goal.returns-clause-told
returns-clause-told g c =
    let runs = c.read_config-runs.result in
    let config = ap (λ (d : DeviceSeen). d.view) c.read_config-runs.ensures ∙ ap (λ (s : DeviceHas). with_config s.view runs) c.self.view_is in
    let read = ap (λ (d : DeviceSeen). d.view) c.read_command.ensures.left in
    let none = c.read_command.ensures.none c.if-read_command.false in
    let table : c.read_command.new.end.table ≡ c.args.self.now.table = search rules in
    let heads = ap (λ (d : DeviceHas). d.heads) c.self.view_is in
    let told = c.read_next-next.ensures.told in
    let loaded : DeviceView = c.read_next-next.new.self.view in
    let layout = ap (λ (e : DeviceView). e.layout) told.view in
    let known = ap (λ (e : DeviceView). e.next) told.view in
    let taken = ap (λ (e : DeviceView). length e.taken) read in
    let all = none.1 in
    let next = ap (λ (e : DeviceView). e.next) read in
    let nothing = ap length c.nothing_read.ensures in
    let count : told.next ≡ length loaded.taken = omega (arith, known, taken, all, next, nothing) in
    record {
      runs = runs;
      found = c.read_next-next.result;
      loaded = loaded;
      next = subst (λ e. NextTold e loaded c.read_next-next.result) config told;
      read = c.read_command.new.end.view.read;
      answers = (
        c.if-runs.false,
        λ i. record { table = table i; view = read i; heads = heads i },
        c.nothing_read.ensures,
        told.address ∙ (λ i. word_address (sym layout i) (count i)),
      );
    }

pub returns-clause-shows : goal.returns-clause-shows
returns-clause-shows g c = λ first shows.
    let runs = c.read_config-runs.result in
    let config = ap (λ (d : DeviceSeen). d.view) c.read_config-runs.ensures in
    let read = ap (λ (d : DeviceSeen). d.view) c.read_command.ensures.left in
    let kept = kept_read c.self.inside.end.view c.read_config-runs.new.self.view c.read_next-next.new.self.view c.read_command.new.end.view
    runs c.read_next-next.result c.read_command.new.end.view.read config c.read_next-next.ensures.told read in
    still_shown g.B.Head.state c.self.inside.heads c.self.inside.end.view.kept c.read_command.new.end.view.kept kept first (subst (Shows first) (sym c.self.view_is) shows)

pub returns-clause-dropped : goal.returns-clause-dropped
returns-clause-dropped g c =
    let runs = c.read_config-runs.result in
    let config = ap (λ (d : DeviceSeen). d.view) c.read_config-runs.ensures in
    let read = ap (λ (d : DeviceSeen). d.view) c.read_command.ensures.left in
    let kept = kept_read c.self.inside.end.view c.read_config-runs.new.self.view c.read_next-next.new.self.view c.read_command.new.end.view
    runs c.read_next-next.result c.read_command.new.end.view.read config c.read_next-next.ensures.told read in
    let some = c.self.invariant.3 in
    let plugs = plug_states g.B.Head.state c.self.inside.heads in
    let own = shows_itself (pictures_of c.self.inside.end.view.kept.screens) some.0 plugs some.1 in
    subst (λ (first : List PlugState). AllShow (pictures_of c.read_command.new.end.view.kept.screens) first plugs)
    (ap (λ (d : DeviceHas). d.heads) c.self.view_is)
    (still_shown g.B.Head.state c.self.inside.heads c.self.inside.end.view.kept c.read_command.new.end.view.kept kept plugs own)

pub invariant_of-self-then-answer_request : goal.invariant_of-self-then-answer_request
invariant_of-self-then-answer_request g c =
    let runs = c.read_config-runs.result in
    let config = ap (λ (d : DeviceSeen). d.view) c.read_config-runs.ensures in
    let read = ap (λ (d : DeviceSeen). d.view) c.read_command.ensures.left in
    let kept = kept_read c.self.inside.end.view c.read_config-runs.new.self.view c.read_next-next.new.self.view c.read_command.new.end.view
    runs c.read_next-next.result c.read_command.new.end.view.read config c.read_next-next.ensures.told read in
    let some = some_still g.B.Head.state c.self.inside.heads c.self.inside.end.view.kept c.read_command.new.end.view.kept kept c.self.invariant.3 in
    let none = c.read_command.ensures.none c.if-read_command.false in
    let screens = answered_screens c.read_command.new.end.view c.answer_request.new.end.view (c.answer_request.ensures.answered c.if-answer_request.true) in (
      c.answer_request.ensures.resting,
      reading_same c.read_command.new.end.view c.answer_request.new.end.view c.read_command.new.decoder (answered_read c.read_command.new.end.view c.answer_request.new.end.view (c.answer_request.ensures.answered c.if-answer_request.true)) none.0,
      c.answer_request.ensures.empty,
      (some.0, subst (λ (s : Screens). AllShow (pictures_of s) some.0 (plug_states g.B.Head.state c.self.inside.heads)) (sym screens) some.1),
    )

pub returns-then-answer_request-clause-shows : goal.returns-then-answer_request-clause-shows
returns-then-answer_request-clause-shows g c = λ first shows.
    let runs = c.read_config-runs.result in
    let config = ap (λ (d : DeviceSeen). d.view) c.read_config-runs.ensures in
    let read = ap (λ (d : DeviceSeen). d.view) c.read_command.ensures.left in
    let kept = kept_read c.self.inside.end.view c.read_config-runs.new.self.view c.read_next-next.new.self.view c.read_command.new.end.view
    runs c.read_next-next.result c.read_command.new.end.view.read config c.read_next-next.ensures.told read in
    let screens = answered_screens c.read_command.new.end.view c.answer_request.new.end.view (c.answer_request.ensures.answered c.if-answer_request.true) in
    let plugs = plug_states g.B.Head.state c.self.inside.heads in
    let still = still_shown g.B.Head.state c.self.inside.heads c.self.inside.end.view.kept c.read_command.new.end.view.kept kept first (subst (Shows first) (sym c.self.view_is) shows) in
    subst (λ (s : Screens). AllShow (pictures_of s) first plugs) (sym screens) still

pub returns-then-answer_request-clause-dropped : goal.returns-then-answer_request-clause-dropped
returns-then-answer_request-clause-dropped g c =
    let runs = c.read_config-runs.result in
    let config = ap (λ (d : DeviceSeen). d.view) c.read_config-runs.ensures in
    let read = ap (λ (d : DeviceSeen). d.view) c.read_command.ensures.left in
    let kept = kept_read c.self.inside.end.view c.read_config-runs.new.self.view c.read_next-next.new.self.view c.read_command.new.end.view
    runs c.read_next-next.result c.read_command.new.end.view.read config c.read_next-next.ensures.told read in
    let screens = answered_screens c.read_command.new.end.view c.answer_request.new.end.view (c.answer_request.ensures.answered c.if-answer_request.true) in
    let some = c.self.invariant.3 in
    let plugs = plug_states g.B.Head.state c.self.inside.heads in
    let own = shows_itself (pictures_of c.self.inside.end.view.kept.screens) some.0 plugs some.1 in
    subst (λ (first : List PlugState). AllShow (pictures_of c.answer_request.new.end.view.kept.screens) first plugs)
    (ap (λ (d : DeviceHas). d.heads) c.self.view_is)
    (subst (λ (s : Screens). AllShow (pictures_of s) plugs plugs) (sym screens)
    (still_shown g.B.Head.state c.self.inside.heads c.self.inside.end.view.kept c.read_command.new.end.view.kept kept plugs own))

pub returns-then-answer_request-clause-told : goal.returns-then-answer_request-clause-told
returns-then-answer_request-clause-told g c =
    let runs = c.read_config-runs.result in
    let config = ap (λ (d : DeviceSeen). d.view) c.read_config-runs.ensures ∙ ap (λ (s : DeviceHas). with_config s.view runs) c.self.view_is in
    let read = ap (λ (d : DeviceSeen). d.view) c.read_command.ensures.left in
    let none = c.read_command.ensures.none c.if-read_command.false in
    let heads = ap (λ (d : DeviceHas). d.heads) c.self.view_is in
    record {
      runs = runs;
      found = c.read_next-next.result;
      loaded = c.read_next-next.new.self.view;
      next = subst (λ e. NextTold e c.read_next-next.new.self.view c.read_next-next.result) config c.read_next-next.ensures.told;
      read = c.read_command.new.end.view.read;
      answers = (
        c.if-runs.true,
        subst (λ (e : DeviceView). read_count e ≡ e.next) read none.1,
        subst (λ e. HasAnswered e c.answer_request.new.end.view) read (c.answer_request.ensures.answered c.if-answer_request.true),
        heads,
      );
    }

pub invariant_of-self-then-runs : goal.invariant_of-self-then-runs
invariant_of-self-then-runs g c =
    let runs = c.read_config-runs.result in
    let config = ap (λ (d : DeviceSeen). d.view) c.read_config-runs.ensures in
    let read = ap (λ (d : DeviceSeen). d.view) c.read_command.ensures.left in
    let kept = kept_read c.self.inside.end.view c.read_config-runs.new.self.view c.read_next-next.new.self.view c.read_command.new.end.view
    runs c.read_next-next.result c.read_command.new.end.view.read config c.read_next-next.ensures.told read in
    let some = some_still g.B.Head.state c.self.inside.heads c.self.inside.end.view.kept c.read_command.new.end.view.kept kept c.self.invariant.3 in
    let none = c.read_command.ensures.none c.if-read_command.false in
    let screens = told_screens c.read_command.new.end.view c.answer_request.new.end.view None (c.answer_request.ensures.none c.if-answer_request.false) in (
      c.answer_request.ensures.resting,
      reading_same c.read_command.new.end.view c.answer_request.new.end.view c.read_command.new.decoder (told_read c.read_command.new.end.view c.answer_request.new.end.view None (c.answer_request.ensures.none c.if-answer_request.false)) none.0,
      c.answer_request.ensures.empty,
      (some.0, subst (λ (s : Screens). AllShow (pictures_of s) some.0 (plug_states g.B.Head.state c.self.inside.heads)) (sym screens) some.1),
    )

pub returns-then-runs-clause-shows : goal.returns-then-runs-clause-shows
returns-then-runs-clause-shows g c = λ first shows.
    let runs = c.read_config-runs.result in
    let config = ap (λ (d : DeviceSeen). d.view) c.read_config-runs.ensures in
    let read = ap (λ (d : DeviceSeen). d.view) c.read_command.ensures.left in
    let kept = kept_read c.self.inside.end.view c.read_config-runs.new.self.view c.read_next-next.new.self.view c.read_command.new.end.view
    runs c.read_next-next.result c.read_command.new.end.view.read config c.read_next-next.ensures.told read in
    let screens = told_screens c.read_command.new.end.view c.answer_request.new.end.view None (c.answer_request.ensures.none c.if-answer_request.false) in
    let plugs = plug_states g.B.Head.state c.self.inside.heads in
    let still = still_shown g.B.Head.state c.self.inside.heads c.self.inside.end.view.kept c.read_command.new.end.view.kept kept first (subst (Shows first) (sym c.self.view_is) shows) in
    subst (λ (s : Screens). AllShow (pictures_of s) first plugs) (sym screens) still

pub returns-then-runs-clause-dropped : goal.returns-then-runs-clause-dropped
returns-then-runs-clause-dropped g c =
    let runs = c.read_config-runs.result in
    let config = ap (λ (d : DeviceSeen). d.view) c.read_config-runs.ensures in
    let read = ap (λ (d : DeviceSeen). d.view) c.read_command.ensures.left in
    let kept = kept_read c.self.inside.end.view c.read_config-runs.new.self.view c.read_next-next.new.self.view c.read_command.new.end.view
    runs c.read_next-next.result c.read_command.new.end.view.read config c.read_next-next.ensures.told read in
    let screens = told_screens c.read_command.new.end.view c.answer_request.new.end.view None (c.answer_request.ensures.none c.if-answer_request.false) in
    let some = c.self.invariant.3 in
    let plugs = plug_states g.B.Head.state c.self.inside.heads in
    let own = shows_itself (pictures_of c.self.inside.end.view.kept.screens) some.0 plugs some.1 in
    subst (λ (first : List PlugState). AllShow (pictures_of c.answer_request.new.end.view.kept.screens) first plugs)
    (ap (λ (d : DeviceHas). d.heads) c.self.view_is)
    (subst (λ (s : Screens). AllShow (pictures_of s) plugs plugs) (sym screens)
    (still_shown g.B.Head.state c.self.inside.heads c.self.inside.end.view.kept c.read_command.new.end.view.kept kept plugs own))

pub returns-then-runs-clause-told : goal.returns-then-runs-clause-told
returns-then-runs-clause-told g c =
    let runs = c.read_config-runs.result in
    let config = ap (λ (d : DeviceSeen). d.view) c.read_config-runs.ensures ∙ ap (λ (s : DeviceHas). with_config s.view runs) c.self.view_is in
    let read = ap (λ (d : DeviceSeen). d.view) c.read_command.ensures.left in
    let none = c.read_command.ensures.none c.if-read_command.false in
    let heads = ap (λ (d : DeviceHas). d.heads) c.self.view_is in
    record {
      runs = runs;
      found = c.read_next-next.result;
      loaded = c.read_next-next.new.self.view;
      next = subst (λ e. NextTold e c.read_next-next.new.self.view c.read_next-next.result) config c.read_next-next.ensures.told;
      read = c.read_command.new.end.view.read;
      answers = (
        c.if-runs.true,
        refl,
        subst (λ e. RequestTold e c.answer_request.new.end.view None) read (c.answer_request.ensures.none c.if-answer_request.false),
        heads,
        subst (λ (e : DeviceView). read_count e ≡ e.next) read none.1,
        none.0.begun,
      );
    }

use Rattle.std.proofs.Common.{◌≡◌, ◌+◌, ◌*◌, ◌<◌, ap, subst, arith, ◌∙◌}
use Rattle.svga_model.specs.CaptureFields.{record_at}
use Rattle.svga_model.specs.Walks.{little_word}
use Rattle.svga_region.specs.RegionSet.{RegionSet}
use Rattle.svga_capture.specs.declared.regions.RegionRecord.{RegionRecord}
use Rattle.svga_capture.proofs.OpeningPlaces.{begun, define_next, has_place, place_last, place_more}
use Rattle.svga_capture.proofs.opening.open_region.Goals as goal

pub define_allowed-requires : goal.define_allowed-requires
define_allowed-requires c =
    let r = c.read-record.result in
    define_next c.args.bytes.now c.args.at r.id r.count c.args.regions.now.guest c.args.regions.now.regions
    (ap (λ (r : RegionRecord). r.id) c.read-record.ensures) (ap (λ (r : RegionRecord). r.count) c.read-record.ensures) c.requires.next

pub loop-k-init : goal.loop-k-init
loop-k-init c =
    let r = c.read-record.result in
    c.define_allowed.ensures
    ∙ ap (λ m. record c.args.regions.now { regions = m })
    (begun c.args.bytes.now c.args.regions.now.regions (record_at c.args.bytes.now c.args.at) r.id r.count
    (ap (λ (r : RegionRecord). r.id) c.read-record.ensures) (ap (λ (r : RegionRecord). r.count) c.read-record.ensures)
    c.requires.next.some)

pub open_place-requires-clause-there : goal.open_place-requires-clause-there
open_place-requires-clause-there c =
    has_place c.loop-k.regions.regions c.args.regions.now.regions c.args.bytes.now (record_at c.args.bytes.now c.args.at)
    c.loop-k.k c.read-record.result.id (ap (λ (s : RegionSet). s.regions) c.loop-k.invariant)
    (ap (λ (r : RegionRecord). r.id) c.read-record.ensures) c.requires.next.small
    (subst (λ (r : RegionRecord). c.loop-k.k < r.count) c.read-record.ensures c.loop-k-test.true)

pub loop-k-preserved : goal.loop-k-preserved
loop-k-preserved c =
    let bytes = c.args.bytes.now in
    place_more c.args.regions.now c.loop-k.regions c.open_place.new.regions bytes (record_at bytes c.args.at) c.loop-k.k
    c.read-record.result.id c.word.result c.loop-k.invariant c.open_place.ensures
    (ap (λ (r : RegionRecord). r.id) c.read-record.ensures)
    (c.word.ensures ∙ ap (little_word bytes)
    (c.place_at.ensures ∙ ap (λ (r : RegionRecord). r.at + 8 + 4 * c.loop-k.k) c.read-record.ensures))
    c.requires.next.small (subst (λ (r : RegionRecord). c.loop-k.k < r.count) c.read-record.ensures c.loop-k-test.true)

pub returns-clause-opened : goal.returns-clause-opened
returns-clause-opened c =
    let past = c.loop-k-test.false in
    let end = c.loop-k.auto.k-end in
    let last : c.loop-k.k ≡ c.read-record.result.count = omega (arith, past, end) in
    place_last c.args.regions.now c.loop-k.regions c.args.bytes.now (record_at c.args.bytes.now c.args.at) c.loop-k.k
    c.loop-k.invariant (last ∙ ap (λ (r : RegionRecord). r.count) c.read-record.ensures)

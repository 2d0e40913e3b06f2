use Rattle.std.proofs.Common.{◌≡◌, sym, ap, ◌∙◌, arith, Some, subst, Option, ℕ, IfOk}
use Rattle.svga_cmd.specs.declared.page.PageKey.{PageKey}
use Rattle.svga_model.specs.RegionBytes.{byte_tests, byte_location, located}
use Rattle.svga_model.specs.Standing.{first_standing}
use Rattle.svga_region.specs.Kept.{regions_of}
use Rattle.svga_region.specs.Places.{tests_of_byte}
use Rattle.svga_region.proofs.PlaceLaws.{byte_tests-frame, byte_tests-none, byte_tests-some, frame_mapped, frame_beyond, located-frame, located-some, read_flag}
use Rattle.svga_region.proofs.regions.Regions.locate.Goals as goal

pub returns-then-page-self-clause-fault : goal.returns-then-page-self-clause-fault
returns-then-page-self-clause-fault c =
    sym (byte_tests-frame c.self.inside.frame (regions_of c.self.inside.defined.items c.self.inside.lists.lists) c.args.id c.args.byte c.if-id-eq-SVGA_GMR_FRAMEBUFFER.true ∙ frame_mapped c.self.inside.frame c.args.byte c.if-page-self.true)
    ∙ ap (λ r. first_standing (byte_tests r.frame r.regions c.args.id c.args.byte)) c.self.view_is

pub returns-then-page-self-clause-located : goal.returns-then-page-self-clause-located
returns-then-page-self-clause-located c = sym (ap (λ r. located r.frame r.regions c.args.id c.args.byte) c.self.view_is)
    ∙ located-frame c.self.inside.frame (regions_of c.self.inside.defined.items c.self.inside.lists.lists) c.args.id c.args.byte c.if-id-eq-SVGA_GMR_FRAMEBUFFER.true c.if-page-self.true

pub returns-else-page-self-clause-fault : goal.returns-else-page-self-clause-fault
returns-else-page-self-clause-fault c =
    sym (byte_tests-frame c.self.inside.frame (regions_of c.self.inside.defined.items c.self.inside.lists.lists) c.args.id c.args.byte c.if-id-eq-SVGA_GMR_FRAMEBUFFER.true ∙ frame_beyond c.self.inside.frame c.args.byte c.if-page-self.false)
    ∙ ap (λ r. first_standing (byte_tests r.frame r.regions c.args.id c.args.byte)) c.self.view_is

pub returns-then-not-index-clause-fault : goal.returns-then-not-index-clause-fault
returns-then-not-index-clause-fault c =
    let flag = read_flag c.self.inside.defined.items c.args.id c.index.result.now (omega (arith, c.self.invariant.2.flags)) c.index.ensures in
    sym (byte_tests-none c.self.inside.frame c.self.inside.defined.items c.self.inside.lists.lists c.args.id c.args.byte (omega arith) (flag ∙ c.if-not-index.true))
    ∙ ap (λ r. first_standing (byte_tests r.frame r.regions c.args.id c.args.byte)) c.self.view_is

pub returns-else-not-index-clause-fault : goal.returns-else-not-index-clause-fault
returns-else-not-index-clause-fault c =
    let flag = read_flag c.self.inside.defined.items c.args.id c.index.result.now (omega (arith, c.self.invariant.2.flags)) c.index.ensures in
    c.locate_in.ensures.fault ∙ ap (λ xs. first_standing (tests_of_byte xs c.args.byte)) c.list.ensures
    ∙ sym (byte_tests-some c.self.inside.frame c.self.inside.defined.items c.self.inside.lists.lists c.args.id c.args.byte (omega arith) (flag ∙ c.if-not-index.false))
    ∙ ap (λ r. first_standing (byte_tests r.frame r.regions c.args.id c.args.byte)) c.self.view_is

pub returns-else-not-index-clause-located : goal.returns-else-not-index-clause-located
returns-else-not-index-clause-located c =
    let flag = read_flag c.self.inside.defined.items c.args.id c.index.result.now (omega (arith, c.self.invariant.2.flags)) c.index.ensures in
    let same = ap (λ xs. byte_location xs c.args.byte) c.list.ensures
    ∙ sym (located-some c.self.inside.frame c.self.inside.defined.items c.self.inside.lists.lists c.args.id c.args.byte (omega arith) (flag ∙ c.if-not-index.false))
    ∙ ap (λ r. located r.frame r.regions c.args.id c.args.byte) c.self.view_is in
    let P : Option (PageKey × ℕ) → Type 0 = λ o. IfOk c.locate_in.result (λ at. o ≡ Some at) in subst P same c.locate_in.ensures.located

-- A blit that has no pixels is refused for its screen or its rectangle.
use Rattle.std.proofs.Common.{◌∙◌}
use Rattle.std.specs.FinMap as map
use Rattle.svga_shape.proofs.JudgeBlits.{has_negative_side, has_no_screen_id, lacks_screen}
use Rattle.svga_shape.proofs.judging.may_blit.Goals as goal

pub returns-then-lacks_screen : goal.returns-then-lacks_screen
returns-then-lacks_screen c = λ s regions frame gmrfb definitions.
    lacks_screen c.args.regions.now.frame c.args.regions.now.regions c.in-Some.gmrfb (map.get c.args.screens.now.screens)
    c.args.blit.now c.length.result c.length.ensures (c.if-is_none.ensures {u = tt})
    s regions frame (gmrfb ∙ c.in-Some.is) definitions (c.if-lacks_screen.ensures {u = tt})

pub returns-then-is_no_screen_id : goal.returns-then-is_no_screen_id
returns-then-is_no_screen_id c = λ s regions frame gmrfb definitions.
    has_no_screen_id c.args.regions.now.frame c.args.regions.now.regions c.in-Some.gmrfb
    (map.get c.args.screens.now.screens) c.args.blit.now c.length.result c.length.ensures
    (c.if-is_none.ensures {u = tt}) s regions frame (gmrfb ∙ c.in-Some.is) definitions
    (c.if-lacks_screen.ensures {u = tt}) (c.if-is_no_screen_id.ensures {u = tt})

pub returns-then-is_negative : goal.returns-then-is_negative
returns-then-is_negative c = λ s regions frame gmrfb definitions.
    has_negative_side c.args.regions.now.frame c.args.regions.now.regions c.in-Some.gmrfb
    (map.get c.args.screens.now.screens) c.args.blit.now c.length.result c.length.ensures
    (c.if-is_none.ensures {u = tt}) s regions frame (gmrfb ∙ c.in-Some.is) definitions
    (c.if-lacks_screen.ensures {u = tt}) (c.if-is_no_screen_id.ensures {u = tt}) (c.if-is_negative.ensures {u = tt})

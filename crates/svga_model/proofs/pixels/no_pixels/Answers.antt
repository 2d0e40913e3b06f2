use Rattle.std.proofs.Common.{arith, refl}
use Rattle.std.specs.Prelude.{int_lt}
use Rattle.svga_model.proofs.PixelsNone.{pixels-negative, pixels-no_screen, pixels-screen_id}
use Rattle.svga_model.proofs.pixels.no_pixels.Goals as goal

pub returns-clause-negative : goal.returns-clause-negative
returns-clause-negative c = λ definitions g b e. pixels-negative definitions g b (int_lt b.rect.right b.rect.left) (int_lt b.rect.bottom b.rect.top) refl refl e

pub returns-clause-no_screen : goal.returns-clause-no_screen
returns-clause-no_screen c = λ definitions g b small none. pixels-no_screen definitions g b (λ e. absurd (omega (arith, e, small))) none

pub returns-clause-screen_id : goal.returns-clause-screen_id
returns-clause-screen_id c = pixels-screen_id

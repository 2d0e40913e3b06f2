use Rattle.std.proofs.Common.{sym, subst}
use Rattle.svga_cmd.specs.Pages.{HasPage}
use Rattle.svga_cmd.proofs.KeyLaws.{keys_total, keys_exact}
use Rattle.svga_cmd.proofs.Maps.{same_keys}
use Rattle.svga_cmd.proofs.tests.set_last_byte.Goals as goal

pub returns : goal.returns
returns g c q was = subst (λ m. HasPage m q) (sym (g.met.P.PageStore.pages_with c.args.store.now c.args.key _ c.requires)) ((same_keys keys_total keys_exact _ c.args.key q _ c.requires).1 was)

use Rattle.svga_driver.proofs.OpeningLaws.{opens}
use Rattle.svga_driver.proofs.driver.Driver.new.Goals as goal

pub invariant_of-driver : goal.invariant_of-driver
invariant_of-driver c =
    opens c.args.session c.in_ok-end.end c.in_ok-shape.shape c.in_ok-lendings.lendings
    c.in_ok-end.ensures.driver
    c.in_ok-end.ensures.none_reserved.0 c.in_ok-end.ensures.none_reserved.1 c.in_ok-end.ensures.pages
    c.in_ok-shape.ensures c.in_ok-lendings.ensures

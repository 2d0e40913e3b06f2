-- What a driver keeps when it loads the reply or FENCE.
use Rattle.std.proofs.Common.{◌≡◌, ℕ, Option, sym, ap, subst, ◌∙◌, arith}
use Rattle.std.specs.Prelude.{Err, Ok, Result}
use Rattle.svga_client.proofs.FollowLaws.{follows_known}
use Rattle.svga_driver.proofs.CommitLaws.{settled_is}
use Rattle.svga_driver.specs.Answering.{SettleAnswers}
use Rattle.svga_driver.specs.Driving.{IsDriver, open_request}
use Rattle.svga_driver.specs.LendingSet.{LendingSet}
use Rattle.svga_driver.specs.declared.fault.DriverFault.{DriverFault}
use Rattle.svga_driver.specs.declared.fault.DriverFault.TheVariants as driver
use Rattle.svga_link.specs.Ends.{DriverSeen}
use Rattle.svga_link.specs.Lending.{FenceTold}
use Rattle.svga_ring.specs.Views.{DriverView, Loads, loaded}
use Rattle.svga_ring.specs.declared.plans.Geometry.{Geometry}
use Rattle.svga_shape.specs.ShapeSet.{ShapeSet}

-- Whatever comes of it, nothing changes but the reply.
settle_leaves : (d left : DriverView) (answer : Result (Unit {0}) DriverFault) → SettleAnswers d answer left
    → left ≡ record d { reply_loads = left.reply_loads }
settle_leaves d left (Ok done) told =
    told ∙ settled_is d ∙ ap (λ (r : Loads). record d { reply_loads = r }) (ap (λ (x : DriverView). x.reply_loads) (sym told))
settle_leaves d left (Err (driver.Asked request reply)) told =
    told.left_is ∙ ap (λ (r : Loads). record d { reply_loads = r }) (ap (λ (x : DriverView). x.reply_loads) (sym told.left_is))
settle_leaves d left (Err fault) told = absurd told

module _ {ring : Geometry} {next : ℕ} {e : DriverSeen} {s : ShapeSet} {n : LendingSet} {first emitted committed seen : ℕ} {asked : Option ℕ}
    (is : IsDriver ring next e s n first emitted committed seen asked) where
  replied : (r : Loads) (asked' : Option ℕ) → asked' ≡ open_request (record e.view { reply_loads = r })
      → IsDriver ring next (record e { view = record e.view { reply_loads = r } }) s n first emitted committed seen asked'
  replied r asked' open_is = record {
    followed = is.followed;
    none_reserved = is.none_reserved;
    none_put = is.none_put;
    runs = is.runs;
    large = is.large;
    shape_is = is.shape_is;
    limits_are = is.limits_are;
    lent_are = is.lent_are;
    marks = is.marks;
    first_is = is.first_is;
    emitted_are = is.emitted_are;
    committed_are = is.committed_are;
    counted = is.counted;
    fenced = is.fenced;
    some_first = is.some_first;
    seen_are = is.seen_are;
    window = is.window;
    passed = is.passed;
    some_passed = is.some_passed;
    asked_is = open_is;
    at_next = is.at_next;
  }

  pub driver_settled : (e' : DriverSeen) (asked' : Option ℕ) (answer : Result (Unit {0}) DriverFault)
      → e' ≡ record e { view = e'.view } → asked' ≡ open_request e'.view → SettleAnswers e.view answer e'.view
      → IsDriver ring next e' s n first emitted committed seen asked'
  driver_settled e' asked' answer end_is open_is told =
      let view = settle_leaves e.view e'.view answer told in
      let same : e' ≡ record e { view = record e.view { reply_loads = e'.view.reply_loads } } =
      end_is ∙ ap (λ v. record e { view = v }) view in
      subst (λ x. IsDriver ring next x s n first emitted committed seen asked') (sym same)
      (replied e'.view.reply_loads asked' (open_is ∙ ap open_request view))

  -- FENCE is loaded, and so many fences have been seen
  pub driver_polled : (e' : DriverSeen) (register : ℕ) → FenceTold e.view e'.view register → e' ≡ record e { view = e'.view }
      → (seen' : ℕ) → seen' ≡ e'.view.seen → IsDriver ring next e' s n first emitted committed seen' asked
  driver_polled e' register told end_is seen' seen_is =
      let same : e' ≡ record e {
        view = record e.view { seen = told.seen; fence_loads = loaded e.view.fence_loads register };
      } = end_is ∙ ap (λ v. record e { view = v }) told.view in
      let now : seen' ≡ told.seen = seen_is ∙ ap (λ v. v.seen) told.view in
      subst (λ x. IsDriver ring next x s n first emitted committed seen' asked) (sym same) (record {
        followed = follows_known is.followed e.view.passed told.seen (omega arith) told.least told.most;
        none_reserved = is.none_reserved;
        none_put = is.none_put;
        runs = is.runs;
        large = is.large;
        shape_is = is.shape_is;
        limits_are = is.limits_are;
        lent_are = is.lent_are;
        marks = is.marks;
        first_is = is.first_is;
        emitted_are = is.emitted_are;
        committed_are = is.committed_are;
        counted = is.counted;
        fenced = is.fenced;
        some_first = is.some_first;
        seen_are = now;
        window = omega (arith, is.window, is.seen_are, told.least, now);
        passed = is.passed;
        some_passed = is.some_passed;
        asked_is = is.asked_is;
        at_next = is.at_next;
      })

-- A session may be closed once all that is sent is taken and no request is open; and steps one after another.
use Rattle.std.proofs.Common.{◌≡◌, ◌==◌, List, [], ◌∷◌, ◌++◌, length, true, ap, ◌∙◌}
use Rattle.svga_cmd.specs.declared.session.Session.{Session}
use Rattle.svga_cmd.specs.declared.session.Way.TheVariants.{Reserve}
use Rattle.svga_ring.proofs.Steps.Each.{keeps_event}
use Rattle.svga_ring.proofs.Words.Order.{none_unsent}
use Rattle.svga_ring.proofs.Words.Told.{taken_whole}
use Rattle.svga_ring.specs.Committed.{commands}
use Rattle.svga_ring.specs.Conditions.{Can, NoneOpen}
use Rattle.svga_ring.specs.Core.{Core, Event, Join, LoadConfig, LoadNext, StoreConfig, after}
use Rattle.svga_ring.specs.Layouts.{word_address}
use Rattle.svga_ring.specs.Lists.{CanAll, after_all}
use Rattle.svga_ring.specs.Sound.{IsSound}
use Rattle.svga_ring.specs.Views.{Apart}

-- more steps behind others
pub can_go_on : (first more : List Event) (c : Core) → CanAll first c → CanAll more (after_all first c)
    → CanAll (first ++ more) c
can_go_on [] more c can then = then
can_go_on (event ∷ events) more c can then = (can.0, can_go_on events more (after event c) can.1 then)

pub can_close : (k : Session) (c : Core) → IsSound k c → c.seats ≡ Apart → NoneOpen c.driver
    → c.driver.pending ≡ [] → (c.driver.terms.way ≡ Reserve → c.driver.reserved ≡ 0)
    → c.driver.sent ≡ c.device.taken → CanAll (StoreConfig ∷ LoadConfig ∷ LoadNext ∷ Join ∷ []) c
can_close k c o apart none_open empty none_reserved all =
    let stopped : Core = after StoreConfig c in
    let can_store : Can StoreConfig c = (
      apart,
      record {
        none_open = none_open;
        none_pending = empty;
        all_sent = none_unsent (commands c.driver.acts) c.driver.sent (taken_whole o.of_words all);
        none_reserved = none_reserved;
      },
    ) in
    let of_stopped : IsSound k stopped = keeps_event k StoreConfig c o can_store in
    let told : Core = after LoadConfig stopped in
    let of_told : IsSound k told = keeps_event k LoadConfig stopped of_stopped (apart, tt) in
    let drained : Core = after LoadNext told in
    let of_drained : IsSound k drained = keeps_event k LoadNext told of_told (apart, tt) in
    let saw : drained.device.saw_stopped ≡ true = ap (λ n. n == 0) of_stopped.stops.config_is in
    let here = of_drained.of_words.loads.next_is ∙ ap (λ l. word_address c.device.layout (length l)) all in
    (can_store, ((apart, tt), ((apart, tt), ((apart, (saw, saw, here)), tt))))

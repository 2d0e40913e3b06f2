-- The steps of the driver's seat on FENCE, on requests and on stopping.
use Rattle.std.proofs.Common.{◌≡◌, ℕ, ◌<◌, ◌^◌, sym, ap, subst, ◌∙◌, arith}
use Rattle.atomic_table.specs.Table.{Allows, Me}
use Rattle.svga_cmd.specs.declared.session.Session.{Session}
use Rattle.svga_model.specs.Fences.{register_after}
use Rattle.svga_ring.proofs.Requests.Words.{same_request}
use Rattle.svga_ring.proofs.Steps.Each.{keeps_event}
use Rattle.svga_ring.proofs.Words.FenceOrder.{passed_in}
use Rattle.svga_ring.specs.Committed.{commands, fences_passed}
use Rattle.svga_ring.specs.Conditions.{Can, MayAsk}
use Rattle.svga_ring.specs.Core.{Core, LoadFence, LoadReply, StoreRequest}
use Rattle.svga_ring.specs.Locations.{Slot}
use Rattle.svga_ring.specs.Requests.{IsRequest, Request, next_request, request_value}
use Rattle.svga_ring.specs.SharedTable.{request_word}
use Rattle.svga_ring.specs.TableRule.{IsSoundTable, View}
use Rattle.svga_ring.specs.TableSteps.{DriverLearns}
use Rattle.svga_ring.specs.Views.{DriverView, driver, loaded}
use Rattle.svga_link.proofs.DriverSteps.{driver_stores_as}
use Rattle.svga_link.specs.Lending.{FenceTold, asking, with_reply}
use Rattle.svga_link.specs.Plays.{DriverStores}
use Rattle.svga_link.specs.Seats.{IsDriverPossible, SeenDriverSeat}

-- FENCE, loaded: how many fences have passed
fence_told_of : (k : Session) (me left : Me Slot View) (found : ℕ) → (t : DriverLearns k me LoadFence found left)
    → FenceTold t.core.driver left.0.of_driver found
fence_told_of k me left found t =
    let c : Core = t.core in
    let o = t.made.sound.of_words in
    let seen : ℕ = fences_passed (commands c.driver.acts) c.device.done c.device.stored in record {
      seen = seen;
      view = ap (λ m. m.0.of_driver) t.left_is
          ∙ ap (λ n. record c.driver { seen = seen; fence_loads = loaded c.driver.fence_loads n }) (sym t.made.found_is);
      register = t.made.found_is ∙ o.fences.register_is
          ∙ ap (λ t. register_after t.first seen) (sym o.session.of_driver);
      least = o.fences.seen_passed;
      most = (passed_in o).most;
    }

pub fence_told : (k : Session) (me left : Me Slot View) (found : ℕ) → DriverLearns k me LoadFence found left
    → FenceTold me.0.of_driver left.0.of_driver found
fence_told k me left found t =
    subst (λ d. FenceTold d left.0.of_driver found) t.view_is (fence_told_of k me left found t)

-- the reply is a number of twenty bits
pub reply_low : (k : Session) (me left : Me Slot View) (found : ℕ) → DriverLearns k me LoadReply found left → found < 2 ^ 20
reply_low k me left found t =
    let o = t.made.sound.requests in omega (arith, t.made.found_is, o.reply_is, o.answered_fits)

pub reply_is : (k : Session) (me left : Me Slot View) (found : ℕ) → DriverLearns k me LoadReply found left
    → left.0.of_driver ≡ with_reply me.0.of_driver found
reply_is k me left found t =
    ap (λ m. m.0.of_driver) t.left_is ∙ ap (λ n. with_reply t.core.driver n) (sym t.made.found_is)
    ∙ ap (λ d. with_reply d found) t.view_is

-- a request that may be made fits its word
pub request_fits : (d : DriverView) (id first : ℕ) → IsDriverPossible d → MayAsk d id first
    → IsRequest (next_request d.request id first)
request_fits d id first is may =
    let can : Can (StoreRequest id first) is.core =
    (is.apart, subst (λ e. MayAsk e id first) (sym is.view_is) may) in
    subst (λ (e : DriverView). IsRequest (next_request e.request id first)) is.view_is
    (keeps_event is.key (StoreRequest id first) is.core is.sound can).requests.fits

-- and the last one did
pub number_low : (d : DriverView) → IsDriverPossible d → d.request.number < 2 ^ 20
number_low d is = subst (λ (e : DriverView). e.request.number < 2 ^ 20) is.view_is is.sound.requests.fits.number_fits

-- The word of a request is that of one alone, so what is told of its step is told of each that has the word.
abbrev pub Asks : ℕ → Me Slot View → Me Slot View → Type 0
Asks word me left = (id first : ℕ) → IsRequest (next_request me.0.of_driver.request id first)
    → word ≡ request_value (next_request me.0.of_driver.request id first) → DriverStores (StoreRequest id first) me left

pub stores_request : (k : Session) (slots id : ℕ) (me : Me Slot View) (word value region first : ℕ)
    → me.0.role ≡ driver → MayAsk me.0.of_driver region first
    → IsRequest (next_request me.0.of_driver.request region first) → word ≡ request_word
    → value ≡ request_value (next_request me.0.of_driver.request region first)
    → Allows (IsSoundTable k) slots id me word (λ _. value) (λ _. Asks value me)
stores_request k slots id me word value region first is may fits at stores =
    let old = me.0.of_driver.request in
    driver_stores_as k slots id me (StoreRequest region first) word value (Asks value me) is may tt at (λ n. stores)
    (λ left told other page low there.
    let same : next_request old region first ≡ next_request old other page =
    same_request _ _ fits low (sym stores ∙ there) in
    subst (λ (r : Request). DriverStores (StoreRequest r.id r.descriptor) me left) same told)

-- the seat, once a chain is asked for
abbrev pub seat_asking : ℕ → ℕ → SeenDriverSeat → SeenDriverSeat
seat_asking id first s = record s { view = asking s.view id first }

-- What CONFIG_DONE and the request tell the device's seat.
use Rattle.std.proofs.Common.{◌≡◌, ℕ, ◌==◌, Bool, true, false, not, if◌then◌else◌, refl, sym, ap, subst, ◌∙◌}
use Rattle.atomic_table.specs.Table.{Me}
use Rattle.svga_cmd.specs.declared.session.Session.{Session}
use Rattle.svga_ring.proofs.Requests.Words.{same_request, value_fits, word_of}
use Rattle.svga_ring.specs.Core.{Core, LoadConfig, LoadRequest}
use Rattle.svga_ring.specs.Locations.{Slot}
use Rattle.svga_ring.specs.Requests.{IsRequest, Request, request_of, request_value}
use Rattle.svga_ring.specs.TableRule.{View}
use Rattle.svga_ring.specs.TableSteps.{DeviceLearns}
use Rattle.svga_ring.specs.Views.{DeviceView, loaded}
use Rattle.svga_link.specs.Holding.{HasNumbers, LoadsRequest, config_value, with_config}
use Rattle.svga_link.specs.declared.requests.Request as given

-- CONFIG_DONE is 1, or 0 once the driver has stopped
config_of : (stopped : Bool) → config_value (not ((if stopped then 0 else 1) == 0)) ≡ (if stopped then 0 else 1)
config_of true = refl
config_of false = refl

not_again : (b : Bool) → b ≡ not (not b)
not_again true = refl
not_again false = refl

pub config_told : (k : Session) (me left : Me Slot View) (found : ℕ) → DeviceLearns k me LoadConfig found left
    → left.0.of_device ≡ with_config me.0.of_device (not (found == 0))
config_told k me left found t =
    let c : Core = t.core in
    let e : DeviceView = me.0.of_device in
    let is : found ≡ (if c.driver.stopped then 0 else 1) = t.made.found_is ∙ t.made.sound.stops.config_is in
    let value : config_value (not (found == 0)) ≡ found = subst (λ n. config_value (not (n == 0)) ≡ n) (sym is) (config_of c.driver.stopped) in
    let loads : DeviceView → ℕ → ℕ → DeviceView =
    λ e n m. record e { saw_stopped = n == 0; drained = false; config_loads = loaded e.config_loads m } in
    ap (λ m. m.0.of_device) t.left_is ∙ (λ i. loads (t.view_is i) (sym t.made.found_is i) (sym t.made.found_is i))
    ∙ (λ i. record e { saw_stopped = not_again (found == 0) i; drained = false; config_loads = loaded e.config_loads (sym value i) })

-- a request's word stands for it alone
request_of_value : (r : Request) → IsRequest r → request_of (request_value r) ≡ r
request_of_value r fits =
    let t = word_of (request_value r) (value_fits r fits) in
    same_request (request_of (request_value r)) r t.0 fits t.1

-- the request was loaded
pub request_told : (k : Session) (me left : Me Slot View) (found : ℕ) (r : given.Request) → DeviceLearns k me LoadRequest found left
    → r.number ≡ (request_of found).number → r.id ≡ (request_of found).id → r.descriptor ≡ (request_of found).descriptor
    → (q : Request) × LoadsRequest me.0.of_device left.0.of_device q × HasNumbers r q
request_told k me left found r t number id descriptor =
    let c : Core = t.core in
    let o = t.made.sound.requests in
    let q : Request = c.driver.request in
    let word : found ≡ request_value q = t.made.found_is ∙ o.request_is in
    let parts : request_of found ≡ q = ap request_of word ∙ request_of_value q o.fits in
    let made : DeviceView → ℕ → DeviceView = λ e n. record e { wanted = q; request_loads = loaded e.request_loads n } in (
      q,
      record {
        fits = o.fits;
        no_ring = o.no_ring;
        view = ap (λ m. m.0.of_device) t.left_is ∙ (λ i. made (t.view_is i) (o.request_is i));
      },
      record {
        number_is = number ∙ ap (λ r. r.number) parts;
        id_is = id ∙ ap (λ r. r.id) parts;
        descriptor_is = descriptor ∙ ap (λ r. r.descriptor) parts;
      },
    )

use Rattle.std.proofs.Common.{arith, ap, sym, refl, subst, ◌%◌, ◌+◌, ◌^◌, ◌∙◌}
use Rattle.svga_ring.specs.Conditions.{MayAsk}
use Rattle.svga_ring.specs.Core.{StoreRequest}
use Rattle.svga_ring.specs.Requests.{IsRequest, request_value}
use Rattle.svga_ring.specs.RingPieces.{next_offset}
use Rattle.svga_link.proofs.DriverRequests.{number_low, request_fits, seat_asking, stores_request}
use Rattle.svga_link.proofs.DriverSteps.{driver_kept_as, driver_view, seat_left}
use Rattle.svga_link.specs.Plays.{DriverStores}
use Rattle.svga_link.proofs.Offsets.{table_stays}
use Rattle.svga_link.specs.Lending.{asking}
use Rattle.svga_link.proofs.driver_seat.DriverSeat.store_request.Goals as goal

pub next_number-number-requires : goal.next_number-number-requires
next_number-number-requires c =
    let i = c.self.invariant.1 in
    let low = number_low _ i.possible in omega (arith, low, i.request_is)

pub request_word-word-requires : goal.request_word-word-requires
request_word-word-requires c =
    let i = c.self.invariant.1 in
    let may = subst (λ d. MayAsk d c.args.id c.args.descriptor) (sym (ap (λ s. s.view) c.self.view_is)) c.requires in
    let fits = request_fits _ _ _ i.possible may in
    let number = c.next_number-number.ensures ∙ ap (λ n. (n + 1) % 2 ^ 20) i.request_is in
    subst (λ n. IsRequest (record { number = n; id = c.args.id; descriptor = c.args.descriptor })) (sym number) fits

pub store-requires : goal.store-requires
store-requires c =
    let b = c.self.invariant.0 in
    let i = c.self.invariant.1 in
    let may = subst (λ d. MayAsk d c.args.id c.args.descriptor) (sym (ap (λ s. s.view) c.self.view_is)) c.requires in
    let fits = request_fits _ _ _ i.possible may in
    let number = c.next_number-number.ensures ∙ ap (λ n. (n + 1) % 2 ^ 20) i.request_is in
    let word = c.request_word-word.ensures
    ∙ ap (λ n. request_value (record { number = n; id = c.args.id; descriptor = c.args.descriptor })) number in (
      b.one_table ∙ ap (λ b. b.shared.table_id) (sym c.deref.ensures),
      omega (arith, b.words, ap (λ b. b.shared.table_id.words) (sym c.deref.ensures)),
      stores_request _ _ _ _ _ _ c.args.id c.args.descriptor i.role may fits refl word,
    )

-- what the step told
told : (c : goal.After-self-1)
    → DriverStores (StoreRequest c.args.id c.args.descriptor) c.self.inside.seat.me c.store.new.seat.me
told c =
    let i = c.self.invariant.1 in
    let may = subst (λ d. MayAsk d c.args.id c.args.descriptor) (sym (ap (λ s. s.view) c.self.view_is)) c.requires in
    let number = c.next_number-number.ensures ∙ ap (λ n. (n + 1) % 2 ^ 20) i.request_is in
    c.store.ensures.2 c.args.id c.args.descriptor (request_fits _ _ _ i.possible may) (c.request_word-word.ensures
    ∙ ap (λ n. request_value (record { number = n; id = c.args.id; descriptor = c.args.descriptor })) number)

pub invariant_of-self : goal.invariant_of-self
invariant_of-self c =
    let i = c.self.invariant.1 in
    let number = c.next_number-number.ensures ∙ ap (λ n. (n + 1) % 2 ^ 20) i.request_is in
    let t = (told c).2 in
    let view = driver_view _ _ _ (StoreRequest c.args.id c.args.descriptor) _
    (λ d. asking d c.args.id c.args.descriptor) t (λ core. refl) in (
      table_stays _ _ _ _ _ c.self.invariant.0 c.store.ensures.0,
      driver_kept_as _ _ _ _ (StoreRequest c.args.id c.args.descriptor) _ _ _ _ _ i t (λ core. refl) (λ core. refl)
          (λ core. refl) (i.next_is ∙ sym (ap next_offset view)) (number ∙ sym (ap (λ d. d.request.number) view)),
    )

pub invariant_of-self-inside : goal.invariant_of-self-inside
invariant_of-self-inside c =
    let i = c.self.invariant.1 in
    let may = subst (λ d. MayAsk d c.args.id c.args.descriptor) (sym (ap (λ s. s.view) c.self.view_is)) c.requires in
    let number = c.next_number-number.ensures ∙ ap (λ n. (n + 1) % 2 ^ 20) i.request_is in
    let told = c.store.ensures.2 c.args.id c.args.descriptor (request_fits _ _ _ i.possible may) (c.request_word-word.ensures
    ∙ ap (λ n. request_value (record { number = n; id = c.args.id; descriptor = c.args.descriptor })) number) in
    let view = driver_view _ _ _ (StoreRequest c.args.id c.args.descriptor) _
    (λ d. asking d c.args.id c.args.descriptor) told.2 (λ core. refl) in
    (c.self.inside.counted ∙ sym (ap (λ d. d.next_stores) view), tt)

pub returns-clause-number : goal.returns-clause-number
returns-clause-number c =
    let t = (told c).2 in
    let view = driver_view _ _ _ (StoreRequest c.args.id c.args.descriptor) _
    (λ d. asking d c.args.id c.args.descriptor) t (λ core. refl) in
    c.next_number-number.ensures ∙ ap (λ n. (n + 1) % 2 ^ 20) c.self.invariant.1.request_is
    ∙ sym (ap (λ d. d.request.number) view)

pub returns-clause-left : goal.returns-clause-left
returns-clause-left c =
    seat_left _ _ _ (StoreRequest c.args.id c.args.descriptor) _ (λ d. asking d c.args.id c.args.descriptor) (told c).2
    (λ core. refl) _ _ c.store.ensures.0 ∙ ap (seat_asking c.args.id c.args.descriptor) c.self.view_is

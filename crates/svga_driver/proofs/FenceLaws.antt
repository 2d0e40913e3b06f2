-- A driver keeps what it is once a FENCE is sent.
use Rattle.std.proofs.Common.{◌≡◌, ℕ, ◌+◌, ◌*◌, ◌<◌, ◌≤◌, List, [], ◌∷◌, ◌++◌, length, refl, sym, ap, subst, ◌∙◌, Option, None, Err, Ok, option_map, arith, length-append}
use Rattle.std.proofs.lemmas.List.Elements.{filter_map-append}
use Rattle.std.specs.Option.{option_or}
use Rattle.svga_client.proofs.MarkLaws.{mark_kept}
use Rattle.svga_client.specs.Marks.{fence_behind}
use Rattle.svga_cmd.specs.Spelling.{spelling}
use Rattle.svga_cmd.specs.declared.command.Command.{Command}
use Rattle.svga_cmd.specs.declared.command.Command.TheVariants.{Fence}
use Rattle.svga_cmd.specs.declared.constants.TheConstants.{FENCE_WINDOW}
use Rattle.svga_driver.proofs.CommitLaws.{answers_all, base, end_is, none_now, has, has_view, keeps_sent, may_send, same_or_settled, settled_is, view_after}
use Rattle.svga_driver.specs.CommitAnswers.{FenceAnswers, IsCommitted}
use Rattle.svga_driver.specs.Driving.{IsAtNext, IsDriver, client_by, open_request, settled}
use Rattle.svga_driver.specs.LendingSet.{LendingSet}
use Rattle.svga_driver.specs.Sending.{HasNoRoomFor}
use Rattle.svga_driver.specs.declared.fault.DriverFault.{DriverFault}
use Rattle.svga_driver.specs.declared.fault.DriverFault.TheVariants as driver
use Rattle.svga_driver.specs.declared.fault.Fence.{Fence as FenceGiven}
use Rattle.svga_link.specs.Ends.{DriverSeen}
use Rattle.svga_link.specs.ReserveAnswers.{HasNoRoom}
use Rattle.svga_link.specs.Reserving.{MaySend, free_now}
use Rattle.svga_link.specs.Told.{StopTold, committed as committing}
use Rattle.svga_model.specs.Acts.{Do}
use Rattle.svga_model.specs.ClientActs.{Commit, CommitFence}
use Rattle.svga_model.specs.ClientFaults.{Refused}
use Rattle.svga_model.specs.Clients.{after_call, next_fence, refusal_of}
use Rattle.svga_model.specs.Faults.{fault_of}
use Rattle.svga_model.specs.Fences.{fence_value, fences, number_of_fence}
use Rattle.svga_model.specs.States.{State}
use Rattle.svga_ring.proofs.Words.NextCommand.{commands-append}
use Rattle.svga_ring.specs.Committed.{commands}
use Rattle.svga_ring.specs.Conditions.{NoneOpen}
use Rattle.svga_ring.specs.Views.{DriverView, loaded}
use Rattle.svga_ring.specs.declared.plans.Geometry.{Geometry}
use Rattle.svga_shape.specs.ShapeSet.{ShapeSet}

-- a FENCE is never refused
fence_admits : (s : State) (value : ℕ) → fault_of s (Do (Fence value)) ≡ None
unfolding fault_of
fence_admits s value = refl

module _ {ring : Geometry} {next : ℕ} {e : DriverSeen} {s : ShapeSet} {n : LendingSet} {first emitted committed seen : ℕ} {asked :
    Option ℕ}
    (o : IsDriver ring next e s n first emitted committed seen asked) (value : ℕ) where
  pub fence_granted : refusal_of (client_by e.view e.pages n.touched) (Commit (Fence value)) ≡ None
  fence_granted = ap (λ f. option_or (option_map Refused f) None)
      (fence_admits (client_by e.view e.pages n.touched).state value)

  -- its number is the next one
  pub next_number : value ≡ number_of_fence first emitted
      → value ≡ next_fence (client_by e.view e.pages n.touched)
  next_number is = is ∙ (λ i. number_of_fence (o.first_is i) (o.emitted_are i))

  pub fence_may : (f : DriverSeen) (words : List ℕ) → value ≡ number_of_fence first emitted
      → emitted < seen + FENCE_WINDOW → words ≡ spelling (Fence value) → f.view ≡ settled e.view
      → MaySend f.view words (Fence value)
  fence_may f words number fewer spelled is =
      may_send o (Fence value) f words fence_granted
      (next_number number, omega (arith, fewer, o.emitted_are, o.seen_are)) tt spelled is

  module _ (f g : DriverSeen) (now : Option ℕ) (same : f ≡ record e { view = f.view })
      (is : f.view ≡ settled e.view)
      (now_is : now ≡ open_request f.view) (after : g ≡ record f { view = g.view }) where
    pub keeps_fence : (found : ℕ) (loaded_view : DriverView) (told_by : StopTold f.view loaded_view found)
        (words : List ℕ) (next2 : ℕ)
        → g.view ≡ committing loaded_view (Fence value) words → words ≡ spelling (Fence value)
        → emitted < seen + FENCE_WINDOW
        → IsAtNext ring next2 e.view.layout (length e.view.sent + length words)
        → IsDriver ring next2 g s n first (emitted + 1) (committed + 1) seen now
    keeps_fence found loaded_view told_by words next2 at spelled fewer at_next2 =
        let b = base o f g now same is now_is after found loaded_view told_by in
        let cs : List Command = commands e.view.acts in
        let x = Do (Fence value) in
        let more : commands (e.view.acts ++ x ∷ []) ≡ cs ++ Fence value ∷ [] =
        commands-append e.view.acts (x ∷ []) in
        let longer : length (commands (e.view.acts ++ x ∷ [])) ≡ length cs + 1 = ap length more
        ∙ length-append cs (Fence value ∷ []) in
        let count : length (fences (cs ++ Fence value ∷ [])) ≡ length (fences cs) + 1 =
        ap length (filter_map-append fence_value cs (Fence value ∷ []))
        ∙ length-append (fences cs) (value ∷ []) in
        let v : DriverView = view_after e.view (settled e.view).reply_loads b.stop b.passed
        (loaded e.view.stop_loads found) (Fence value) words in
        let kept = keeps_sent o (Fence value) fence_granted (settled e.view).reply_loads b.stop b.passed
        (loaded e.view.stop_loads found) words
        (subst NoneOpen (settled_is e.view) (same_or_settled e.view)) b.least b.some b.whole spelled
        s n (emitted + 1) next2
        (let all = ap (λ l. length (fences l)) more in omega (arith, o.emitted_are, all, count))
        (omega (arith, o.fenced)) (omega (arith, fewer)) o.shape_is refl o.lent_are refl
        (λ key cm fs got. (
          (o.marks key cm fs got).0 ∙ sym (mark_kept cs (Fence value) cm (o.marks key cm fs got).1)
              ∙ ap (λ l. fence_behind l cm) (sym more),
          (let low = (o.marks key cm fs got).1 in omega (arith, low, longer)),
        )) at_next2 in
        subst (λ y. IsDriver ring next2 y s n first (emitted + 1) (committed + 1) seen now)
        (sym (end_is o f g now same is now_is after v (at
        ∙ ap (λ w. committing w (Fence value) words) b.view)))
        (subst (IsDriver ring next2 (record e { view = v }) s n first (emitted + 1) (committed + 1) seen)
        (sym (none_now o f g now same is now_is after)) kept)

    pub fence_done : (found : ℕ) (loaded_view : DriverView) (told_by : StopTold f.view loaded_view found)
        (words : List ℕ)
        → g.view ≡ committing loaded_view (Fence value) words → 4 * length words < free_now loaded_view
        → words ≡ spelling (Fence value) → value ≡ number_of_fence first emitted
        → emitted < seen + FENCE_WINDOW
        → (number : FenceGiven) → number.number ≡ value
        → FenceAnswers (has e n.touched) (Ok number) (has g n.touched)
    fence_done found loaded_view told_by words at enough spelled number fewer given given_is =
        let all = answers_all o f g now same is now_is after found loaded_view told_by
        (Fence value) words n at enough
        fence_granted spelled refl in
        let next = next_number number in (
          omega (arith, fewer, o.emitted_are, o.seen_are),
          given_is ∙ next,
          subst (λ m. IsCommitted (has e n.touched) CommitFence (Fence m) (has g n.touched)) next (record {
            done = record {
              granted = refl;
              client_is = all.done.client_is ∙ ap (λ m. after_call (client_by e.view e.pages n.touched)
                  (Commit (Fence m))) next;
            };
            sent = all.sent;
            left_is = all.left_is;
          }),
        )

    pub fence_lacks : (fault : DriverFault) (words : List ℕ)
        → HasNoRoomFor f.view (4 * length words) fault g.view
        → words ≡ spelling (Fence value) → emitted < seen + FENCE_WINDOW
        → FenceAnswers (has e n.touched) (Err fault) (has g n.touched)
    fence_lacks fault words none spelled fewer =
        subst (λ x. FenceAnswers (has e n.touched) (Err x) (has g n.touched)) (sym none.fault_is) (
          omega (arith, fewer, o.emitted_are, o.seen_are),
          record {
            too_few = subst (λ v. HasNoRoom v 8 none.stop none.free g.view) is
                (subst (λ ws. HasNoRoom f.view (4 * length ws) none.stop none.free g.view) spelled
                none.too_few);
            left_is = has_view e g n.touched g.view
                (after ∙ ap (λ (y : DriverSeen). record y { view = g.view }) same) refl;
          },
        )

  pub window_full : (f : DriverSeen) → f ≡ record e { view = f.view } → f.view ≡ settled e.view
      → seen + FENCE_WINDOW ≤ emitted → FenceAnswers (has e n.touched) (Err driver.FenceWindow)
      (has f n.touched)
  window_full f same is full = (
    omega (arith, full, o.emitted_are, o.seen_are),
    has_view e f n.touched (settled e.view) same is,
  )

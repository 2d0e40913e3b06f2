-- Whole sessions: a region goes by a chain, and a FENCE is sent by reservation, or dword by dword.
use Rattle.std.proofs.Common.{◌≡◌, ℕ, ◌<◌, ◌≤◌, ◌^◌, List, [], ◌∷◌, ◌++◌, ◌||◌, cond, nat_lt, true, false, refl, sym, ap, subst, arith}
use Rattle.std.proofs.lemmas.Bool.Decides.{nat_tests}
use Rattle.std.specs.FinMap as map
use mathlib.Core.Bool.{true≢false}
use Rattle.svga_cmd.specs.Pages.{key_cmp}
use Rattle.svga_cmd.specs.declared.command.Command.TheVariants.{Fence}
use Rattle.svga_cmd.specs.declared.fault.Fault.TheVariants as fault
use Rattle.svga_cmd.specs.declared.page.PageKey.{PageKey}
use Rattle.svga_cmd.specs.declared.session.Session.{Session}
use Rattle.svga_cmd.specs.declared.session.Way.TheVariants.{Reserve, Dword}
use Rattle.svga_model.specs.Acts.{Chain}
use Rattle.svga_model.specs.Faults.{IsAdmissible, fault_of}
use Rattle.svga_model.specs.Fences.{number_of_fence}
use Rattle.svga_model.specs.Standing.{least_standing}
use Rattle.svga_model.specs.States.{State, opening_state}
use Rattle.svga_model.specs.Touches.{Touches}
use Rattle.svga_model.specs.Walks.{given_tests, tables_of, walk_outcome}
use Rattle.svga_ring.proofs.Pages.Noted.{held_unnoted}
use Rattle.svga_ring.proofs.Sessions.OpensInWords.{opens}
use Rattle.svga_ring.proofs.Words.Turns.{some_dwords}
use Rattle.svga_ring.proofs.Sessions.Closes.{can_close, can_go_on}
use Rattle.svga_ring.proofs.Sessions.FenceTaken.{all_is_taken, can_take, fence_admissible, fence_touches, spells_fence}
use Rattle.svga_ring.proofs.Sessions.TableWords.{opening_is_layout}
use Rattle.svga_ring.proofs.Steps.Each.{keeps_all, list_sound}
use Rattle.svga_ring.specs.Conditions.{ArePending, NoneOpen}
use Rattle.svga_ring.specs.Core.{Commit, Core, Event, Join, LoadCell, LoadConfig, LoadFence, LoadNext, LoadReply, LoadRequest, LoadStop, SendMore, Split, StoreCell, StoreConfig, StoreFence, StoreReply, StoreRequest, StoreReserved, StoreStop, opening_core}
use Rattle.svga_ring.specs.Lists.{CanAll, after_all}
use Rattle.svga_ring.specs.Requests.{is_ring_request, next_request, no_request}
use Rattle.svga_ring.specs.Sound.{IsSound}
use Rattle.svga_ring.specs.Views.{Apart, opening_layout}

-- A chain with no page has no fault, whose region may be any
gone_admissible : (s : State) (id : ℕ) → id ≤ 4095 → IsAdmissible s (Chain id 0)
unfolding fault_of
gone_admissible s id low =
    let small : nat_lt 4095 id ≡ false = grind (arith, nat_tests) in
    ap (λ high. least_standing ((high, fault.RegionId) ∷ cond (high || true) []
    (given_tests s.kept.regions id (walk_outcome s.kept.limits.pages (tables_of s.memory) 0)))) small

gone_touches : (s : State) (id : ℕ) (key : PageKey) → Touches s (Chain id 0) key → ⊥
gone_touches s id key touched = true≢false (sym touched)

no_ring : (id : ℕ) → is_ring_request (next_request no_request id 0) ≡ false
no_ring id = grind (arith, nat_tests)

pub can_ask : (k : Session) (id : ℕ) → id ≤ 4095
    → CanAll (Split ∷ StoreRequest id 0 ∷ LoadRequest ∷ StoreReply ∷ LoadReply ∷ []) (opening_core k)
can_ask k id low = (
  refl,
  (
    (
      refl,
      record {
        runs = refl;
        none_pending = refl;
        none_reserved = λ w. refl;
        none_open = refl;
        all_taken = (opens k).loads.stop_is (λ e. cc e);
        admissible = gone_admissible (opening_state k.limits k.first) id low;
        pages_lent = λ key touched. absurd (gone_touches (opening_state k.limits k.first) id key touched);
      },
    ),
    (
      (refl, tt),
      (
        (
          refl,
          record {
            waits = omega arith;
            no_ring = no_ring id;
            none_held = λ key. held_unnoted map.empty key (map.get-empty key_cmp key);
            given = λ key touched. absurd (true≢false (sym touched));
            all_given = λ key touched. absurd (true≢false (sym touched));
          },
        ),
        ((refl, tt), tt),
      ),
    ),
  ),
)

abbrev sending : ℕ → List Event
sending v = Split ∷ StoreReserved 8 ∷ StoreCell 30 ∷ StoreCell v ∷ Commit (Fence v) ∷ StoreReserved 0
    ∷ LoadNext ∷ []

can_send : (k : Session) (v : ℕ) → v ≡ number_of_fence k.first 0 → v < 2 ^ 32 → k.way ≡ Reserve
    → CanAll (sending v) (opening_core k)
can_send k v is low way =
    let some = some_dwords (opening_layout k) (opening_is_layout k) in (
      refl,
      (
        (refl, (way, refl)),
        (
          (
            refl,
            (
              record {
                runs = refl;
                reserved = λ w.
                    omega arith;
                room = omega (arith, some.0);
                short = omega arith;
              },
              omega arith,
            ),
          ),
          (
            (
              refl,
              (
                record {
                  runs = refl;
                  reserved = λ w.
                      omega arith;
                  room = omega (arith, some.0);
                  short = omega arith;
                },
                low,
              ),
            ),
            (
              (
                refl,
                record {
                  all_sent = refl;
                  spelled = spells_fence v low;
                  pending = subst (λ w. ArePending w (30 ∷ v ∷ []) (Fence v)) (sym way) refl;
                  none_open = refl;
                  admissible = fence_admissible _ v;
                  pages_lent = λ key touched. absurd (fence_touches (opening_state k.limits k.first) v key
                      touched);
                  fence = (is, omega arith);
                  by_dword = λ w. absurd (cc (w, way));
                },
              ),
              ((refl, (way, refl)), ((refl, tt), tt)),
            ),
          ),
        ),
      ),
    )

abbrev sending_dwords : ℕ → List Event
sending_dwords v = Split ∷ StoreCell 30 ∷ Commit (Fence v) ∷ LoadNext ∷ StoreCell v ∷ SendMore ∷ LoadNext ∷ []

can_send_dwords : (k : Session) (v : ℕ) → v ≡ number_of_fence k.first 0 → v < 2 ^ 32 → k.way ≡ Dword
    → CanAll (sending_dwords v) (opening_core k)
can_send_dwords k v is low way =
    let some = some_dwords (opening_layout k) (opening_is_layout k) in (
      refl,
      (
        (
          refl,
          (
            record {
              runs = refl;
              reserved = λ w.
                  absurd (cc (w, way));
              room = omega (arith, some.0);
              short = omega arith;
            },
            omega arith,
          ),
        ),
        (
          (
            refl,
            record {
              all_sent = refl;
              spelled = spells_fence v low;
              pending = subst (λ w. ArePending w (30 ∷ []) (Fence v)) (sym way) (λ e. cc e, (v ∷ [], refl));
              none_open = refl;
              admissible = fence_admissible _ v;
              pages_lent = λ key touched. absurd (fence_touches (opening_state k.limits k.first) v key
                  touched);
              fence = (is, omega arith);
              by_dword = λ w. refl;
            },
          ),
          (
            (refl, tt),
            (
              (
                refl,
                (
                  record {
                    runs = refl;
                    reserved = λ w.
                        absurd (cc (w, way));
                    room = omega (arith, some.0);
                    short = omega arith;
                  },
                  low,
                ),
              ),
              ((refl, ((λ e. cc e, ([], refl)), refl)), ((refl, tt), tt)),
            ),
          ),
        ),
      ),
    )

-- the rest of such a session: the FENCE is taken, the driver learns it and stops, and the seats join
abbrev pub fence_then_close : ℕ → List Event
fence_then_close v = LoadCell ∷ LoadCell ∷ StoreFence v ∷ StoreStop (Fence v) ∷ LoadStop ∷ LoadFence
    ∷ StoreConfig ∷ LoadConfig ∷ LoadNext ∷ Join ∷ []

can_finish : (k : Session) (c : Core) (v : ℕ) → IsSound k c → v < 2 ^ 32 → c.seats ≡ Apart → NoneOpen c.driver
    → c.driver.request.number ≡ c.device.answered → c.driver.pending ≡ []
    → (c.driver.terms.way ≡ Reserve → c.driver.reserved ≡ 0) → c.driver.sent ≡ 30 ∷ v ∷ []
    → c.device.taken ≡ [] → c.device.read ≡ [] → c.device.next ≡ 2 → CanAll (fence_then_close v) c
can_finish k c v o low apart none_open answered empty none_reserved sent taken read known =
    let took : List Event = LoadCell ∷ LoadCell ∷ StoreFence v ∷ StoreStop (Fence v) ∷ LoadStop ∷ LoadFence
    ∷ [] in
    let can = can_take k c v o low apart answered sent taken read known in
    let all = all_is_taken k c v o low apart answered sent taken read known in
    let can_learn : CanAll took c =
    (can.0, (can.1.0, (can.1.1.0, (can.1.1.1.0, ((apart, tt), ((apart, tt), tt)))))) in
    can_go_on took (StoreConfig ∷ LoadConfig ∷ LoadNext ∷ Join ∷ []) c can_learn
    (can_close k (after_all took c) (keeps_all k took c o can_learn) apart none_open empty none_reserved all)

pub by_reservation : (k : Session) (v : ℕ) → v ≡ number_of_fence k.first 0 → v < 2 ^ 32 → k.way ≡ Reserve
    → CanAll (sending v ++ fence_then_close v) (opening_core k)
by_reservation k v is low way =
    let can = can_send k v is low way in
    let c : Core = after_all (sending v) (opening_core k) in
    can_go_on (sending v) (fence_then_close v) (opening_core k) can
    (can_finish k c v (list_sound k (sending v) can) low refl refl refl refl (λ w. refl) refl refl refl refl)

pub dword_by_dword : (k : Session) (v : ℕ) → v ≡ number_of_fence k.first 0 → v < 2 ^ 32 → k.way ≡ Dword
    → CanAll (sending_dwords v ++ fence_then_close v) (opening_core k)
dword_by_dword k v is low way =
    let can = can_send_dwords k v is low way in
    let c : Core = after_all (sending_dwords v) (opening_core k) in
    can_go_on (sending_dwords v) (fence_then_close v) (opening_core k) can
    (can_finish k c v (list_sound k (sending_dwords v) can) low refl refl refl refl (λ w. refl) refl refl refl
    refl)

-- The pieces of a plan are the next words round the ring.
use Rattle.std.proofs.Common.{◌≡◌, ℕ, ◌+◌, ◌-◌, ◌*◌, ◌/◌, ◌%◌, ◌<◌, ◌≤◌, refl, sym, ap, subst, ◌∙◌, arith}
use Rattle.std.proofs.lemmas.Bool.Decides.{nat_tests}
use Rattle.svga_cmd.specs.declared.session.Session.{Session}
use Rattle.svga_model.proofs.Turns.{add-mod_turn, address_beyond, address_within, mod_turn}
use Rattle.svga_model.specs.Addresses.{address}
use Rattle.svga_ring.proofs.Words.Turns.{some_dwords}
use Rattle.svga_ring.specs.Core.{Core, put_count}
use Rattle.svga_ring.specs.Layouts.{IsLayout, Layout, ring_dwords, ring_start, word_address, word_cell}
use Rattle.svga_ring.specs.Plans.{HasPieces, IsPieceOf, IsPlan, LeavesRoom}
use Rattle.svga_ring.specs.RingPieces.{AreWords, Fit, MeansPlan, geometry_of, next_offset, stop_offset}
use Rattle.svga_ring.specs.Rings.{AreCounts, IsOffset, IsRing, IsWhole, address_in, dwords_of, free_bytes, offset_behind, size_of}
use Rattle.svga_ring.specs.Sound.{IsSoundOfWords}
use Rattle.svga_ring.specs.declared.plans.Geometry.{Geometry}
use Rattle.svga_ring.specs.declared.plans.Planned.{Planned}
use Rattle.svga_ring.specs.declared.plans.Planned.TheVariants.{InPlace, Bounce, NoRoom, TooLarge}

-- the free bytes in counts of words
pub free_counts : (g : Geometry) (next stop sent taken : ℕ) → IsRing g → AreCounts g next stop sent taken
    → free_bytes g next stop ≡ 4 * (dwords_of g - (sent - taken))
free_counts g next stop sent taken ring counts =
    let turn = mod_turn (dwords_of g) sent taken counts.behind counts.room in
    grind (
      arith,
      nat_tests,
      turn,
      counts.next_is,
      counts.stop_is,
      counts.room,
      counts.behind,
      ring.min_whole,
      ring.max_whole,
      ring.some,
    )

-- the offset behind so many bytes, in counts of words
pub behind_counts : (g : Geometry) (next n bytes : ℕ) → IsRing g → next ≡ address_in g n → IsWhole bytes
    → bytes < size_of g
    → offset_behind g next bytes ≡ address_in g (n + bytes / 4)
behind_counts g next n bytes ring here whole small =
    let turn = add-mod_turn (dwords_of g) n (bytes / 4)
    (omega (arith, ring.min_whole, ring.max_whole, whole, small)) in
    grind (arith, nat_tests, turn, here, whole, small, ring.min_whole, ring.max_whole)

-- what a plan says in counts of words
pub plan_counts : (g : Geometry) (next stop sent taken bytes : ℕ) (planned : Planned) → IsRing g
    → IsWhole bytes → 0 < bytes
    → AreCounts g next stop sent taken → IsPlan g next stop bytes planned
    → HasPieces g next bytes sent taken planned
plan_counts g next stop sent taken bytes InPlace ring whole some counts is =
    let free = free_counts g next stop sent taken ring counts in (
      omega (arith, free, is.0, whole, counts.behind, counts.room),
      (λ i within. ap (λ a. a) (address_within g.min (dwords_of g) sent (bytes / 4) i
          (omega (arith, counts.next_is, is.1, whole, ring.min_whole, ring.max_whole)) within)
          ∙ omega (arith, counts.next_is)),
    )
plan_counts g next stop sent taken bytes (Bounce first) ring whole some counts is =
    let free = free_counts g next stop sent taken ring counts in
    let end : sent % dwords_of g + first / 4
    ≡ dwords_of g = omega (arith, counts.next_is, is.2, ring.min_whole, ring.max_whole, ring.some) in (
      omega (arith, free, is.0, whole, counts.behind, counts.room),
      (λ i within. address_within g.min (dwords_of g) sent (first / 4) i (omega (arith, end)) within
          ∙ omega (arith, counts.next_is)),
      (λ i within. address_beyond g.min (dwords_of g) sent (first / 4) i end
          (omega (arith, within, free, is.0, is.1, is.2, whole))),
    )
plan_counts g next stop sent taken bytes (NoRoom room) ring whole some counts is =
    let free = free_counts g next stop sent taken ring counts in
    omega (arith, free, is.1, whole, counts.behind, counts.room)
plan_counts g next stop sent taken bytes TooLarge ring whole some counts is = omega
    (arith, is, ring.min_whole, ring.max_whole)

-- words one behind another, in the core's counts
words_of : (lay : Layout) (offset bytes n m : ℕ) → m ≡ n - lay.base → lay.base ≤ n
    → IsPieceOf (geometry_of lay) offset bytes m → AreWords lay offset bytes n
words_of lay offset bytes n m is low piece i within =
    let same : (n + i) - lay.base ≡ m + i = omega (arith, is, low) in
    let here : word_address lay (n + i) ≡ offset + 4 * i =
    ap (λ j. address ring_start (ring_dwords lay) j) same ∙ piece i within in
    (here, omega (arith, here))

-- the address of a word lies in the ring, and its cell is the dword there
pub address_is : (lay : Layout) (n : ℕ) → IsLayout lay
    → IsOffset (geometry_of lay) (word_address lay n) × (word_cell lay n ≡ word_address lay n / 4)
address_is lay n is =
    let some = some_dwords lay is in (
      record { whole = omega arith; least = omega arith; below = omega (arith, some.0, is.whole) },
      omega arith,
    )

-- The ring of a sound core:
module _ (k : Session) (c : Core) (o : IsSoundOfWords k c) where
  abbrev g : Geometry
  g = geometry_of c.driver.layout

  is_layout : IsLayout c.driver.layout
  is_layout = subst IsLayout (sym o.session.one_layout) o.session.layout

  low : c.driver.layout.base ≤ c.driver.stop
  low = subst (λ (lay : Layout). lay.base ≤ c.driver.stop) (sym o.session.one_layout) o.ring.base_known

  room : put_count c.driver < c.driver.stop + ring_dwords c.driver.layout
  room = subst (λ lay. put_count c.driver < c.driver.stop + ring_dwords lay) (sym o.session.one_layout)
      o.ring.room

  behind : c.driver.stop ≤ put_count c.driver
  behind = omega (arith, o.ring.known_stop, o.order.read_known, o.order.known_sent)

  -- it is a ring, with both offsets in it;
  pub ring_is : IsRing g × IsOffset g (next_offset c.driver) × IsOffset g (stop_offset c.driver)
  ring_is = (
    record {
      min_whole = omega arith;
      max_whole = is_layout.whole;
      some = omega (arith, is_layout.least);
      most = omega (arith, is_layout.most);
    },
    (address_is c.driver.layout (put_count c.driver) is_layout).0,
    (address_is c.driver.layout c.driver.stop is_layout).0,
  )

  -- these are counts of it, from its base on;
  counts : AreCounts g (next_offset c.driver) (stop_offset c.driver)
      (put_count c.driver - c.driver.layout.base)
      (c.driver.stop - c.driver.layout.base)
  counts = record {
    next_is = refl;
    stop_is = refl;
    behind = omega (arith, low, behind);
    room = omega (arith, low, behind, room);
  }

  pub free_is : free_bytes g (next_offset c.driver) (stop_offset c.driver)
      ≡ 4 * (ring_dwords c.driver.layout - (put_count c.driver - c.driver.stop))
  free_is = free_counts g _ _ _ _ ring_is.0 counts ∙ omega (arith, low, behind)

  pub advance_is : (bytes : ℕ) → IsWhole bytes → bytes < size_of g
      → offset_behind g (next_offset c.driver) bytes
      ≡ word_address c.driver.layout (put_count c.driver + bytes / 4)
  advance_is bytes whole small =
      behind_counts g _ (put_count c.driver - c.driver.layout.base) bytes ring_is.0 refl whole small
      ∙ ap (λ j. address ring_start (ring_dwords c.driver.layout) j) (omega (arith, low, behind))

  -- and a plan's words follow those that were put.
  fit : (bytes : ℕ)
      → LeavesRoom g bytes (put_count c.driver - c.driver.layout.base) (c.driver.stop - c.driver.layout.base)
      → Fit c.driver bytes
  fit bytes leaves i within = omega (arith, leaves, within, low, behind)

  pub plan_means : (bytes : ℕ) (planned : Planned) → IsWhole bytes → 0 < bytes
      → IsPlan g (next_offset c.driver) (stop_offset c.driver) bytes planned
      → MeansPlan c.driver bytes planned
  plan_means bytes planned whole some is =
      go planned is (plan_counts g _ _ _ _ bytes planned ring_is.0 whole some counts is) where
        go : (p : Planned) → IsPlan g (next_offset c.driver) (stop_offset c.driver) bytes p
            → HasPieces g (next_offset c.driver) bytes (put_count c.driver - c.driver.layout.base)
            (c.driver.stop - c.driver.layout.base) p
            → MeansPlan c.driver bytes p
        go InPlace plan has = (
          fit bytes has.0,
          words_of c.driver.layout (next_offset c.driver) bytes (put_count c.driver) _ refl
              (omega (arith, low, behind)) has.1,
        )
        go (Bounce first) plan has = (
          fit bytes has.0,
          words_of c.driver.layout (next_offset c.driver) first (put_count c.driver) _ refl
              (omega (arith, low, behind)) has.1,
          words_of c.driver.layout ring_start (bytes - first) (put_count c.driver + first / 4)
              ((put_count c.driver - c.driver.layout.base) + first / 4) (omega (arith, low, behind))
              (omega (arith, low, behind)) has.2,
        )
        go (NoRoom free) plan has = (omega (arith, has, low, behind), plan.2 ∙ free_is)
        go TooLarge plan has = has

-- What `reserve` answers, and when.
use Rattle.std.specs.Prelude.{◌≡◌, ◌≢◌, ℕ, ◌-◌, ◌<◌, ◌≤◌, [], Result, Ok, Err, min}
use Rattle.svga_ring.specs.RingPieces.{geometry_of}
use Rattle.svga_ring.specs.Rings.{size_of}
use Rattle.svga_ring.specs.Views.{DriverView}
use Rattle.svga_link.specs.Ends.{DriverSeen}
use Rattle.svga_link.specs.Reserving.{IsAligned, IsUnaligned, free_now, next_command, reserving}
use Rattle.svga_link.specs.Told.{StopTold}
use Rattle.svga_link.specs.declared.reserving.Reserved.{Reserved}
use Rattle.svga_link.specs.declared.reserving.ReserveFault.{ReserveFault}
use Rattle.svga_link.specs.declared.reserving.ReserveFault.TheVariants.{NoRoom, Reserving, TooLarge, Unaligned}

-- the bytes of the end's ring
abbrev pub ring_bytes : DriverSeen → ℕ
ring_bytes d = size_of (geometry_of d.view.layout)

-- so many bytes can be a reservation once there is room: they are whole words, fewer than the ring has, and
-- none is begun
pub record CanBegin (d : DriverSeen) (bytes : ℕ) : Type 0 where
  pub small : bytes < ring_bytes d
  pub aligned : IsAligned bytes
  pub none_begun : d.reserved ≡ 0

-- STOP was loaded, and by it so many bytes are free, which aren't enough
pub record HasNoRoom (d : DriverView) (bytes stop free : ℕ) (left : DriverView) : Type 0 where
  pub told : StopTold d left stop
  pub free_is : free ≡ free_now left
  pub too_few : free ≤ bytes

-- STOP was loaded, by it more bytes are free, and the reservation is begun
pub record IsBegun (d : DriverView) (bytes : ℕ) (r : Reserved) (left : DriverView) : Type 0 where
  pub loaded : DriverView
  pub stop : ℕ
  pub told : StopTold d loaded stop
  pub enough : bytes < free_now loaded
  pub left_is : left ≡ reserving loaded bytes
  pub bytes_are : r.bytes ≡ bytes
  pub at_is : r.at ≡ next_command d
  pub first_is : r.first ≡ min bytes (d.layout.max - r.at)

-- the answer once a reservation can begin
abbrev pub SeatAnswers : DriverView → ℕ → Result Reserved ReserveFault → DriverView → Type 0
SeatAnswers d bytes (Err (NoRoom stop free)) left = HasNoRoom d bytes stop free left
SeatAnswers d bytes (Err fault) left = ⊥
SeatAnswers d bytes (Ok r) left = IsBegun d bytes r left

-- The answer for so many bytes, and what it leaves. No two cases stand together.
abbrev pub ReserveAnswers : DriverSeen → ℕ → Result Reserved ReserveFault → DriverSeen → Type 0
ReserveAnswers d bytes (Err TooLarge) left = (ring_bytes d ≤ bytes) × (left ≡ d)
ReserveAnswers d bytes (Err Unaligned) left = (bytes < ring_bytes d) × IsUnaligned bytes × (left ≡ d)
ReserveAnswers d bytes (Err Reserving) left =
    (bytes < ring_bytes d) × IsAligned bytes × (d.reserved ≢ 0) × (left ≡ d)
ReserveAnswers d bytes (Err (NoRoom stop free)) left =
    CanBegin d bytes × HasNoRoom d.view bytes stop free left.view × (left ≡ record d { view = left.view })
ReserveAnswers d bytes (Ok r) left =
    CanBegin d bytes × IsBegun d.view bytes r left.view
    × (left ≡ record d { view = left.view; reserved = bytes; words = [] })

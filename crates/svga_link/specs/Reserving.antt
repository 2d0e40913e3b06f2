-- Reservations: what they are to a view, where their words stand until they are sent, and which command
-- they may be.
use Rattle.std.specs.Prelude.{◌≡◌, ◌≢◌, ℕ, ◌+◌, ◌%◌, ◌<◌, ◌≤◌, ◌^◌, ◌⊎◌, length, Bool, false, true, nat_le, if◌then◌else◌, List}
use Rattle.svga_cmd.specs.declared.command.Command.{Command}
use Rattle.svga_cmd.specs.declared.page.PageKey.{PageKey}
use Rattle.svga_cmd.specs.declared.session.Way.{Way}
use Rattle.svga_cmd.specs.declared.session.Way.TheVariants.{Dword, Reserve}
use Rattle.svga_cmd.specs.Spelling.{Spells}
use Rattle.std.specs.FinSet as set
use Rattle.svga_model.specs.Acts.{Do}
use Rattle.svga_model.specs.Faults.{IsAdmissible}
use Rattle.svga_model.specs.Runs.{run}
use Rattle.svga_model.specs.Touches.{Touches}
use Rattle.svga_ring.specs.Committed.{commands}
use Rattle.svga_ring.specs.Conditions.{IsNextFence, NoneOpen, first_state}
use Rattle.svga_ring.specs.Core.{put_count}
use Rattle.svga_ring.specs.Layouts.{ring_dwords, word_address}
use Rattle.svga_ring.specs.RingPieces.{geometry_of}
use Rattle.svga_ring.specs.Rings.{free_bytes}
use Rattle.svga_ring.specs.Views.{DriverView}
use Rattle.svga_link.specs.Told.{with_pending}

-- what RESERVED says while so many bytes are reserved
abbrev pub reserved_by : Way → ℕ → ℕ
reserved_by Reserve bytes = bytes
reserved_by Dword bytes = 0

-- a reservation is begun
abbrev pub reserving : DriverView → ℕ → DriverView
reserving d bytes = record d { reserved = reserved_by d.terms.way bytes }

-- the offset of NEXT_CMD
abbrev pub next_command : DriverView → ℕ
next_command d = word_address d.layout (length d.sent)

-- Its words are put straight into the ring: by reservations, where they don't wrap.
abbrev pub in_place_by : Way → Bool → Bool
in_place_by Reserve fits = fits
in_place_by Dword fits = false

abbrev pub goes_in_place : DriverView → ℕ → Bool
goes_in_place d bytes = in_place_by d.terms.way (nat_le (next_command d + bytes) d.layout.max)

-- what a word more in it makes of the view: it is pending at once where it is put in place
abbrev pub putting : DriverView → ℕ → ℕ → DriverView
putting d bytes word = if goes_in_place d bytes then with_pending d word else d

-- the bytes that are free by the last load of STOP
abbrev pub free_now : DriverView → ℕ
free_now d = free_bytes (geometry_of d.layout) (next_command d) (word_address d.layout d.stop)

-- no whole number of words, or none
abbrev pub IsUnaligned : ℕ → Type 0
IsUnaligned bytes = (bytes ≡ 0) ⊎ (bytes % 4 ≢ 0)

abbrev pub IsAligned : ℕ → Type 0
IsAligned bytes = (bytes ≢ 0) × (bytes % 4 ≡ 0)

-- The command that the words of a reservation spell may be committed: no request is open, it is admissible
-- after all acts, each page that it touches is lent, and a FENCE has the next number, within the window.
pub record MaySend (d : DriverView) (words : List ℕ) (c : Command) : Type 0 where
  pub spelled : Spells c words
  pub none_open : NoneOpen d
  pub admissible : IsAdmissible (run (first_state d) d.acts) (Do c)
  pub pages_lent : (key : PageKey) → Touches (run (first_state d) d.acts) (Do c) key
      → set.contains d.lent key ≡ true
  pub fence : IsNextFence d.terms.first (commands d.acts) d.seen c

-- so many words more fit into the ring, one by one
pub record HasRoom (d : DriverView) (count : ℕ) : Type 0 where
  pub runs : d.stopped ≡ false
  pub reserved : d.terms.way ≡ Reserve → d.reserved ≢ 0
  pub room : put_count d + count < d.stop + ring_dwords d.layout
  pub short : put_count d + count ≤ 2 ^ 62

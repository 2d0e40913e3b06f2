-- What is sound of the words: of those that are sent and taken, and of where they stand. Each sentence has a
-- name.
use Rattle.std.specs.Prelude.{◌≡◌, ◌≢◌, ◌⊎◌, ℕ, ◌+◌, ◌<◌, ◌≤◌, ◌^◌, List, [], ◌∷◌, ◌++◌, length, take, slice_index}
use Rattle.svga_cmd.specs.Spelling.{spelling}
use Rattle.svga_cmd.specs.declared.command.Command.{Command}
use Rattle.svga_cmd.specs.declared.limits.Limits.{Limits}
use Rattle.svga_cmd.specs.declared.session.Way.{Way}
use Rattle.svga_cmd.specs.declared.session.Way.TheVariants.{Reserve, Dword}
use Rattle.svga_model.specs.Sentences.{spelling_all}
use Rattle.svga_ring.specs.Layouts.{Layout, ring_dwords, ring_start, word_address, word_cell}
use Rattle.svga_ring.specs.Views.{Joined, Seats}
use Rattle.svga_ring.specs.SharedTable.{capabilities_word, fence_word, fifo_dwords, first_cell, max_word, min_word, next_word, reserved_word, stop_word, table_length}

-- a tail of the last command's spelling, which leaves out its first word at least
abbrev pub IsTail : List Command → List ℕ → Type 0
IsTail cs rest = (rest ≡ []) ⊎ ((front : List Command) × (c : Command) × (cs ≡ front ++ c ∷ [])
    × (length rest < length (spelling c)))

-- The words of the commands are sent in order, and taken command by command.
pub record AreInOrder (way : Way) (cs : List Command) (sent taken read : List ℕ) (done next : ℕ) : Type 0
  where
    -- taken and then read is a prefix of what is sent
    pub ahead : List ℕ
    pub read_follows_sent : sent ≡ (taken ++ read) ++ ahead
    -- what is taken is the spelling of so many whole commands
    pub done_low : done ≤ length cs
    pub taken_whole : taken ≡ spelling_all (take done cs)
    -- the device reads only what it knows to be sent, which is sent
    pub read_known : length taken + length read ≤ next
    pub known_sent : next ≤ length sent
    -- what is sent is the spelling of the commands, but for a tail of the last one, where the driver sends
    -- dword by dword
    pub rest : List ℕ
    pub acts_spelled : spelling_all cs ≡ sent ++ rest
    pub rest_is_tail : IsTail cs rest
    pub rest_by_dword : way ≡ Reserve → rest ≡ []

-- The words stand at their addresses, and one dword at least stays free.
pub record AreInRing (lay : Layout) (words sent pending taken : List ℕ) (stop : ℕ) : Type 0 where
  pub next_is : slice_index words next_word ≡ word_address lay (length sent)
  pub stop_is : slice_index words stop_word ≡ word_address lay (length taken)
  pub max_is : slice_index words max_word ≡ lay.max
  -- each word counted before the one at the ring's start is known to be taken
  pub base_known : lay.base ≤ stop
  pub known_stop : stop ≤ length taken
  pub room : length sent + length pending < stop + ring_dwords lay
  -- word i of those sent and pending stands in its cell until it is taken
  pub cells : (i : ℕ) → length taken ≤ i → i < length sent + length pending
      → slice_index words (word_cell lay i) ≡ slice_index (sent ++ pending) i
  -- each of them is a word of 32 bits
  pub dwords : (i : ℕ) → i < length sent + length pending → slice_index (sent ++ pending) i < 2 ^ 32
  -- counts of words fit 64 bits with room to spare
  pub short : length sent + length pending ≤ 2 ^ 62

-- a dword of the FIFO that is outside the ring and that no step stores to
pub record IsFixed (lay : Layout) (i : ℕ) : Type 0 where
  pub in_fifo : i < fifo_dwords
  pub not_in_ring : (i < first_cell) ⊎ (first_cell + ring_dwords lay ≤ i)
  pub not_max : i ≢ max_word
  pub not_next : i ≢ next_word
  pub not_stop : i ≢ stop_word
  pub not_fence : i ≢ fence_word
  pub not_reserved : i ≢ reserved_word

-- what CAPABILITIES says: by dword without the bit for reservations
abbrev pub capabilities : Way → ℕ
capabilities Reserve = 449
capabilities Dword = 385

-- MIN, CAPABILITIES and all other dwords that no step stores to are as they were opened, and the table is as
-- long.
pub record AreFixed (l : Limits) (way : Way) (lay : Layout) (words : List ℕ) : Type 0 where
  pub length_is : length words ≡ table_length l
  pub min_is : slice_index words min_word ≡ ring_start
  pub capabilities_are : slice_index words capabilities_word ≡ capabilities way
  pub others : (i : ℕ) → IsFixed lay i → i ≢ min_word → i ≢ capabilities_word → slice_index words i ≡ 0

-- What the driver knows to be taken are whole commands.
pub record IsKnownWhole (cs : List Command) (done stop passed : ℕ) : Type 0 where
  pub passed_low : passed ≤ done
  pub stop_is : stop ≡ length (spelling_all (take passed cs))

-- The last values loaded of STOP and NEXT_CMD are the addresses of what is known by them; once the seats are
-- joined, the driver knows what is taken without a load.
pub record AreLastLoaded (seats : Seats) (driver device : Layout) (stop next last_stop last_next : ℕ) : Type
    0 where
  pub stop_is : seats ≢ Joined → last_stop ≡ word_address driver stop
  pub next_is : last_next ≡ word_address device next

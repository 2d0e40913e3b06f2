-- What a driver asks of a device beside commands: a descriptor chain for a region, or another end of the
-- ring.
use Rattle.std.specs.Prelude.{◌≡◌, ℕ, ◌+◌, ◌*◌, ◌/◌, ◌%◌, ◌<◌, ◌^◌, ◌==◌, nat_le, Bool, true, not, ◌&&◌}

-- a request: its number, the region, and the chain's first page
pub record Request : Type 0 where
  pub number : ℕ
  pub id : ℕ
  pub descriptor : ℕ

-- its parts fit their places in a word
pub record IsRequest (r : Request) : Type 0 where
  pub number_fits : r.number < 2 ^ 20
  pub id_fits : r.id < 2 ^ 12
  pub descriptor_fits : r.descriptor < 2 ^ 32

-- the word that a request is stored as
abbrev pub request_value : Request → ℕ
request_value r = r.number * 2 ^ 44 + r.id * 2 ^ 32 + r.descriptor

-- the request that a word stands for
abbrev pub request_of : ℕ → Request
request_of word = record { number = word / 2 ^ 44; id = word / 2 ^ 32 % 2 ^ 12; descriptor = word % 2 ^ 32 }

-- before the first request
abbrev pub no_request : Request
no_request = record { number = 0; id = 0; descriptor = 0 }

-- the request behind another one: it has the next number, of twenty bits
abbrev pub next_request : Request → ℕ → ℕ → Request
next_request r id descriptor = record { number = (r.number + 1) % 2 ^ 20; id = id; descriptor = descriptor }

-- it asks for another end of the ring: no chain has such a first page
abbrev pub is_ring_request : Request → Bool
is_ring_request r = r.id == 0 && nat_le (2 ^ 31) r.descriptor

-- it asks for a chain and is out: its number isn't the last one that was answered
abbrev pub is_chain_out : Request → ℕ → Bool
is_chain_out r answered = not (r.number == answered) && not (is_ring_request r)

abbrev pub IsChainOut : Request → ℕ → Type 0
IsChainOut r answered = is_chain_out r answered ≡ true

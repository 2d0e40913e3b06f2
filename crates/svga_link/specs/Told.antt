-- What the calls of the ends tell, and what they make of a view.
use Rattle.std.specs.Prelude.{◌≡◌, ℕ, ◌+◌, ◌<◌, ◌≤◌, List, [], ◌∷◌, ◌++◌, length, take, false}
use Rattle.std.specs.FinMap as map
use Rattle.svga_cmd.specs.declared.command.Command.{Command}
use Rattle.svga_cmd.specs.declared.session.Way.{Way}
use Rattle.svga_cmd.specs.declared.session.Way.TheVariants.{Dword, Reserve}
use Rattle.svga_model.specs.Acts.{Do}
use Rattle.svga_model.specs.Sentences.{spelling_all}
use Rattle.svga_model.specs.Steps.{step}
use Rattle.svga_ring.specs.Committed.{commands}
use Rattle.svga_ring.specs.Layouts.{ring_dwords, word_address}
use Rattle.svga_ring.specs.Noting.{known_state}
use Rattle.svga_ring.specs.Views.{DeviceView, DriverView, loaded}

-- STOP was loaded: so many words, which are so many whole commands, are taken; no fewer than were known
-- before
pub record StopTold (before after : DriverView) (found : ℕ) : Type 0 where
  pub stop : ℕ
  pub passed : ℕ
  pub view : after
      ≡ record before { stop = stop; passed = passed; stop_loads = loaded before.stop_loads found }
  pub address : found ≡ word_address before.layout stop
  pub least : before.stop ≤ stop
  pub most : stop ≤ length before.sent
  pub some : passed ≤ length (commands before.acts)
  pub whole : stop ≡ length (spelling_all (take passed (commands before.acts)))

-- NEXT_CMD was loaded: so many words are sent, no fewer than were known before
pub record NextTold (before after : DeviceView) (found : ℕ) : Type 0 where
  pub next : ℕ
  pub view : after
      ≡ record before {
        next = next;
        next_loads = loaded before.next_loads found;
        drained = before.saw_stopped;
      }
  pub address : found ≡ word_address before.layout next
  pub least : before.next ≤ next
  pub most : next < before.next + ring_dwords before.layout

-- a word more is pending
abbrev pub with_pending : DriverView → ℕ → DriverView
with_pending d word = record d { pending = d.pending ++ word ∷ [] }

-- these words are
abbrev pub with_all_pending : DriverView → List ℕ → DriverView
with_all_pending d words = record d { pending = d.pending ++ words }

-- so many bytes are reserved
abbrev pub with_reserved : DriverView → ℕ → DriverView
with_reserved d bytes = record d { reserved = bytes }

-- the pending words are sent, and their command is committed
abbrev pub sending : DriverView → Command → DriverView
sending d command = record d {
  acts = d.acts ++ Do command ∷ [];
  sent = d.sent ++ d.pending;
  pending = [];
  next_stores = d.next_stores + 1;
}

-- the pending words are sent, which are more of the last command
abbrev pub sending_more : DriverView → DriverView
sending_more d = record d { sent = d.sent ++ d.pending; pending = []; next_stores = d.next_stores + 1 }

-- how often NEXT_CMD is stored for so many words
abbrev pub store_count : Way → ℕ → ℕ
store_count Reserve count = 1
store_count Dword count = count

-- these words are sent, which spell the command, and nothing is reserved any more
abbrev pub committed : DriverView → Command → List ℕ → DriverView
committed d command words = record d {
  acts = d.acts ++ Do command ∷ [];
  sent = d.sent ++ words;
  pending = [];
  reserved = 0;
  next_stores = d.next_stores + store_count d.terms.way (length words);
}

-- a word more is read
abbrev pub with_read : DeviceView → ℕ → DeviceView
with_read e word = record e { read = e.read ++ word ∷ [] }

-- the command that was read is taken, and what is kept is its step further
abbrev pub served : DeviceView → Command → DeviceView
served e command = record e {
  taken = e.taken ++ e.read;
  read = [];
  done = e.done + 1;
  kept = (step (known_state e) (Do command)).kept;
  noted = map.empty;
  stored = false;
}

-- What is left of a session that is closed, and when it is what a script means.
use Rattle.std.specs.Prelude.{◌≡◌, ℕ, List, length}
use Rattle.svga_cmd.specs.Pages.{Memory}
use Rattle.svga_cmd.specs.declared.constants.TheConstants.{RING_START}
use Rattle.svga_cmd.specs.declared.command.Command.{Command}
use Rattle.svga_cmd.specs.declared.session.Session.{Session}
use Rattle.svga_cmd.specs.declared.session.Way.{Way}
use Rattle.svga_cmd.specs.declared.session.Way.TheVariants.{Dword, Reserve}
use Rattle.svga_model.specs.Acts.{Act}
use Rattle.svga_model.specs.Addresses.{address, dwords_between}
use Rattle.svga_model.specs.Meanings.{Meaning}
use Rattle.svga_model.specs.Sentences.{spelling_all}
use Rattle.svga_model.specs.States.{Kept}

-- the words sent and taken, the acts, what the device kept, five words of the table, how
-- often NEXT_CMD was stored, and all pages
pub record Closed : Type 0 where
  pub sent : List ℕ
  pub taken : List ℕ
  pub acts : List Act
  pub kept : Kept
  pub max : ℕ
  pub next_cmd : ℕ
  pub stop : ℕ
  pub fence : ℕ
  pub config : ℕ
  pub next_stores : ℕ
  pub pages : Memory

-- How often NEXT_CMD is stored for these commands: once for each where they are
-- reserved, else once behind each word.
abbrev pub stores_of : Way → List Command → ℕ
stores_of Reserve cs = length cs
stores_of Dword cs = length (spelling_all cs)

-- The device executed each of the meaning's commands once, whole and in
-- order, and all is left as they leave it.
pub record IsMeant (session : Session) (m : Meaning) (c : Closed) : Type 0 where
  pub sent : c.sent ≡ spelling_all m.client.commands
  pub taken : c.taken ≡ spelling_all m.client.commands
  pub pages : c.pages ≡ m.client.state.memory
  pub kept : c.kept ≡ m.client.state.kept
  pub max : c.max ≡ session.ring
  pub fence : c.fence ≡ m.client.state.kept.fence
  pub next_cmd : c.next_cmd ≡ address RING_START (dwords_between RING_START session.ring) (length c.sent)
  pub stop : c.stop ≡ address RING_START (dwords_between RING_START session.ring) (length c.sent)
  pub config : c.config ≡ 0
  pub next_stores : c.next_stores ≡ stores_of session.way m.client.commands

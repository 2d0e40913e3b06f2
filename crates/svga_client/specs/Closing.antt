-- What a link that is closed says of its session.
use Rattle.std.specs.Prelude.{◌≡◌, length, None, IsSome}
use Rattle.svga_client.specs.Following.{Known}
use Rattle.svga_cmd.specs.Pages.{page_at}
use Rattle.svga_cmd.specs.declared.constants.TheConstants.{RING_START}
use Rattle.svga_cmd.specs.declared.page.PageKey.{PageKey}
use Rattle.svga_cmd.specs.declared.session.Session.{Session}
use Rattle.svga_model.specs.Addresses.{address, dwords_between}
use Rattle.svga_model.specs.Closings.{Closed, stores_of}
use Rattle.svga_model.specs.Fences.{fences, register_after}
use Rattle.svga_model.specs.Sentences.{spelling_all}
use Rattle.svga_model.specs.States.{State}
use Rattle.svga_ring.specs.Committed.{commands}

-- All that was sent was taken; the state is that of a run of all acts, and pages that are with the driver are
-- as they are there.
pub record IsClosed (session : Session) (k : Known) (s : State) (c : Closed) : Type 0 where
  pub sent : c.sent ≡ spelling_all (commands k.acts)
  pub taken : c.taken ≡ c.sent
  pub acts : c.acts ≡ k.acts
  pub kept : c.kept ≡ s.kept
  pub lent_pages : (key : PageKey) → page_at k.own key ≡ None → page_at c.pages key ≡ page_at s.memory key
  pub own_pages : (key : PageKey) → IsSome (page_at k.own key) → page_at c.pages key ≡ page_at k.own key
  pub max : c.max ≡ session.ring
  pub fence : c.fence ≡ register_after session.first (length (fences (commands k.acts)))
  pub next_cmd : c.next_cmd ≡ address RING_START (dwords_between RING_START session.ring) (length c.sent)
  pub stop : c.stop ≡ address RING_START (dwords_between RING_START session.ring) (length c.sent)
  pub config : c.config ≡ 0
  pub next_stores : c.next_stores ≡ stores_of session.way (commands k.acts)

-- A session that is closed is what its client's calls mean.
use Rattle.std.proofs.Common.{◌≡◌, length, sym, ap, ◌∙◌}
use Rattle.svga_client.proofs.ClientOfLaws.{all_pages}
use Rattle.svga_client.specs.Closing.{IsClosed}
use Rattle.svga_client.specs.Following.{IsFollowed, Known, state_of}
use Rattle.svga_cmd.specs.declared.limits.Limits.{Limits}
use Rattle.svga_cmd.specs.declared.session.Session.{Session}
use Rattle.svga_model.specs.Clients.{HasFence}
use Rattle.svga_model.specs.Closings.{Closed, IsMeant, stores_of}
use Rattle.svga_model.specs.Fences.{fences, register_after}
use Rattle.svga_model.specs.Meanings.{Meaning}
use Rattle.svga_model.specs.Sentences.{spelling_all}

pub closes : (l : Limits) (session : Session) (m : Meaning) (k : Known) (c : Closed) → IsFollowed l m.client k
    → HasFence m.client → session.first ≡ m.client.first
    → IsClosed session k (state_of l m.client k) c → IsMeant session m c
closes l session m k c o fence first is = record {
  sent = is.sent ∙ ap spelling_all (sym o.commands_are);
  taken = is.taken ∙ is.sent ∙ ap spelling_all (sym o.commands_are);
  pages = all_pages o c.pages is.lent_pages is.own_pages;
  kept = is.kept ∙ sym o.state.kept;
  max = is.max;
  fence = is.fence ∙ (λ i. register_after (first i) (length (fences (sym o.commands_are i)))) ∙ sym fence;
  next_cmd = is.next_cmd;
  stop = is.stop;
  config = is.config;
  next_stores = is.next_stores ∙ ap (stores_of session.way) (sym o.commands_are);
}

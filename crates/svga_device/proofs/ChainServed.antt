-- A chain is served: from the pages that were held to those that were given back.
use Rattle.std.proofs.Common.{◌≡◌, ◌≢◌, List, ℕ, true, false, inl, inr, sym, ap, subst, ◌∙◌, Option, None, is_some}
use Rattle.std.specs.FinMap as map
use mathlib.Core.Bool.{true≢false}
use Rattle.svga_cmd.specs.Pages.{HasPage, Memory, page_at}
use Rattle.svga_cmd.specs.declared.page.PageKey.{PageKey}
use Rattle.svga_link.specs.Holding.{replied}
use Rattle.svga_model.specs.States.{Kept, State}
use Rattle.svga_model.specs.Steps.{step}
use Rattle.svga_model.specs.Touches.{Touches}
use Rattle.svga_ring.specs.Conditions.{IsChainServed}
use Rattle.svga_ring.specs.Core.{chain_of}
use Rattle.svga_ring.specs.Noting.{given_back, holds, known_state}
use Rattle.svga_ring.specs.Requests.{Request, is_ring_request}
use Rattle.svga_ring.specs.Views.{DeviceView}
use Rattle.svga_device.specs.Chains.{IsChainRun, answered_with}
use Rattle.svga_device.specs.Serving.{IsBack, IsGiving, IsHolding}

gone_is_back : (before now : Option (List ℕ)) (back : Option (List ℕ)) → now ≡ None → IsBack before now back
    → back ≡ before
gone_is_back before now back gone (inl b) = b.1 ∙ sym gone ∙ b.0
gone_is_back before now back gone (inr b) = b.1

some_not : (o : Option (List ℕ)) → is_some o ≡ true → o ≢ None
some_not o has e = true≢false (sym has ∙ ap is_some e)

-- All of it: the pages were held, the chain ran on them, and all of them were given back.
module _ (first e1 e2 : DeviceView) (held left : Memory) (after : Kept) (h : IsHolding first e1 held)
    (ran : IsChainRun first.kept held first.wanted after) (g : IsGiving e1 e2 held left)
    (gone : (key : PageKey) → page_at left key ≡ None) where
  pub view_after : e2 ≡ record first { noted = e2.noted }
  view_after = g.view ∙ ap {A = DeviceView} {B = DeviceView} (λ e. record e { noted = e2.noted }) h.view

  wanted : e2.wanted ≡ first.wanted
  wanted = ap (λ (e : DeviceView). e.wanted) view_after

  -- the device knows the state that the chain ran on
  known : ◌≡◌ {A = State} (known_state e2) (record { kept = first.kept; memory = held })
  known = λ i. record { kept = ap (λ (e : DeviceView). e.kept) view_after i; memory = (g.noted_is ∙ h.noted_is) i }

  back : (key : PageKey) → given_back e2.noted key ≡ page_at held key
  back key = gone_is_back (page_at held key) (page_at left key) (given_back e2.noted key) (gone key) (g.each key)

  touched : (key : PageKey) → Touches (known_state e2) (chain_of e2.wanted) key → HasPage held key
  touched key on = ran.there key (subst (λ s. Touches s (chain_of first.wanted) key) known
      (subst (λ (r : Request). Touches (known_state e2) (chain_of r) key) wanted on))

  pub is_served : first.wanted.number ≢ first.answered → is_ring_request first.wanted ≡ false
      → ((key : PageKey) → holds e2.noted key ≡ false) → IsChainServed e2
  is_served waits no_ring none_held = record {
    waits = subst (λ (e : DeviceView). e.wanted.number ≢ e.answered) (sym view_after) waits;
    no_ring = subst (λ (r : Request). is_ring_request r ≡ false) (sym wanted) no_ring;
    none_held = none_held;
    given = λ key on. back key ∙ sym (ap (λ (s : State). page_at s.memory key) known);
    all_given = λ key on. some_not (given_back e2.noted key) (ap is_some (back key) ∙ touched key on);
  }

  pub kept_after : (step (known_state e2) (chain_of e2.wanted)).kept ≡ after
  kept_after = (λ i. (step (known i) (chain_of (wanted i))).kept) ∙ sym ran.stepped

  -- once the reply is stored
  pub answered_is : replied e2 ≡ answered_with first after
  answered_is =
      λ i. record (view_after i) { kept = kept_after i; noted = map.empty; answered = (view_after i).wanted.number }

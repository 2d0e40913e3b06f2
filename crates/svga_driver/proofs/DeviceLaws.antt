-- A device's end that takes a FENCE, and answers a chain that has no table page.
use Rattle.std.proofs.Common.{◌≡◌, ℕ, [], true, false, sym, ap, subst, ◌∙◌, Some}
use Rattle.std.specs.FinMap as map
use Rattle.std.specs.FinMap.{get-empty}
use Rattle.svga_cmd.specs.Pages.{key_cmp}
use Rattle.svga_cmd.specs.Spelling.{Spells}
use Rattle.svga_cmd.specs.declared.command.Command.{Command}
use Rattle.svga_cmd.specs.declared.command.Command.TheVariants.{Fence}
use Rattle.svga_cmd.specs.declared.page.PageKey.{PageKey}
use Rattle.svga_link.specs.Ends.{DeviceSeen}
use Rattle.svga_link.specs.Holding.{RequestTold}
use Rattle.svga_link.specs.Told.{served}
use Rattle.svga_link.specs.declared.requests.Request.{Request as Found}
use Rattle.svga_model.specs.Acts.{Chain, Do}
use Rattle.svga_model.specs.States.{State}
use Rattle.svga_model.specs.Touches.{Touches, has_page}
use Rattle.svga_ring.specs.Conditions.{IsChainServed, IsServed}
use Rattle.svga_ring.specs.Noting.{holds, is_held_now, known_state}
use Rattle.svga_ring.specs.Views.{DeviceView}

-- a FENCE touches no page
fence_alone : (s : State) (value : ℕ) (key : PageKey) → Touches s (Do (Fence value)) key → ⊥
unfolding has_page
fence_alone s value key touched = cc

-- no page is held where none is noted
none_held : (e : DeviceView) → e.noted ≡ map.empty → (key : PageKey) → holds e.noted key ≡ false
none_held e none key = ap (λ m. is_held_now (map.get m key)) none ∙ ap is_held_now (get-empty key_cmp key)

pub fence_served : (e : DeviceView) (value : ℕ) → Spells (Fence value) e.read → e.noted ≡ map.empty
    → e.stored ≡ true → IsServed e (Fence value)
fence_served e value spells none stored = record {
  read_whole = spells;
  none_held = none_held e none;
  given = λ key touched. absurd (fence_alone (known_state e) value key touched);
  all_given = λ key touched. absurd (fence_alone (known_state e) value key touched);
  fence = λ other is. stored;
}

-- what is left once it is taken
pub none_left : (d left : DeviceSeen) (value : ℕ) → Spells (Fence value) d.view.read
    → ((command : Command) → Spells command d.view.read
    → left ≡ record d { view = served d.view command })
    → (left.view.read ≡ []) × (left.view.noted ≡ map.empty)
none_left d left value spells is = (
  ap (λ (x : DeviceSeen). x.view.read) (is (Fence value) spells),
  ap (λ (x : DeviceSeen). x.view.noted) (is (Fence value) spells),
)

-- nor does a chain by page 0
chain_alone : (s : State) (id : ℕ) (key : PageKey) → Touches s (Chain id 0) key → ⊥
chain_alone s id key touched = cc

pub chain_served : (d left : DeviceView) (found : Found) → d.noted ≡ map.empty
    → RequestTold d left (Some found) → found.descriptor ≡ 0 → IsChainServed left
chain_served d left found none told zero =
    subst IsChainServed (sym told.told.view) (record {
      waits = told.answers.0;
      no_ring = told.told.no_ring;
      none_held = none_held d none;
      given = λ key touched. absurd (untouched key touched);
      all_given = λ key touched. absurd (untouched key touched);
    })
  where
    untouched : (key : PageKey) → Touches (known_state d) (Chain told.request.id told.request.descriptor) key → ⊥
    untouched key touched = chain_alone (known_state d) told.request.id key
        (subst (λ p. Touches (known_state d) (Chain told.request.id p) key)
        (sym told.answers.1.descriptor_is ∙ zero) touched)

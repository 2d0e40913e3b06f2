-- What a device has while it holds pages for a command, and while it gives them back.
use Rattle.std.specs.Prelude.{◌≡◌, ◌⊎◌, ℕ, ◌+◌, List, [], ◌++◌, Option, None, false}
use Rattle.std.specs.FinMap as map
use Rattle.std.specs.List.{Contains}
use Rattle.svga_cmd.specs.Pages.{HasPage, IsKey, Memory, page_at}
use Rattle.svga_cmd.specs.declared.command.Command.{Command}
use Rattle.svga_cmd.specs.declared.limits.Limits.{Limits}
use Rattle.svga_cmd.specs.declared.page.PageKey.{PageKey}
use Rattle.svga_machine.specs.Effects.{IsEffect}
use Rattle.svga_machine.specs.declared.effect.Effect.{Effect}
use Rattle.svga_model.specs.Acts.{Do}
use Rattle.svga_model.specs.States.{Kept, State}
use Rattle.svga_model.specs.Steps.{step}
use Rattle.svga_ring.specs.Noting.{first_held, given_back}
use Rattle.svga_ring.specs.Views.{DeviceView}

-- Since the first view pages were held, each as it was found, and none was given back: they are the pages
-- that are noted.
pub record IsHolding (first e : DeviceView) (pages : Memory) : Type 0 where
  pub view : e ≡ record first { noted = e.noted }
  pub noted_is : first_held e.noted ≡ pages
  pub none_back : (key : PageKey) → given_back e.noted key ≡ None

-- each page that is there is listed, and pages of the device alone are
pub record AreListed (l : Limits) (pages : Memory) (keys : List PageKey) : Type 0 where
  pub each : (key : PageKey) → Contains keys key → IsKey l key
  pub all : (key : PageKey) → HasPage pages key → Contains keys key

-- a page is still as it was, or is gone and given back so
abbrev pub IsBack : Option (List ℕ) → Option (List ℕ) → Option (List ℕ) → Type 0
IsBack before now back = ((now ≡ before) × (back ≡ None)) ⊎ ((now ≡ None) × (back ≡ before))

-- since the first view, pages were given back
pub record IsGiving (first e : DeviceView) (before pages : Memory) : Type 0 where
  pub view : e ≡ record first { noted = e.noted }
  pub noted_is : first_held e.noted ≡ first_held first.noted
  pub each : (key : PageKey) → IsBack (page_at before key) (page_at pages key) (given_back e.noted key)

-- the command that was read is taken, and this is kept
abbrev pub taken_with : DeviceView → Kept → DeviceView
taken_with e kept = record e {
  taken = e.taken ++ e.read;
  read = [];
  done = e.done + 1;
  kept = kept;
  noted = map.empty;
  stored = false;
}

-- what a command left of what was kept, on the pages that it touched, and its effect
pub record IsRun (before : Kept) (c : Command) (effect : Effect) (left : Kept) : Type 0 where
  pub pages : Memory
  pub pages_left : Memory
  pub stepped : ◌≡◌ {A = State} (record { kept = left; memory = pages_left })
      (step (record { kept = before; memory = pages }) (Do c))
  pub effect_is : IsEffect (record { kept = before; memory = pages }) c effect

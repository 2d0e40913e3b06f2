-- What telling a head of a change does.
use Rattle.std.specs.Prelude.{◌≡◌, ℕ, ◌<◌, ◌≤◌, All, length, is_some, IsErrOf, OnOk, option_map, Result, IfSome, IsSome, ⊤}
use Rattle.std.specs.FinMap as map
use Rattle.svga_cmd.specs.Limits.{IsBetween}
use Rattle.svga_cmd.specs.declared.constants.TheConstants.{COLOURS, MAX_SCREEN_ID, MAX_SCREEN_SIDE}
use Rattle.svga_io.specs.Rising.{Rises}
use Rattle.svga_model.specs.Pictures.{Pictures}
use Rattle.svga_head.specs.declared.change.Change.{Change}
use Rattle.svga_head.specs.declared.change.Change.TheVariants.{Show, Hide, Paint}
use Rattle.svga_head.specs.declared.fault.HeadFault.{HeadFault}
use Rattle.svga_head.specs.declared.fault.HeadFault.TheVariants.{Failed, Memory}
use Rattle.svga_head.specs.Changes.{IsOnPicture}
use Rattle.svga_head.specs.HeadStates.{HeadState}

-- what a head answers
abbrev pub Answer : Type 0
Answer = Result ⊤ HeadFault

-- A head was told of a change and answered. After Ok its pictures are changed so, where it tells them. A
-- fault comes only where the head's count for it rose. No count falls, and whether the head tells its
-- pictures never changes.
pub record IsTold (change : Pictures → Pictures) (before now : HeadState) (answer : Answer) : Type 0 where
  pub shows : OnOk answer (now.pictures ≡ option_map change before.pictures)
  pub told : is_some now.pictures ≡ is_some before.pictures
  pub faults : before.faults ≤ now.faults
  pub refusals : before.refusals ≤ now.refusals
  pub failed : IsErrOf answer Failed → Rises before.faults now.faults
  pub memory : IsErrOf answer Memory → Rises before.refusals now.refusals

-- where the head tells its pictures, there is one of this id
abbrev pub MayHide : ℕ → HeadState → Type 0
MayHide id head = IfSome head.pictures (λ pictures. IsSome (map.get pictures id))

-- where the head tells its pictures, so many colours from (x, y) on lie on that of this id
abbrev pub MayPaint : ℕ → ℕ → ℕ → ℕ → HeadState → Type 0
MayPaint id x y len head = IfSome head.pictures (λ pictures. IsOnPicture (map.get pictures id) x y len)

-- the head may be told of the change
abbrev pub MayTell : Change → HeadState → Type 0
MayTell (Show id width height) head =
    (id ≤ MAX_SCREEN_ID) × (IsBetween 1 MAX_SCREEN_SIDE width × IsBetween 1 MAX_SCREEN_SIDE height)
MayTell (Hide id) head = MayHide id head
MayTell (Paint id x y colours) head =
    All (λ c. c < COLOURS) colours.now × MayPaint id x y (length colours.now) head

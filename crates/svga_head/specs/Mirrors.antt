-- What contracts see of heads in memory, and what they answer.
use Rattle.std.specs.Prelude.{◌≡◌, ◌↔◌, ℕ, List, Contains, Option, None, Some, IsErrOf, IsOkUnless, OnErr, OnOk, refl, slice_index_or}
use Rattle.std.specs.Coded.{Coded, code_by, coded×, coded_ℕ, coded_list}
use Rattle.std.specs.FinMap as map
use Rattle.svga_cmd.specs.declared.constants.TheConstants.{SCREEN_IDS}
use Rattle.svga_io.specs.Rising.{one_more}
use Rattle.svga_model.specs.Pictures.{Pictures, coded_pictures}
use Rattle.svga_model.specs.Tabulated.{tabulated}
use Rattle.svga_head.specs.declared.fault.HeadFault.TheVariants.{Failed, Memory}
use Rattle.svga_head.specs.HeadStates.{HeadState}
use Rattle.svga_head.specs.Telling.{Answer, IsTold}

-- the pictures in slots: slot id has that of id
abbrev pub pictures_in : List (Option (List (List ℕ))) → Pictures
pictures_in slots = tabulated SCREEN_IDS (λ id. slice_index_or slots id None)

-- a mirror: its pictures, and how often it was refused memory
pub record MirrorState : Type 0 where
  pub pictures : Pictures
  pub refusals : ℕ

-- a flaky head: its mirror, the calls made so far, the numbers of those that fail, and the faults so far
pub record FlakyState : Type 0 where
  pub mirror : MirrorState
  pub calls : ℕ
  pub failing : List ℕ
  pub faults : ℕ

-- a mirror that shows nothing yet, and a flaky head some of whose calls will fail
abbrev pub new_mirror : MirrorState
new_mirror = record { pictures = map.empty; refusals = 0 }

abbrev pub new_flaky : List ℕ → FlakyState
new_flaky failing = record { mirror = new_mirror; calls = 0; failing = failing; faults = 0 }

-- the codes of both, by which a type that is seen as them tells its values apart
abbrev pub coded_mirror_state : Coded MirrorState
coded_mirror_state = code_by (Pictures × ℕ)
    (coded× coded_pictures coded_ℕ)
    (λ m. (m.pictures, m.refusals))
    (λ p. record { pictures = p.0; refusals = p.1 })
    (λ _. refl)

abbrev pub coded_flaky_state : Coded FlakyState
coded_flaky_state = code_by (MirrorState × (ℕ × (List ℕ × ℕ)))
    (coded× coded_mirror_state (coded× coded_ℕ (coded× (coded_list coded_ℕ) coded_ℕ)))
    (λ f. (f.mirror, (f.calls, (f.failing, f.faults))))
    (λ p. record { mirror = p.0; calls = p.1.0; failing = p.1.1.0; faults = p.1.1.1 })
    (λ _. refl)

-- a flaky head once a call was counted
abbrev pub counted : FlakyState → FlakyState
counted f = record f { calls = one_more f.calls }

-- a mirror with its pictures changed so, and one that was refused memory
abbrev pub with_pictures : (Pictures → Pictures) → MirrorState → MirrorState
with_pictures change m = record m { pictures = change m.pictures }

abbrev pub refused : MirrorState → MirrorState
refused m = record m { refusals = one_more m.refusals }

-- what is seen of them as heads: both tell their pictures, and a mirror never fails
abbrev pub mirror_head : MirrorState → HeadState
mirror_head m = record { pictures = Some m.pictures; faults = 0; refusals = m.refusals }

abbrev pub flaky_head : FlakyState → HeadState
flaky_head f = record { pictures = Some f.mirror.pictures; faults = f.faults; refusals = f.mirror.refusals }

-- A mirror was told of a change and answered: it has made the change, or was refused memory and counts that.
pub record IsMirrorTold (change : Pictures → Pictures) (before now : MirrorState) (r : Answer) : Type 0 where
  pub head : IsTold change (mirror_head before) (mirror_head now) r
  pub ok : OnOk r (now ≡ with_pictures change before)
  pub err : OnErr r (now ≡ refused before)
  pub one : IsOkUnless r Memory

-- A flaky head was told of a change and answered: the calls whose numbers are listed fail, and no other. Each
-- call is counted, and one that doesn't fail does as the mirror does.
pub record IsFlakyTold (change : Pictures → Pictures) (before now : FlakyState) (r : Answer) : Type 0 where
  pub head : IsTold change (flaky_head before) (flaky_head now) r
  pub fails : IsErrOf r Failed ↔ Contains before.failing before.calls
  pub ok : OnOk r (now ≡ record (counted before) { mirror = with_pictures change before.mirror })
  pub failed : IsErrOf r Failed → now ≡ record (counted before) { faults = one_more before.faults }
  pub memory : IsErrOf r Memory → now ≡ record (counted before) { mirror = refused before.mirror }

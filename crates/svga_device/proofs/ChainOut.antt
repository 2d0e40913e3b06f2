-- What is known of a chain that a device loaded and hasn't answered.
use Rattle.std.proofs.Common.{◌≡◌, ◌≢◌, ◌≤◌, ◌<◌, ◌∷◌, ◌&&◌, ◌==◌, arith, ℕ, List, [], Bool, true, false, nat_le, nat_lt, Option, Some, None, is_some, unwrap_or, refl, sym, ap, subst, ◌∙◌}
use Rattle.std.proofs.lemmas.Bool.Decides.{nat_tests}
use Rattle.std.specs.FinMap as map
use Rattle.svga_cmd.specs.Pages.{HasPage, Memory, page_at}
use Rattle.svga_cmd.specs.declared.command.Command.TheVariants.{DefineGmr2}
use Rattle.svga_cmd.specs.declared.fault.Fault.{Fault}
use Rattle.svga_cmd.specs.declared.fault.Fault.TheVariants as fault
use Rattle.svga_cmd.specs.declared.page.PageKey.{PageKey}
use Rattle.svga_decode.specs.DecoderStates.{DecoderState}
use Rattle.svga_link.specs.Ends.{DeviceSeen}
use Rattle.svga_link.specs.Holding.{HasNumbers, RequestTold}
use Rattle.svga_link.specs.Seats.{IsDevicePossible}
use Rattle.svga_link.specs.declared.requests.Request as given
use Rattle.svga_machine.specs.MachineSet.{MachineSet, state_with}
use Rattle.svga_model.proofs.ValidRules.{not_over}
use Rattle.svga_model.specs.Acts.{Do}
use Rattle.svga_model.specs.Faults.{IsAdmissible, act_tests, fault_of}
use Rattle.svga_model.specs.Regions.{place_count, places_with}
use Rattle.svga_model.specs.Sentences.{IsCommandBegun}
use Rattle.svga_model.specs.Standing.{first_standing, least_standing}
use Rattle.svga_model.specs.States.{Kept, State, opening_state}
use Rattle.svga_model.specs.Touches.{Touches}
use Rattle.svga_model.specs.ValidStates.{IsKept}
use Rattle.svga_model.specs.Walks.{start_tests}
use Rattle.svga_region.specs.WholeChains.{fault_of_chain}
use Rattle.svga_ring.proofs.Acts.ChainWalks.{IsChainWithin, chain_within}
use Rattle.svga_ring.proofs.Pages.Noted.{noted_page}
use Rattle.svga_ring.proofs.Requests.Replies.{asked_admits, chain_alone, known_admits, request_out, settled_is}
use Rattle.svga_ring.proofs.Requests.Words.{wanted_is}
use Rattle.svga_ring.specs.Core.{chain_of}
use Rattle.svga_ring.specs.Noting.{NotedPages, first_held, known_state}
use Rattle.svga_ring.specs.Requests.{IsChainOut, Request}
use Rattle.svga_ring.specs.SoundPages.{reached}
use Rattle.svga_ring.specs.Views.{DeviceView}
use Rattle.svga_device.proofs.NotedLaws.{some_bytes}
use Rattle.svga_device.specs.Chains.{HasAnswered, IsAnswering, IsOut, chain_over}
use Rattle.svga_device.specs.Devices.{IsResting}
use Rattle.svga_device.specs.Reading.{IsReading}

-- the request that a load gave is out
pub told_out : (before after : DeviceView) (found : given.Request) → RequestTold before after (Some found)
    → IsOut after found
told_out before after found told =
    subst (λ (v : DeviceView). IsOut v found) (sym told.told.view)
    (record { waits = told.answers.0; no_ring = told.told.no_ring; numbers = told.answers.1 })

-- a load of the request leaves a device at rest, and what it has read
pub resting_told : (d d' : DeviceSeen) (m : MachineSet) (found : Option given.Request)
    → d' ≡ record d { view = d'.view } → RequestTold d.view d'.view found → IsResting d m → IsResting d' m
resting_told d d' m found left told r =
    let view = told.told.view in
    record {
      kept = ap (λ (v : DeviceView). v.kept) view ∙ r.kept;
      limits = subst (λ (v : DeviceView). v.terms.limits ≡ v.kept.limits) (sym view) r.limits;
      noted = ap (λ (v : DeviceView). v.noted) view ∙ r.noted;
      pages = ap (λ (d : DeviceSeen). d.pages) left ∙ r.pages;
    }

pub told_read : (before after : DeviceView) (found : Option given.Request) → RequestTold before after found
    → after.read ≡ before.read
told_read before after found told = ap (λ (v : DeviceView). v.read) told.told.view

-- an answer leaves what was read, and the screens
pub answered_read : (before after : DeviceView) → HasAnswered before after → after.read ≡ before.read
answered_read before after h =
    ap (λ (v : DeviceView). v.read) h.answered.answered ∙ told_read before h.loaded (Some h.request) h.told

pub told_screens : (before after : DeviceView) (found : Option given.Request) → RequestTold before after found
    → after.kept.screens ≡ before.kept.screens
told_screens before after found told = ap (λ (v : DeviceView). v.kept.screens) told.told.view

pub answered_screens : (before after : DeviceView) → HasAnswered before after
    → after.kept.screens ≡ before.kept.screens
answered_screens before after h =
    ap (λ (v : DeviceView). v.kept.screens) h.answered.answered
    ∙ ap (λ (k : Kept). k.screens) h.answered.ran.stepped
    ∙ told_screens before h.loaded (Some h.request) h.told

pub reading_same : (e e' : DeviceView) (x : DecoderState) → e'.read ≡ e.read → IsReading e x → IsReading e' x
reading_same e e' x same r = record {
  live = r.live;
  words = r.words ∙ sym same;
  begun = subst IsCommandBegun (sym same) r.begun;
}

-- a page that is there as it was first held is noted
is_noted : (noted : NotedPages) (key : PageKey) → HasPage (first_held noted) key
    → map.contains_key noted key ≡ true
is_noted noted key has =
    let held : List ℕ = unwrap_or (page_at (first_held noted) key) [] in
    let at = noted_page noted key held (some_bytes (page_at (first_held noted) key) has) in ap is_some at.1

-- where none of some rules refuses an act, there is no first one
first_none : (rules : List (Bool × Fault)) → least_standing rules ≡ None → first_standing rules ≡ None
first_none [] none = refl
first_none ((true, f) ∷ rules) none = absurd (cc none)
first_none ((false, f) ∷ rules) none = first_none rules none

pub no_chain_fault : (e : DeviceView) (pages : Memory)
    → IsAdmissible (record { kept = e.kept; memory = pages }) (chain_of e.wanted)
    → fault_of_chain (chain_over e pages) ≡ None
unfolding fault_of
no_chain_fault e pages admissible =
    first_none (act_tests (record { kept = e.kept; memory = pages }) (chain_of e.wanted)) admissible

-- A chain is out that a device loaded, some sound core of which has this view.
module _ (e : DeviceView) (p : IsDevicePossible e) (waits : e.wanted.number ≢ e.answered) where
  abbrev own : DeviceView
  own = p.core.device

  own_waits : own.wanted.number ≢ own.answered
  own_waits = subst (λ (v : DeviceView). v.wanted.number ≢ v.answered) (sym p.view_is) waits

  -- it is the driver's last request
  request_is : own.wanted ≡ p.core.driver.request
  request_is = wanted_is p.sound.requests own_waits

  out : IsChainOut p.core.driver.request own.answered
  out = request_out p.key p.core p.sound
      (subst (λ (r : Request). r.number ≢ own.answered) request_is own_waits)

  pub nothing_read : e.read ≡ []
  nothing_read = sym (ap (λ (v : DeviceView). v.read) p.view_is) ∙ (chain_alone p.key p.core p.sound out).1

  -- its region and its first page are in range
  pub asks_within : IsChainWithin e.kept.limits.pages e.wanted.id e.wanted.descriptor
  asks_within =
      let r : Request = p.core.driver.request in
      let here : State = reached (opening_state p.key.limits p.key.first) own.done true p.core.driver.acts in
      let kept : own.kept ≡ here.kept =
      p.sound.runs.kept_is_run ∙ ap (λ (t : State). t.kept) (settled_is p.key p.core p.sound out) in
      let is : IsChainWithin here.kept.limits.pages r.id r.descriptor =
      chain_within here r.id r.descriptor (asked_admits p.key p.core p.sound out) in
      subst (λ (v : DeviceView). IsChainWithin v.kept.limits.pages v.wanted.id v.wanted.descriptor) p.view_is
      (subst (λ (x : Request). IsChainWithin own.kept.limits.pages x.id x.descriptor) (sym request_is)
      (subst (λ (k : Kept). IsChainWithin k.limits.pages r.id r.descriptor) (sym kept) is))

  -- it has no fault, once the pages that it touches are held
  pub no_fault : (pages : Memory) → first_held e.noted ≡ pages
      → ((key : PageKey) → Touches (record { kept = e.kept; memory = pages }) (chain_of e.wanted) key
      → HasPage pages key)
      → IsAdmissible (record { kept = e.kept; memory = pages }) (chain_of e.wanted)
  no_fault pages firsts there =
      let known : known_state e ≡ record { kept = e.kept; memory = pages } =
      λ i. record { kept = e.kept; memory = firsts i } in
      let all : (key : PageKey) → Touches (known_state e) (chain_of e.wanted) key
      → map.contains_key e.noted key ≡ true =
      λ key touched. is_noted e.noted key (subst (λ m. HasPage m key) (sym firsts)
      (there key (subst (λ s. Touches s (chain_of e.wanted) key) known touched))) in
      let all_own = subst (λ (v : DeviceView). (key : PageKey)
      → Touches (known_state v) (chain_of v.wanted) key → map.contains_key v.noted key ≡ true) (sym p.view_is) all in
      let all_asked = subst (λ (r : Request). (key : PageKey) → Touches (known_state own) (chain_of r) key
      → map.contains_key own.noted key ≡ true) request_is all_own in
      let asked : IsAdmissible (known_state own) (chain_of p.core.driver.request) =
      known_admits p.key p.core p.sound out all_asked in
      subst (λ s. IsAdmissible s (chain_of e.wanted)) known
      (subst (λ (v : DeviceView). IsAdmissible (known_state v) (chain_of v.wanted)) p.view_is
      (subst (λ (r : Request). IsAdmissible (known_state own) (chain_of r)) (sym request_is) asked))

-- a chain whose region and first page are in range may be begun
pub none_starts : (guest id first : ℕ) → IsChainWithin guest id first → first ≢ 0
    → first_standing (start_tests guest id first) ≡ None
none_starts guest id first within some =
    let not_none : (first == 0) ≡ false = grind (arith, nat_tests, some) in
    let low : first < guest = within.first_low not_none in
    let near : nat_le guest first ≡ false = grind (arith, nat_tests) in
    λ i. first_standing ((not_over id 4095 within.id_low i, fault.RegionId) ∷ (near i, fault.BadPage) ∷ [])

-- a chain that is out may be begun
pub starts_none : (e : DeviceSeen) (m : MachineSet) (request : given.Request) → e.view.kept ≡ m.kept
    → HasNumbers request e.view.wanted → request.descriptor ≢ 0 → IsDevicePossible e.view
    → e.view.wanted.number ≢ e.view.answered
    → first_standing (start_tests m.kept.limits.pages request.id request.descriptor) ≡ None
starts_none e m request kept n some p waits =
    let within = asks_within e.view p waits in
    let first = none_starts e.view.kept.limits.pages e.view.wanted.id e.view.wanted.descriptor within
    (subst (λ first. first ≢ 0) n.descriptor_is some) in
    (λ i. first_standing (start_tests (sym kept i).limits.pages (n.id_is i) (n.descriptor_is i))) ∙ first

-- a region that goes needs no room
pub removal_none : (s : State) (id : ℕ) → id ≤ 4095 → place_count s.kept.regions ≤ 65536
    → fault_of s (Do (DefineGmr2 id 0)) ≡ None
unfolding fault_of
removal_none s id low few =
    let room : places_with s.kept.regions id 0 ≤ 65536 = omega (arith, few) in
    let rooms : nat_lt 65536 (places_with s.kept.regions id 0) ≡ false = not_over (places_with s.kept.regions id 0) 65536 room in
    let both : (nat_le id 4095 && nat_lt 65536 (places_with s.kept.regions id 0)) ≡ false = ap (λ b. nat_le id 4095 && b) rooms ∙ and_false (nat_le id 4095) in
    λ i. least_standing ((not_over id 4095 low i, fault.RegionId) ∷ (both i, fault.PlaceLimit) ∷ [])
  where
    and_false : (b : Bool) → (b && false) ≡ false
    and_false true = refl
    and_false false = refl

-- a region that is asked to go may go
pub removal_good : (e : DeviceSeen) (m : MachineSet) (region : ℕ) → IsAnswering e m
    → region ≡ e.view.wanted.id → IsKept e.view.kept → IsDevicePossible e.view
    → fault_of (state_with m e.pages) (Do (DefineGmr2 region 0)) ≡ None
removal_good e m region a is valid p =
    let low = (asks_within e.view p a.waits).id_low in
    let few = subst (λ (k : Kept). place_count k.regions ≤ 65536) a.kept valid.regions.within in
    removal_none (state_with m e.pages) region (subst (λ n. n ≤ 4095) (sym is) low) few

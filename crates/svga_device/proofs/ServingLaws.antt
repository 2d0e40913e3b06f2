-- A command is served: from the pages that were held to those that were given back.
use Rattle.std.proofs.Common.{◌≡◌, ◌≢◌, ◌<◌, ◌≤◌, ◌+◌, ◌||◌, suc, arith, ℕ, List, [], ◌∷◌, Bool, true, false, inl, inr, refl, sym, ap, subst, ◌∙◌, Option, Some, None, IfSome, is_some, length, slice_index_or, option_map, option_and_then, unwrap_or}
use Rattle.std.proofs.lemmas.Bool.{cases_lt}
use Rattle.std.proofs.lemmas.List.{get_or_past}
use Rattle.std.proofs.lemmas.Option.{none-some, same_Some}
use Rattle.std.specs.FinMap as map
use Rattle.std.specs.FinMap.{get-empty}
use Rattle.std.specs.List.{list_any}
use mathlib.Core.Bool.{true≢false}
use Rattle.svga_cmd.proofs.KeyLaws.{keys_exact, keys_total}
use Rattle.svga_cmd.proofs.Maps.{one_key, same_gets}
use Rattle.svga_cmd.specs.Limits.{frame_page_count}
use Rattle.svga_cmd.specs.Pages.{HasPage, IsPage, Memory, key_cmp, page_at}
use Rattle.svga_cmd.specs.Spelling.{Spells}
use Rattle.svga_cmd.specs.declared.command.Command.{Command}
use Rattle.svga_cmd.specs.declared.command.Command.TheVariants.{Fence}
use Rattle.svga_cmd.specs.declared.fault.Fault.{Fault}
use Rattle.svga_cmd.specs.declared.page.PageKey.{PageKey}
use Rattle.svga_machine.specs.Touched.{HasTouched}
use Rattle.svga_model.proofs.ShapeLaws.{bytes_add, told_stays}
use Rattle.svga_model.proofs.TouchPages.{has_place}
use Rattle.svga_model.proofs.TouchedKeys.{touched_keys}
use Rattle.svga_model.proofs.ValidStateLaws.{step_keys}
use Rattle.svga_model.specs.Acts.{Do}
use Rattle.svga_model.specs.Faults.{act_tests, fault_of, shape_tests}
use Rattle.svga_model.specs.Regions.{Places, places_of}
use Rattle.svga_model.specs.Standing.{least_standing}
use Rattle.svga_model.specs.States.{Kept, State, frame_pages, shape_of}
use Rattle.svga_model.specs.Steps.{step}
use Rattle.svga_model.specs.Touches.{Touches, has_page, is_page, touched_places, touched_region}
use Rattle.svga_model.specs.ValidStates.{ArePlaces, IsKept, IsState}
use Rattle.svga_cmd.specs.declared.session.Session.{Session}
use Rattle.svga_model.specs.States.{opening_state}
use Rattle.svga_ring.proofs.Acts.InHand.{no_chain}
use Rattle.svga_ring.proofs.Pages.Noted.{first_held_page}
use Rattle.svga_ring.proofs.Steps.Stop.{known_admits, read_admits}
use Rattle.svga_ring.specs.Core.{Core}
use Rattle.svga_ring.specs.Noting.{NotedPages}
use Rattle.svga_ring.specs.Sound.{IsSound}
use Rattle.svga_ring.specs.SoundPages.{reached}
use Rattle.svga_ring.specs.Views.{Noted}
use Rattle.svga_ring.specs.Conditions.{IsServed}
use Rattle.svga_ring.specs.Noting.{first_held, given_back, holds, known_state}
use Rattle.svga_ring.specs.Views.{DeviceView}
use Rattle.svga_shape.specs.ShapeSet.{AreOfLimits, ShapeSet, shape_in}
use Rattle.svga_transfer.specs.Reach.{HasPages}
use Rattle.svga_link.specs.Told.{served}
use Rattle.svga_device.specs.Serving.{IsBack, IsGiving, IsHolding, taken_with}

-- the touched places, by a shape's parts
pub touched_is : (k : Kept) (s : ShapeSet) (c : Command) (r : Option ℕ) → shape_in s ≡ shape_of k → AreOfLimits s → r ≡ touched_region k.gmrfb c
    → touched_places k c ≡ unwrap_or (option_and_then (places_of s.regions.frame s.regions.regions) r) []
touched_is k s c r e valid is =
    let frame : s.regions.frame ≡ frame_pages k = valid.frame ∙ ap (λ x. frame_page_count x.limits) e in
    let regions : s.regions.regions ≡ k.regions = ap (λ x. x.regions) e in
    λ i. unwrap_or (option_and_then (places_of (sym frame i) (sym regions i)) (sym is i)) []

-- they are pages of the device
pub touched_good : (k : Kept) (c : Command) → IsKept k → ArePlaces k.limits (touched_places k c)
touched_good k c valid =
    let s : State = record { kept = k; memory = map.empty } in
    let nothing : (key : PageKey) → page_at map.empty key ≡ None = λ key. get-empty key_cmp key in
    let is : IsState s = record {
      kept = valid;
      memory = record {
        keys = λ key has. absurd (true≢false (sym has ∙ ap is_some (nothing key)));
        pages = λ key. subst (λ o. IfSome o IsPage) (sym (nothing key)) tt;
      };
    } in
    touched_keys s c is

-- a mapped place is touched
pub mapped_touched : (places all : Places) (k : ℕ) (place : Option PageKey) → place ≡ slice_index_or places k None → all ≡ places
    → IfSome place (λ key. has_page all key ≡ true)
mapped_touched places all k None at same = tt
mapped_touched places all k (Some key) at same = ap (λ p. has_page p key) same ∙ has_place places k key (sym at)

pub no_pages : (m : Memory) → ((key : PageKey) → page_at m key ≡ None) → m ≡ map.empty
no_pages m none = same_gets keys_total keys_exact m map.empty (λ q. none q ∙ sym (get-empty key_cmp q))

pub no_places : (m : Memory) → HasPages m []
no_places m k = tt

-- each place so far, and one more
pub so_far_more : (places : Places) (m m' : Memory) (k : ℕ) (place : Option PageKey) → place ≡ slice_index_or places k None
    → IfSome place (HasPage m') → ((key : PageKey) → HasPage m key → HasPage m' key)
    → ((j : ℕ) → j < k → IfSome (slice_index_or places j None) (HasPage m))
    → (j : ℕ) → j < k + 1 → IfSome (slice_index_or places j None) (HasPage m')
so_far_more places m m' k place at there more before j low = elim (cases_lt j k) as (λ _. IfSome (slice_index_or places j None) (HasPage m')) [
  | inl less ↦ go (slice_index_or places j None) (before j less)
  | inr past ↦ subst (λ n. IfSome (slice_index_or places n None) (HasPage m')) (let e : k ≡ j = omega (arith, past, low) in e) (subst (λ o. IfSome o (HasPage m')) at there)
]
  where
    go : (o : Option PageKey) → IfSome o (HasPage m) → IfSome o (HasPage m')
    go None h = tt
    go (Some key) h = more key h

pub all_so_far : (places : Places) (m : Memory) (n : ℕ) → length places ≤ n → ((j : ℕ) → j < n → IfSome (slice_index_or places j None) (HasPage m)) → HasPages m places
all_so_far places m n most before j = elim (cases_lt j (length places)) as (λ _. IfSome (slice_index_or places j None) (HasPage m)) [
  | inl less ↦ before j (omega (arith, less, most))
  | inr past ↦ subst (λ o. IfSome o (HasPage m)) (sym (get_or_past places j None past)) tt
]

pub length_is : (o : Option Places) (n : ℕ) → Some n ≡ option_map length o → length (unwrap_or o []) ≡ n
length_is None n e = absurd (none-some n (sym e))
length_is (Some places) n e = sym (same_Some n (length places) e)

pub length_none : (o : Option Places) → None ≡ option_map length o → unwrap_or o [] ≡ []
length_none None e = refl
length_none (Some places) e = absurd (none-some (length places) e)

-- a page of these places is there
page_of : (places : Places) (m : Memory) (key : PageKey) → HasPages m places → has_page places key ≡ true → HasPage m key
unfolding has_page
page_of [] m key has on = absurd (true≢false (sym on))
page_of (place ∷ places) m key has on = go place (has 0) (is_page key place) refl on (λ rest. page_of places m key (λ n. has (suc n)) rest) where
  go : (o : Option PageKey) → IfSome o (HasPage m) → (b : Bool) → is_page key o ≡ b → (b || list_any (is_page key) places) ≡ true
      → (list_any (is_page key) places ≡ true → HasPage m key) → HasPage m key
  go None h true e on more = absurd (true≢false (sym e))
  go (Some k) h true e on more = subst (HasPage m) (sym (one_key keys_total keys_exact key k e)) h
  go o h false e on more = more on

abbrev first_known : Option Noted → Bool
first_known o = is_some (option_map (λ n. n.first) o)

noted_there : (noted : NotedPages) (key : PageKey) → HasPage (first_held noted) key → map.contains_key noted key ≡ true
noted_there noted key has = go (map.get noted key) refl (subst (λ o. is_some o ≡ true) (first_held_page noted key) has) where
  go : (o : Option Noted) → map.get noted key ≡ o → is_some (option_map (λ n. n.first) (map.get noted key)) ≡ true → map.contains_key noted key ≡ true
  go None e is = absurd (true≢false (sym is ∙ ap first_known e))
  go (Some n) e is = ap is_some e

-- what isn't refused isn't by its shape
pub admitted : (s : State) (c : Command) → fault_of s (Do c) ≡ None → least_standing (shape_tests (shape_of s.kept) c) ≡ None
unfolding fault_of
admitted s c none = go (least_standing (shape_tests (shape_of s.kept) c)) refl where
  go : (o : Option Fault) → least_standing (shape_tests (shape_of s.kept) c) ≡ o → least_standing (shape_tests (shape_of s.kept) c) ≡ None
  go None e = e
  go (Some f) e = absurd (none-some f (sym none ∙ told_stays _ (least_standing (act_tests s (Do c))) f (bytes_add s c) e))

-- No command that was read is refused by what the device knows, once its pages are held: some sound core has its view.
pub never_refused : (e : DeviceView) (k : Session) (core : Core) → IsSound k core → core.device ≡ e → (c : Command) → Spells c e.read
    → (held : Memory) (kept : Kept) → first_held e.noted ≡ held → e.kept ≡ kept → HasTouched kept held c
    → fault_of (record { kept = kept; memory = held }) (Do c) ≡ None
never_refused e k core sound view c spells held kept firsts same there =
    let own = core.device in
    let read : Spells c own.read = subst (λ v. Spells c v.read) (sym view) spells in
    let here : State = reached (opening_state k.limits k.first) own.done false core.driver.acts in
    let runs : kept ≡ here.kept = sym same ∙ sym (ap (λ v. v.kept) view) ∙ sound.runs.kept_is_run
    ∙ ap (λ out. (reached (opening_state k.limits k.first) own.done out core.driver.acts).kept) (no_chain k core c sound read) in
    let shaped : least_standing (shape_tests (shape_of kept) c) ≡ None =
    subst (λ x. least_standing (shape_tests (shape_of x) c) ≡ None) (sym runs) (admitted here c (read_admits k core c sound read)) in
    let known : known_state own ≡ record { kept = kept; memory = held } =
    (λ i. known_state (view i)) ∙ (λ i. record { kept = same i; memory = firsts i }) in
    let all : (key : PageKey) → Touches (known_state own) (Do c) key → map.contains_key own.noted key ≡ true =
    λ key touched.
    let on : has_page (touched_places kept c) key ≡ true = subst (λ s. Touches s (Do c) key) known touched in
    let has : HasPage (first_held own.noted) key = subst (λ s. HasPage s.memory key) (sym known) (page_of (touched_places kept c) held key (there shaped) on) in
    noted_there own.noted key has in
    subst (λ s. fault_of s (Do c) ≡ None) known (known_admits k core c sound read all)

gone_is_back : (before now : Option (List ℕ)) (back : Option (List ℕ)) → now ≡ None → IsBack before now back → back ≡ before
gone_is_back before now back gone (inl b) = b.1 ∙ sym gone ∙ b.0
gone_is_back before now back gone (inr b) = b.1

-- All of it: the pages were held, the command ran on them without a fault, and all of them were given back.
module _ (first e1 e2 : DeviceView) (held ran left : Memory) (k after : Kept) (c : Command)
    (h : IsHolding first e1 held) (kept : first.kept ≡ k) (there : HasTouched k held c)
    (none : fault_of (record { kept = k; memory = held }) (Do c) ≡ None)
    (ok : ◌≡◌ {A = State} (record { kept = after; memory = ran }) (step (record { kept = k; memory = held }) (Do c)))
    (g : IsGiving e1 e2 ran left) (gone : (key : PageKey) → page_at left key ≡ None) where
  -- the device knows the state that the machine ran on
  known_first : known_state e1 ≡ record { kept = k; memory = held }
  known_first = λ i. record { kept = (ap (λ e. e.kept) h.view ∙ kept) i; memory = h.noted_is i }

  known_last : known_state e2 ≡ record { kept = k; memory = held }
  known_last = (λ i. record { kept = ap (λ e. e.kept) g.view i; memory = g.noted_is i }) ∙ known_first

  -- so what it leaves is the step
  stepped : step (known_state e2) (Do c) ≡ record { kept = after; memory = ran }
  stepped = ap (λ s. step s (Do c)) known_last ∙ sym ok

  back : (key : PageKey) → given_back e2.noted key ≡ page_at ran key
  back key = gone_is_back (page_at ran key) (page_at left key) (given_back e2.noted key) (gone key) (g.each key)

  touched_ran : (key : PageKey) → Touches (known_state e2) (Do c) key → HasPage ran key
  touched_ran key touched =
      let on : has_page (touched_places k c) key ≡ true = subst (λ s. Touches s (Do c) key) known_last touched in
      let has : HasPage held key = page_of (touched_places k c) held key (there (admitted (record { kept = k; memory = held }) c none)) on in
      subst (λ s. HasPage s.memory key) (sym ok) ((step_keys (record { kept = k; memory = held }) (Do c) key).0 has)

  some_not : (o : Option (List ℕ)) → is_some o ≡ true → o ≢ None
  some_not o has e = true≢false (sym has ∙ ap is_some e)

  pub is_served : (stored : Bool) → Spells c first.read → ((key : PageKey) → holds e2.noted key ≡ false)
      → ((value : ℕ) → c ≡ Fence value → stored ≡ true) → IsServed (record e2 { stored = stored }) c
  is_served stored spells none_held fence = record {
    read_whole = subst (λ e. Spells c e.read) (sym (g.view ∙ ap {A = DeviceView} {B = DeviceView} (λ e. record e { noted = e2.noted }) h.view)) spells;
    none_held = none_held;
    given = λ key touched. back key ∙ sym (ap (λ s. page_at s.memory key) stepped);
    all_given = λ key touched. some_not (given_back e2.noted key) (ap is_some (back key) ∙ touched_ran key touched);
    fence = fence;
  }

  pub kept_after : (step (known_state e2) (Do c)).kept ≡ after
  kept_after = ap (λ s. s.kept) stepped

  pub view_after : e2 ≡ record first { noted = e2.noted }
  view_after = g.view ∙ ap {A = DeviceView} {B = DeviceView} (λ e. record e { noted = e2.noted }) h.view

  -- once STOP is stored, with the fence's number stored or not
  pub taken_is : (stored : Bool) → served (record e2 { stored = stored }) c ≡ taken_with first after
  taken_is stored =
      let kept_is = ap (λ e. (step (known_state e) (Do c)).kept) (sym view_after) ∙ kept_after in
      ap (λ e. served (record e { stored = stored }) c) view_after ∙ (λ i. taken_with first (kept_is i))

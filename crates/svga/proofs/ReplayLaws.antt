-- The texts of a replay.
use Rattle.std.proofs.Common.{◌≡◌, ◌⊎◌, inl, inr, ℕ, ◌<◌, List, [], ◌∷◌, ◌++◌, Bool, true, false, cond, ◌||◌, refl, sym, ap, subst, ◌∙◌, filter, flat_map, map, get_or, length, ◌==◌, unwrap_or, Some, None, Ok, Err, arith}
use Rattle.std.proofs.lemmas.Grind.{flat_map-append}
use Rattle.std.proofs.lemmas.List.Elements.{filter-append}
use Rattle.std.proofs.lemmas.List.FromFn.{get_or-map-range_with_len, length-map-range_with_len}
use Rattle.std.specs.List.{list_all, list_any, range_with_len}
use Rattle.std.specs.Prelude.{Option, Result, MatchResult}
use Rattle.svga.proofs.RangeLaws.{text-same}
use Rattle.svga.proofs.WithinLaws.{shown_bytes, within-text}
use Rattle.svga.specs.Inputs as input
use Rattle.svga.specs.Inputs.{IsReplayed, TellsInput}
use Rattle.svga.specs.Mapped.{AreMapped, mapped_page}
use Rattle.svga.specs.ReplayTexts.{no_capture_text, pages_text, region_keys, replay_status, replay_text, shown_page}
use Rattle.svga.specs.Telling.{Tells}
use Rattle.svga.specs.declared.form.Form.TheVariants as form
use Rattle.svga_capture.specs.Replayed.{IsReplayOf, replay_in}
use Rattle.svga_capture.specs.declared.replaying.Replayed.{Replayed}
use Rattle.svga_cmd.specs.Limits.{frame_page_count}
use Rattle.svga_cmd.specs.Pages.{Memory, page_at}
use Rattle.svga_cmd.specs.declared.capture_cause.CaptureCause.{CaptureCause}
use Rattle.svga_cmd.specs.declared.command.Command.{Command}
use Rattle.svga_cmd.specs.declared.constants.TheConstants.{REGION_IDS}
use Rattle.svga_cmd.specs.declared.ending.Ending.{Ending}
use Rattle.svga_cmd.specs.declared.page.PageKey.{PageKey}
use Rattle.svga_cmd.specs.declared.page.PageKey.TheVariants.{Guest, Frame}
use Rattle.svga_io.specs.Growing.{Grows}
use Rattle.svga_io.specs.declared.fault.WriteFault.{WriteFault}
use Rattle.svga_model.proofs.TouchPages.{has_place}
use Rattle.svga_model.specs.Captures.{Capture, capture_of}
use Rattle.svga_model.specs.Endings.{IsEnding}
use Rattle.svga_model.specs.Regions.{frame_places}
use Rattle.svga_model.specs.Replays.{IsWithinRegions, replay_of}
use Rattle.svga_model.specs.Runs.{in_regions}
use Rattle.svga_model.specs.States.{Kept, frame_pages}
use Rattle.svga_model.specs.Touches.{has_page}
use Rattle.svga_region.proofs.PlaceLaws.{frame_place}
use Rattle.svga_text.specs.Pages.{page_text}
use Rattle.svga_text.specs.Passing.{Writes}
use Rattle.svga.specs.Mapped.{defined_list}

-- each page of the framebuffer stands in a region
frame_stands : (k : Kept) (n : ℕ) → n < frame_pages k → in_regions k (Frame n) ≡ true
unfolding in_regions
frame_stands k n less =
    let test : ℕ → Bool = λ id. has_page (defined_list k.regions id) (Frame n) in
    ap (λ b. b || list_any test (range_with_len 0 REGION_IDS))
    (has_place (frame_places (frame_pages k)) n (Frame n) (frame_place (frame_pages k) n less))

-- the texts of the keys that pass a test
passing-text : (f : PageKey → List ℕ) (test : PageKey → Bool) (key : ℕ → PageKey) (ns : List ℕ)
    → flat_map f (filter test (map key ns)) ≡ flat_map (λ n. cond (test (key n)) (f (key n)) []) ns
passing-text f test key [] = refl
passing-text f test key (n ∷ ns) = go (test (key n)) (passing-text f test key ns) where
  go : (b : Bool) → flat_map f (filter test (map key ns)) ≡ flat_map (λ n. cond (test (key n)) (f (key n)) []) ns
      → flat_map f (cond b (key n ∷ filter test (map key ns)) (filter test (map key ns))) ≡ cond b (f (key n)) []
      ++ flat_map (λ n. cond (test (key n)) (f (key n)) []) ns
  go true rest = ap (λ t. f (key n) ++ t) rest
  go false rest = rest

-- the pages that stand in a region are those that are mapped, and all of the framebuffer
pub region-text : (m : Memory) (k : Kept) (mapped : List Bool) → AreMapped k mapped
    → flat_map (mapped_page m mapped) (range_with_len 0 k.limits.pages)
    ++ flat_map (λ n. shown_page m (Frame n)) (range_with_len 0 (frame_page_count k.limits))
    ≡ pages_text m (region_keys k)
region-text m k mapped are =
    let test = in_regions k in
    let guests = range_with_len 0 k.limits.pages in
    let frames = range_with_len 0 (frame_page_count k.limits) in
    sym (
    ap (flat_map (shown_page m)) (filter-append test (map Guest guests) (map Frame frames))
    ∙ flat_map-append (shown_page m) (filter test (map Guest guests)) (filter test (map Frame frames))
    ∙ (λ i. (passing-text (shown_page m) test Guest guests ∙ guest) i
    ++ (passing-text (shown_page m) test Frame frames ∙ frame) i)
    )
  where
    guest : flat_map (λ n. cond (in_regions k (Guest n)) (shown_page m (Guest n)) [])
        (range_with_len 0 k.limits.pages) ≡ flat_map (mapped_page m mapped) (range_with_len 0 k.limits.pages)
    guest = text-same (λ n. cond (in_regions k (Guest n)) (shown_page m (Guest n)) [])
        (mapped_page m mapped) 0 k.limits.pages
        (λ p less. ap (λ b. cond b (shown_page m (Guest p)) [])
        (sym (ap (λ t. get_or t p false) are
        ∙ get_or-map-range_with_len (λ q. in_regions k (Guest q)) 0 k.limits.pages p p false (omega (arith, less))
        (omega arith))))

    frame : flat_map (λ n. cond (in_regions k (Frame n)) (shown_page m (Frame n)) [])
        (range_with_len 0 (frame_page_count k.limits))
        ≡ flat_map (λ n. shown_page m (Frame n)) (range_with_len 0 (frame_page_count k.limits))
    frame = text-same (λ n. cond (in_regions k (Frame n)) (shown_page m (Frame n)) []) (λ n. shown_page m (Frame n)) 0
        (frame_page_count k.limits)
        (λ n less. ap (λ b. cond b (shown_page m (Frame n)) []) (frame_stands k n (omega (arith, less))))

-- the same by the numbers of the pages
pub pages-text : (m : Memory) (k : Kept) (mapped : List Bool) (guests frames : ℕ) → AreMapped k mapped
    → guests ≡ k.limits.pages → frames ≡ frame_page_count k.limits
    → flat_map (mapped_page m mapped) (range_with_len 0 guests)
    ++ flat_map (λ n. shown_page m (Frame n)) (range_with_len 0 frames) ≡ pages_text m (region_keys k)
pages-text m k mapped guests frames are few all =
    (λ i. flat_map (mapped_page m mapped) (range_with_len 0 (few i))
    ++ flat_map (λ n. shown_page m (Frame n)) (range_with_len 0 (all i))) ∙ region-text m k mapped are

-- how many answers there are
pub length-mapped : (k : Kept) (mapped : List Bool) → AreMapped k mapped → length mapped ≡ k.limits.pages
length-mapped k mapped are = ap length are ∙ length-map-range_with_len (λ p. in_regions k (Guest p)) 0 k.limits.pages

-- a guest page by its answer
pub mapped_yes : (m : Memory) (mapped : List Bool) (p : ℕ) → get_or mapped p false ≡ true
    → shown_page m (Guest p) ≡ mapped_page m mapped p
mapped_yes m mapped p e = sym (ap (λ b. cond b (shown_page m (Guest p)) []) e)

pub mapped_no : (m : Memory) (mapped : List Bool) (p : ℕ) → get_or mapped p false ≡ false → [] ≡ mapped_page m mapped p
mapped_no m mapped p e = sym (ap (λ b. cond b (shown_page m (Guest p)) []) e)

-- a page by its bytes
shown-at : (m : Memory) (key : PageKey) (bytes : List ℕ) (b : Bool) → page_at m key ≡ Some bytes
    → list_all (λ byte. byte == 0) bytes ≡ b → cond b [] (page_text key bytes) ≡ shown_page m key
shown-at m key bytes b there e =
    sym (ap (λ o. shown_bytes key (unwrap_or o [])) there ∙ ap (λ t. cond t [] (page_text key bytes)) e)

pub shown_zeros : (m : Memory) (key : PageKey) (bytes : List ℕ) → page_at m key ≡ Some bytes
    → list_all (λ byte. byte == 0) bytes ≡ true → [] ≡ shown_page m key
shown_zeros m key bytes there e = shown-at m key bytes true there e

pub shown_bytes_of : (m : Memory) (key : PageKey) (bytes : List ℕ) → page_at m key ≡ Some bytes
    → list_all (λ byte. byte == 0) bytes ≡ false → page_text key bytes ≡ shown_page m key
shown_bytes_of m key bytes there e = shown-at m key bytes false there e

module _ {K : Type 0} {held : K → Option (List ℕ)} {faults : K → ℕ} where
  pub grows-same : {before now : K} {texts others : List ℕ} → texts ≡ others → Grows held faults before now texts
      → Grows held faults before now others
  grows-same {before} {now} is = subst (Grows held faults before now) is

-- a replay of a capture tells its status and its text
pub replayed : (c : Capture) (r : Replayed) (status : ℕ) → IsReplayOf c r
    → ((cs : List Command) (end : Ending) → IsEnding c.words cs end
    → (replay_in r ≡ replay_of c.opening cs end) × IsWithinRegions c.opening cs end)
    → status ≡ replay_status r.ending → IsReplayed c status (replay_text (replay_in r))
replayed c r status is within tells =
    let cs = is.replay.commands in
    let end = is.replay.end in
    let text = ap replay_text is.replay.same in
    record {
      commands = cs;
      end = end;
      ending = is.replay.ending;
      status_is = tells ∙ ap (λ t. replay_status t.ending) is.replay.same;
      text_is = text;
      within = text ∙ within-text c.opening cs end (within cs end is.replay.ending).1;
    }

-- what a call wrote, and how the run ends by it
pub told : {K : Type 0} (held : K → Option (List ℕ)) (faults : K → ℕ) (before now : K) (text : List ℕ)
    (status answer : ℕ) (r : Result (Unit {0}) WriteFault)
    → Writes held faults before now text r → MatchResult r (λ _. answer ≡ status) (λ _. answer ≡ 5)
    → Tells held faults before now text status answer
told held faults before now text status answer (Ok x) writes ends = inl (ends, writes)
told held faults before now text status answer (Err e) writes ends = inr (ends, writes)

module _ {K : Type 0} {held : K → Option (List ℕ)} {faults : K → ℕ} where
  -- what an input that is a capture gets
  pub of_capture : (before now : K) (bytes : List ℕ) (c : Capture) (answer : ℕ) → capture_of bytes ≡ Ok c
      → ((answer ≡ 6) × (now ≡ before))
      ⊎ ((status : ℕ) × (text : List ℕ) × IsReplayed c status text × Tells held faults before now text status
      answer)
      → TellsInput held faults before now form.Replay bytes answer None
  of_capture before now bytes c answer is (inl none) = inl (none.0, none.1, refl)
  of_capture before now bytes c answer is (inr (status, text, tells, wrote)) =
      inr (status, text, (input.replayed c is tells, refl), wrote)

  -- and one that is none
  pub of_none : (before now : K) (bytes : List ℕ) (byte : ℕ) (cause : CaptureCause) (answer : ℕ)
      → capture_of bytes ≡ Err (byte, cause)
      → Tells held faults before now (no_capture_text byte cause) 3 answer
      → TellsInput held faults before now form.Replay bytes answer None
  of_none before now bytes byte cause answer is wrote =
      inr (3, no_capture_text byte cause, (input.no_capture byte cause is refl refl, refl), wrote)

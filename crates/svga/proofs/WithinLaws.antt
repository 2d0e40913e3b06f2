-- The text of a replay is that of the replay over the pages of its regions alone.
use Rattle.std.proofs.Common.{◌≡◌, ℕ, List, [], ◌∷◌, ◌++◌, Bool, true, false, cond, ◌||◌, ◌&&◌, refl, sym, ap, ◌∙◌, codes, filter, unwrap_or, ◌==◌, if◌then◌else◌}
use Rattle.std.specs.List.{list_all}
use Rattle.std.specs.Fmt.{decimal}
use Rattle.svga.specs.ReplayTexts.{pages_text, region_keys, replay_end_text, replay_text, shown_page}
use Rattle.svga.specs.Texts.{fence_text}
use Rattle.svga_cmd.specs.Pages.{Memory, page_at}
use Rattle.svga_cmd.specs.declared.command.Command.{Command}
use Rattle.svga_cmd.specs.declared.page.PageKey.{PageKey}
use Rattle.svga_model.proofs.OnlyPlaces.{rest_met}
use Rattle.svga_model.proofs.RunLaws.{run-first}
use Rattle.svga_model.specs.Acts.{Act}
use Rattle.svga_cmd.specs.declared.ending.Ending.{Ending}
use Rattle.svga_model.specs.Faults.{is_admissible}
use Rattle.svga_model.specs.Replays.{IsWithinRegions, Replay, acts_of, replay_of}
use Rattle.svga_model.specs.Runs.{in_regions, is_met, on_walk, only, run}
use Rattle.svga_model.specs.States.{State, all_keys}
use Rattle.svga_model.specs.Steps.{step}
use Rattle.svga_text.specs.Lines.{line}
use Rattle.svga_text.specs.Pages.{page_text}
use Rattle.svga_text.specs.Pictures.{screens_text}

at_once : (a b c : Bool) → a ≡ true → (a || b || c) ≡ true
at_once true b c e = refl
at_once false b c e = cc e

-- a page that stands in a region before the first act is met
begin_met : (s : State) (act : Act) (acts : List Act) (key : PageKey) → in_regions s.kept key ≡ true
    → is_met s (act ∷ acts) key ≡ true
begin_met s act acts key stands =
    at_once (in_regions s.kept key) (on_walk s act key) (is_admissible s act && is_met (step s act) acts key) stands

-- by the first act's test
first_met : (s : State) (act : Act) (acts : List Act) (key : PageKey) (b : Bool) → is_admissible s act ≡ b
    → (in_regions (run (step s act) acts).kept key ≡ true → is_met (step s act) acts key ≡ true)
    → in_regions (run s (act ∷ acts)).kept key ≡ true → is_met s (act ∷ acts) key ≡ true
first_met s act acts key true admits rest stands =
    rest_met s act acts key admits (rest
    (ap (λ t. in_regions t.kept key) (sym (run-first s act acts true admits)) ∙ stands))
first_met s act acts key false admits rest stands =
    begin_met s act acts key (ap (λ t. in_regions t.kept key) (sym (run-first s act acts false admits)) ∙ stands)

-- a page that stands in a region in the end is met
last_met : (s : State) (acts : List Act) (key : PageKey) → in_regions (run s acts).kept key ≡ true
    → is_met s acts key ≡ true
last_met s [] key stands = stands
last_met s (act ∷ acts) key stands =
    first_met s act acts key (is_admissible s act) refl (last_met (step s act) acts key) stands

-- a page with the same bytes is shown alike
abbrev pub shown_bytes : PageKey → List ℕ → List ℕ
shown_bytes key bytes = if list_all (λ byte. byte == 0) bytes then [] else page_text key bytes

shown-same : (m n : Memory) (key : PageKey) → page_at m key ≡ page_at n key → shown_page m key ≡ shown_page n key
shown-same m n key same = ap (λ bytes. shown_bytes key (unwrap_or bytes [])) same

-- the pages that pass a test have the same text where they have the same bytes
pages-same : (m n : Memory) (test : PageKey → Bool) (keys : List PageKey)
    → ((key : PageKey) → test key ≡ true → page_at m key ≡ page_at n key)
    → pages_text m (filter test keys) ≡ pages_text n (filter test keys)
pages-same m n test [] same = refl
pages-same m n test (key ∷ keys) same = go (test key) refl (pages-same m n test keys same) where
  go : (b : Bool) → test key ≡ b → pages_text m (filter test keys) ≡ pages_text n (filter test keys)
      → pages_text m (cond b (key ∷ filter test keys) (filter test keys))
      ≡ pages_text n (cond b (key ∷ filter test keys) (filter test keys))
  go true passes rest = λ i. shown-same m n key (same key passes) i ++ rest i
  go false passes rest = rest

-- replays that agree have the same text
text-same : (r q : Replay) → r.commands ≡ q.commands → r.ending ≡ q.ending → r.state.kept ≡ q.state.kept
    → ((key : PageKey) → in_regions q.state.kept key ≡ true → page_at r.state.memory key ≡ page_at q.state.memory key)
    → replay_text r ≡ replay_text q
text-same r q commands ending kept pages =
    let shown : pages_text r.state.memory (region_keys r.state.kept)
    ≡ pages_text q.state.memory (region_keys q.state.kept) =
    ap (λ k. pages_text r.state.memory (region_keys k)) kept
    ∙ pages-same r.state.memory q.state.memory (in_regions q.state.kept) (all_keys q.state.kept.limits) pages in
    λ i. line (codes "commands") (decimal (commands i) ∷ []) ++ fence_text (kept i).fence
    ++ screens_text (kept i).screens ++ shown i ++ replay_end_text (ending i)

pub within-text : (s : State) (cs : List Command) (end : Ending) → IsWithinRegions s cs end
    → replay_text (replay_of s cs end) ≡ replay_text (replay_of (only s (acts_of cs)) cs end)
within-text s cs end is = sym (text-same (replay_of (only s (acts_of cs)) cs end)
    (replay_of s cs end) is.commands is.ending is.kept
    (λ key stands. is.pages key (last_met s (acts_of cs) key stands)))

-- The text of a replay, and of bytes that are no capture.
use Rattle.std.specs.Prelude.{ℕ, List, [], ◌∷◌, ◌++◌, ◌==◌, codes, filter, if◌then◌else◌}
use Rattle.std.specs.Fmt.{decimal}
use Rattle.std.specs.List.{flat_map, list_all}
use Rattle.svga.specs.Texts.{end_text, fence_text, words_status}
use Rattle.svga_cmd.specs.Fault.{number_of}
use Rattle.svga_cmd.specs.Pages.{Memory}
use Rattle.svga_cmd.specs.declared.capture_cause.CaptureCause.{CaptureCause}
use Rattle.svga_cmd.specs.declared.ending.Ending.TheVariants as end
use Rattle.svga_cmd.specs.declared.ending.ReplayEnd.{ReplayEnd}
use Rattle.svga_cmd.specs.declared.ending.ReplayEnd.TheVariants.{Whole, Refused, Torn, Fault}
use Rattle.svga_cmd.specs.declared.page.PageKey.{PageKey}
use Rattle.svga_model.specs.Memories.{page_bytes}
use Rattle.svga_model.specs.Replays.{Replay}
use Rattle.svga_model.specs.Runs.{in_regions}
use Rattle.svga_model.specs.States.{Kept, all_keys}
use Rattle.svga_text.specs.Lines.{line}
use Rattle.svga_text.specs.Names.{capture_cause_name, fault_name}
use Rattle.svga_text.specs.Pages.{page_text}
use Rattle.svga_text.specs.Pictures.{screens_text}

-- a page, but for one that is all 0
abbrev pub shown_page : Memory → PageKey → List ℕ
shown_page m key = if list_all (λ byte. byte == 0) (page_bytes m key) then [] else page_text key
    (page_bytes m key)

-- the pages that stand in a region: those of guest memory, and then the framebuffer's, by ascending number
abbrev pub region_keys : Kept → List PageKey
region_keys k = filter (in_regions k) (all_keys k.limits)

abbrev pub pages_text : Memory → List PageKey → List ℕ
pages_text m keys = flat_map (shown_page m) keys

-- how it ended
abbrev pub replay_end_text : ReplayEnd → List ℕ
replay_end_text Whole = line (codes "end") []
replay_end_text (Refused word cause) = end_text (end.Refused word cause)
replay_end_text (Torn word) = end_text (end.Torn word)
replay_end_text (Fault command fault) = line (codes "fault at command")
    (decimal command ∷ decimal (number_of fault) ∷ fault_name fault ∷ [])

-- the text of `replay` for a capture with this replay
abbrev pub replay_text : Replay → List ℕ
replay_text r =
    line (codes "commands") (decimal r.commands ∷ [])
    ++ fence_text r.state.kept.fence
    ++ screens_text r.state.kept.screens
    ++ pages_text r.state.memory (region_keys r.state.kept)
    ++ replay_end_text r.ending

-- its status
abbrev pub replay_status : ReplayEnd → ℕ
replay_status Whole = words_status end.Whole
replay_status (Refused word cause) = words_status (end.Refused word cause)
replay_status (Torn word) = words_status (end.Torn word)
replay_status (Fault command fault) = 1

-- the text for bytes that are no capture
abbrev pub no_capture_text : ℕ → CaptureCause → List ℕ
no_capture_text byte cause = line (codes "capture byte") (decimal byte ∷ capture_cause_name cause ∷ [])

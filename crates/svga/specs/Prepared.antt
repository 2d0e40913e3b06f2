-- What a report has before anything is written.
use Rattle.std.specs.Prelude.{◌≡◌, ◌≤◌, ℕ, List, length}
use Rattle.svga.specs.Bytes.{IsEndingOfBytes, words_in}
use Rattle.svga.specs.declared.report.Report.{Report}
use Rattle.svga_cmd.specs.declared.command.Command.{Command}
use Rattle.svga_cmd.specs.declared.constants.TheConstants.{MAX_INPUT_WORDS}
use Rattle.svga_model.specs.Endings.{last_fence}

-- the report on these bytes, whose whole commands are these
pub record IsPrepared (bytes : List ℕ) (cs : List Command) (r : Report) : Type 0 where
  pub words : r.words.items ≡ words_in bytes
  pub few : length r.words.items ≤ MAX_INPUT_WORDS
  pub fence : r.fence ≡ last_fence cs
  pub ending : IsEndingOfBytes bytes cs r.ending

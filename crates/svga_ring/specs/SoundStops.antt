-- What is sound of stopping.
use Rattle.std.specs.Prelude.{◌≡◌, ℕ, List, [], length, slice_index, Bool, true, if◌then◌else◌}
use Rattle.svga_cmd.specs.declared.command.Command.{Command}
use Rattle.svga_model.specs.Sentences.{spelling_all}
use Rattle.svga_ring.specs.SharedTable.{config_word}

-- The driver stops with no word pending, no command sent in part and no request open; once the device knows
-- it, it knows all that is sent as soon as it loads NEXT_CMD again.
pub record IsStopping (words : List ℕ) (cs : List Command) (sent pending : List ℕ)
    (stopped saw_stopped drained : Bool) (next request last_reply : ℕ) : Type 0 where
  pub config_is : slice_index words config_word ≡ (if stopped then 0 else 1)
  pub stopped_empty : stopped ≡ true → pending ≡ []
  pub stopped_whole : stopped ≡ true → spelling_all cs ≡ sent
  pub stopped_settled : stopped ≡ true → request ≡ last_reply
  pub loaded_stop : saw_stopped ≡ true → stopped ≡ true
  pub next_since_stop : drained ≡ true → (saw_stopped ≡ true) × (next ≡ length sent)

-- The calls of an act, one by one.
use Rattle.std.specs.Prelude.{ℕ, slice_index_or}
use Rattle.svga_model.specs.ClientActs.{Call, ClientAct, Commit, CommitFence, calls_of}

-- call k of an act that has so many
abbrev pub call_at : ClientAct → ℕ → Call
call_at act k = slice_index_or (calls_of act) k CommitFence

-- how many commands a call commits
abbrev pub commit_count : Call → ℕ
commit_count (Commit command) = 1
commit_count CommitFence = 1
commit_count call = 0

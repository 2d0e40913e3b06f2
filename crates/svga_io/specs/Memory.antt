-- What contracts see of the sources and sinks in memory.
use Rattle.std.specs.Prelude.{ℕ, ◌-◌, List, length, min, ◌==◌, nat_lt, ◌&&◌, if◌then◌else◌}
use Rattle.svga_io.specs.Rising.{one_more}

-- A source without faults: the bytes left, and how many a call gives at most.
pub record CleanState : Type 0 where
  pub left : List ℕ
  pub piece : ℕ

-- A source with faults: also the calls made so far, the numbers of the
-- calls that fail, and the faults so far.
pub record SourceState : Type 0 where
  pub left : List ℕ
  pub piece : ℕ
  pub calls : ℕ
  pub failing : List ℕ
  pub faults : ℕ

-- A sink: the bytes held, how many it has room for, the calls made so far, the numbers of
-- those that fail, and the faults so far.
pub record SinkState : Type 0 where
  pub held : List ℕ
  pub capacity : ℕ
  pub calls : ℕ
  pub failing : List ℕ
  pub faults : ℕ

-- how many bytes a call gives that has this room
abbrev pub given_count : List ℕ → ℕ → ℕ → ℕ
given_count left piece room = min (min piece room) (length left)

-- how many bytes of a piece a sink takes
abbrev pub taken_by : SinkState → List ℕ → ℕ
taken_by sink piece = min (length piece) (sink.capacity - length sink.held)

-- the faults of a sink that took n bytes of a piece: taking none of a piece that has some is one
abbrev pub faults_after : SinkState → List ℕ → ℕ → ℕ
faults_after sink piece n = if n == 0 && nat_lt 0 (length piece) then one_more sink.faults else sink.faults

-- What is wrong with all of them is what is wrong with those that are left, and these end where all of them do.
use Rattle.std.proofs.Common.{◌≡◌, ◌+◌, ◌-◌, ◌≤◌, length, None, sum_by}
use Rattle.svga_model.specs.CaptureFields.{first_flaw, pages_at, record_size, records_from, region_count, region_fields, region_records}
use Rattle.svga_capture.proofs.regions.judge_regions.Given as goal

abbrev pub invariant-loop : goal.invariant-loop
invariant-loop l =
    (first_flaw l.bytes (region_fields l.bytes 0 None (region_records l.bytes))
    ≡ first_flaw l.bytes (region_fields l.bytes l.total l.last (records_from l.bytes (region_count l.bytes - l.counter) l.at)))
    × (pages_at l.bytes ≡ l.at + sum_by record_size (records_from l.bytes (region_count l.bytes - l.counter) l.at))
    × (l.at ≤ length l.bytes) × (l.total ≤ 65536)

use Rattle.std.proofs.Common.{◌≡◌, ◌≤◌, ◌+◌, ◌*◌, take, sum_by}
use Rattle.pass_entry.specs.Lengths.{record_length}
use Rattle.pass_book.proofs.parts.slip_bytes.Given as goal

-- the rows so far, none longer than the longest
abbrev pub invariant-loop-row : goal.invariant-loop-row
invariant-loop-row l = (l.bytes ≡ l.initial.bytes + sum_by record_length (take l.row-index l.row-items)) × (l.bytes ≤ l.initial.bytes + 2068 * l.row-index)

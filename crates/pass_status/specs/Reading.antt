-- How much of a source is read. This project's own rule.
use Rattle.std.specs.Prelude.{ℕ, ◌+◌, ◌-◌, ◌≡◌, ◌≤◌, ◌==◌, true, false, List, fold, length, take, nat_le, if◌then◌else◌}
use Rattle.pass_trace.specs.declared.limits.Scale.{Scale}
use Rattle.pass_trace.specs.Limits.{longest_line, most_lines}
use Rattle.pass_trace.specs.Lines.{is_too_long}
use Rattle.pass_status.specs.declared.reading.Limits.{Limits}

-- what is counted of a text, after one more byte: its ended lines, the bytes of the line behind them, and whether it is too long
abbrev pub counted : Scale → Limits → ℕ → Limits
counted scale limits byte =
    if limits.over then limits
    else if nat_le (most_lines scale) limits.lines then record limits { over = true }
    else if byte == 10 then record { lines = limits.lines + 1; bytes = 0; over = false }
    else if nat_le longest_line limits.bytes then record limits { over = true }
    else record limits { bytes = limits.bytes + 1 }

-- before the first byte
abbrev pub none_counted : Limits
none_counted = record { lines = 0; bytes = 0; over = false }

abbrev pub counted_of : Scale → List ℕ → Limits
counted_of scale text = fold (counted scale) none_counted text

-- but for its last piece, of at most 4,096 bytes, a text isn't too long
pub record StopsInTime (scale : Scale) (text : List ℕ) : Type 0 where
  pub piece : ℕ
  pub short : piece ≤ 4096
  pub before : is_too_long scale (take (length text - piece) text) ≡ false

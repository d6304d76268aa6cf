-- The limits of a trace, each in one place. All are this project's own.
use Rattle.std.specs.Prelude.{ℕ}
use Rattle.pass_trace.specs.declared.limits.Scale.{Scale}
use Rattle.pass_trace.specs.declared.limits.Scale.TheVariants.{Usual, Long}

-- the greatest number of lines of a text, those that say nothing among them
abbrev pub most_lines : Scale → ℕ
most_lines Usual = 100000
most_lines Long = 1000000

-- the greatest number of bytes of a line
abbrev pub longest_line : ℕ
longest_line = 8400

-- the greatest number of objects that the lines of a trace make
abbrev pub most_created : Scale → ℕ
most_created Usual = 8191
most_created Long = 65535

-- the greatest number of a process; the first has 1
abbrev pub last_process : Scale → ℕ
last_process Usual = 8192
last_process Long = 65536

-- the greatest offset or size that a line names, in bytes
abbrev pub greatest_offset : ℕ
greatest_offset = 4294967295

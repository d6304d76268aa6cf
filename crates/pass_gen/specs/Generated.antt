-- The trace that is drawn from a number. This project's own rule, over the generator PCG XSH RR 64/32.
use Rattle.std.specs.Prelude.{ℕ, zero, suc, ◌+◌, ◌-◌, ◌/◌, ◌%◌, ◌==◌, List, ◌∷◌, ◌++◌, codes, map, replicate, if◌then◌else◌}
use Rattle.std.specs.List.{range_with_len}
use Rattle.rand_core.specs.Pcg32Seed.{pcg32_seed}
use Rattle.rand_pcg.specs.Lcg.{Lcg}
use Rattle.rand_pcg.specs.Pcg.{pcg32, pcg32_of_seed}
use Rattle.pass_trace.specs.declared.trace.Command.{Command}
use Rattle.pass_trace.specs.declared.trace.Command.TheVariants.{Creat, Fork, Wait, Seek, Read, Write}
use Rattle.pass_trace.specs.declared.trace.Payload.TheVariants.{Given}
use Rattle.pass_trace.specs.declared.trace.TraceLine.{TraceLine}

-- the generator of a number, after so many words
unfoldable pub drawn : ℕ → ℕ → Lcg
drawn number zero = pcg32_of_seed (pcg32_seed 16 number)
drawn number (suc n) = (pcg32 (drawn number n)).1

-- its word at a place, from 0
abbrev pub word_at : ℕ → ℕ → ℕ
word_at number i = (pcg32 (drawn number i)).0

abbrev pub line : ℕ → ℕ → Command → TraceLine
line number process command = record { number = number; process = process; command = command }

-- the process of a drawn line, by its place: each of the seven children in turn has two lines
abbrev pub child_at : ℕ → ℕ
child_at i = 2 + i / 2 % 7

-- the length of a transfer by its word
abbrev pub length_of : ℕ → ℕ
length_of word = 1 + word / 2 % 4096

-- what is read or written, by a word: a read where it is even, else a write of one byte so many times
abbrev pub transfer_of : ℕ → Command
transfer_of word = if word % 2 == 0 then Read 3 (length_of word) else Write 3 (Given (replicate (length_of word) (word / 8192 % 256)))

-- the line of a child is a seek at an even place, and a transfer behind it
abbrev pub command_of : ℕ → ℕ → Command
command_of i word = if i % 2 == 0 then Seek 3 (word % 65536) else transfer_of word

-- the first process makes the file, and seven children that have it open
abbrev pub first_lines : List TraceLine
first_lines = line 1 1 (Creat 3 (codes "shared")) ∷ map (λ child. line child 1 (Fork child)) (range_with_len 2 7)

-- the children's lines, each with a word of its own
abbrev pub drawn_lines : ℕ → ℕ → List TraceLine
drawn_lines number count = map (λ i. line (9 + i) (child_at i) (command_of i (word_at number i))) (range_with_len 0 count)

-- it waits for each of them; the lines are numbered up to the last one
abbrev pub last_lines : ℕ → List TraceLine
last_lines count = map (λ child. line (7 + count + child) 1 (Wait child)) (range_with_len 2 7)

-- the trace of a number with so many lines, of which all but 15 are drawn
abbrev pub generated : ℕ → ℕ → List TraceLine
generated number lines = first_lines ++ drawn_lines number (lines - 15) ++ last_lines (lines - 15)

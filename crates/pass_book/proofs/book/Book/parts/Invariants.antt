use Rattle.std.proofs.Common.{take, drop}
use Rattle.pass_book.specs.Parting.{IsParted}
use Rattle.pass_book.proofs.book.Book.parts.Given as goal

-- the records so far are in the parts
abbrev pub invariant-loop-place : goal.invariant-loop-place
invariant-loop-place l = IsParted (drop l.from (take l.place l.self-inside.slips.items)) l.parts

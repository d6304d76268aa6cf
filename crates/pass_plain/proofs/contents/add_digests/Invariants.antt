use Rattle.std.proofs.Common.{◌≡◌, ◌++◌, ℕ, Bool, length}
use Rattle.pass_plain.specs.Recording.{digests_by, flags}
use Rattle.pass_plain.proofs.contents.add_digests.Given as goal

abbrev pub invariant-loop-block : goal.invariant-loop-block
invariant-loop-block l = (had : ℕ → Bool) → l.rows ≡ flags had (length l.rows) → l.list.items ≡ l.initial.list.items ++ digests_by l.file l.old l.content had l.act l.block

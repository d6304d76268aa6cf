-- The ends of a pipe.
use Rattle.std.specs.Prelude.{ℕ}
use Rattle.pass_entry.specs.declared.objects.End.{End}
use Rattle.pass_entry.specs.declared.objects.End.TheVariants as end
use Rattle.pass_plain.specs.Pipes.{Pipe}

-- how many descriptors an end has
abbrev pub count_at : Pipe → End → ℕ
count_at pipe end.Reader = pipe.readers
count_at pipe end.Writer = pipe.writers

-- The start of a seat that is spent, which means nothing.
use Rattle.std.specs.Global.{Global, Vec}
use Rattle.std.specs.formers.vec.Vec.{the_empty, mapped}
use Rattle.pass_plain.specs.declared.start.Start.{Start}
use Rattle.pass_plain.specs.declared.start.StartFile.{StartFile}
use Rattle.pass_entry.specs.declared.objects.Node.{Node}
use Rattle.pass_book.specs.declared.view.Opened.{Opened}

pub no_elements : (X : Type 0) → Vec X
no_elements X = mapped (λ (x : ⊥). absurd x) (the_empty Global (record { memory = record { seal = tt } }))

pub no_start : Start
no_start = record { ceiling = 0; files = no_elements StartFile; apps = no_elements Node }

pub nothing_opened : Opened
nothing_opened = record { start = no_start; objects = 0 }

-- How an answer stands to what the bytes have (this project's own rule: want of memory says nothing of them).
use Rattle.std.specs.Prelude.{◌≡◌, ℕ, List, ◌++◌, Result, Ok, Err}
use Rattle.pass_record.specs.declared.fault.RecordFault.{RecordFault}
use Rattle.pass_record.specs.declared.fault.RecordFault.TheVariants as fault

-- this fault is the one that the bytes have, unless memory ran out
abbrev pub Fails : {Y : Type 0} → RecordFault → Result Y RecordFault → Type 0
Fails fault.Short read = read ≡ Err fault.Short
Fails fault.Tag read = read ≡ Err fault.Tag
Fails fault.Value read = read ≡ Err fault.Value
Fails fault.NoMemory read = Unit {0}

-- what a function answered, seen by view, is what the bytes have, unless memory ran out
abbrev pub Gives : {X Y : Type 0} → (X → Y) → Result X RecordFault → Result Y RecordFault → Type 0
Gives view (Ok x) read = read ≡ Ok (view x)
Gives view (Err e) read = Fails e read

-- what was found stays, and so does what follows it, where more bytes come behind; a field that was cut may go on
abbrev pub Extends : {A : Type 0} → Result (A × List ℕ) RecordFault → List ℕ → Result (A × List ℕ) RecordFault → Type 0
Extends (Ok x) more longer = longer ≡ Ok (x.0, x.1 ++ more)
Extends (Err fault.Short) more longer = Unit {0}
Extends (Err fault.Tag) more longer = longer ≡ Err fault.Tag
Extends (Err fault.Value) more longer = longer ≡ Err fault.Value
Extends (Err fault.NoMemory) more longer = ⊥

-- What was read stands at the front, and what stands there was read.
use Rattle.std.proofs.Common.{◌<◌, ◌≤◌, length, ℕ, Ok, Result, drop, ap, ap₂, ◌∙◌, sym, arith}
use Rattle.std.proofs.lemmas.Result.{err_from_is_err_and}
use Rattle.pass_entry.specs.declared.record.Record.{Record}
use Rattle.pass_entry.specs.Lengths.{record_length}
use Rattle.pass_record.specs.declared.fault.RecordFault.{RecordFault}
use Rattle.pass_record.specs.Reading.{record_at}
use Rattle.pass_record.proofs.Spellings.{stands, only_read, only_fails, record_length-some, at_front-within}
use Rattle.pass_record.proofs.reading.decode.Goals as goal
use Rattle.pass_record.proofs.Records.{done}

abbrev answer : Record → ℕ → Result (Record × ℕ) RecordFault
answer one len = Ok (one, len)

pub returns-in_err-one-clause-only : goal.returns-in_err-one-clause-only
returns-in_err-one-clause-only c = λ one h.
    let p = err_from_is_err_and c.from_residual.result c.from_residual.ensures.1 in
    let fails = rw c.new-cursor.ensures at c.in_err-one.ensures in
    rw (p.1, p.2) (only_fails c.args.bytes.now one c.in_err-one.field-0.0 (one, record_length one) fails h)

pub returns-clause-found : goal.returns-clause-found
returns-clause-found c =
    let found = ap record_at (sym c.new-cursor.ensures) ∙ c.in_ok-one.ensures in
    ((stands c.args.bytes.now c.in_ok-one.one c.record_of.new.cursor (λ i. omega (arith, c.type_inv.bytes i)) found).0, c.length-len.ensures)

pub returns-clause-within : goal.returns-clause-within
returns-clause-within c =
    let found = ap record_at (sym c.new-cursor.ensures) ∙ c.in_ok-one.ensures in
    let at_front = (stands c.args.bytes.now c.in_ok-one.one c.record_of.new.cursor (λ i. omega (arith, c.type_inv.bytes i)) found).0 in
    let some : 0 < record_length c.in_ok-one.one = record_length-some c.in_ok-one.one in
    let few : record_length c.in_ok-one.one ≤ length c.args.bytes.now = at_front-within c.args.bytes.now c.in_ok-one.one at_front in
    (omega (arith, c.length-len.ensures), omega (arith, c.length-len.ensures))

pub returns-clause-only : goal.returns-clause-only
returns-clause-only c = λ other h.
    let found = ap record_at (sym c.new-cursor.ensures) ∙ c.in_ok-one.ensures in
    let same = only_read c.args.bytes.now c.in_ok-one.one other c.record_of.new.cursor c.length-len.result found c.length-len.ensures h in
    ap₂ answer same.0 same.1

pub returns-clause-exact : goal.returns-clause-exact
returns-clause-exact c =
    let found = ap record_at (sym c.new-cursor.ensures) ∙ c.in_ok-one.ensures in
    let rest = (stands c.args.bytes.now c.in_ok-one.one c.record_of.new.cursor (λ i. omega (arith, c.type_inv.bytes i)) found).1 in
    found ∙ ap (done c.in_ok-one.one) (rest ∙ ap (λ (n : ℕ). drop n c.args.bytes.now) (sym c.length-len.ensures))

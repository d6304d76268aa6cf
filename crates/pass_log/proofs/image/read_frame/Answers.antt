use Rattle.std.proofs.Common.{◌≡◌, ◌<◌, length, rules, subst, sym}
use Rattle.std.specs.List.{All}
use Rattle.std.proofs.lemmas.List.Elements.{All-push}
use Rattle.pass_entry.specs.Ranges.{IsInRange}
use Rattle.std.proofs.lemmas.List.{take_rest}
use Rattle.pass_log.specs.Records.{joined, records_in}
use Rattle.pass_log.proofs.Reading.{more_records, record_fault}
use Rattle.pass_log.proofs.image.read_frame.Goals as goal

pub loop-rest-preserved : goal.loop-rest-preserved
loop-rest-preserved c =
    let rest = c.loop-rest.rest.now in
    let some : 0 < length rest = search rules in
    record {
      whole = more_records c.loop-rest.list.items c.push.new.self.items c.in-Ok.len rest _ _ c.in-Ok.one
          (joined c.args.list.now.items (records_in 0 (length c.args.list.now.items) c.args.frame.now)) c.loop-rest.invariant.whole c.in-Ok.ensures.within.0 some c.in-Ok.ensures.found.1 c.in-Ok.ensures.exact
          (take_rest rest c.in-Ok.len) c.in_ok-push-in-Ok.ensures.items;
      in_range = λ first. subst (All IsInRange) (sym c.in_ok-push-in-Ok.ensures.items) (All-push IsInRange c.loop-rest.list.items c.in-Ok.one (c.loop-rest.invariant.in_range first) c.in-Ok.ensures.found.0.in_range);
    }

pub returns-in-Err-clause-err : goal.returns-in-Err-clause-err
returns-in-Err-clause-err c =
    let rest = c.loop-rest.rest.now in
    let some : 0 < length rest = search rules in
    let count : c.len.result ≡ length c.loop-rest.list.items = search rules in
    record_fault c.in-Err.fault c.fault_of.result c.len.result c.loop-rest.list.items c.args.list.now.items rest (records_in 0 (length c.args.list.now.items) c.args.frame.now)
    c.loop-rest.invariant.whole some c.in-Err.ensures.exact count c.fault_of.ensures.memory c.fault_of.ensures.bytes

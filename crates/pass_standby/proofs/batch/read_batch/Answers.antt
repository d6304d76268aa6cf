use Rattle.std.proofs.Common.{rules, ◌≡◌, ◌<◌, ◌++◌, true, false, List, ℕ, length, sym, ◌∙◌, subst}
use Rattle.std.specs.Prelude.{is_some, None}
use Rattle.std.proofs.lemmas.List.{take_rest}
use Rattle.pass_plain.specs.WellLogged.{flaw_of}
use Rattle.pass_standby.proofs.Batching.{IsReading, reading_more, reading_flaw, reading_bad}
use Rattle.pass_standby.proofs.batch.read_batch.Goals as goal
use Rattle.pass_entry.proofs.Variants.{none_of}

pub returns-in-Err-clause-bad : goal.returns-in-Err-clause-bad
returns-in-Err-clause-bad c = λ is before says.
    let rest = c.loop-rest.rest.now in
    let some : 0 < length rest = search rules in
    reading_bad before c.args.frame.now rest c.args.list.now.items c.loop-rest.list.items c.loop-rest.judge (c.loop-rest.invariant before says)
    c.in-Err.fault c.fault_of.result some c.in-Err.ensures.exact c.fault_of.ensures.memory is

pub returns-then-is_some-clause-bad : goal.returns-then-is_some-clause-bad
returns-then-is_some-clause-bad c = λ is before says.
    let rest = c.loop-rest.rest.now in
    let some : 0 < length rest = search rules in
    let r = c.loop-rest.invariant before says in
    let has : is_some c.flaw.result ≡ true = search rules in
    reading_flaw before c.args.frame.now rest c.args.list.now.items c.loop-rest.list.items c.loop-rest.judge r c.in-Ok.found.0 c.in-Ok.found.1
    c.in-Ok.ensures.within.0 some c.in-Ok.ensures.found.1 c.in-Ok.ensures.found.0 c.in-Ok.ensures.exact c.flaw.result has (c.flaw.ensures (before ++ r.batch) r.says)

pub loop-rest-preserved : goal.loop-rest-preserved
loop-rest-preserved c = λ before says.
    let rest = c.loop-rest.rest.now in
    let some : 0 < length rest = search rules in
    let r = c.loop-rest.invariant before says in
    let len = c.in-Ok.found.1 in
    let has_none : is_some c.flaw.result ≡ false = search rules in
    let fine : flaw_of (before ++ r.batch) c.in-Ok.found.0 ≡ None = sym (c.flaw.ensures (before ++ r.batch) r.says) ∙ none_of c.flaw.result has_none in
    subst (λ (l : List ℕ). IsReading before c.args.frame.now l c.args.list.now.items c.push.new.self.items c.add.new.self) (sym (take_rest rest len))
    (reading_more before c.args.frame.now rest c.args.list.now.items c.loop-rest.list.items c.loop-rest.judge r c.in-Ok.found.0 len
    c.in-Ok.ensures.within.0 some c.in-Ok.ensures.found.1 c.in-Ok.ensures.found.0 c.in-Ok.ensures.exact
    c.add.new.self fine (c.in_ok-add.ensures.ok (before ++ r.batch) r.says fine) c.push.new.self.items c.in_ok-push.ensures.items)

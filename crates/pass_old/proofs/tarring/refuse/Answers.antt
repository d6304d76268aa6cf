use Rattle.std.proofs.Common.{◌≡◌, ◌∙◌, [], sym, subst}
use Rattle.pass_status.specs.declared.status.Status.TheVariants as status
use Rattle.pass_ask.specs.Answers.{SinkSeen}
use Rattle.pass_old.specs.declared.status.OldStatus.{OldStatus}
use Rattle.pass_old.specs.declared.status.OldStatus.TheVariants as old_status
use Rattle.pass_old.specs.Answers.{IsWritten}
use Rattle.pass_old.proofs.Texts.{stands_as}
use Rattle.pass_old.proofs.tarring.refuse.Goals as goal

pub returns-clause-written : goal.returns-clause-written
returns-clause-written g c = λ known_end.
    let w = c.write_old-status in
    let taken = g.K.Sink.taken in
    let sink : SinkSeen = record { tells = g.K.Sink.tells; before = taken c.args.sink.now; after = taken w.new.sink } in
    let known = λ (is : w.result ≡ old_status.Same status.NoMemory). known_end (c.ended.ensures.status ∙ is) in
    let made : IsWritten sink c.args.judged w.result [] = record {
      stands = stands_as w.result c.args.judged known w.ensures.stands;
      whole = λ whole tells. w.ensures.whole whole known tells;
      part = λ fault tells. w.ensures.part fault tells;
    } in
    subst (λ (s : OldStatus). IsWritten sink c.args.judged s []) (sym c.ended.ensures.status) made

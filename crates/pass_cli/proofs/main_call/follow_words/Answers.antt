use Rattle.std.proofs.Common.{◌≡◌, ℕ, List, sym, ap, ◌∙◌, subst}
use Rattle.pass_status.specs.declared.status.Status.{Status}
use Rattle.pass_status.specs.declared.status.Status.TheVariants as status
use Rattle.pass_ask.specs.Answers.{SinkSeen, text_with}
use Rattle.pass_ask.specs.Follows.{IsFollowAnswer, OfStream, place_text}
use Rattle.pass_ask.proofs.Written.{stands_as, refusal_text}
use Rattle.pass_cli.proofs.main_call.follow_words.Goals as goal

pub returns-clause-answer : goal.returns-clause-answer
returns-clause-answer g c = λ known_end.
    let left = g.S.Source.left in
    let count = g.S.Source.fault_count in
    let old = g.D.Disk.view c.args.disk in
    let sink : SinkSeen = record { tells = g.K.Sink.tells; before = g.K.Sink.taken c.args.sink.now; after = g.K.Sink.taken c.write_answer-status.new.sink } in
    let f = c.follow-judged.ensures in
    let s = c.follow-judged.result.judged.status in
    let w = c.write_answer-status.ensures in
    let known = λ (is : c.write_answer-status.result ≡ status.NoMemory). known_end (c.asked.ensures.status ∙ is) in
    let (bytes, told, (log, logged, by)) = f.judged (λ is. known (w.starved is)) in
    let made : IsFollowAnswer g.S.Source.tells (left c.args.source.now) (left c.follow-judged.new.source) (count c.args.source.now) (count c.follow-judged.new.source)
    sink old (g.D.Disk.view c.follow-judged.result.disk) c.write_answer-status.result = record {
      bytes = bytes;
      told = told;
      log = log;
      logged = logged;
      judged = s;
      text = text_with s c.deref.result.now;
      by = record {
        by = by.by;
        says = λ done. subst (λ (l : List ℕ). OfStream log bytes (λ t. l ≡ place_text t))
            (sym (ap (λ (one : Status). text_with one c.deref.result.now) done ∙ c.deref.ensures.value)) (by.says done);
        to_end = by.to_end;
      };
      refusal = λ other. refusal_text s c.deref.result.now other f.reported;
      stands = stands_as c.write_answer-status.result s known w.stands;
      whole = λ whole. w.whole whole known;
      part = w.part;
    } in
    subst (λ (answered : Status). IsFollowAnswer g.S.Source.tells (left c.args.source.now) (left c.follow-judged.new.source) (count c.args.source.now) (count c.follow-judged.new.source)
    sink old (g.D.Disk.view c.asked.result.disk) answered) (sym c.asked.ensures.status)
    (subst (λ d. IsFollowAnswer g.S.Source.tells (left c.args.source.now) (left c.follow-judged.new.source) (count c.args.source.now) (count c.follow-judged.new.source)
    sink old (g.D.Disk.view d) c.write_answer-status.result) (sym c.asked.ensures.disk) made)

use Rattle.std.proofs.Common.{◌∙◌, ◌++◌, ℕ, List, ap, subst}
use Rattle.pass_status.specs.Writing.{IsPartOfText}
use Rattle.pass_old.specs.Answers.{old_text_with}
use Rattle.pass_old.proofs.Pruned.{never_written}
use Rattle.pass_old.proofs.Texts.{stands_as}
use Rattle.pass_old.proofs.pruning.prune_named.Goals as goal

pub write_old-requires : goal.write_old-requires
write_old-requires g c =
    let j = c.judge_prune-judged in
    never_written g.D.Disk.view g.F.Disk.view (g.A.Disk.view c.args.archive) c.args.disk j.new.disk c.args.named.now c.args.fresh j.result.fresh j.result.text.items j.result.status j.ensures.by

pub returns-clause-pruned : goal.returns-clause-pruned
returns-clause-pruned g c =
    let j = c.judge_prune-judged in
    let w = c.write_old.ensures in
    let taken = g.K.Sink.taken in
    record {
      judged = j.result.status;
      text = j.result.text.items;
      by = j.ensures.by;
      work = j.ensures.work;
      reads = j.ensures.reads;
      fresh_work = j.ensures.fresh_work;
      written = λ known. record {
        stands = stands_as c.write_old.result j.result.status known w.stands;
        whole = λ whole tells. w.whole whole known tells ∙ ap (λ (t : List ℕ). taken c.args.sink.now ++ old_text_with j.result.status t) c.deref.ensures.value;
        part = λ fault tells. subst (λ (t : List ℕ). IsPartOfText (old_text_with j.result.status t) (taken c.args.sink.now) (taken c.write_old.new.sink)) c.deref.ensures.value (w.part fault tells);
      };
    }

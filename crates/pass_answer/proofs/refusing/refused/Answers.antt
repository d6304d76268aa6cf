use Rattle.std.proofs.Common.{◌≡◌, ap, sym, ◌∙◌, subst, arith}
use Rattle.std.specs.Prelude.{Err}
use Rattle.pass_entry.specs.declared.entry.Reply.TheVariants as answer
use Rattle.pass_plain.specs.Places.{need_of}
use Rattle.pass_proc.specs.CallEnds.{HasReplied}
use Rattle.pass_answer.specs.Answers.{Answers}
use Rattle.pass_answer.specs.declared.answer.CallEnd.{CallEnd}
use Rattle.pass_answer.specs.declared.answer.CallEnd.TheVariants as ends
use Rattle.pass_answer.proofs.Wrapping.{begins_now}
use Rattle.pass_answer.proofs.refusing.refused.Goals as goal

pub returns-in-Ok-clause-call : goal.returns-in-Ok-clause-call
returns-in-Ok-clause-call g c = λ r named asked within new.
    let S = g.J.Whose.book.session in
    let old = c.args.proc.now in
    let after = c.refuse.new.proc in
    let replied = c.in-Ok.ensures.call r named asked within in
    let told : c.from.result ≡ ends.Fault c.args.fault = c.from.ensures in
    subst (λ (end : CallEnd). Answers S g.J.Whose.places old after r (Err end)) (sym told) (
      subst (λ h. HasReplied S old.who h after.seen r (answer.Fault c.args.fault)) (sym (begins_now old r new)) replied,
      record { who = c.in-Ok.ensures.same.0; grows = replied.call.begins; way = c.in-Ok.ensures.counted.1 },
    )

pub returns-in-Err-clause-call : goal.returns-in-Err-clause-call
returns-in-Err-clause-call g c = λ r named asked within new.
    let S = g.J.Whose.book.session in
    let old = c.args.proc.now in
    let after = c.refuse.new.proc in
    let few = c.in-Err.ensures.full.0 in
    let full = c.in-Err.full in
    let told : c.from-in-Err.result ≡ ends.Full full.left full.need = c.from-in-Err.ensures in
    let three = few.needs in
    let low = few.fewer in
    let more = c.in-Err.ensures.looks.0 in
    subst (λ (end : CallEnd). Answers S g.J.Whose.places old after r (Err end)) (sym told) (record {
      only = record {
        looked = few.looked;
        rose = omega (arith, more);
        stays = λ i. record {
          who = c.in-Err.ensures.same.0 i;
          number = c.in-Err.ensures.full.1 i;
          seen = after.seen;
          syncs = after.syncs;
          looks = after.looks;
          looked = c.in-Err.ensures.looks.1 i;
          state = c.in-Err.ensures.same.1 i;
          way = c.in-Err.ensures.full.2 i;
        };
      };
      anew = new;
      needs = three ∙ sym (ap need_of named ∙ c.requires.need);
      fewer = omega (arith, low, three);
      leaves = few.left;
    })

use Rattle.std.proofs.Common.{◌∙◌, ◌++◌, ℕ, List, sym, ap, subst}
use Rattle.pass_status.specs.declared.status.Status.{Status}
use Rattle.pass_status.specs.declared.status.Status.TheVariants as status
use Rattle.pass_status.specs.Writing.{IsPartOfText}
use Rattle.pass_old.specs.declared.status.OldStatus.TheVariants as old_status
use Rattle.pass_old.proofs.Texts.{inside, same_is, own_text, same_text, not_same, stands_same, unlike_only}
use Rattle.pass_old.proofs.writing.write_old.Goals as goal

pub write_answer-requires : goal.write_answer-requires
write_answer-requires g c = λ is. c.requires (same_is c.args.judged c.in-Some.status (sym c.same.ensures ∙ c.in-Some.is) ∙ ap (λ (x : Status). old_status.Same x) is)

pub returns-in-Some-clause-stands : goal.returns-in-Some-clause-stands
returns-in-Some-clause-stands g c =
    stands_same c.args.judged c.write_answer.result c.in-Some.status (same_is c.args.judged c.in-Some.status (sym c.same.ensures ∙ c.in-Some.is)) c.write_answer.ensures.stands

pub returns-in-Some-clause-whole : goal.returns-in-Some-clause-whole
returns-in-Some-clause-whole g c = λ taken known tells.
    c.write_answer.ensures.whole (λ e. taken (ap (λ (x : Status). old_status.Same x) e)) (λ e. known (ap (λ (x : Status). old_status.Same x) e)) tells
    ∙ ap (λ (t : List ℕ). g.K.Sink.taken c.args.sink.now ++ t) (sym (same_text c.args.judged c.in-Some.status c.args.text.now (sym c.same.ensures ∙ c.in-Some.is)))

pub returns-in-Some-clause-part : goal.returns-in-Some-clause-part
returns-in-Some-clause-part g c = λ is tells.
    subst (λ (t : List ℕ). IsPartOfText t (g.K.Sink.taken c.args.sink.now) (g.K.Sink.taken c.write_answer.new.sink)) (sym (same_text c.args.judged c.in-Some.status c.args.text.now (sym c.same.ensures ∙ c.in-Some.is)))
    (c.write_answer.ensures.part (inside c.write_answer.result status.WriteFault is) tells)

pub returns-in-Some-clause-fault : goal.returns-in-Some-clause-fault
returns-in-Some-clause-fault g c = λ known.
    let f = c.write_answer.ensures.fault (λ e. known (ap (λ (x : Status). old_status.Same x) e)) in
    (λ is. f.0 (inside c.write_answer.result status.WriteFault is), λ rose. ap (λ (x : Status). old_status.Same x) (f.1 rose))

pub returns-in-Some-clause-unwritten : goal.returns-in-Some-clause-unwritten
returns-in-Some-clause-unwritten g c = λ is. c.write_answer.ensures.unwritten (inside c.write_answer.result status.NoMemory is)

pub returns-in-Some-clause-starved : goal.returns-in-Some-clause-starved
returns-in-Some-clause-starved g c = λ is.
    ap (λ (x : Status). old_status.Same x)
    (c.write_answer.ensures.starved (inside c.in-Some.status status.NoMemory (sym (same_is c.args.judged c.in-Some.status (sym c.same.ensures ∙ c.in-Some.is)) ∙ is)))

pub returns-in-None-clause-whole : goal.returns-in-None-clause-whole
returns-in-None-clause-whole g c = λ taken known tells.
    c.write_own.ensures.whole taken known tells ∙ ap (λ (t : List ℕ). g.K.Sink.taken c.args.sink.now ++ t) (sym (own_text c.args.judged c.args.text.now (sym c.same.ensures ∙ c.in-None.is)))

pub returns-in-None-clause-part : goal.returns-in-None-clause-part
returns-in-None-clause-part g c = λ is tells.
    subst (λ (t : List ℕ). IsPartOfText t (g.K.Sink.taken c.args.sink.now) (g.K.Sink.taken c.write_own.new.sink)) (sym (own_text c.args.judged c.args.text.now (sym c.same.ensures ∙ c.in-None.is))) (c.write_own.ensures.part is tells)

pub returns-in-None-clause-unwritten : goal.returns-in-None-clause-unwritten
returns-in-None-clause-unwritten g c = λ is. c.write_own.ensures.unwritten (not_same c.args.judged status.NoMemory (sym c.same.ensures ∙ c.in-None.is)) is

pub returns-in-None-clause-starved : goal.returns-in-None-clause-starved
returns-in-None-clause-starved g c = λ is. absurd (not_same c.args.judged status.NoMemory (sym c.same.ensures ∙ c.in-None.is) is)

pub returns-in-None-clause-unlike : goal.returns-in-None-clause-unlike
returns-in-None-clause-unlike g c = λ is. unlike_only c.write_own.result c.args.judged is c.write_own.ensures.stands

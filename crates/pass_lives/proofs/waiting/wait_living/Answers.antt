use Rattle.std.proofs.Common.{◌≡◌, ap, sym, ◌∙◌, subst, false}
use Rattle.std.specs.Prelude.{Err, None}
use Rattle.pass_entry.specs.declared.entry.Ask.TheVariants as ask
use Rattle.pass_plain.specs.Processes.{has_ended, refusal}
use Rattle.pass_book.specs.Tokens.{BookState, NoteState}
use Rattle.pass_hold.specs.Callers.{CallerState}
use Rattle.pass_hold.specs.Callings.{HasLooked}
use Rattle.pass_proc.specs.Procs.{ProcView, proc_with}
use Rattle.pass_answer.specs.Answers.{Answers}
use Rattle.pass_answer.specs.declared.answer.CallEnd.{CallEnd}
use Rattle.pass_answer.specs.declared.answer.CallEnd.TheVariants as ends
use Rattle.pass_answer.proofs.Between.{looked_on}
use Rattle.pass_lives.specs.Waits.{request_of}
use Rattle.pass_lives.proofs.Waits.{child_waits}
use Rattle.pass_lives.proofs.waiting.wait_living.Goals as goal

pub invariant_of-proc : goal.invariant_of-proc
invariant_of-proc g c =
    let i = c.proc.inside in
    let e = c.look.ensures in
    looked_on g.J.Whose.book.session i.process i.number i.caller i.way c.proc.invariant c.look.new.self e.caller e.looked e.few

pub returns-clause-call : goal.returns-clause-call
returns-clause-call g c = λ wait.
    let S = g.J.Whose.book.session in
    let a = c.args in
    let i = c.proc.inside in
    let e = c.look.ensures in
    let d = c.look.new.self in
    let again : CallEnd = ends.Again in
    let lives : has_ended d.seen a.child ≡ false =
    ap (λ h. has_ended h a.child) (e.whole ∙ sym (ap (λ (b : BookState). b.history) e.shelf) ∙ sym (ap (λ (n : NoteState). n.seen) c.note.ensures.note))
    ∙ ap (λ w. has_ended c.note.result.seen w) (sym c.requires.child) ∙ c.meet.ensures.lives in
    subst (λ (old : ProcView). Answers S g.J.Whose.places old (proc_with i.process i.number d i.way) (request_of wait a.child) (Err again)) c.proc.view_is
    (child_waits wait S (proc_with i.process i.number i.caller i.way) (proc_with i.process i.number d i.way) a.child
    (subst (λ (v : ProcView). refusal v.state (ask.Child a.child) ≡ None) (sym c.proc.view_is) c.requires.free)
    c.proc.invariant.0.idle
    (subst (λ w. HasLooked S w i.caller.seen d.seen) c.proc.invariant.0.of_who e.looked)
    lives
    (λ k. record {
      who = i.process.who;
      number = i.number;
      seen = d.seen;
      syncs = d.syncs;
      looks = (ap (λ (v : CallerState). v.looks) e.caller) k;
      looked = (ap (λ (v : CallerState). v.looked) e.caller) k;
      state = i.process.state;
      way = i.way;
    }))

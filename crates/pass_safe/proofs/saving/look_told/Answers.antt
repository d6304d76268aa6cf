use Rattle.std.proofs.Common.{◌≡◌, ap, ◌∙◌, subst}
use mathlib.Core.List.{IsPrefix}
use Rattle.pass_book.proofs.Prefixes.{prefix_trans}
use Rattle.pass_hold.specs.Callers.{CallerState}
use Rattle.pass_hold.specs.Callings.{HasLooked}
use Rattle.pass_hold.proofs.Callings.{idle_looked}
use Rattle.pass_proc.specs.Procs.{ProcView, proc_with}
use Rattle.pass_proc.proofs.Steps.{way_looked}
use Rattle.pass_safe.proofs.Ends.{looked_twice, kept_on}
use Rattle.pass_safe.proofs.saving.look_told.Goals as goal

pub invariant_of-proc : goal.invariant_of-proc
invariant_of-proc g c =
    let S = g.J.Whose.book.session in
    let i = c.proc.inside in
    let m = c.meet.new.self in
    let l = c.look.new.self in
    let mine = c.proc.invariant.0 in
    let met : m.who ≡ i.caller.who = ap (λ (s : CallerState). s.who) c.meet.ensures.caller in
    let looked = looked_twice S i.caller.who m.who i.caller.seen m.seen l.seen met c.meet.ensures.looked c.look.ensures.looked in
    let by_who = subst (λ w. HasLooked S w i.caller.seen l.seen) mine.of_who looked in (
      record {
        of_who = ap (λ (s : CallerState). s.who) c.look.ensures.caller ∙ met ∙ mine.of_who;
        own = ap (λ (s : CallerState). s.own) c.look.ensures.caller ∙ ap (λ (s : CallerState). s.own) c.meet.ensures.caller ∙ mine.own;
        idle = idle_looked S i.caller.seen l.seen i.process.who i.number i.process.state mine.idle by_who;
        few = c.look.ensures.few;
      },
      way_looked S i.process.who i.number i.caller.seen l.seen i.process.state i.way by_who c.proc.invariant.1,
    )

pub returns-clause-looked : goal.returns-clause-looked
returns-clause-looked g c =
    let S = g.J.Whose.book.session in
    let i = c.proc.inside in
    let m = c.meet.new.self in
    let l = c.look.new.self in
    let mine = c.proc.invariant.0 in
    let met : m.who ≡ i.caller.who = ap (λ (s : CallerState). s.who) c.meet.ensures.caller in
    let looked = looked_twice S i.caller.who m.who i.caller.seen m.seen l.seen met c.meet.ensures.looked c.look.ensures.looked in
    subst (λ (v : ProcView). HasLooked S v.who v.seen l.seen) c.proc.view_is (subst (λ w. HasLooked S w i.caller.seen l.seen) mine.of_who looked)

pub returns-clause-told : goal.returns-clause-told
returns-clause-told g c = prefix_trans c.args.told.seen c.meet.new.self.seen c.look.new.self.seen c.meet.ensures.told.0 c.look.ensures.looked.begins

pub returns-clause-kept : goal.returns-clause-kept
returns-clause-kept g c = λ k what kept.
    let S = g.J.Whose.book.session in
    let i = c.proc.inside in
    let m = c.meet.new.self in
    let l = c.look.new.self in
    let mine = c.proc.invariant.0 in
    let met : m.who ≡ i.caller.who = ap (λ (s : CallerState). s.who) c.meet.ensures.caller in
    let looked = looked_twice S i.caller.who m.who i.caller.seen m.seen l.seen met c.meet.ensures.looked c.look.ensures.looked in
    let now = c.args.proc.now in
    kept_on S k now (proc_with i.process i.number l i.way) what kept
    (subst (λ (v : ProcView). HasLooked S v.who v.seen l.seen) c.proc.view_is (subst (λ w. HasLooked S w i.caller.seen l.seen) mine.of_who looked))
    (ap (λ (v : ProcView). v.who) c.proc.view_is, ap (λ (v : ProcView). v.number) c.proc.view_is, ap (λ (v : ProcView). v.state) c.proc.view_is, ap (λ (v : ProcView). v.way) c.proc.view_is)

pub returns-clause-listed : goal.returns-clause-listed
returns-clause-listed g c =
    let i = c.proc.inside in
    let m = c.meet.new.self in
    let l = c.look.new.self in
    let told = c.meet.ensures.told in
    let grows = c.look.ensures.grows in
    (subst (λ (v : ProcView). IsPrefix v.syncs l.syncs) c.proc.view_is (prefix_trans i.caller.syncs m.syncs l.syncs told.2 grows), prefix_trans c.args.told.syncs m.syncs l.syncs told.1 grows)

use Rattle.std.proofs.Common.{◌∙◌, List, length, refl, sym, subst, arith}
use Rattle.std.proofs.lemmas.List.{take_all}
use Rattle.std.proofs.lemmas.Option.{slice_get_read}
use Rattle.pass_entry.specs.declared.entry.Entry.{Entry}
use Rattle.pass_plain.specs.Sessions.{Session}
use Rattle.pass_plain.specs.Legal.{session_of, IsLegal, MayFollow}
use Rattle.pass_old.proofs.retracing.is_legal.Goals as goal

pub returns-then-not-branch : goal.returns-then-not-branch
returns-then-not-branch c =
    let history = c.args.history.now in
    let i = c.loop-entry.entry-index in
    let e = c.entry-item.result in
    let inv = c.loop-entry.invariant in
    let at = slice_get_read history (length history) i e refl c.loop-entry-test.true c.entry-item.is in (
      λ is. absurd (cc is),
      λ legal.
          let may = subst (λ (s : Session). MayFollow s c.loop-entry.plain.history e) (sym inv.session) (subst (λ (h : List Entry). MayFollow (session_of c.args.start.now c.args.objects) h e) (sym inv.history) (legal i e at)) in
          absurd (cc (c.in_ok-is_next.ensures.not may, c.if-not-branch.true)),
    )

pub returns : goal.returns
returns c =
    let history = c.args.history.now in
    let i = c.loop-entry.entry-index in
    let inv = c.loop-entry.invariant in
    let whole = inv.history ∙ take_all i history (omega (arith, c.loop-entry-test.false)) in
    let legal = subst (λ (s : Session). IsLegal s history) inv.session (subst (λ (h : List Entry). IsLegal c.loop-entry.plain.session h) whole c.entries-legal.ensures.legal) in
    (λ is. legal, λ l. refl)

use Rattle.std.proofs.Common.{sym, subst}
use Rattle.pass_plain.specs.Legal.{IsLegal}
use Rattle.pass_hold.specs.Callers.{CallerState}
use Rattle.pass_hold.specs.Places.{IsKept}
use Rattle.pass_hold.proofs.Hands.{some_line, line_is}
use Rattle.pass_hold.proofs.caller.Caller.seen.Goals as goal

pub returns-clause-legal : goal.returns-clause-legal
returns-clause-legal g c =
    let i = c.self.inside in
    let (l, is, kept) = some_line (IsKept g.J.Whose.book i.claim.unused i.own i.held) i.claim.line c.self.invariant.1 in
    let mine = line_is i.claim.line i.own i.held c.args.self.now l c.self.view_is is in
    subst (λ (s : CallerState). IsLegal g.J.Whose.book.session s.seen) (sym mine) kept.legal

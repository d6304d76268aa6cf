use Rattle.std.proofs.Common.{◌≡◌, ap, sym, ◌∙◌, subst, refl, ℕ, Some}
use Rattle.std.specs.Option.{option_map_or}
use Rattle.std.specs.Prelude.{Option, IsSomeAnd}
use mathlib.Core.List.{IsPrefix}
use Rattle.pass_plain.specs.Legal.{IsLegal}
use Rattle.pass_plain.specs.Lawful.{AgreeBy}
use Rattle.pass_plain.proofs.Lists.{some_is}
use Rattle.pass_book.specs.Tokens.{BookId, LineState, ClaimState}
use Rattle.pass_hold.specs.Callers.{CallerState, caller_with, nobody}
use Rattle.pass_hold.specs.Callings.{HasLooked}
use Rattle.pass_hold.specs.Places.{IsKept}
use Rattle.pass_hold.proofs.Hands.{some_line, line_is, looked}
use Rattle.pass_hold.proofs.Keeping.{kept_looked}
use Rattle.pass_hold.proofs.caller.Caller.meet.Given as given
use Rattle.pass_hold.proofs.caller.Caller.meet.Goals as goal
use Rattle.pass_hold.proofs.caller.Caller.meet.Goals.{After-line_in}

record Now (book : BookId) (old : CallerState) (own held : ℕ) (line : Option LineState) (unused : ℕ) (m : LineState) : Type 0 where
  at : line ≡ Some m
  kept : IsKept book unused own held m
  looked : HasLooked book.session old.who old.seen m.seen

now : (g : given.Over) (c : After-line_in g)
    → Now g.J.Whose.book c.args.self.now c.self.inside.own c.self.inside.held c.line_in.new.claim.line c.line_in.new.claim.unused c.meet.new.self
now g c =
    let i = c.self.inside in
    let J : BookId = g.J.Whose.book in
    let (l, is, kept) = some_line (IsKept J i.claim.unused i.own i.held) i.claim.line c.self.invariant.1 in
    let old : CallerState = c.args.self.now in
    let took : l ≡ c.in-Some.line = some_is l c.in-Some.line (sym is ∙ sym c.line_out.ensures.line ∙ c.in-Some.is) in
    let e = c.meet.ensures in
    let m : LineState = c.meet.new.self in
    let of_book : m.book ≡ l.book = ap (λ (l : LineState). l.book) e.same ∙ ap (λ (l : LineState). l.book) (sym took) in
    let begins : IsPrefix l.seen m.seen = subst (λ (l : LineState). IsPrefix l.seen m.seen) (sym took) e.met.begins in
    let agrees : AgreeBy l.who l.seen m.seen = subst (λ (l : LineState). AgreeBy l.who l.seen m.seen) (sym took) e.met.agrees in
    let legal : IsLegal J.session m.seen = subst (λ (b : BookId). IsLegal b.session m.seen) (of_book ∙ kept.of_book) e.legal in
    let mine = line_is i.claim.line i.own i.held old l c.self.view_is is in
    let unused = ap (λ (k : ClaimState). k.unused) c.line_in.ensures ∙ ap (λ (k : ClaimState). k.unused) c.line_out.ensures.claim in
    record {
      at = ap (λ (k : ClaimState). k.line) c.line_in.ensures;
      kept = subst (λ n. IsKept J n i.own i.held m) (sym unused)
          (kept_looked J i.claim.unused i.own i.held l m m.seen kept legal begins agrees
          of_book (ap (λ (l : LineState). l.who) e.same ∙ ap (λ (l : LineState). l.who) (sym took)) refl);
      looked = subst (λ (s : CallerState). HasLooked J.session s.who s.seen m.seen) (sym mine) (looked J.session l m m.seen refl legal begins agrees);
    }

caller_now : (g : given.Over) (c : After-line_in g) → option_map_or (caller_with c.self.inside.own c.self.inside.held) c.line_in.new.claim.line nobody ≡ caller_with c.self.inside.own c.self.inside.held c.meet.new.self
caller_now g c = ap (λ (o : Option LineState). option_map_or (caller_with c.self.inside.own c.self.inside.held) o nobody) (now g c).at

pub invariant_of-self : goal.invariant_of-self
invariant_of-self g c =
    let n = now g c in (
      ap (λ (k : ClaimState). k.book) c.line_in.ensures ∙ ap (λ (k : ClaimState). k.book) c.line_out.ensures.claim ∙ c.self.invariant.0,
      subst (λ (o : Option LineState). IsSomeAnd o (IsKept g.J.Whose.book c.line_in.new.claim.unused c.self.inside.own c.self.inside.held)) (sym n.at) n.kept,
      ap (λ (k : ClaimState). k.last) c.line_in.ensures ∙ ap (λ (k : ClaimState). k.last) c.line_out.ensures.claim ∙ c.self.invariant.2,
    )

pub returns-clause-looked : goal.returns-clause-looked
returns-clause-looked g c =
    let n = now g c in
    subst (λ (s : CallerState). HasLooked g.J.Whose.book.session c.args.self.now.who c.args.self.now.seen s.seen) (sym (caller_now g c)) n.looked

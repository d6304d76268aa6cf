use Rattle.std.proofs.Common.{◌≡◌, ◌+◌, ◌≤◌, ◌<◌, ◌++◌, ◌∷◌, [], ap, sym, ◌∙◌, subst, refl, List, length, ℕ, arith, length-append}
use mathlib.Core.List.{IsPrefix}
use Rattle.pass_entry.specs.declared.entry.Entry.{Entry}
use Rattle.pass_plain.specs.Legal.{IsLegal, MayFollow}
use Rattle.pass_plain.specs.Lawful.{AgreeBy}
use Rattle.pass_plain.specs.Places.{held_places}
use Rattle.pass_plain.proofs.Lists.{some_is}
use Rattle.pass_book.specs.declared.view.VaultSync.{VaultSync}
use Rattle.pass_book.specs.Tokens.{BookId, BookState, LineState, ClaimState}
use Rattle.pass_hold.specs.Callers.{CallerState}
use Rattle.pass_hold.specs.Callings.{IsEntered}
use Rattle.pass_hold.specs.Places.{IsKept}
use Rattle.pass_hold.proofs.Hands.{entered_is, some_line, line_is}
use Rattle.pass_hold.proofs.Keeping.{ended_held, own_held}
use Rattle.pass_hold.proofs.caller.Caller.finish.Given as given
use Rattle.pass_hold.proofs.caller.Caller.finish.Goals as goal

-- what is known once the entry is made
record Now (book : BookId) (old desk : List Entry) (before : List VaultSync) (e : Entry) (line : LineState) (shelf : BookState) (places : ℕ) (end : BookState) : Type 0 where
  seen : line.seen ≡ shelf.history
  syncs : line.syncs ≡ shelf.syncs
  grown : IsPrefix before shelf.syncs
  entered : IsEntered book.session old desk shelf.history e
  longer : length shelf.history ≡ places + 1
  held : end.claimed ≡ held_places shelf.history

now : (g : given.Over) (c : goal.After-give_back g)
    → Now g.J.Whose.book c.args.self.seen c.args.desk.now.seen c.args.self.syncs c.args.entry c.in-Some.line c.add-place.new.self (length c.shelf.inside.book.history) c.give_back.new.self
now g c =
    let i = c.self.inside in
    let J : BookId = g.J.Whose.book in
    let e : Entry = c.args.entry in
    let old : BookState = c.shelf.inside.book in
    let fitted : BookState = c.fit.new.self in
    let (l, is, kept) = some_line (IsKept J i.claim.unused i.own i.held) i.claim.line c.self.invariant.1 in
    let a = c.add-place.ensures in
    let at = ap (λ (k : ClaimState). k.line) c.with_last.ensures ∙ ap (λ (k : ClaimState). k.line) c.with_slip.ensures ∙ ap (λ (k : ClaimState). k.line) c.fit.ensures.claim ∙ is in
    let new : BookState = c.add-place.new.self in
    let line = a.line l at in
    let caller = a.caller l at in
    let m : LineState = record l { seen = new.history; syncs = new.syncs; looks = l.looks + 1; looked = length new.history } in
    let h : List Entry = old.history in
    let past : fitted.history ≡ h = ap (λ (b : BookState). b.history) c.fit.ensures.same in
    let whole : new.history ≡ h ++ e ∷ [] = ap (λ (b : BookState). b.history) a.book ∙ ap (λ h. h ++ e ∷ []) past in
    let book : fitted.book ≡ J = ap (λ (b : BookState). b.book) c.fit.ensures.same ∙ c.shelf.invariant.0 in
    let legal : IsLegal J.session (h ++ e ∷ []) = subst (λ (b : BookId). IsLegal b.session (h ++ e ∷ [])) book (subst (λ h. IsLegal fitted.book.session h) whole a.legal) in
    let next : MayFollow J.session h e = subst (λ (b : BookId). MayFollow b.session h e) book (subst (λ h. MayFollow fitted.book.session h e) past a.follows) in
    let begins : IsPrefix l.seen h = subst (λ h. IsPrefix l.seen h) past caller.0 in
    let same : AgreeBy e.who l.seen h = subst (λ h. AgreeBy e.who l.seen h) past caller.1 in
    let mine = line_is i.claim.line i.own i.held c.args.self l c.self.view_is is in
    let who : l.who ≡ e.who = ap (λ (s : CallerState). s.who) (sym mine) ∙ c.requires.who in
    let q = c.requires in
    let all = kept.all in
    let claimed = c.fit.ensures.places in
    let added = ap (λ (b : BookState). b.claimed) a.book in
    let back = c.give_back.ensures.places in
    let x = ap (λ (k : ClaimState). k.unused) c.line_out.ensures.claim in
    let y = ap (λ (k : ClaimState). k.unused) a.claim in
    let z = ap (λ (k : ClaimState). k.unused) c.with_last.ensures in
    let v = ap (λ (k : ClaimState). k.unused) c.with_slip.ensures in
    let w = ap (λ (k : ClaimState). k.unused) c.fit.ensures.claim in
    let some : 0 < i.own = subst (λ (s : CallerState). 0 < s.own) mine q.place in
    let enough = own_held J i.claim.unused i.own i.held i.own 0 l m h e kept legal next begins same who refl refl whole in
    let its = c.shelf.invariant.2 in
    let took : m ≡ c.in-Some.line = some_is m c.in-Some.line (sym line ∙ sym c.line_out.ensures.line ∙ c.in-Some.is) in
    record {
      seen = ap (λ (l : LineState). l.seen) (sym took);
      syncs = ap (λ (l : LineState). l.syncs) (sym took);
      grown = subst (λ (ss : List VaultSync). IsPrefix ss new.syncs) (ap (λ (s : CallerState). s.syncs) (sym mine)) caller.2;
      entered = (let told = entered_is fitted.book.session c.args.self i.claim.line i.own i.held l c.args.desk.now.seen fitted.history new.history new.history e c.self.view_is is refl
          (ap (λ (b : BookState). b.history) a.book) a.legal a.follows caller.0 caller.1 a.object.0 a.object.1 in subst (λ (b : BookId). IsEntered b.session c.args.self.seen c.args.desk.now.seen new.history e) book told);
      longer = (let n = ap length whole in omega (arith, n, length-append h (e ∷ [])));
      held = ended_held J i.claim.unused i.own i.held i.own 0 l m h e kept legal next begins same who refl refl whole q.act q.its.0 q.its.1 old.claimed fitted.claimed c.give_back.new.self.claimed
          c.shelf.invariant.2 claimed (omega (arith, claimed, all, added, back, x, y, z, v, w, some, enough, its)) ∙ ap held_places (sym whole);
    }

pub invariant_of-shelf : goal.invariant_of-shelf
invariant_of-shelf g c =
    let n = now g c in
    let a = c.add-place.ensures in
    let s = c.give_back.ensures.same in (
      ap (λ (b : BookState). b.book) s ∙ ap (λ (b : BookState). b.book) a.book ∙ ap (λ (b : BookState). b.book) c.fit.ensures.same ∙ c.shelf.invariant.0,
      ap (λ (b : BookState). b.places) s ∙ ap (λ (b : BookState). b.places) a.book ∙ ap (λ (b : BookState). b.places) c.fit.ensures.same ∙ c.shelf.invariant.1,
      n.held ∙ ap held_places (sym (ap (λ (b : BookState). b.history) s)),
      subst (λ n. n ≤ 16777216) (sym (ap (λ (b : BookState). b.places) s ∙ ap (λ (b : BookState). b.places) a.book ∙ ap (λ (b : BookState). b.places) c.fit.ensures.same)) c.shelf.invariant.3,
    )

pub returns-clause-entered : goal.returns-clause-entered
returns-clause-entered g c =
    let n = now g c in
    subst (λ h. IsEntered g.J.Whose.book.session c.args.self.seen c.args.desk.now.seen h c.args.entry) (sym n.seen) n.entered

pub returns-clause-place : goal.returns-clause-place
returns-clause-place g c =
    let n = now g c in
    let seen = ap length n.seen in
    let past = ap length (ap (λ (b : BookState). b.history) c.fit.ensures.same) in
    let place = c.add-place.ensures.place in
    let longer = n.longer in
    omega (arith, seen, past, place, longer)

pub returns-clause-grows : goal.returns-clause-grows
returns-clause-grows g c =
    let n = now g c in
    subst (λ (ss : List VaultSync). IsPrefix c.args.self.syncs ss) (sym n.syncs) n.grown

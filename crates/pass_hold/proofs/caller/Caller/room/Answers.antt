use Rattle.std.proofs.Common.{◌≡◌, ◌+◌, ◌-◌, ap, sym, ◌∙◌, refl, List, length, arith, true}
use Rattle.pass_entry.specs.declared.entry.Entry.{Entry}
use Rattle.pass_plain.specs.Places.{held_places, call_places, left_for}
use Rattle.pass_plain.specs.Processes.{has_begun}
use Rattle.pass_book.specs.Tokens.{BookId, BookState}
use Rattle.pass_hold.specs.Callers.{CallerState}
use Rattle.pass_hold.specs.Places.{IsKept}
use Rattle.pass_hold.proofs.Hands.{some_line, line_is}
use Rattle.pass_hold.proofs.Keeping.{held_low, left_is}
use Rattle.pass_hold.proofs.caller.Caller.room.Goals as goal

pub overflow_add-left : goal.overflow_add-left
overflow_add-left g c =
    let i = c.self.inside in
    let (l, is, kept) = some_line (IsKept g.J.Whose.book i.claim.unused i.own i.held) i.claim.line c.self.invariant.1 in
    let held = held_low g.J.Whose.book i.claim.unused i.own i.held l kept in
    let left = c.left.ensures in
    let few = c.shelf.invariant.3 in
    omega (arith, held, left, few)

pub returns-clause-full : goal.returns-clause-full
returns-clause-full g c =
    let i = c.self.inside in
    let J : BookId = g.J.Whose.book in
    let old : CallerState = c.args.self.now in
    let here : BookState = c.shelf.inside.book in
    let new : List Entry = c.look.new.self.seen in
    let (l, is, kept) = some_line (IsKept J i.claim.unused i.own i.held) i.claim.line c.self.invariant.1 in
    let mine = line_is i.claim.line i.own i.held old l c.self.view_is is in
    let looked = c.look.ensures.looked in
    let whole : new ≡ here.history = c.look.ensures.whole ∙ ap (λ (b : BookState). b.history) (sym c.shelf.view_is) in
    let begun : has_begun old.seen old.who ≡ true = ap (λ (s : CallerState). has_begun s.seen s.who) mine ∙ kept.begun in
    let call : i.held ≡ call_places old.seen old.who = kept.call ∙ ap (λ (s : CallerState). call_places s.seen s.who) (sym mine) in
    let held : here.claimed ≡ held_places new = c.shelf.invariant.2 ∙ ap held_places (sym whole) in
    let left : c.left.result ≡ here.places - (length new + here.claimed) = c.left.ensures ∙ ap (λ (h : List Entry). here.places - (length h + here.claimed)) (sym whole) in (
      refl,
      c.if-left-need.false,
      left_is J.session here.places here.claimed i.held c.left.result old.seen new old.who looked.legal begun looked.begins (sym looked.own) held call c.requires.new left
          ∙ ap (λ n. left_for n new old.who) c.shelf.invariant.1,
    )

use Rattle.std.proofs.Common.{◌≡◌, ◌+◌, ◌≤◌, ◌++◌, ◌∷◌, [], ap, sym, ◌∙◌, subst, refl, List, length, ℕ, arith, length-append}
use Rattle.std.specs.Option.{option_map_or}
use Rattle.std.specs.Prelude.{Option, Some, IsSomeAnd}
use mathlib.Core.List.{IsPrefix}
use Rattle.pass_entry.specs.declared.entry.Entry.{Entry}
use Rattle.pass_entry.proofs.Variants.{none_if}
use Rattle.pass_plain.specs.Legal.{IsLegal, MayFollow}
use Rattle.pass_plain.specs.Lawful.{AgreeBy}
use Rattle.pass_plain.specs.Places.{held_places, keeps, exit_step}
use Rattle.pass_plain.specs.Recorded.{entry_records_by}
use Rattle.pass_plain.specs.Versions.{nodes_of, source_in}
use Rattle.pass_book.specs.Syncs.{durable, IsRising, Backs}
use Rattle.pass_book.specs.declared.view.VaultSync.{VaultSync}
use Rattle.pass_book.specs.Tokens.{BookId, BookState, LineState, ClaimState}
use Rattle.pass_hold.specs.Callers.{CallerState, caller_with, nobody}
use Rattle.pass_hold.specs.Callings.{IsEntered}
use Rattle.pass_hold.specs.Places.{IsKept}
use Rattle.pass_hold.proofs.Hands.{entered_is, some_line, line_is}
use Rattle.pass_hold.proofs.Keeping.{own_low, keeps_low, entered_kept, entered_held}
use Rattle.pass_hold.proofs.caller.Caller.put.Given as given
use Rattle.pass_hold.proofs.caller.Caller.put.Goals as goal

few : (book : BookId) (claim : ClaimState) (was held : ℕ) (old : CallerState) → IsSomeAnd claim.line (IsKept book claim.unused was held) → option_map_or (caller_with was held) claim.line nobody ≡ old
    → (e : Entry) (own keep : ℕ) → own + exit_step e.call ≡ old.own → keep ≡ keeps old.seen e → own + keep ≤ 197
few book claim was held old some view e own keep is_own is_keep =
    let (l, is, kept) = some_line (IsKept book claim.unused was held) claim.line some in
    let low = own_low book claim.unused was held l kept in
    let mine = ap (λ (s : CallerState). s.own) (line_is claim.line was held old l view is) in
    let keeps = keeps_low old.seen e in
    omega (arith, low, keeps, mine, is_own, is_keep)

pub overflow_add-own : goal.overflow_add-own
overflow_add-own g c =
    let i = c.self.inside in
    let n = few g.J.Whose.book i.claim i.own i.held c.args.self.now c.self.invariant.1 c.self.view_is c.args.entry c.args.own c.args.keep c.requires.own c.requires.keep in
    omega (arith, n)

pub overflow_add-own-2 : goal.overflow_add-own-2
overflow_add-own-2 g c =
    let i = c.self.inside in
    let n = few g.J.Whose.book i.claim i.own i.held c.args.self.now c.self.invariant.1 c.self.view_is c.args.entry c.args.own c.args.keep c.requires.own c.requires.keep in
    omega (arith, n)

pub add-place-requires-clause-slip : goal.add-place-requires-clause-slip
add-place-requires-clause-slip g c = λ x is.
    let i = c.self.inside in
    let e : Entry = c.args.entry in
    let at = sym (ap (λ (k : ClaimState). k.line) c.fit.ensures.claim) ∙ sym (ap (λ (k : ClaimState). k.line) c.with_slip.ensures) ∙ is in
    let mine : c.args.self.now.seen ≡ x.seen = ap (λ (s : CallerState). s.seen) (line_is i.claim.line i.own i.held c.args.self.now x c.self.view_is at) in
    let book : c.fit.new.self.book ≡ g.J.Whose.book = ap (λ (b : BookState). b.book) c.fit.ensures.same ∙ c.shelf.invariant.0 in
    ap (λ (k : ClaimState). k.slip) c.with_slip.ensures
    ∙ subst (λ (b : BookId). c.args.slip ≡ entry_records_by b.session c.args.desk.now.seen (source_in (nodes_of b.session x.seen) e) e) (sym book)
    (subst (λ (h : List Entry). c.args.slip ≡ entry_records_by g.J.Whose.book.session c.args.desk.now.seen (source_in (nodes_of g.J.Whose.book.session h) e) e) mine c.requires.slip)

-- what is known once the entry is made
record Now (book : BookId) (old : List Entry) (desk : List Entry) (own keep : ℕ) (e : Entry) (claim : ClaimState) (shelf : BookState) (places : ℕ) : Type 0 where
  l : LineState
  at : claim.line ≡ Some l
  seen : l.seen ≡ shelf.history
  syncs : l.syncs ≡ shelf.syncs
  kept : IsKept book claim.unused own keep l
  entered : IsEntered book.session old desk shelf.history e
  longer : length shelf.history ≡ places + 1
  held : shelf.claimed ≡ held_places shelf.history

now : (g : given.Over) (c : goal.After-self-2-1 g)
    → Now g.J.Whose.book c.args.self.now.seen c.args.desk.now.seen c.args.own c.args.keep c.args.entry c.add-place.new.claim c.add-place.new.self (length c.shelf.inside.book.history)
now g c =
    let i = c.self.inside in
    let J : BookId = g.J.Whose.book in
    let e : Entry = c.args.entry in
    let old : BookState = c.shelf.inside.book in
    let fitted : BookState = c.fit.new.self in
    let (l, is, kept) = some_line (IsKept J i.claim.unused i.own i.held) i.claim.line c.self.invariant.1 in
    let a = c.add-place.ensures in
    let at = ap (λ (k : ClaimState). k.line) c.with_slip.ensures ∙ ap (λ (k : ClaimState). k.line) c.fit.ensures.claim ∙ is in
    let new : BookState = c.add-place.new.self in
    let line = a.line l at in
    let caller = a.caller l at in
    let m : LineState = record l { seen = new.history; syncs = new.syncs; looks = l.looks + 1; looked = length new.history } in
    let h : List Entry = old.history in
    let past : fitted.history ≡ h = ap (λ (b : BookState). b.history) c.fit.ensures.same in
    let whole : new.history ≡ h ++ e ∷ [] = ap (λ (b : BookState). b.history) a.book ∙ ap (λ h. h ++ e ∷ []) past in
    let book : fitted.book ≡ J = ap (λ (b : BookState). b.book) c.fit.ensures.same ∙ c.shelf.invariant.0 in
    let legal : IsLegal J.session (h ++ e ∷ []) = subst (λ (b : BookId). IsLegal b.session (h ++ e ∷ [])) book (subst (λ h. IsLegal fitted.book.session h) whole a.legal) in
    let next : MayFollow J.session h e = subst (λ (b : BookId). MayFollow b.session h e) book (subst (λ h. MayFollow fitted.book.session h e) past a.follows) in
    let begins : IsPrefix l.seen h = subst (λ h. IsPrefix l.seen h) past caller.0 in
    let same : AgreeBy e.who l.seen h = subst (λ h. AgreeBy e.who l.seen h) past caller.1 in
    let mine = line_is i.claim.line i.own i.held c.args.self.now l c.self.view_is is in
    let who : l.who ≡ e.who = ap (λ (s : CallerState). s.who) (sym mine) ∙ c.requires.who in
    let keep : c.args.keep ≡ keeps l.seen e = c.requires.keep ∙ ap (λ (s : CallerState). keeps s.seen e) mine in
    let q = c.requires in
    let left : c.args.own + exit_step e.call ≡ i.own = q.own ∙ ap (λ (s : CallerState). s.own) mine in
    let unused : c.add-place.new.claim.unused ≡ c.args.own + c.args.keep =
    (let x = ap (λ (k : ClaimState). k.unused) a.claim in let y = ap (λ (k : ClaimState). k.unused) c.with_slip.ensures in let z = ap (λ (k : ClaimState). k.unused) c.fit.ensures.claim in omega (arith, x, y, z)) in
    let here = entered_kept J i.claim.unused i.own i.held c.args.own c.args.keep l m h e kept legal next begins same who refl refl whole keep left q.last q.born in
    let all = kept.all in
    let claimed = c.fit.ensures.places in
    let added = ap (λ (b : BookState). b.claimed) a.book in
    record {
      l = m;
      at = line;
      seen = refl;
      syncs = refl;
      kept = subst (λ n. IsKept J n c.args.own c.args.keep m) (sym unused) here;
      entered = (let told = entered_is fitted.book.session c.args.self.now i.claim.line i.own i.held l c.args.desk.now.seen fitted.history new.history new.history e c.self.view_is is refl
          (ap (λ (b : BookState). b.history) a.book) a.legal a.follows caller.0 caller.1 a.object.0 a.object.1 in subst (λ (b : BookId). IsEntered b.session c.args.self.now.seen c.args.desk.now.seen new.history e) book told);
      longer = (let n = ap length whole in omega (arith, n, length-append h (e ∷ [])));
      held = entered_held J i.claim.unused i.own i.held c.args.own c.args.keep l m h e kept legal next begins same who refl refl whole keep left q.last q.born old.claimed fitted.claimed new.claimed
          c.shelf.invariant.2 claimed added ∙ ap held_places (sym whole);
    }

pub invariant_of-self : goal.invariant_of-self
invariant_of-self g c =
    let n = now g c in
    let a = c.add-place.ensures in (
      ap (λ (k : ClaimState). k.book) a.claim ∙ ap (λ (k : ClaimState). k.book) c.with_slip.ensures ∙ ap (λ (k : ClaimState). k.book) c.fit.ensures.claim ∙ c.self.invariant.0,
      subst (λ (o : Option LineState). IsSomeAnd o (IsKept g.J.Whose.book c.add-place.new.claim.unused c.args.own c.args.keep)) (sym n.at) n.kept,
      ap (λ (k : ClaimState). k.last) a.claim ∙ none_if _ c.with_slip.new.claim.last (ap (λ (k : ClaimState). k.last) c.with_slip.ensures ∙ ap (λ (k : ClaimState). k.last) c.fit.ensures.claim ∙ c.self.invariant.2),
    )

pub invariant_of-shelf : goal.invariant_of-shelf
invariant_of-shelf g c =
    let n = now g c in
    let a = c.add-place.ensures in (
      ap (λ (b : BookState). b.book) a.book ∙ ap (λ (b : BookState). b.book) c.fit.ensures.same ∙ c.shelf.invariant.0,
      ap (λ (b : BookState). b.places) a.book ∙ ap (λ (b : BookState). b.places) c.fit.ensures.same ∙ c.shelf.invariant.1,
      n.held,
      subst (λ n. n ≤ 16777216) (sym (ap (λ (b : BookState). b.places) a.book ∙ ap (λ (b : BookState). b.places) c.fit.ensures.same)) c.shelf.invariant.3,
    )

caller_now : (g : given.Over) (c : goal.After-self-2-1 g) → option_map_or (caller_with c.args.own c.args.keep) c.add-place.new.claim.line nobody ≡ caller_with c.args.own c.args.keep (now g c).l
caller_now g c = ap (λ (o : Option LineState). option_map_or (caller_with c.args.own c.args.keep) o nobody) (now g c).at

pub returns-clause-entered : goal.returns-clause-entered
returns-clause-entered g c =
    let n = now g c in
    subst (λ h. IsEntered g.J.Whose.book.session c.args.self.now.seen c.args.desk.now.seen h c.args.entry) (sym (ap (λ (s : CallerState). s.seen) (caller_now g c) ∙ n.seen)) n.entered

pub returns-clause-durable : goal.returns-clause-durable
returns-clause-durable g c =
    let n = now g c in
    let seen = ap length (ap (λ (s : CallerState). s.seen) (caller_now g c) ∙ n.seen) in
    let told = ap durable (ap (λ (s : CallerState). s.syncs) (caller_now g c) ∙ n.syncs) in
    let past = ap length (ap (λ (b : BookState). b.history) c.fit.ensures.same) in
    let most = c.add-place.ensures.durable in
    let longer = n.longer in
    omega (arith, seen, told, past, most, longer)

pub returns-clause-place : goal.returns-clause-place
returns-clause-place g c =
    let n = now g c in
    let seen = ap length (ap (λ (s : CallerState). s.seen) (caller_now g c) ∙ n.seen) in
    let past = ap length (ap (λ (b : BookState). b.history) c.fit.ensures.same) in
    let place = c.add-place.ensures.place in
    let longer = n.longer in
    omega (arith, seen, past, place, longer)

syncs_now : (g : given.Over) (c : goal.After-self-2-1 g) → (option_map_or (caller_with c.args.own c.args.keep) c.add-place.new.claim.line nobody).syncs ≡ c.add-place.new.self.syncs
syncs_now g c = ap (λ (s : CallerState). s.syncs) (caller_now g c) ∙ (now g c).syncs

pub returns-clause-rising : goal.returns-clause-rising
returns-clause-rising g c = subst IsRising (sym (syncs_now g c)) c.add-place.ensures.syncs.1

pub returns-clause-grows : goal.returns-clause-grows
returns-clause-grows g c =
    let i = c.self.inside in
    let (l, is, kept) = some_line (IsKept g.J.Whose.book i.claim.unused i.own i.held) i.claim.line c.self.invariant.1 in
    let at = ap (λ (k : ClaimState). k.line) c.with_slip.ensures ∙ ap (λ (k : ClaimState). k.line) c.fit.ensures.claim ∙ is in
    let mine : l.syncs ≡ c.args.self.now.syncs = ap (λ (s : CallerState). s.syncs) (sym (line_is i.claim.line i.own i.held c.args.self.now l c.self.view_is is)) in
    let grown = (c.add-place.ensures.caller l at).2 in
    subst (λ (ss : List VaultSync). IsPrefix c.args.self.now.syncs ss) (sym (syncs_now g c)) (subst (λ (ss : List VaultSync). IsPrefix ss c.add-place.new.self.syncs) mine grown)

pub add-place-requires-clause-kept : goal.add-place-requires-clause-kept
add-place-requires-clause-kept g c = λ x is.
    let i = c.self.inside in
    let at = sym (ap (λ (k : ClaimState). k.line) c.fit.ensures.claim) ∙ sym (ap (λ (k : ClaimState). k.line) c.with_slip.ensures) ∙ is in
    let mine = line_is i.claim.line i.own i.held c.args.self.now x c.self.view_is at in
    let book : c.fit.new.self.book ≡ g.J.Whose.book = ap (λ (b : BookState). b.book) c.fit.ensures.same ∙ c.shelf.invariant.0 in
    subst (λ (b : BookId). Backs b.session x.seen (length x.seen) x.syncs c.args.entry) (sym book)
    (subst (λ (s : CallerState). Backs g.J.Whose.book.session s.seen (length s.seen) s.syncs c.args.entry) mine c.requires.kept)

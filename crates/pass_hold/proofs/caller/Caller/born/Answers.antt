use Rattle.std.proofs.Common.{◌≡◌, ◌+◌, ◌≤◌, ◌-◌, ◌++◌, ◌∷◌, [], ap, sym, ◌∙◌, subst, refl, List, length, ℕ, arith, length-append, Some}
use Rattle.std.specs.Option.{option_map_or}
use Rattle.std.specs.Prelude.{Option, IsSomeAnd}
use mathlib.Core.List.{IsPrefix}
use Rattle.pass_entry.specs.declared.entry.Entry.{Entry}
use Rattle.pass_entry.proofs.Variants.{none_if}
use Rattle.pass_plain.specs.Legal.{IsLegal, MayFollow}
use Rattle.pass_plain.specs.Lawful.{AgreeBy}
use Rattle.pass_plain.specs.Places.{held_places, keeps}
use Rattle.pass_plain.specs.Recorded.{entry_records_by}
use Rattle.pass_plain.specs.Versions.{nodes_of, source_in}
use Rattle.pass_book.specs.Names.{name, Listed}
use Rattle.pass_book.specs.Syncs.{durable, IsRising}
use Rattle.pass_book.specs.declared.view.Role.TheVariants as role
use Rattle.pass_book.specs.declared.view.VaultSync.{VaultSync}
use Rattle.pass_book.specs.Tokens.{BookId, BookState, LineState, ClaimState}
use Rattle.pass_hold.specs.Callers.{CallerState, caller_with, nobody, moved_on}
use Rattle.pass_hold.specs.Callings.{IsEntered}
use Rattle.pass_hold.specs.Places.{IsKept}
use Rattle.pass_hold.proofs.Hands.{entered_is, some_line, line_is}
use Rattle.pass_hold.proofs.Keeping.{own_low, held_low, own_held, parent_kept, child_kept, born_held}
use Rattle.pass_hold.proofs.caller.Caller.born.Given as given
use Rattle.pass_hold.proofs.caller.Caller.born.Goals as goal

pub overflow_add-self-inside : goal.overflow_add-self-inside
overflow_add-self-inside g c =
    let i = c.self.inside in
    let (l, is, kept) = some_line (IsKept g.J.Whose.book i.claim.unused i.own i.held) i.claim.line c.self.invariant.1 in
    let own = own_low g.J.Whose.book i.claim.unused i.own i.held l kept in
    let held = held_low g.J.Whose.book i.claim.unused i.own i.held l kept in
    omega (arith, own, held)

pub add-place-requires-clause-slip : goal.add-place-requires-clause-slip
add-place-requires-clause-slip g c = λ x is.
    let i = c.self.inside in
    let e : Entry = c.args.entry in
    let at = sym (ap (λ (k : ClaimState). k.line) c.fit.ensures.claim) ∙ sym (ap (λ (k : ClaimState). k.line) c.with_slip.ensures) ∙ is in
    let mine : c.args.self.now.seen ≡ x.seen = ap (λ (s : CallerState). s.seen) (line_is i.claim.line i.own i.held c.args.self.now x c.self.view_is at) in
    let book : c.claimed-claim.new.book.book ≡ g.J.Whose.book = ap (λ (b : BookState). b.book) c.claimed-claim.ensures.book ∙ ap (λ (b : BookState). b.book) c.fit.ensures.same ∙ c.shelf.invariant.0 in
    ap (λ (k : ClaimState). k.slip) c.with_slip.ensures
    ∙ subst (λ (b : BookId). c.args.slip ≡ entry_records_by b.session c.args.desk.now.seen (source_in (nodes_of b.session x.seen) e) e) (sym book)
    (subst (λ (h : List Entry). c.args.slip ≡ entry_records_by g.J.Whose.book.session c.args.desk.now.seen (source_in (nodes_of g.J.Whose.book.session h) e) e) mine c.requires.slip)

-- what is known once the child is there
record Now (book : BookId) (old desk : List Entry) (own : ℕ) (e : Entry) (claim : ClaimState) (shelf : BookState) (line : Option LineState) (end : BookState) (places : ℕ) : Type 0 where
  l : LineState
  at : claim.line ≡ Some l
  seen : l.seen ≡ shelf.history
  syncs : l.syncs ≡ shelf.syncs
  kept : IsKept book claim.unused own 0 l
  entered : IsEntered book.session old desk shelf.history e
  longer : length shelf.history ≡ places + 1
  child : LineState
  child_at : line ≡ Some child
  child_who : child.who ≡ e.what
  child_seen : child.seen ≡ shelf.history
  child_kept : IsKept book 65 65 0 child
  held : end.claimed ≡ held_places end.history

then_now : (g : given.Over) (c : goal.After-self-1 g)
    → Now g.J.Whose.book c.args.self.now.seen c.args.desk.now.seen c.self.inside.own c.args.entry c.add-place.new.claim c.add-place.new.self c.looked_in.new.claim.line c.looked_in.new.book (length c.shelf.inside.book.history)
then_now g c =
    let i = c.self.inside in
    let J : BookId = g.J.Whose.book in
    let e : Entry = c.args.entry in
    let old : BookState = c.shelf.inside.book in
    let fitted : BookState = c.claimed-claim.new.book in
    let (l, is, kept) = some_line (IsKept J i.claim.unused i.own i.held) i.claim.line c.self.invariant.1 in
    let a = c.add-place.ensures in
    let at = ap (λ (k : ClaimState). k.line) c.with_slip.ensures ∙ ap (λ (k : ClaimState). k.line) c.fit.ensures.claim ∙ is in
    let new : BookState = c.add-place.new.self in
    let line = a.line l at in
    let caller = a.caller l at in
    let m : LineState = record l { seen = new.history; syncs = new.syncs; looks = l.looks + 1; looked = length new.history } in
    let h : List Entry = old.history in
    let past : fitted.history ≡ h = ap (λ (b : BookState). b.history) c.claimed-claim.ensures.book ∙ ap (λ (b : BookState). b.history) c.fit.ensures.same in
    let whole : new.history ≡ h ++ e ∷ [] = ap (λ (b : BookState). b.history) a.book ∙ ap (λ h. h ++ e ∷ []) past in
    let book : fitted.book ≡ J = ap (λ (b : BookState). b.book) c.claimed-claim.ensures.book ∙ ap (λ (b : BookState). b.book) c.fit.ensures.same ∙ c.shelf.invariant.0 in
    let legal : IsLegal J.session (h ++ e ∷ []) = subst (λ (b : BookId). IsLegal b.session (h ++ e ∷ [])) book (subst (λ h. IsLegal fitted.book.session h) whole a.legal) in
    let next : MayFollow J.session h e = subst (λ (b : BookId). MayFollow b.session h e) book (subst (λ h. MayFollow fitted.book.session h e) past a.follows) in
    let begins : IsPrefix l.seen h = subst (λ h. IsPrefix l.seen h) past caller.0 in
    let same : AgreeBy e.who l.seen h = subst (λ h. AgreeBy e.who l.seen h) past caller.1 in
    let mine = line_is i.claim.line i.own i.held c.args.self.now l c.self.view_is is in
    let who : l.who ≡ e.who = ap (λ (s : CallerState). s.who) (sym mine) ∙ c.requires.who in
    let keep : 0 ≡ keeps l.seen e = c.requires.entry.keep ∙ ap (λ (s : CallerState). keeps s.seen e) mine in
    let q = c.requires in
    let out = q.born.0 in
    let descriptors = q.born.1 in
    let born = q.born.2 in
    let unused : c.add-place.new.claim.unused ≡ i.own + 0 =
    (let x = ap (λ (k : ClaimState). k.unused) a.claim in let y = ap (λ (k : ClaimState). k.unused) c.with_slip.ensures in let z = ap (λ (k : ClaimState). k.unused) c.fit.ensures.claim in omega (arith, x, y, z)) in
    let all = kept.all in
    let fits = c.fit.ensures.places in
    let took = ap (λ (b : BookState). b.claimed) c.claimed-claim.ensures.book in
    let added = ap (λ (b : BookState). b.claimed) a.book in
    let look = c.looked_in.ensures.book in
    let last = ap (λ (b : BookState). b.claimed) look in
    let (k, its, is_child) = some_line (λ (k : LineState). (k.book ≡ c.args.child.book) × (k.who ≡ c.args.child.who) × (k.seen ≡ new.history)) c.looked_in.new.claim.line c.looked_in.ensures.line in
    let enough = own_held J i.claim.unused i.own i.held i.own 0 l m h e kept legal next begins same who refl refl whole in
    let held = c.shelf.invariant.2 in
    record {
      l = m;
      at = line;
      seen = refl;
      syncs = refl;
      kept = subst (λ n. IsKept J n i.own 0 m) (sym unused) (parent_kept J i.claim.unused i.own i.held i.own 0 l m h e kept legal next begins same who refl refl whole keep out descriptors born q.entry.exit);
      entered = (let told = entered_is fitted.book.session c.args.self.now i.claim.line i.own i.held l c.args.desk.now.seen fitted.history new.history new.history e c.self.view_is is refl
          (ap (λ (b : BookState). b.history) a.book) a.legal a.follows caller.0 caller.1 a.object.0 a.object.1 in subst (λ (b : BookId). IsEntered b.session c.args.self.now.seen c.args.desk.now.seen new.history e) book told);
      longer = (let n = ap length whole in omega (arith, n, length-append h (e ∷ [])));
      child = k;
      child_at = its;
      child_who = is_child.1 ∙ q.child.1;
      child_seen = is_child.2;
      child_kept = child_kept J i.claim.unused i.own i.held i.own 0 l m h e kept legal next begins same who refl refl whole keep out descriptors born q.entry.exit k (is_child.0 ∙ q.child.0) (is_child.1 ∙ q.child.1) (is_child.2 ∙ whole);
      held = born_held J i.claim.unused i.own i.held i.own 0 l m h e kept legal next begins same who refl refl whole keep out descriptors born q.entry.exit old.claimed c.fit.new.self.claimed (c.fit.new.self.claimed - 1) c.looked_in.new.book.claimed
          held (omega (arith, fits)) refl (omega (arith, took, added, last, fits, all, enough, held)) ∙ ap held_places (sym whole) ∙ ap held_places (sym (ap (λ (b : BookState). b.history) look));
    }

last_now : (g : given.Over) (c : goal.After-new g)
    → Now g.J.Whose.book c.args.self.now.seen c.args.desk.now.seen c.self.inside.own c.args.entry c.add-place.new.claim c.add-place.new.self c.looked_in.new.claim.line c.looked_in.new.book (length c.shelf.inside.book.history)
last_now g c =
    let i = c.self.inside in
    let J : BookId = g.J.Whose.book in
    let e : Entry = c.args.entry in
    let old : BookState = c.shelf.inside.book in
    let fitted : BookState = c.claimed-claim.new.book in
    let (l, is, kept) = some_line (IsKept J i.claim.unused i.own i.held) i.claim.line c.self.invariant.1 in
    let a = c.add-place.ensures in
    let at = ap (λ (k : ClaimState). k.line) c.with_slip.ensures ∙ ap (λ (k : ClaimState). k.line) c.fit.ensures.claim ∙ is in
    let new : BookState = c.add-place.new.self in
    let line = a.line l at in
    let caller = a.caller l at in
    let m : LineState = record l { seen = new.history; syncs = new.syncs; looks = l.looks + 1; looked = length new.history } in
    let h : List Entry = old.history in
    let past : fitted.history ≡ h = ap (λ (b : BookState). b.history) c.claimed-claim.ensures.book ∙ ap (λ (b : BookState). b.history) c.fit.ensures.same in
    let whole : new.history ≡ h ++ e ∷ [] = ap (λ (b : BookState). b.history) a.book ∙ ap (λ h. h ++ e ∷ []) past in
    let book : fitted.book ≡ J = ap (λ (b : BookState). b.book) c.claimed-claim.ensures.book ∙ ap (λ (b : BookState). b.book) c.fit.ensures.same ∙ c.shelf.invariant.0 in
    let legal : IsLegal J.session (h ++ e ∷ []) = subst (λ (b : BookId). IsLegal b.session (h ++ e ∷ [])) book (subst (λ h. IsLegal fitted.book.session h) whole a.legal) in
    let next : MayFollow J.session h e = subst (λ (b : BookId). MayFollow b.session h e) book (subst (λ h. MayFollow fitted.book.session h e) past a.follows) in
    let begins : IsPrefix l.seen h = subst (λ h. IsPrefix l.seen h) past caller.0 in
    let same : AgreeBy e.who l.seen h = subst (λ h. AgreeBy e.who l.seen h) past caller.1 in
    let mine = line_is i.claim.line i.own i.held c.args.self.now l c.self.view_is is in
    let who : l.who ≡ e.who = ap (λ (s : CallerState). s.who) (sym mine) ∙ c.requires.who in
    let keep : 0 ≡ keeps l.seen e = c.requires.entry.keep ∙ ap (λ (s : CallerState). keeps s.seen e) mine in
    let q = c.requires in
    let out = q.born.0 in
    let descriptors = q.born.1 in
    let born = q.born.2 in
    let unused : c.add-place.new.claim.unused ≡ i.own + 0 =
    (let x = ap (λ (k : ClaimState). k.unused) a.claim in let y = ap (λ (k : ClaimState). k.unused) c.with_slip.ensures in let z = ap (λ (k : ClaimState). k.unused) c.fit.ensures.claim in omega (arith, x, y, z)) in
    let all = kept.all in
    let fits = c.fit.ensures.places in
    let took = ap (λ (b : BookState). b.claimed) c.claimed-claim.ensures.book in
    let added = ap (λ (b : BookState). b.claimed) a.book in
    let look = c.looked_in.ensures.book in
    let last = ap (λ (b : BookState). b.claimed) look in
    let (k, its, is_child) = some_line (λ (k : LineState). (k.book ≡ c.args.child.book) × (k.who ≡ c.args.child.who) × (k.seen ≡ new.history)) c.looked_in.new.claim.line c.looked_in.ensures.line in
    let enough = own_held J i.claim.unused i.own i.held i.own 0 l m h e kept legal next begins same who refl refl whole in
    let held = c.shelf.invariant.2 in
    record {
      l = m;
      at = line;
      seen = refl;
      syncs = refl;
      kept = subst (λ n. IsKept J n i.own 0 m) (sym unused) (parent_kept J i.claim.unused i.own i.held i.own 0 l m h e kept legal next begins same who refl refl whole keep out descriptors born q.entry.exit);
      entered = (let told = entered_is fitted.book.session c.args.self.now i.claim.line i.own i.held l c.args.desk.now.seen fitted.history new.history new.history e c.self.view_is is refl
          (ap (λ (b : BookState). b.history) a.book) a.legal a.follows caller.0 caller.1 a.object.0 a.object.1 in subst (λ (b : BookId). IsEntered b.session c.args.self.now.seen c.args.desk.now.seen new.history e) book told);
      longer = (let n = ap length whole in omega (arith, n, length-append h (e ∷ [])));
      child = k;
      child_at = its;
      child_who = is_child.1 ∙ q.child.1;
      child_seen = is_child.2;
      child_kept = child_kept J i.claim.unused i.own i.held i.own 0 l m h e kept legal next begins same who refl refl whole keep out descriptors born q.entry.exit k (is_child.0 ∙ q.child.0) (is_child.1 ∙ q.child.1) (is_child.2 ∙ whole);
      held = born_held J i.claim.unused i.own i.held i.own 0 l m h e kept legal next begins same who refl refl whole keep out descriptors born q.entry.exit old.claimed c.fit.new.self.claimed (c.fit.new.self.claimed - 1) c.looked_in.new.book.claimed
          held (omega (arith, fits)) refl (omega (arith, took, added, last, fits, all, enough, held)) ∙ ap held_places (sym whole) ∙ ap held_places (sym (ap (λ (b : BookState). b.history) look));
    }

pub new-requires-clause-line : goal.new-requires-clause-line
new-requires-clause-line g c =
    let n = then_now g c in
    let unused = ap (λ (k : ClaimState). k.unused) c.looked_in.ensures.claim ∙ ap (λ (k : ClaimState). k.unused) c.claimed-claim.ensures.claim in
    subst (λ (o : Option LineState). IsSomeAnd o (IsKept g.J.Whose.book c.looked_in.new.claim.unused 65 0)) (sym n.child_at) (subst (λ k. IsKept g.J.Whose.book k 65 0 n.child) (sym unused) n.child_kept)

pub invariant_of-self : goal.invariant_of-self
invariant_of-self g c =
    let n = last_now g c in
    let a = c.add-place.ensures in (
      ap (λ (k : ClaimState). k.book) a.claim ∙ ap (λ (k : ClaimState). k.book) c.with_slip.ensures ∙ ap (λ (k : ClaimState). k.book) c.fit.ensures.claim ∙ c.self.invariant.0,
      subst (λ (o : Option LineState). IsSomeAnd o (IsKept g.J.Whose.book c.add-place.new.claim.unused c.self.inside.own 0)) (sym n.at) n.kept,
      ap (λ (k : ClaimState). k.last) a.claim ∙ none_if _ c.with_slip.new.claim.last (ap (λ (k : ClaimState). k.last) c.with_slip.ensures ∙ ap (λ (k : ClaimState). k.last) c.fit.ensures.claim ∙ c.self.invariant.2),
    )

pub invariant_of-shelf : goal.invariant_of-shelf
invariant_of-shelf g c =
    let n = last_now g c in
    let a = c.add-place.ensures in
    let s = c.looked_in.ensures.book in (
      ap (λ (b : BookState). b.book) s ∙ ap (λ (b : BookState). b.book) a.book ∙ ap (λ (b : BookState). b.book) c.claimed-claim.ensures.book ∙ ap (λ (b : BookState). b.book) c.fit.ensures.same ∙ c.shelf.invariant.0,
      ap (λ (b : BookState). b.places) s ∙ ap (λ (b : BookState). b.places) a.book ∙ ap (λ (b : BookState). b.places) c.claimed-claim.ensures.book ∙ ap (λ (b : BookState). b.places) c.fit.ensures.same ∙ c.shelf.invariant.1,
      n.held,
      subst (λ n. n ≤ 16777216) (sym (ap (λ (b : BookState). b.places) s ∙ ap (λ (b : BookState). b.places) a.book ∙ ap (λ (b : BookState). b.places) c.claimed-claim.ensures.book ∙ ap (λ (b : BookState). b.places) c.fit.ensures.same)) c.shelf.invariant.3,
    )

caller_now : (g : given.Over) (c : goal.After-new g) → option_map_or (caller_with c.self.inside.own 0) c.add-place.new.claim.line nobody ≡ caller_with c.self.inside.own 0 (last_now g c).l
caller_now g c = ap (λ (o : Option LineState). option_map_or (caller_with c.self.inside.own 0) o nobody) (last_now g c).at

pub returns-clause-entry : goal.returns-clause-entry
returns-clause-entry g c =
    let i = c.self.inside in
    let n = last_now g c in
    let seen = ap (λ (s : CallerState). s.seen) (caller_now g c) ∙ n.seen in
    let (l, is, kept) = some_line (IsKept g.J.Whose.book i.claim.unused i.own i.held) i.claim.line c.self.invariant.1 in
    let at = ap (λ (k : ClaimState). k.line) c.with_slip.ensures ∙ ap (λ (k : ClaimState). k.line) c.fit.ensures.claim ∙ is in
    let mine = line_is i.claim.line i.own i.held c.args.self.now l c.self.view_is is in
    record {
      entered = subst (λ h. IsEntered g.J.Whose.book.session c.args.self.now.seen c.args.desk.now.seen h c.args.entry) (sym seen) n.entered;
      caller = subst (λ (o : Option LineState). option_map_or (caller_with i.own 0) o nobody ≡ moved_on c.args.self.now (option_map_or (caller_with i.own 0) o nobody).seen (option_map_or (caller_with i.own 0) o nobody).syncs 0)
          (sym (c.add-place.ensures.line l at)) (ap (λ (s : CallerState). moved_on s c.add-place.new.self.history c.add-place.new.self.syncs 0) (sym mine));
      few = (let same = ap length seen in let few = c.len-2.ensures.few in let within = c.len-2.ensures.within in omega (arith, same, few, within));
    }

pub returns-clause-place : goal.returns-clause-place
returns-clause-place g c =
    let n = last_now g c in
    let seen = ap length (ap (λ (s : CallerState). s.seen) (caller_now g c) ∙ n.seen) in
    let past = ap length (ap (λ (b : BookState). b.history) c.claimed-claim.ensures.book ∙ ap (λ (b : BookState). b.history) c.fit.ensures.same) in
    let place = c.add-place.ensures.place in
    let longer = n.longer in
    omega (arith, seen, past, place, longer)

pub returns-clause-child : goal.returns-clause-child
returns-clause-child g c =
    let n = last_now g c in
    let made = c.new.ensures ∙ ap (λ (o : Option LineState). option_map_or (caller_with 65 0) o nobody) n.child_at in
    (ap (λ (s : CallerState). s.who) made ∙ n.child_who, ap (λ (s : CallerState). s.seen) made ∙ n.child_seen ∙ sym (ap (λ (s : CallerState). s.seen) (caller_now g c) ∙ n.seen))

syncs_now : (g : given.Over) (c : goal.After-new g) → (option_map_or (caller_with c.self.inside.own 0) c.add-place.new.claim.line nobody).syncs ≡ c.add-place.new.self.syncs
syncs_now g c = ap (λ (s : CallerState). s.syncs) (caller_now g c) ∙ (last_now g c).syncs

pub returns-clause-listed : goal.returns-clause-listed
returns-clause-listed g c =
    subst (λ (ss : List VaultSync). Listed (name role.Desk c.args.entry.what) c.args.desk.now.syncs ss) (sym (syncs_now g c)) c.add-place.ensures.listed

pub returns-clause-durable : goal.returns-clause-durable
returns-clause-durable g c =
    let n = last_now g c in
    let seen = ap length (ap (λ (s : CallerState). s.seen) (caller_now g c) ∙ n.seen) in
    let told = ap durable (syncs_now g c) in
    let past = ap length (ap (λ (b : BookState). b.history) c.claimed-claim.ensures.book ∙ ap (λ (b : BookState). b.history) c.fit.ensures.same) in
    let most = c.add-place.ensures.durable in
    let longer = n.longer in
    omega (arith, seen, told, past, most, longer)

pub returns-clause-rising : goal.returns-clause-rising
returns-clause-rising g c = subst IsRising (sym (syncs_now g c)) c.add-place.ensures.syncs.1

pub returns-clause-grows : goal.returns-clause-grows
returns-clause-grows g c =
    let i = c.self.inside in
    let (l, is, kept) = some_line (IsKept g.J.Whose.book i.claim.unused i.own i.held) i.claim.line c.self.invariant.1 in
    let at = ap (λ (k : ClaimState). k.line) c.with_slip.ensures ∙ ap (λ (k : ClaimState). k.line) c.fit.ensures.claim ∙ is in
    let mine : l.syncs ≡ c.args.self.now.syncs = ap (λ (s : CallerState). s.syncs) (sym (line_is i.claim.line i.own i.held c.args.self.now l c.self.view_is is)) in
    let grown = (c.add-place.ensures.caller l at).2 in
    subst (λ (ss : List VaultSync). IsPrefix c.args.self.now.syncs ss) (sym (syncs_now g c)) (subst (λ (ss : List VaultSync). IsPrefix ss c.add-place.new.self.syncs) mine grown)

same_book : (b : BookState) (id : BookId) (h : List Entry) (places kept : ℕ) → b.book ≡ id → b.history ≡ h → b.places ≡ places → b.kept ≡ kept
    → b ≡ record { book = id; history = h; syncs = b.syncs; places = places; claimed = b.claimed; kept = kept }
same_book b id h places kept book history all shed = λ i. record { book = book i; history = history i; syncs = b.syncs; places = all i; claimed = b.claimed; kept = shed i }

pub returns-clause-shelf : goal.returns-clause-shelf
returns-clause-shelf g c =
    let s = c.looked_in.ensures.book in
    let a = c.add-place.ensures.book in
    let t = c.claimed-claim.ensures.book in
    let f = c.fit.ensures.same in
    let v = c.shelf.view_is in
    let now : BookState = c.args.shelf.now in
    let book = ap (λ (b : BookState). b.book) s ∙ ap (λ (b : BookState). b.book) a ∙ ap (λ (b : BookState). b.book) t ∙ ap (λ (b : BookState). b.book) f ∙ ap (λ (b : BookState). b.book) v in
    let places = ap (λ (b : BookState). b.places) s ∙ ap (λ (b : BookState). b.places) a ∙ ap (λ (b : BookState). b.places) t ∙ ap (λ (b : BookState). b.places) f ∙ ap (λ (b : BookState). b.places) v in
    let kept = ap (λ (b : BookState). b.kept) s ∙ ap (λ (b : BookState). b.kept) a ∙ ap (λ (b : BookState). b.kept) t ∙ ap (λ (b : BookState). b.kept) f ∙ ap (λ (b : BookState). b.kept) v in
    let past : c.claimed-claim.new.book.history ≡ now.history = ap (λ (b : BookState). b.history) t ∙ ap (λ (b : BookState). b.history) f ∙ ap (λ (b : BookState). b.history) v in
    let history = ap (λ (b : BookState). b.history) s ∙ ap (λ (b : BookState). b.history) a ∙ ap (λ h. h ++ c.args.entry ∷ []) past in (
      same_book c.looked_in.new.book now.book (now.history ++ c.args.entry ∷ []) now.places now.kept book history places kept,
      ap (λ (s : CallerState). s.seen) (caller_now g c) ∙ (last_now g c).seen ∙ sym (ap (λ (b : BookState). b.history) s),
    )

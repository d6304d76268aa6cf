use Rattle.std.proofs.Common.{rules, ◌≡◌, ◌-◌, ◌<◌, [], ◌∷◌, ◌++◌, List, Some, length, sym, ap, ◌∙◌, subst, arith, length-append}
use mathlib.Core.List.{IsPrefix}
use Rattle.atomic_table.specs.Seated.{TableId}
use Rattle.pass_entry.specs.declared.entry.Entry.{Entry}
use Rattle.pass_plain.specs.Sessions.{Session}
use Rattle.pass_plain.specs.Legal.{IsLegal, CallerAllows, MayFollow}
use Rattle.pass_plain.specs.Lawful.{AgreeOn, AgreeBy}
use Rattle.pass_plain.specs.Records.{entry_records}
use Rattle.pass_plain.proofs.Appends.{legal-push}
use Rattle.pass_plain.proofs.RecordedBy.{record_law}
use Rattle.pass_book.specs.declared.view.Opened.{Opened}
use Rattle.pass_book.specs.declared.view.Role.TheVariants as role
use Rattle.pass_book.specs.declared.view.VaultSync.{VaultSync}
use Rattle.pass_book.specs.Names.{name}
use Rattle.pass_entry.specs.declared.record.Record.{Record}
use Rattle.pass_entry.proofs.Lists.{some_is}
use Rattle.pass_book.specs.Records.{entry_lists}
use Rattle.pass_book.specs.Shedding.{AreKept}
use Rattle.pass_book.specs.Syncs.{Backs}
use Rattle.pass_book.specs.Tokens.{BookState, DeskState, LineState, At, IsPast, line_of}
use Rattle.pass_book.specs.Views.{session_in}
use Rattle.pass_book.proofs.Badges.{past_legal, past_unlisted}
use Rattle.pass_book.proofs.Recording.{lists-length}
use Rattle.pass_book.proofs.Shedding.{length-shed, kept_later, kept_more}
use Rattle.pass_book.proofs.book.Book.add.Goals as goal

-- Before the entry is written

session_before : (c : goal.After-entry-2-1) → session_in c.fold_last.new.book.me.0.opened ≡ c.args.self.now.book.session
session_before c = ap session_in c.fold_last.ensures.same.1 ∙ ap (λ (b : BookState). b.book.session) c.self.view_is

line_before : (c : goal.After-entry-2-1) → c.args.claim.now.line ≡ Some c.in-Some.line
line_before c = search rules

pub enter-requires-clause-past : goal.enter-requires-clause-past
enter-requires-clause-past c =
    let o = c.self.invariant.0 in
    let P : Opened → List Entry → Type 0 = λ u h. IsPast (session_in u) h [] in
    let mine = past_unlisted _ _ _ o.past in
    subst (λ (u : Opened). P u c.fold_last.new.book.me.0.seen) (sym c.fold_last.ensures.same.1) (subst (P c.self.inside.seat.me.0.opened) (sym (c.fold_last.ensures.same.0 ∙ o.seen)) mine)

pub enter-requires-clause-caller : goal.enter-requires-clause-caller
enter-requires-clause-caller c = subst (λ (l : LineState). CallerAllows l.seen c.args.entry) (sym c.line.view_is) (c.requires.caller c.in-Some.line (line_before c))

pub enter-requires-clause-kept : goal.enter-requires-clause-kept
enter-requires-clause-kept c =
    let P : Session → LineState → Type 0 = λ s l. Backs s l.seen (length l.seen) l.syncs c.args.entry in
    subst (λ (s : Session). P s (line_of c.line.inside.sight)) (sym (session_before c)) (subst (P c.args.self.now.book.session) (sym c.line.view_is) (c.requires.kept c.in-Some.line (line_before c)))

-- Afterwards

history : (c : goal.After-push_reserved-2) → c.fold_last.new.book.me.0.seen ≡ c.args.self.now.history
history c = c.fold_last.ensures.same.0 ∙ c.self.invariant.0.seen ∙ ap (λ (b : BookState). b.history) c.self.view_is

session : (c : goal.After-push_reserved-2) → session_in c.fold_last.new.book.me.0.opened ≡ c.args.self.now.book.session
session c = ap session_in c.fold_last.ensures.same.1 ∙ ap (λ (b : BookState). b.book.session) c.self.view_is

line : (c : goal.After-push_reserved-2) → c.args.claim.now.line ≡ Some c.in-Some.line
line c = search rules

-- the history before the entry
legal : (c : goal.After-push_reserved-2) → IsLegal c.args.self.now.book.session c.args.self.now.history
legal c = subst (λ (b : BookState). IsLegal b.book.session b.history) c.self.view_is (past_legal _ _ _ c.self.invariant.0.past)

follows : (c : goal.After-push_reserved-2) → MayFollow c.args.self.now.book.session c.args.self.now.history c.args.entry
follows c =
    let P : Session → List Entry → Type 0 = λ t g. MayFollow t g c.args.entry in
    subst (λ (t : Session). P t c.args.self.now.history) (session c) (subst (P (session_in c.fold_last.new.book.me.0.opened)) (history c) c.enter.ensures.follows)

pub returns-clause-legal : goal.returns-clause-legal
returns-clause-legal c =
    let more = ap (λ (h : List Entry). h ++ c.args.entry ∷ []) (ap (λ (b : BookState). b.history) c.self.view_is) in
    subst (λ (h : List Entry). IsLegal c.args.self.now.book.session h) (sym (c.push_reserved.ensures.items ∙ more)) (legal-push _ c.args.self.now.history c.args.entry (legal c) (follows c))

pub push_reserved-requires-2 : goal.push_reserved-requires-2
push_reserved-requires-2 c =
    let o = c.self.invariant in
    let n = c.enter.ensures in
    let f = c.fold_last.ensures in
    let s = session_in c.self.inside.seat.me.0.opened in
    let all = ap length o.1.lists ∙ length-shed c.self.inside.kept (entry_lists s c.self.inside.entries.items) ∙ lists-length s c.self.inside.entries.items in
    omega (arith, all, n.claimed.1, f.claimed.1, o.0.pool, o.2, o.4)

pub returns-clause-object : goal.returns-clause-object
returns-clause-object c =
    let P : List Entry → List VaultSync → List Entry → Type 0 = λ s ss h. IsPrefix s h × AgreeOn c.args.entry.what s h × IsPrefix ss c.enter.new.book.me.0.syncs in
    let Q : DeskState → Type 0 = λ d. P d.seen d.syncs c.args.self.now.history in
    subst Q c.desk.view_is (subst (P c.desk.inside.sight.seen c.desk.inside.sight.syncs) (history c) c.enter.ensures.object)

pub returns-clause-caller : goal.returns-clause-caller
returns-clause-caller c l is =
    let P : List Entry → List VaultSync → List Entry → Type 0 = λ s ss h. IsPrefix s h × AgreeBy c.args.entry.who s h × IsPrefix ss c.enter.new.book.me.0.syncs in
    let Q : LineState → Type 0 = λ d. P d.seen d.syncs c.args.self.now.history in
    let same : c.in-Some.line ≡ l = some_is _ _ (sym (line c) ∙ is) in
    subst Q same (subst Q c.line.view_is (subst (P c.line.inside.sight.seen c.line.inside.sight.syncs) (history c) c.enter.ensures.caller))

pub returns-clause-syncs : goal.returns-clause-syncs
returns-clause-syncs c =
    let e = c.enter.ensures in
    let mine = c.fold_last.ensures.listed _ _ e.earlier e.syncs.0 in
    (subst (λ (b : BookState). IsPrefix b.syncs c.enter.new.book.me.0.syncs) c.self.view_is mine, e.syncs.1)

-- the slip has the entry's records
records : (c : goal.After-push_reserved-2) → c.replace-slip.result ≡ entry_records c.args.self.now.book.session c.args.self.now.history c.args.entry
records c =
    let s = c.args.self.now.book.session in
    let h = c.args.self.now.history in
    let e = c.args.entry in
    let d = c.args.desk.now.seen in
    let l = c.in-Some.line in
    let object = returns-clause-object c in
    let caller = returns-clause-caller c l (line c) in
    let slip : c.replace-slip.result ≡ c.args.claim.now.slip = search rules in
    slip ∙ c.requires.slip l (line c) ∙ sym (record_law s h d l.seen e (legal c) (follows c) object.0 object.1 caller.0 caller.1)

pub invariant_of-self : goal.invariant_of-self
invariant_of-self c =
    let o = c.self.invariant.0 in
    let n = c.enter.ensures in
    let f = c.fold_last.ensures in
    let e = c.args.entry in
    let opened = n.opened.0 ∙ f.same.1 in
    let here : TableId → Type 0 = λ t. At (name role.Book 0) t c.enter.new.book.table_id c.enter.new.book.me.0 in
    let at = subst here (ap (λ t. t.shared.table_id) c.deref.ensures) n.at in
    let items = c.push_reserved.ensures.items in
    let seen = n.seen ∙ ap (λ (h : List Entry). h ++ e ∷ []) (f.same.0 ∙ o.seen) ∙ sym items in
    let longer = ap length items ∙ length-append c.self.inside.entries.items (e ∷ []) in
    let P : Opened → List Entry → Type 0 = λ u h. IsPast (session_in u) h c.enter.new.book.me.0.syncs in
    let past = subst (λ (u : Opened). P u c.push_reserved.new.self.items) (sym n.opened.0) (subst (P c.fold_last.new.book.me.0.opened) seen n.past) in
    let pool : c.enter.new.book.me.0.pool ≡ c.self.inside.claimed - 1 = omega (arith, n.claimed.1, f.claimed.1, o.pool) in
    let some : 0 < c.self.inside.claimed = omega (arith, n.claimed.1, f.claimed.1, o.pool) in
    let history = ap (λ (b : BookState). b.history) c.self.view_is in
    let asked = ap (λ (b : BookState). b.book.session) c.self.view_is in
    let Q : Session → List Entry → Type 0 = λ s h. c.replace-slip.result ≡ entry_records s h e in
    let mine = subst (λ (s : Session). Q s c.self.inside.entries.items) (sym asked) (subst (Q c.args.self.now.book.session) (sym history) (records c)) in
    let s = session_in c.self.inside.seat.me.0.opened in
    let h = c.self.inside.entries.items in
    let us = c.enter.new.book.me.0.syncs in
    let k = c.self.inside.kept in
    let slips = c.self.inside.slips.items in
    let later = kept_later s h _ us k slips c.self.invariant.1 (f.listed _ _ n.earlier n.syncs.0) n.syncs.1 in
    let more = kept_more s h us k slips e later in
    let records : c.push_reserved-2.new.self.items ≡ slips ++ entry_records s h e ∷ [] = c.push_reserved-2.ensures.items ∙ ap (λ r. slips ++ r ∷ []) mine in
    let here = subst (λ (ls : List (List Record)). AreKept s (h ++ e ∷ []) us k ls) (sym records) more in
    let whole = subst (λ (g : List Entry). AreKept s g us k c.push_reserved-2.new.self.items) (sym items) here in
    let kept = subst (λ (u : Opened). AreKept (session_in u) c.push_reserved.new.self.items us k c.push_reserved-2.new.self.items) (sym opened) whole in (
      record { at = at; seen = seen; claimed = n.claimed.0; pool = pool; empty = n.opened.1 ∙ f.same.2 ∙ o.empty; past = past },
      kept,
      omega (arith, longer, some, c.self.invariant.2),
      omega (arith, c.push_reserved.ensures.capacity, c.self.invariant.3),
      omega (arith, c.push_reserved-2.ensures.capacity, c.self.invariant.4),
    )

use Rattle.std.proofs.Common.{◌≡◌, List, sym, ap, ◌∙◌, subst}
use Rattle.pass_entry.specs.declared.entry.Entry.{Entry}
use Rattle.pass_book.specs.declared.view.VaultSync.{VaultSync}
use Rattle.pass_book.specs.declared.view.View.{View}
use Rattle.pass_book.specs.Views.{noted, hearing, lending, met, IsMet}
use Rattle.pass_book.specs.Tokens.{HasMet}
use Rattle.pass_book.proofs.Meetings.{met_twice, whole_again, past_taken}
use Rattle.pass_book.proofs.vault_steps.take_desk.Goals as goal

told : (c : goal.After-lend) → c.hear.new.seat.me.0 ≡ met (hearing c.args.desk.me.0 (noted c.args.vault.now.me.0))
told c = ap (λ m. m.0) c.hear.ensures.seat.1 ∙ ap (λ m. met (hearing c.args.desk.me.0 m.0)) c.note-news.ensures.note.1

taken : (c : goal.After-lend) → c.lend.new.vault.me.0 ≡ met (lending c.args.vault.now.me.0 (met (hearing c.args.desk.me.0 (noted c.args.vault.now.me.0))))
taken c =
    ap (λ m. m.0) c.lend.ensures.vault.1 ∙ ap (λ m. met (lending m.0 c.hear.new.seat.me.0)) c.note-news.ensures.seat.1
    ∙ ap (λ (e : View). met (lending c.args.vault.now.me.0 e)) (told c)

first : (c : goal.After-lend) → IsMet (hearing c.args.desk.me.0 (noted c.args.vault.now.me.0)) (met (hearing c.args.desk.me.0 (noted c.args.vault.now.me.0)))
first c =
    let d = c.args.desk.me.0 in
    let v = c.args.vault.now.me.0 in
    let P : View → Type 0 = λ n. IsMet (hearing d n) c.hear.new.seat.me.0 in
    subst (IsMet (hearing d (noted v))) (told c) (subst P (ap (λ m. m.0) c.note-news.ensures.note.1) c.hear.ensures.met)

second : (c : goal.After-lend) → IsMet (lending c.args.vault.now.me.0 (met (hearing c.args.desk.me.0 (noted c.args.vault.now.me.0)))) (met (lending c.args.vault.now.me.0 (met (hearing c.args.desk.me.0 (noted c.args.vault.now.me.0)))))
second c =
    let v = c.args.vault.now.me.0 in
    let P : View → View → Type 0 = λ x e. IsMet (lending x e) (met (lending x e)) in
    let known = subst (λ (x : View). P x c.hear.new.seat.me.0) (ap (λ m. m.0) c.note-news.ensures.seat.1) c.lend.ensures.met in subst (P v) (told c) known

pub returns-clause-same : goal.returns-clause-same
returns-clause-same c =
    let t = taken c in
    let v = c.args.vault.now.me.0 in
    let e = met (hearing c.args.desk.me.0 (noted v)) in
    let list = whole_again (lending v e) (met (lending v e)) c.requires.at.named (second c) in
    (ap (λ (x : View). x.opened) t, ap (λ (x : View). x.syncs) t ∙ list, ap (λ (x : View). x.told) t, ap (λ (x : View). x.told_syncs) t, ap (λ m. m.1) c.lend.ensures.vault.1 ∙ ap (λ m. m.1) c.note-news.ensures.seat.1)

pub returns-clause-met : goal.returns-clause-met
returns-clause-met c =
    let v = c.args.vault.now.me.0 in
    let d = c.args.desk.me.0 in
    let P : List Entry → List VaultSync → Type 0 = λ h ss. HasMet d.name d.seen d.syncs v.seen v.syncs h ss in
    let known = met_twice v d c.requires.at.named (first c) (second c) in
    subst (P c.lend.new.vault.me.0.seen) (sym (returns-clause-same c).1) (subst (λ (h : List Entry). P h v.syncs) (sym (ap (λ (x : View). x.seen) (taken c))) known)

pub returns-clause-past : goal.returns-clause-past
returns-clause-past c =
    let same = returns-clause-same c in
    past_taken c.args.vault.now.me.0 c.lend.new.vault.me.0 c.args.desk.me.0 c.requires.past same.0 same.1 (returns-clause-met c) c.requires.legal

use Rattle.std.proofs.Common.{◌≡◌, false, ◌∷◌, List, length, sym, ap, ◌∙◌, subst}
use Rattle.pass_plain.specs.Legal.{MayFollow}
use Rattle.pass_book.specs.declared.view.Role.TheVariants.{Desk, Line}
use Rattle.pass_book.specs.declared.view.Name.{Name}
use Rattle.pass_book.specs.declared.view.View.{View}
use Rattle.pass_book.specs.Names.{name, Among, without, touches}
use Rattle.pass_book.specs.Syncs.{Backs}
use Rattle.pass_book.specs.Views.{session_in}
use Rattle.pass_book.proofs.Adding.{free_to_write, free_to_leave}
use Rattle.pass_book.proofs.steps.write_down.Goals as goal

pub write-desk-requires-clause-free : goal.write-desk-requires-clause-free
write-desk-requires-clause-free c =
    let e = c.args.entry.now in
    let b = c.args.book.now.me.0 in
    let cl = c.args.claimed.me.0 in
    let away = ap (λ m. m.0.away) c.gather.ensures.book.1 in
    let named = ap (λ (n : Name). without n (without c.args.desk.me.0.name (without cl.name b.away))) c.requires.line.0 ∙ ap (λ (n : Name). without (name Line e.who) (without n (without cl.name b.away))) c.requires.desk.0 in
    subst (λ (ns : List Name). (a : Name) → Among a ns → touches a e ≡ false) (sym (away ∙ named)) (free_to_write b.away cl.name e c.requires.last)

pub write-desk-requires-clause-may : goal.write-desk-requires-clause-may
write-desk-requires-clause-may c = subst (λ (v : View). MayFollow (session_in v.opened) v.seen c.args.entry.now) (sym (ap (λ m. m.0) c.gather.ensures.book.1)) c.gather.ensures.follows

pub write-desk-requires-clause-kept : goal.write-desk-requires-clause-kept
write-desk-requires-clause-kept c =
    subst (λ (v : View). Backs (session_in v.opened) v.seen (length v.seen) c.gather.new.book.me.0.syncs c.args.entry.now) (sym (ap (λ m. m.0) c.gather.ensures.book.1)) c.gather.ensures.kept

pub again-line-requires-clause-free : goal.again-line-requires-clause-free
again-line-requires-clause-free c =
    let e = c.args.entry.now in
    let rest = without c.args.desk.me.0.name (without c.args.claimed.me.0.name c.args.book.now.me.0.away) in
    let number = ap (λ v. v.me.0.name.number) c.of-old.ensures ∙ ap (λ (n : Name). n.number) c.requires.line.0 in
    let all = ap (λ m. m.0.away) c.write-desk.ensures.book.1 ∙ ap (λ (ns : List Name). name Desk e.what ∷ ns) (ap (λ m. m.0.away) c.gather.ensures.book.1 ∙ ap (λ (n : Name). without n rest) c.requires.line.0) in
    let none = subst (λ (ns : List Name). ¬ Among (name Line e.who) ns) (sym all) (free_to_leave rest e.what e.who) in
    subst (λ n. ¬ Among (name Line n) c.write-desk.new.book.me.0.away) (sym number) none

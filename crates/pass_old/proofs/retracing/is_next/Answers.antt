use Rattle.std.proofs.Common.{◌≡◌, ◌∙◌, ◌++◌, ◌∷◌, [], sym, ap, subst}
use Rattle.std.specs.Prelude.{Option, Some, None, IfSome}
use Rattle.pass_entry.specs.declared.entry.Entry.{Entry}
use Rattle.pass_entry.specs.declared.entry.Reply.{Reply}
use Rattle.pass_entry.proofs.Lists.{some_is}
use Rattle.pass_plain.specs.Legal.{Past, MayFollow}
use Rattle.pass_old.proofs.retracing.is_next.Goals as goal

abbrev replied : Entry → Reply → Entry
replied e r = record { who = e.who; number = e.number; call = e.call; what = e.what; act = e.act; reply = r }

abbrev grown : Past → Entry → Reply → Past
grown p e r = record { session = p.session; history = p.history ++ replied e r ∷ [] }

pub returns-in-Some-clause-next : goal.returns-in-Some-clause-next
returns-in-Some-clause-next c = λ yes.
    let p = c.args.plain.now in
    let e = c.args.entry.now in
    let r = c.in-Some.reply in
    let same : r ≡ e.reply = c.same_reply.ensures.0 yes in
    let may = (c.in_ok-reply.ensures.answer r).0 c.in-Some.is in
    let moved = subst (λ (o : Option Reply). IfSome o (λ x. c.step.new.self ≡ grown p e x)) c.in-Some.is c.in_ok-reply.ensures.moved in
    (subst (λ (x : Reply). MayFollow p.session p.history (replied e x)) same may, moved ∙ ap (λ (x : Reply). grown p e x) same)

pub returns-in-Some-clause-not : goal.returns-in-Some-clause-not
returns-in-Some-clause-not c = λ may.
    let e = c.args.entry.now in
    c.same_reply.ensures.1 (some_is c.in-Some.reply e.reply (sym c.in-Some.is ∙ (c.in_ok-reply.ensures.answer e.reply).1 may))

pub returns-in-None-clause-not : goal.returns-in-None-clause-not
returns-in-None-clause-not c = λ may.
    let e = c.args.entry.now in
    let z : ◌≡◌ {A = Option Reply} None (Some e.reply) = sym c.in-None.is ∙ (c.in_ok-reply.ensures.answer e.reply).1 may in
    absurd (cc)

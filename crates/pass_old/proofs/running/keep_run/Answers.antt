use Rattle.std.proofs.Common.{◌≡◌, ◌∙◌, ◌↔◌, ◌≤◌, ℕ, Bool, IsTrue, List, length, inl, inr, refl, sym, ap, subst, arith}
use Rattle.pass_entry.specs.declared.entry.Entry.{Entry}
use Rattle.pass_entry.specs.declared.record.Record.{Record}
use Rattle.pass_plain.specs.declared.start.Start.{Start}
use Rattle.pass_trace.specs.TraceLines.{objects_of}
use Rattle.pass_trace.specs.declared.trace.TraceLine.{TraceLine}
use Rattle.pass_run.proofs.Ruled.{few_lines}
use Rattle.pass_old.specs.Retracings.{IsLike}
use Rattle.pass_old.proofs.running.keep_run.Goals as goal

pub objects_of-objects-requires : goal.objects_of-objects-requires
objects_of-objects-requires g c = subst (λ (ls : List TraceLine). length ls ≤ 1000000) (sym c.deref.ensures.value) (few_lines c.args.trace.now.lines.items c.requires.trace)

pub returns-then-not-has_ended-clause-kept : goal.returns-then-not-has_ended-clause-kept
returns-then-not-has_ended-clause-kept g c = inl (record { is = inl (refl, λ e. absurd (cc (c.has_ended.ensures.1 e, c.if-not-has_ended.true))); archive = refl })

pub is_like-requires : goal.is_like-requires
is_like-requires g c = λ room.
    let objects : c.objects_of-objects.result ≡ objects_of c.args.trace.now.lines.items = c.objects_of-objects.ensures ∙ ap objects_of c.deref.ensures.value in
    c.requires.sound c.objects_of-objects.result (omega (arith, objects)) room

-- what is compared, by the values that the call was given
compared : (list was run : List Record) (start : Start) (n m : ℕ) (history : List Entry) (answer : Bool) → list ≡ was → n ≡ m → (IsTrue answer ↔ IsLike list run start n history) → IsTrue answer ↔ IsLike was run start m history
compared list was run start n m history answer same objects is =
    subst (λ (l : List Record). IsTrue answer ↔ IsLike l run start m history) same (subst (λ (k : ℕ). IsTrue answer ↔ IsLike list run start k history) objects is)

pub returns-in-Err-clause-kept : goal.returns-in-Err-clause-kept
returns-in-Err-clause-kept g c = inl (record { is = inr refl; archive = refl })

pub returns-then-not-like-clause-kept : goal.returns-then-not-like-clause-kept
returns-then-not-like-clause-kept g c =
    let objects : c.objects_of-objects.result ≡ objects_of c.args.trace.now.lines.items = c.objects_of-objects.ensures ∙ ap objects_of c.deref.ensures.value in
    let is = compared c.deref-2.result.now c.args.opening.now.image.list.items c.args.list.now c.args.opening.now.start c.objects_of-objects.result (objects_of c.args.trace.now.lines.items) c.args.history.now c.in-Ok.like
    c.deref-2.ensures.value objects c.in-Ok.ensures in
    inr (inl (record { is = refl; ended_is = c.has_ended.ensures.0 c.if-not-has_ended.false; differs = λ like. absurd (cc (is.1 like, c.if-not-like.true)); archive = refl }))

pub kept_as-requires-clause-legal : goal.kept_as-requires-clause-legal
kept_as-requires-clause-legal g c = let like = c.in-Ok.ensures.0 c.if-not-like.false in (c.objects_of-objects.result, like.sound, like.legal)

pub returns-clause-kept : goal.returns-clause-kept
returns-clause-kept g c =
    let objects : c.objects_of-objects.result ≡ objects_of c.args.trace.now.lines.items = c.objects_of-objects.ensures ∙ ap objects_of c.deref.ensures.value in
    let is = compared c.deref-2.result.now c.args.opening.now.image.list.items c.args.list.now c.args.opening.now.start c.objects_of-objects.result (objects_of c.args.trace.now.lines.items) c.args.history.now c.in-Ok.like
    c.deref-2.ensures.value objects c.in-Ok.ensures in
    inr (inr (record { ended_is = c.has_ended.ensures.0 c.if-not-has_ended.false; like = is.0 c.if-not-like.false; kept = c.kept_as.ensures.kept }))

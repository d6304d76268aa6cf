use Rattle.std.proofs.Common.{◌≡◌, ◌≢◌, ◌==◌, [], ◌∷◌, ◌++◌, ap, subst, sym, ◌∙◌, true, false}
use Rattle.pass_entry.specs.declared.entry.Entry.{Entry}
use Rattle.pass_reference.specs.declared.callers.Caller.{Caller}
use Rattle.pass_reference.specs.Cache.{ChangesAt, IsCachedCaller, other_process}
use Rattle.pass_plain.proofs.Lists.{not_true, not_false, same_itself, same_numbers}
use Rattle.pass_reference.proofs.Caching.{callers_noted, caller_noted}
use Rattle.pass_reference.proofs.cache.note_callers.Goals as goal

pub returns-then-ne : goal.returns-then-ne
returns-then-ne c =
    let history = c.args.history.now in
    let e : Entry = c.args.e.now in
    let other = c.other_process-other.result in
    let is : other ≡ other_process e = c.other_process-other.ensures in
    let test : (other == e.who) ≡ false = not_true (other == e.who) (sym c.ne.ensures ∙ c.if-ne.true) in
    let apart : other_process e ≢ e.who = λ same. let z : true ≡ false = sym (same_itself e.who) ∙ ap (λ k. k == e.who) (sym (is ∙ same)) ∙ test in absurd (cc) in
    let second : ChangesAt (other_process e) c.note_caller.new.kept c.note_caller-then-ne.new.kept =
    subst (λ k. ChangesAt {X = Caller} k c.note_caller.new.kept c.note_caller-then-ne.new.kept) is c.note_caller-then-ne.ensures.at in
    let here : IsCachedCaller (history ++ e ∷ []) c.note_caller-then-ne.new.kept (other_process e) =
    subst (λ k. IsCachedCaller (history ++ e ∷ []) c.note_caller-then-ne.new.kept k) is c.note_caller-then-ne.ensures.here in
    callers_noted history e c.requires.lawful c.args.kept.now c.note_caller.new.kept c.note_caller-then-ne.new.kept c.note_caller.ensures.at second apart c.requires.kept c.note_caller.ensures.here here

pub returns-else-ne : goal.returns-else-ne
returns-else-ne c =
    let history = c.args.history.now in
    let e : Entry = c.args.e.now in
    let other = c.other_process-other.result in
    let same : other ≡ e.who = same_numbers other e.who (not_false (other == e.who) (sym c.ne.ensures ∙ c.if-ne.false)) in
    caller_noted history e c.requires.lawful c.args.kept.now c.note_caller.new.kept c.note_caller.ensures.at (sym c.other_process-other.ensures ∙ same) c.requires.kept c.note_caller.ensures.here

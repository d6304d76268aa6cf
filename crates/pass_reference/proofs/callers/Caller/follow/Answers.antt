use Rattle.std.proofs.Common.{◌||◌, ap, sym, ◌∙◌, subst}
use Rattle.pass_entry.specs.declared.entry.Entry.{Entry}
use Rattle.pass_plain.specs.Processes.{Process, OffsetsFit, begins}
use Rattle.pass_reference.specs.declared.callers.Caller.{Caller}
use Rattle.pass_reference.proofs.States.{offsets_before, below_before, caller_next_if}
use Rattle.pass_reference.proofs.callers.Caller.follow.Goals as goal
use Rattle.pass_reference.proofs.callers.Caller.follow.Goals.{then-self, else-self}

pub follow-requires-clause-offsets : goal.follow-requires-clause-offsets
follow-requires-clause-offsets c =
    subst (λ (p : Process). OffsetsFit p.descriptors) (sym c.requires.caller.state) (offsets_before c.args.history.now c.args.e.now c.args.who c.requires.lawful)

pub follow-requires-clause-numbers : goal.follow-requires-clause-numbers
follow-requires-clause-numbers c = below_before c.args.history.now c.args.e.now c.args.who c.requires.lawful

pub returns : goal.returns
returns c =
    let e : Entry = c.args.e.now in
    let who = c.args.who in
    let old : Caller = c.args.self.now in
    let new : Caller = record { begun = c.if-self.self; state = c.follow.new.state; call = c.note.new.self } in
    caller_next_if c.args.history.now e c.args.who c.requires.lawful old new c.follow.result c.requires.caller
    (elim c.if-self.branch [
      | then-self w ↦ w.self-is ∙ w.if-self.true ∙ ap (λ b. b || begins who e.call e.act e.what e.reply) (sym w.if-self.true)
      | else-self w ↦ w.self-is ∙ w.begins-self.ensures ∙ ap (λ b. b || begins who e.call e.act e.what e.reply) (sym w.if-self.false)
    ])
    c.follow.ensures c.in_ok-note.ensures

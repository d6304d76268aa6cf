use Rattle.std.proofs.Common.{◌+◌, ◌<◌, ◌^◌, arith, sym, ◌∙◌, subst, List}
use Rattle.pass_entry.specs.declared.entry.Entry.{Entry}
use Rattle.pass_entry.specs.declared.objects.Node.{Node}
use Rattle.pass_plain.specs.Legal.{session_of}
use Rattle.pass_plain.specs.Versions.{version_in}
use Rattle.pass_plain.specs.Recording.{IsVersionStep}
use Rattle.pass_reference.specs.declared.walk.Walk.{Walk}
use Rattle.pass_reference.proofs.Walking.{walked}
use Rattle.pass_reference.proofs.walk.Walk.note.Goals as goal

pub version_step-step-requires : goal.version_step-step-requires
version_step-step-requires c =
    let e : Entry = c.args.e.now in
    subst (λ (nodes : List Node). version_in (session_of c.args.start.now 0) nodes e.what + 1 < 2 ^ 64) (sym (c.deref.ensures.value ∙ c.requires.nodes))
    (let v = c.requires.versions e.what in omega (arith, v))

pub note-requires-clause-step : goal.note-requires-clause-step
note-requires-clause-step c =
    let e : Entry = c.args.e.now in
    subst (λ (nodes : List Node). IsVersionStep c.args.start.now c.args.history.now nodes e c.version_step-step.result) (c.deref.ensures.value ∙ c.requires.nodes) c.version_step-step.ensures

pub returns : goal.returns
returns c =
    let e : Entry = c.args.e.now in
    let w : Walk = c.args.self.now in
    let v : Walk = record { nodes = c.push.new.self; recording = c.note.new.self } in
    walked c.args.start.now c.args.history.now e w v c.version_step-step.result c.requires
    (subst (λ (nodes : List Node). IsVersionStep c.args.start.now c.args.history.now nodes e c.version_step-step.result) (c.deref.ensures.value ∙ c.requires.nodes) c.version_step-step.ensures)
    c.in_ok-push.ensures.items c.in_ok-note.ensures

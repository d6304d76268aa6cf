use Rattle.std.proofs.Common.{◌≡◌, List, subst}
use Rattle.std.specs.Prelude.{IfOk}
use Rattle.pass_entry.specs.declared.entry.Entry.{Entry}
use Rattle.pass_plain.specs.Legal.{Past, session_of}
use Rattle.pass_plain.specs.Records.{records_of}
use Rattle.pass_reference.proofs.Walking.{sound_versions}
use Rattle.pass_reference.proofs.reference.Plain.records.Goals as goal

pub records_of-requires : goal.records_of-requires
records_of-requires c = sound_versions (session_of c.self.inside.start.now c.self.inside.objects) c.self.invariant.sound

pub returns : goal.returns
returns c =
    let s = c.self.inside in
    subst (λ (p : Past). IfOk c.records_of.result (λ v. v.items ≡ records_of p.session p.history)) c.self.view_is
    (subst (λ (h : List Entry). IfOk c.records_of.result (λ v. v.items ≡ records_of (session_of s.start.now s.objects) h)) c.deref.ensures.value c.records_of.ensures)

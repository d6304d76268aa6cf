use Rattle.std.proofs.Common.{◌≡◌, ◌∙◌, ℕ, List, false, length, subst, sym}
use Rattle.std.specs.Prelude.{None}
use Rattle.pass_entry.specs.declared.entry.Ask.TheVariants as ask
use Rattle.pass_entry.specs.declared.entry.CallName.TheVariants as calls
use Rattle.pass_plain.specs.declared.request.Request.TheVariants as requests
use Rattle.pass_plain.specs.Processes.{refusal}
use Rattle.pass_proc.specs.CallEnds.{Asks}
use Rattle.pass_proc.specs.Procs.{is_way}
use Rattle.pass_answer.specs.Answers.{Answers}
use Rattle.pass_shared.proofs.Refusals.{file_held, write_asks}
use Rattle.pass_shared.proofs.transfers.pass_write.Goals as goal

pub refused-requires-clause-some : goal.refused-requires-clause-some
refused-requires-clause-some g c =
    subst (λ (b : List ℕ). Asks calls.Write (ask.ToWrite c.args.fd (length b))) (sym c.as_bytes.ensures.bytes) (write_asks c.args.fd c.args.bytes.now c.requires.fd c.see_way.ensures.few)

pub write_file-requires-clause-free : goal.write_file-requires-clause-free
write_file-requires-clause-free g c =
    subst (λ (b : List ℕ). refusal c.args.proc.now.state (ask.ToWrite c.args.fd (length b)) ≡ None) (c.as_bytes.ensures.bytes ∙ sym c.in_ok-ready-in-File.ensures.bytes) c.in-Ok.ensures.free

pub write_file-requires-clause-object : goal.write_file-requires-clause-object
write_file-requires-clause-object g c =
    file_held (sym c.deref_mut-2.ensures.value ∙ c.in-File.is) c.in-Ok.d c.object-slot.ensures c.in-Ok.ensures.held c.in_ok-ready-in-File.ensures.same

pub write_file-requires-clause-new : goal.write_file-requires-clause-new
write_file-requires-clause-new g c =
    let held = c.in-Ok.ensures.held in
    let its = file_held (sym c.deref_mut-2.ensures.value ∙ c.in-File.is) c.in-Ok.d c.object-slot.ensures held c.in_ok-ready-in-File.ensures.same c.in-Ok.d held in
    subst (λ (b : List ℕ). is_way c.args.proc.now.way c.args.fd b ≡ false) (sym c.in_ok-ready-in-File.ensures.bytes) (c.see_way.ensures.file c.in-Ok.d held its.0)

pub returns-in-File : goal.returns-in-File
returns-in-File g c = record {
  call = subst (λ (b : List ℕ). Answers g.J.Whose.book.session g.J.Whose.places c.args.proc.now c.write_file.new.proc (requests.Write c.args.fd b) c.write_file.result) c.in_ok-ready-in-File.ensures.bytes c.write_file.ensures.call;
}

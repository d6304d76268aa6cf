use Rattle.std.proofs.Common.{ap, sym, ◌∙◌, ℕ, List}
use Rattle.pass_entry.specs.declared.entry.Entry.{Entry}
use Rattle.pass_plain.specs.Files.{file_act}
use Rattle.pass_plain.proofs.Lists.{same_itself}
use Rattle.pass_plain.proofs.KeptFiles.{bytes_own}
use Rattle.pass_reference.proofs.cache.file_with.Goals as goal

pub returns-clause-content : goal.returns-clause-content
returns-clause-content c =
    let e : Entry = c.args.e.now in
    c.in_ok-apply.ensures ∙ ap (λ (bytes : List ℕ). file_act bytes e.act) c.in_ok-content.ensures.content
    ∙ sym (bytes_own c.args.start.now c.args.history.now e e.what (same_itself e.what) c.requires.done)

use Rattle.std.proofs.Common.{◌∙◌, List, ap, arith, length}
use Rattle.pass_entry.specs.declared.entry.Entry.{Entry}
use Rattle.pass_plain.specs.Registries.{registry_after}
use Rattle.pass_book.specs.Numbers.{files_of}
use Rattle.pass_store.proofs.Filing.{all_are}
use Rattle.pass_store.proofs.settling.all_files.Goals as goal

pub returns-clause-files : goal.returns-clause-files
returns-clause-files g c =
    let S = g.J.Whose.book.session in
    let test = c.if-len-files.false in
    let len = c.len.ensures in
    let long = c.in_ok-files.files.ok.0 in
    let count = c.files.ensures ∙ ap (λ (h : List Entry). length (files_of (registry_after S h).objects)) c.in_ok-files.ensures.seen in
    all_are S c.args.shelf.now.history c.in_ok-files.files.items c.in_ok-files.ensures.files (omega (arith, test, len, long, count))

use Rattle.std.proofs.Common.{◌≡◌, Some, ap, subst}
use Rattle.pass_book.specs.Syncs.{staged_as}
use Rattle.pass_book.specs.declared.view.FileMark.{FileMark}
use Rattle.pass_book.specs.Numbers.{IsFileNumber}
use Rattle.pass_book.specs.Views.{session_in}
use Rattle.pass_book.proofs.Meetings.{past_noted}
use Rattle.pass_book.proofs.vault_steps.note_file.Goals as goal
use Rattle.pass_entry.proofs.Lists.{some_is}

pub returns-clause-past : goal.returns-clause-past
returns-clause-past c =
    let v = c.args.vault.now.me.0 in
    let n = c.args.desk.now.value.me.0.name.number in
    let mark : FileMark = record { pnode = n; number = c.args.number } in
    let marked : (f : FileMark) → Some mark ≡ Some f → IsFileNumber (session_in v.opened) v.seen f.pnode f.number = λ f e.
    subst (λ (g : FileMark). IsFileNumber (session_in v.opened) v.seen g.pnode g.number) (some_is mark f e) c.requires.number in
    past_noted v _ (record { calls = c.args.calls; entries = c.args.entries; file = Some mark; staged = staged_as c.args.waits c.args.blocks.now }) c.requires.past (ap (λ m. m.0) c.note_data.ensures.1) c.requires.calls c.requires.entries.0 c.requires.entries.1 marked

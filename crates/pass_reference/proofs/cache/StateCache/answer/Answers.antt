use Rattle.std.proofs.Common.{◌≡◌, ◌∙◌, ℕ, List, refl, ap, sym}
use Rattle.std.specs.Prelude.{Some}
use Rattle.pass_entry.specs.declared.entry.Entry.{Entry}
use Rattle.pass_entry.specs.declared.entry.Act.{Act}
use Rattle.pass_entry.specs.declared.entry.Act.TheVariants as act
use Rattle.pass_entry.specs.declared.entry.Reply.{Reply}
use Rattle.pass_plain.specs.Sessions.{Session}
use Rattle.pass_plain.specs.Files.{file_after}
use Rattle.pass_plain.specs.Legal.{session_of}
use Rattle.pass_plain.specs.Replies.{reply_to}
use Rattle.pass_reference.specs.States.{holder_of, file_reply}
use Rattle.pass_reference.specs.declared.replies.Holder.TheVariants as holder
use Rattle.pass_reference.proofs.cache.StateCache.answer.Goals as goal

by_file : (session : Session) (history : List Entry) (what : ℕ) (a : Act) → holder_of a ≡ holder.File
    → Some (file_reply (file_after session history what) a) ≡ reply_to session history what a
by_file session history what (act.Give at len) h = refl
by_file session history what _ h = absurd (cc)

pub returns-in_ok-reply-in-File : goal.returns-in_ok-reply-in-File
returns-in_ok-reply-in-File c =
    ap (λ (r : Reply). Some r) (c.in_ok-reply-in-File.ensures c.args.objects)
    ∙ by_file (session_of c.args.start.now c.args.objects) c.args.history.now c.args.what c.args.act.now (sym c.in-File.ensures)

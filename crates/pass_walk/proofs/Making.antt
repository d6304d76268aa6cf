-- What the calls of lines and forks make of a process's history.
use Rattle.std.proofs.Common.{◌≡◌, ◌+◌, ◌-◌, ℕ, List, length, refl, ap, sym, ◌∙◌, subst}
use Rattle.std.specs.Prelude.{Option, Some, None, Result, Ok, Err, slice_get, option_map}
use Rattle.pass_entry.specs.declared.entry.CallFault.{CallFault}
use Rattle.pass_entry.specs.declared.entry.Entry.{Entry}
use Rattle.pass_entry.specs.declared.entry.Reply.TheVariants as answer
use Rattle.pass_plain.specs.declared.request.Request.{Request}
use Rattle.pass_plain.specs.declared.request.Request.TheVariants as requests
use Rattle.pass_plain.specs.Calls.{Made, pnode_at}
use Rattle.pass_plain.specs.Histories.{call_entries, is_fault}
use Rattle.pass_plain.specs.Legal.{last_number}
use Rattle.pass_plain.specs.Sessions.{Session}
use Rattle.pass_plain.specs.Runs.{next_number}
use Rattle.pass_plain.proofs.Calling.{of_call}
use Rattle.pass_plain.proofs.Lists.{some_is}
use Rattle.pass_answer.specs.Answers.{Answers}
use Rattle.pass_answer.specs.declared.answer.CallEnd.{CallEnd}
use Rattle.pass_answer.specs.declared.answer.CallEnd.TheVariants as ends
use Rattle.pass_answer.specs.declared.answer.Moved.{Moved}
use Rattle.pass_answer.specs.declared.answer.Moved.TheVariants as moved
use Rattle.pass_answer.specs.Lives.{IsChild}
use Rattle.pass_proc.specs.CallEnds.{HasReplied}
use Rattle.pass_proc.specs.Procs.{ProcView}
use Rattle.pass_progress.specs.Progress.{BirthLaw, ChildlessLaw, IsBetween, IsDone, MayGoOn, NewbornLaw, NumberLaw, ProgressLaw, Progresses}
use Rattle.pass_progress.specs.Syncs.{SyncLaw}
use Rattle.pass_progress.specs.Calls.{AnswersAny}
use Rattle.pass_walk.specs.Calls.{HasForked, HasNotForked}
use Rattle.pass_walk.specs.Causes.{HasRefusedFork}

module _ (progress_law : ProgressLaw) (sync_law : SyncLaw) (session : Session) (places : ℕ) (old new : ProcView) (before : IsBetween session old) (after : IsBetween session new) where
  pub progress_any : (r : Request) (end : Result Moved CallEnd) → MayGoOn old r → AnswersAny session places old new r end → Progresses session places old new r end
  progress_any (requests.Sync fd) end may is = sync_law session places old new fd end before after may is
  progress_any requests.Start end may is = progress_law session places old new requests.Start end before after may is
  progress_any (requests.Creat fd name) end may is = progress_law session places old new (requests.Creat fd name) end before after may is
  progress_any (requests.OpenName fd name m) end may is = progress_law session places old new (requests.OpenName fd name m) end before after may is
  progress_any (requests.CloseFd fd) end may is = progress_law session places old new (requests.CloseFd fd) end before after may is
  progress_any (requests.Read fd len) end may is = progress_law session places old new (requests.Read fd len) end before after may is
  progress_any (requests.Write fd bytes) end may is = progress_law session places old new (requests.Write fd bytes) end before after may is
  progress_any (requests.Seek fd at) end may is = progress_law session places old new (requests.Seek fd at) end before after may is
  progress_any (requests.Truncate fd size) end may is = progress_law session places old new (requests.Truncate fd size) end before after may is
  progress_any (requests.MakePipe reader writer) end may is = progress_law session places old new (requests.MakePipe reader writer) end before after may is
  progress_any requests.Fork end may is = progress_law session places old new requests.Fork end before after may is
  progress_any (requests.Exec name args) end may is = progress_law session places old new (requests.Exec name args) end before after may is
  progress_any (requests.WaitChild child) end may is = progress_law session places old new (requests.WaitChild child) end before after may is
  progress_any (requests.Await child) end may is = progress_law session places old new (requests.Await child) end before after may is
  progress_any requests.Exit end may is = progress_law session places old new requests.Exit end before after may is
  progress_any (requests.Rename from to) end may is = progress_law session places old new (requests.Rename from to) end before after may is
  progress_any (requests.Unlink name) end may is = progress_law session places old new (requests.Unlink name) end before after may is
  progress_any (requests.MakeObj fd) end may is = progress_law session places old new (requests.MakeObj fd) end before after may is
  progress_any (requests.Revive fd object) end may is = progress_law session places old new (requests.Revive fd object) end before after may is
  progress_any (requests.FreezeObj fd) end may is = progress_law session places old new (requests.FreezeObj fd) end before after may is
  progress_any (requests.Disclose target source) end may is = progress_law session places old new (requests.Disclose target source) end before after may is
  progress_any (requests.TagObj fd attr value) end may is = progress_law session places old new (requests.TagObj fd attr value) end before after may is

-- the fault that a refused fork has ended with stands in the history
refused_at : (seen before : List Entry) (who : ℕ) (session : Session) (f : CallFault) (has : HasReplied session who before seen requests.Fork (answer.Fault f)) (o : Option (ℕ × Entry))
    → slice_get has.made (length has.made - 1) ≡ o → option_map (λ (s : ℕ × Entry). s.1.reply) o ≡ Some (answer.Fault f) → HasRefusedFork seen
refused_at seen before who session f has None at last = absurd (let z : None ≡ Some (answer.Fault f) = last in cc)
refused_at seen before who session f has (Some s) at last =
    let made_is = has.call.made_is in
    let there = of_call seen who (last_number before who + 1) (length has.made - 1) s (ap (λ (xs : Made). slice_get xs (length has.made - 1)) made_is ∙ at) in
    record {
      place = s.0;
      entry = s.1;
      stands = there.0;
      forks = has.call.named (length has.made - 1) s at;
      fault = ap is_fault (some_is s.1.reply (answer.Fault f) last);
    }

module _ (session : Session) (places : ℕ) (old new : ProcView) (before : IsBetween session old) (after : IsBetween session new) (may : MayGoOn old requests.Fork) (progress_law : ProgressLaw) where
  pub forked_so : BirthLaw → NewbornLaw → NumberLaw → (child : ProcView) → IsBetween session child → Answers session places old new requests.Fork (Ok moved.Done) → IsChild new child → HasForked session old new child
  forked_so birth_law newborn_law number_law child its is born =
      let done : IsDone session old new requests.Fork = progress_law session places old new requests.Fork (Ok moved.Done) before after may is in
      let named : child.who ≡ pnode_at (call_entries new.seen old.who (next_number old.seen old.who)) 0 =
      sym born.named ∙ ap (λ w. pnode_at (call_entries new.seen w new.number) 0) done.on.who
      ∙ ap (λ n. pnode_at (call_entries new.seen old.who n) 0) (number_law session old new requests.Fork after done) in
      let begun = newborn_law session child its born.number in
      record {
        done = done;
        named = named;
        seen = born.seen;
        newborn = begun.0;
        rest = begun.1;
        births = λ n e out descriptors at later by is_born. (birth_law session old.who requests.Fork old.seen new.seen done.on.goes n e out descriptors at later by is_born).1 ∙ sym named;
      }

  pub not_forked_so : ChildlessLaw → (end : CallEnd) → Answers session places old new requests.Fork (Err end) → HasNotForked session places old new end
  not_forked_so childless_law end is = record {
    progresses = progress_law session places old new requests.Fork (Err end) before after may is;
    childless = childless_law session places old new end before after may is;
    refused = λ f same. refused_as f (subst (λ end. Answers session places old new requests.Fork (Err end)) same is);
  }
    where
      refused_as : (f : CallFault) → Answers session places old new requests.Fork (Err (ends.Fault f)) → HasRefusedFork new.seen
      refused_as f (has, ended) = refused_at new.seen old.seen old.who session f has (slice_get has.made (length has.made - 1)) refl has.last

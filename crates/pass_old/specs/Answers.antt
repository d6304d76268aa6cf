-- What the program answers, and what it writes. This project's own rule.
use Rattle.std.specs.Prelude.{ℕ, ◌≡◌, ◌≢◌, ◌⊎◌, ◌++◌, IsTrue, List, Option, Some, None}
use Rattle.std.specs.Option.{option_map_or}
use Rattle.pass_entry.specs.declared.entry.Entry.{Entry}
use Rattle.pass_outside.specs.Moments.{Moment, IsDeviceWork}
use Rattle.pass_plain.specs.declared.start.Start.{Start}
use Rattle.pass_recover.specs.Later.{IsLeftAlone}
use Rattle.pass_status.specs.declared.status.Status.{Status}
use Rattle.pass_status.specs.declared.status.Status.TheVariants as status
use Rattle.pass_status.specs.Writing.{IsPartOfText}
use Rattle.pass_ask.specs.Answers.{SinkSeen, text_with}
use Rattle.pass_old.specs.declared.status.OldStatus.{OldStatus}
use Rattle.pass_old.specs.declared.status.OldStatus.TheVariants as old
use Rattle.pass_old.specs.declared.words.OldQuestion.{OldQuestion}
use Rattle.pass_old.specs.declared.words.LogQuestion.{LogQuestion}
use Rattle.pass_old.specs.Consults.{IsConsulted, IsToldBothAs}
use Rattle.pass_old.specs.Questions.{IsJudgedBy}
use Rattle.pass_old.specs.Runs.{HasNothing, IsOldRun}
use Rattle.pass_old.specs.Statuses.{old_text}

-- the status of a run or a question, where it is one of these
abbrev pub same_of : OldStatus → Option Status
same_of (old.Same s) = Some s
same_of _ = None

-- what is written for a status, given the text of what was asked for
abbrev pub old_text_with : OldStatus → List ℕ → List ℕ
old_text_with judged text = option_map_or (λ s. text_with s text) (same_of judged) (old_text judged)

-- What stands behind an answer, other than want of memory: the status that was judged, which is the answer unless the sink failed; and
-- these bytes, which the sink took, or a beginning of them where it failed.
pub record IsTaken (sink : SinkSeen) (judged answered : OldStatus) (bytes : List ℕ) : Type 0 where
  pub stands : (answered ≡ judged) ⊎ (answered ≡ old.Same status.WriteFault)
  pub whole : answered ≢ old.Same status.WriteFault → IsTrue sink.tells → sink.after ≡ sink.before ++ bytes
  pub part : answered ≡ old.Same status.WriteFault → IsTrue sink.tells → IsPartOfText bytes sink.before sink.after

-- the same, and the bytes are the status's text
abbrev pub IsWritten : SinkSeen → OldStatus → OldStatus → List ℕ → Type 0
IsWritten sink judged answered text = IsTaken sink judged answered (old_text_with judged text)

-- What stands behind the answer of a run: how it was judged, and what it left; and, but for want of memory, what was written.
pub record IsRunAnswer {D A : Type 0} (view : D → Moment) (archive_view : A → Moment) (bytes : List ℕ) (before after : ℕ) (sink : SinkSeen) (disk disk_then : D) (archive archived : A) (start : Start) (history : List Entry) (answered : OldStatus) : Type 0 where
  pub judged : OldStatus
  pub report : List ℕ
  pub by : IsOldRun view archive_view bytes before after disk disk_then archive archived start history judged report
  pub written : answered ≢ old.Same status.NoMemory → IsWritten sink judged answered report

-- What stands behind the answer to a question, other than want of memory. A device call failed exactly where that is judged; unless
-- one did the archive reads as before.
pub record IsQuestionAnswer (before after : Moment) (question : OldQuestion) (sink : SinkSeen) (answered : OldStatus) : Type 0 where
  pub judged : OldStatus
  pub text : List ℕ
  pub by : IsJudgedBy before question text judged
  pub work : IsDeviceWork before after (judged ≡ old.ArchiveFault)
  pub reads : judged ≢ old.ArchiveFault → after.seen ≡ before.seen
  pub written : IsWritten sink judged answered text

-- The same of a question to an archive and a store's log.
pub record IsConsultAnswer {D A : Type 0} (view : D → Moment) (archive_view : A → Moment) (disk disk_then : D) (archive archived : A) (question : LogQuestion) (sink : SinkSeen) (answered : OldStatus) : Type 0 where
  pub judged : OldStatus
  pub text : List ℕ
  pub by : IsConsulted view (archive_view archive) disk disk_then (IsToldBothAs question judged text) judged
  pub work : IsDeviceWork (archive_view archive) (archive_view archived) (judged ≡ old.ArchiveFault)
  pub reads : judged ≢ old.ArchiveFault → (archive_view archived).seen ≡ (archive_view archive).seen
  pub written : IsWritten sink judged answered text

-- Nothing was run, and nothing was written to either disk: a crash leaves what it might have left before.
pub record IsUnrun (before after archive archived : Moment) (start : Start) (history : List Entry) : Type 0 where
  pub nothing : HasNothing start history
  pub disk : IsLeftAlone before after
  pub kept : IsLeftAlone archive archived

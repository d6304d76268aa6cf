-- Where the archive's device failed, and which words were refused.
use Rattle.std.proofs.Common.{◌≡◌, ◌⊎◌, ◌∙◌, ℕ, Bool, true, false, List, [], ◌∷◌, inl, inr, ⊎_elim, refl, sym, ap, subst}
use Rattle.std.specs.Prelude.{◌≢◌}
use Rattle.pass_trace.specs.declared.limits.Scale.TheVariants.{Usual}
use Rattle.pass_entry.specs.declared.entry.Entry.{Entry}
use Rattle.pass_entry.specs.declared.record.Record.{Record}
use Rattle.pass_entry.specs.declared.objects.Node.{Node}
use Rattle.pass_entry.specs.declared.record.Record.{Record}
use Rattle.pass_outside.specs.Moments.{Moment, IsDeviceWork}
use Rattle.pass_plain.specs.declared.start.Start.{Start}
use Rattle.pass_recover.specs.declared.fault.OpenFault.{OpenFault}
use Rattle.pass_recover.specs.declared.fault.OpenFault.TheVariants as store
use Rattle.pass_trace.specs.TraceLines.{objects_of}
use Rattle.pass_trace.specs.Traces.{trace_of}
use Rattle.pass_status.specs.declared.status.Status.{Status}
use Rattle.pass_status.specs.declared.status.Status.TheVariants as status
use Rattle.pass_status.specs.Statuses.{status_of_opening}
use Rattle.pass_run.specs.Stored.{IsEnd}
use Rattle.pass_ask.specs.Answers.{SinkSeen}
use Rattle.pass_cli.specs.Answers.{IsRefusal, ends_run}
use Rattle.pass_files.specs.declared.spelled.Spelled.{Spelled}
use Rattle.pass_leaf.specs.declared.fault.OldFault.{OldFault}
use Rattle.pass_leaf.specs.declared.fault.OldFault.TheVariants as faults
use Rattle.pass_leaf.specs.Leaves.{Leaf}
use Rattle.pass_leaf.specs.Keeping.{FileVersion}
use Rattle.pass_leaf.specs.Archives.{Archive, IsUnopened}
use Rattle.pass_leaf.specs.Open.{IsUnkept}
use Rattle.pass_leaf.proofs.Answering.{work_none, work_as}
use Rattle.pass_past.specs.Keepings.{IsStop}
use Rattle.pass_past.proofs.Goings.{work_both}
use Rattle.pass_old.specs.declared.status.OldStatus.{OldStatus}
use Rattle.pass_old.specs.declared.status.OldStatus.TheVariants as old_status
use Rattle.pass_old.specs.declared.words.OldQuestion.{OldQuestion}
use Rattle.pass_old.specs.declared.words.LogQuestion.{LogQuestion}
use Rattle.pass_old.specs.Consults.{IsConsulted, IsJudgedByLog, IsToldBothAs}
use Rattle.pass_old.specs.Answers.{IsRunAnswer, IsQuestionAnswer, IsConsultAnswer}
use Rattle.pass_old.specs.Questions.{IsToldAs, IsJudgedBy}
use Rattle.pass_old.specs.Runs.{IsOpened, IsKept, IsSomeKept, IsKeptAs, HasNothing, IsLost, HasRunOver, IsOldRun}
use Rattle.pass_old.specs.Statuses.{status_of_archive}
use Rattle.pass_old.specs.Tars.{IsTarAnswer, IsTarJudged, IsTarTold, tar_status}

abbrev nothing : Node
nothing = record { pnode = 0; version = 0 }

-- the faults by which the archive's device is judged to have failed

unopened_disk : (m : Moment) (f : OldFault) → IsUnopened m f → status_of_archive f nothing ≡ old_status.ArchiveFault → f ≡ faults.DiskFault
unopened_disk m faults.DiskFault cause is = refl
unopened_disk m (faults.BadFrame at) cause is = absurd (cc is)
unopened_disk m faults.NoMemory cause is = absurd (cc is)
unopened_disk m (faults.Broken opened now) cause is = absurd cause
unopened_disk m faults.NoVersion cause is = absurd cause

unkept_disk : (leaves : List Leaf) (end : ℕ) (v : FileVersion) (f : OldFault) → IsUnkept leaves end v f → status_of_archive f nothing ≡ old_status.ArchiveFault → f ≡ faults.DiskFault
unkept_disk leaves end v faults.DiskFault cause is = refl
unkept_disk leaves end v (faults.BadFrame at) cause is = absurd (cc is)
unkept_disk leaves end v faults.NoMemory cause is = absurd (cc is)
unkept_disk leaves end v (faults.Broken opened now) cause is = absurd cause
unkept_disk leaves end v faults.NoVersion cause is = absurd cause

stop_disk : (leaves : List Leaf) (end : ℕ) (rest : List FileVersion) (f : OldFault) → IsStop leaves end rest f → status_of_archive f nothing ≡ old_status.ArchiveFault → f ≡ faults.DiskFault
stop_disk leaves end rest f (inl starved) is =
    let z : old_status.Same status.NoMemory ≡ old_status.ArchiveFault = sym (ap (λ (x : OldFault). status_of_archive x nothing) starved) ∙ is in absurd (cc)
stop_disk leaves end rest f (inr (v, more, same, above, unkept)) is = unkept_disk leaves end v f unkept is

disk_judged : (f : OldFault) → f ≡ faults.DiskFault → status_of_archive f nothing ≡ old_status.ArchiveFault
disk_judged f is = ap (λ (x : OldFault). status_of_archive x nothing) is

not_archive : (s : Status) (j : OldStatus) → j ≡ old_status.Same s → j ≡ old_status.ArchiveFault → ⊥
not_archive s j same is = let z : old_status.Same s ≡ old_status.ArchiveFault = sym same ∙ is in cc

module _ {A : Type 0} (view : A → Moment) (first last : Archive A) (list run : List Record) (start : Start) (objects : ℕ) (history : List Entry) (ended : Status) (judged : OldStatus) where
  abbrev Failed : Type 0
  Failed = judged ≡ old_status.ArchiveFault

  abbrev Work : Archive A → Type 0
  Work now = IsDeviceWork (view first.disk) (view now.disk) Failed

  kept_work : IsKeptAs view first last list run start objects history ended judged → Work last
  kept_work (inl n) = subst Work (sym n.archive) (work_none (view first.disk) Failed (λ f.
      ⊎_elim (λ (x : (judged ≡ old_status.Same ended) × (IsEnd ended → ⊥)). not_archive ended judged x.0 f) (λ (x : judged ≡ old_status.Same status.NoMemory). not_archive status.NoMemory judged x f) n.is))
  kept_work (inr (inl u)) = subst Work (sym u.archive) (work_none (view first.disk) Failed (λ f. let z : old_status.Unlike ≡ old_status.ArchiveFault = sym u.is ∙ f in cc))
  kept_work (inr (inr l)) = ⊎_elim
      (λ (k : IsKept view first last start history ended judged). work_as (view first.disk) (view last.disk) ⊥ Failed (λ f. not_archive ended judged k.is f) (λ none. absurd none) k.kept.work)
      (λ (s : IsSomeKept view first last start history judged). work_as (view first.disk) (view last.disk) (s.fault ≡ faults.DiskFault) Failed
      (λ f. stop_disk last.leaves last.end s.stopped.rest s.fault s.stopped.cause (sym (s.is nothing) ∙ f)) (λ d. s.is nothing ∙ disk_judged s.fault d) s.stopped.work)
      l.kept

module _ {D A : Type 0} (view : D → Moment) (archive_view : A → Moment) (bytes : List ℕ) (before after : ℕ) (old new : D) (archive archived : A) (start : Start) (history : List Entry) (judged : OldStatus) (report : List ℕ) where
  abbrev Fails : Type 0
  Fails = judged ≡ old_status.ArchiveFault

  abbrev Works : A → Type 0
  Works now = IsDeviceWork (archive_view archive) (archive_view now) Fails

  past_work : (first : Archive A) → IsOpened archive_view archive first
      → (HasNothing start history × IsLost view archive_view old new first archived judged) ⊎ HasRunOver view archive_view bytes before after old new first archived start history judged report
      → Works archived
  past_work first opened (inl (none, lost)) =
      subst Works (sym lost.archive.disk) (work_as (archive_view archive) (archive_view first.disk) ⊥ Fails
      (λ f. not_archive (status_of_opening (view old).faults (view new).faults lost.fault) judged lost.is f) (λ none. absurd none) opened.work)
  past_work first opened (inr r) =
      subst Works (sym r.archive.disk) (work_both (archive_view archive) (archive_view first.disk) (archive_view r.last.disk) Fails opened.work
      (kept_work archive_view first r.last r.list r.out.list r.recovered_start (objects_of (trace_of bytes)) history r.ended judged r.kept))

  run_work : IsOldRun view archive_view bytes before after old new archive archived start history judged report → Works archived
  run_work (inl (none, r)) = subst Works (sym r.archive_is) (work_none (archive_view archive) Fails (λ f. not_archive r.refusal judged r.is f))
  run_work (inr (inl (none, r))) =
      work_as (archive_view archive) (archive_view archived) (r.fault ≡ faults.DiskFault) Fails
      (λ f. unopened_disk (archive_view archive) r.fault r.unopened.cause (sym (r.is nothing) ∙ f)) (λ d. r.is nothing ∙ disk_judged r.fault d) r.unopened.work
  run_work (inr (inr p)) = past_work p.first p.opened p.run

-- a status that stands is the one that was judged
abbrev pub Stands : OldStatus → OldStatus → Type 0
Stands answered judged = (answered ≡ judged) ⊎ (answered ≡ old_status.Same status.WriteFault)

pub work_answered : (before after : Moment) (answered judged s : OldStatus) → answered ≢ old_status.Same status.WriteFault → Stands answered judged
    → IsDeviceWork before after (judged ≡ s) → IsDeviceWork before after (answered ≡ s)
work_answered before after answered judged s taken (inl same) work = subst (λ (j : OldStatus). IsDeviceWork before after (j ≡ s)) (sym same) work
work_answered before after answered judged s taken (inr failed) work = absurd (taken failed)

pub answer_work : {D A : Type 0} (view : D → Moment) (archive_view : A → Moment) (bytes : List ℕ) (before after : ℕ) (sink : SinkSeen) (old new : D) (archive archived : A) (start : Start) (history : List Entry) (answered : OldStatus)
    → IsRunAnswer view archive_view bytes before after sink old new archive archived start history answered → answered ≢ old_status.Same status.NoMemory → answered ≢ old_status.Same status.WriteFault
    → IsDeviceWork (archive_view archive) (archive_view archived) (answered ≡ old_status.ArchiveFault)
answer_work view archive_view bytes before after sink old new archive archived start history answered r known taken =
    work_answered (archive_view archive) (archive_view archived) answered r.judged old_status.ArchiveFault taken (r.written known).stands
    (run_work view archive_view bytes before after old new archive archived start history r.judged r.report r.by)

pub question_work : (before after : Moment) (question : OldQuestion) (sink : SinkSeen) (answered : OldStatus) → IsQuestionAnswer before after question sink answered → answered ≢ old_status.Same status.WriteFault
    → IsDeviceWork before after (answered ≡ old_status.ArchiveFault)
question_work before after question sink answered q taken = work_answered before after answered q.judged old_status.ArchiveFault taken q.written.stands q.work

pub words_work : (before after : Moment) (answered : OldStatus) → before ≡ after → Stands answered (old_status.Same status.BadWords) → answered ≢ old_status.Same status.WriteFault
    → IsDeviceWork before after (answered ≡ old_status.ArchiveFault)
words_work before after answered same stands taken =
    subst (λ (m : Moment). IsDeviceWork before m (answered ≡ old_status.ArchiveFault)) same (work_none before (answered ≡ old_status.ArchiveFault) (λ f.
    ⊎_elim (λ (e : answered ≡ old_status.Same status.BadWords). not_archive status.BadWords answered e f) taken stands))

-- only words that name no command are refused

abbrev refuses_words : OldStatus → Bool
refuses_words (old_status.Same status.BadWords) = true
refuses_words _ = false

archive_words : (f : OldFault) → refuses_words (status_of_archive f nothing) ≡ true → ⊥
archive_words faults.DiskFault is = cc is
archive_words (faults.Broken opened now) is = cc is
archive_words (faults.BadFrame at) is = cc is
archive_words faults.NoVersion is = cc is
archive_words faults.NoMemory is = cc is

opening_words : (a b : ℕ) (f : OpenFault) → refuses_words (old_status.Same (status_of_opening a b f)) ≡ true → ⊥
opening_words a b store.DiskFault is = cc is
opening_words a b store.NoMemory is = cc is
opening_words a b (store.BadFrame at) is = cc is
opening_words a b (store.BadRecord place why) is = cc is
opening_words a b (store.Flaw place reason) is = cc is

refusal_words : (bytes : List ℕ) (before after : ℕ) (s : Status) → IsRefusal Usual bytes before after s → refuses_words (old_status.Same s) ≡ true → ⊥
refusal_words bytes before after status.BadWords refusal is = refusal
refusal_words bytes before after _ refusal is = absurd (cc)

run_words : (s : Status) → ends_run s ≡ true → refuses_words (old_status.Same s) ≡ true → ⊥
run_words status.BadWords ends is = cc ends
run_words _ ends is = absurd (cc)

known_run : (s : Status) → refuses_words (old_status.Same s) ≡ true → s ≢ status.NoMemory
known_run s is starved = let z : false ≡ true = sym (ap (λ (x : Status). refuses_words (old_status.Same x)) starved) ∙ is in cc

module _ {D A : Type 0} (view : D → Moment) (archive_view : A → Moment) (bytes : List ℕ) (before after : ℕ) (old new : D) (archive archived : A) (start : Start) (history : List Entry) (judged : OldStatus) (report : List ℕ) (is : refuses_words judged ≡ true) where
  same_words : (s : Status) → judged ≡ old_status.Same s → refuses_words (old_status.Same s) ≡ true
  same_words s same = sym (ap refuses_words same) ∙ is

  ended_words : (first : Archive A) (r : HasRunOver view archive_view bytes before after old new first archived start history judged report) → judged ≡ old_status.Same r.ended → ⊥
  ended_words first r same = let refuses = same_words r.ended same in run_words r.ended (r.run (known_run r.ended refuses)).by.no_other refuses

  over_words : (first : Archive A) (r : HasRunOver view archive_view bytes before after old new first archived start history judged report)
      → IsKeptAs archive_view first r.last r.list r.out.list r.recovered_start (objects_of (trace_of bytes)) history r.ended judged → ⊥
  over_words first r (inl n) = ⊎_elim (λ (x : (judged ≡ old_status.Same r.ended) × (IsEnd r.ended → ⊥)). ended_words first r x.0)
      (λ (x : judged ≡ old_status.Same status.NoMemory). let z : false ≡ true = same_words status.NoMemory x in cc) n.is
  over_words first r (inr (inl u)) = let z : false ≡ true = sym (ap refuses_words u.is) ∙ is in cc
  over_words first r (inr (inr l)) = ⊎_elim (λ (k : IsKept archive_view first r.last r.recovered_start history r.ended judged). ended_words first r k.is)
      (λ (s : IsSomeKept archive_view first r.last r.recovered_start history judged). archive_words s.fault (sym (ap refuses_words (s.is nothing)) ∙ is)) l.kept

  past_words : (first : Archive A)
      → (HasNothing start history × IsLost view archive_view old new first archived judged) ⊎ HasRunOver view archive_view bytes before after old new first archived start history judged report → ⊥
  past_words first (inl (none, lost)) = opening_words (view old).faults (view new).faults lost.fault (same_words (status_of_opening (view old).faults (view new).faults lost.fault) lost.is)
  past_words first (inr r) = over_words first r r.kept

  never_words : IsOldRun view archive_view bytes before after old new archive archived start history judged report → ⊥
  never_words (inl (none, r)) = refusal_words bytes before after r.refusal r.cause (same_words r.refusal r.is)
  never_words (inr (inl (none, r))) = archive_words r.fault (sym (ap refuses_words (r.is nothing)) ∙ is)
  never_words (inr (inr p)) = past_words p.first p.run

refused_words : (answered judged : OldStatus) → answered ≡ old_status.Same status.BadWords → Stands answered judged → refuses_words judged ≡ true
refused_words answered judged is (inl same) = ap refuses_words (sym same ∙ is)
refused_words answered judged is (inr failed) = let z : old_status.Same status.WriteFault ≡ old_status.Same status.BadWords = sym failed ∙ is in absurd (cc)

known_words : (answered : OldStatus) → answered ≡ old_status.Same status.BadWords → answered ≢ old_status.Same status.NoMemory
known_words answered is starved = let z : old_status.Same status.NoMemory ≡ old_status.Same status.BadWords = sym starved ∙ is in cc

pub answer_words : {D A : Type 0} (view : D → Moment) (archive_view : A → Moment) (bytes : List ℕ) (before after : ℕ) (sink : SinkSeen) (old new : D) (archive archived : A) (start : Start) (history : List Entry) (answered : OldStatus)
    → IsRunAnswer view archive_view bytes before after sink old new archive archived start history answered → answered ≡ old_status.Same status.BadWords → ⊥
answer_words view archive_view bytes before after sink old new archive archived start history answered r is =
    never_words view archive_view bytes before after old new archive archived start history r.judged r.report
    (refused_words answered r.judged is (r.written (known_words answered is)).stands) r.by

-- nor are those of a question

told_words : (leaves : List Leaf) (question : OldQuestion) (s : OldStatus) (text : List ℕ) → IsToldAs leaves question s text → refuses_words s ≡ true → ⊥
told_words leaves question (old_status.Same status.BadWords) text told is = told
told_words leaves question _ text told is = absurd (cc)

judged_words : (before : Moment) (question : OldQuestion) (text : List ℕ) (judged : OldStatus) → IsJudgedBy before question text judged → refuses_words judged ≡ true → ⊥
judged_words before question text judged (inl u) is = archive_words u.fault (sym (ap refuses_words (u.is nothing)) ∙ is)
judged_words before question text judged (inr t) is = told_words t.leaves question judged text t.told is

pub question_words : (before after : Moment) (question : OldQuestion) (sink : SinkSeen) (answered : OldStatus) → answered ≡ old_status.Same status.BadWords → IsQuestionAnswer before after question sink answered → ⊥
question_words before after question sink answered is q = judged_words before question q.text q.judged q.by (refused_words answered q.judged is q.written.stands)

-- nor those of a question to an archive and a log

told_both_words : (list : List Record) (leaves : List Leaf) (question : LogQuestion) (s : OldStatus) (text : List ℕ) → IsToldBothAs question s text list leaves → refuses_words s ≡ true → ⊥
told_both_words list leaves question (old_status.Same status.BadWords) text told is = told
told_both_words list leaves question _ text told is = absurd (cc)

logged_words : (before after : Moment) (leaves : List Leaf) (Told : List Record → List Leaf → Type 0) (judged : OldStatus) → ((list : List Record) (all : List Leaf) → Told list all → refuses_words judged ≡ true → ⊥)
    → IsJudgedByLog before after leaves Told judged → refuses_words judged ≡ true → ⊥
logged_words before after leaves Told judged never (inl u) is = opening_words before.faults after.faults u.fault (sym (ap refuses_words u.is) ∙ is)
logged_words before after leaves Told judged never (inr r) is = never r.list leaves r.told is

consulted_words : {D : Type 0} (view : D → Moment) (archive : Moment) (disk disk_then : D) (Told : List Record → List Leaf → Type 0) (judged : OldStatus)
    → ((list : List Record) (all : List Leaf) → Told list all → refuses_words judged ≡ true → ⊥) → IsConsulted view archive disk disk_then Told judged → refuses_words judged ≡ true → ⊥
consulted_words view archive disk disk_then Told judged never (inl (same, u)) is = archive_words u.fault (sym (ap refuses_words (u.is nothing)) ∙ is)
consulted_words view archive disk disk_then Told judged never (inr r) is = logged_words (view disk) (view disk_then) r.leaves Told judged never r.by is

module _ {D A : Type 0} (view : D → Moment) (archive_view : A → Moment) (disk disk_then : D) (archive archived : A) (question : LogQuestion) (sink : SinkSeen) (answered : OldStatus)
    (q : IsConsultAnswer view archive_view disk disk_then archive archived question sink answered) where
  pub consult_work : answered ≢ old_status.Same status.WriteFault → IsDeviceWork (archive_view archive) (archive_view archived) (answered ≡ old_status.ArchiveFault)
  consult_work taken = work_answered (archive_view archive) (archive_view archived) answered q.judged old_status.ArchiveFault taken q.written.stands q.work

  pub consult_words : answered ≡ old_status.Same status.BadWords → ⊥
  consult_words is =
      consulted_words view (archive_view archive) disk disk_then (IsToldBothAs question q.judged q.text) q.judged (λ list leaves told. told_both_words list leaves question q.judged q.text told) q.by
      (refused_words answered q.judged is q.written.stands)

-- nor those of a tar

tar_status_words : (lacks : List Node) → refuses_words (tar_status lacks) ≡ true → ⊥
tar_status_words [] is = cc is
tar_status_words (node ∷ rest) is = cc is

told_tar_words : (node : Spelled) (tar : List ℕ) (lacks : List Node) (judged : OldStatus) (list : List Record) (leaves : List Leaf) → IsTarTold node tar lacks judged list leaves → refuses_words judged ≡ true → ⊥
told_tar_words node tar lacks judged list leaves (inl m) is = tar_status_words lacks (sym (ap refuses_words m.is) ∙ is)
told_tar_words node tar lacks judged list leaves (inr n) is = let z : false ≡ true = sym (ap refuses_words n.is) ∙ is in cc

module _ {D A : Type 0} (view : D → Moment) (archive_view : A → Moment) (disk disk_then : D) (archive archived : A) (node : Spelled) (sink : SinkSeen) (answered : OldStatus) (handed : List Node)
    (q : IsTarAnswer (IsTarJudged view archive_view disk disk_then archive archived node) sink answered handed) where
  pub tar_work : answered ≢ old_status.Same status.WriteFault → IsDeviceWork (archive_view archive) (archive_view archived) (answered ≡ old_status.ArchiveFault)
  tar_work taken = work_answered (archive_view archive) (archive_view archived) answered q.judged old_status.ArchiveFault taken q.written.stands q.by.work

  pub tar_refused : answered ≡ old_status.Same status.BadWords → ⊥
  tar_refused is =
      consulted_words view (archive_view archive) disk disk_then (IsTarTold node q.tar q.lacks q.judged) q.judged (told_tar_words node q.tar q.lacks q.judged) q.by.by
      (refused_words answered q.judged is q.written.stands)

-- What comes of a fresh archive.
use Rattle.std.proofs.Common.{◌≡◌, ◌⊎◌, ◌∙◌, ◌↔◌, ◌-◌, ◌≤◌, ◌&&◌, ◌∷◌, [], ℕ, Bool, true, false, List, length, map, take, drop, get_or, inl, inr, refl, sym, ap, subst, arith}
use Rattle.std.specs.Prelude.{◌≢◌, Option, Some, None, Result, Ok, Err, codes, filter_map, if◌then◌else◌}
use Rattle.std.proofs.lemmas.Grind.{common_steps}
use Rattle.pass_entry.proofs.Lists.{some_is}
use Rattle.pass_entry.specs.declared.objects.Node.{Node}
use Rattle.pass_entry.specs.declared.record.Record.{Record}
use Rattle.pass_outside.specs.Moments.{Moment, IsDeviceWork}
use Rattle.pass_recover.specs.declared.fault.OpenFault.{OpenFault}
use Rattle.pass_recover.specs.declared.fault.OpenFault.TheVariants as store
use Rattle.pass_status.specs.declared.status.Status.TheVariants as status
use Rattle.pass_status.specs.Statuses.{status_of_opening}
use Rattle.pass_trace.specs.Words.{is_text}
use Rattle.pass_ask.specs.Answers.{SinkSeen}
use Rattle.pass_ask.specs.Numbers.{node_in}
use Rattle.pass_leaf.specs.declared.fault.OldFault.{OldFault}
use Rattle.pass_leaf.specs.declared.fault.OldFault.TheVariants as faults
use Rattle.pass_leaf.specs.Leaves.{Leaf}
use Rattle.pass_leaf.specs.Keeping.{FileVersion}
use Rattle.pass_leaf.specs.Archives.{IsUnopened}
use Rattle.pass_leaf.specs.Open.{IsUnkept}
use Rattle.pass_leaf.proofs.Answering.{work_as, work_none}
use Rattle.pass_past.specs.Keepings.{IsStop}
use Rattle.pass_prune.specs.declared.fault.PruneFault.{PruneFault}
use Rattle.pass_prune.specs.declared.fault.PruneFault.TheVariants as prune
use Rattle.pass_prune.specs.Choices.{IsFirstLacking}
use Rattle.pass_prune.specs.Results.{HasPruned, IsNotFresh}
use Rattle.pass_old.specs.declared.status.OldStatus.{OldStatus}
use Rattle.pass_old.specs.declared.status.OldStatus.TheVariants as old_status
use Rattle.pass_old.specs.Consults.{IsReadLog}
use Rattle.pass_old.specs.Prunes.{are_nodes, folder_of, kept_line, prune_of, status_of_fresh, status_of_prune, IsFreshFault, IsPrunedAs, IsPruneTold, IsPrunedByLog, IsPrunedOf, IsPruning, IsPruneAnswer, IsWholePruning}
use Rattle.pass_old.specs.Statuses.{status_of_archive}
use Rattle.pass_old.proofs.Faulting.{work_answered}

abbrev pub nothing : Node
nothing = record { pnode = 0; version = 0 }

-- faults that an archive that keeps versions hasn't

abbrev is_other : OldFault → Bool
is_other (faults.Broken opened now) = true
is_other faults.NoVersion = true
is_other _ = false

unopened_other : (m : Moment) (e : OldFault) → IsUnopened m e → is_other e ≡ true → ⊥
unopened_other m faults.DiskFault cause is = cc is
unopened_other m (faults.BadFrame at) cause is = cc is
unopened_other m faults.NoMemory cause is = cc is
unopened_other m (faults.Broken opened now) cause is = cause
unopened_other m faults.NoVersion cause is = cause

unkept_other : (leaves : List Leaf) (end : ℕ) (v : FileVersion) (e : OldFault) → IsUnkept leaves end v e → is_other e ≡ true → ⊥
unkept_other leaves end v faults.DiskFault cause is = cc is
unkept_other leaves end v (faults.BadFrame at) cause is = cc is
unkept_other leaves end v faults.NoMemory cause is = cc is
unkept_other leaves end v (faults.Broken opened now) cause is = cause
unkept_other leaves end v faults.NoVersion cause is = cause

stop_other : (leaves : List Leaf) (end : ℕ) (rest : List FileVersion) (e : OldFault) → IsStop leaves end rest e → is_other e ≡ true → ⊥
stop_other leaves end rest e (inl starved) is = let z : false ≡ true = sym (ap is_other starved) ∙ is in cc
stop_other leaves end rest e (inr (v, more, same, above, unkept)) is = unkept_other leaves end v e unkept is

one_fault : (r : Result ℕ PruneFault) (a b : PruneFault) → r ≡ Err a → r ≡ Err b → a ≡ b
one_fault r a b first second = let z : ◌≡◌ {A = Result ℕ PruneFault} (Err a) (Err b) = sym first ∙ second in cc

no_fault : (r : Result ℕ PruneFault) (n : ℕ) (e : PruneFault) → r ≡ Ok n → r ≡ Err e → ⊥
no_fault r n e first second = let z : ◌≡◌ {A = Result ℕ PruneFault} (Ok n) (Err e) = sym first ∙ second in cc

module _ {F : Type 0} (view : F → Moment) (list : List Record) (named : List Node) (leaves : List Leaf) (fresh after : F) where
  abbrev Faulty : OldFault → Type 0
  Faulty e = IsFreshFault view list named leaves fresh after e

  fresh_other : (e : OldFault) → Faulty e → is_other e ≡ true → ⊥
  fresh_other e (inl u) is = unopened_other (view fresh) e u.cause is
  fresh_other e (inr p) is = stop_other p.last.leaves p.last.end p.stopped.rest e p.stopped.cause is

  fresh_told : (e : OldFault) (text : List ℕ) → Faulty e → IsPrunedAs view list named leaves fresh after (status_of_fresh e) text
  fresh_told faults.DiskFault text is = is
  fresh_told (faults.BadFrame at) text is = is
  fresh_told faults.NoMemory text is = inr (inl is)
  fresh_told (faults.Broken opened now) text is = absurd (fresh_other (faults.Broken opened now) is refl)
  fresh_told faults.NoVersion text is = absurd (fresh_other faults.NoVersion is refl)

  fresh_failed : (e : OldFault) → Faulty e → status_of_fresh e ≡ old_status.FreshFault → e ≡ faults.DiskFault
  fresh_failed faults.DiskFault is same = refl
  fresh_failed (faults.BadFrame at) is same = absurd (cc same)
  fresh_failed faults.NoMemory is same = absurd (cc same)
  fresh_failed (faults.Broken opened now) is same = absurd (fresh_other (faults.Broken opened now) is refl)
  fresh_failed faults.NoVersion is same = absurd (fresh_other faults.NoVersion is refl)

  module _ (r : Result ℕ PruneFault) (s : OldStatus) (text : List ℕ) where
    abbrev As : OldStatus → Type 0
    As x = IsPrunedAs view list named leaves fresh after x text

    pub refused_told : (e : PruneFault) → r ≡ Err e → s ≡ status_of_prune e → ((node : Node) → (r ≡ Err (prune.NoObject node)) ↔ IsFirstLacking list named node)
        → (r ≡ Err prune.NotFresh → IsNotFresh (view fresh) (view after)) → ((f : OldFault) → r ≡ Err (prune.Fresh f) → Faulty f)
        → ((r ≡ Err prune.NoMemory) ⊎ ((node : Node) × (r ≡ Err (prune.NoObject node))) → after ≡ fresh) → As s
    refused_told (prune.NoObject node) is same absent full stopped untouched = subst As (sym same) ((absent node).0 is, untouched (inr (node, is)))
    refused_told prune.NotFresh is same absent full stopped untouched = subst As (sym same) (full is)
    refused_told (prune.Fresh f) is same absent full stopped untouched = subst As (sym same) (fresh_told f text (stopped f is))
    refused_told prune.NoMemory is same absent full stopped untouched = subst As (sym same) (inl (untouched (inl is)))

    pub refused_absent : (e : PruneFault) → r ≡ Err e → s ≡ status_of_prune e → ((node : Node) → (r ≡ Err (prune.NoObject node)) ↔ IsFirstLacking list named node)
        → (node : Node) → IsFirstLacking list named node → s ≡ old_status.Same (status.NoObject node)
    refused_absent e is same absent node lacks = same ∙ ap status_of_prune (one_fault r e (prune.NoObject node) is ((absent node).1 lacks))

    pub kept_absent : (n : ℕ) → r ≡ Ok n → ((node : Node) → (r ≡ Err (prune.NoObject node)) ↔ IsFirstLacking list named node)
        → (node : Node) → IsFirstLacking list named node → s ≡ old_status.Same (status.NoObject node)
    kept_absent n is absent node lacks = absurd (no_fault r n (prune.NoObject node) is ((absent node).1 lacks))

    -- the fresh archive is whole, and its line is made or isn't

    pub kept_told : (n : ℕ) → r ≡ Ok n → HasPruned view list named leaves fresh after n → ((s ≡ old_status.Same status.Done) × (text ≡ kept_line n (length leaves))) ⊎ (s ≡ old_status.Same status.NoMemory) → As s
    kept_told n is has (inl (same, line)) = subst As (sym same) (n, has, line)
    kept_told n is has (inr same) = subst As (sym same) (inr (inr (n, has)))

    kept_other : (n : ℕ) → ((s ≡ old_status.Same status.Done) × (text ≡ kept_line n (length leaves))) ⊎ (s ≡ old_status.Same status.NoMemory) → s ≢ old_status.FreshFault
    kept_other n (inl (same, line)) is = let z : old_status.Same status.Done ≡ old_status.FreshFault = sym same ∙ is in cc
    kept_other n (inr same) is = let z : old_status.Same status.NoMemory ≡ old_status.FreshFault = sym same ∙ is in cc

    failed_fresh : (e : PruneFault) → r ≡ Err e → s ≡ status_of_prune e → ((f : OldFault) → r ≡ Err (prune.Fresh f) → Faulty f) → s ≡ old_status.FreshFault → r ≡ Err (prune.Fresh faults.DiskFault)
    failed_fresh (prune.NoObject node) is same stopped failed = let z : old_status.Same (status.NoObject node) ≡ old_status.FreshFault = sym same ∙ failed in absurd (cc)
    failed_fresh prune.NotFresh is same stopped failed = let z : old_status.NotFresh ≡ old_status.FreshFault = sym same ∙ failed in absurd (cc)
    failed_fresh (prune.Fresh f) is same stopped failed = subst (λ (x : OldFault). r ≡ Err (prune.Fresh x)) (fresh_failed f (stopped f is) (sym same ∙ failed)) is
    failed_fresh prune.NoMemory is same stopped failed = let z : old_status.Same status.NoMemory ≡ old_status.FreshFault = sym same ∙ failed in absurd (cc)

    pub refused_work : (e : PruneFault) → r ≡ Err e → s ≡ status_of_prune e → ((f : OldFault) → r ≡ Err (prune.Fresh f) → Faulty f)
        → IsDeviceWork (view fresh) (view after) (r ≡ Err (prune.Fresh faults.DiskFault)) → IsDeviceWork (view fresh) (view after) (s ≡ old_status.FreshFault)
    refused_work e is same stopped w =
        work_as (view fresh) (view after) (r ≡ Err (prune.Fresh faults.DiskFault)) (s ≡ old_status.FreshFault) (failed_fresh e is same stopped)
        (λ f. same ∙ ap status_of_prune (one_fault r e (prune.Fresh faults.DiskFault) is f)) w

    pub kept_work : (n : ℕ) → r ≡ Ok n → ((s ≡ old_status.Same status.Done) × (text ≡ kept_line n (length leaves))) ⊎ (s ≡ old_status.Same status.NoMemory) → IsDeviceWork (view fresh) (view after) (r ≡ Err (prune.Fresh faults.DiskFault)) → IsDeviceWork (view fresh) (view after) (s ≡ old_status.FreshFault)
    kept_work n is ends w =
        work_as (view fresh) (view after) (r ≡ Err (prune.Fresh faults.DiskFault)) (s ≡ old_status.FreshFault) (λ f. absurd (kept_other n ends f)) (λ f. absurd (no_fault r n (prune.Fresh faults.DiskFault) is f)) w

  -- the statuses to which records and leaves that were read don't come
  pub pruned_not : (s : OldStatus) (text : List ℕ) → IsPrunedAs view list named leaves fresh after s text
      → (s ≢ old_status.ArchiveFault) × (s ≢ old_status.Same status.WriteFault) × (s ≢ old_status.Same status.BadWords)
  pruned_not s text is = (
    λ e. subst (λ (x : OldStatus). IsPrunedAs view list named leaves fresh after x text) e is,
    λ e. subst (λ (x : OldStatus). IsPrunedAs view list named leaves fresh after x text) e is,
    λ e. subst (λ (x : OldStatus). IsPrunedAs view list named leaves fresh after x text) e is,
  )

-- the statuses that neither an archive nor a log has that isn't read

abbrev pub is_read : OldStatus → Bool
is_read (old_status.Same status.Done) = true
is_read (old_status.Same status.BadWords) = true
is_read (old_status.Same status.WriteFault) = true
is_read old_status.FreshFault = true
is_read _ = false

pub unread_not : (f : OldFault) → is_read (status_of_archive f nothing) ≡ true → ⊥
unread_not faults.DiskFault is = cc is
unread_not (faults.Broken opened now) is = cc is
unread_not (faults.BadFrame at) is = cc is
unread_not faults.NoVersion is = cc is
unread_not faults.NoMemory is = cc is

opening_not : (a b : ℕ) (f : OpenFault) → is_read (old_status.Same (status_of_opening a b f)) ≡ true → ⊥
opening_not a b store.DiskFault is = cc is
opening_not a b store.NoMemory is = cc is
opening_not a b (store.BadFrame at) is = cc is
opening_not a b (store.BadRecord place why) is = cc is
opening_not a b (store.Flaw place reason) is = cc is

-- where nothing was done with the fresh archive
pub unread_work : {F : Type 0} (view : F → Moment) (fresh after : F) (s : OldStatus) → after ≡ fresh → s ≢ old_status.FreshFault → IsDeviceWork (view fresh) (view after) (s ≡ old_status.FreshFault)
unread_work view fresh after s same other = subst (λ x. IsDeviceWork (view fresh) (view x) (s ≡ old_status.FreshFault)) (sym same) (work_none (view fresh) (s ≡ old_status.FreshFault) other)

-- a fault of the archive is none of the fresh one
pub archive_fresh : (f : OldFault) (s : OldStatus) → s ≡ status_of_archive f nothing → s ≢ old_status.FreshFault
archive_fresh f s same is = unread_not f (ap is_read (sym same ∙ is))

module _ {D F : Type 0} (view : D → Moment) (fresh_view : F → Moment) (archive : Moment) (disk disk_then : D) (named : List Node) (fresh after : F) (text : List ℕ) (judged : OldStatus) where
  abbrev ReadLog : List Leaf → Type 0
  ReadLog leaves = IsReadLog (view disk) (view disk_then) leaves (IsPruneTold fresh_view named fresh after text judged)

  logged_of : is_read judged ≡ true → (leaves : List Leaf) → IsPrunedByLog fresh_view (view disk) (view disk_then) named leaves fresh after text judged → ReadLog leaves
  logged_of is leaves (inl (stays, u)) = absurd (opening_not (view disk).faults (view disk_then).faults u.fault (sym (ap is_read u.is) ∙ is))
  logged_of is leaves (inr w) = w

  read_of : is_read judged ≡ true → IsPruning view fresh_view archive disk disk_then named fresh after text judged
      → (p : IsPrunedOf fresh_view archive (view disk) (view disk_then) named fresh after text judged) × ReadLog p.leaves
  read_of is (inl (same, stays, u)) = absurd (unread_not u.fault (sym (ap is_read (u.is nothing)) ∙ is))
  read_of is (inr p) = (p, logged_of is p.leaves p.by)

  -- neither the sink nor the words are judged there
  pub never_written : IsPruning view fresh_view archive disk disk_then named fresh after text judged → judged ≢ old_status.Same status.WriteFault
  never_written by is =
      let r = read_of (ap is_read is) by in
      (pruned_not fresh_view r.1.list named r.0.leaves fresh after judged text r.1.told.told).1 is

  pub never_words : IsPruning view fresh_view archive disk disk_then named fresh after text judged → judged ≢ old_status.Same status.BadWords
  never_words by is =
      let r = read_of (ap is_read is) by in
      (pruned_not fresh_view r.1.list named r.0.leaves fresh after judged text r.1.told.told).2 is

-- what was judged, where the answer is no fault of the sink
pub judged_as : (answered judged s : OldStatus) → s ≢ old_status.Same status.WriteFault → answered ≡ s → (answered ≡ judged) ⊎ (answered ≡ old_status.Same status.WriteFault) → judged ≡ s
judged_as answered judged s other is (inl same) = sym same ∙ is
judged_as answered judged s other is (inr failed) = absurd (other (sym is ∙ failed))

module _ {D A F : Type 0} (view : D → Moment) (archive_view : A → Moment) (fresh_view : F → Moment) (disk disk_then : D) (archive archived : A) (fresh after : F) (named : List Node) (sink : SinkSeen) (answered : OldStatus)
    (a : IsPruneAnswer view archive_view fresh_view disk disk_then archive archived fresh after named sink answered) where
  abbrev Starved : Type 0
  Starved = answered ≡ old_status.Same status.NoMemory

  pub answer_whole : answered ≡ old_status.Same status.Done → IsWholePruning view archive_view fresh_view disk archive fresh after named
  answer_whole is =
      let known : Starved → ⊥ = λ starved. let z : old_status.Same status.NoMemory ≡ old_status.Same status.Done = sym starved ∙ is in cc in
      let done : a.judged ≡ old_status.Same status.Done = judged_as answered a.judged (old_status.Same status.Done) (λ e. cc e) is (a.written known).stands in
      let r = read_of view fresh_view (archive_view archive) disk disk_then named fresh after a.text a.judged (ap is_read done) a.by in
      let told = subst (λ (x : OldStatus). IsPrunedAs fresh_view r.1.list named r.0.leaves fresh after x a.text) done r.1.told.told in
      record { leaves = r.0.leaves; end = r.0.end; is = r.0.is; list = r.1.list; logged = r.1.logged; count = told.0; pruned = told.1 }

  pub answer_words : answered ≡ old_status.Same status.BadWords → ⊥
  answer_words is =
      let known : Starved → ⊥ = λ starved. let z : old_status.Same status.NoMemory ≡ old_status.Same status.BadWords = sym starved ∙ is in cc in
      never_words view fresh_view (archive_view archive) disk disk_then named fresh after a.text a.judged a.by
      (judged_as answered a.judged (old_status.Same status.BadWords) (λ e. cc e) is (a.written known).stands)

  pub answer_work : (Starved → ⊥) → answered ≢ old_status.Same status.WriteFault → IsDeviceWork (archive_view archive) (archive_view archived) (answered ≡ old_status.ArchiveFault)
  answer_work known taken = work_answered (archive_view archive) (archive_view archived) answered a.judged old_status.ArchiveFault taken (a.written known).stands a.work

  pub answer_fresh_work : (Starved → ⊥) → answered ≢ old_status.Same status.WriteFault → IsDeviceWork (fresh_view fresh) (fresh_view after) (answered ≡ old_status.FreshFault)
  answer_fresh_work known taken = work_answered (fresh_view fresh) (fresh_view after) answered a.judged old_status.FreshFault taken (a.written known).stands a.fresh_work

-- where memory was refused before anything was done
pub starved_answer : {D A F : Type 0} (view : D → Moment) (archive_view : A → Moment) (fresh_view : F → Moment) (disk : D) (archive : A) (fresh : F) (named : List Node) (sink : SinkSeen)
    → IsPruneAnswer view archive_view fresh_view disk disk archive archive fresh fresh named sink (old_status.Same status.NoMemory)
starved_answer view archive_view fresh_view disk archive fresh named sink = record {
  judged = old_status.Same status.NoMemory;
  text = [];
  by = inl (refl, refl, record { fault = faults.NoMemory; is = λ node. refl; cause = tt });
  work = work_none (archive_view archive) (old_status.Same status.NoMemory ≡ old_status.ArchiveFault) (λ f. cc f);
  reads = λ other. refl;
  fresh_work = work_none (fresh_view fresh) (old_status.Same status.NoMemory ≡ old_status.FreshFault) (λ f. cc f);
  written = λ known. absurd (known refl);
}

-- the words that were read

pub one_named : (read : Option (List Node)) (a b : List Node) → Some a ≡ read → read ≡ Some b → a ≡ b
one_named read a b first second = some_is a b (first ∙ second)

pub some_named : (read : Option (List Node)) (a : List Node) → Some a ≡ read → read ≡ None → ⊥
some_named read a first none = let z : ◌≡◌ {A = Option (List Node)} (Some a) None = first ∙ none in cc

pub none_named : (read : Option (List Node)) (a : List Node) → None ≡ read → read ≡ Some a → ⊥
none_named read a first some = let z : ◌≡◌ {A = Option (List Node)} None (Some a) = first ∙ some in cc

-- bad words don't touch a disk
pub words_alone : (m : Moment) (answered s : OldStatus) → s ≢ old_status.Same status.BadWords → answered ≢ old_status.Same status.WriteFault
    → (answered ≡ old_status.Same status.BadWords) ⊎ (answered ≡ old_status.Same status.WriteFault) → IsDeviceWork m m (answered ≡ s)
words_alone m answered s other taken (inl same) = work_none m (answered ≡ s) (λ is. other (sym is ∙ same))
words_alone m answered s other taken (inr failed) = absurd (taken failed)

-- the words behind the first two

take_behind : {X : Type 0} (x y : X) (xs : List X) → take (length (x ∷ y ∷ xs) - 2) (drop 2 (x ∷ y ∷ xs)) ≡ xs
take_behind x y xs = grind (arith, common_steps)

-- what is asked by the name and the words behind the folder
abbrev pub asked_by : (List ℕ) → List (List ℕ) → Bool
asked_by name nodes = is_text name (codes "prune") && are_nodes nodes

pub prune_parts : {X : Type 0} (f : X → List ℕ) (words : List X) (d : X) → 2 ≤ length words
    → (if asked_by (f (get_or words 0 d)) (map f (take (length words - 2) (drop 2 words))) then Some (filter_map node_in (map f (take (length words - 2) (drop 2 words)))) else None) ≡ prune_of (map f words)
prune_parts f [] d some = absurd (omega (arith, some))
prune_parts f (x ∷ []) d some = absurd (omega (arith, some))
prune_parts f (x ∷ y ∷ xs) d some = ap (λ ws. if asked_by (f x) (map f ws) then Some (filter_map node_in (map f ws)) else None) (take_behind x y xs)

pub folder_parts : {X : Type 0} (f : X → List ℕ) (words : List X) (d : X) → 2 ≤ length words
    → (if asked_by (f (get_or words 0 d)) (map f (take (length words - 2) (drop 2 words))) then Some (f (get_or words 1 d)) else None) ≡ folder_of (map f words)
folder_parts f [] d some = absurd (omega (arith, some))
folder_parts f (x ∷ []) d some = absurd (omega (arith, some))
folder_parts f (x ∷ y ∷ xs) d some = ap (λ ws. if asked_by (f x) (map f ws) then Some (f y) else None) (take_behind x y xs)

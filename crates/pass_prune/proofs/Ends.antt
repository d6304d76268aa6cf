-- What comes of pruning.
use Rattle.std.proofs.Common.{◌≡◌, ◌⊎◌, ℕ, ◌<◌, ◌≤◌, Bool, List, [], ◌++◌, length, Result, Ok, Err, inl, inr, refl, sym, ◌∙◌, ap, subst, arith, length-append}
use Rattle.std.specs.Prelude.{None, IfOk, IsErrOf, ◌↔◌, if◌then◌else◌}
use Rattle.std.proofs.lemmas.Bool.{false_from_ne_true}
use Rattle.std.proofs.lemmas.List.{nil_from_length, append-nil}
use Rattle.pass_entry.specs.declared.objects.Node.{Node}
use Rattle.pass_entry.specs.declared.record.Record.{Record}
use Rattle.pass_outside.specs.Moments.{Moment, IsDeviceWork}
use Rattle.pass_leaf.specs.declared.fault.OldFault.{OldFault}
use Rattle.pass_leaf.specs.declared.fault.OldFault.TheVariants as faults
use Rattle.pass_leaf.specs.Leaves.{Leaf}
use Rattle.pass_leaf.specs.Contents.{content_of, last_content, last_version, AreLeaves}
use Rattle.pass_leaf.specs.Keeping.{FileVersion, kept_all}
use Rattle.pass_leaf.specs.Archives.{Archive, LeavesThem}
use Rattle.pass_leaf.specs.Open.{IsUnwritten}
use Rattle.pass_leaf.proofs.Answering.{work_none, work_as}
use Rattle.pass_past.specs.Keepings.{HasKept, HasStopped}
use Rattle.pass_past.proofs.Goings.{work_both}
use Rattle.pass_prune.specs.declared.fault.PruneFault.{PruneFault}
use Rattle.pass_prune.specs.declared.fault.PruneFault.TheVariants.{NoObject, NotFresh, Fresh, NoMemory}
use Rattle.pass_prune.specs.Choices.{IsChoice, IsFirstLacking}
use Rattle.pass_prune.specs.Keepings.{IsKeptOut, IsFresh, IsKeptOnto}
use Rattle.pass_prune.specs.Laws.{PrunedLaw, GoesOnLaw}
use Rattle.pass_prune.specs.Openings.{IsOpened, IsUnopenedArchive, IsHandedOut}
use Rattle.pass_prune.specs.Prunings.{chosen_of, pruned}
use Rattle.pass_prune.specs.Results.{HasPruned, IsPartlyPruned, IsNotFresh}
use Rattle.pass_prune.specs.Tables.{AreNodes}
use Rattle.pass_prune.proofs.Nodes.{one_lacks, none_lacks}

-- of an archive that gathers nothing
pub counted_as : (n : ℕ) (leaves gathered : List Leaf) → n ≡ length (leaves ++ gathered) → gathered ≡ [] → n ≡ length leaves
counted_as n leaves gathered is none = is ∙ ap (λ (l : List Leaf). length (leaves ++ l)) none ∙ ap length (append-nil leaves)

pub none_there : (n : ℕ) (leaves gathered : List Leaf) → n ≡ length (leaves ++ gathered) → n ≤ 0 → leaves ≡ []
none_there n leaves gathered is few = nil_from_length leaves (omega (arith, is, few, length-append leaves gathered))

pub handed : {F : Type 0} (view : F → Moment) (last : Archive F) (after : F) → after ≡ last.disk → LeavesThem (view last.disk) last.opened last.leaves last.end → IsHandedOut view last after
handed view last after same leaves = record { disk = same; leaves = subst (λ (m : Moment). LeavesThem m last.opened last.leaves last.end) (sym (ap view same)) leaves }

-- the archive was opened, and then the versions kept
module _ {F : Type 0} (view : F → Moment) (versions : List FileVersion) (fresh after : F) (first : Archive F) (opened : IsOpened view fresh first) where
  pub kept_onto : (0 < length first.leaves → IsUnwritten (view fresh) (view first.disk))
      → (r : Result ℕ PruneFault) → IsKeptOut view versions first after r → IsKeptOnto view versions fresh after r
  kept_onto alone (Ok n) (last, (empty, kept, counted), out) = (first, last, (opened, empty), kept, counted, out)
  kept_onto alone (Err NotFresh) (last, (some, same), out) =
      let disk : view after ≡ view first.disk = ap view (out.disk ∙ ap (λ (a : Archive F). a.disk) same) in
      record { leaves = first.leaves; end = first.end; archive = opened.leaves; some = some; unwritten = subst (IsUnwritten (view fresh)) (sym disk) (alone some) }
  kept_onto alone (Err (Fresh fault)) (last, (empty, stopped), out) = inr (first, last, (opened, empty), stopped, out)
  kept_onto alone (Err (NoObject node)) (last, none, out) = absurd none
  kept_onto alone (Err NoMemory) (last, none, out) = absurd none

  -- a call of its disk failed exactly where that is answered
  abbrev fresh_with : OldFault → Result ℕ PruneFault
  fresh_with fault = Err (Fresh fault)

  work_onto : (failed : Type 0) → IsDeviceWork (view first.disk) (view after) failed → IsDeviceWork (view fresh) (view after) failed
  work_onto failed work = work_both (view fresh) (view first.disk) (view after) failed opened.work work

  work_to : (last : Archive F) (failed other : Type 0) → after ≡ last.disk → (other → failed) → (failed → other) → IsDeviceWork (view first.disk) (view last.disk) failed → IsDeviceWork (view fresh) (view after) other
  work_to last failed other same to from work =
      work_onto other (work_as (view first.disk) (view after) failed other to from (subst (λ (m : Moment). IsDeviceWork (view first.disk) m failed) (sym (ap view same)) work))

  pub kept_work : (r : Result ℕ PruneFault) → IsKeptOut view versions first after r → IsDeviceWork (view fresh) (view after) (IsErrOf r (Fresh faults.DiskFault))
  kept_work (Ok n) (last, (empty, kept, counted), out) = work_to last ⊥ (IsErrOf (Ok n) (Fresh faults.DiskFault)) out.disk (λ e. absurd (cc e)) (λ none. absurd none) kept.work
  kept_work (Err NotFresh) (last, (some, same), out) =
      let work : IsDeviceWork (view first.disk) (view first.disk) ⊥ = record { tells = refl; rises = omega arith; later = omega arith; fault = λ none. absurd none; no_fault = λ none. refl } in
      work_to first ⊥ (IsErrOf (Err NotFresh) (Fresh faults.DiskFault)) (out.disk ∙ ap (λ (a : Archive F). a.disk) same) (λ e. absurd (cc e)) (λ none. absurd none) work
  kept_work (Err (Fresh fault)) (last, (empty, stopped), out) =
      work_to last (fault ≡ faults.DiskFault) (IsErrOf (Err (Fresh fault)) (Fresh faults.DiskFault)) out.disk (λ e. cc e) (λ e. ap fresh_with e) stopped.work
  kept_work (Err (NoObject node)) (last, none, out) = absurd none
  kept_work (Err NoMemory) (last, none, out) = absurd none

-- it didn't open
pub unopened_work : {F : Type 0} (view : F → Moment) (fresh after : F) (fault : OldFault) → IsUnopenedArchive (view fresh) (view after) fault → IsDeviceWork (view fresh) (view after) (IsErrOf {T = ℕ} (Err (Fresh fault)) (Fresh faults.DiskFault))
unopened_work view fresh after fault u = work_as (view fresh) (view after) (fault ≡ faults.DiskFault) (IsErrOf {T = ℕ} (Err (Fresh fault)) (Fresh faults.DiskFault)) (λ e. cc e) (λ e. ap with_fault e) u.work
  where
    with_fault : OldFault → Result ℕ PruneFault
    with_fault f = Err (Fresh f)

-- what was kept are the chosen versions
module _ {F : Type 0} (view : F → Moment) (list : List Record) (named : List Node) (leaves : List Leaf) (choice : Node → Bool) (is : IsChoice list named leaves choice) (fresh after : F) where
  all_pruned : PrunedLaw → GoesOnLaw → AreLeaves leaves → (first last : Archive F) (n : ℕ) → IsFresh view fresh first → HasKept view first (chosen_of choice leaves) last → n ≡ length last.leaves → IsHandedOut view last after
      → HasPruned view list named leaves fresh after n
  all_pruned law on are first last n (opened, empty) kept counted out =
      let leaves_are : last.leaves ≡ pruned choice leaves = kept.leaves_are ∙ ap (λ (l : List Leaf). kept_all l (chosen_of choice leaves)) empty in
      record {
        choice = choice;
        choice_is = is;
        first = first;
        last = last;
        opened = opened;
        empty = empty;
        kept = kept;
        leaves_are = leaves_are;
        counted = counted;
        same = λ node chosen.
            ap (λ (l : List Leaf). content_of l node) leaves_are ∙ law choice leaves are node ∙ ap (λ (b : Bool). if b then content_of leaves node else None) ((is node).1 chosen);
        others = λ node none.
            ap (λ (l : List Leaf). content_of l node) leaves_are ∙ law choice leaves are node
            ∙ ap (λ (b : Bool). if b then content_of leaves node else None) (false_from_ne_true (choice node) (λ yes. none ((is node).0 yes)));
        goes_on = λ p.
            subst (λ (l : List Leaf). (last_version l p ≡ last_version leaves p) × (last_content l p ≡ last_content leaves p)) (sym leaves_are) (on choice leaves are (λ node current. (is node).1 (inl current)) p);
        handed_out = out;
      }

  pub ended_pruned : PrunedLaw → GoesOnLaw → AreLeaves leaves → (r : Result ℕ PruneFault) → IsKeptOnto view (chosen_of choice leaves) fresh after r → IfOk r (HasPruned view list named leaves fresh after)
  ended_pruned law on are (Ok n) (first, last, was, kept, counted, out) = all_pruned law on are first last n was kept counted out
  ended_pruned law on are (Err e) onto = tt

  pub ended_fresh : (r : Result ℕ PruneFault) → IsKeptOnto view (chosen_of choice leaves) fresh after r → r ≡ Err NotFresh → IsNotFresh (view fresh) (view after)
  ended_fresh (Ok n) onto e = absurd (cc e)
  ended_fresh (Err NotFresh) onto e = onto
  ended_fresh (Err (Fresh fault)) onto e = absurd (let z : Fresh fault ≡ NotFresh = cc e in cc z)
  ended_fresh (Err (NoObject node)) onto e = absurd onto
  ended_fresh (Err NoMemory) onto e = absurd onto

  abbrev pub IsStopped : OldFault → Type 0
  IsStopped fault = IsUnopenedArchive (view fresh) (view after) fault ⊎ IsPartlyPruned view list named leaves fresh after fault

  partly : (fault : OldFault) → IsUnopenedArchive (view fresh) (view after) fault ⊎ ((first last : Archive F) × IsFresh view fresh first × HasStopped view first (chosen_of choice leaves) last fault × IsHandedOut view last after) → IsStopped fault
  partly fault (inl unopened) = inl unopened
  partly fault (inr (first, last, was, stopped, out)) =
      inr (record { choice = choice; choice_is = is; first = first; last = last; opened = was.0; empty = was.1; stopped = stopped; handed_out = out })

  pub ended_stopped : (r : Result ℕ PruneFault) → IsKeptOnto view (chosen_of choice leaves) fresh after r → (fault : OldFault) → r ≡ Err (Fresh fault) → IsStopped fault
  ended_stopped (Ok n) onto fault e = absurd (cc e)
  ended_stopped (Err NotFresh) onto fault e = absurd (let z : NotFresh ≡ Fresh fault = cc e in cc z)
  ended_stopped (Err (Fresh other)) onto fault e = subst IsStopped (let z : Fresh other ≡ Fresh fault = cc e in cc z) (partly other onto)
  ended_stopped (Err (NoObject node)) onto fault e = absurd onto
  ended_stopped (Err NoMemory) onto fault e = absurd onto

  -- neither a node that isn't there nor want of memory is told once the archive was opened
  pub ended_alone : (r : Result ℕ PruneFault) → IsKeptOnto view (chosen_of choice leaves) fresh after r → (r ≡ Err NoMemory) ⊎ ((node : Node) × (r ≡ Err (NoObject node))) → ⊥
  ended_alone (Ok n) onto (inl e) = cc e
  ended_alone (Ok n) onto (inr (node, e)) = cc e
  ended_alone (Err NotFresh) onto (inl e) = let z : NotFresh ≡ NoMemory = cc e in cc z
  ended_alone (Err NotFresh) onto (inr (node, e)) = let z : NotFresh ≡ NoObject node = cc e in cc z
  ended_alone (Err (Fresh fault)) onto (inl e) = let z : Fresh fault ≡ NoMemory = cc e in cc z
  ended_alone (Err (Fresh fault)) onto (inr (node, e)) = let z : Fresh fault ≡ NoObject node = cc e in cc z
  ended_alone (Err (NoObject node)) onto e = onto
  ended_alone (Err NoMemory) onto e = onto

-- nothing was done
module _ (r : Result ℕ PruneFault) (e : PruneFault) (is : r ≡ Err e) where
  pub refused_if : (P : ℕ → Type 0) → IfOk r P
  refused_if P = subst (λ (x : Result ℕ PruneFault). IfOk x P) (sym is) tt

  pub refused_not : (f : PruneFault) → (e ≡ f → ⊥) → r ≡ Err f → ⊥
  refused_not f other same = other (let z : Err e ≡ Err f = sym is ∙ same in cc z)

  pub refused_work : {F : Type 0} (view : F → Moment) (fresh after : F) → after ≡ fresh → ((fault : OldFault) → e ≡ Fresh fault → ⊥) → IsDeviceWork (view fresh) (view after) (IsErrOf r (Fresh faults.DiskFault))
  refused_work view fresh after same other =
      subst (λ (m : Moment). IsDeviceWork (view fresh) m (IsErrOf r (Fresh faults.DiskFault))) (sym (ap view same))
      (work_none (view fresh) (IsErrOf r (Fresh faults.DiskFault)) (λ err. refused_not (Fresh faults.DiskFault) (other faults.DiskFault) err))

  pub refused_node : (list : List Record) (named : List Node) (node : Node) → e ≡ NoObject node → IsFirstLacking list named node → (n : Node) → (r ≡ Err (NoObject n)) ↔ IsFirstLacking list named n
  refused_node list named node own lacks n = (
    λ same. subst (IsFirstLacking list named) (let z : Err (NoObject node) ≡ Err (NoObject n) = ap err_with (sym own) ∙ sym is ∙ same in cc z) lacks,
    λ other. is ∙ ap err_with own ∙ ap (λ (m : Node). err_with (NoObject m)) (one_lacks list named node n lacks other),
  )
    where
      err_with : PruneFault → Result ℕ PruneFault
      err_with f = Err f

pub absent_none : (r : Result ℕ PruneFault) (list : List Record) (named : List Node) → AreNodes list named → ((n : Node) → r ≡ Err (NoObject n) → ⊥) → (n : Node) → (r ≡ Err (NoObject n)) ↔ IsFirstLacking list named n
absent_none r list named all none n = (λ same. absurd (none n same), λ other. absurd (none_lacks list named all n other))

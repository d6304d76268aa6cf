-- The courses of all files, one step or one leaf after the other.
use Rattle.std.proofs.Common.{◌≡◌, ◌∙◌, ◌==◌, ◌<◌, ◌++◌, ℕ, Bool, true, false, cond, List, [], ◌∷◌, length, take, refl, sym, ap, subst, arith, append-nil}
use Rattle.std.specs.declared.alloc.Global.{Global}
use Rattle.std.specs.Prelude.{Vec, Option, Some, None, IfSome, option_and_then, if◌then◌else◌}
use Rattle.std.specs.List.{before_first, cons_option}
use Rattle.std.specs.Option.{MatchOption}
use Rattle.std.specs.Ordering.{nat_cmp, is_eq}
use Rattle.std.specs.Cmp.{nat_cmp_total, tied_itself}
use Rattle.std.specs.BTreeMap.{BTreeMap, get, is_at, Updates}
use Rattle.std.specs.Map.{lookup}
use Rattle.std.specs.FinMap.{nat_cmp-IsAntisymmetric}
use Rattle.std.proofs.lemmas.List.Elements.{filter_map-append}
use Rattle.pass_entry.proofs.Lists.{different, is_equal, same_itself}
use Rattle.pass_entry.specs.declared.record.Record.{Record}
use Rattle.pass_leaf.specs.Leaves.{Leaf}
use Rattle.pass_leaf.specs.Contents.{laid, last_content, last_version}
use Rattle.pass_leaf.proofs.Lists.{last_content-push, last_version-push}
use Rattle.pass_audit.specs.Audits.{log_at, verdict_on}
use Rattle.pass_audit.specs.Courses.{step_in, step_for, own_step, own_steps, is_later, IsAfter, HasCome, IsCourse, AreCourses, IsFresh, AreFresh, more_of, verdict_by}
use Rattle.pass_audit.specs.declared.course.Course.{Course}
use Rattle.pass_audit.specs.declared.steps.Step.{Step}
use Rattle.pass_audit.specs.declared.verdict.Verdict.{Verdict}
use Rattle.pass_audit.specs.declared.verdict.Verdict.TheVariants.{Unknown}
use Rattle.pass_audit.proofs.Coming.{come_later, same_verdict, no_verdict}

-- what holds of the new value at its key, and of the others as before, holds of all
pub updated : (Q : ℕ → Option Course → Type 0) (m n : BTreeMap ℕ Course) (k : ℕ) (new : Course) → Updates nat_cmp m n k (Some new) → Q k (Some new)
    → ((q : ℕ) → (k == q) ≡ false → Q q (get nat_cmp m q)) → (q : ℕ) → Q q (get nat_cmp n q)
updated Q m n k new updates here others q = subst (Q q) (sym (updates.0 q)) (by (is_eq (nat_cmp k q)) refl)
  where
    by : (b : Bool) → is_eq (nat_cmp k q) ≡ b → Q q (cond b (Some new) (get nat_cmp m q))
    by true is = subst (λ (p : ℕ). Q p (Some new)) (nat_cmp-IsAntisymmetric k q (is_equal (nat_cmp k q) is)) here
    by false is = others q (different k q (λ same. let z : false ≡ true = sym is ∙ ap (λ (p : ℕ). is_eq (nat_cmp k p)) (sym same) ∙ ap is_eq (tied_itself nat_cmp_total k) in cc))

abbrev Fresh : (ℕ → List Step) → ℕ → Option Course → Type 0
Fresh own q o = MatchOption o (own q ≡ []) (IsFresh (own q))

-- a file's new course without steps stands for the steps that it has not
pub met_fresh : (own : ℕ → List Step) (m n : BTreeMap ℕ Course) (k : ℕ) (new : Course) → Updates nat_cmp m n k (Some new) → get nat_cmp m k ≡ None
    → new.steps.items ≡ [] → new.next ≡ 0 → IsAfter [] new.state → new.content.items ≡ [] → AreFresh own m → AreFresh own n
met_fresh own m n k new updates none steps next state content was =
    let empty : own k ≡ [] = subst (Fresh own k) none (was k) in
    let here : IsFresh (own k) new = record { are = steps ∙ sym empty; next = next; state = state; content = content } in
    updated (Fresh own) m n k new updates here (λ q other. was q)

more_others : (own : ℕ → List Step) (k q : ℕ) (step : Step) → (k == q) ≡ false → more_of own k step q ≡ own q
more_others own k q step other = ap (λ (b : Bool). own q ++ (if b then step ∷ [] else [])) other ∙ append-nil (own q)

more_here : (own : ℕ → List Step) (k : ℕ) (step : Step) → more_of own k step k ≡ own k ++ step ∷ []
more_here own k step = ap (λ (b : Bool). own k ++ (if b then step ∷ [] else [])) (same_itself k)

-- one step more of a file that has a course
pub pushed_fresh : (own : ℕ → List Step) (m n : BTreeMap ℕ Course) (k : ℕ) (step : Step) (old new : Course) → Updates nat_cmp m n k (Some new) → get nat_cmp m k ≡ Some old
    → new.steps.items ≡ old.steps.items ++ step ∷ [] → new.next ≡ old.next → new.state ≡ old.state → new.content ≡ old.content → AreFresh own m → AreFresh (more_of own k step) n
pushed_fresh own m n k step old new updates there steps next state content was =
    let f : IsFresh (own k) old = subst (Fresh own k) there (was k) in
    updated (Fresh (more_of own k step)) m n k new updates
    (record {
      are = steps ∙ ap (λ (s : List Step). s ++ step ∷ []) f.are ∙ sym (more_here own k step);
      next = next ∙ f.next;
      state = subst (IsAfter []) (sym state) f.state;
      content = ap (λ (c : Vec ℕ Global). c.items) content ∙ f.content;
    })
    (λ q other. subst (λ (s : List Step). MatchOption (get nat_cmp m q) (s ≡ []) (IsFresh s)) (sym (more_others own k q step other)) (was q))

-- a file's steps behind one record more
own_more : (list : List Record) (r : Record) (file : ℕ) (o : Option (ℕ × Step)) → step_in r ≡ o → own_steps file list ++ cons_option (option_and_then (step_for file) o) [] ≡ own_steps file (list ++ r ∷ [])
own_more list r file o is = ap (λ (o : Option (ℕ × Step)). own_steps file list ++ cons_option (option_and_then (step_for file) o) []) (sym is) ∙ sym (filter_map-append (own_step file) list (r ∷ []))

pub noted : (list : List Record) (r : Record) (pnode : ℕ) (step : Step) (m : BTreeMap ℕ Course) → step_in r ≡ Some (pnode, step) → AreFresh (more_of (λ file. own_steps file list) pnode step) m
    → AreFresh (λ file. own_steps file (list ++ r ∷ [])) m
noted list r pnode step m is more file = subst (λ (s : List Step). Fresh (λ (q : ℕ). s) file (get nat_cmp m file)) (by (pnode == file) ∙ own_more list r file (Some (pnode, step)) is) (more file)
  where
    by : (b : Bool) → own_steps file list ++ (if b then step ∷ [] else []) ≡ own_steps file list ++ cons_option (if b then Some step else None) []
    by true = refl
    by false = refl

pub unnoted : (list : List Record) (r : Record) (m : BTreeMap ℕ Course) → step_in r ≡ None → AreFresh (λ file. own_steps file list) m → AreFresh (λ file. own_steps file (list ++ r ∷ [])) m
unnoted list r m is was file =
    subst (λ (s : List Step). Fresh (λ (q : ℕ). s) file (get nat_cmp m file)) (sym (append-nil (own_steps file list)) ∙ own_more list r file None is) (was file)

-- before the first leaf
pub fresh_courses : (list : List Record) (m : BTreeMap ℕ Course) → AreFresh (λ file. own_steps file list) m → AreCourses list [] m
fresh_courses list m was file = by (get nat_cmp m file) (was file)
  where
    by : (o : Option Course) → MatchOption o (own_steps file list ≡ []) (IsFresh (own_steps file list)) → MatchOption o (own_steps file list ≡ []) (IsCourse list [] file)
    by None is = is
    by (Some c) f = record {
      steps = f.are;
      come = record {
        within = omega (arith, f.next);
        state = subst (λ (n : ℕ). IsAfter (take n c.steps.items) c.state) (sym f.next) f.state;
        before = λ k d low. absurd (omega (arith, low, f.next));
        sure = λ block below out. absurd (omega (arith, below, ap length f.content));
      };
      content = f.content;
    }

-- behind one leaf more
module _ (list : List Record) (past : List Leaf) (leaf : Leaf) where
  abbrev after : List Leaf
  after = past ++ leaf ∷ []

  same_course : (q : ℕ) (c : Course) → (leaf.node.pnode == q) ≡ false → IsCourse list past q c → IsCourse list after q c
  same_course q c other is = record {
    steps = is.steps;
    come = subst (λ (v : ℕ). HasCome v c) (sym (last_version-push past leaf q ∙ ap (λ (b : Bool). if b then leaf.node.version else last_version past q) other)) is.come;
    content = is.content ∙ sym (last_content-push past leaf q ∙ ap (λ (b : Bool). if b then laid (last_content past q) leaf else last_content past q) other);
  }

  others_stay : (q : ℕ) (o : Option Course) → (leaf.node.pnode == q) ≡ false → MatchOption o (own_steps q list ≡ []) (IsCourse list past q) → MatchOption o (own_steps q list ≡ []) (IsCourse list after q)
  others_stay q None other is = is
  others_stay q (Some c) other is = same_course q c other is

  -- of a file without a course
  pub unmet : (m : BTreeMap ℕ Course) → get nat_cmp m leaf.node.pnode ≡ None → AreCourses list past m → AreCourses list after m
  unmet m none was q = by (get nat_cmp m q) refl (was q)
    where
      by : (o : Option Course) → get nat_cmp m q ≡ o → MatchOption o (own_steps q list ≡ []) (IsCourse list past q) → MatchOption o (own_steps q list ≡ []) (IsCourse list after q)
      by None there is = is
      by (Some c) there is =
          same_course q c (different leaf.node.pnode q (λ same. let z : ◌≡◌ {A = Option Course} None (Some c) = sym none ∙ ap (get nat_cmp m) same ∙ there in cc)) is

  -- of a file whose course has gone on to the end of the leaf's version
  pub judged : (m n : BTreeMap ℕ Course) (old new : Course) → Updates nat_cmp m n leaf.node.pnode (Some new) → IsCourse list past leaf.node.pnode old → new.steps.items ≡ old.steps.items
      → HasCome leaf.node.version new → new.content.items ≡ laid old.content.items leaf → AreCourses list past m → AreCourses list after n
  judged m n old new updates is steps come content was =
      let file : ℕ = leaf.node.pnode in
      updated (λ q o. MatchOption o (own_steps q list ≡ []) (IsCourse list after q)) m n file new updates
      (record {
        steps = steps ∙ is.steps;
        come = subst (λ (v : ℕ). HasCome v new) (sym (last_version-push past leaf file ∙ ap (λ (b : Bool). if b then leaf.node.version else last_version past file) (same_itself file))) come;
        content = content ∙ ap (λ (c : List ℕ). laid c leaf) is.content
            ∙ sym (last_content-push past leaf file ∙ ap (λ (b : Bool). if b then laid (last_content past file) leaf else last_content past file) (same_itself file));
      })
      (λ q other. others_stay q (get nat_cmp m q) other (was q))

  -- what is said of the leaf
  pub judged_so : (m n : BTreeMap ℕ Course) (old new : Course) (v : Verdict) → Updates nat_cmp m n leaf.node.pnode (Some new) → Some old ≡ get nat_cmp m leaf.node.pnode
      → new.steps.items ≡ old.steps.items → HasCome leaf.node.version new → new.content.items ≡ laid old.content.items leaf
      → IsAfter (before_first (is_later leaf.node.version) old.steps.items) new.state → v ≡ verdict_by new.state leaf.node.version new.content.items → AreCourses list past m
      → (v ≡ verdict_on (log_at list leaf.node) leaf.node (laid (last_content past leaf.node.pnode) leaf)) × AreCourses list after n
  judged_so m n old new v updates there steps come content state says was =
      let file : ℕ = leaf.node.pnode in
      let is : IsCourse list past file old = subst (λ (o : Option Course). MatchOption o (own_steps file list ≡ []) (IsCourse list past file)) (sym there) (was file) in
      let bytes : new.content.items ≡ laid (last_content past file) leaf = content ∙ ap (λ (c : List ℕ). laid c leaf) is.content in (
        says ∙ ap (verdict_by new.state leaf.node.version) bytes ∙ same_verdict list leaf.node old.steps.items is.steps new.state state (laid (last_content past file) leaf),
        judged m n old new updates is steps come content was,
      )

  pub unknown_so : (m : BTreeMap ℕ Course) → get nat_cmp m leaf.node.pnode ≡ None → AreCourses list past m
      → (Unknown ≡ verdict_on (log_at list leaf.node) leaf.node (laid (last_content past leaf.node.pnode) leaf)) × AreCourses list after m
  unknown_so m none was =
      let file : ℕ = leaf.node.pnode in
      let nothing : own_steps file list ≡ [] = subst (λ (o : Option Course). MatchOption o (own_steps file list ≡ []) (IsCourse list past file)) none (was file) in
      (sym (no_verdict list leaf.node (laid (last_content past file) leaf) nothing), unmet m none was)

-- no courses
pub none_fresh : (m : BTreeMap ℕ Course) → m.entries ≡ [] → AreFresh (λ file. own_steps file []) m
none_fresh m none file = subst (λ (o : Option Course). Fresh (λ (q : ℕ). own_steps q []) file o) (sym (ap (lookup (is_at (nat_cmp file))) none)) refl

-- the next leaf's version is above its file's last one, at which its course stands
pub may_come : (list : List Record) (past : List Leaf) (leaf : Leaf) (m : BTreeMap ℕ Course) → AreCourses list past m → last_version past leaf.node.pnode < leaf.node.version
    → IfSome (get nat_cmp m leaf.node.pnode) (HasCome leaf.node.version)
may_come list past leaf m are above = by (get nat_cmp m leaf.node.pnode) (are leaf.node.pnode)
  where
    by : (o : Option Course) → MatchOption o (own_steps leaf.node.pnode list ≡ []) (IsCourse list past leaf.node.pnode) → IfSome o (HasCome leaf.node.version)
    by None is = tt
    by (Some c) is = come_later (last_version past leaf.node.pnode) leaf.node.version c (omega (arith, above)) is.come

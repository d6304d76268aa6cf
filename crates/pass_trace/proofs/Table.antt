-- The table of parents, when it is made and when a line forks a process.
use Rattle.std.proofs.Common.{◌≡◌, ◌≢◌, ℕ, ◌+◌, ◌<◌, ◌≤◌, Bool, true, false, not, ◌&&◌, ◌||◌, eqb, ltb, leb, cond, List, [], ◌∷◌, ◌++◌, length, get_or, set, Some, None, refl, sym, ap, ◌∙◌, subst, ⊎_elim, arith, zero-add, length-set, get_or-set_other, get_or-set_same}
use Rattle.std.specs.List.{list_any}
use Rattle.std.proofs.lemmas.List.Folds.{list_any-append}
use Rattle.std.proofs.lemmas.List.Sums.{sum_by-append}
use Rattle.std.proofs.lemmas.Bool.{not-true, or_parts, or_from, or_left, or_right, cases_eq, and_right, eq-eqb, ne_eqb, lt-ltb, leb-false}
use Rattle.pass_trace.specs.declared.trace.Command.{Command}
use Rattle.pass_trace.specs.declared.trace.Command.TheVariants.{Fork}
use Rattle.pass_trace.specs.declared.trace.TraceLine.{TraceLine}
use Rattle.pass_trace.specs.declared.trace.TraceReason.TheVariants as reason
use Rattle.pass_trace.specs.declared.limits.Scale.{Scale}
use Rattle.pass_trace.specs.declared.limits.Scale.TheVariants.{Usual, Long}
use Rattle.pass_trace.specs.Limits.{most_created}
use Rattle.pass_trace.specs.Rules.{forks, forks_as, is_there, creates, count_created, rule_of}
use Rattle.pass_trace.specs.Tables.{IsTable}

pub IsTable-none : (parents : List ℕ) → length parents ≡ 65537 → ((k : ℕ) → get_or parents k 0 ≡ 0) → IsTable [] parents 0
IsTable-none parents size zero = record {
  size = size;
  count = refl;
  most = omega arith;
  forked = λ child h. rw (zero child) refl;
  by_parent = λ parent child p h. rw (zero child) (ne_eqb 0 parent (λ e. omega (arith, e, p)));
}

list_any-forks_as : (lines : List TraceLine) (parent child : ℕ) → list_any (forks child) lines ≡ false → list_any (forks_as parent child) lines ≡ false
list_any-forks_as [] parent child h = refl
list_any-forks_as (line ∷ lines) parent child h =
    let parts = or_parts (forks child line) (list_any (forks child) lines) h in
    or_from (forks_as parent child line) _ (and_right (eqb line.process parent) (forks child line) parts.0) (list_any-forks_as lines parent child parts.1)

-- what a rule that gives no reason says
rule_fits : (a b c d : Bool) → cond (not (a && b)) (Some reason.Process) (cond (c && d) (Some reason.Many) None) ≡ None → (a ≡ true) × (b ≡ true) × ((c && d) ≡ false)
rule_fits true true true true h = cc
rule_fits true true true false h = (refl, refl, refl)
rule_fits true true false d h = (refl, refl, refl)
rule_fits true false c d h = cc
rule_fits false b c d h = cc

-- a trace of any scale makes no more objects than one of the long scale
created_low : (scale : Scale) → most_created scale ≤ 65535
created_low Usual = omega arith
created_low Long = omega arith

count_created-push : (lines : List TraceLine) (line : TraceLine) → count_created (lines ++ line ∷ []) ≡ count_created lines + cond (creates line.command) 1 0
count_created-push lines line =
    sum_by-append (λ l. cond (creates l.command) 1 0) lines (line ∷ []) ∙ ap (λ n. count_created lines + n) (zero-add (cond (creates line.command) 1 0))

abbrev fork_line : ℕ → ℕ → ℕ → TraceLine
fork_line number process child = record { number = number; process = process; command = Fork child }

or-false : (x : Bool) → (x || (false || false)) ≡ x
or-false true = refl
or-false false = refl

-- one more line that passes no test, or that passes it
list_any-push_no : (p : TraceLine → Bool) (lines : List TraceLine) (line : TraceLine) → p line ≡ false → list_any p (lines ++ line ∷ []) ≡ list_any p lines
list_any-push_no p lines line fails = list_any-append p lines (line ∷ []) ∙ ap (λ b. list_any p lines || (b || false)) fails ∙ or-false (list_any p lines)

list_any-push_yes : (p : TraceLine → Bool) (lines : List TraceLine) (line : TraceLine) → p line ≡ true → list_any p (lines ++ line ∷ []) ≡ true
list_any-push_yes p lines line passes = list_any-append p lines (line ∷ []) ∙ or_right (list_any p lines) (p line || false) (or_left (p line) false passes)

-- at no earlier fork, only the new line may pass
list_any-push_only : (p : TraceLine → Bool) (lines : List TraceLine) (line : TraceLine) → list_any p lines ≡ false → list_any p (lines ++ line ∷ []) ≡ p line
list_any-push_only p lines line none =
    list_any-append p lines (line ∷ []) ∙ ap (λ b. b || (p line || false)) none ∙ elim (p line) as (λ b. (b || false) ≡ b) [ true ↦ refl | false ↦ refl ]

abbrev Forked : List TraceLine → List ℕ → ℕ → Type 0
Forked lines parents child = ltb 0 (get_or parents child 0) ≡ list_any (forks child) lines

abbrev ByParent : List TraceLine → List ℕ → ℕ → ℕ → Type 0
ByParent lines parents parent child = eqb (get_or parents child 0) parent ≡ list_any (forks_as parent child) lines

forked_same : (lines : List TraceLine) (parents : List ℕ) (number process child q : ℕ) → length parents ≡ 65537 → child < 65537 → 1 ≤ process → q ≡ child → Forked (lines ++ fork_line number process child ∷ []) (set parents child process) q
forked_same lines parents number process child q size small some same =
    let at = get_or-set_same parents child process 0 (omega arith) in
    let P : ℕ → Type 0 = λ k. Forked (lines ++ fork_line number process child ∷ []) (set parents child process) k in
    subst P (sym same) (ap (λ v. ltb 0 v) at ∙ lt-ltb 0 process (omega arith) ∙ sym (list_any-push_yes (forks child) lines (fork_line number process child) (eq-eqb child child refl)))

forked_other : (lines : List TraceLine) (parents : List ℕ) (number process child q : ℕ) → q ≢ child → Forked lines parents q → Forked (lines ++ fork_line number process child ∷ []) (set parents child process) q
forked_other lines parents number process child q other had =
    ap (λ v. ltb 0 v) (get_or-set_other parents child q process 0 other) ∙ had ∙ sym (list_any-push_no (forks q) lines (fork_line number process child) (ne_eqb child q (λ e. other (sym e))))

by_parent_same : (lines : List TraceLine) (parents : List ℕ) (number process child parent q : ℕ) → length parents ≡ 65537 → child < 65537 → list_any (forks child) lines ≡ false → q ≡ child → ByParent (lines ++ fork_line number process child ∷ []) (set parents child process) parent q
by_parent_same lines parents number process child parent q size small none same =
    let at = get_or-set_same parents child process 0 (omega arith) in
    let here = eq-eqb child child refl in
    let P : ℕ → Type 0 = λ k. ByParent (lines ++ fork_line number process child ∷ []) (set parents child process) parent k in
    subst P (sym same) (
    ap (λ v. eqb v parent) at
    ∙ sym (and-here (eqb process parent) (eqb child child) here)
    ∙ sym (list_any-push_only (forks_as parent child) lines (fork_line number process child) (list_any-forks_as lines parent child none))
    )
  where
    and-here : (a b : Bool) → b ≡ true → (a && b) ≡ a
    and-here true b h = h
    and-here false b h = refl

by_parent_other : (lines : List TraceLine) (parents : List ℕ) (number process child parent q : ℕ) → q ≢ child → ByParent lines parents parent q → ByParent (lines ++ fork_line number process child ∷ []) (set parents child process) parent q
by_parent_other lines parents number process child parent q other had =
    let elsewhere = ne_eqb child q (λ e. other (sym e)) in
    ap (λ v. eqb v parent) (get_or-set_other parents child q process 0 other)
    ∙ had
    ∙ sym (list_any-push_no (forks_as parent q) lines (fork_line number process child) (and_right (eqb process parent) (eqb child q) elsewhere))

module _ (scale : Scale) where
  table_at_fork : (lines : List TraceLine) (parents : List ℕ) (created number process child : ℕ) → IsTable lines parents created → 1 ≤ process → child ≤ 65536 → rule_of scale lines (fork_line number process child) ≡ None → IsTable (lines ++ fork_line number process child ∷ []) (set parents child process) (created + 1)
  table_at_fork lines parents created number process child t some small fits =
      let parts = rule_fits (is_there lines process) (not (is_there lines child)) true (leb (most_created scale) (count_created lines)) fits in
      let none = (or_parts (eqb child 1) (list_any (forks child) lines) (not-true (is_there lines child) parts.1)).1 in
      let room = leb-false (most_created scale) (count_created lines) parts.2 in
      let more = count_created-push lines (fork_line number process child) in
      record {
        size = length-set parents child process ∙ t.size;
        count = omega (arith, more, t.count);
        most = omega (arith, room, t.count, created_low scale);
        forked = λ q h. ⊎_elim (λ same. forked_same lines parents number process child q t.size (omega arith) some same) (λ other. forked_other lines parents number process child q other (t.forked q h)) (cases_eq q child);
        by_parent = λ parent q p h. ⊎_elim (λ same. by_parent_same lines parents number process child parent q t.size (omega arith) none same) (λ other. by_parent_other lines parents number process child parent q other (t.by_parent parent q p h)) (cases_eq q child);
      }

  -- the table behind a line that forks child
  pub IsTable-fork : (lines : List TraceLine) (parents : List ℕ) (created child : ℕ) (line : TraceLine) → IsTable lines parents created → line.command ≡ Fork child → 1 ≤ line.process → child ≤ 65536 → rule_of scale lines line ≡ None → IsTable (lines ++ line ∷ []) (set parents child line.process) (created + 1)
  IsTable-fork lines parents created child line t is some small fits =
      let P : Command → Type 0 = λ c. rule_of scale lines (record { number = line.number; process = line.process; command = c }) ≡ None → IsTable (lines ++ record { number = line.number; process = line.process; command = c } ∷ []) (set parents child line.process) (created + 1) in
      subst P (sym is) (table_at_fork lines parents created line.number line.process child t some small) fits

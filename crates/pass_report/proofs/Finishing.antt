-- The parts of a report make the whole one.
use Rattle.std.proofs.Common.{◌≡◌, ◌+◌, ℕ, List, [], ◌∷◌, ◌++◌, length, take, map, refl, ap, sym, ◌∙◌, Bool, true, false, ◌||◌, not, arith}
use Rattle.std.specs.Prelude.{Option, Some, None, fold, flat_map, option_map, zip, codes}
use Rattle.std.specs.Option.{option_map_or}
use Rattle.std.specs.List.{list_any}
use Rattle.std.specs.Fmt.{decimal}
use Rattle.std.specs.Ordering.{nat_cmp, match_ordering}
use Rattle.std.specs.declared.cmp.Ordering.{Ordering}
use Rattle.std.specs.declared.cmp.Ordering.TheVariants.{Less, Equal, Greater}
use Rattle.std.specs.FinMap.{nat_cmp-IsAntisymmetric}
use Rattle.std.specs.BTreeSet.{insert_key}
use Rattle.std.proofs.lemmas.List.{length-append, length-map}
use Rattle.pass_entry.specs.declared.entry.Entry.{Entry}
use Rattle.pass_plain.specs.declared.request.Request.TheVariants as requests
use Rattle.pass_plain.specs.Sessions.{Session}
use Rattle.pass_plain.specs.Legal.{is_over}
use Rattle.pass_plain.specs.Traces.{Line, given, lines_of, calls_of}
use Rattle.pass_plain.specs.Runs.{IsRun, pnode_of_process, is_open}
use Rattle.pass_report.specs.Reports.{ascending, waiting_lines, waiting_line, is_stuck, trace_processes, is_done}
use Rattle.pass_report.specs.declared.calls.Calls.{Calls}
use Rattle.pass_report.specs.CallTables.{IsCallTable}
use Rattle.pass_report.specs.declared.standing.Standing.{Standing}
use Rattle.pass_report.specs.Standings.{lines_in, HasLooked, done_by, waiting_text}
use Rattle.pass_report.proofs.Reading.{done_is}

-- an item of a list is in the list in order, and no other

either : (a b c : Bool) → (a || b) || c ≡ b || (a || c)
either true true c = refl
either true false c = refl
either false b c = refl

once_more : (b c : Bool) → b || c ≡ b || (b || c)
once_more true c = refl
once_more false c = refl

swapped : (a b c : Bool) → a || (b || c) ≡ b || (a || c)
swapped true true c = refl
swapped true false c = refl
swapped false b c = refl

any-insert : (p : ℕ → Bool) (ks : List ℕ) (k : ℕ) → list_any p (insert_key nat_cmp ks k) ≡ p k || list_any p ks
any-insert p [] k = refl
any-insert p (x ∷ xs) k = by_order (nat_cmp k x) refl (any-insert p xs k)
  where
    by_order : (o : Ordering) → nat_cmp k x ≡ o → list_any p (insert_key nat_cmp xs k) ≡ p k || list_any p xs
        → list_any p (match_ordering o (k ∷ x ∷ xs) (x ∷ xs) (x ∷ insert_key nat_cmp xs k)) ≡ p k || (p x || list_any p xs)
    by_order Less is rest = refl
    by_order Equal is rest =
        let same = nat_cmp-IsAntisymmetric k x is in
        once_more (p x) (list_any p xs) ∙ ap (λ n. p n || (p x || list_any p xs)) (sym same)
    by_order Greater is rest = ap (λ b. p x || b) rest ∙ swapped (p x) (p k) (list_any p xs)

any-fold : (p : ℕ → Bool) (ks xs : List ℕ) → list_any p (fold (insert_key nat_cmp) ks xs) ≡ list_any p ks || list_any p xs
any-fold p ks [] = sym (or_false (list_any p ks))
  where
    or_false : (b : Bool) → b || false ≡ b
    or_false true = refl
    or_false false = refl
any-fold p ks (x ∷ xs) = any-fold p (insert_key nat_cmp ks x) xs ∙ ap (λ b. b || list_any p xs) (any-insert p ks x) ∙ either (p x) (list_any p ks) (list_any p xs)

any-ascending : (p : ℕ → Bool) (xs : List ℕ) → list_any p (ascending nat_cmp xs) ≡ list_any p xs
any-ascending p xs = any-fold p [] xs

-- who waits, and whether one is open

next_text : (f : ℕ → List ℕ) (o : Option (ℕ × Line))
    → option_map_or f (option_map (λ s. s.1.number) o) [] ≡ option_map_or (λ (l : Line). f l.number) (option_map (λ s. s.1) o) []
next_text f None = refl
next_text f (Some s) = refl

module _ (session : Session) (trace : List Line) (history : List Entry) (c : Calls) (run : IsRun session trace history) (table : IsCallTable history c)
    (s : Standing) (looked : HasLooked session trace history trace s) where
  same_waiting : (process : ℕ) → waiting_text s process ≡ waiting_line session trace history process
  same_waiting process =
      let line : ℕ → List ℕ = λ line. codes "waiting " ++ decimal process ++ codes " " ++ decimal line ++ 10 ∷ [] in
      ap (λ o. option_map_or line o []) (looked.next process) ∙ next_text line _

  pub waiting_is : flat_map (waiting_text s) s.processes.keys ≡ waiting_lines session trace history
  waiting_is = λ i. flat_map (λ process. same_waiting process i) (looked.processes i)

  length-calls_of : (process : ℕ) → length (calls_of trace process) ≡ length (lines_of trace process) + 1
  length-calls_of process =
      let calls = length-map (lines_of trace process) (λ (l : Line). l.call) in
      let whole = length-append (map (λ (l : Line). l.call) (lines_of trace process)) (given requests.Exit ∷ []) in
      omega (arith, calls, whole)

  same_open : (process : ℕ) → not (done_by c s process (lines_in s process + 1)) ≡ is_open session trace history process
  same_open process =
      ap not (done_is session trace history c run table s process (lines_in s process + 1) (looked.begun process) (omega arith))
      ∙ ap (λ n. not (is_done session trace history process n)) (ap (λ n. n + 1) (looked.lines process) ∙ sym (length-calls_of process))
      ∙ turned (pnode_of_process session trace history process)
    where
      turned : (o : Option ℕ) → not (option_map_or (λ who. is_over history who (length (calls_of trace process))) o false)
          ≡ option_map_or (λ who. not (is_over history who (length (calls_of trace process)))) o true
      turned None = refl
      turned (Some who) = refl

  pub stuck_is : list_any (λ process. not (done_by c s process (lines_in s process + 1))) s.processes.keys ≡ is_stuck session trace history
  stuck_is = (λ i. list_any (λ process. same_open process i) (looked.processes i)) ∙ any-ascending (is_open session trace history) (trace_processes trace)

-- all pairs of a history and its nodes
pub short_zip : {X Y : Type 0} (xs : List X) (ys : List Y) → take (length xs) (zip xs ys) ≡ zip xs ys
short_zip [] ys = refl
short_zip (x ∷ xs) [] = refl
short_zip {X} {Y} (x ∷ xs) (y ∷ ys) = ap (λ (zs : List (X × Y)). (x, y) ∷ zs) (short_zip xs ys)

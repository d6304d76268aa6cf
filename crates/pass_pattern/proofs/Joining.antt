-- The code of a shape leads from a node exactly to those that the shape joins to it.
use Rattle.std.proofs.Common.{ℕ, ◌≡◌, ◌≤◌, zero, suc, ◌⊎◌, inl, inr, refl, sym, ap, ◌∙◌, subst, List, arith}
use Rattle.std.specs.Prelude.{Option, Some, slice_get}
use Rattle.pass_entry.specs.declared.objects.Node.{Node}
use Rattle.pass_entry.specs.declared.record.Record.{Record}
use Rattle.pass_plain.proofs.Lists.{some_is}
use Rattle.pass_pattern.specs.declared.pattern.EdgeTest.{EdgeTest}
use Rattle.pass_pattern.specs.declared.code.Instruction.{Instruction}
use Rattle.pass_pattern.specs.declared.code.Instruction.TheVariants.{Found, Along, Both}
use Rattle.pass_pattern.specs.declared.search.Visit.{Visit}
use Rattle.pass_pattern.specs.Patterns.{Shape, Joins}
use Rattle.pass_pattern.specs.Patterns.Shape.{One, Or, Many}
use Rattle.pass_pattern.specs.Patterns.Joins.{one as step_path, both as both_path, first as first_path, second as second_path, none_of as no_path, more_of as more_path}
use Rattle.pass_pattern.specs.Codes.{HasCode, IsCode}
use Rattle.pass_pattern.specs.Codes.HasCode.{one, both, either, many}
use Rattle.pass_pattern.specs.Visits.{visit, LeadsBy, Runs, Comes}
use Rattle.pass_pattern.specs.Visits.Runs.{here, on}

module _ (list : List Record) (code : List Instruction) where
  pub runs_on : {m n : ℕ} {x y z : Visit} → Runs list code m x y → Runs list code n y z → Comes list code x z
  runs_on {n = n} here more = (n, more)
  runs_on (on leads rest) more = let (count, all) = runs_on rest more in (suc count, on leads all)

  pub comes_on : {x y z : Visit} → Comes list code x y → Comes list code y z → Comes list code x z
  comes_on (m, first) (n, second) = runs_on first second

  pub comes_by : (x y : Visit) (i : Instruction) → slice_get code x.place ≡ Some i → LeadsBy list i x.node y → Comes list code x y
  comes_by x y i at by = (1, on (record { instruction = i; at = at; by = by }) here)

  -- a path of the shape is found
  finds : {p : Shape} {a b : Node} → Joins list p a b → (from start next : ℕ) → HasCode code from p start next → Comes list code (visit a start) (visit b next)
  finds (step_path {edge = edge} {name = name} {a = a} {b = b} step) from start next (one after at) = comes_by (visit a start) (visit b next) (Along edge name next) at (step, refl)
  finds (both_path near far) from start next (both {middle = middle} has more) = comes_on (finds near from start middle has) (finds far from middle next more)
  finds (first_path {a = a} inner) from start next (either {left = left} {right = right} after at has more) =
      comes_on (comes_by (visit a start) (visit a left) (Both left right) at (inl refl)) (finds inner from left next has)
  finds (second_path {a = a} inner) from start next (either {left = left} {right = right} after at has more) =
      comes_on (comes_by (visit a start) (visit a right) (Both left right) at (inr refl)) (finds inner from right next more)
  finds (no_path {a = a}) from start next (many {inner = inner} after at has) = comes_by (visit a start) (visit a next) (Both inner next) at (inr refl)
  finds (more_path {a = a} near far) from start next (many {inner = inner} after at has) =
      comes_on (comes_by (visit a start) (visit a inner) (Both inner next) at (inl refl)) (comes_on (finds near from inner start has) (finds far from start next (many after at has)))

  -- a run to the end went along a path of the shape, and then no longer than before
  record Passes (p : Shape) (next count : ℕ) (a : Node) (end : Visit) : Type 0 where
    middle : Node
    rest : ℕ
    path : Joins list p a middle
    runs : Runs list code rest (visit middle next) end
    less : rest ≤ count

  module _ (end : Visit) (ends : slice_get code end.place ≡ Some Found) where
    -- a run from an instruction that isn't the end goes on by it
    record GoesBy (i : Instruction) (a : Node) (count : ℕ) : Type 0 where
      to : Visit
      before : ℕ
      less : suc before ≡ count
      by : LeadsBy list i a to
      runs : Runs list code before to end

    not_found : (i : Instruction) → i ≡ Found → (i ≡ Found → ⊥) → ⊥
    not_found i is not = not is

    goes_by : {count : ℕ} {x : Visit} (i : Instruction) → (i ≡ Found → ⊥) → slice_get code x.place ≡ Some i → Runs list code count x end → GoesBy i x.node count
    goes_by i more at here = absurd (more (some_is i Found (sym at ∙ ends)))
    goes_by i more at (on {count = count} {x = x} {y = y} leads rest) = record {
      to = y;
      before = count;
      less = refl;
      by = subst (λ j. LeadsBy list j x.node y) (some_is leads.instruction i (sym leads.at ∙ at)) leads.by;
      runs = rest;
    }

    from_visit : {count : ℕ} (x y : Visit) → x ≡ y → Runs list code count x end → Runs list code count y end
    from_visit {count = count} x y same runs = subst (λ v. Runs list code count v end) same runs

    passed_one : (edge : EdgeTest) (name : Option (List ℕ)) (start next count : ℕ) (a : Node) → slice_get code start ≡ Some (Along edge name next) → Runs list code count (visit a start) end
        → Passes (One edge name) next count a end
    passed_one edge name start next count a at runs =
        let g = goes_by {x = visit a start} (Along edge name next) (λ same. cc) at runs in
        record {
          middle = g.to.node;
          rest = g.before;
          path = step_path g.by.0;
          runs = from_visit g.to (visit g.to.node next) (λ i. record { node = g.to.node; place = g.by.1 i }) g.runs;
          less = omega (arith, g.less);
        }

    passed_either : (p q : Shape) (start left right next count : ℕ) (a : Node) → slice_get code start ≡ Some (Both left right)
        → ((n : ℕ) (b : Node) → Runs list code n (visit b left) end → Passes p next n b end) → ((n : ℕ) (b : Node) → Runs list code n (visit b right) end → Passes q next n b end)
        → Runs list code count (visit a start) end → Passes (Or p q) next count a end
    passed_either p q start left right next count a at one_way other_way runs = at_way g.by
      where
        g : GoesBy (Both left right) a count
        g = goes_by {x = visit a start} (Both left right) (λ same. cc) at runs

        at_way : (g.to ≡ visit a left) ⊎ (g.to ≡ visit a right) → Passes (Or p q) next count a end
        at_way (inl same) =
            let s = one_way g.before a (from_visit g.to (visit a left) same g.runs) in
            record { middle = s.middle; rest = s.rest; path = first_path s.path; runs = s.runs; less = omega (arith, s.less, g.less) }
        at_way (inr same) =
            let s = other_way g.before a (from_visit g.to (visit a right) same g.runs) in
            record { middle = s.middle; rest = s.rest; path = second_path s.path; runs = s.runs; less = omega (arith, s.less, g.less) }

    passed_many : (p : Shape) (start inner next : ℕ) → slice_get code start ≡ Some (Both inner next)
        → ((n : ℕ) (b : Node) → Runs list code n (visit b inner) end → Passes p start n b end)
        → (most count : ℕ) (a : Node) → count ≤ most → Runs list code count (visit a start) end → Passes (Many p) next count a end
    passed_many p start inner next at turn zero count a few runs =
        let g = goes_by {x = visit a start} (Both inner next) (λ same. cc) at runs in absurd (omega (arith, g.less, few))
    passed_many p start inner next at turn (suc most) count a few runs =
        at_way (λ n b low more. passed_many p start inner next at turn most n b low more) g.by
      where
        g : GoesBy (Both inner next) a count
        g = goes_by {x = visit a start} (Both inner next) (λ same. cc) at runs

        at_way : ((n : ℕ) (b : Node) → n ≤ most → Runs list code n (visit b start) end → Passes (Many p) next n b end) → (g.to ≡ visit a inner) ⊎ (g.to ≡ visit a next) → Passes (Many p) next count a end
        at_way again (inl same) =
            let s = turn g.before a (from_visit g.to (visit a inner) same g.runs) in
            let t = again s.rest s.middle (omega (arith, s.less, g.less, few)) s.runs in
            record { middle = t.middle; rest = t.rest; path = more_path {b = s.middle} {c = t.middle} s.path t.path; runs = t.runs; less = omega (arith, t.less, s.less, g.less) }
        at_way again (inr same) =
            record { middle = a; rest = g.before; path = no_path; runs = from_visit g.to (visit a next) same g.runs; less = omega (arith, g.less) }

    passed : {from : ℕ} {p : Shape} {start next : ℕ} → HasCode code from p start next → (count : ℕ) (a : Node) → Runs list code count (visit a start) end → Passes p next count a end
    passed (one {edge = edge} {name = name} {start = start} {next = next} after at) count a runs = passed_one edge name start next count a at runs
    passed (both {p = p} {q = q} {next = next} has more) count a runs =
        let s = passed has count a runs in
        let t = passed more s.rest s.middle s.runs in
        record { middle = t.middle; rest = t.rest; path = both_path s.path t.path; runs = t.runs; less = omega (arith, t.less, s.less) }
    passed (either {p = p} {q = q} {start = start} {left = left} {right = right} {next = next} after at has more) count a runs =
        passed_either p q start left right next count a at (passed has) (passed more) runs
    passed (many {p = p} {start = start} {inner = inner} {next = next} after at has) count a runs =
        passed_many p start inner next at (passed has) count count a (omega arith) runs

  -- from the end nothing goes on
  stays : {count : ℕ} {x y : Visit} → slice_get code x.place ≡ Some Found → Runs list code count x y → x ≡ y
  stays at here = refl
  stays at (on {x = x} {y = m} leads rest) = absurd (subst (λ i. LeadsBy list i x.node m) (some_is leads.instruction Found (sym leads.at ∙ at)) leads.by)

  pub joined_comes : (p : Shape) (start : ℕ) (a b : Node) → IsCode code p start → Joins list p a b → Comes list code (visit a start) (visit b 0)
  joined_comes p start a b is path = finds path 1 start 0 is.has

  pub comes_joined : (p : Shape) (start : ℕ) (a b : Node) → IsCode code p start → Comes list code (visit a start) (visit b 0) → Joins list p a b
  comes_joined p start a b is (count, runs) =
      let s = passed (visit b 0) is.ends is.has count a runs in
      let same : visit s.middle 0 ≡ visit b 0 = stays is.ends s.runs in
      subst (λ n. Joins list p a n) (ap (λ (v : Visit). v.node) same) s.path

-- What a search adds to its visits, and what it has come to in the end.
use Rattle.std.proofs.Common.{ℕ, ◌≡◌, ◌<◌, ◌+◌, ◌==◌, Bool, true, false, ◌⊎◌, inl, inr, refl, sym, ap, ◌∙◌, subst, List, [], ◌∷◌, ◌++◌, length, take, get_or, arith}
use Rattle.std.specs.Prelude.{Option, Some, None, slice_get, Contains, if◌then◌else◌}
use Rattle.std.specs.List.{list_any, HoldsAt}
use Rattle.std.proofs.lemmas.List.{take_more}
use Rattle.std.proofs.lemmas.List.Elements.{Contains-push, Contains-push_cases}
use Rattle.std.proofs.lemmas.Option.{slice_get-get_or}
use Rattle.pass_entry.specs.declared.objects.Node.{Node}
use Rattle.pass_entry.specs.declared.record.Record.{Record}
use Rattle.pass_entry.proofs.Places.{Contains-place, Contains-at, contains_none}
use Rattle.pass_plain.specs.Versions.{same_node}
use Rattle.pass_plain.specs.Graphs.{IsEdge}
use Rattle.pass_plain.proofs.Lists.{any_at, some_is, true_left, true_right, same_numbers}
use Rattle.pass_plain.proofs.Appends.{slice_get-append}
use Rattle.pass_graph.proofs.Noding.{same_node_is}
use Rattle.pass_waldo.specs.Orders.{node_cmp}
use Rattle.pass_waldo.specs.Lookups.{AreAll}
use Rattle.indexmap.specs.IndexSet.{insert_key}
use Rattle.pass_pattern.specs.declared.pattern.EdgeTest.{EdgeTest}
use Rattle.pass_pattern.specs.declared.code.Instruction.{Instruction}
use Rattle.pass_pattern.specs.declared.code.Instruction.TheVariants.{Along}
use Rattle.pass_pattern.specs.declared.search.Visit.{Visit}
use Rattle.pass_pattern.specs.Patterns.{passes, HadName}
use Rattle.pass_pattern.specs.Visits.{same_visit, visit, Adds, IsPassed, LeadsBy, Leads, LooksFrom, IsCounted, IsCountedBy}

pub same_visit_is : (a b : Visit) → same_visit a b ≡ true → a ≡ b
same_visit_is a b is =
    let n : a.node ≡ b.node = same_node_is a.node b.node (true_left (same_node a.node b.node) (a.place == b.place) is) in
    let p : a.place ≡ b.place = same_numbers a.place b.place (true_right (same_node a.node b.node) (a.place == b.place) is) in
    λ i. record { node = n i; place = p i }

-- what stays is there
pub front_there : (old new : List Visit) → ((k : ℕ) (x : Visit) → slice_get old k ≡ Some x → slice_get new k ≡ Some x) → (x : Visit) → Contains old x → Contains new x
front_there old new front x there = let (k, at) = Contains-place old x there in Contains-at new k x (front k x at)

-- one more visit
pub adds_one : (visits : List Visit) (x : Visit) → Adds (λ y. y ≡ x) visits (insert_key same_visit visits x)
adds_one visits x = at_test (list_any (same_visit x) visits) refl
  where
    known : list_any (same_visit x) visits ≡ true → Contains visits x
    known any = let (k, y, at, same) = any_at (same_visit x) visits any in Contains-at visits k x (at ∙ ap (λ z. Some z) (sym (same_visit_is x y same)))

    at_test : (t : Bool) → list_any (same_visit x) visits ≡ t → Adds (λ y. y ≡ x) visits (if t then visits else visits ++ x ∷ [])
    at_test true any = record {
      front = λ k y at. at;
      sound = λ y there. inl there;
      whole = λ y same. subst (Contains visits) (sym same) (known any);
    }
    at_test false none = record {
      front = λ k y at. slice_get-append visits (x ∷ []) k y at;
      sound = λ y there. at_last y (Contains-push_cases visits x y there);
      whole = λ y same. subst (Contains (visits ++ x ∷ [])) (sym same) (Contains-push visits x);
    }
      where
        at_last : (y : Visit) → Contains visits y ⊎ (x ≡ y) → Contains visits y ⊎ (y ≡ x)
        at_last y (inl there) = inl there
        at_last y (inr same) = inr (sym same)

-- nothing more
pub adds_none : (P : Visit → Type 0) (visits : List Visit) → ((x : Visit) → P x → ⊥) → Adds P visits visits
adds_none P visits none = record { front = λ k x at. at; sound = λ x there. inl there; whole = λ x p. absurd (none x p) }

-- some, and then others
pub adds_on : (P Q R : Visit → Type 0) (a b c : List Visit) → Adds P a b → Adds Q b c → ((x : Visit) → P x → R x) → ((x : Visit) → Q x → R x) → ((x : Visit) → R x → P x ⊎ Q x) → Adds R a c
adds_on P Q R a b c first second left right split = record {
  front = λ k x at. second.front k x (first.front k x at);
  sound = λ x there. at_second x (second.sound x there);
  whole = λ x r. at_split x (split x r);
}
  where
    at_first : (x : Visit) → Contains a x ⊎ P x → Contains a x ⊎ R x
    at_first x (inl there) = inl there
    at_first x (inr p) = inr (left x p)

    at_second : (x : Visit) → Contains b x ⊎ Q x → Contains a x ⊎ R x
    at_second x (inl there) = at_first x (first.sound x there)
    at_second x (inr q) = inr (right x q)

    at_split : (x : Visit) → P x ⊎ Q x → Contains c x
    at_split x (inl p) = front_there b c second.front x (first.whole x p)
    at_split x (inr q) = second.whole x q

-- the same by another property
pub adds_same : (P Q : Visit → Type 0) (a b : List Visit) → Adds P a b → ((x : Visit) → P x → Q x) → ((x : Visit) → Q x → P x) → Adds Q a b
adds_same P Q a b adds to back = record { front = adds.front; sound = λ x there. at_sound x (adds.sound x there); whole = λ x q. adds.whole x (back x q) }
  where
    at_sound : (x : Visit) → Contains a x ⊎ P x → Contains a x ⊎ Q x
    at_sound x (inl there) = inl there
    at_sound x (inr p) = inr (to x p)

-- of a row so far
module _ (list : List Record) (row : List Node) (edge : EdgeTest) (name : Option (List ℕ)) (next : ℕ) (from : Node) where
  abbrev SoFar : ℕ → Visit → Type 0
  SoFar k x = IsPassed list (take k row) edge name next from x

  pub none_passed : (visits : List Visit) → Adds (IsPassed list (take 0 row) edge name next from) visits visits
  none_passed visits = adds_none (SoFar 0) visits (λ x p. contains_none x.node p.there)

  module _ (k : ℕ) (n : Node) (within : k < length row) (is : n ≡ get_or row k n) where
    more : take (k + 1) row ≡ take k row ++ n ∷ []
    more = take_more row k n within ∙ ap (λ x. take k row ++ x ∷ []) (sym is)

    still : (x : Visit) → SoFar k x → SoFar (k + 1) x
    still x p = record { there = subst (λ xs. Contains xs x.node) (sym more) (front x.node p.there); passed = p.passed; named = p.named; place = p.place }
      where
        front : (m : Node) → Contains (take k row) m → Contains (take k row ++ n ∷ []) m
        front m there = let (j, at) = Contains-place (take k row) m there in Contains-at (take k row ++ n ∷ []) j m (slice_get-append (take k row) (n ∷ []) j m at)

    last_or : (x : Visit) → SoFar (k + 1) x → Contains (take k row) x.node ⊎ (n ≡ x.node)
    last_or x p = Contains-push_cases (take k row) n x.node (subst (λ xs. Contains xs x.node) more p.there)

    -- the next node, along an edge that passes
    pub one_passed : (a b c : List Visit) → passes edge from n ≡ true → HadName list name n.pnode → Adds (IsPassed list (take k row) edge name next from) a b → Adds (λ x. x ≡ visit n next) b c
        → Adds (IsPassed list (take (k + 1) row) edge name next from) a c
    one_passed a b c passed named before now = adds_on (SoFar k) (λ x. x ≡ visit n next) (SoFar (k + 1)) a b c before now still this split
      where
        this : (x : Visit) → x ≡ visit n next → SoFar (k + 1) x
        this x same = subst (SoFar (k + 1)) (sym same) (record { there = subst (λ xs. Contains xs n) (sym more) (Contains-push (take k row) n); passed = passed; named = named; place = refl })

        split : (x : Visit) → SoFar (k + 1) x → SoFar k x ⊎ (x ≡ visit n next)
        split x p = at_last (last_or x p)
          where
            at_last : Contains (take k row) x.node ⊎ (n ≡ x.node) → SoFar k x ⊎ (x ≡ visit n next)
            at_last (inl there) = inl (record { there = there; passed = p.passed; named = p.named; place = p.place })
            at_last (inr same) = inr (λ i. record { node = sym same i; place = p.place i })

    -- the next node, along one that doesn't
    pub one_stopped : (a b : List Visit) → ((passes edge from n ≡ true) × HadName list name n.pnode → ⊥) → Adds (IsPassed list (take k row) edge name next from) a b
        → Adds (IsPassed list (take (k + 1) row) edge name next from) a b
    one_stopped a b stop before = adds_same (SoFar k) (SoFar (k + 1)) a b before still back
      where
        back : (x : Visit) → SoFar (k + 1) x → SoFar k x
        back x p = at_last (last_or x p)
          where
            at_last : Contains (take k row) x.node ⊎ (n ≡ x.node) → SoFar k x
            at_last (inl there) = record { there = there; passed = p.passed; named = p.named; place = p.place }
            at_last (inr same) = absurd (stop (subst (λ (m : Node). passes edge from m ≡ true) (sym same) p.passed, subst (λ (m : Node). HadName list name m.pnode) (sym same) p.named))

-- the edges of a row are those along which an instruction leads
pub along_leads : (list : List Record) (row : List Node) (edge : EdgeTest) (name : Option (List ℕ)) (next : ℕ) (from : Node) (old new : List Visit) → AreAll node_cmp row (λ b. IsEdge list from b)
    → Adds (IsPassed list row edge name next from) old new → Adds (LeadsBy list (Along edge name next) from) old new
along_leads list row edge name next from old new are adds =
    adds_same (IsPassed list row edge name next from) (LeadsBy list (Along edge name next) from) old new adds
    (λ x p. (record { leads = (are.all x.node).0 p.there; passed = p.passed; named = p.named }, p.place))
    (λ x (step, place). record { there = (are.all x.node).1 step.leads; passed = step.passed; named = step.named; place = place })

-- what `get` lends stands at its place
pub at_item : (code : List Instruction) (place : ℕ) (i : Instruction) → (place < length code) × HoldsAt (λ j. i ≡ j) code place → slice_get code place ≡ Some i
at_item code place i there = slice_get-get_or code place i there.0 ∙ ap (λ j. Some j) (sym (there.1 i))

-- what the instruction at the place of a visit adds
pub code_leads : (list : List Record) (code : List Instruction) (from : Visit) (i : Instruction) (old new : List Visit) → slice_get code from.place ≡ Some i → Adds (LeadsBy list i from.node) old new
    → Adds (Leads list code from) old new
code_leads list code from i old new at adds =
    adds_same (LeadsBy list i from.node) (Leads list code from) old new adds
    (λ x by. record { instruction = i; at = at; by = by })
    (λ x leads. subst (λ j. LeadsBy list j from.node x) (some_is leads.instruction i (sym leads.at ∙ at)) leads.by)

-- where there is none
pub nothing_leads : (list : List Record) (code : List Instruction) (from : Visit) (visits : List Visit) → slice_get code from.place ≡ None → Adds (Leads list code from) visits visits
nothing_leads list code from visits at = adds_none (Leads list code from) visits (λ x leads. differ (sym leads.at ∙ at))
  where
    differ : {i : Instruction} → ◌≡◌ {A = Option Instruction} (Some i) None → ⊥
    differ is = cc

pub counted_code : (list : List Record) (code : List Instruction) (from : Visit) (i : Instruction) (old new : ℕ) → slice_get code from.place ≡ Some i → IsCountedBy list i from.node old new → IsCounted list code from old new
counted_code list code from i old new at counted = record { row = counted.row; looks = subst (λ o. LooksFrom list o from.node counted.row) (sym at) counted.looks; exact = counted.exact }

pub nothing_counted : (list : List Record) (code : List Instruction) (from : Visit) (old : ℕ) → slice_get code from.place ≡ None → IsCounted list code from old old
nothing_counted list code from old at = record { row = []; looks = subst (λ o. LooksFrom list o from.node []) (sym at) refl; exact = omega arith }

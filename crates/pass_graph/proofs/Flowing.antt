-- A path leads exactly where a chain of flows, or the opening, joins two nodes.
use Rattle.std.proofs.Common.{ℕ, ◌≡◌, ◌≤◌, ◌<◌, suc, zero, true, List, ◌⊎◌, inl, inr, refl, sym, ap, ◌∙◌, subst, arith, true≢false}
use native.Mathlib.Decide.{ℕ_discrete}
use Rattle.pass_entry.specs.declared.objects.Node.{Node}
use Rattle.pass_entry.specs.declared.record.Record.{Record}
use Rattle.pass_entry.proofs.Lists.{le_or_above}
use Rattle.pass_plain.specs.Graphs.{IsEdge, HasPath}
use Rattle.pass_plain.specs.Graphs.HasPath.{edge, step}
use Rattle.pass_graph.proofs.Stories.{Story, IsStory, IsBegun, First, Left, mono, step_le, first, left_by}
use Rattle.pass_graph.proofs.Falling.{Edge, Within, IsOpening, Splits, stays}
use Rattle.pass_graph.proofs.Falling.Edge.{took, froze}

-- a path of the opening leads to b from this version of the object or an earlier one
abbrev pub LeadsBack : List Record → Node → Node → Type 0
LeadsBack before x b = (w : ℕ) × (w ≤ x.version) × HasPath before (record { pnode = x.pnode; version = w }) b

-- b is this version of the object or an earlier one
abbrev pub IsUpTo : Node → Node → Type 0
IsUpTo x b = (b.pnode ≡ x.pnode) × (b.version ≤ x.version)

-- a chain of flows from the source node (p, w) of its first IN to its last IN
pub data Flows (s : Story) (p w : ℕ) : ℕ → Type 0 where
  one : (k : ℕ) → k < s.size → s.is_in k ≡ true → s.what (s.out k) ≡ p → s.version p (s.out k) ≡ w → Flows s p w k
  more : (j k : ℕ) → Flows s p w j → k < s.size → s.is_in k ≡ true → s.what j ≡ s.what (s.out k) → j < s.out k → Flows s p w k

-- how a is joined to b
pub data Reaches (s : Story) (before : List Record) (a b : Node) : Type 0 where
  earlier : b.pnode ≡ a.pnode → b.version < a.version → Reaches s before a b
  past : LeadsBack before a b → Reaches s before a b
  flowed : (origin : Node) (k : ℕ) → Flows s origin.pnode origin.version k → s.what k ≡ a.pnode → s.version a.pnode (suc k) ≤ a.version → (IsUpTo origin b ⊎ LeadsBack before origin b) → Reaches s before a b

-- an IN of o from (x, w) before q
pub record Before (s : Story) (o x w q : ℕ) : Type 0 where
  pub place : ℕ
  pub below : place < q
  pub inside : place < s.size
  pub is_in : s.is_in place ≡ true
  pub what : s.what place ≡ o
  pub source : s.what (s.out place) ≡ x
  pub source_version : s.version x (s.out place) ≡ w

-- a marked version took each of its sources before its first mark
pub before_mark : (s : Story) → IsStory s → (k o x q : ℕ) → k < s.size → s.is_in k ≡ true → s.what k ≡ o → s.what (s.out k) ≡ x → q < s.size → s.is_out q ≡ true → s.what q ≡ o → s.version o (suc k) ≤ s.version o q → Before s o x (s.version x (s.out k)) q
before_mark s h k o x q l i e ex lq out eq le =
    elim (le_or_above q k) [
      | inr lt ↦ record { place = k; below = lt; inside = l; is_in = i; what = e; source = ex; source_version = refl }
      | inl ge ↦
          let g : First s k o (s.version o (suc k)) x (s.version x (s.out k)) = first s h k o x l i e ex in
          let m1 : s.version o q ≤ s.version o k = mono s h o q k ge (omega arith) in
          let m2 : s.version o k ≤ s.version o (suc k) = (step_le s h o k l).0 in
          let lg : g.place < s.size = omega (arith, g.below) in
          let found : g.place < q = elim (le_or_above q g.place) [
            | inr lt ↦ lt
            | inl q_le ↦ elim (ℕ_discrete q g.place) [
              | yes same ↦ absurd (true≢false (sym g.is_in ∙ (ap s.is_in (sym same) ∙ (h.outs q lq out).1)))
              | no ne ↦
                  let m3 : s.version o q ≤ s.version o g.place = mono s h o q g.place q_le (omega arith) in
                  let m4 : s.version o g.place ≤ s.version o (suc g.place) = (step_le s h o g.place lg).0 in
                  let same : s.version o q ≡ s.version o g.place = omega (arith, g.version) in
                  let fr : s.freezes g.place ≡ true = h.marks g.place q o lg g.fresh g.what (omega arith) out eq same in
                  absurd (omega (arith, h.moves g.place o lg g.what fr, g.version))
            ]
          ] in
          record { place = g.place; below = found; inside = lg; is_in = g.is_in; what = g.what; source = g.source; source_version = g.source_version }
    ]

-- the end of a chain from (p, w): an IN of o before q
pub record Arrives (s : Story) (p w o q : ℕ) : Type 0 where
  pub place : ℕ
  pub chain : Flows s p w place
  pub what : s.what place ≡ o
  pub below : place < q

-- a chain whose last version is at most the one at an OUT can be led through INs before that OUT
pub led_before : (s : Story) → IsStory s → (p w o q : ℕ) → {k : ℕ} → Flows s p w k → s.what k ≡ o → q < s.size → s.is_out q ≡ true → s.what q ≡ o → s.version o (suc k) ≤ s.version o q → Arrives s p w o q
led_before s h p w o q (one k l i ep ew) e lq out eq le =
    let f : Before s o p (s.version p (s.out k)) q = before_mark s h k o p q l i e ep lq out eq le in
    record { place = f.place; chain = one f.place f.inside f.is_in f.source (f.source_version ∙ ew); what = f.what; below = f.below }
led_before s h p w o q (more j k c l i ej lt) e lq out eq le =
    let x : ℕ = s.what (s.out k) in
    let f : Before s o x (s.version x (s.out k)) q = before_mark s h k o x q l i e refl lq out eq le in
    let fl : (s.out k < k) × (s.is_out (s.out k) ≡ true) = h.flows k l i in
    let ff : (s.out f.place < f.place) × (s.is_out (s.out f.place) ≡ true) = h.flows f.place f.inside f.is_in in
    let m : s.version x (suc j) ≤ s.version x (s.out k) = mono s h x (suc j) (s.out k) lt (omega (arith, fl.0)) in
    let r : Arrives s p w x (s.out f.place) = led_before s h p w x (s.out f.place) c ej (omega (arith, ff.0, f.inside)) ff.1 f.source (omega (arith, f.source_version)) in
    record { place = f.place; chain = more r.place f.place r.chain f.inside f.is_in (r.what ∙ sym f.source) r.below; what = f.what; below = f.below }

-- what the two lists have for the paths: the opening's edges and this session's are edges of the whole
abbrev pub Holds : Story → List Record → List Record → Type 0
Holds s before all = ((a b : Node) → IsEdge before a b → IsEdge all a b) × ((a b : Node) → Edge s a b → IsEdge all a b)

pub lifts : (s : Story) → (before all : List Record) → Holds s before all → {a b : Node} → HasPath before a b → HasPath all a b
lifts s before all holds {a} {b} (edge e) = edge (holds.0 a b e)
lifts s before all holds {a} (step {b = m} e p) = step (holds.0 a m e) (lifts s before all holds p)

pub joins : {before : List Record} {a b c : Node} → HasPath before a b → HasPath before b c → HasPath before a c
joins (edge e) q = step e q
joins (step e p) q = step e (joins p q)

-- a version and the one before it
step_down : (s : Story) → IsStory s → IsBegun s → (before all : List Record) → IsOpening s.opened before → Holds s before all → (o v : ℕ) → 1 ≤ v → suc v ≤ s.version o s.size → IsEdge all (record { pnode = o; version = suc v }) (record { pnode = o; version = v })
step_down s h g before all op holds o v one_le le =
    elim (le_or_above (suc v) (s.opened o)) [
      | inl opened_v ↦ holds.0 _ _ (op.versions (record { pnode = o; version = suc v }) (record { pnode = o; version = v }) refl refl one_le opened_v)
      | inr new ↦
          let f : Left s o v = left_by s h g o v s.size (omega arith) (omega arith) le in
          holds.1 _ _ (froze f.place f.below f.freezes f.what f.after f.what f.before)
    ]

-- a path leads from each version of an object to each earlier one
pub goes_down : (s : Story) → IsStory s → IsBegun s → (before all : List Record) → IsOpening s.opened before → Holds s before all → (o u v : ℕ) → 1 ≤ v → v < u → u ≤ s.version o s.size → HasPath all (record { pnode = o; version = u }) (record { pnode = o; version = v })
goes_down s h g before all op holds o zero v one_le lt le = absurd (omega arith)
goes_down s h g before all op holds o (suc u) v one_le lt le =
    elim (ℕ_discrete u v) [
      | yes e ↦ subst (λ (n : ℕ). HasPath all (record { pnode = o; version = suc u }) (record { pnode = o; version = n })) e (edge (step_down s h g before all op holds o u (omega arith) le))
      | no ne ↦ step (step_down s h g before all op holds o u (omega arith) le) (goes_down s h g before all op holds o u v one_le (omega arith) (omega arith))
    ]

-- the same, after a path
goes_on : (s : Story) → IsStory s → IsBegun s → (before all : List Record) → IsOpening s.opened before → Holds s before all → (a : Node) (o u v : ℕ) → 1 ≤ v → v ≤ u → u ≤ s.version o s.size → HasPath all a (record { pnode = o; version = u }) → HasPath all a (record { pnode = o; version = v })
goes_on s h g before all op holds a o u v one_le le lu p =
    elim (ℕ_discrete u v) [
      | yes e ↦ subst (λ (n : ℕ). HasPath all a (record { pnode = o; version = n })) e p
      | no ne ↦ joins p (goes_down s h g before all op holds o u v one_le (omega arith) lu)
    ]

-- the same, before a path
comes_from : (s : Story) → IsStory s → IsBegun s → (before all : List Record) → IsOpening s.opened before → Holds s before all → (b : Node) (o u v : ℕ) → 1 ≤ v → v ≤ u → u ≤ s.version o s.size → HasPath all (record { pnode = o; version = v }) b → HasPath all (record { pnode = o; version = u }) b
comes_from s h g before all op holds b o u v one_le le lu p =
    elim (ℕ_discrete u v) [
      | yes e ↦ subst (λ (n : ℕ). HasPath all (record { pnode = o; version = n }) b) (sym e) p
      | no ne ↦ joins (goes_down s h g before all op holds o u v one_le (omega arith) lu) p
    ]

-- an IN's version leads to its source node
takes : (s : Story) → IsStory s → (before all : List Record) → Holds s before all → (k o x : ℕ) → k < s.size → s.is_in k ≡ true → s.what k ≡ o → s.what (s.out k) ≡ x → IsEdge all (record { pnode = o; version = s.version o (suc k) }) (record { pnode = x; version = s.version x (s.out k) })
takes s h before all holds k o x l i e ex =
    let g : First s k o (s.version o (suc k)) x (s.version x (s.out k)) = first s h k o x l i e ex in
    holds.1 _ _ (took g.place (omega (arith, g.below)) g.fresh g.what g.version g.source g.source_version)

version_pos : (s : Story) → IsStory s → IsBegun s → (o k : ℕ) → k ≤ s.size → 1 ≤ s.version o k
version_pos s h g o k l = let m : s.version o 0 ≤ s.version o k = mono s h o 0 k (omega arith) l in omega (arith, g.start o)

-- a chain leads its target's version to its origin
flows_path : (s : Story) → IsStory s → IsBegun s → (before all : List Record) → IsOpening s.opened before → Holds s before all → (p w o : ℕ) → {k : ℕ} → Flows s p w k → s.what k ≡ o → HasPath all (record { pnode = o; version = s.version o (suc k) }) (record { pnode = p; version = w })
flows_path s h g before all op holds p w o (one k l i ep ew) e =
    subst (λ (n : ℕ). HasPath all (record { pnode = o; version = s.version o (suc k) }) (record { pnode = p; version = n })) ew (edge (takes s h before all holds k o p l i e ep))
flows_path s h g before all op holds p w o (more j k c l i ej lt) e =
    let x : ℕ = s.what (s.out k) in
    let fl : (s.out k < k) × (s.is_out (s.out k) ≡ true) = h.flows k l i in
    step (takes s h before all holds k o x l i e refl)
    (comes_from s h g before all op holds (record { pnode = p; version = w }) x (s.version x (s.out k)) (s.version x (suc j))
    (version_pos s h g x (suc j) (omega (arith, fl.0))) (mono s h x (suc j) (s.out k) lt (omega (arith, fl.0))) (mono s h x (s.out k) s.size (omega (arith, fl.0)) (omega arith))
    (flows_path s h g before all op holds p w x c ej))

-- the origin of a chain is a version that its object has had
origin_le : (s : Story) → IsStory s → (p w : ℕ) → {k : ℕ} → Flows s p w k → w ≤ s.version p s.size
origin_le s h p w (one k l i ep ew) =
    let fl : (s.out k < k) × (s.is_out (s.out k) ≡ true) = h.flows k l i in
    let m : s.version p (s.out k) ≤ s.version p s.size = mono s h p (s.out k) s.size (omega (arith, fl.0)) (omega arith) in
    omega arith
origin_le s h p w (more j k c l i ej lt) = origin_le s h p w c

starts : (opened : ℕ → ℕ) → (before : List Record) → IsOpening opened before → {a b : Node} → HasPath before a b → Within opened a
starts opened before op {a} {b} (edge e) = (op.ends a b e).0
starts opened before op {a} (step {b = m} e p) = (op.ends a m e).0

flowed_path : (s : Story) → IsStory s → IsBegun s → (before all : List Record) → IsOpening s.opened before → Holds s before all → (a b origin : Node) (k : ℕ) → a.version ≤ s.version a.pnode s.size → 1 ≤ b.version → Flows s origin.pnode origin.version k → s.what k ≡ a.pnode → s.version a.pnode (suc k) ≤ a.version → k < s.size → (IsUpTo origin b ⊎ LeadsBack before origin b) → HasPath all a b
flowed_path s h g before all op holds a b origin k la lb c e le lk alt =
    let p : ℕ = origin.pnode in
    let w : ℕ = origin.version in
    let lw : w ≤ s.version p s.size = origin_le s h p w c in
    let here : HasPath all a origin = comes_from s h g before all op holds origin a.pnode a.version (s.version a.pnode (suc k)) (version_pos s h g a.pnode (suc k) lk) le la (flows_path s h g before all op holds p w a.pnode c e) in
    elim alt [
      | inl up ↦ subst (λ (n : ℕ). HasPath all a (record { pnode = n; version = b.version })) (sym up.0) (goes_on s h g before all op holds a p w b.version lb up.1 lw here)
      | inr back ↦
          let from : Within s.opened (record { pnode = p; version = back.0 }) = starts s.opened before op back.2 in
          joins (goes_on s h g before all op holds a p w back.0 from.0 back.1 lw here) (lifts s before all holds back.2)
    ]

flows_below : (s : Story) → (p w : ℕ) → {k : ℕ} → Flows s p w k → k < s.size
flows_below s p w (one k l i ep ew) = l
flows_below s p w (more j k c l i ej lt) = l

-- where a is joined to b a path leads from a to b
pub chain_gives_path : (s : Story) → IsStory s → IsBegun s → (before all : List Record) → IsOpening s.opened before → Holds s before all → (a b : Node) → a.version ≤ s.version a.pnode s.size → 1 ≤ b.version → Reaches s before a b → HasPath all a b
chain_gives_path s h g before all op holds a b la lb (earlier e lt) =
    subst (λ (n : ℕ). HasPath all a (record { pnode = n; version = b.version })) (sym e) (goes_down s h g before all op holds a.pnode a.version b.version lb lt la)
chain_gives_path s h g before all op holds a b la lb (past back) =
    comes_from s h g before all op holds b a.pnode a.version back.0 (starts s.opened before op back.2).0 back.1 la (lifts s before all holds back.2)
chain_gives_path s h g before all op holds a b la lb (flowed origin k c e le alt) =
    flowed_path s h g before all op holds a b origin k la lb c e le (flows_below s origin.pnode origin.version c) alt

-- one edge joins
by_edge : (s : Story) → IsStory s → (before : List Record) → (a b : Node) → Edge s a b → Reaches s before a b
by_edge s h before a b (took k l f e ev ex ew) = flowed b k (one k l (h.news k l f) ex ew) e (omega arith) (inl (refl, omega arith))
by_edge s h before a b (froze k l fr e ev ex ew) =
    earlier (sym ex ∙ e) (omega (arith, h.moves k a.pnode l e fr, ap (λ (n : ℕ). s.version n k) (sym ex ∙ e)))

-- and so does an edge to a joined node
after_taken : (s : Story) → IsStory s → (before : List Record) → (a m b : Node) (k : ℕ) → k < s.size → s.is_in k ≡ true → s.what k ≡ a.pnode → s.version a.pnode (suc k) ≡ a.version → s.what (s.out k) ≡ m.pnode → s.version m.pnode (s.out k) ≡ m.version → Reaches s before m b → Reaches s before a b
after_taken s h before a m b k l i e ev ex ew (earlier eb lt) = flowed m k (one k l i ex ew) e (omega arith) (inl (eb, omega arith))
after_taken s h before a m b k l i e ev ex ew (past back) = flowed m k (one k l i ex ew) e (omega arith) (inr back)
after_taken s h before a m b k l i e ev ex ew (flowed origin j c ej le alt) =
    let fl : (s.out k < k) × (s.is_out (s.out k) ≡ true) = h.flows k l i in
    let r : Arrives s origin.pnode origin.version m.pnode (s.out k) = led_before s h origin.pnode origin.version m.pnode (s.out k) c ej (omega (arith, fl.0)) fl.1 ex (omega arith) in
    flowed origin k (more r.place k r.chain l i (r.what ∙ sym ex) r.below) e (omega arith) alt

after_frozen : (s : Story) → (before : List Record) → (a m b : Node) → m.pnode ≡ a.pnode → m.version ≤ a.version → Reaches s before m b → Reaches s before a b
after_frozen s before a m b e le (earlier eb lt) = earlier (eb ∙ e) (omega arith)
after_frozen s before a m b e le (past back) = past (back.0, omega (arith, back.1), subst (λ (n : ℕ). HasPath before (record { pnode = n; version = back.0 }) b) e back.2)
after_frozen s before a m b e le (flowed origin j c ej lej alt) = flowed origin j c (ej ∙ e) (omega (arith, ap (λ (n : ℕ). s.version n (suc j)) e)) alt

by_edge_then : (s : Story) → IsStory s → (before : List Record) → (a m b : Node) → Edge s a m → Reaches s before m b → Reaches s before a b
by_edge_then s h before a m b (took k l f e ev ex ew) r = after_taken s h before a m b k l (h.news k l f) e ev ex ew r
by_edge_then s h before a m b (froze k l fr e ev ex ew) r =
    after_frozen s before a m b (sym ex ∙ e) (omega (arith, h.moves k a.pnode l e fr, ap (λ (n : ℕ). s.version n k) (sym ex ∙ e))) r

-- where a path leads from a to b, a is joined to b
pub path_gives_chain : (s : Story) → IsStory s → IsBegun s → (before all : List Record) → IsOpening s.opened before → Splits s before all → {a b : Node} → HasPath all a b → Reaches s before a b
path_gives_chain s h g before all op sp {a} {b} (edge e) =
    elim (sp a b e) [
      | inl l ↦ past (a.version, omega arith, edge l)
      | inr n ↦ by_edge s h before a b n
    ]
path_gives_chain s h g before all op sp {a} {b} (step {b = m} e p) =
    elim (sp a m e) [
      | inl l ↦ past (a.version, omega arith, step l (stays s h g before all op sp p (op.ends a m l).1).0)
      | inr n ↦ by_edge_then s h before a m b n (path_gives_chain s h g before all op sp p)
    ]

-- Along every edge of this session the rank falls; so the session's list is acyclic.
use Rattle.std.proofs.Common.{ℕ, ◌≡◌, ◌≤◌, ◌<◌, suc, Bool, true, false, List, ◌⊎◌, inl, inr, sym, ap, ◌∙◌, lt_trans, arith, true≢false}
use native.Mathlib.Decide.{ℕ_discrete}
use Rattle.pass_entry.specs.declared.objects.Node.{Node}
use Rattle.pass_entry.specs.declared.record.Record.{Record}
use Rattle.pass_entry.proofs.Lists.{le_or_above}
use Rattle.pass_plain.specs.Graphs.{IsEdge, HasPath, IsAcyclic}
use Rattle.pass_plain.specs.Graphs.HasPath.{edge, step}
use Rattle.pass_graph.proofs.Stories.{Story, IsStory, IsBegun, mono, step_le, is_later}

-- a node of the opening
abbrev pub Within : (ℕ → ℕ) → Node → Type 0
Within opened a = (1 ≤ a.version) × (a.version ≤ opened a.pnode)

-- an accepted opening: its edges lead between its nodes, each version leads to the one before, and no path leads back
pub record IsOpening (opened : ℕ → ℕ) (before : List Record) : Type 0 where
  pub ends : (a b : Node) → IsEdge before a b → Within opened a × Within opened b
  pub versions : (a b : Node) → a.pnode ≡ b.pnode → a.version ≡ suc b.version → 1 ≤ b.version → a.version ≤ opened a.pnode → IsEdge before a b
  pub acyclic : IsAcyclic before

-- an edge of this session
pub data Edge (s : Story) (a b : Node) : Type 0 where
  took : (k : ℕ) → k < s.size → s.fresh k ≡ true → s.what k ≡ a.pnode → s.version a.pnode (suc k) ≡ a.version → s.what (s.out k) ≡ b.pnode → s.version b.pnode (s.out k) ≡ b.version → Edge s a b
  froze : (k : ℕ) → k < s.size → s.freezes k ≡ true → s.what k ≡ a.pnode → s.version a.pnode (suc k) ≡ a.version → s.what k ≡ b.pnode → s.version b.pnode k ≡ b.version → Edge s a b

-- an OUT marks the version at the place, or a freeze ends it there
pub record Ends (s : Story) (a : Node) (k : ℕ) : Type 0 where
  pub below : k < s.size
  pub what : s.what k ≡ a.pnode
  pub version : s.version a.pnode k ≡ a.version
  pub how : (s.is_out k ≡ true) ⊎ (s.freezes k ≡ true)

-- r is the first place at which the version is marked or ended, or the size
pub record IsRank (s : Story) (a : Node) (r : ℕ) : Type 0 where
  pub upper : (k : ℕ) → Ends s a k → r ≤ k
  pub lower : (m : ℕ) → m ≤ s.size → ((k : ℕ) → Ends s a k → m ≤ k) → m ≤ r

clash : {A : Type 0} → (b : Bool) → b ≡ true → b ≡ false → A
clash b t f = absurd (true≢false (sym t ∙ f))

-- nothing marks or ends the version that an entry gave to its object, up to that entry
pub after_taking : (s : Story) → IsStory s → (a : Node) (k : ℕ) → k < s.size → s.fresh k ≡ true → s.what k ≡ a.pnode → s.version a.pnode (suc k) ≡ a.version → (j : ℕ) → Ends s a j → k < j
after_taking s h a k l f e ev j ends =
    elim (le_or_above j k) [
      | inr lt ↦ lt
      | inl le ↦
          let o : ℕ = a.pnode in
          let m1 : s.version o j ≤ s.version o k = mono s h o j k le (omega arith) in
          let m2 : s.version o k ≤ s.version o (suc k) = (step_le s h o k l).0 in
          let same : s.version o j ≡ s.version o k = omega (arith, ends.version) in
          let still : (s.freezes k ≡ true) → k < j = λ (fr : s.freezes k ≡ true). absurd (omega (arith, h.moves k o l e fr, ends.version)) in
          elim ends.how [
            | inl out ↦ elim (ℕ_discrete j k) [
              | yes q ↦ clash (s.is_in k) (h.news k l f) (h.outs k l (ap s.is_out (sym q) ∙ out)).1
              | no q ↦ still (h.marks k j o l f e (omega arith) out ends.what same)
            ]
            | inr fr ↦ elim (ℕ_discrete j k) [
              | yes q ↦ still (ap s.freezes (sym q) ∙ fr)
              | no q ↦
                  let m3 : s.version o (suc j) ≤ s.version o k = mono s h o (suc j) k (omega arith) (omega arith) in
                  absurd (omega (arith, h.moves j o ends.below ends.what fr))
            ]
          ]
    ]

after_freezing : (s : Story) → IsStory s → (a : Node) (k : ℕ) → k < s.size → s.freezes k ≡ true → s.what k ≡ a.pnode → s.version a.pnode (suc k) ≡ a.version → (j : ℕ) → Ends s a j → k < j
after_freezing s h a k l fr e ev j ends =
    elim (le_or_above j k) [
      | inr lt ↦ lt
      | inl le ↦
          let m1 : s.version a.pnode j ≤ s.version a.pnode k = mono s h a.pnode j k le (omega arith) in
          absurd (omega (arith, h.moves k a.pnode l e fr, ends.version))
    ]

-- the rank falls along an edge of this session
pub falls : (s : Story) → IsStory s → (a b : Node) → Edge s a b → (ra rb : ℕ) → IsRank s a ra → IsRank s b rb → rb < ra
falls s h a b (took k l f e ev ex ew) ra rb ia ib =
    let fl : (s.out k < k) × (s.is_out (s.out k) ≡ true) = h.flows k l (h.news k l f) in
    let up : rb ≤ s.out k = ib.upper (s.out k) (record { below = omega (arith, fl.0); what = ex; version = ew; how = inl fl.1 }) in
    let low : suc k ≤ ra = ia.lower (suc k) l (after_taking s h a k l f e ev) in
    omega (arith, fl.0)
falls s h a b (froze k l fr e ev ex ew) ra rb ia ib =
    let up : rb ≤ k = ib.upper k (record { below = l; what = ex; version = ew; how = inr fr }) in
    let low : suc k ≤ ra = ia.lower (suc k) l (after_freezing s h a k l fr e ev) in
    omega arith

-- an edge of this session leads from no version of the opening
pub is_new : (s : Story) → IsStory s → IsBegun s → (a b : Node) → Edge s a b → s.opened a.pnode < a.version
is_new s h g a b (took k l f e ev ex ew) = omega (arith, is_later s h g k a.pnode l f e)
is_new s h g a b (froze k l fr e ev ex ew) =
    let m : s.version a.pnode 0 ≤ s.version a.pnode k = mono s h a.pnode 0 k (omega arith) (omega arith) in
    omega (arith, h.moves k a.pnode l e fr, g.start a.pnode)

-- how an edge of the session's list is one of the opening or one of this session
abbrev pub Splits : Story → List Record → List Record → Type 0
Splits s before all = (a b : Node) → IsEdge all a b → IsEdge before a b ⊎ Edge s a b

-- a path from a version of the opening lies in the opening
pub stays : (s : Story) → IsStory s → IsBegun s → (before all : List Record) → IsOpening s.opened before → Splits s before all → {a b : Node} → HasPath all a b → Within s.opened a → HasPath before a b × Within s.opened b
stays s h g before all op sp {a} {b} (edge e) oa =
    elim (sp a b e) [
      | inl l ↦ (edge l, (op.ends a b l).1)
      | inr n ↦ absurd (omega (arith, is_new s h g a b n, oa.1))
    ]
stays s h g before all op sp {a} {b} (step {b = m} e p) oa =
    elim (sp a m e) [
      | inl l ↦
          let rest : HasPath before m b × Within s.opened b = stays s h g before all op sp p (op.ends a m l).1 in
          (step l rest.0, rest.1)
      | inr n ↦ absurd (omega (arith, is_new s h g a m n, oa.1))
    ]

-- the rank falls along a path to a version of this session
descends : (s : Story) → IsStory s → IsBegun s → (before all : List Record) → IsOpening s.opened before → Splits s before all → (rank : Node → ℕ) → ((a : Node) → IsRank s a (rank a)) → {a b : Node} → HasPath all a b → (Within s.opened b → ⊥) → rank b < rank a
descends s h g before all op sp rank is {a} {b} (edge e) new =
    elim (sp a b e) [
      | inl l ↦ absurd (new (op.ends a b l).1)
      | inr n ↦ falls s h a b n (rank a) (rank b) (is a) (is b)
    ]
descends s h g before all op sp rank is {a} {b} (step {b = m} e p) new =
    elim (sp a m e) [
      | inl l ↦ absurd (new (stays s h g before all op sp p (op.ends a m l).1).1)
      | inr n ↦ lt_trans (descends s h g before all op sp rank is p new) (falls s h a m n (rank a) (rank m) (is a) (is m))
    ]

pub acyclic : (s : Story) → IsStory s → IsBegun s → (before all : List Record) → IsOpening s.opened before → Splits s before all → (rank : Node → ℕ) → ((a : Node) → IsRank s a (rank a)) → IsAcyclic all
acyclic s h g before all op sp rank is a p =
    let by_rank : (Within s.opened a → ⊥) → ⊥ = λ (new : Within s.opened a → ⊥). let fall : rank a < rank a = descends s h g before all op sp rank is p new in omega arith in
    by_rank (λ (is_within : Within s.opened a). op.acyclic a (stays s h g before all op sp p is_within).0)

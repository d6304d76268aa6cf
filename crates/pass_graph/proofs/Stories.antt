-- What the laws need of a history, as functions of a place, and what follows for versions.
use Rattle.std.proofs.Common.{ℕ, ◌≡◌, ◌≢◌, ◌≤◌, ◌<◌, zero, suc, max, Bool, true, false, ◌⊎◌, inl, inr, refl, ap, le_trans, le_of_eq, arith}
use Rattle.std.proofs.lemmas.Bool.{cases_Bool}
use native.Mathlib.Decide.{ℕ_discrete}
use Rattle.pass_entry.proofs.Lists.{le_or_above}

-- a history by its places: `version o k` is the version of o after the first k entries, `opened o` the last one of the
-- opening, or 0
pub record Story : Type 0 where
  pub size : ℕ
  pub opened : ℕ → ℕ
  pub what : ℕ → ℕ
  pub out : ℕ → ℕ
  pub is_out : ℕ → Bool
  pub is_in : ℕ → Bool
  pub fresh : ℕ → Bool
  pub freezes : ℕ → Bool
  pub version : ℕ → ℕ → ℕ

-- an IN of o from version w of x stands below k, and o has the version v after it
pub record Taken (s : Story) (k o v x w : ℕ) : Type 0 where
  pub place : ℕ
  pub below : place < k
  pub is_in : s.is_in place ≡ true
  pub what : s.what place ≡ o
  pub version : s.version o (suc place) ≡ v
  pub source : s.what (s.out place) ≡ x
  pub source_version : s.version x (s.out place) ≡ w

-- each fact takes its object as a variable with an equation, so that `omega` can use it
pub record IsStory (s : Story) : Type 0 where
  pub same : (k o : ℕ) → k < s.size → s.what k ≢ o → s.version o (suc k) ≡ s.version o k
  pub keeps : (k o : ℕ) → k < s.size → s.what k ≡ o → s.freezes k ≡ false → s.version o (suc k) ≡ s.version o k
  pub moves : (k o : ℕ) → k < s.size → s.what k ≡ o → s.freezes k ≡ true → s.version o (suc k) ≡ suc (s.version o k)
  pub outs : (k : ℕ) → k < s.size → s.is_out k ≡ true → (s.freezes k ≡ false) × (s.is_in k ≡ false)
  pub flows : (k : ℕ) → k < s.size → s.is_in k ≡ true → (s.out k < k) × (s.is_out (s.out k) ≡ true)
  pub news : (k : ℕ) → k < s.size → s.fresh k ≡ true → s.is_in k ≡ true
  pub marks : (k j o : ℕ) → k < s.size → s.fresh k ≡ true → s.what k ≡ o → j < k → s.is_out j ≡ true → s.what j ≡ o → s.version o j ≡ s.version o k → s.freezes k ≡ true
  pub repeats : (k o x : ℕ) → k < s.size → s.is_in k ≡ true → s.fresh k ≡ false → s.what k ≡ o → s.what (s.out k) ≡ x → (s.freezes k ≡ false) × Taken s k o (s.version o k) x (s.version x (s.out k))

-- how the history begins: a fresh IN freezes the version that its target had at the opening
pub record IsBegun (s : Story) : Type 0 where
  pub start : (o : ℕ) → s.version o 0 ≡ max 1 (s.opened o)
  pub opens : (k o : ℕ) → k < s.size → s.fresh k ≡ true → s.what k ≡ o → s.version o k ≡ s.opened o → s.freezes k ≡ true

pub le_split : (a b : ℕ) → a ≤ suc b → (a ≡ suc b) ⊎ (a ≤ b)
le_split a b h = grind arith

-- an entry leaves each version as it is, or raises it by one
pub step_le : (s : Story) → IsStory s → (o k : ℕ) → k < s.size → (s.version o k ≤ s.version o (suc k)) × (s.version o (suc k) ≤ suc (s.version o k))
step_le s h o k l =
    elim (ℕ_discrete (s.what k) o) [
      | yes e ↦ elim (cases_Bool (s.freezes k)) [ inl f ↦ omega (arith, h.moves k o l e f) | inr f ↦ omega (arith, h.keeps k o l e f) ]
      | no ne ↦ omega (arith, h.same k o l ne)
    ]

pub mono : (s : Story) → IsStory s → (o a b : ℕ) → a ≤ b → b ≤ s.size → s.version o a ≤ s.version o b
mono s h o a zero le lb = let e : a ≡ 0 = omega arith in le_of_eq (ap (s.version o) e)
mono s h o a (suc b) le lb =
    elim (le_split a b le) [
      | inl e ↦ le_of_eq (ap (s.version o) e)
      | inr l ↦ let rest : b ≤ s.size = omega arith in le_trans (mono s h o a b l rest) (step_le s h o b lb).0
    ]

-- a version that an object has left was left by a freeze
pub record Left (s : Story) (o v : ℕ) : Type 0 where
  pub place : ℕ
  pub below : place < s.size
  pub what : s.what place ≡ o
  pub freezes : s.freezes place ≡ true
  pub before : s.version o place ≡ v
  pub after : s.version o (suc place) ≡ suc v

pub left_by : (s : Story) → IsStory s → IsBegun s → (o v b : ℕ) → b ≤ s.size → max 1 (s.opened o) ≤ v → v < s.version o b → Left s o v
left_by s h g o v zero lb from below = absurd (omega (arith, g.start o))
left_by s h g o v (suc b) lb from below =
    elim (le_or_above (s.version o b) v) [
      | inr l ↦ left_by s h g o v b (omega arith) from l
      | inl l ↦ elim (ℕ_discrete (s.what b) o) [
        | no ne ↦ absurd (omega (arith, h.same b o lb ne))
        | yes e ↦ elim (cases_Bool (s.freezes b)) [
          | inr f ↦ absurd (omega (arith, h.keeps b o lb e f))
          | inl f ↦ let m : s.version o (suc b) ≡ suc (s.version o b) = h.moves b o lb e f in
              record { place = b; below = lb; what = e; freezes = f; before = omega arith; after = omega arith }
        ]
      ]
    ]

-- an IN has a fresh one at or before its place, of the same version and from the same source node
pub record First (s : Story) (k o v x w : ℕ) : Type 0 where
  pub place : ℕ
  pub below : place ≤ k
  pub is_in : s.is_in place ≡ true
  pub fresh : s.fresh place ≡ true
  pub what : s.what place ≡ o
  pub version : s.version o (suc place) ≡ v
  pub source : s.what (s.out place) ≡ x
  pub source_version : s.version x (s.out place) ≡ w

pub first_of_its_kind : (s : Story) → IsStory s → (fuel k o v x w : ℕ) → k < fuel → k < s.size → s.is_in k ≡ true → s.what k ≡ o → s.version o (suc k) ≡ v → s.what (s.out k) ≡ x → s.version x (s.out k) ≡ w → First s k o v x w
first_of_its_kind s h zero k o v x w few l i e ev ex ew = absurd (omega arith)
first_of_its_kind s h (suc fuel) k o v x w few l i e ev ex ew =
    elim (cases_Bool (s.fresh k)) [
      | inl f ↦ record { place = k; below = omega arith; is_in = i; fresh = f; what = e; version = ev; source = ex; source_version = ew }
      | inr f ↦
          let r : (s.freezes k ≡ false) × Taken s k o (s.version o k) x (s.version x (s.out k)) = h.repeats k o x l i f e ex in
          let t : Taken s k o (s.version o k) x (s.version x (s.out k)) = r.1 in
          let kept : s.version o (suc k) ≡ s.version o k = h.keeps k o l e r.0 in
          let g : First s t.place o v x w = first_of_its_kind s h fuel t.place o v x w (omega (arith, t.below)) (omega (arith, t.below)) t.is_in t.what (omega (arith, t.version)) t.source (omega (arith, t.source_version)) in
          record { place = g.place; below = omega (arith, g.below, t.below); is_in = g.is_in; fresh = g.fresh; what = g.what; version = g.version; source = g.source; source_version = g.source_version }
    ]

pub first : (s : Story) → IsStory s → (k o x : ℕ) → k < s.size → s.is_in k ≡ true → s.what k ≡ o → s.what (s.out k) ≡ x → First s k o (s.version o (suc k)) x (s.version x (s.out k))
first s h k o x l i e ex = first_of_its_kind s h (suc k) k o _ x _ (omega arith) l i e refl ex refl

-- a target's version after an IN is none of the opening's
pub is_later : (s : Story) → IsStory s → IsBegun s → (k o : ℕ) → k < s.size → s.fresh k ≡ true → s.what k ≡ o → s.opened o < s.version o (suc k)
is_later s h g k o l f e =
    let m : s.version o 0 ≤ s.version o k = mono s h o 0 k (omega arith) (omega arith) in
    elim (ℕ_discrete (s.version o k) (s.opened o)) [
      | yes q ↦ omega (arith, h.moves k o l e (g.opens k o l f e q))
      | no q ↦ omega (arith, (step_le s h o k l).0, g.start o)
    ]

-- Versions whose leaves are gathered one after the other.
use Rattle.std.proofs.Common.{◌≡◌, ◌⊎◌, ℕ, ◌+◌, ◌<◌, ◌≤◌, Bool, true, false, List, [], ◌∷◌, ◌++◌, length, take, drop, IsTrue, inl, inr, refl, sym, ◌∙◌, ap, subst, arith, append_assoc, length-append}
use Rattle.std.specs.Prelude.{nat_le, fold, if◌then◌else◌}
use Rattle.std.proofs.lemmas.List.{append-nil, take-append-drop}
use Rattle.std.proofs.lemmas.List.Sums.{fold-append}
use Rattle.pass_leaf.specs.Leaves.{Leaf}
use Rattle.pass_leaf.specs.Keeping.{FileVersion, is_above, kept_with, kept_all}
use Rattle.pass_leaf.specs.Gatherings.{frames_size, batch_size, Gathering, all_of, with_batch, with_gathered, with_leaf, with_version, settled}
use Rattle.pass_leaf.proofs.Answering.{above_is, next_of, settled_none}
use Rattle.pass_past.specs.Keepings.{Begins, gathered_all}

pub kept_all-push : (leaves : List Leaf) (done : List FileVersion) (v : FileVersion) → kept_all leaves (done ++ v ∷ []) ≡ kept_with (kept_all leaves done) v
kept_all-push leaves [] v = refl
kept_all-push leaves (d ∷ done) v = kept_all-push (kept_with leaves d) done v

pub kept_all-append : (leaves : List Leaf) (a b : List FileVersion) → kept_all leaves (a ++ b) ≡ kept_all (kept_all leaves a) b
kept_all-append leaves a b = fold-append kept_with leaves a b

-- leaves are only added
longer_if : (b : Bool) (leaves : List Leaf) (leaf : Leaf) → length leaves ≤ length (if b then leaves ++ leaf ∷ [] else leaves)
longer_if true leaves leaf = omega (arith, length-append leaves (leaf ∷ []))
longer_if false leaves leaf = omega arith

pub kept_longer : (leaves : List Leaf) (versions : List FileVersion) → length leaves ≤ length (kept_all leaves versions)
kept_longer leaves [] = omega arith
kept_longer leaves (v ∷ versions) = omega (arith, kept_longer (kept_with leaves v) versions, longer_if (is_above leaves v.node) leaves (next_of leaves v))

pub begins_kept : (leaves : List Leaf) (a b : List FileVersion) → Begins a b → length (kept_all leaves a) ≤ length (kept_all leaves b)
begins_kept leaves a b begins =
    omega (arith, kept_longer (kept_all leaves a) begins.0, ap length (kept_all-append leaves a begins.0), ap (λ (l : List FileVersion). length (kept_all leaves l)) begins.1)

pub gathered-push : (leaves : List Leaf) (done : List FileVersion) (v : FileVersion) → gathered_all leaves (done ++ v ∷ []) ≡ with_version (gathered_all leaves done) v
gathered-push leaves done v = fold-append with_version (record { written = leaves; gathered = []; batches = 0 }) done (v ∷ [])

-- what is written stays written
pub record IsBehind (a b : Gathering) : Type 0 where
  pub written : length a.written ≤ length b.written
  pub batches : a.batches ≤ b.batches

behind_one : (g : Gathering) (v : FileVersion) → IsBehind g (with_version g v)
behind_one g v = by_tests (is_above (all_of g) v.node) (nat_le batch_size (frames_size (g.gathered ++ next_of (all_of g) v ∷ [])))
  where
    by_tests : (a b : Bool) → IsBehind g (if a then (if b then with_batch (with_gathered g (next_of (all_of g) v)) else with_gathered g (next_of (all_of g) v)) else g)
    by_tests true true = record { written = omega (arith, length-append g.written (g.gathered ++ next_of (all_of g) v ∷ [])); batches = omega arith }
    by_tests true false = record { written = omega arith; batches = omega arith }
    by_tests false b = record { written = omega arith; batches = omega arith }

behind_on : (g : Gathering) (versions : List FileVersion) → IsBehind g (fold with_version g versions)
behind_on g [] = record { written = omega arith; batches = omega arith }
behind_on g (v ∷ versions) =
    let one = behind_one g v in
    let rest = behind_on (with_version g v) versions in
    record { written = omega (arith, one.written, rest.written); batches = omega (arith, one.batches, rest.batches) }

pub behind_front : (leaves : List Leaf) (versions : List FileVersion) (n : ℕ) → IsBehind (gathered_all leaves (take n versions)) (gathered_all leaves versions)
behind_front leaves versions n =
    let start : Gathering = record { written = leaves; gathered = []; batches = 0 } in
    let whole = fold-append with_version start (take n versions) (drop n versions) in
    subst (IsBehind (gathered_all leaves (take n versions))) (sym whole ∙ ap (gathered_all leaves) (take-append-drop n versions)) (behind_on (gathered_all leaves (take n versions)) (drop n versions))

-- the same with more batches in front
pub record IsAhead (n : ℕ) (a b : Gathering) : Type 0 where
  pub written : a.written ≡ b.written
  pub gathered : a.gathered ≡ b.gathered
  pub batches : a.batches ≡ n + b.batches

ahead_if : (test : Bool) (n : ℕ) (x y z w : Gathering) → IsAhead n x z → IsAhead n y w → IsAhead n (if test then x else y) (if test then z else w)
ahead_if true n x y z w one two = one
ahead_if false n x y z w one two = two

ahead_version : (written gathered : List Leaf) (n : ℕ) (v : FileVersion)
    → IsAhead n (with_version (record { written = written; gathered = gathered; batches = n }) v) (with_version (record { written = written; gathered = gathered; batches = 0 }) v)
ahead_version written gathered n v =
    let a : Gathering = record { written = written; gathered = gathered; batches = n } in
    let b : Gathering = record { written = written; gathered = gathered; batches = 0 } in
    let leaf = next_of (written ++ gathered) v in
    let full = nat_le batch_size (frames_size (gathered ++ leaf ∷ [])) in
    ahead_if (is_above (written ++ gathered) v.node) n (with_leaf a leaf) a (with_leaf b leaf) b
    (ahead_if full n (with_batch (with_gathered a leaf)) (with_gathered a leaf) (with_batch (with_gathered b leaf)) (with_gathered b leaf)
    (record { written = refl; gathered = refl; batches = omega arith }) (record { written = refl; gathered = refl; batches = omega arith }))
    (record { written = refl; gathered = refl; batches = omega arith })

-- one version more, by what an archive has now
pub stepped : (leaves : List Leaf) (done : List FileVersion) (v : FileVersion) (written gathered : List Leaf) → written ≡ (gathered_all leaves done).written → gathered ≡ (gathered_all leaves done).gathered
    → IsAhead (gathered_all leaves done).batches (gathered_all leaves (done ++ v ∷ [])) (with_version (record { written = written; gathered = gathered; batches = 0 }) v)
stepped leaves done v written gathered written_is gathered_is =
    let g = gathered_all leaves done in
    let same : with_version (record { written = g.written; gathered = g.gathered; batches = 0 }) v ≡ with_version (record { written = written; gathered = gathered; batches = 0 }) v =
    λ i. with_version (record { written = sym written_is i; gathered = sym gathered_is i; batches = 0 }) v in
    subst (λ (x : Gathering). IsAhead g.batches x (with_version (record { written = written; gathered = gathered; batches = 0 }) v)) (sym (gathered-push leaves done v))
    (subst (IsAhead g.batches (with_version g v)) same (ahead_version g.written g.gathered g.batches v))

-- where no batch was written the written leaves are the same

abbrev made : List Leaf → List Leaf → FileVersion → Bool → Bool → Gathering
made written gathered v above full =
    let start : Gathering = record { written = written; gathered = gathered; batches = 0 } in
    let more = with_gathered start (next_of (written ++ gathered) v) in
    if above then (if full then with_batch more else more) else start

unmoved_by : (written gathered : List Leaf) (v : FileVersion) (above full : Bool) → (made written gathered v above full).batches ≡ 0 → (made written gathered v above full).written ≡ written
unmoved_by written gathered v true true none = absurd (omega (arith, none))
unmoved_by written gathered v true false none = refl
unmoved_by written gathered v false full none = refl

pub unmoved : (written gathered : List Leaf) (v : FileVersion) → (with_version (record { written = written; gathered = gathered; batches = 0 }) v).batches ≡ 0
    → (with_version (record { written = written; gathered = gathered; batches = 0 }) v).written ≡ written
unmoved written gathered v = unmoved_by written gathered v (is_above (written ++ gathered) v.node) (nat_le batch_size (frames_size (gathered ++ next_of (written ++ gathered) v ∷ [])))

-- all that is gathered is written, or nothing is

abbrev pub IsSettledFrom : List Leaf → List Leaf → ℕ → Type 0
IsSettledFrom written gathered n =
    ((0 < length gathered) × (settled (record { written = written; gathered = gathered; batches = n }) ≡ record { written = written ++ gathered; gathered = []; batches = n + 1 }))
    ⊎ ((gathered ≡ []) × (settled (record { written = written; gathered = gathered; batches = n }) ≡ record { written = written; gathered = gathered; batches = n }))

pub settled_from : (written gathered : List Leaf) (n : ℕ) → IsSettledFrom written gathered n
settled_from written [] n = inr (refl, settled_none (record { written = written; gathered = []; batches = n }) refl)
settled_from written (leaf ∷ gathered) n =
    let g : Gathering = record { written = written; gathered = leaf ∷ gathered; batches = n } in
    inl (omega arith, ap (λ (b : Bool). if b then with_batch g else g) (above_is 0 (length (leaf ∷ gathered)) (omega arith)))

-- The versions whose leaves are written, and those behind them.

-- the first leaf that is gathered is that of the first version
abbrev pub IsFirst : Gathering → List FileVersion → Type 0
IsFirst g versions = (v : FileVersion) × (more : List FileVersion) × (others : List Leaf) × (versions ≡ v ∷ more) × IsTrue (is_above g.written v.node) × (g.gathered ≡ next_of g.written v ∷ others)

pub record IsParted (leaves : List Leaf) (done : List FileVersion) (g : Gathering) : Type 0 where
  pub standing : List FileVersion
  pub behind : List FileVersion
  pub parts : done ≡ standing ++ behind
  pub written_is : g.written ≡ kept_all leaves standing
  pub all_is : all_of g ≡ kept_all leaves done
  pub head : ((behind ≡ []) × (g.gathered ≡ [])) ⊎ IsFirst g behind

module _ (leaves : List Leaf) (done : List FileVersion) (g : Gathering) (v : FileVersion) (p : IsParted leaves done g) where
  abbrev leaf : Leaf
  leaf = next_of (all_of g) v

  next : kept_all leaves (done ++ v ∷ []) ≡ kept_with (all_of g) v
  next = kept_all-push leaves done v ∙ ap (λ (l : List Leaf). kept_with l v) (sym p.all_is)

  longer : done ++ v ∷ [] ≡ p.standing ++ (p.behind ++ v ∷ [])
  longer = ap (λ (l : List FileVersion). l ++ v ∷ []) p.parts ∙ append_assoc p.standing p.behind (v ∷ [])

  alone : g.gathered ≡ [] → all_of g ≡ g.written
  alone none = ap (λ (l : List Leaf). g.written ++ l) none ∙ append-nil g.written

  -- the version isn't above
  passed : is_above (all_of g) v.node ≡ false → IsParted leaves (done ++ v ∷ []) g
  passed below = by_head p.head
    where
      all : all_of g ≡ kept_all leaves (done ++ v ∷ [])
      all = sym (next ∙ ap (λ (b : Bool). if b then all_of g ++ leaf ∷ [] else all_of g) below)

      by_head : ((p.behind ≡ []) × (g.gathered ≡ [])) ⊎ IsFirst g p.behind → IsParted leaves (done ++ v ∷ []) g
      by_head (inl (none, no_leaves)) =
          let under : is_above g.written v.node ≡ false = ap (λ (l : List Leaf). is_above l v.node) (sym (alone no_leaves)) ∙ below in
          let same : kept_with g.written v ≡ g.written = ap (λ (b : Bool). if b then g.written ++ next_of g.written v ∷ [] else g.written) under in
          record {
            standing = p.standing ++ v ∷ [];
            behind = [];
            parts = longer ∙ ap (λ (l : List FileVersion). p.standing ++ (l ++ v ∷ [])) none ∙ sym (append-nil (p.standing ++ v ∷ []));
            written_is = sym (kept_all-push leaves p.standing v ∙ ap (λ (l : List Leaf). kept_with l v) (sym p.written_is) ∙ same);
            all_is = all;
            head = inl (refl, no_leaves);
          }
      by_head (inr (u, more, others, behind_is, above, first_is)) = record {
        standing = p.standing;
        behind = p.behind ++ v ∷ [];
        parts = longer;
        written_is = p.written_is;
        all_is = all;
        head = inr (u, more ++ v ∷ [], others, ap (λ (l : List FileVersion). l ++ v ∷ []) behind_is, above, first_is);
      }

  -- it is above
  module _ (above : is_above (all_of g) v.node ≡ true) where
    every : g.written ++ (g.gathered ++ leaf ∷ []) ≡ kept_all leaves (done ++ v ∷ [])
    every = sym (append_assoc g.written g.gathered (leaf ∷ [])) ∙ sym (next ∙ ap (λ (b : Bool). if b then all_of g ++ leaf ∷ [] else all_of g) above)

    filled : IsParted leaves (done ++ v ∷ []) (with_batch (with_gathered g leaf))
    filled = record {
      standing = done ++ v ∷ [];
      behind = [];
      parts = sym (append-nil (done ++ v ∷ []));
      written_is = every;
      all_is = append-nil (g.written ++ (g.gathered ++ leaf ∷ [])) ∙ every;
      head = inl (refl, refl);
    }

    gathers : ((p.behind ≡ []) × (g.gathered ≡ [])) ⊎ IsFirst g p.behind → IsParted leaves (done ++ v ∷ []) (with_gathered g leaf)
    gathers (inl (none, no_leaves)) = record {
      standing = p.standing;
      behind = p.behind ++ v ∷ [];
      parts = longer;
      written_is = p.written_is;
      all_is = every;
      head = inr (
        v,
        [],
        [],
        ap (λ (l : List FileVersion). l ++ v ∷ []) none,
        ap (λ (l : List Leaf). is_above l v.node) (sym (alone no_leaves)) ∙ above,
        ap (λ (l : List Leaf). l ++ leaf ∷ []) no_leaves ∙ ap (λ (l : List Leaf). next_of l v ∷ []) (alone no_leaves),
      );
    }
    gathers (inr (u, more, others, behind_is, over, first_is)) = record {
      standing = p.standing;
      behind = p.behind ++ v ∷ [];
      parts = longer;
      written_is = p.written_is;
      all_is = every;
      head = inr (u, more ++ v ∷ [], others ++ leaf ∷ [], ap (λ (l : List FileVersion). l ++ v ∷ []) behind_is, over, ap (λ (l : List Leaf). l ++ leaf ∷ []) first_is);
    }

    by_full : (b : Bool) → IsParted leaves (done ++ v ∷ []) (if b then with_batch (with_gathered g leaf) else with_gathered g leaf)
    by_full true = filled
    by_full false = gathers p.head

  by_above : (b : Bool) → is_above (all_of g) v.node ≡ b → IsParted leaves (done ++ v ∷ []) (if b then with_leaf g leaf else g)
  by_above true above = by_full above (nat_le batch_size (frames_size (g.gathered ++ leaf ∷ [])))
  by_above false below = passed below

  parted_more : IsParted leaves (done ++ v ∷ []) (with_version g v)
  parted_more = by_above (is_above (all_of g) v.node) refl

parted_on : (leaves : List Leaf) (done : List FileVersion) (g : Gathering) (versions : List FileVersion) → IsParted leaves done g → IsParted leaves (done ++ versions) (fold with_version g versions)
parted_on leaves done g [] p = subst (λ (l : List FileVersion). IsParted leaves l g) (sym (append-nil done)) p
parted_on leaves done g (v ∷ versions) p =
    subst (λ (l : List FileVersion). IsParted leaves l (fold with_version (with_version g v) versions)) (append_assoc done (v ∷ []) versions)
    (parted_on leaves (done ++ v ∷ []) (with_version g v) versions (parted_more leaves done g v p))

pub parted : (leaves : List Leaf) (versions : List FileVersion) → IsParted leaves versions (gathered_all leaves versions)
parted leaves versions =
    parted_on leaves [] (record { written = leaves; gathered = []; batches = 0 }) versions
    (record { standing = []; behind = []; parts = refl; written_is = refl; all_is = append-nil leaves; head = inl (refl, refl) })

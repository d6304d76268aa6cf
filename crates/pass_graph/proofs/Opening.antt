-- A session begins with the versions of its opening, and no entry is on an object of the opening that its start has not.
use Rattle.std.proofs.Common.{ℕ, ◌≡◌, ◌≤◌, ◌==◌, zero, suc, max, Bool, true, false, ◌||◌, inl, inr, refl, sym, ap, ◌∙◌, List, [], ◌∷◌, ◌++◌, length, take, map, arith, cond}
use Rattle.std.specs.Prelude.{Option, Some, fold, find, is_some, slice_get, if◌then◌else◌}
use Rattle.std.specs.Option.{option_map_or}
use Rattle.std.proofs.lemmas.List.{take_all}
use Rattle.pass_entry.specs.declared.entry.Entry.{Entry}
use Rattle.pass_entry.specs.declared.objects.Node.{Node}
use Rattle.pass_entry.specs.declared.objects.Kind.{Kind}
use Rattle.pass_entry.specs.declared.objects.Kind.TheVariants as kind
use Rattle.pass_entry.specs.declared.record.Record.{Record}
use Rattle.pass_plain.specs.declared.start.StartFile.{StartFile}
use Rattle.pass_plain.specs.Sessions.{Session, opened_file, opened_app, is_opened, opening_version}
use Rattle.pass_plain.specs.Registries.{opening_registry, Exists}
use Rattle.pass_plain.specs.Legal.{IsLegal}
use Rattle.pass_plain.specs.Versions.{nodes_of, version_after}
use Rattle.pass_plain.specs.WellLogged.{is_known, current_of}
use Rattle.pass_plain.proofs.Lists.{same_itself}
use Rattle.pass_plain.proofs.Calling.{legal_take}
use Rattle.pass_plain.proofs.Making.{making}
use Rattle.pass_plain.proofs.Objects.{object_law, origin_law}
use Rattle.pass_plain.proofs.Versioned.{length-nodes_of}
use Rattle.pass_plain.proofs.LastNodes.{begins_at}
use Rattle.pass_graph.specs.Openings.{Opens}
use Rattle.pass_graph.proofs.Stories.{mono}
use Rattle.pass_graph.proofs.Standing.{version_at}
use Rattle.pass_graph.proofs.Telling.{told, is_told}
use Rattle.pass_graph.proofs.Logging.{opened_by, current_low, are_numbered}

some_if : {X : Type 0} (b : Bool) (x : X) (o : Option X) (more : Bool) → (is_some o || more ≡ true) → is_some (cond b (Some x) o) || more ≡ true
some_if true x o more h = refl
some_if false x o more h = h

is_one : (a b : ℕ × Kind) → ◌≡◌ {A = Option (ℕ × Kind)} (Some a) (Some b) → a.0 ≡ b.0
is_one a b e = ap (λ (o : Option (ℕ × Kind)). option_map_or (λ (s : ℕ × Kind). s.0) o 0) e

-- an object of the opening's registry is found in the start
app_there : (apps : List Node) (i n : ℕ) (k : Kind) → slice_get {X = ℕ × Kind} (map (λ (m : Node). (m.pnode, kind.App)) apps) i ≡ Some (n, k) → is_some (find (λ (m : Node). m.pnode == n) apps) ≡ true
app_there [] i n k at = absurd (cc)
app_there (m ∷ apps) zero n k at =
    let same : m.pnode ≡ n = is_one (m.pnode, kind.App) (n, k) at in
    ap (λ b. is_some (cond b (Some m) (find (λ (m : Node). m.pnode == n) apps))) (ap (λ p. p == n) same ∙ same_itself n)
app_there (m ∷ apps) (suc i) n k at = alone (m.pnode == n) m (find (λ (m : Node). m.pnode == n) apps) (app_there apps i n k at)
  where
    alone : {X : Type 0} (b : Bool) (x : X) (o : Option X) → is_some o ≡ true → is_some (cond b (Some x) o) ≡ true
    alone true x o h = refl
    alone false x o h = h

there : (files : List StartFile) (apps : List Node) (i n : ℕ) (k : Kind)
    → slice_get {X = ℕ × Kind} (map (λ (f : StartFile). (f.node.pnode, kind.File)) files ++ map (λ (m : Node). (m.pnode, kind.App)) apps) i ≡ Some (n, k)
    → is_some (find (λ (f : StartFile). f.node.pnode == n) files) || is_some (find (λ (m : Node). m.pnode == n) apps) ≡ true
there [] apps i n k at = app_there apps i n k at
there (f ∷ files) apps zero n k at =
    let same : f.node.pnode ≡ n = is_one (f.node.pnode, kind.File) (n, k) at in
    ap (λ b. is_some (cond b (Some f) (find (λ (f : StartFile). f.node.pnode == n) files)) || is_some (find (λ (m : Node). m.pnode == n) apps)) (ap (λ p. p == n) same ∙ same_itself n)
there (f ∷ files) apps (suc i) n k at =
    some_if (f.node.pnode == n) f (find (λ (f : StartFile). f.node.pnode == n) files) (is_some (find (λ (m : Node). m.pnode == n) apps)) (there files apps i n k at)

opened_exists : (session : Session) (n : ℕ) (k : Kind) → Exists (opening_registry session.start) n k → is_opened session.start n ≡ true
opened_exists session n k (i, at) = there session.start.files.items session.start.apps.items i n k at

raised : (o a b : ℕ) → a ≤ b → (nodes : List Node) → fold (λ v (n : Node). if n.pnode == o then n.version else v) a nodes ≤ fold (λ v (n : Node). if n.pnode == o then n.version else v) b nodes
raised o a b le [] = le
raised o a b le (n ∷ nodes) = raised o (if n.pnode == o then n.version else a) (if n.pnode == o then n.version else b) (at_test (n.pnode == o)) nodes
  where
    at_test : (t : Bool) → (if t then n.version else a) ≤ (if t then n.version else b)
    at_test true = omega arith
    at_test false = le

module _ (before : List Record) (session : Session) (opens : Opens before session) where
  abbrev opened : ℕ → ℕ
  opened = opened_by before

  abbrev first : ℕ → ℕ
  first = λ o. max 1 (opened_by before o)

  begins : (o : ℕ) → (b : Bool) → is_opened session.start o ≡ b → opening_version session.start o ≤ max 1 (opened o)
  begins o true is =
      let (known, same) = opens.current o is in
      let z : opened o ≡ current_of before o = ap (λ b. if b then current_of before o else 0) known in
      omega (arith, same, z)
  begins o false is = let z : opening_version session.start o ≡ 1 = begins_at (opened_file session.start o) (opened_app session.start o) is in omega (arith, z)

  module _ (history : List Entry) (legal : IsLegal session history) where
    -- an entry on an object of the opening is on one of the start
    absent : (k : ℕ) (e : Entry) → slice_get history k ≡ Some e → is_opened session.start e.what ≡ false → is_known before e.what ≡ true → ⊥
    absent k e at none known =
        let past : List Entry = take k history in
        let legal_past : IsLegal session past = legal_take session history k legal in
        let ((kind_of_it, listed), below) = are_numbered before opens.logged e.what known in
        let some = opens.objects e.what kind_of_it listed in
        let high = opens.ceiling in
        let most : e.what ≤ session.start.ceiling = omega (arith, below, high) in
        elim (object_law session opens.sound past e legal_past (legal k e at)) [
          | inl registry ↦ let z = registry.1 in omega (arith, z, some)
          | inr object ↦ elim (origin_law session past e.what object.0 legal_past object.1) [
            | inl start ↦ let z : true ≡ false = sym (opened_exists session e.what object.0 start) ∙ none in cc
            | inr made ↦
                let i : ℕ = made.0 in
                let f : Entry = made.1 in
                let m = making session (take i past) f e.what (legal_take session past i legal_past) (legal_past i f made.2) made.3 in
                let next = m.is_next in
                omega (arith, most, next)
          ]
        ]

    unknown : (k : ℕ) (e : Entry) → slice_get history k ≡ Some e → is_opened session.start e.what ≡ false → is_known before e.what ≡ false
    unknown k e at none = by_known (is_known before e.what) refl
      where
        by_known : (b : Bool) → is_known before e.what ≡ b → is_known before e.what ≡ false
        by_known true is = absurd (absent k e at none is)
        by_known false is = is

    pub fits : (k : ℕ) (e : Entry) → slice_get history k ≡ Some e → max 1 (opened e.what) ≡ opening_version session.start e.what
    fits k e at = by_opened (is_opened session.start e.what) refl
      where
        by_opened : (b : Bool) → is_opened session.start e.what ≡ b → max 1 (opened_by before e.what) ≡ opening_version session.start e.what
        by_opened true is =
            let (known, same) = opens.current e.what is in
            let z : opened_by before e.what ≡ current_of before e.what = ap (λ b. if b then current_of before e.what else 0) known in
            let low = (current_low before opens.logged opens.sources e.what).0 in
            omega (arith, same, z, low)
        by_opened false is =
            let z : opening_version session.start e.what ≡ 1 = begins_at (opened_file session.start e.what) (opened_app session.start e.what) is in
            let y : opened_by before e.what ≡ 0 = ap (λ b. if b then current_of before e.what else 0) (unknown k e at is) in
            omega (arith, z, y)

    pub known_start : (k : ℕ) (e : Entry) → slice_get history k ≡ Some e → 1 ≤ opened e.what → is_opened session.start e.what ≡ true
    known_start k e at some = by_opened (is_opened session.start e.what) refl
      where
        by_opened : (b : Bool) → is_opened session.start e.what ≡ b → is_opened session.start e.what ≡ true
        by_opened true is = is
        by_opened false is = absurd (let y : opened_by before e.what ≡ 0 = ap (λ b. if b then current_of before e.what else 0) (unknown k e at is) in omega (arith, some, y))

    -- a version that an object has had is one of the story
    pub last_version : (o v : ℕ) → v ≤ max (current_of before o) (version_after session history o) → v ≤ version_at first session history o (length history)
    last_version o v le =
        let rise : version_at first session history o 0 ≤ version_at first session history o (length history) =
        mono (told first opened session history) (is_told session history legal first fits opened) o 0 (length history) (omega arith) (omega arith) in
        let old : current_of before o ≤ version_at first session history o 0 = at_known (is_known before o) refl in
        let long : take (length history) (nodes_of session history) ≡ nodes_of session history =
        take_all (length history) (nodes_of session history) (let z = length-nodes_of session history in omega (arith, z)) in
        let more : version_after session history o ≤ fold (λ v (n : Node). if n.pnode == o then n.version else v) (first o) (nodes_of session history) =
        raised o (opening_version session.start o) (first o) (begins o (is_opened session.start o) refl) (nodes_of session history) in
        let here : version_at first session history o (length history) ≡ fold (λ v (n : Node). if n.pnode == o then n.version else v) (first o) (nodes_of session history) =
        ap (fold (λ v (n : Node). if n.pnode == o then n.version else v) (first o)) long in
        omega (arith, le, rise, old, more, here)
      where
        at_known : (b : Bool) → is_known before o ≡ b → current_of before o ≤ max 1 (opened_by before o)
        at_known true is = let z : opened_by before o ≡ current_of before o = ap (λ b. if b then current_of before o else 0) is in omega (arith, z)
        at_known false is = let z = (current_low before opens.logged opens.sources o).1 is in omega (arith, z)

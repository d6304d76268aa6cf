-- Each place of a legal history: its object, its version, and its source.
use Rattle.std.proofs.Common.{◌≡◌, ◌<◌, ◌≤◌, ◌+◌, ℕ, zero, suc, List, [], ◌∷◌, ◌++◌, length, take, ap, sym, ◌∙◌, arith, true, false, ◌==◌}
use Rattle.std.specs.Prelude.{Option, Some, slice_get, fold, zip, drop, if◌then◌else◌}
use Rattle.std.specs.Option.{option_map_or}
use Rattle.std.proofs.lemmas.List.{take-append-le, take_all, take-append-drop, length-take-le}
use Rattle.std.proofs.lemmas.List.Sums.{fold-append}
use Rattle.std.proofs.lemmas.Option.{slice_get_within}
use Rattle.pass_entry.specs.declared.entry.Entry.{Entry}
use Rattle.pass_entry.specs.declared.objects.Node.{Node}
use Rattle.pass_entry.proofs.Places.{slice_get-take, take_one_more, slice_get-last}
use Rattle.pass_plain.specs.Sessions.{Session, opening_version}
use Rattle.pass_plain.specs.Versions.{version_in, nodes_of, node_at_entry, is_freeze}
use Rattle.pass_plain.proofs.Lists.{same_itself}
use Rattle.pass_plain.proofs.Versioned.{nodes_of-append, length-nodes_of}
use Rattle.pass_plain.proofs.LastNodes.{nodes_more}

pub zip_right : {X Y : Type 0} (xs : List X) (ys : List Y) (i : ℕ) (s : X × Y) → slice_get (zip xs ys) i ≡ Some s → slice_get ys i ≡ Some s.1
zip_right [] ys i s e = absurd (cc)
zip_right (x ∷ xs) [] i s e = absurd (cc)
zip_right {X = X} {Y = Y} (x ∷ xs) (y ∷ ys) zero s e = ap (λ (o : Option (X × Y)). option_map_or (λ (s : X × Y). Some s.1) o (Some y)) e
zip_right (x ∷ xs) (y ∷ ys) (suc i) s e = zip_right xs ys i s e

-- the version of an object after the first k entries, from its first one
abbrev pub version_at : (ℕ → ℕ) → Session → List Entry → ℕ → ℕ → ℕ
version_at first session history o k = fold (λ v (n : Node). if n.pnode == o then n.version else v) (first o) (take k (nodes_of session history))

module _ (session : Session) (history : List Entry) where
  pub nodes-take : (k : ℕ) → k ≤ length history → nodes_of session (take k history) ≡ take k (nodes_of session history)
  nodes-take k le =
      let past : List Entry = take k history in
      let all : (more : List Node) × (nodes_of session (past ++ drop k history) ≡ nodes_of session past ++ more) = nodes_more session past (drop k history) in
      let n : length (nodes_of session past) ≡ length past = length-nodes_of session past in
      let m : length past ≡ k = length-take-le k history le in
      sym (ap (λ h. take k (nodes_of session h)) (sym (take-append-drop k history)) ∙ ap (take k) all.1
      ∙ take-append-le k (nodes_of session past) all.0 (omega (arith, n, m))
      ∙ take_all k (nodes_of session past) (omega (arith, n, m)))

  -- the node that an entry makes by the entries before it
  abbrev pub now : ℕ → Entry → Node
  now k e = node_at_entry session (take k history) (nodes_of session (take k history)) e

  pub node_stands : (k : ℕ) (e : Entry) → slice_get history k ≡ Some e → slice_get (nodes_of session history) k ≡ Some (now k e)
  node_stands k e at =
      let within : k < length history = slice_get_within history k e at in
      let past : List Entry = take k history in
      let n : length (nodes_of session past) ≡ length past = length-nodes_of session past in
      let m : length past ≡ k = length-take-le k history (omega (arith, within)) in
      let whole : take (suc k) (nodes_of session history) ≡ nodes_of session past ++ now k e ∷ [] =
      sym (nodes-take (suc k) (omega (arith, within))) ∙ ap (λ h. nodes_of session h) (take_one_more history k e at) ∙ nodes_of-append session past e in
      let size : length (nodes_of session past) ≡ k = omega (arith, n, m) in
      slice_get-take (suc k) k (nodes_of session history) (now k e)
      (ap (λ ns. slice_get ns k) whole ∙ ap (λ i. slice_get (nodes_of session past ++ now k e ∷ []) i) (sym size) ∙ slice_get-last (nodes_of session past) (now k e))

  module _ (first : ℕ → ℕ) where
    pub version_step : (k o : ℕ) (e : Entry) → slice_get history k ≡ Some e
        → version_at first session history o (suc k) ≡ (if e.what == o then (now k e).version else version_at first session history o k)
    version_step k o e at =
        let change : ℕ → Node → ℕ = λ v n. if n.pnode == o then n.version else v in
        ap (fold change (first o)) (take_one_more (nodes_of session history) k (now k e) (node_stands k e at))
        ∙ fold-append change (first o) (take k (nodes_of session history)) (now k e ∷ [])

    pub version_same : (k o : ℕ) (e : Entry) → slice_get history k ≡ Some e → (e.what == o) ≡ false
        → version_at first session history o (suc k) ≡ version_at first session history o k
    version_same k o e at other = version_step k o e at ∙ ap (λ b. if b then (now k e).version else version_at first session history o k) other

    pub version_own : (k : ℕ) (e : Entry) → slice_get history k ≡ Some e → version_at first session history e.what (suc k) ≡ (now k e).version
    version_own k e at = version_step k e.what e at ∙ ap (λ b. if b then (now k e).version else version_at first session history e.what k) (same_itself e.what)

    -- where an object's first version is that of the session, so are the later ones
    pub version_past : (k o : ℕ) → k ≤ length history → first o ≡ opening_version session.start o
        → version_at first session history o k ≡ version_in session (nodes_of session (take k history)) o
    version_past k o le is =
        let change : ℕ → Node → ℕ = λ v n. if n.pnode == o then n.version else v in
        ap (λ v. fold change v (take k (nodes_of session history))) is ∙ ap (fold change (opening_version session.start o)) (sym (nodes-take k le))

    pub version_kept : (k : ℕ) (e : Entry) → slice_get history k ≡ Some e → first e.what ≡ opening_version session.start e.what
        → is_freeze session (take k history) (nodes_of session (take k history)) e ≡ false
        → version_at first session history e.what (suc k) ≡ version_at first session history e.what k
    version_kept k e at is kept =
        let within : k < length history = slice_get_within history k e at in
        let before : ℕ = version_in session (nodes_of session (take k history)) e.what in
        version_own k e at ∙ ap (λ b. if b then before + 1 else before) kept ∙ sym (version_past k e.what (omega (arith, within)) is)

    pub version_moved : (k : ℕ) (e : Entry) → slice_get history k ≡ Some e → first e.what ≡ opening_version session.start e.what
        → is_freeze session (take k history) (nodes_of session (take k history)) e ≡ true
        → version_at first session history e.what (suc k) ≡ suc (version_at first session history e.what k)
    version_moved k e at is moved =
        let within : k < length history = slice_get_within history k e at in
        let before : ℕ = version_in session (nodes_of session (take k history)) e.what in
        let a : version_at first session history e.what (suc k) ≡ before + 1 = version_own k e at ∙ ap (λ b. if b then before + 1 else before) moved in
        let b : version_at first session history e.what k ≡ before = version_past k e.what (omega (arith, within)) is in
        omega (arith, a, b)

-- A well logged list is an opening: its edges lead between its versions, no version is missing, and there is no cycle.
use Rattle.std.proofs.Common.{ℕ, ◌≡◌, ◌≢◌, ◌≤◌, ◌+◌, ◌==◌, suc, Bool, true, false, not, ◌||◌, ◌⊎◌, inl, inr, refl, sym, ap, ◌∙◌, subst, List, [], ◌∷◌, ◌++◌, arith, append_assoc}
use Rattle.std.specs.Prelude.{Some, None, is_some, nat_lt, nat_le, slice_get, Contains, if◌then◌else◌}
use Rattle.std.specs.List.{list_any}
use Rattle.std.proofs.lemmas.List.Sums.{fold-append}
use Rattle.std.proofs.lemmas.List.Elements.{Contains-push, Contains-push_cases, Contains-append_left}
use Rattle.std.proofs.lemmas.Bool.Decides.{nat_tests}
use Rattle.std.proofs.lemmas.Option.{slice_get-get_or}
use Rattle.std.proofs.lemmas.List.{append-nil}
use Rattle.pass_entry.specs.declared.objects.Node.{Node}
use Rattle.pass_entry.specs.declared.objects.Kind.{Kind}
use Rattle.pass_entry.specs.declared.record.Record.{Record}
use Rattle.pass_entry.specs.declared.record.Record.TheVariants as log
use Rattle.pass_entry.proofs.Variants.{no_first}
use Rattle.pass_entry.proofs.Places.{contains_none}
use Rattle.pass_plain.specs.Versions.{same_node}
use Rattle.pass_plain.specs.Graphs.{IsEdge, HasPath, IsAcyclic}
use Rattle.pass_plain.specs.Graphs.IsEdge.{input as by_input, version as by_version}
use Rattle.pass_plain.specs.Graphs.HasPath.{edge, step}
use Rattle.pass_plain.specs.WellLogged.{kind_look, kind_of, version_look, current_of, has_source, is_known, is_current, flaw_of, first_flaw_after, IsWellLogged, ceiling_look, ceiling_of}
use Rattle.pass_plain.proofs.Lists.{or_false, same_numbers, same_itself, any_of, not_false, not_below}
use Rattle.pass_plain.proofs.Flaws.{unflawed}
use Rattle.pass_graph.proofs.Falling.{Within, IsOpening}
use Rattle.pass_graph.proofs.Telling.{parts_same}

-- the last version of an object of a list, 0 where it is none of its objects
abbrev pub opened_by : List Record → ℕ → ℕ
opened_by list o = if is_known list o then current_of list o else 0

-- what the records so far make
record IsSteady (list : List Record) : Type 0 where
  low : (o : ℕ) → 1 ≤ current_of list o
  unknown : (o : ℕ) → is_known list o ≡ false → current_of list o ≡ 1
  ends : (a b : Node) → IsEdge list a b → Within (opened_by list) a × Within (opened_by list) b
  versions : (a b : Node) → a.pnode ≡ b.pnode → a.version ≡ suc b.version → 1 ≤ b.version → a.version ≤ opened_by list a.pnode → Contains list (log.Version a)
  acyclic : IsAcyclic list

last_edge : (list : List Record) {a b : Node} → HasPath list a b → (x : Node) × IsEdge list x b
last_edge list {a} (edge e) = (a, e)
last_edge list (step e p) = last_edge list p

pub no_edge : (a b : Node) → IsEdge [] a b → ⊥
no_edge a b (by_input h) = contains_none _ h
no_edge a b (by_version h same next) = contains_none _ h

none_steady : IsSteady []
none_steady = record {
  low = λ o. omega arith;
  unknown = λ o h. refl;
  ends = λ a b e. absurd (no_edge a b e);
  versions = λ a b same next one le. absurd (omega (arith, next, le));
  acyclic = λ a p. let (x, e) = last_edge [] p in no_edge x a e;
}

-- tests that find no flaw

module _ (list : List Record) (r : Record) where
  abbrev pub more : List Record
  more = list ++ r ∷ []

  pub kind_next : (o : ℕ) → kind_of more o ≡ kind_look o (kind_of list o) r
  kind_next o = fold-append (kind_look o) None list (r ∷ [])

  pub version_next : (o : ℕ) → current_of more o ≡ version_look o (current_of list o) r
  version_next o = fold-append (version_look o) 1 list (r ∷ [])

  old_edge : (a b : Node) → IsEdge list a b → IsEdge more a b
  old_edge a b (by_input h) = by_input (Contains-append_left list (r ∷ []) (log.Input a b) h)
  old_edge a b (by_version h same next) = by_version (Contains-append_left list (r ∷ []) (log.Version a) h) same next

  pub edge_cases : (a b : Node) → IsEdge more a b → IsEdge list a b ⊎ ((r ≡ log.Input a b) ⊎ ((r ≡ log.Version a) × (b.pnode ≡ a.pnode) × (b.version + 1 ≡ a.version)))
  edge_cases a b (by_input h) = elim (Contains-push_cases list r (log.Input a b) h) [ inl l ↦ inl (by_input l) | inr same ↦ inr (inl same) ]
  edge_cases a b (by_version h same next) = elim (Contains-push_cases list r (log.Version a) h) [ inl l ↦ inl (by_version l same next) | inr is ↦ inr (inr (is, same, next)) ]

  -- new edges that leave a node into which none leads make no cycle
  without : (t : Node) → ((a b : Node) → IsEdge more a b → IsEdge list a b ⊎ (a ≡ t)) → ((a b : Node) → IsEdge more a b → b ≡ t → ⊥) → {a b : Node} → HasPath more a b → (a ≡ t → ⊥) → HasPath list a b
  without t split into {a} {b} (edge e) other = elim (split a b e) [ inl l ↦ edge l | inr q ↦ absurd (other q) ]
  without t split into {a} (step {b = m} e p) other = elim (split a m e) [ inl l ↦ step l (without t split into p (into a m e)) | inr q ↦ absurd (other q) ]

  still_acyclic : (t : Node) → ((a b : Node) → IsEdge more a b → IsEdge list a b ⊎ (a ≡ t)) → ((a b : Node) → IsEdge more a b → b ≡ t → ⊥) → IsAcyclic list → IsAcyclic more
  still_acyclic t split into none a p =
      let (x, e) = last_edge more p in none a (without t split into p (into x a e))

  only_old : ((a b : Node) → IsEdge more a b → IsEdge list a b) → {a b : Node} → HasPath more a b → HasPath list a b
  only_old old {a} {b} (edge e) = edge (old a b e)
  only_old old {a} (step {b = m} e p) = step (old a m e) (only_old old p)

  wider : ((o : ℕ) → opened_by list o ≤ opened_by more o) → (a : Node) → Within (opened_by list) a → Within (opened_by more) a
  wider rises a w = let z = rises a.pnode in let y = w.1 in (w.0, omega (arith, z, y))

  -- a record that makes no edge, no version and no object
  quiet : IsSteady list → ((a b : Node) → IsEdge more a b → IsEdge list a b) → ((o : ℕ) → kind_of more o ≡ kind_of list o) → ((o : ℕ) → current_of more o ≡ current_of list o) → IsSteady more
  quiet s old kinds currents =
      let same : (o : ℕ) → opened_by more o ≡ opened_by list o = λ o. ap (λ k. if is_some k then current_of more o else 0) (kinds o) ∙ ap (λ v. if is_known list o then v else 0) (currents o) in
      record {
        low = λ o. let z = s.low o in let y = currents o in omega (arith, z, y);
        unknown = λ o none. currents o ∙ s.unknown o (ap is_some (sym (kinds o)) ∙ none);
        ends = λ a b e. let w = s.ends a b (old a b e) in (wider (λ o. let z = same o in omega (arith, z)) a w.0, wider (λ o. let z = same o in omega (arith, z)) b w.1);
        versions = λ a b p next one le. Contains-append_left list (r ∷ []) (log.Version a) (s.versions a b p next one (let z = same a.pnode in omega (arith, le, z)));
        acyclic = λ a p. s.acyclic a (only_old old p);
      }

known_opened : (list : List Record) (o : ℕ) → is_known list o ≡ true → opened_by list o ≡ current_of list o
known_opened list o known = ap (λ b. if b then current_of list o else 0) known

-- a known object is within its current version
opened_most : (list : List Record) (o : ℕ) → opened_by list o ≤ current_of list o
opened_most list o = at_test (is_known list o)
  where
    at_test : (b : Bool) → (if b then current_of list o else 0) ≤ current_of list o
    at_test true = omega arith
    at_test false = omega arith

object_step : (list : List Record) (pnode : ℕ) (k : Kind) → IsSteady list → is_known list pnode ≡ false → IsSteady (list ++ log.Object pnode k ∷ [])
object_step list pnode k s new =
    let r : Record = log.Object pnode k in
    let old : (a b : Node) → IsEdge (list ++ r ∷ []) a b → IsEdge list a b = λ a b e. elim (edge_cases list r a b e) [
      | inl l ↦ l
      | inr q ↦ elim q [ inl z ↦ absurd (cc) | inr z ↦ absurd (let y = z.0 in cc) ]
    ] in
    let apart : (o : ℕ) → (pnode == o) ≡ false → opened_by (list ++ r ∷ []) o ≡ opened_by list o = λ o other.
    ap (λ x. if is_some x then current_of (list ++ r ∷ []) o else 0) (kind_next list r o ∙ ap (λ b. if b then Some k else kind_of list o) other)
    ∙ ap (λ v. if is_known list o then v else 0) (version_next list r o) in
    let here : (o : ℕ) → (pnode == o) ≡ true → (opened_by list o ≡ 0) × (opened_by (list ++ r ∷ []) o ≡ 1) = λ o same.
    let is : is_known list o ≡ false = ap (is_known list) (sym (same_numbers pnode o same)) ∙ new in (
      ap (λ b. if b then current_of list o else 0) is,
      ap (λ x. if is_some x then current_of (list ++ r ∷ []) o else 0) (kind_next list r o ∙ ap (λ b. if b then Some k else kind_of list o) same)
          ∙ version_next list r o ∙ s.unknown o is,
    ) in
    let rises : (o : ℕ) → opened_by list o ≤ opened_by (list ++ r ∷ []) o = λ o. at_object o (pnode == o) refl apart here in
    record {
      low = λ o. let z = s.low o in let y = version_next list r o in omega (arith, z, y);
      unknown = λ o none. version_next list r o ∙ s.unknown o (not_known o none (pnode == o) refl);
      ends = λ a b e. let w = s.ends a b (old a b e) in (wider list r rises a w.0, wider list r rises b w.1);
      versions = λ a b p next one le. Contains-append_left list (r ∷ []) (log.Version a) (s.versions a b p next one (no_more a b next one le (pnode == a.pnode) refl apart here));
      acyclic = λ a p. s.acyclic a (only_old list r old p);
    }
  where
    after : List Record
    after = list ++ log.Object pnode k ∷ []

    at_object : (o : ℕ) (b : Bool) → (pnode == o) ≡ b → ((o : ℕ) → (pnode == o) ≡ false → opened_by after o ≡ opened_by list o) → ((o : ℕ) → (pnode == o) ≡ true → (opened_by list o ≡ 0) × (opened_by after o ≡ 1)) → opened_by list o ≤ opened_by after o
    at_object o true same apart here = let (z, y) = here o same in omega (arith, z, y)
    at_object o false other apart here = let z = apart o other in omega (arith, z)

    no_more : (a b : Node) → a.version ≡ suc b.version → 1 ≤ b.version → a.version ≤ opened_by after a.pnode → (t : Bool) → (pnode == a.pnode) ≡ t
        → ((o : ℕ) → (pnode == o) ≡ false → opened_by after o ≡ opened_by list o) → ((o : ℕ) → (pnode == o) ≡ true → (opened_by list o ≡ 0) × (opened_by after o ≡ 1)) → a.version ≤ opened_by list a.pnode
    no_more a b next one le true same apart here = absurd (let (z, y) = here a.pnode same in omega (arith, next, one, le, y))
    no_more a b next one le false other apart here = let z = apart a.pnode other in omega (arith, le, z)

    not_known : (o : ℕ) → is_known after o ≡ false → (b : Bool) → (pnode == o) ≡ b → is_known list o ≡ false
    not_known o none true same = absurd (let z : true ≡ false = sym (ap is_some (kind_next list (log.Object pnode k) o ∙ ap (λ b. if b then Some k else kind_of list o) same)) ∙ none in cc)
    not_known o none false other = sym (ap is_some (kind_next list (log.Object pnode k) o ∙ ap (λ b. if b then Some k else kind_of list o) other)) ∙ none

pub input_parts : (t s a b : Node) → log.Input t s ≡ log.Input a b → (t ≡ a) × (s ≡ b)
input_parts t s a b e = (cc, cc)

input_step : (list : List Record) (target source : Node) → IsSteady list → 1 ≤ source.version → flaw_of list (log.Input target source) ≡ None → IsSteady (list ++ log.Input target source ∷ [])
input_step list target source s one fine =
    let (a, fine_a) = unflawed (not (is_known list target.pnode)) _ _ fine in
    let (b, fine_b) = unflawed (not (is_known list source.pnode) || nat_lt (current_of list source.pnode) source.version) _ _ fine_a in
    let (c, fine_c) = unflawed (not (is_current list target)) _ _ fine_b in
    let (d, fine_d) = unflawed (list_any (has_source target) list || same_node target source) _ _ fine_c in
    let (b_known, b_low) = or_false (not (is_known list source.pnode)) _ b in
    let (no_source, not_itself) = or_false (list_any (has_source target) list) _ d in
    let target_known : opened_by list target.pnode ≡ current_of list target.pnode = known_opened list target.pnode (not_false _ a) in
    let source_known : opened_by list source.pnode ≡ current_of list source.pnode = known_opened list source.pnode (not_false _ b_known) in
    let source_low : source.version ≤ current_of list source.pnode = not_below (current_of list source.pnode) source.version b_low in
    let current : target.version ≡ current_of list target.pnode = same_numbers _ _ (not_false _ c) in
    by_tests target_known source_known source_low current no_source not_itself
  where
    r : Record
    r = log.Input target source

    after : List Record
    after = list ++ log.Input target source ∷ []

    same : (o : ℕ) → opened_by after o ≡ opened_by list o
    same o = ap (λ k. if is_some k then current_of after o else 0) (kind_next list r o) ∙ ap (λ v. if is_known list o then v else 0) (version_next list r o)

    keep : (a : Node) → Within (opened_by list) a → Within (opened_by after) a
    keep a w = wider list r (λ o. let z = same o in omega (arith, z)) a w

    by_tests : opened_by list target.pnode ≡ current_of list target.pnode → opened_by list source.pnode ≡ current_of list source.pnode → source.version ≤ current_of list source.pnode
        → target.version ≡ current_of list target.pnode → list_any (has_source target) list ≡ false → same_node target source ≡ false → IsSteady after
    by_tests target_known source_known source_low current no_source not_itself =
        let target_in : Within (opened_by list) target = (let z = s.low target.pnode in omega (arith, z, current), omega (arith, current, target_known)) in
        let source_in : Within (opened_by list) source = (one, omega (arith, source_low, source_known)) in
        record {
          low = λ o. let z = s.low o in let y = version_next list r o in omega (arith, z, y);
          unknown = λ o none. version_next list r o ∙ s.unknown o (sym (ap is_some (kind_next list r o)) ∙ none);
          ends = λ a b e. elim (edge_cases list r a b e) [
            | inl l ↦ let w = s.ends a b l in (keep a w.0, keep b w.1)
            | inr q ↦ elim q [
              | inl is ↦
                  let (p, u) = input_parts target source a b is in
                  (subst (Within (opened_by after)) p (keep target target_in), subst (Within (opened_by after)) u (keep source source_in))
              | inr z ↦ absurd (let y = z.0 in cc)
            ]
          ];
          versions = λ a b p next one le. Contains-append_left list (r ∷ []) (log.Version a) (s.versions a b p next one (let z = same a.pnode in omega (arith, le, z)));
          acyclic = still_acyclic list r target
              (λ a b e. elim (edge_cases list r a b e) [
                | inl l ↦ inl l
                | inr q ↦ elim q [ inl is ↦ inr (sym (input_parts target source a b is).0) | inr z ↦ absurd (let y = z.0 in cc) ]
              ])
              (λ a b e into. elim (edge_cases list r a b e) [
                | inl l ↦ old_into a b into l
                | inr q ↦ elim q [
                  | inl is ↦ let (p, u) = input_parts target source a b is in let z : true ≡ false = sym (same_itself_node target) ∙ ap (same_node target) (sym (u ∙ into)) ∙ not_itself in cc
                  | inr z ↦ let y = z.0 in cc
                ]
              ])
              s.acyclic;
        }
      where
        same_itself_node : (n : Node) → same_node n n ≡ true
        same_itself_node n = parts_same n n refl refl

        old_into : (a b : Node) → b ≡ target → IsEdge list a b → ⊥
        old_into a b into (by_input h) =
            let at : slice_get list h.0 ≡ Some (log.Input a b) = let z = h.1 in slice_get-get_or list h.0 (log.Input a b) z ∙ ap (λ x. Some x) h.2 in
            let z : true ≡ false = sym (any_of (has_source target) list h.0 (log.Input a b) at (parts_same b target (ap (λ (n : Node). n.pnode) into) (ap (λ (n : Node). n.version) into))) ∙ no_source in cc
        old_into a b into (by_version h p next) =
            let w = (s.ends a b (by_version h p next)).0.1 in
            let most = opened_most list a.pnode in
            let same_object : current_of list a.pnode ≡ current_of list target.pnode = ap (current_of list) (sym p ∙ ap (λ (n : Node). n.pnode) into) in
            let same_level : b.version ≡ target.version = ap (λ (n : Node). n.version) into in
            omega (arith, w, most, same_object, same_level, next, current)

version_step : (list : List Record) (n : Node) → IsSteady list → flaw_of list (log.Version n) ≡ None → IsSteady (list ++ log.Version n ∷ [])
version_step list n s fine =
    let (a, fine_a) = unflawed (not (is_known list n.pnode)) _ _ fine in
    let (b, fine_b) = unflawed (not (n.version == current_of list n.pnode + 1)) _ _ fine_a in
    by_tests (not_false _ a) (same_numbers _ _ (not_false _ b))
  where
    r : Record
    r = log.Version n

    after : List Record
    after = list ++ log.Version n ∷ []

    by_tests : is_known list n.pnode ≡ true → n.version ≡ current_of list n.pnode + 1 → IsSteady after
    by_tests known next_one =
        let old_level : opened_by list n.pnode ≡ current_of list n.pnode = known_opened list n.pnode known in
        let known_after : (o : ℕ) → is_known after o ≡ is_known list o = λ o. ap is_some (kind_next list r o) in
        let apart : (o : ℕ) → (n.pnode == o) ≡ false → (current_of after o ≡ current_of list o) × (opened_by after o ≡ opened_by list o) = λ o other.
        let v : current_of after o ≡ current_of list o = version_next list r o ∙ ap (λ b. if b then n.version else current_of list o) other in
        (v, ap (λ b. if b then current_of after o else 0) (known_after o) ∙ ap (λ v. if is_known list o then v else 0) v) in
        let here : (o : ℕ) → (n.pnode == o) ≡ true → (current_of after o ≡ n.version) × (opened_by after o ≡ n.version) × (opened_by list o ≡ current_of list o) × (n.version ≡ current_of list o + 1) × (is_known list o ≡ true) = λ o same.
        let q : n.pnode ≡ o = same_numbers n.pnode o same in
        let v : current_of after o ≡ n.version = version_next list r o ∙ ap (λ b. if b then n.version else current_of list o) same in
        let is : is_known list o ≡ true = ap (is_known list) (sym q) ∙ known in
        (v, known_opened after o (known_after o ∙ is) ∙ v, known_opened list o is, next_one ∙ ap (λ o. current_of list o + 1) q, is) in
        let rises : (o : ℕ) → opened_by list o ≤ opened_by after o = λ o. rise o (n.pnode == o) refl apart here in
        record {
          low = λ o. least o (n.pnode == o) refl apart here;
          unknown = λ o none. still o (sym (known_after o) ∙ none) (n.pnode == o) refl apart here;
          ends = λ a b e. elim (edge_cases list r a b e) [
            | inl l ↦ let w = s.ends a b l in (wider list r rises a w.0, wider list r rises b w.1)
            | inr q ↦ elim q [
              | inl z ↦ absurd (cc)
              | inr z ↦
                  let same : n ≡ a = version_is n a z.0 in
                  let (v, w, x, y, k) = here n.pnode (same_itself n.pnode) in
                  let high : n.version ≡ a.version = ap (λ (m : Node). m.version) same in
                  let level : opened_by after a.pnode ≡ n.version = ap (opened_by after) (ap (λ (m : Node). m.pnode) (sym same)) ∙ w in
                  let level_b : opened_by after b.pnode ≡ n.version = ap (opened_by after) z.1 ∙ level in
                  let low = s.low n.pnode in
                  let before = z.2 in
                  ((omega (arith, y, high), omega (arith, high, level)), (omega (arith, before, high, y, low), omega (arith, before, high, level_b)))
            ]
          ];
          versions = λ a b p next one le. listed a b p next one le (n.pnode == a.pnode) refl apart here;
          acyclic = still_acyclic list r n
              (λ a b e. elim (edge_cases list r a b e) [
                | inl l ↦ inl l
                | inr q ↦ elim q [ inl z ↦ absurd (cc) | inr z ↦ inr (sym (version_is n a z.0)) ]
              ])
              (λ a b e into. elim (edge_cases list r a b e) [
                | inl l ↦
                    let w = (s.ends a b l).1.1 in
                    let level : opened_by list b.pnode ≡ opened_by list n.pnode = ap (opened_by list) (ap (λ (m : Node). m.pnode) into) in
                    let high : b.version ≡ n.version = ap (λ (m : Node). m.version) into in
                    omega (arith, w, level, high, old_level, next_one)
                | inr q ↦ elim q [
                  | inl z ↦ cc
                  | inr z ↦
                      let same : n.version ≡ a.version = ap (λ (m : Node). m.version) (version_is n a z.0) in
                      let high : b.version ≡ n.version = ap (λ (m : Node). m.version) into in
                      let before = z.2 in
                      omega (arith, same, high, before)
                ]
              ])
              s.acyclic;
        }
      where
        Apart : Type 0
        Apart = (o : ℕ) → (n.pnode == o) ≡ false → (current_of after o ≡ current_of list o) × (opened_by after o ≡ opened_by list o)

        Here : Type 0
        Here = (o : ℕ) → (n.pnode == o) ≡ true → (current_of after o ≡ n.version) × (opened_by after o ≡ n.version) × (opened_by list o ≡ current_of list o) × (n.version ≡ current_of list o + 1) × (is_known list o ≡ true)

        version_is : (a b : Node) → log.Version a ≡ log.Version b → a ≡ b
        version_is a b e = cc

        rise : (o : ℕ) (b : Bool) → (n.pnode == o) ≡ b → Apart → Here → opened_by list o ≤ opened_by after o
        rise o true same apart here = let (v, w, x, y, k) = here o same in omega (arith, w, x, y)
        rise o false other apart here = let (v, w) = apart o other in omega (arith, w)

        least : (o : ℕ) (b : Bool) → (n.pnode == o) ≡ b → Apart → Here → 1 ≤ current_of after o
        least o true same apart here = let (v, w, x, y, k) = here o same in omega (arith, v, y)
        least o false other apart here = let (v, w) = apart o other in let z = s.low o in omega (arith, v, z)

        still : (o : ℕ) → is_known list o ≡ false → (b : Bool) → (n.pnode == o) ≡ b → Apart → Here → current_of after o ≡ 1
        still o none true same apart here = absurd (let (v, w, x, y, k) = here o same in let z : true ≡ false = sym k ∙ none in cc)
        still o none false other apart here = (apart o other).0 ∙ s.unknown o none

        listed : (a b : Node) → a.pnode ≡ b.pnode → a.version ≡ suc b.version → 1 ≤ b.version → a.version ≤ opened_by after a.pnode → (t : Bool) → (n.pnode == a.pnode) ≡ t → Apart → Here → Contains after (log.Version a)
        listed a b p next one le false other apart here =
            let (v, w) = apart a.pnode other in
            Contains-append_left list (r ∷ []) (log.Version a) (s.versions a b p next one (omega (arith, le, w)))
        listed a b p next one le true same apart here =
            let (v, w, x, y, k) = here a.pnode same in
            at_version (n.version == a.version) refl
          where
            at_version : (t : Bool) → (n.version == a.version) ≡ t → Contains after (log.Version a)
            at_version true level =
                let object : n.pnode ≡ a.pnode = same_numbers _ _ same in
                let high : n.version ≡ a.version = same_numbers _ _ level in
                let is : n ≡ a = λ i. record { pnode = object i; version = high i } in
                subst (λ m. Contains after (log.Version m)) is (Contains-push list (log.Version n))
            at_version false level =
                let (v, w, x, y, k) = here a.pnode same in
                let apart_level : n.version ≢ a.version = λ q. (let z : true ≡ false = sym (same_itself n.version) ∙ ap (λ m. n.version == m) q ∙ level in cc) in
                Contains-append_left list (r ∷ []) (log.Version a) (s.versions a b p next one (omega (arith, le, w, x, y, apart_level)))

-- each record that has no flaw keeps the list steady
next_steady : (list : List Record) (r : Record) → IsSteady list → ((target source : Node) → r ≡ log.Input target source → 1 ≤ source.version) → flaw_of list r ≡ None → IsSteady (list ++ r ∷ [])
next_steady list (log.Object pnode k) s sources fine = object_step list pnode k s (unflawed (is_known list pnode) _ _ fine).0
next_steady list (log.Input target source) s sources fine = input_step list target source s (sources target source refl) fine
next_steady list (log.Version n) s sources fine = version_step list n s fine
next_steady list (log.Name pnode name) s sources fine =
    quiet list (log.Name pnode name) s (λ a b e. elim (edge_cases list (log.Name pnode name) a b e) [ inl l ↦ l | inr q ↦ elim q [ inl z ↦ absurd (cc) | inr z ↦ absurd (let y = z.0 in cc) ] ])
    (kind_next list (log.Name pnode name)) (version_next list (log.Name pnode name))
next_steady list (log.Attr node attr value) s sources fine =
    quiet list (log.Attr node attr value) s (λ a b e. elim (edge_cases list (log.Attr node attr value) a b e) [ inl l ↦ l | inr q ↦ elim q [ inl z ↦ absurd (cc) | inr z ↦ absurd (let y = z.0 in cc) ] ])
    (kind_next list (log.Attr node attr value)) (version_next list (log.Attr node attr value))
next_steady list (log.Size pnode size) s sources fine =
    quiet list (log.Size pnode size) s (λ a b e. elim (edge_cases list (log.Size pnode size) a b e) [ inl l ↦ l | inr q ↦ elim q [ inl z ↦ absurd (cc) | inr z ↦ absurd (let y = z.0 in cc) ] ])
    (kind_next list (log.Size pnode size)) (version_next list (log.Size pnode size))
next_steady list (log.Digest pnode block sum) s sources fine =
    quiet list (log.Digest pnode block sum) s (λ a b e. elim (edge_cases list (log.Digest pnode block sum) a b e) [ inl l ↦ l | inr q ↦ elim q [ inl z ↦ absurd (cc) | inr z ↦ absurd (let y = z.0 in cc) ] ])
    (kind_next list (log.Digest pnode block sum)) (version_next list (log.Digest pnode block sum))
next_steady list (log.Ceiling pnode) s sources fine =
    quiet list (log.Ceiling pnode) s (λ a b e. elim (edge_cases list (log.Ceiling pnode) a b e) [ inl l ↦ l | inr q ↦ elim q [ inl z ↦ absurd (cc) | inr z ↦ absurd (let y = z.0 in cc) ] ])
    (kind_next list (log.Ceiling pnode)) (version_next list (log.Ceiling pnode))

steady_from : (list rest : List Record) → IsSteady list → ((target source : Node) → Contains (list ++ rest) (log.Input target source) → 1 ≤ source.version) → first_flaw_after list rest ≡ None → IsSteady (list ++ rest)
steady_from list [] s sources fine = subst IsSteady (sym (append-nil list)) s
steady_from list (r ∷ rest) s sources fine =
    let (here, later) = no_first _ (flaw_of list r) (first_flaw_after (list ++ r ∷ []) rest) fine in
    let whole : (list ++ r ∷ []) ++ rest ≡ list ++ r ∷ rest = append_assoc list (r ∷ []) rest in
    subst IsSteady whole (steady_from (list ++ r ∷ []) rest
    (next_steady list r s (λ target source is. sources target source (subst (λ xs. Contains xs (log.Input target source)) whole (Contains-append_left (list ++ r ∷ []) rest (log.Input target source) (subst (λ x. Contains (list ++ r ∷ []) x) is (Contains-push list r))))) here)
    (λ target source h. sources target source (subst (λ xs. Contains xs (log.Input target source)) whole h)) later)

steady : (list : List Record) → IsWellLogged list → ((target source : Node) → Contains list (log.Input target source) → 1 ≤ source.version) → IsSteady list
steady list logged sources = steady_from [] list none_steady sources logged

pub is_opening : (list : List Record) → IsWellLogged list → ((target source : Node) → Contains list (log.Input target source) → 1 ≤ source.version) → IsOpening (opened_by list) list
is_opening list logged sources =
    let s = steady list logged sources in
    record {
      ends = s.ends;
      versions = λ a b p next one le. by_version (s.versions a b p next one le) (sym p) (omega (arith, next));
      acyclic = s.acyclic;
    }

pub current_low : (list : List Record) → IsWellLogged list → ((target source : Node) → Contains list (log.Input target source) → 1 ≤ source.version) → (o : ℕ) → (1 ≤ current_of list o) × (is_known list o ≡ false → current_of list o ≡ 1)
current_low list logged sources o = let s = steady list logged sources in (s.low o, s.unknown o)

-- the objects of a list so far have an Object each, and their numbers are at most its ceiling
abbrev AreNumbered : List Record → Type 0
AreNumbered list = (o : ℕ) → is_known list o ≡ true → ((k : Kind) × Contains list (log.Object o k)) × (o ≤ ceiling_of list)

module _ (list : List Record) (r : Record) where
  ceiling_next : ceiling_of (list ++ r ∷ []) ≡ ceiling_look (ceiling_of list) r
  ceiling_next = fold-append ceiling_look 0 list (r ∷ [])

  as_before : AreNumbered list → ((o : ℕ) → kind_look o (kind_of list o) r ≡ kind_of list o) → ceiling_of list ≤ ceiling_look (ceiling_of list) r → AreNumbered (list ++ r ∷ [])
  as_before numbered same rises o known =
      let ((k, at), low) = numbered o (ap is_some (sym (kind_next list r o ∙ same o)) ∙ known) in
      let next = ceiling_next in
      ((k, Contains-append_left list (r ∷ []) (log.Object o k) at), omega (arith, low, rises, next))

object_numbered : (list : List Record) (pnode : ℕ) (k : Kind) → AreNumbered list → flaw_of list (log.Object pnode k) ≡ None → (o : ℕ) → is_known (list ++ log.Object pnode k ∷ []) o ≡ true
    → (b : Bool) → (pnode == o) ≡ b → ((j : Kind) × Contains (list ++ log.Object pnode k ∷ []) (log.Object o j)) × (o ≤ ceiling_of (list ++ log.Object pnode k ∷ []))
object_numbered list pnode k numbered fine o known true t =
    let same : pnode ≡ o = same_numbers pnode o t in
    let (new, rest) = unflawed (is_known list pnode) _ _ fine in
    let low : pnode ≤ ceiling_of list = not_below (ceiling_of list) pnode (unflawed (nat_lt (ceiling_of list) pnode) _ _ rest).0 in
    let next = ceiling_next list (log.Object pnode k) in
    ((k, subst (λ n. Contains (list ++ log.Object pnode k ∷ []) (log.Object n k)) same (Contains-push list (log.Object pnode k))), omega (arith, low, same, next))
object_numbered list pnode k numbered fine o known false t =
    let ((j, at), low) = numbered o (sym (ap is_some (kind_next list (log.Object pnode k) o ∙ ap (λ b. if b then Some k else kind_of list o) t)) ∙ known) in
    let next = ceiling_next list (log.Object pnode k) in
    ((j, Contains-append_left list (log.Object pnode k ∷ []) (log.Object o j) at), omega (arith, low, next))

next_numbered : (list : List Record) (r : Record) → AreNumbered list → flaw_of list r ≡ None → AreNumbered (list ++ r ∷ [])
next_numbered list (log.Object pnode k) numbered fine = λ o known. object_numbered list pnode k numbered fine o known (pnode == o) refl
next_numbered list (log.Ceiling pnode) numbered fine =
    let (low, high) = or_false (nat_le pnode (ceiling_of list)) (nat_lt (ceiling_of list + 8192) pnode) (unflawed _ _ _ fine).0 in
    as_before list (log.Ceiling pnode) numbered (λ o. refl) (above pnode (ceiling_of list) low)
  where
    above : (a b : ℕ) → nat_le a b ≡ false → b ≤ a
    above a b h = grind (arith, nat_tests)
next_numbered list (log.Input target source) numbered fine = as_before list (log.Input target source) numbered (λ o. refl) (omega arith)
next_numbered list (log.Version n) numbered fine = as_before list (log.Version n) numbered (λ o. refl) (omega arith)
next_numbered list (log.Name pnode name) numbered fine = as_before list (log.Name pnode name) numbered (λ o. refl) (omega arith)
next_numbered list (log.Attr node attr value) numbered fine = as_before list (log.Attr node attr value) numbered (λ o. refl) (omega arith)
next_numbered list (log.Size pnode size) numbered fine = as_before list (log.Size pnode size) numbered (λ o. refl) (omega arith)
next_numbered list (log.Digest pnode block sum) numbered fine = as_before list (log.Digest pnode block sum) numbered (λ o. refl) (omega arith)

numbered_from : (list rest : List Record) → AreNumbered list → first_flaw_after list rest ≡ None → AreNumbered (list ++ rest)
numbered_from list [] numbered fine = subst AreNumbered (sym (append-nil list)) numbered
numbered_from list (r ∷ rest) numbered fine =
    let (here, later) = no_first _ (flaw_of list r) (first_flaw_after (list ++ r ∷ []) rest) fine in
    subst AreNumbered (append_assoc list (r ∷ []) rest) (numbered_from (list ++ r ∷ []) rest (next_numbered list r numbered here) later)

pub are_numbered : (list : List Record) → IsWellLogged list → (o : ℕ) → is_known list o ≡ true → ((k : Kind) × Contains list (log.Object o k)) × (o ≤ ceiling_of list)
are_numbered list logged = numbered_from [] list (λ o known. absurd (cc)) logged

-- No edge leads to a version at a place where an edge from it is made: versions that were used take no new source.
use Rattle.std.proofs.Common.{◌≡◌, ◌≤◌, true, false, not, ◌||◌, ◌⊎◌, inl, inr, sym, ap, ◌∙◌, subst, List, [], ◌∷◌, ◌++◌, arith}
use Rattle.std.specs.Prelude.{None, nat_lt, if◌then◌else◌}
use Rattle.std.specs.List.{list_any}
use Rattle.pass_entry.specs.declared.objects.Node.{Node}
use Rattle.pass_entry.specs.declared.record.Record.{Record}
use Rattle.pass_entry.specs.declared.record.Record.TheVariants as log
use Rattle.pass_entry.specs.declared.record.FlawReason.TheVariants as flaw
use Rattle.pass_entry.proofs.Places.{Contains-place}
use Rattle.pass_plain.specs.Graphs.{IsEdge}
use Rattle.pass_plain.specs.Graphs.IsEdge.{input as by_input, version as by_version}
use Rattle.pass_plain.specs.Versions.{same_node}
use Rattle.pass_plain.specs.WellLogged.{current_of, has_source, is_known, is_current, flaw_of, IsWellLogged}
use Rattle.pass_plain.proofs.Lists.{any_of, not_below, not_false, or_false, same_itself, same_numbers}
use Rattle.pass_plain.proofs.Flaws.{unflawed}
use Rattle.pass_plain.proofs.Lineages.{same_node-self}
use Rattle.pass_graph.proofs.Logging.{edge_cases, input_parts, no_edge, version_next}
use Rattle.pass_graph.proofs.Ranking.{good_version, logged_induction, rises}

-- the ends of edges have come
pub record HaveCome (list : List Record) : Type 0 where
  pub targets : (a b : Node) → IsEdge list a b → a.version ≤ current_of list a.pnode
  pub sources : (a b : Node) → IsEdge list a b → b.version ≤ current_of list b.pnode

none_come : HaveCome []
none_come = record {
  targets = λ a b e. absurd (no_edge a b e);
  sources = λ a b e. absurd (no_edge a b e);
}

version_inside : (a b : Node) → log.Version a ≡ log.Version b → a ≡ b
version_inside a b same = cc

-- what a flawless edge has
record IsGood (list : List Record) (t n : Node) : Type 0 where
  come : n.version ≤ current_of list n.pnode
  current : t.version ≡ current_of list t.pnode
  unnamed : list_any (has_source t) list ≡ false
  other : same_node t n ≡ false

good : (list : List Record) (t n : Node) → flaw_of list (log.Input t n) ≡ None → IsGood list t n
good list t n fine =
    let (known, rest) = unflawed (not (is_known list t.pnode)) flaw.Unknown _ fine in
    let (there, rest2) = unflawed (not (is_known list n.pnode) || nat_lt (current_of list n.pnode) n.version) flaw.Unknown _ rest in
    let (version, rest3) = unflawed (not (is_current list t)) flaw.Version _ rest2 in
    let (fresh, repeat) = unflawed (list_any (has_source t) list || same_node t n) flaw.Source _ rest3 in
    let (unnamed, other) = or_false (list_any (has_source t) list) (same_node t n) fresh in
    record {
      come = not_below (current_of list n.pnode) n.version (or_false (not (is_known list n.pnode)) (nat_lt (current_of list n.pnode) n.version) there).1;
      current = same_numbers t.version (current_of list t.pnode) (not_false (is_current list t) version);
      unnamed = unnamed;
      other = other;
    }

module _ (list : List Record) (r : Record) (have : HaveCome list) (fine : flaw_of list r ≡ None) where
  -- a new version is the current one
  begun : (a : Node) → r ≡ log.Version a → current_of (list ++ r ∷ []) a.pnode ≡ a.version
  begun a is = ap (λ x. current_of (list ++ x ∷ []) a.pnode) is ∙ version_next list (log.Version a) a.pnode ∙ ap (λ b. if b then a.version else current_of list a.pnode) (same_itself a.pnode)

  next_come : HaveCome (list ++ r ∷ [])
  next_come = record {
    targets = λ a b e. elim (edge_cases list r a b e) [
      | inl old ↦ let z = have.targets a b old in let y = rises list r fine a.pnode in omega (arith, z, y)
      | inr (inl is) ↦ let g = good list a b (subst (λ x. flaw_of list x ≡ None) is fine) in let z = g.current in let y = rises list r fine a.pnode in omega (arith, z, y)
      | inr (inr is) ↦ let z = begun a is.0 in omega (arith, z)
    ];
    sources = λ a b e. elim (edge_cases list r a b e) [
      | inl old ↦ let z = have.sources a b old in let y = rises list r fine b.pnode in omega (arith, z, y)
      | inr (inl is) ↦ let g = good list a b (subst (λ x. flaw_of list x ≡ None) is fine) in let z = g.come in let y = rises list r fine b.pnode in omega (arith, z, y)
      | inr (inr is) ↦ let z = begun a is.0 in let y = ap (current_of (list ++ r ∷ [])) is.1 in let w = is.2 in omega (arith, z, y, w)
    ];
  }

  -- an edge to a version that is named by no record as a source
  unnamed_old : (c a : Node) → list_any (has_source a) list ≡ false → a.version ≡ current_of list a.pnode → IsEdge list c a → ⊥
  unnamed_old c a unnamed current (by_input there) =
      let (k, at) = Contains-place list (log.Input c a) there in
      let any : list_any (has_source a) list ≡ true = any_of (has_source a) list k (log.Input c a) at (same_node-self a) in
      let z : false ≡ true = sym unnamed ∙ any in cc
  unnamed_old c a unnamed current (by_version there same next) =
      let up = have.targets c a (by_version there same next) in let y = ap (current_of list) same in omega (arith, up, y, current, next)

  -- where the record makes an edge from a, none leads to a
  pub unused : (a b c : Node) → (r ≡ log.Input a b) ⊎ (r ≡ log.Version a) → IsEdge (list ++ r ∷ []) c a → ⊥
  unused a b c (inl is) e =
      let g = good list a b (subst (λ x. flaw_of list x ≡ None) is fine) in
      elim (edge_cases list r c a e) [
        | inl old ↦ unnamed_old c a g.unnamed g.current old
        | inr (inl also) ↦ (let (from, to) = input_parts c a a b (sym also ∙ is) in let z : true ≡ false = sym (same_node-self a) ∙ ap (same_node a) to ∙ g.other in cc)
        | inr (inr also) ↦ (let z : log.Version c ≡ log.Input a b = sym also.0 ∙ is in cc)
      ]
  unused a b c (inr is) e =
      let g = good_version list a (subst (λ x. flaw_of list x ≡ None) is fine) in
      elim (edge_cases list r c a e) [
        | inl old ↦ (let z = have.sources c a old in omega (arith, z, g))
        | inr (inl also) ↦ (let z : log.Input c a ≡ log.Version a = sym also ∙ is in cc)
        | inr (inr also) ↦ (let z : c ≡ a = version_inside c a (sym also.0 ∙ is) in let y = ap (λ (n : Node). n.version) z in let w = also.2 in omega (arith, y, w))
      ]

-- the ends of a well logged list's edges have come
pub all_come : (list : List Record) → IsWellLogged list → HaveCome list
all_come list logged = logged_induction HaveCome next_come [] list none_come logged

-- The ends of edges.
use Rattle.std.proofs.Common.{◌≡◌, true, not, inl, inr, sym, ap, ◌∙◌, List, [], ◌∷◌, ◌++◌, arith, ℕ, ◌≤◌}
use Rattle.std.specs.Prelude.{Contains, Option, Some, None, nat_lt, ◌||◌, if◌then◌else◌}
use Rattle.pass_entry.specs.declared.objects.Node.{Node}
use Rattle.pass_entry.specs.declared.record.Record.{Record}
use Rattle.pass_entry.specs.declared.record.Record.TheVariants as log
use Rattle.pass_entry.specs.declared.record.FlawReason.TheVariants as flaw
use Rattle.pass_plain.specs.Graphs.{IsEdge, HasPath}
use Rattle.pass_plain.specs.Graphs.HasPath.{edge, step}
use Rattle.pass_plain.specs.WellLogged.{current_of, is_known, is_current, flaw_of, IsWellLogged}
use Rattle.pass_plain.proofs.Lists.{not_false, or_false, same_numbers, same_itself}
use Rattle.pass_plain.proofs.Flaws.{unflawed}
use Rattle.pass_graph.specs.ListRanks.{HasNode}
use Rattle.pass_graph.proofs.Logging.{edge_cases, no_edge, version_next}
use Rattle.pass_graph.proofs.Ranking.{good_version, logged_induction, rises}
use Rattle.pass_graph.proofs.Noding.{known_on}
use Rattle.pass_waldo.specs.Lookups.{AreAll}
use Rattle.pass_waldo.specs.Orders.{node_cmp}
use Rattle.pass_waldo.proofs.Indexing.{alike}
use Rattle.pass_view.specs.Views.{IsShown, IsShownEdge, edge_cmp}

-- an edge leads from a node, to a version of an object of the list
record HaveEnds (list : List Record) : Type 0 where
  low : (o : ℕ) → 1 ≤ current_of list o
  targets : (a b : Node) → IsEdge list a b → HasNode list a
  sources : (a b : Node) → IsEdge list a b → is_known list b.pnode ≡ true

none_have : HaveEnds []
none_have = record {
  low = λ o. omega arith;
  targets = λ a b e. absurd (no_edge a b e);
  sources = λ a b e. absurd (no_edge a b e);
}

module _ (list : List Record) (r : Record) (have : HaveEnds list) (fine : flaw_of list r ≡ None) where
  old_target : (a : Node) → HasNode list a → HasNode (list ++ r ∷ []) a
  old_target a h = record {
    known = known_on list r a.pnode h.known;
    low = h.low;
    come = let z = h.come in let y = rises list r fine a.pnode in omega (arith, z, y);
  }

  -- a record's own edge
  input_known : (a b : Node) → flaw_of list (log.Input a b) ≡ None → is_known list a.pnode ≡ true
  input_known a b none = not_false (is_known list a.pnode) (unflawed (not (is_known list a.pnode)) flaw.Unknown _ none).0

  input_source : (a b : Node) → flaw_of list (log.Input a b) ≡ None → is_known list b.pnode ≡ true
  input_source a b none =
      let rest = (unflawed (not (is_known list a.pnode)) flaw.Unknown _ none).1 in
      let second = (unflawed (not (is_known list b.pnode) || nat_lt (current_of list b.pnode) b.version) flaw.Unknown _ rest).0 in
      not_false (is_known list b.pnode) (or_false (not (is_known list b.pnode)) (nat_lt (current_of list b.pnode) b.version) second).0

  input_current : (a b : Node) → flaw_of list (log.Input a b) ≡ None → a.version ≡ current_of list a.pnode
  input_current a b none =
      let rest = (unflawed (not (is_known list a.pnode)) flaw.Unknown _ none).1 in
      let third = (unflawed (not (is_known list b.pnode) || nat_lt (current_of list b.pnode) b.version) flaw.Unknown _ rest).1 in
      same_numbers a.version (current_of list a.pnode) (not_false (is_current list a) (unflawed (not (is_current list a)) flaw.Version _ third).0)

  version_known : (a : Node) → flaw_of list (log.Version a) ≡ None → is_known list a.pnode ≡ true
  version_known a none = not_false (is_known list a.pnode) (unflawed (not (is_known list a.pnode)) flaw.Unknown _ none).0

  input_target : (a b : Node) → r ≡ log.Input a b → HasNode (list ++ r ∷ []) a
  input_target a b is =
      let none : flaw_of list (log.Input a b) ≡ None = ap (flaw_of list) (sym is) ∙ fine in
      let now = input_current a b none in let low = have.low a.pnode in let up = rises list r fine a.pnode in
      record { known = known_on list r a.pnode (input_known a b none); low = omega (arith, now, low); come = omega (arith, now, up) }

  version_target : (a : Node) → r ≡ log.Version a → HasNode (list ++ r ∷ []) a
  version_target a is =
      let none : flaw_of list (log.Version a) ≡ None = ap (flaw_of list) (sym is) ∙ fine in
      let next = good_version list a none in
      let now : current_of (list ++ r ∷ []) a.pnode ≡ a.version =
      ap (λ x. current_of (list ++ x ∷ []) a.pnode) is ∙ version_next list (log.Version a) a.pnode ∙ ap (λ b. if b then a.version else current_of list a.pnode) (same_itself a.pnode) in
      record { known = known_on list r a.pnode (version_known a none); low = omega (arith, next); come = omega (arith, now) }

  next_have : HaveEnds (list ++ r ∷ [])
  next_have = record {
    low = λ o. let low = have.low o in let up = rises list r fine o in omega (arith, low, up);
    targets = λ a b e. elim (edge_cases list r a b e) [
      | inl old ↦ old_target a (have.targets a b old)
      | inr (inl is) ↦ input_target a b is
      | inr (inr is) ↦ version_target a is.0
    ];
    sources = λ a b e. elim (edge_cases list r a b e) [
      | inl old ↦ known_on list r b.pnode (have.sources a b old)
      | inr (inl is) ↦ known_on list r b.pnode (input_source a b (ap (flaw_of list) (sym is) ∙ fine))
      | inr (inr is) ↦ known_on list r b.pnode (ap (is_known list) is.1 ∙ version_known a (ap (flaw_of list) (sym is.0) ∙ fine))
    ];
  }

have_ends : (list : List Record) → IsWellLogged list → HaveEnds list
have_ends list logged = logged_induction HaveEnds next_have [] list none_have logged

pub target_node : (list : List Record) → IsWellLogged list → (a b : Node) → IsEdge list a b → HasNode list a
target_node list logged a b e = (have_ends list logged).targets a b e

pub path_known : (list : List Record) → IsWellLogged list → {a b : Node} → HasPath list a b → is_known list b.pnode ≡ true
path_known list logged {a} {b} (edge e) = (have_ends list logged).sources a b e
path_known list logged (step e p) = path_known list logged p

pub shown_known : (list : List Record) → IsWellLogged list → (node : Node) → is_known list node.pnode ≡ true → (n : Node) → IsShown list (Some node) n → is_known list n.pnode ≡ true
shown_known list logged node known n (inl is) = ap (λ (m : Node). is_known list m.pnode) is ∙ known
shown_known list logged node known n (inr path) = path_known list logged path

-- the edges that leave the nodes that are shown are those that are shown
pub edges_shown : (list : List Record) → IsWellLogged list → (node : Option Node) (nodes : List Node) → AreAll node_cmp nodes (IsShown list node)
    → (edges : List (Node × Node)) → AreAll edge_cmp edges (λ e. Contains nodes e.0 × IsEdge list e.0 e.1) → AreAll edge_cmp edges (IsShownEdge list node)
edges_shown list logged None nodes shown edges all =
    alike edges (λ e. Contains nodes e.0 × IsEdge list e.0 e.1) (IsShownEdge list None) (λ e h. h.1) (λ e edge. ((shown.all e.0).1 (target_node list logged e.0 e.1 edge), edge)) all
edges_shown list logged (Some node) nodes shown edges all =
    alike edges (λ e. Contains nodes e.0 × IsEdge list e.0 e.1) (IsShownEdge list (Some node)) (λ e h. (h.1, (shown.all e.0).0 h.0)) (λ e s. ((shown.all e.0).1 s.1, s.0)) all

use Rattle.std.proofs.Common.{◌≡◌, ◌+◌, List, [], ◌∷◌, ◌++◌, length, sym, ap, ◌∙◌, subst, arith}
use Rattle.std.specs.Prelude.{Some, slice_get}
use Rattle.std.specs.HashSet.{contains}
use Rattle.std.specs.List.{list_any}
use Rattle.std.proofs.lemmas.Option.{slice_get_read}
use Rattle.pass_plain.specs.Versions.{same_node}
use Rattle.pass_query.specs.declared.search.Reached.{Reached}
use Rattle.pass_query.specs.Searches.{has_node, IsSearch}
use Rattle.pass_query.specs.Searches.IsSearch.{begin, look}
use Rattle.pass_query.proofs.Looking.{only}
use Rattle.pass_query.proofs.Searching.{ordered}
use Rattle.pass_query.proofs.Bounding.{no_longer, no_more_steps, all_led}
use Rattle.pass_query.proofs.Edges.{no_fewer_steps}
use Rattle.pass_query.proofs.search.walk_from.Goals as goal

pub loop-next-init : goal.loop-next-init
loop-next-init g c =
    let first = c.args.first.now in
    let items : c.push.new.self.items ≡ record { node = first; before = 0 } ∷ [] = c.in_ok-push.ensures.items ∙ ap (λ (xs : List Reached). xs ++ record { node = first; before = 0 } ∷ []) c.new-reached.ensures.items in
    record {
      seen = λ q. c.in_ok-insert.ensures.updates.0 q ∙ only first (contains same_node c.new-seen.result) (λ p. ap (λ ks. list_any (same_node p) ks) c.new-seen.ensures.empty) q ∙ ap (λ xs. has_node xs q) (sym items);
      search = record {
        count = 0;
        search = subst (λ xs. IsSearch c.args.way c.args.walk.now.index.now first xs 0 0) (sym items) begin;
        exact = omega arith;
      };
    }

pub loop-next-smaller : goal.loop-next-smaller
loop-next-smaller g c =
    let s = c.loop-next.invariant.search in
    let most = no_longer c.args.way c.args.walk.now.index.now c.args.first.now (ordered c.args.way c.args.walk.now.index.now c.args.first.now s.search) in
    omega (arith, c.loop-next-test.true, c.len.ensures, most)

pub returns-in_err-look-clause-steps : goal.returns-in_err-look-clause-steps
returns-in_err-look-clause-steps g c =
    let s = c.loop-next.invariant.search in
    let items = c.loop-next.reached.items in
    let long : c.len.result ≡ length items = omega (arith, c.len.ensures) in
    let here : slice_get items c.loop-next.next ≡ Some c.index.result.now = slice_get_read items c.len.result c.loop-next.next c.index.result.now long c.loop-next-test.true c.index.ensures in
    let on = look s.search here c.row-row.ensures.row in
    λ edges all.
    let fits = no_more_steps c.args.way c.args.walk.now.index.now c.args.first.now on edges (all_led c.args.way c.args.walk.now.index.now c.args.first.now (ordered c.args.way c.args.walk.now.index.now c.args.first.now on) edges all) in
    omega (arith, fits, s.exact, c.row-row.ensures.steps)

pub loop-next-preserved : goal.loop-next-preserved
loop-next-preserved g c =
    let s = c.loop-next.invariant.search in
    let items = c.loop-next.reached.items in
    let long : c.len.result ≡ length items = omega (arith, c.len.ensures) in
    let here : slice_get items c.loop-next.next ≡ Some c.index.result.now = slice_get_read items c.len.result c.loop-next.next c.index.result.now long c.loop-next-test.true c.index.ensures in
    record {
      seen = c.in_ok-look.ensures.seen;
      search = record {
        count = s.count + length c.row-row.result.now;
        search = subst (λ xs. IsSearch c.args.way c.args.walk.now.index.now c.args.first.now xs (c.loop-next.next + 1) (s.count + length c.row-row.result.now)) (sym c.in_ok-look.ensures.looked) (look s.search here c.row-row.ensures.row);
        exact = omega (arith, s.exact, c.row-row.ensures.steps);
      };
    }

pub returns-clause-whole : goal.returns-clause-whole
returns-clause-whole g c =
    let s = c.loop-next.invariant.search in
    let o = ordered c.args.way c.args.walk.now.index.now c.args.first.now s.search in
    let all : c.loop-next.next ≡ length c.loop-next.reached.items = omega (arith, o.within, c.loop-next-test.false, c.len.ensures) in
    record { count = s.count; search = subst (λ n. IsSearch c.args.way c.args.walk.now.index.now c.args.first.now c.loop-next.reached.items n s.count) all s.search }

pub returns-clause-steps : goal.returns-clause-steps
returns-clause-steps g c =
    let s = c.loop-next.invariant.search in
    λ edges all.
    let fits = no_more_steps c.args.way c.args.walk.now.index.now c.args.first.now s.search edges (all_led c.args.way c.args.walk.now.index.now c.args.first.now (ordered c.args.way c.args.walk.now.index.now c.args.first.now s.search) edges all) in
    omega (arith, fits, s.exact)

pub returns-clause-counted : goal.returns-clause-counted
returns-clause-counted g c =
    let s = c.loop-next.invariant.search in
    let o = ordered c.args.way c.args.walk.now.index.now c.args.first.now s.search in
    let all : c.loop-next.next ≡ length c.loop-next.reached.items = omega (arith, o.within, c.loop-next-test.false, c.len.ensures) in
    λ edges only.
    let fits = no_fewer_steps c.args.way c.args.walk.now.index.now c.args.first.now (subst (λ n. IsSearch c.args.way c.args.walk.now.index.now c.args.first.now c.loop-next.reached.items n s.count) all s.search) edges only in
    omega (arith, fits, s.exact)

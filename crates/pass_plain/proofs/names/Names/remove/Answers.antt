use Rattle.std.proofs.Common.{◌≡◌, ◌∙◌, ap, not, rules, List, ℕ}
use Rattle.std.specs.FinMap.{FinMap, remove, from_entries}
use Rattle.std.specs.Ordering.{nat_cmp, eq_by_cmp}
use Rattle.std.specs.Cmp.Lexicographic.{slice_cmp}
use Rattle.pass_plain.proofs.NameMaps.{filter_kept, map_without}
use Rattle.pass_plain.proofs.names.Names.remove.Goals as goal

pub returns : goal.returns
returns c =
    let name = c.args.name.now in
    let kept = filter_kept _ (λ p. p ≡ record { 0 = c.args.name }) (λ (e : List ℕ × ℕ). not (eq_by_cmp (slice_cmp nat_cmp) name e.0)) (λ p x b q i r. (search rules, search rules)) _ _ _ (λ i. record { 0 = c.args.name }) c.retain.ensures.filtered in
    ap (λ (es : List (List ℕ × ℕ)). from_entries {R = slice_cmp nat_cmp} es) kept
    ∙ map_without name c.self.inside.log.items
    ∙ ap (λ (m : FinMap (slice_cmp nat_cmp) ℕ). remove m name) c.self.view_is

use Rattle.std.proofs.Common.{◌≡◌, ◌<◌, Bool, true, false, cond, ◌||◌, ◌∙◌, ap, refl, arith}
use Rattle.std.specs.List.{list_any}
use Rattle.pass_plain.specs.Versions.{same_node}
use Rattle.pass_plain.proofs.Lineages.{same_node-sym}
use Rattle.pass_version.specs.States.{VersionState}
use Rattle.std.specs.HashSet.{spare}
use Rattle.pass_version.proofs.versions.Versions.link.Goals as goal
use Rattle.pass_entry.proofs.Variants.{on_ok}

pub invariant_of-self : goal.invariant_of-self
invariant_of-self c = let s = c.insert.ensures.spare in let i = c.self.invariant in omega (arith, s, i)

-- a test of the new node first, by its two answers
either_way : (a b c : Bool) → a ≡ b → cond a true c ≡ (b || c)
either_way true b c same = rw (← same) refl
either_way false b c same = rw (← same) refl

pub returns-clause-lineage : goal.returns-clause-lineage
returns-clause-lineage c =
    let same : c.self.inside.spare ≡ c.args.self.now.spare = ap (λ (s : VersionState). s.spare) c.self.view_is in
    let room : 0 < spare c.self.inside.ancestors = let r = c.requires.room in let i = c.self.invariant in omega (arith, same, r, i) in
    let updated = on_ok c.insert.result (c.insert.ensures.succeeds room) c.insert.ensures.updates in
    rw (← c.self.view_is) record { node = refl; marked = refl; sources = λ n. updated.0 n ∙ either_way (same_node c.args.source n) (same_node n c.args.source) (list_any (same_node n) c.self.inside.ancestors.keys) (same_node-sym c.args.source n) }

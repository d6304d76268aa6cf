-- What pruning promises.
use Rattle.std.specs.Prelude.{ℕ, ◌≡◌, Bool, true, List, None, if◌then◌else◌}
use Rattle.pass_entry.specs.declared.objects.Node.{Node}
use Rattle.pass_leaf.specs.Leaves.{Leaf}
use Rattle.pass_leaf.specs.Contents.{content_of, last_content, last_version, AreLeaves}
use Rattle.pass_prune.specs.Choices.{IsCurrent}
use Rattle.pass_prune.specs.Prunings.{pruned}

-- a chosen version has the same bytes in both archives, and no other is in the fresh one
abbrev pub PrunedLaw : Type 0
PrunedLaw = (choice : Node → Bool) (leaves : List Leaf) → AreLeaves leaves → (node : Node) → content_of (pruned choice leaves) node ≡ (if choice node then content_of leaves node else None)

-- Where the last version of each file is chosen, the fresh archive goes on as the other one: it has the same last versions with the
-- same contents.
abbrev pub GoesOnLaw : Type 0
GoesOnLaw = (choice : Node → Bool) (leaves : List Leaf) → AreLeaves leaves → ((node : Node) → IsCurrent leaves node → choice node ≡ true)
    → (pnode : ℕ) → (last_version (pruned choice leaves) pnode ≡ last_version leaves pnode) × (last_content (pruned choice leaves) pnode ≡ last_content leaves pnode)

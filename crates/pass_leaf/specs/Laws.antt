-- What leaves promise.
use Rattle.std.specs.Prelude.{ℕ, ◌≡◌, ◌<◌, ◌≤◌, ◌⊎◌, List, [], ◌∷◌, length, Some}
use Rattle.pass_entry.specs.declared.objects.Node.{Node}
use Rattle.pass_leaf.specs.Leaves.{Leaf}
use Rattle.pass_leaf.specs.Contents.{laid, last_version, content_of, AreLeaves}
use Rattle.pass_leaf.specs.Keeping.{leaf_from, FileVersion, kept_all}
use Rattle.pass_leaf.specs.Archives.{IsArchive, HasBadFrame}
use Rattle.pass_log.specs.Frames.{longest}

-- a leaf gives back the content of which it was made
abbrev pub LaidLaw : Type 0
LaidLaw = (old new : List ℕ) (node : Node) → laid old (leaf_from old node new) ≡ new

-- what was kept before stays as it was
abbrev pub ContentsStayLaw : Type 0
ContentsStayLaw = (leaves : List Leaf) (versions : List FileVersion) (node : Node) (bytes : List ℕ) → content_of leaves node ≡ Some bytes → content_of (kept_all leaves versions) node ≡ Some bytes

-- a version stands in a list
abbrev pub IsAmong : FileVersion → List FileVersion → Type 0
IsAmong v [] = ⊥
IsAmong v (d ∷ versions) = (d ≡ v) ⊎ IsAmong v versions

-- of one file the numbers never fall, and a node that stands twice has one content
abbrev pub AreConsistent : List FileVersion → Type 0
AreConsistent [] = Unit {0}
AreConsistent (d ∷ versions) = ((v : FileVersion) → IsAmong v versions → d.node.pnode ≡ v.node.pnode → d.node.version ≤ v.node.version)
    × ((v : FileVersion) → IsAmong v versions → d.node ≡ v.node → d.bytes ≡ v.bytes) × AreConsistent versions

-- each version that was above its file's last leaf has its content then
abbrev pub KeptLaw : Type 0
KeptLaw = (leaves : List Leaf) (versions : List FileVersion) → AreLeaves leaves → AreConsistent versions
    → (v : FileVersion) → IsAmong v versions → last_version leaves v.node.pnode < v.node.version → content_of (kept_all leaves versions) v.node ≡ Some v.bytes

-- no other version gets a leaf: a node that no version above its file's last leaf has is told of as before
abbrev pub OthersLaw : Type 0
OthersLaw = (leaves : List Leaf) (versions : List FileVersion) (node : Node)
    → ((v : FileVersion) → IsAmong v versions → v.node ≡ node → v.node.version ≤ last_version leaves v.node.pnode)
    → content_of (kept_all leaves versions) node ≡ content_of leaves node

-- bytes have the leaves of one archive at most
abbrev pub OneArchiveLaw : Type 0
OneArchiveLaw = (bytes : List ℕ) (a b : List Leaf) (n m : ℕ) → IsArchive bytes a n → IsArchive bytes b m → (a ≡ b) × (n ≡ m)

-- bytes that have an archive have no bad frame
abbrev pub NoBadFrameLaw : Type 0
NoBadFrameLaw = (bytes : List ℕ) (leaves : List Leaf) (end at : ℕ) → IsArchive bytes leaves end → 1 < length bytes → length bytes ≤ longest → HasBadFrame bytes at → ⊥

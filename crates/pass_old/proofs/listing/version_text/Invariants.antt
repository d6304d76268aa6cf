use Rattle.std.proofs.Common.{◌≡◌, take}
use Rattle.std.specs.Prelude.{flat_map, string_bytes}
use Rattle.pass_leaf.specs.Contents.{last_content}
use Rattle.pass_old.specs.Listings.{leaf_line}
use Rattle.pass_old.proofs.listing.version_text.Given as goal

abbrev pub invariant-loop-leaf : goal.invariant-loop-leaf
invariant-loop-leaf l = record {
  text : string_bytes l.text ≡ flat_map (leaf_line l.leaves l.file) (take l.leaf-index l.leaves);
  content : l.content.items ≡ last_content (take l.leaf-index l.leaves) l.file;
}

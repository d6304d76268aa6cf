-- What the word `check` writes. This project's own rule.
use Rattle.std.specs.Prelude.{ℕ, ◌≡◌, IsTrue, List, [], ◌∷◌, ◌++◌, Ok, codes, length, flat_map}
use Rattle.std.specs.Fmt.{decimal}
use Rattle.pass_entry.specs.declared.record.Record.{Record}
use Rattle.pass_graph.specs.ListRanks.{graph_nodes}
use Rattle.pass_log.specs.Records.{Held, image_of}
use Rattle.pass_outside.specs.Moments.{Moment}
use Rattle.pass_range.specs.declared.range.Range.{Range}
use Rattle.pass_range.specs.Tables.{AreUnmatched}
use Rattle.pass_report.specs.Reports.{ascending, edge_cmp, edges_of_record}

-- the nodes of a well logged list are the versions of its objects, from 1 to the current one
abbrev pub node_count : List Record → ℕ
node_count list = length (graph_nodes list)

-- the pairs of a version and what it came from, each once
abbrev pub edge_count : List Record → ℕ
edge_count list = length (ascending edge_cmp (flat_map edges_of_record list))

abbrev pub count_line : ℕ → ℕ → ℕ → ℕ → List ℕ
count_line records nodes edges unmatched =
    codes "ok " ++ decimal records ++ codes " records " ++ decimal nodes ++ codes " nodes " ++ decimal edges ++ codes " edges "
    ++ decimal unmatched ++ codes " unmatched" ++ 10 ∷ []

abbrev pub range_line : Range → List ℕ
range_line range = codes "range " ++ decimal range.pnode ++ codes " " ++ decimal range.block ++ 10 ∷ []

-- how many records, nodes, edges and unmatched ranges a store has, and a line for each of these ranges
abbrev pub check_text : List Record → List Range → List ℕ
check_text list unmatched = count_line (length list) (node_count list) (edge_count list) (length unmatched) ++ flat_map range_line unmatched

-- the text for a log area with these bytes, over the store area that the disk read then
abbrev pub IsCheckText : Moment → List ℕ → List ℕ → Type 0
IsCheckText old bytes text = (held : Held) × (image_of bytes ≡ Ok held)
    × ((unmatched : List Range) × (IsTrue old.tells → AreUnmatched held.list old.seen.store unmatched) × (text ≡ check_text held.list unmatched))

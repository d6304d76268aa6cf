-- Whether the log of a store bears the leaves of an archive out. This project's own rule.
use Rattle.std.specs.Prelude.{ℕ, ◌==◌, Bool, true, false, not, ◌&&◌, List, [], ◌∷◌, ◌++◌, length, map, Option, Some, None, bytes_eq, flat_map, nat_lt, codes, if◌then◌else◌}
use Rattle.std.specs.List.{before_first, count_by, list_all, range_with_len}
use Rattle.std.specs.Option.{option_map_or}
use Rattle.std.specs.Fmt.{decimal}
use Rattle.md5.specs.Md5.{md5}
use Rattle.pass_entry.specs.declared.objects.Node.{Node}
use Rattle.pass_entry.specs.declared.record.Record.{Record}
use Rattle.pass_entry.specs.declared.record.Record.TheVariants as log
use Rattle.pass_entry.specs.Words.{node_text}
use Rattle.pass_plain.specs.WellLogged.{is_file_of, current_of, size_of}
use Rattle.pass_range.specs.Rows.{row_of}
use Rattle.pass_leaf.specs.Leaves.{Leaf}
use Rattle.pass_leaf.specs.Contents.{content_of}
use Rattle.pass_leaf.specs.Keeping.{part, block_total}
use Rattle.pass_audit.specs.declared.verdict.Judged.{Judged}
use Rattle.pass_audit.specs.declared.verdict.Verdict.{Verdict}
use Rattle.pass_audit.specs.declared.verdict.Verdict.TheVariants.{Borne, Unlike, Unknown}

-- the record begins a later version of the file
abbrev pub begins_later : Node → Record → Bool
begins_later node (log.Version next) = next.pnode == node.pnode && nat_lt node.version next.version
begins_later node _ = false

-- the log as a version ended: the records before the first that begins a later version of the file, or all
abbrev pub log_at : List Record → Node → List Record
log_at list node = before_first (begins_later node) list

-- the log has that file, at that version
abbrev pub is_at : List Record → Node → Bool
is_at list node = is_file_of list node.pnode && (current_of list node.pnode == node.version)

-- bytes of a block have the digest of its row (RFC 1321); those of a block without a row are zero
abbrev pub is_part_borne : Option (List ℕ) → List ℕ → Bool
is_part_borne (Some digest) bytes = bytes_eq (md5 bytes) digest
is_part_borne None bytes = list_all (λ b. b == 0) bytes

abbrev pub is_block_borne : List Record → ℕ → List ℕ → ℕ → Bool
is_block_borne list file content block = is_part_borne (row_of list file block) (part content block)

-- the log bears a content of a file out: it gives the file this size, and each block these bytes
abbrev pub is_borne_out : List Record → ℕ → List ℕ → Bool
is_borne_out list file content = (size_of list file == length content) && list_all (is_block_borne list file content) (range_with_len 0 (block_total (length content)))

-- what a log says of a version with that content
abbrev pub verdict_on : List Record → Node → List ℕ → Verdict
verdict_on list node content = if not (is_at list node) then Unknown else if is_borne_out list node.pnode content then Borne else Unlike

-- what a log says of a leaf among these: the log as the leaf's version ended
abbrev pub verdict_of : List Record → List Leaf → Leaf → Verdict
verdict_of list leaves leaf = option_map_or (verdict_on (log_at list leaf.node) leaf.node) (content_of leaves leaf.node) Unknown

abbrev pub judged_in : List Record → List Leaf → Leaf → Judged
judged_in list leaves leaf = record { node = leaf.node; verdict = verdict_of list leaves leaf }

abbrev pub all_judged : List Record → List Leaf → List Judged
all_judged list leaves = map (judged_in list leaves) leaves

-- a line for a leaf that isn't borne out
abbrev pub verdict_line : Node → Verdict → List ℕ
verdict_line node Borne = []
verdict_line node Unlike = codes "unlike " ++ node_text node ++ 10 ∷ []
verdict_line node Unknown = codes "unknown " ++ node_text node ++ 10 ∷ []

abbrev pub judged_line : Judged → List ℕ
judged_line judged = verdict_line judged.node judged.verdict

abbrev pub says_unlike : Verdict → Bool
says_unlike Unlike = true
says_unlike _ = false

abbrev pub says_unknown : Verdict → Bool
says_unknown Unknown = true
says_unknown _ = false

abbrev pub is_unlike : Judged → Bool
is_unlike judged = says_unlike judged.verdict

abbrev pub is_unknown : Judged → Bool
is_unknown judged = says_unknown judged.verdict

-- how many there are, and how many of them aren't borne out
abbrev pub count_line : ℕ → ℕ → ℕ → List ℕ
count_line all unlike unknown = codes "checked " ++ decimal all ++ codes " versions " ++ decimal unlike ++ codes " unlike " ++ decimal unknown ++ codes " unknown" ++ 10 ∷ []

-- the lines of the leaves that aren't borne out, in order, and that of the counts
abbrev pub audit_text : List Judged → List ℕ
audit_text all = flat_map judged_line all ++ count_line (length all) (count_by is_unlike all) (count_by is_unknown all)

-- How many bytes the records of an entry have.
use Rattle.std.proofs.Common.{◌≡◌, ◌∙◌, ◌+◌, ◌*◌, ◌≤◌, ℕ, Bool, true, false, List, [], ◌∷◌, ◌++◌, length, map, refl, ap, arith, length-append}
use Rattle.std.specs.Prelude.{Option, Some, None, filter, drop, take, codes, bytes_eq, nat_le, if◌then◌else◌}
use Rattle.std.specs.Option.{option_map_or}
use Rattle.std.specs.List.{list_all, range_with_len}
use Rattle.std.specs.FinMap as finite_map
use Rattle.md5.proofs.StandardFacts.{length-md5}
use Rattle.pass_entry.specs.declared.entry.Entry.{Entry}
use Rattle.pass_entry.specs.declared.entry.Act.{Act}
use Rattle.pass_entry.specs.declared.entry.Act.TheVariants as act
use Rattle.pass_entry.specs.declared.objects.Kind.TheVariants as kind
use Rattle.pass_entry.specs.declared.objects.Node.{Node}
use Rattle.pass_entry.specs.declared.record.Record.{Record}
use Rattle.pass_entry.specs.declared.record.Record.TheVariants as log
use Rattle.pass_entry.specs.Texts.{is_name, is_line, is_name_length, is_name_byte, is_line_length, is_line_byte}
use Rattle.pass_record.specs.Spelling.{spelling, line_bytes}
use Rattle.pass_plain.specs.Histories.{is_fault, pnode_of}
use Rattle.pass_plain.specs.Sessions.{Session}
use Rattle.pass_plain.specs.Sound.{IsSound}
use Rattle.pass_plain.specs.Files.{file_after, file_act}
use Rattle.pass_plain.specs.Registries.{Names, registry_after}
use Rattle.pass_plain.specs.Versions.{is_fresh, is_freeze, node_at_entry, nodes_of, source_in}
use Rattle.pass_plain.specs.Legal.{IsLegal, MayFollow}
use Rattle.pass_plain.specs.Records.{block_size, is_digested, digest_of, content_records, args_records, extra_records, version_records, lost_name, file_named, move_records, act_records, entry_records, records_of}
use Rattle.pass_plain.proofs.Lists.{true_left, true_right, at_most}
use Rattle.pass_plain.proofs.Calling.{legal_induction}
use Rattle.pass_range.proofs.Changing.{records-next}
use Rattle.pass_log.specs.Records.{spellings}
use Rattle.pass_bounds.specs.Lawful.{LengthLaw}
use Rattle.pass_bounds.proofs.Arguments.{HasTexts, texts}
use Rattle.pass_bounds.proofs.Digested.{digested_few}
use Rattle.pass_bounds.proofs.Images.{spellings-append}

-- the bytes of records
abbrev pub size : List Record → ℕ
size list = length (spellings list)

size-cons : (one : Record) (list : List Record) → size (one ∷ list) ≡ length (spelling one) + size list
size-cons one list = length-append (spelling one) (spellings list)

size-one : (one : Record) → size (one ∷ []) ≡ length (spelling one)
size-one one = let z = size-cons one [] in omega (arith, z)

-- each record

object_size : (pnode : ℕ) (k : _) → length (spelling (log.Object pnode k)) ≡ 10
unfolding spelling
object_size pnode k = refl

name_size : (pnode : ℕ) (name : List ℕ) → length (spelling (log.Name pnode name)) ≡ 10 + length name
unfolding spelling
name_size pnode name = omega arith

attr_size : (node : Node) (attr value : List ℕ) → length (spelling (log.Attr node attr value)) ≡ 20 + length attr + length value
unfolding spelling
attr_size node attr value = let z = length-append attr (line_bytes value) in omega (arith, z)

input_size : (target source : Node) → length (spelling (log.Input target source)) ≡ 33
unfolding spelling
input_size target source = refl

version_size : (node : Node) → length (spelling (log.Version node)) ≡ 17
unfolding spelling
version_size node = refl

file_size : (pnode bytes : ℕ) → length (spelling (log.Size pnode bytes)) ≡ 17
unfolding spelling
file_size pnode bytes = refl

digest_size : (file block : ℕ) (content : List ℕ) → length (spelling (digest_of file content block)) ≡ 29
unfolding spelling
digest_size file block content = let z = length-md5 (take block_size (drop (block * block_size) content)) in omega (arith, z)

digests_size : (file : ℕ) (content : List ℕ) (blocks : List ℕ) → size (map (digest_of file content) blocks) ≡ 29 * length blocks
digests_size file content [] = refl
digests_size file content (block ∷ blocks) =
    let here = size-cons (digest_of file content block) (map (digest_of file content) blocks) in
    let one = digest_size file block content in
    let more = digests_size file content blocks in
    omega (arith, here, one, more)

-- texts

name_short : (name : List ℕ) → is_name name ≡ true → length name ≤ 255
name_short name is = at_most (length name) 255 (true_right (nat_le 1 (length name)) (nat_le (length name) 255) (true_left (is_name_length name) (list_all is_name_byte name) is))

line_short : (line : List ℕ) → is_line line ≡ true → length line ≤ 1024
line_short line is = at_most (length line) 1024 (true_left (is_line_length line) (list_all is_line_byte line) is)

args_size : (node : Node) (args : List ℕ) → is_line args ≡ true → size (args_records node args) ≤ 1048
args_size node [] line = omega arith
args_size node (b ∷ args) line =
    let one = size-one (log.Attr node (codes "ARGV") (b ∷ args)) in
    let here = attr_size node (codes "ARGV") (b ∷ args) in
    let short = line_short (b ∷ args) line in
    omega (arith, one, here, short)

-- one entry

-- the acts that a call may have behind its third entry
abbrev pub is_small : Act → Bool
is_small (act.Join end) = true
is_small (act.Leave end) = true
is_small (act.Born out descriptors) = true
is_small act.Finish = true
is_small _ = false

module _ (session : Session) (sound : IsSound session) (past : List Entry) (e : Entry) (text : HasTexts e.act) where
  abbrev nodes : List Node
  nodes = nodes_of session past

  abbrev node : Node
  node = node_at_entry session past nodes e

  abbrev names : Names
  names = (registry_after session past).names

  content_size : size (content_records session past e) ≤ 104
  content_size =
      let new = file_act (file_after session past e.what) e.act in
      let blocks = filter (is_digested session past e) (range_with_len 0 1024) in
      let whole = size-cons (log.Size e.what (length new)) (map (digest_of e.what new) blocks) in
      let first = file_size e.what (length new) in
      let digests = digests_size e.what new blocks in
      let few = digested_few session sound past e text in
      omega (arith, whole, first, digests, few)

  extra_size : (a : Act) → HasTexts a → size (extra_records session past e node a) ≤ 1326
  extra_size (act.Put out at bytes) is = let z = content_size in omega (arith, z)
  extra_size (act.Cut out length) is = let z = content_size in omega (arith, z)
  extra_size (act.Exec out name args) is =
      let whole = size-cons (log.Attr node (codes "EXE") name) (args_records node args) in
      let first = attr_size node (codes "EXE") name in
      let named = name_short name is.0 in
      let rest = args_size node args is.1 in
      omega (arith, whole, first, named, rest)
  extra_size _ is = omega arith

  input_most : (o : Option Node) → size (option_map_or (λ source. log.Input node source ∷ []) o []) ≤ 33
  input_most None = omega arith
  input_most (Some s) = let one = size-one (log.Input node s) in let here = input_size node s in omega (arith, one, here)

  version_most : (freezes fresh : Bool) → size ((if freezes then log.Version node ∷ [] else []) ++ (if fresh then option_map_or (λ source. log.Input node source ∷ []) (source_in nodes e) [] else [])) ≤ 50
  version_most true true =
      let whole = size-cons (log.Version node) (option_map_or (λ source. log.Input node source ∷ []) (source_in nodes e) []) in
      let first = version_size node in
      let rest = input_most (source_in nodes e) in
      omega (arith, whole, first, rest)
  version_most true false = let one = size-one (log.Version node) in let here = version_size node in omega (arith, one, here)
  version_most false true = let rest = input_most (source_in nodes e) in omega (arith, rest)
  version_most false false = omega arith

  lost_size : (o : Option ℕ) → size (option_map_or (λ file. log.Name file [] ∷ []) o []) ≤ 10
  lost_size None = omega arith
  lost_size (Some file) = let one = size-one (log.Name file []) in let here = name_size file [] in omega (arith, one, here)

  move_size : (from to : List ℕ) → is_name to ≡ true → size (move_records names from to) ≤ 275
  move_size from to fits = by_test (bytes_eq from to)
    where
      by_test : (b : Bool) → size (if b then [] else lost_name names to ++ log.Name (file_named names from) to ∷ []) ≤ 275
      by_test true = omega arith
      by_test false =
          let whole = spellings-append (lost_name names to) (log.Name (file_named names from) to ∷ []) in
          let lost = lost_size (finite_map.get names to) in
          let one = size-one (log.Name (file_named names from) to) in
          let here = name_size (file_named names from) to in
          let short = name_short to fits in
          omega (arith, whole, lost, one, here, short)

  act_size : (a : Act) → HasTexts a → size (act_records session past e node a) ≤ 1376
  act_size (act.Bind name) is =
      let whole = size-cons (log.Object (pnode_of e.reply) kind.File) (log.Name (pnode_of e.reply) name ∷ []) in
      let first = object_size (pnode_of e.reply) kind.File in
      let one = size-one (log.Name (pnode_of e.reply) name) in
      let named = name_size (pnode_of e.reply) name in
      let short = name_short name is in
      omega (arith, whole, first, one, named, short)
  act_size (act.Mint k) is = let one = size-one (log.Object (pnode_of e.reply) k) in let here = object_size (pnode_of e.reply) k in omega (arith, one, here)
  act_size (act.Move from to) is = let z = move_size from to is in omega (arith, z)
  act_size (act.Unbind name) is = let one = size-one (log.Name (file_named names name) []) in let here = name_size (file_named names name) [] in omega (arith, one, here)
  act_size (act.Tag attr value) is =
      let one = size-one (log.Attr node attr value) in
      let here = attr_size node attr value in
      let first = name_short attr is.0 in
      let second = name_short value is.1 in
      omega (arith, one, here, first, second)
  act_size a is =
      let whole = spellings-append (version_records session past e node) (extra_records session past e node a) in
      let versions = version_most (is_freeze session past nodes e) (is_fresh session past nodes e) in
      let extra = extra_size a is in
      omega (arith, whole, versions, extra)

  pub entry_size : size (entry_records session past e) ≤ 1376
  entry_size = by_fault (is_fault e.reply)
    where
      by_fault : (b : Bool) → size (if b then [] else act_records session past e node e.act) ≤ 1376
      by_fault true = omega arith
      by_fault false = act_size e.act text

  small_of : (a : Act) → extra_records session past e node a ≡ [] → size (version_records session past e node ++ extra_records session past e node a) ≤ 50
  small_of a none =
      let whole = spellings-append (version_records session past e node) (extra_records session past e node a) in
      let versions = version_most (is_freeze session past nodes e) (is_fresh session past nodes e) in
      let nothing = ap size none in
      omega (arith, whole, versions, nothing)

  -- an act on a pipe's end, a birth and an end have no text
  small_size : (a : Act) → is_small a ≡ true → size (act_records session past e node a) ≤ 50
  small_size (act.Join end) small = small_of (act.Join end) refl
  small_size (act.Leave end) small = small_of (act.Leave end) refl
  small_size (act.Born out descriptors) small = small_of (act.Born out descriptors) refl
  small_size act.Finish small = small_of act.Finish refl
  small_size _ small = absurd (cc)

  pub small_entry : is_small e.act ≡ true → size (entry_records session past e) ≤ 50
  small_entry small = by_fault (is_fault e.reply)
    where
      by_fault : (b : Bool) → size (if b then [] else act_records session past e node e.act) ≤ 50
      by_fault true = omega arith
      by_fault false = small_size e.act small

-- all entries

pub length_law : LengthLaw
length_law session sound = legal_induction session (λ h. size (records_of session h) ≤ 1376 * length h) (omega arith) more
  where
    more : (history : List Entry) (e : Entry) → IsLegal session history → size (records_of session history) ≤ 1376 * length history → MayFollow session history e
        → size (records_of session (history ++ e ∷ [])) ≤ 1376 * length (history ++ e ∷ [])
    more history e legal was next =
        let whole = ap size (records-next session history e) ∙ spellings-append (records_of session history) (entry_records session history e) in
        let here = entry_size session sound history e (texts session history e next) in
        let longer = length-append history (e ∷ []) in
        omega (arith, was, whole, here, longer)

-- How many records an entry has.
use Rattle.std.proofs.Common.{ℕ, ◌+◌, ◌≤◌, Bool, true, false, List, [], ◌∷◌, ◌++◌, All, length, map, filter, Option, Some, None, arith, length-append}
use Rattle.std.specs.Prelude.{if◌then◌else◌}
use Rattle.std.specs.List.{range_with_len}
use Rattle.std.specs.FinMap as finite_map
use Rattle.std.specs.Prelude.{bytes_eq}
use Rattle.std.specs.Option.{option_map_or}
use Rattle.std.proofs.lemmas.List.{length-map}
use Rattle.std.proofs.lemmas.List.FromFn.{length-range_with_len}
use Rattle.std.proofs.lemmas.List.Sums.{length-filter, count_by-le-length}
use Rattle.std.proofs.lemmas.List.Elements.{All-cons}
use Rattle.pass_entry.specs.declared.entry.Entry.{Entry}
use Rattle.pass_entry.specs.declared.entry.Act.{Act}
use Rattle.pass_entry.specs.declared.entry.Act.TheVariants as act
use Rattle.pass_entry.specs.declared.objects.Node.{Node}
use Rattle.pass_entry.specs.declared.record.Record.{Record}
use Rattle.pass_entry.specs.declared.record.Record.TheVariants as log
use Rattle.pass_plain.specs.Histories.{is_fault}
use Rattle.pass_plain.specs.Sessions.{Session}
use Rattle.pass_plain.specs.Versions.{nodes_of, node_at_entry, source_in, is_fresh, is_freeze}
use Rattle.pass_plain.specs.Files.{file_after, file_act}
use Rattle.pass_plain.specs.Registries.{registry_after, Names}
use Rattle.pass_plain.specs.Records.{entry_records, act_records, version_records, extra_records, content_records, args_records, digest_of, is_digested, lost_name, file_named, move_records}
use Rattle.pass_book.specs.Records.{lists_after, entry_lists}

if_few : (n : ℕ) (b : Bool) (r s : List Record) → length r ≤ n → length s ≤ n → length (if b then r else s) ≤ n
if_few n true r s few other = few
if_few n false r s few other = other

both_few : (m n : ℕ) (r s : List Record) → length r ≤ m → length s ≤ n → length (r ++ s) ≤ m + n
both_few m n r s few other = (let both = length-append r s in omega (arith, both, few, other))

option_few : {X : Type 0} (f : X → Record) (o : Option X) → length (option_map_or (λ x. f x ∷ []) o []) ≤ 1
option_few f (Some x) = omega arith
option_few f None = omega arith

blocks_few : (f : ℕ → Record) (p : ℕ → Bool) (n : ℕ) → length (map f (filter p (range_with_len 0 n))) ≤ n
blocks_few f p n =
    let mapped = length-map (filter p (range_with_len 0 n)) f in
    let passed = length-filter p (range_with_len 0 n) in
    let most = count_by-le-length p (range_with_len 0 n) in
    let all = length-range_with_len 0 n in
    omega (arith, mapped, passed, most, all)

content_few : (session : Session) (past : List Entry) (e : Entry) → length (content_records session past e) ≤ 1025
content_few session past e =
    both_few 1 1024 (log.Size e.what (length (file_act (file_after session past e.what) e.act)) ∷ []) _ (omega arith)
    (blocks_few (digest_of e.what (file_act (file_after session past e.what) e.act)) (is_digested session past e) 1024)

args_few : (node : Node) (args : List ℕ) → length (args_records node args) ≤ 1
args_few node [] = omega arith
args_few node (b ∷ args) = omega arith

extra_few : (session : Session) (past : List Entry) (e : Entry) (node : Node) (a : Act) → length (extra_records session past e node a) ≤ 1025
extra_few session past e node (act.Put out at bytes) = content_few session past e
extra_few session past e node (act.Cut out size) = content_few session past e
extra_few session past e node (act.Exec out name args) = (let few = args_few node args in omega (arith, few))
extra_few session past e node _ = omega arith

version_few : (session : Session) (past : List Entry) (e : Entry) (node : Node) → length (version_records session past e node) ≤ 2
version_few session past e node =
    let nodes = nodes_of session past in
    both_few 1 1 _ _ (if_few 1 (is_freeze session past nodes e) (log.Version node ∷ []) [] (omega arith) (omega arith))
    (if_few 1 (is_fresh session past nodes e) (option_map_or (λ source. log.Input node source ∷ []) (source_in nodes e) []) [] (option_few (λ source. log.Input node source) (source_in nodes e)) (omega arith))

move_few : (names : Names) (from to : List ℕ) → length (move_records names from to) ≤ 1027
move_few names from to =
    (let few = both_few 1 1 (lost_name names to) (log.Name (file_named names from) to ∷ []) (option_few (λ file. log.Name file []) (finite_map.get names to)) (omega arith) in
    if_few 1027 (bytes_eq from to) [] _ (omega arith) (omega (arith, few)))

act_few : (session : Session) (past : List Entry) (e : Entry) (node : Node) (a : Act) → length (act_records session past e node a) ≤ 1027
act_few session past e node (act.Bind name) = omega arith
act_few session past e node (act.Mint k) = omega arith
act_few session past e node (act.Move from to) = move_few (registry_after session past).names from to
act_few session past e node (act.Unbind name) = omega arith
act_few session past e node (act.Tag attr value) = omega arith
act_few session past e node a = both_few 2 1025 (version_records session past e node) (extra_records session past e node a) (version_few session past e node) (extra_few session past e node a)

few_records : (session : Session) (past : List Entry) (e : Entry) → length (entry_records session past e) ≤ 1027
few_records session past e =
    if_few 1027 (is_fault e.reply) [] _ (omega arith) (act_few session past e (node_at_entry session past (nodes_of session past) e) e.act)

few_after : (session : Session) (past h : List Entry) → All (λ (r : List Record). length r ≤ 1027) (lists_after session past h)
few_after session past [] = λ k d lt. absurd (omega (arith, lt))
few_after session past (e ∷ h) = All-cons (λ (r : List Record). length r ≤ 1027) _ _ (few_records session past e) (few_after session (past ++ e ∷ []) h)

-- an entry has few records
pub lists_few : (session : Session) (h : List Entry) → All (λ (r : List Record). length r ≤ 1027) (entry_lists session h)
lists_few session h = few_after session [] h

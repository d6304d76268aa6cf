-- What the records of an entry do to the row of a block.
use Rattle.std.proofs.Common.{◌≡◌, ◌∙◌, ◌==◌, ◌&&◌, ◌||◌, ◌+◌, ◌*◌, ◌<◌, ◌≤◌, ℕ, zero, suc, Bool, true, false, not, cond, List, [], ◌∷◌, ◌++◌, length, map, filter, refl, sym, ap, arith}
use Rattle.std.specs.FinMap as finite_map
use Rattle.std.specs.Prelude.{Option, Some, None, codes, bytes_eq, nat_le, nat_lt, if◌then◌else◌}
use Rattle.std.specs.Option.{option_map_or}
use Rattle.std.specs.List.{list_any, range_with_len}
use Rattle.std.proofs.lemmas.Bool.Decides.{nat_tests}
use Rattle.md5.specs.Md5.{md5}
use Rattle.pass_entry.specs.declared.entry.Entry.{Entry}
use Rattle.pass_entry.specs.declared.entry.Act.{Act}
use Rattle.pass_entry.specs.declared.entry.Act.TheVariants as act
use Rattle.pass_entry.specs.declared.objects.Node.{Node}
use Rattle.pass_entry.specs.declared.record.Record.{Record}
use Rattle.pass_entry.specs.declared.record.Record.TheVariants as log
use Rattle.pass_plain.specs.Histories.{is_fault}
use Rattle.pass_plain.specs.Sessions.{Session}
use Rattle.pass_plain.specs.Files.{file_after, file_act}
use Rattle.pass_plain.specs.Versions.{nodes_of, node_at_entry, source_in, is_fresh, is_freeze}
use Rattle.pass_plain.specs.Registries.{registry_after}
use Rattle.pass_plain.specs.Records.{block_size, digest_of, is_digested, content_records, version_records, act_records, entry_records, args_records, lost_name, file_named}
use Rattle.pass_plain.proofs.Lists.{same_numbers}
use Rattle.pass_range.specs.Rows.{range}
use Rattle.pass_range.specs.Sources.{Touch, stays, sets, goes, touch_of, touch, and_then}
use Rattle.pass_range.proofs.LastRows.{stays-then, touch-append}

-- whether a number is among those of a range that pass a test
any-filter : (t p : ℕ → Bool) (xs : List ℕ) → list_any p (filter t xs) ≡ list_any (λ x. t x && p x) xs
any-filter t p [] = refl
any-filter t p (x ∷ xs) = by_test (t x) (any-filter t p xs)
  where
    by_test : (b : Bool) → list_any p (filter t xs) ≡ list_any (λ x. t x && p x) xs → list_any p (cond b (x ∷ filter t xs) (filter t xs)) ≡ ((b && p x) || list_any (λ x. t x && p x) xs)
    by_test true same = ap (λ (r : Bool). p x || r) same
    by_test false same = same

any-range : (t : ℕ → Bool) (b k n : ℕ) → list_any (λ c. t c && (c == b)) (range_with_len k n) ≡ ((nat_le k b && nat_lt b (k + n)) && t b)
any-range t b k zero = by_test (nat_le k b) (nat_lt b (k + 0)) refl refl
  where
    by_test : (s u : Bool) → nat_le k b ≡ s → nat_lt b (k + 0) ≡ u → false ≡ ((s && u) && t b)
    by_test true true low high = absurd (let x : k ≤ b = grind (arith, nat_tests) in let y : b < k + 0 = grind (arith, nat_tests) in omega arith)
    by_test true false low high = refl
    by_test false u low high = refl
any-range t b k (suc n) = by_test (k == b) refl (any-range t b (k + 1) n)
  where
    only : (x : Bool) → (x && true) || false ≡ x
    only true = refl
    only false = refl

    neither : (x : Bool) → x && false ≡ false
    neither true = refl
    neither false = refl

    by_test : (s : Bool) → (k == b) ≡ s → list_any (λ c. t c && (c == b)) (range_with_len (k + 1) n) ≡ ((nat_le (k + 1) b && nat_lt b (k + 1 + n)) && t b)
        → ((t k && (k == b)) || list_any (λ c. t c && (c == b)) (range_with_len (k + 1) n)) ≡ ((nat_le k b && nat_lt b (k + suc n)) && t b)
    by_test true same more =
        let here : k ≡ b = same_numbers k b same in
        let past : nat_le (k + 1) b ≡ false = grind (arith, nat_tests, here) in
        let low : nat_le k b ≡ true = grind (arith, nat_tests, here) in
        let high : nat_lt b (k + suc n) ≡ true = grind (arith, nat_tests, here) in
        ap (λ (x : Bool). (t k && x) || list_any (λ c. t c && (c == b)) (range_with_len (k + 1) n)) same
        ∙ ap (λ (x : Bool). (t k && true) || x) (more ∙ ap (λ (x : Bool). (x && nat_lt b (k + 1 + n)) && t b) past)
        ∙ only (t k) ∙ ap t here
        ∙ sym (ap (λ (x : Bool). (x && nat_lt b (k + suc n)) && t b) low ∙ ap (λ (x : Bool). x && t b) high)
    by_test false apart more =
        let low : nat_le (k + 1) b ≡ nat_le k b = grind (arith, nat_tests, apart) in
        let high : nat_lt b (k + 1 + n) ≡ nat_lt b (k + suc n) = ap (nat_lt b) (let z : k + 1 + n ≡ k + suc n = omega arith in z) in
        ap (λ (x : Bool). (t k && x) || list_any (λ c. t c && (c == b)) (range_with_len (k + 1) n)) apart
        ∙ ap (λ (x : Bool). x || list_any (λ c. t c && (c == b)) (range_with_len (k + 1) n)) (neither (t k))
        ∙ more ∙ ap (λ (x : Bool). (x && nat_lt b (k + 1 + n)) && t b) low ∙ ap (λ (x : Bool). (nat_le k b && x) && t b) high

-- the digests of these blocks of a file set the rows of these blocks
digests_touch : (q p b : ℕ) (new : List ℕ) (blocks : List ℕ)
    → touch p b (map (digest_of q new) blocks) ≡ (if (q == p) && list_any (λ c. c == b) blocks then sets (md5 (range b new)) else stays)
digests_touch q p b new [] = by_test (q == p)
  where
    by_test : (s : Bool) → stays ≡ (if s && false then sets (md5 (range b new)) else stays)
    by_test true = refl
    by_test false = refl
digests_touch q p b new (c ∷ blocks) =
    ap (and_then (touch_of p b (digest_of q new c))) (digests_touch q p b new blocks) ∙ by_tests (q == p) (c == b) (list_any (λ c. c == b) blocks) refl
  where
    by_tests : (s t u : Bool) → (c == b) ≡ t → and_then (if s && t then sets (md5 (range c new)) else stays) (if s && u then sets (md5 (range b new)) else stays)
        ≡ (if s && (t || u) then sets (md5 (range b new)) else stays)
    by_tests true true true at = refl
    by_tests true true false at = ap (λ (i : ℕ). sets (md5 (range i new))) (same_numbers c b at)
    by_tests true false true at = refl
    by_tests true false false at = refl
    by_tests false t u at = refl

-- a file gets a size and the digests of those of its first blocks that pass a test
content_touch_of : (q p b n size : ℕ) (new : List ℕ) (test : ℕ → Bool)
    → touch p b (log.Size q size ∷ map (digest_of q new) (filter test (range_with_len 0 n)))
    ≡ (if q == p then (if nat_lt b n && test b then sets (md5 (range b new)) else if nat_le size (b * block_size) then goes else stays) else stays)
content_touch_of q p b n size new test =
    ap (and_then (touch_of p b (log.Size q size)))
    (digests_touch q p b new (filter test (range_with_len 0 n))
    ∙ ap (λ (x : Bool). if (q == p) && x then sets (md5 (range b new)) else stays) (any-filter test (λ c. c == b) (range_with_len 0 n) ∙ any-range test b 0 n))
    ∙ ap (λ (x : Bool). and_then (touch_of p b (log.Size q size)) (if (q == p) && ((x && nat_lt b (0 + n)) && test b) then sets (md5 (range b new)) else stays)) (low b)
    ∙ ap (λ (x : Bool). and_then (touch_of p b (log.Size q size)) (if (q == p) && ((true && x) && test b) then sets (md5 (range b new)) else stays)) (ap (nat_lt b) (let z : 0 + n ≡ n = omega arith in z))
    ∙ by_tests (q == p) (nat_lt b n && test b) (nat_le size (b * block_size))
  where
    low : (k : ℕ) → nat_le 0 k ≡ true
    low k = grind (arith, nat_tests)

    by_tests : (s t u : Bool) → and_then (if s && u then goes else stays) (if s && t then sets (md5 (range b new)) else stays)
        ≡ (if s then (if t then sets (md5 (range b new)) else if u then goes else stays) else stays)
    by_tests true true u = refl
    by_tests true false true = refl
    by_tests true false false = refl
    by_tests false t u = refl

-- what an entry does to the row of a block of a file, where it changes the file
abbrev pub content_touch : Session → List Entry → Entry → ℕ → Touch
content_touch session past e b =
    let new = file_act (file_after session past e.what) e.act in
    if nat_lt b 1024 && is_digested session past e b then sets (md5 (range b new)) else if nat_le (length new) (b * block_size) then goes else stays

-- the acts that change a file's content
abbrev pub is_change : Act → Bool
is_change (act.Put out at bytes) = true
is_change (act.Cut out size) = true
is_change _ = false

module _ (p b : ℕ) where
  attrs_touch : (node : Node) (args : List ℕ) → touch p b (args_records node args) ≡ stays
  attrs_touch node [] = refl
  attrs_touch node (x ∷ args) = refl

  version_touch : (session : Session) (past : List Entry) (e : Entry) (node : Node) → touch p b (version_records session past e node) ≡ stays
  version_touch session past e node =
      by_tests (is_freeze session past (nodes_of session past) e) (is_fresh session past (nodes_of session past) e) (source_in (nodes_of session past) e)
    where
      inputs : (o : Option Node) → touch p b (option_map_or (λ source. log.Input node source ∷ []) o []) ≡ stays
      inputs None = refl
      inputs (Some source) = refl

      by_tests : (s t : Bool) (o : Option Node) → touch p b ((if s then log.Version node ∷ [] else []) ++ (if t then option_map_or (λ source. log.Input node source ∷ []) o [] else [])) ≡ stays
      by_tests true true o = ap (and_then stays) (inputs o)
      by_tests true false o = refl
      by_tests false true o = inputs o
      by_tests false false o = refl

  lost_touch : (o : Option ℕ) (rest : List Record) → touch p b rest ≡ stays → touch p b (option_map_or (λ file. log.Name file [] ∷ []) o [] ++ rest) ≡ stays
  lost_touch None rest none = none
  lost_touch (Some file) rest none = ap (and_then stays) none

-- an entry that is no fault
act_touch : (p b : ℕ) (session : Session) (past : List Entry) (e : Entry) (node : Node) (a : Act) → e.act ≡ a
    → touch p b (act_records session past e node a) ≡ (if is_change a && (e.what == p) then content_touch session past e b else stays)
act_touch p b session past e node (act.Put out at bytes) is =
    touch-append p b (version_records session past e node) (content_records session past e)
    ∙ ap (λ (t : Touch). and_then t (touch p b (content_records session past e))) (version_touch p b session past e node)
    ∙ stays-then (touch p b (content_records session past e))
    ∙ content_touch_of e.what p b 1024 (length (file_act (file_after session past e.what) e.act)) (file_act (file_after session past e.what) e.act) (is_digested session past e)
act_touch p b session past e node (act.Cut out size) is =
    touch-append p b (version_records session past e node) (content_records session past e)
    ∙ ap (λ (t : Touch). and_then t (touch p b (content_records session past e))) (version_touch p b session past e node)
    ∙ stays-then (touch p b (content_records session past e))
    ∙ content_touch_of e.what p b 1024 (length (file_act (file_after session past e.what) e.act)) (file_act (file_after session past e.what) e.act) (is_digested session past e)
act_touch p b session past e node (act.Move from to) is = by_test (bytes_eq from to)
  where
    by_test : (t : Bool) → touch p b (if t then [] else lost_name (registry_after session past).names to ++ log.Name (file_named (registry_after session past).names from) to ∷ []) ≡ stays
    by_test true = refl
    by_test false = lost_touch p b (finite_map.get (registry_after session past).names to) (log.Name (file_named (registry_after session past).names from) to ∷ []) refl
act_touch p b session past e node (act.Exec out name args) is =
    touch-append p b (version_records session past e node) (log.Attr node (codes "EXE") name ∷ args_records node args)
    ∙ ap (λ (t : Touch). and_then t (touch p b (log.Attr node (codes "EXE") name ∷ args_records node args))) (version_touch p b session past e node)
    ∙ stays-then (touch p b (log.Attr node (codes "EXE") name ∷ args_records node args))
    ∙ ap (and_then stays) (attrs_touch p b node args)
act_touch p b session past e node (act.Bind name) is = refl
act_touch p b session past e node (act.Mint k) is = refl
act_touch p b session past e node (act.Unbind name) is = refl
act_touch p b session past e node (act.Tag attr value) is = refl
act_touch p b session past e node a is =
    touch-append p b (version_records session past e node) []
    ∙ version_touch p b session past e node

-- an entry
pub entry_touch : (p b : ℕ) (session : Session) (past : List Entry) (e : Entry)
    → touch p b (entry_records session past e) ≡ (if (not (is_fault e.reply) && is_change e.act) && (e.what == p) then content_touch session past e b else stays)
entry_touch p b session past e = by_test (is_fault e.reply)
  where
    by_test : (t : Bool) → touch p b (if t then [] else act_records session past e (node_at_entry session past (nodes_of session past) e) e.act)
        ≡ (if (not t && is_change e.act) && (e.what == p) then content_touch session past e b else stays)
    by_test true = refl
    by_test false = act_touch p b session past e (node_at_entry session past (nodes_of session past) e) e.act refl

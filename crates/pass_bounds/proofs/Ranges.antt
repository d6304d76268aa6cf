-- The records of a legal history are within their ranges.
use Rattle.std.proofs.Common.{◌≡◌, ◌∙◌, ◌==◌, ◌+◌, ◌*◌, ◌<◌, ◌≤◌, ℕ, zero, suc, Bool, true, false, cond, not, ◌&&◌, ◌||◌, List, [], ◌∷◌, ◌++◌, length, take, map, refl, ap, sym, subst, arith, inl, inr, length-append}
use Rattle.std.specs.Prelude.{Option, Some, None, is_some, filter, drop, codes, bytes_eq, nat_le, nat_lt, if◌then◌else◌}
use Rattle.std.specs.Option.{option_map_or}
use Rattle.std.specs.List.{All, list_all, range_with_len}
use Rattle.std.specs.FinMap as finite_map
use Rattle.std.proofs.lemmas.Bool.Decides.{nat_tests}
use Rattle.std.proofs.lemmas.List.Elements.{All-nil, All-append}
use Rattle.std.proofs.lemmas.Bool.{or_right}
use Rattle.md5.specs.Md5.{md5}
use Rattle.md5.proofs.StandardFacts.{length-md5}
use Rattle.pass_entry.specs.declared.entry.Entry.{Entry}
use Rattle.pass_entry.specs.declared.entry.Act.{Act}
use Rattle.pass_entry.specs.declared.entry.Act.TheVariants as act
use Rattle.pass_entry.specs.declared.entry.Reply.{Reply}
use Rattle.pass_entry.specs.declared.entry.CallFault.TheVariants as fault
use Rattle.pass_entry.specs.declared.objects.Kind.{Kind}
use Rattle.pass_entry.specs.declared.objects.Kind.TheVariants as kind
use Rattle.pass_entry.specs.declared.objects.Node.{Node}
use Rattle.pass_entry.specs.declared.record.Record.{Record}
use Rattle.pass_entry.specs.declared.record.Record.TheVariants as log
use Rattle.pass_entry.specs.Ranges.{IsInRange, is_number, is_node, is_name_or_none, is_value}
use Rattle.pass_entry.specs.Texts.{is_name, is_line, is_name_length, is_name_byte}
use Rattle.pass_entry.proofs.NameTexts.{name-line}
use Rattle.pass_plain.specs.Histories.{is_fault, pnode_of, made_kind, out_of}
use Rattle.pass_plain.specs.Sessions.{Session}
use Rattle.pass_plain.specs.Sound.{IsSound}
use Rattle.pass_plain.specs.Files.{file_after, file_act}
use Rattle.pass_plain.specs.Registries.{Names, registry_after, Exists}
use Rattle.pass_plain.specs.Replies.{reply_to, done_if}
use Rattle.pass_plain.specs.Versions.{is_exec, is_repeated, is_marked, is_fresh, is_freeze, node_at_entry, nodes_of, source_in}
use Rattle.pass_plain.specs.Legal.{IsLegal, MayFollow}
use Rattle.pass_plain.specs.Lawful.{is_registry_act}
use Rattle.pass_plain.specs.Records.{block_size, is_digested, digest_of, content_records, args_records, extra_records, version_records, lost_name, file_named, move_records, act_records, entry_records, records_of}
use Rattle.pass_plain.proofs.Lists.{some_is, true_left, true_right, both_true, same_itself}
use Rattle.pass_plain.proofs.Appends.{legal-push}
use Rattle.pass_plain.proofs.Calling.{legal_induction}
use Rattle.pass_plain.proofs.Making.{stocked}
use Rattle.pass_plain.proofs.Objects.{object_law}
use Rattle.pass_plain.proofs.Sizes.{files_fit}
use Rattle.pass_range.proofs.Changing.{records-next, file-changed}
use Rattle.pass_range.proofs.Digested.{is_change}
use Rattle.pass_bounds.specs.Lawful.{InRangeLaw}
use Rattle.pass_bounds.proofs.Arguments.{HasTexts, texts}
use Rattle.pass_bounds.proofs.Numbers.{IsYoung, node_is, source_is, entry_aged, object_number, new_number}
use Rattle.pass_graph.proofs.Prolonging.{registry_rests, registry_extra}

abbrev AreInRange : List Record → Type 0
AreInRange list = All IsInRange list

in_range-nil : AreInRange []
in_range-nil = All-nil IsInRange

in_range-cons : (one : Record) (list : List Record) → IsInRange one → AreInRange list → AreInRange (one ∷ list)
in_range-cons one list here rest zero d within = here
in_range-cons one list here rest (suc k) d within = rest k d (omega (arith, within))

in_range-one : (one : Record) → IsInRange one → AreInRange (one ∷ [])
in_range-one one here = in_range-cons one [] here in_range-nil

in_range-if : (b : Bool) (list : List Record) → (b ≡ true → AreInRange list) → AreInRange (if b then list else [])
in_range-if true list there = there refl
in_range-if false list there = in_range-nil

-- texts

-- a name is a value too
name_value : (name : List ℕ) → is_name name ≡ true → is_value name ≡ true
name_value name is =
    let lengths = true_left (is_name_length name) (list_all is_name_byte name) is in
    both_true (nat_le 1 (length name)) (is_line name) (true_left (nat_le 1 (length name)) (nat_le (length name) 255) lengths)
    (name-line name lengths (true_right (is_name_length name) (list_all is_name_byte name) is))

attr_in_range : (node : Node) (attr value : List ℕ) → is_node node ≡ true → is_name attr ≡ true → is_value value ≡ true → IsInRange (log.Attr node attr value)
attr_in_range node attr value one two three = both_true (is_node node && is_name attr) (is_value value) (both_true (is_node node) (is_name attr) one two) three

name_in_range : (file : ℕ) (name : List ℕ) → is_number file ≡ true → is_name name ≡ true → IsInRange (log.Name file name)
name_in_range file name one two = both_true (is_number file) (is_name_or_none name) one (or_right (length name == 0) (is_name name) two)

nameless_in_range : (file : ℕ) → is_number file ≡ true → IsInRange (log.Name file [])
nameless_in_range file one = both_true (is_number file) true one refl

args_in_range : (node : Node) (args : List ℕ) → is_node node ≡ true → is_line args ≡ true → AreInRange (args_records node args)
args_in_range node [] here line = in_range-nil
args_in_range node (b ∷ args) here line = in_range-one (log.Attr node (codes "ARGV") (b ∷ args)) (attr_in_range node (codes "ARGV") (b ∷ args) here refl (both_true (nat_le 1 (length (b ∷ args))) (is_line (b ∷ args)) (some (length args)) line))
  where
    some : (n : ℕ) → nat_le 1 (suc n) ≡ true
    some n = grind (arith, nat_tests)

-- digests

digest_in_range : (file block : ℕ) (content : List ℕ) → is_number file ≡ true → block < 1024 → IsInRange (digest_of file content block)
digest_in_range file block content here low =
    let bytes = take block_size (drop (block * block_size) content) in
    both_true (is_number file && nat_lt block 1024) (length (md5 bytes) == 16) (both_true (is_number file) (nat_lt block 1024) here (let z : nat_lt block 1024 ≡ true = grind (arith, nat_tests) in z))
    (ap (λ (n : ℕ). n == 16) (length-md5 bytes))

digests_in_range : (file : ℕ) (content : List ℕ) (test : ℕ → Bool) → is_number file ≡ true → (first count : ℕ) → first + count ≤ 1024
    → AreInRange (map (digest_of file content) (filter test (range_with_len first count)))
digests_in_range file content test here first zero within = in_range-nil
digests_in_range file content test here first (suc count) within = by_test (test first) (digests_in_range file content test here (first + 1) count (omega (arith, within)))
  where
    by_test : (b : Bool) → AreInRange (map (digest_of file content) (filter test (range_with_len (first + 1) count)))
        → AreInRange (map (digest_of file content) (cond b (first ∷ filter test (range_with_len (first + 1) count)) (filter test (range_with_len (first + 1) count))))
    by_test true later = in_range-cons (digest_of file content first) _ (digest_in_range file first content here (omega (arith, within))) later
    by_test false later = later

-- the file of a name that the registry has

holds_name : (names : Names) (name : List ℕ) (y : Reply) → done_if (finite_map.contains_key names name) fault.NoEntry ≡ y → is_fault y ≡ false → (file : ℕ) × (finite_map.get names name ≡ Some file)
holds_name names name y e done = by_get (finite_map.get names name) refl e
  where
    by_get : (o : Option ℕ) → finite_map.get names name ≡ o → done_if (is_some o) fault.NoEntry ≡ y → (file : ℕ) × (finite_map.get names name ≡ Some file)
    by_get (Some file) is e = (file, is)
    by_get None is e = absurd (let z : true ≡ false = ap is_fault e ∙ done in cc)

-- one entry

module _ (session : Session) (sound : IsSound session) (past : List Entry) (legal : IsLegal session past) (e : Entry) (next : MayFollow session past e) (young : IsYoung session (length past + 1)) where
  abbrev nodes : List Node
  nodes = nodes_of session past

  abbrev node : Node
  node = node_at_entry session past nodes e

  abbrev names : Names
  names = (registry_after session past).names

  earlier : IsYoung session (length past)
  earlier object = let z = young object in omega (arith, z)

  -- the file that has a name
  named_number : (name : List ℕ) (file : ℕ) → finite_map.get names name ≡ Some file → is_number file ≡ true
  named_number name file is = object_number session sound past legal file kind.File ((stocked session sound past legal).named name file is)

  file_number : (name : List ℕ) → (file : ℕ) × (finite_map.get names name ≡ Some file) → is_number (file_named names name) ≡ true
  file_number name (file, is) = ap is_number (ap (λ o. option_map_or (λ (file : ℕ). file) o 0) is) ∙ named_number name file is

  lost_in_range : (name : List ℕ) (o : Option ℕ) → finite_map.get names name ≡ o → AreInRange (option_map_or (λ file. log.Name file [] ∷ []) o [])
  lost_in_range name None is = in_range-nil
  lost_in_range name (Some file) is = in_range-one (log.Name file []) (nameless_in_range file (named_number name file is))

  module _ (done : is_fault e.reply ≡ false) where
    move_in_range : (from to : List ℕ) → is_name to ≡ true → reply_to session past e.what (act.Move from to) ≡ Some e.reply → AreInRange (move_records names from to)
    move_in_range from to fits given = by_test (bytes_eq from to)
      where
        moved : List Record
        moved = lost_name names to ++ log.Name (file_named names from) to ∷ []

        by_test : (b : Bool) → AreInRange (if b then [] else moved)
        by_test true = in_range-nil
        by_test false =
            All-append IsInRange (lost_name names to) (log.Name (file_named names from) to ∷ []) (lost_in_range to (finite_map.get names to) refl)
            (in_range-one (log.Name (file_named names from) to) (name_in_range (file_named names from) to (file_number from (holds_name names from e.reply (some_is _ _ given) done)) fits))

    content_in_range : is_number e.what ≡ true → is_change e.act ≡ true → AreInRange (content_records session past e)
    content_in_range here change =
        let new = file_act (file_after session past e.what) e.act in
        let after : file_after session (past ++ e ∷ []) e.what ≡ new = file-changed session past e e.what (both_true (not (is_fault e.reply) && is_change e.act) (e.what == e.what) (both_true (not (is_fault e.reply)) (is_change e.act) (ap not done) change) (same_itself e.what)) in
        let fits = files_fit session sound (past ++ e ∷ []) (legal-push session past e legal next) e.what in
        let size = ap length after in
        in_range-cons (log.Size e.what (length new)) (map (digest_of e.what new) (filter (is_digested session past e) (range_with_len 0 1024)))
        (both_true (is_number e.what) (nat_le (length new) 4194304) here (least (length new) 4194304 (omega (arith, fits, size))))
        (digests_in_range e.what new (is_digested session past e) here 0 1024 (omega arith))
      where
        least : (a b : ℕ) → a ≤ b → nat_le a b ≡ true
        least a b h = grind (arith, nat_tests)

    extra_in_range : is_node node ≡ true → (a : Act) → e.act ≡ a → HasTexts a → AreInRange (extra_records session past e node a)
    extra_in_range here (act.Put out at bytes) is text = content_in_range (true_left (is_number e.what) (is_number node.version) here) (ap is_change is)
    extra_in_range here (act.Cut out size) is text = content_in_range (true_left (is_number e.what) (is_number node.version) here) (ap is_change is)
    extra_in_range here (act.Exec out name args) is text =
        in_range-cons (log.Attr node (codes "EXE") name) (args_records node args) (attr_in_range node (codes "EXE") name here refl (name_value name text.0)) (args_in_range node args here text.1)
    extra_in_range here _ is text = in_range-nil

    inputs_in_range : is_node node ≡ true → (o : Option Node) → source_in nodes e ≡ o → AreInRange (option_map_or (λ source. log.Input node source ∷ []) o [])
    inputs_in_range here None is = in_range-nil
    inputs_in_range here (Some s) is = in_range-one (log.Input node s) (both_true (is_node node) (is_node s) here (source_is session sound past legal e next earlier s is))

    versions_in_range : is_node node ≡ true → AreInRange (version_records session past e node)
    versions_in_range here =
        All-append IsInRange (if is_freeze session past nodes e then log.Version node ∷ [] else [])
        (if is_fresh session past nodes e then option_map_or (λ source. log.Input node source ∷ []) (source_in nodes e) [] else [])
        (in_range-if (is_freeze session past nodes e) (log.Version node ∷ []) (λ freezes. in_range-one (log.Version node) here))
        (in_range-if (is_fresh session past nodes e) (option_map_or (λ source. log.Input node source ∷ []) (source_in nodes e) []) (λ fresh. inputs_in_range here (source_in nodes e) refl))

    node_here : (k : Kind) → Exists (registry_after session past) e.what k → is_node node ≡ true
    node_here k there = node_is session (length past + 1) node (object_number session sound past legal e.what k there) (entry_aged session sound past e) young

    -- the records of an entry on the registry that makes and names nothing
    quiet : is_registry_act e.act ≡ true → version_records session past e node ++ extra_records session past e node e.act ≡ []
    quiet registry =
        let (always, out) = registry_rests e.act registry in
        let stale : is_fresh session past nodes e ≡ false = ap (λ o. option_map_or (λ out. true) o false && (is_exec e.act || not (is_repeated session past nodes e))) (no_place (is_fault e.reply) (out_of e.act) out) in
        let kept : is_freeze session past nodes e ≡ false =
        ap (λ b. not (is_fault e.reply) && (b || (is_fresh session past nodes e && is_marked session past nodes e.what))) always
        ∙ ap (λ b. not (is_fault e.reply) && (b && is_marked session past nodes e.what)) stale ∙ nothing (not (is_fault e.reply)) in
        ap (λ b. ((if b then log.Version node ∷ [] else []) ++ (if is_fresh session past nodes e then option_map_or (λ source. log.Input node source ∷ []) (source_in nodes e) [] else [])) ++ extra_records session past e node e.act) kept
        ∙ ap (λ b. (if b then option_map_or (λ source. log.Input node source ∷ []) (source_in nodes e) [] else []) ++ extra_records session past e node e.act) stale
        ∙ registry_extra session past e node e.act registry
      where
        no_place : (b : Bool) (o : Option ℕ) → o ≡ None → (if b then None else o) ≡ None
        no_place true o z = refl
        no_place false o z = z

        nothing : (b : Bool) → b && false ≡ false
        nothing true = refl
        nothing false = refl

    flow_in_range : AreInRange (version_records session past e node ++ extra_records session past e node e.act)
    flow_in_range = elim (object_law session sound past e legal next) [
      | inl registry ↦ subst AreInRange (sym (quiet registry.0)) in_range-nil
      | inr there ↦
          let here = node_here there.0 there.1 in
          All-append IsInRange (version_records session past e node) (extra_records session past e node e.act) (versions_in_range here) (extra_in_range here e.act refl (texts session past e next))
    ]

    act_in_range : (a : Act) → e.act ≡ a → AreInRange (act_records session past e node a)
    act_in_range (act.Bind name) is =
        let here = new_number session sound past legal e next done kind.File (ap made_kind is) in
        in_range-cons (log.Object (pnode_of e.reply) kind.File) (log.Name (pnode_of e.reply) name ∷ []) here
        (in_range-one (log.Name (pnode_of e.reply) name) (name_in_range (pnode_of e.reply) name here (subst HasTexts is (texts session past e next))))
    act_in_range (act.Mint k) is = in_range-one (log.Object (pnode_of e.reply) k) (new_number session sound past legal e next done k (ap made_kind is))
    act_in_range (act.Move from to) is = move_in_range from to (subst HasTexts is (texts session past e next)) (ap (reply_to session past e.what) (sym is) ∙ next.replied)
    act_in_range (act.Unbind name) is =
        let given : reply_to session past e.what (act.Unbind name) ≡ Some e.reply = ap (reply_to session past e.what) (sym is) ∙ next.replied in
        in_range-one (log.Name (file_named names name) []) (nameless_in_range (file_named names name) (file_number name (holds_name names name e.reply (some_is _ _ given) done)))
    act_in_range (act.Tag attr value) is = elim (object_law session sound past e legal next) [
      | inl registry ↦ absurd (let z : false ≡ true = ap is_registry_act (sym is) ∙ registry.0 in cc)
      | inr there ↦
          let (named, valued) = subst HasTexts is (texts session past e next) in
          in_range-one (log.Attr node attr value) (attr_in_range node attr value (node_here there.0 there.1) named (name_value value valued))
    ]
    act_in_range a is = subst (λ x. AreInRange (version_records session past e node ++ extra_records session past e node x)) is flow_in_range

  entry_in_range : AreInRange (entry_records session past e)
  entry_in_range = by_fault (is_fault e.reply) refl
    where
      by_fault : (b : Bool) → is_fault e.reply ≡ b → AreInRange (if b then [] else act_records session past e node e.act)
      by_fault true failed = in_range-nil
      by_fault false done = act_in_range done e.act refl

-- all entries

pub in_range_law : InRangeLaw
in_range_law session sound = legal_induction session (λ h. IsYoung session (length h) → AreInRange (records_of session h)) (λ young. in_range-nil) more
  where
    more : (history : List Entry) (e : Entry) → IsLegal session history → (IsYoung session (length history) → AreInRange (records_of session history)) → MayFollow session history e
        → IsYoung session (length (history ++ e ∷ [])) → AreInRange (records_of session (history ++ e ∷ []))
    more history e legal was next young =
        let longer = length-append history (e ∷ []) in
        let now_young : IsYoung session (length history + 1) = λ object. let z = young object in omega (arith, z, longer) in
        subst AreInRange (sym (records-next session history e))
        (All-append IsInRange (records_of session history) (entry_records session history e) (was (λ object. let z = young object in omega (arith, z, longer)))
        (entry_in_range session sound history legal e next now_young))

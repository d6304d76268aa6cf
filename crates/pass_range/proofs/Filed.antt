-- The sizes and the numbers of files in the list of a session.
use Rattle.std.proofs.Common.{◌≡◌, ◌∙◌, ◌==◌, ◌&&◌, ℕ, suc, Bool, true, false, not, cond, List, [], ◌∷◌, ◌++◌, length, map, filter, fold, refl, sym, ap}
use Rattle.std.specs.FinMap as finite_map
use Rattle.std.specs.Prelude.{Option, Some, None, find, codes, bytes_eq, slice_get, if◌then◌else◌}
use Rattle.std.specs.Option.{option_map_or}
use Rattle.std.specs.List.{range_with_len, cons_option}
use Rattle.std.proofs.lemmas.List.Sums.{fold-append}
use Rattle.std.proofs.lemmas.List.Elements.{filter_map-append}
use Rattle.std.proofs.lemmas.List.{append-nil}
use Rattle.pass_entry.specs.declared.entry.Entry.{Entry}
use Rattle.pass_entry.specs.declared.entry.Act.{Act}
use Rattle.pass_entry.specs.declared.entry.Act.TheVariants as act
use Rattle.pass_entry.specs.declared.objects.Node.{Node}
use Rattle.pass_entry.specs.declared.objects.Kind.TheVariants as kind
use Rattle.pass_entry.specs.declared.record.Record.{Record}
use Rattle.pass_entry.specs.declared.record.Record.TheVariants as log
use Rattle.pass_plain.specs.declared.start.StartFile.{StartFile}
use Rattle.pass_plain.specs.Histories.{is_fault, pnode_of}
use Rattle.pass_plain.specs.Sessions.{Session}
use Rattle.pass_plain.specs.Files.{file_after, file_act}
use Rattle.pass_plain.specs.Versions.{nodes_of, node_at_entry, source_in, is_fresh, is_freeze}
use Rattle.pass_plain.specs.Registries.{registry_after, same_kind}
use Rattle.pass_plain.specs.Sound.{IsSound, IsSoundFile}
use Rattle.pass_plain.specs.WellLogged.{size_look, size_of}
use Rattle.pass_plain.specs.Records.{digest_of, is_digested, content_records, version_records, act_records, entry_records, args_records, lost_name, file_named, move_records, records_of}
use Rattle.pass_range.specs.Rows.{file_made, files_of}
use Rattle.pass_range.specs.Lawful.{Tells}
use Rattle.pass_range.proofs.Digested.{is_change}
use Rattle.pass_range.proofs.Changing.{snoc_induction, list-next, changes, file-kept, file-changed, what-is}

-- records that give no size and make no file
record IsPlain (list : List Record) : Type 0 where
  sizes : (p n : ℕ) → fold (size_look p) n list ≡ n
  files : files_of list ≡ []

plain_none : IsPlain []
plain_none = record { sizes = λ p n. refl; files = refl }

plain_both : (xs ys : List Record) → IsPlain xs → IsPlain ys → IsPlain (xs ++ ys)
plain_both xs ys one two = record {
  sizes = λ p n. fold-append (size_look p) n xs ys ∙ ap (λ (m : ℕ). fold (size_look p) m ys) (one.sizes p n) ∙ two.sizes p n;
  files = filter_map-append file_made xs ys ∙ ap (λ (l : List ℕ). l ++ files_of ys) one.files ∙ two.files;
}

plain_args : (node : Node) (args : List ℕ) → IsPlain (args_records node args)
plain_args node [] = plain_none
plain_args node (x ∷ args) = record { sizes = λ p n. refl; files = refl }

plain_version : (session : Session) (past : List Entry) (e : Entry) (node : Node) → IsPlain (version_records session past e node)
plain_version session past e node =
    plain_both (if is_freeze session past (nodes_of session past) e then log.Version node ∷ [] else [])
    (if is_fresh session past (nodes_of session past) e then option_map_or (λ source. log.Input node source ∷ []) (source_in (nodes_of session past) e) [] else [])
    (frozen (is_freeze session past (nodes_of session past) e)) (fresh (is_fresh session past (nodes_of session past) e) (source_in (nodes_of session past) e))
  where
    frozen : (t : Bool) → IsPlain (if t then log.Version node ∷ [] else [])
    frozen true = record { sizes = λ p n. refl; files = refl }
    frozen false = plain_none

    fresh : (t : Bool) (o : Option Node) → IsPlain (if t then option_map_or (λ source. log.Input node source ∷ []) o [] else [])
    fresh true (Some source) = record { sizes = λ p n. refl; files = refl }
    fresh true None = plain_none
    fresh false o = plain_none

plain_digests : (q : ℕ) (new : List ℕ) (blocks : List ℕ) → IsPlain (map (digest_of q new) blocks)
plain_digests q new [] = plain_none
plain_digests q new (b ∷ blocks) = let more = plain_digests q new blocks in record { sizes = λ p n. more.sizes p n; files = more.files }

plain_move : (names : finite_map.FinMap _ ℕ) (from to : List ℕ) → IsPlain (move_records names from to)
plain_move names from to = by_test (bytes_eq from to)
  where
    lost : (o : Option ℕ) → IsPlain (option_map_or (λ file. log.Name file [] ∷ []) o [])
    lost None = plain_none
    lost (Some file) = record { sizes = λ p n. refl; files = refl }

    by_test : (t : Bool) → IsPlain (if t then [] else lost_name names to ++ log.Name (file_named names from) to ∷ [])
    by_test true = plain_none
    by_test false = plain_both (lost_name names to) (log.Name (file_named names from) to ∷ []) (lost (finite_map.get names to)) (record { sizes = λ p n. refl; files = refl })

-- what an entry that is no fault makes of sizes and files

-- the size that an act gives to its file
abbrev pub sized : Session → List Entry → Entry → Act → ℕ → ℕ → ℕ
sized session past e a p n = if is_change a && (e.what == p) then length (file_act (file_after session past e.what) e.act) else n

-- the files that an act makes
abbrev pub made_files : Act → ℕ → List ℕ
made_files (act.Bind name) pnode = pnode ∷ []
made_files (act.Mint k) pnode = if same_kind k kind.File then pnode ∷ [] else []
made_files _ pnode = []

record IsTold (session : Session) (past : List Entry) (e : Entry) (a : Act) (list : List Record) : Type 0 where
  sizes : (p n : ℕ) → fold (size_look p) n list ≡ sized session past e a p n
  files : files_of list ≡ made_files a (pnode_of e.reply)

content_told : (session : Session) (past : List Entry) (e : Entry) (node : Node) (p n : ℕ)
    → fold (size_look p) n (version_records session past e node ++ content_records session past e) ≡ (if e.what == p then length (file_act (file_after session past e.what) e.act) else n)
content_told session past e node p n =
    let new = file_act (file_after session past e.what) e.act in
    fold-append (size_look p) n (version_records session past e node) (content_records session past e)
    ∙ ap (λ (m : ℕ). fold (size_look p) m (content_records session past e)) ((plain_version session past e node).sizes p n)
    ∙ (plain_digests e.what new (filter (is_digested session past e) (range_with_len 0 1024))).sizes p (if e.what == p then length new else n)

content_files : (session : Session) (past : List Entry) (e : Entry) (node : Node) → files_of (version_records session past e node ++ content_records session past e) ≡ []
content_files session past e node =
    let new = file_act (file_after session past e.what) e.act in
    filter_map-append file_made (version_records session past e node) (content_records session past e)
    ∙ ap (λ (l : List ℕ). l ++ files_of (content_records session past e)) (plain_version session past e node).files
    ∙ (plain_digests e.what new (filter (is_digested session past e) (range_with_len 0 1024))).files

told_plain : (session : Session) (past : List Entry) (e : Entry) (a : Act) (list : List Record) → is_change a ≡ false → made_files a (pnode_of e.reply) ≡ [] → IsPlain list → IsTold session past e a list
told_plain session past e a list still none plain = record {
  sizes = λ p n. plain.sizes p n ∙ sym (ap (λ (t : Bool). if t && (e.what == p) then length (file_act (file_after session past e.what) e.act) else n) still);
  files = plain.files ∙ sym none;
}

act_told : (session : Session) (past : List Entry) (e : Entry) (node : Node) (a : Act) → IsTold session past e a (act_records session past e node a)
act_told session past e node (act.Put out at bytes) = record { sizes = content_told session past e node; files = content_files session past e node }
act_told session past e node (act.Cut out size) = record { sizes = content_told session past e node; files = content_files session past e node }
act_told session past e node (act.Bind name) = record { sizes = λ p n. refl; files = refl }
act_told session past e node (act.Mint k) = record { sizes = λ p n. refl; files = by_kind (same_kind k kind.File) }
  where
    by_kind : (t : Bool) → cons_option (if t then Some (pnode_of e.reply) else None) [] ≡ (if t then pnode_of e.reply ∷ [] else [])
    by_kind true = refl
    by_kind false = refl
act_told session past e node (act.Move from to) = told_plain session past e (act.Move from to) _ refl refl (plain_move (registry_after session past).names from to)
act_told session past e node (act.Unbind name) = record { sizes = λ p n. refl; files = refl }
act_told session past e node (act.Tag attr value) = record { sizes = λ p n. refl; files = refl }
act_told session past e node (act.Exec out name args) =
    told_plain session past e (act.Exec out name args) _ refl refl
    (plain_both (version_records session past e node) (log.Attr node (codes "EXE") name ∷ args_records node args) (plain_version session past e node)
    (plain_both (log.Attr node (codes "EXE") name ∷ []) (args_records node args) (record { sizes = λ p n. refl; files = refl }) (plain_args node args)))
act_told session past e node a = told_plain session past e a _ refl refl (plain_both (version_records session past e node) [] (plain_version session past e node) plain_none)

entry_sizes : (session : Session) (past : List Entry) (e : Entry) (p n : ℕ)
    → fold (size_look p) n (entry_records session past e) ≡ (if (not (is_fault e.reply) && is_change e.act) && (e.what == p) then length (file_act (file_after session past e.what) e.act) else n)
entry_sizes session past e p n = by_test (is_fault e.reply)
  where
    by_test : (t : Bool) → fold (size_look p) n (if t then [] else act_records session past e (node_at_entry session past (nodes_of session past) e) e.act)
        ≡ (if (not t && is_change e.act) && (e.what == p) then length (file_act (file_after session past e.what) e.act) else n)
    by_test true = refl
    by_test false = (act_told session past e (node_at_entry session past (nodes_of session past) e) e.act).sizes p n

pub entry_files : (session : Session) (past : List Entry) (e : Entry) → files_of (entry_records session past e) ≡ (if is_fault e.reply then [] else made_files e.act (pnode_of e.reply))
entry_files session past e = by_test (is_fault e.reply)
  where
    by_test : (t : Bool) → files_of (if t then [] else act_records session past e (node_at_entry session past (nodes_of session past) e) e.act) ≡ (if t then [] else made_files e.act (pnode_of e.reply))
    by_test true = refl
    by_test false = (act_told session past e (node_at_entry session past (nodes_of session past) e) e.act).files

-- sizes

opened_sized : (files : List StartFile) (p : ℕ) → ((i : ℕ) (file : StartFile) → slice_get files i ≡ Some file → IsSoundFile file)
    → option_map_or (λ (f : StartFile). f.size) (find (λ f. f.node.pnode == p) files) 0 ≡ length (option_map_or (λ (f : StartFile). f.bytes.items) (find (λ f. f.node.pnode == p) files) [])
opened_sized [] p sound = refl
opened_sized (f ∷ files) p sound = by_test (f.node.pnode == p) (opened_sized files p (λ i file at. sound (suc i) file at))
  where
    by_test : (t : Bool) → option_map_or (λ (f : StartFile). f.size) (find (λ f. f.node.pnode == p) files) 0 ≡ length (option_map_or (λ (f : StartFile). f.bytes.items) (find (λ f. f.node.pnode == p) files) [])
        → option_map_or (λ (f : StartFile). f.size) (cond t (Some f) (find (λ f. f.node.pnode == p) files)) 0
        ≡ length (option_map_or (λ (f : StartFile). f.bytes.items) (cond t (Some f) (find (λ f. f.node.pnode == p) files)) [])
    by_test true more = (sound 0 f refl).sized
    by_test false more = more

pub size_law : (before : List Record) (session : Session) → IsSound session → Tells before session.start → (history : List Entry) (p : ℕ)
    → size_of (before ++ records_of session history) p ≡ length (file_after session history p)
size_law before session sound tells history p = snoc_induction (λ h. size_of (before ++ records_of session h) p ≡ length (file_after session h p))
    (ap (λ (l : List Record). size_of l p) (append-nil before) ∙ tells.sizes p ∙ opened_sized session.start.files.items p sound.files) more history
  where
    more : (history : List Entry) (e : Entry) → size_of (before ++ records_of session history) p ≡ length (file_after session history p)
        → size_of (before ++ records_of session (history ++ e ∷ [])) p ≡ length (file_after session (history ++ e ∷ []) p)
    more history e same =
        ap (λ (l : List Record). size_of l p) (list-next session history e before)
        ∙ fold-append (size_look p) 0 (before ++ records_of session history) (entry_records session history e)
        ∙ entry_sizes session history e p (size_of (before ++ records_of session history) p)
        ∙ by_change (changes session history e p) refl
      where
        by_change : (t : Bool) → changes session history e p ≡ t
            → (if t then length (file_act (file_after session history e.what) e.act) else size_of (before ++ records_of session history) p) ≡ length (file_after session (history ++ e ∷ []) p)
        by_change false kept = same ∙ ap length (sym (file-kept session history e p kept))
        by_change true changed =
            ap (λ (q : ℕ). length (file_act (file_after session history q) e.act)) (what-is session history e p changed) ∙ ap length (sym (file-changed session history e p changed))

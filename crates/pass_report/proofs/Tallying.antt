-- The records of one more entry: how many they are, and their edges.
use Rattle.std.proofs.Common.{◌≡◌, ◌+◌, ◌-◌, ℕ, List, [], ◌∷◌, ◌++◌, length, map, refl, ap, sym, ◌∙◌, Bool, true, false, ◌&&◌, ◌||◌, not, arith}
use Rattle.std.specs.Prelude.{Option, Some, None, is_some, fold, flat_map, filter, bytes_eq, if◌then◌else◌, codes}
use Rattle.std.specs.Option.{option_map_or}
use Rattle.std.specs.List.{range_with_len}
use Rattle.std.specs.BTreeSet.{insert_key}
use Rattle.std.specs.FinMap as finite_map
use Rattle.std.proofs.lemmas.List.{length-append, append-nil}
use Rattle.std.proofs.lemmas.List.Sums.{fold-append}
use Rattle.std.proofs.lemmas.List.Concat.{flat_map-append}
use Rattle.pass_entry.specs.declared.entry.Entry.{Entry}
use Rattle.pass_entry.specs.declared.entry.Act.{Act}
use Rattle.pass_entry.specs.declared.entry.Act.TheVariants as act
use Rattle.pass_entry.specs.declared.objects.Node.{Node}
use Rattle.pass_entry.specs.declared.record.Record.{Record}
use Rattle.pass_entry.specs.declared.record.Record.TheVariants as log
use Rattle.pass_plain.specs.Histories.{is_fault, out_of}
use Rattle.pass_plain.specs.Sessions.{Session}
use Rattle.pass_plain.specs.Files.{file_after, file_act}
use Rattle.pass_plain.specs.Registries.{registry_after}
use Rattle.pass_plain.specs.Versions.{nodes_of, node_at_entry, source_in, is_in, is_exec, is_fresh, is_freeze, is_marked, is_repeated, always_freezes}
use Rattle.pass_plain.specs.Records.{records_of, entry_records, act_records, version_records, content_records, file_named, digest_of, is_digested}
use Rattle.pass_report.specs.Reports.{Edge, ascending, edge_cmp, edges_of_record}
use Rattle.pass_report.specs.declared.names.Names.{Names}
use Rattle.pass_plain.specs.declared.nodes.VersionStep.{VersionStep}
use Rattle.pass_plain.proofs.RecordedBy.{records_of-append}
use Rattle.pass_report.specs.Trails.{IsTurn}
use Rattle.pass_report.specs.Names.{holds, AreNames}
use Rattle.pass_report.specs.Contents.{content_count}
use Rattle.pass_report.specs.Logging.{one_if, version_count, own_count, turn_edges}

-- an entry that names no place takes from nothing
no_in : (e : Entry) → out_of e.act ≡ None → is_in e ≡ false
no_in e none = ap (λ o. option_map_or (λ out. true) o false) (by_fault (is_fault e.reply))
  where
    by_fault : (b : Bool) → (if b then None else out_of e.act) ≡ None
    by_fault true = refl
    by_fault false = none

module _ (session : Session) (past : List Entry) (e : Entry) (turn : VersionStep) (turned : IsTurn session past e turn) where
  abbrev nodes : List Node
  nodes = nodes_of session past

  abbrev node : Node
  node = node_at_entry session past nodes e

  quiet_fresh : out_of e.act ≡ None → is_fresh session past nodes e ≡ false
  quiet_fresh none = ap (λ b. b && (is_exec e.act || not (is_repeated session past nodes e))) (no_in e none)

  quiet_freeze : out_of e.act ≡ None → always_freezes e.act ≡ false → is_freeze session past nodes e ≡ false
  quiet_freeze none steady =
      (λ i. not (is_fault e.reply) && (steady i || (quiet_fresh none i && is_marked session past nodes e.what))) ∙ nothing (is_fault e.reply)
    where
      nothing : (b : Bool) → not b && (false || (false && is_marked session past (nodes_of session past) e.what)) ≡ false
      nothing true = refl
      nothing false = refl

  -- an act that neither takes nor freezes has no edge
  quiet_edges : out_of e.act ≡ None → always_freezes e.act ≡ false → [] ≡ turn_edges turn
  quiet_edges none steady =
      sym ((λ i. (if (turned.freezes ∙ quiet_freeze none steady) i then (turn.node, record { pnode = turn.node.pnode; version = turn.node.version - 1 }) ∷ [] else [])
      ++ option_map_or (λ source. (turn.node, source) ∷ []) ((turned.source ∙ ap (λ b. if b then source_in nodes e else None) (quiet_fresh none)) i) []))

  version_length : length (version_records session past e node) ≡ version_count turn
  version_length =
      length-append (if is_freeze session past nodes e then log.Version node ∷ [] else []) (if is_fresh session past nodes e then option_map_or (λ source. log.Input node source ∷ []) (source_in nodes e) [] else [])
      ∙ (λ i. freezes (is_freeze session past nodes e) i + takes (is_fresh session past nodes e) (source_in nodes e) i)
      ∙ sym (λ i. one_if (turned.freezes i) + one_if (is_some (turned.source i)))
    where
      freezes : (b : Bool) → length (if b then log.Version (node_at_entry session past (nodes_of session past) e) ∷ [] else []) ≡ one_if b
      freezes true = refl
      freezes false = refl

      takes : (b : Bool) (o : Option Node) → length (if b then option_map_or (λ source. log.Input (node_at_entry session past (nodes_of session past) e) source ∷ []) o [] else []) ≡ one_if (is_some (if b then o else None))
      takes true (Some s) = refl
      takes true None = refl
      takes false o = refl

  version_edges : flat_map edges_of_record (version_records session past e node) ≡ turn_edges turn
  version_edges =
      flat_map-append edges_of_record (if is_freeze session past nodes e then log.Version node ∷ [] else []) (if is_fresh session past nodes e then option_map_or (λ source. log.Input node source ∷ []) (source_in nodes e) [] else [])
      ∙ (λ i. freezes (is_freeze session past nodes e) i ++ takes (is_fresh session past nodes e) (source_in nodes e) i)
      ∙ sym (λ i. (if turned.freezes i then (turned.node i, record { pnode = (turned.node i).pnode; version = (turned.node i).version - 1 }) ∷ [] else [])
      ++ option_map_or (λ source. (turned.node i, source) ∷ []) (turned.source i) [])
    where
      freezes : (b : Bool) → flat_map edges_of_record (if b then log.Version (node_at_entry session past (nodes_of session past) e) ∷ [] else [])
          ≡ (if b then (node_at_entry session past (nodes_of session past) e, record { pnode = e.what; version = (node_at_entry session past (nodes_of session past) e).version - 1 }) ∷ [] else [])
      freezes true = refl
      freezes false = refl

      takes : (b : Bool) (o : Option Node) → flat_map edges_of_record (if b then option_map_or (λ source. log.Input (node_at_entry session past (nodes_of session past) e) source ∷ []) o [] else [])
          ≡ option_map_or (λ source. (node_at_entry session past (nodes_of session past) e, source) ∷ []) (if b then o else None) []
      takes true (Some s) = refl
      takes true None = refl
      takes false o = refl

  -- what follows the records of an IN: none of them is an edge
  no_digest_edges : (f : Record → List Edge) (g : ℕ → Record) → ((n : ℕ) → f (g n) ≡ []) → (xs : List ℕ) → flat_map f (map g xs) ≡ []
  no_digest_edges f g none [] = refl
  no_digest_edges f g none (x ∷ xs) = (λ i. none x i ++ no_digest_edges f g none xs i)

  content_edges : flat_map edges_of_record (content_records session past e) ≡ []
  content_edges =
      no_digest_edges edges_of_record (digest_of e.what (file_act (file_after session past e.what) e.act)) (λ n. refl) (filter (is_digested session past e) (range_with_len 0 1024))

  -- the records of an entry by its act
  record IsCounted (names : Names) (a : Act) : Type 0 where
    count : length (act_records session past e node a) ≡ own_count names turn a + content_count session past e a
    edges : flat_map edges_of_record (act_records session past e node a) ≡ turn_edges turn

  -- a new version, an input, and what follows them
  joined_records : (names : Names) (a : Act) (extra : List Record) (n m : ℕ) → act_records session past e node a ≡ version_records session past e node ++ extra
      → own_count names turn a + content_count session past e a ≡ version_count turn + n → length extra ≡ n → flat_map edges_of_record extra ≡ [] → IsCounted names a
  joined_records names a extra n m is counted long none = record {
    count =
        let whole = ap length is in
        let parts = length-append (version_records session past e node) extra in
        let front = version_length in
        omega (arith, whole, parts, front, long, counted);
    edges =
        ap (flat_map edges_of_record) is ∙ flat_map-append edges_of_record (version_records session past e node) extra
        ∙ (λ i. version_edges i ++ none i) ∙ append-nil (turn_edges turn);
  }

  plain_records : (names : Names) (a : Act) → act_records session past e node a ≡ version_records session past e node ++ []
      → own_count names turn a + content_count session past e a ≡ version_count turn + 0 → IsCounted names a
  plain_records names a is counted = joined_records names a [] 0 0 is counted refl refl

  counted_act : (names : Names) → AreNames session past names → (a : Act) → e.act ≡ a → IsCounted names a
  counted_act names known (act.Bind name) is = record { count = refl; edges = quiet_edges (ap out_of is) (ap always_freezes is) }
  counted_act names known (act.Mint k) is = record { count = refl; edges = quiet_edges (ap out_of is) (ap always_freezes is) }
  counted_act names known (act.Unbind name) is = record { count = refl; edges = quiet_edges (ap out_of is) (ap always_freezes is) }
  counted_act names known (act.Tag attr value) is = record { count = refl; edges = quiet_edges (ap out_of is) (ap always_freezes is) }
  counted_act names known (act.Move from to) is = record {
    count = moved (bytes_eq from to) (finite_map.get (registry_after session past).names to) (known to);
    edges = unnamed (bytes_eq from to) (finite_map.get (registry_after session past).names to) ∙ quiet_edges (ap out_of is) (ap always_freezes is);
  }
    where
      moved : (b : Bool) (o : Option ℕ) → holds names to ≡ is_some o
          → length (if b then [] else option_map_or (λ file. log.Name file [] ∷ []) o [] ++ log.Name (file_named (registry_after session past).names from) to ∷ [])
          ≡ (if b then 0 else 1 + one_if (holds names to)) + 0
      moved true o is = refl
      moved false None is = sym (ap (λ h. 1 + one_if h + 0) is)
      moved false (Some file) is = sym (ap (λ h. 1 + one_if h + 0) is)

      unnamed : (b : Bool) (o : Option ℕ)
          → flat_map edges_of_record (if b then [] else option_map_or (λ file. log.Name file [] ∷ []) o [] ++ log.Name (file_named (registry_after session past).names from) to ∷ []) ≡ []
      unnamed true o = refl
      unnamed false None = refl
      unnamed false (Some file) = refl
  counted_act names known (act.Put out at bytes) is =
      joined_records names (act.Put out at bytes) (content_records session past e) (length (content_records session past e)) 0 refl refl refl content_edges
  counted_act names known (act.Cut out size) is =
      joined_records names (act.Cut out size) (content_records session past e) (length (content_records session past e)) 0 refl refl refl content_edges
  counted_act names known (act.Exec out name []) is =
      joined_records names (act.Exec out name []) (log.Attr node (codes "EXE") name ∷ []) 1 0 refl (omega arith) refl refl
  counted_act names known (act.Exec out name (b ∷ args)) is =
      joined_records names (act.Exec out name (b ∷ args)) (log.Attr node (codes "EXE") name ∷ log.Attr node (codes "ARGV") (b ∷ args) ∷ []) 2 0 refl (omega arith) refl refl
  counted_act names known a is = plain_records names a refl (let z : version_count turn + 0 ≡ version_count turn + 0 = refl in z)

  pub records_next : is_fault e.reply ≡ false → (names : Names) → AreNames session past names
      → length (records_of session (past ++ e ∷ [])) ≡ length (records_of session past) + (own_count names turn e.act + content_count session past e e.act)
  records_next fine names known =
      ap length (records_of-append session past e) ∙ length-append (records_of session past) (entry_records session past e)
      ∙ ap (λ n. length (records_of session past) + n)
      (ap (λ b. length (if b then [] else act_records session past e node e.act)) fine ∙ (counted_act names known e.act refl).count)

  pub edges_next : is_fault e.reply ≡ false → (names : Names) → AreNames session past names
      → ascending edge_cmp (flat_map edges_of_record (records_of session (past ++ e ∷ [])))
      ≡ fold (insert_key edge_cmp) (ascending edge_cmp (flat_map edges_of_record (records_of session past))) (turn_edges turn)
  edges_next fine names known =
      ap (λ rs. ascending edge_cmp (flat_map edges_of_record rs)) (records_of-append session past e)
      ∙ ap (ascending edge_cmp) (flat_map-append edges_of_record (records_of session past) (entry_records session past e))
      ∙ fold-append (insert_key edge_cmp) [] (flat_map edges_of_record (records_of session past)) (flat_map edges_of_record (entry_records session past e))
      ∙ ap (fold (insert_key edge_cmp) (ascending edge_cmp (flat_map edges_of_record (records_of session past))))
      (ap (λ b. flat_map edges_of_record (if b then [] else act_records session past e node e.act)) fine ∙ (counted_act names known e.act refl).edges)

-- a fault has no record
pub faulted_records : (session : Session) (past : List Entry) (e : Entry) → is_fault e.reply ≡ true → records_of session (past ++ e ∷ []) ≡ records_of session past
faulted_records session past e fault =
    records_of-append session past e
    ∙ ap (λ b. records_of session past ++ (if b then [] else act_records session past e (node_at_entry session past (nodes_of session past) e) e.act)) fault
    ∙ append-nil (records_of session past)

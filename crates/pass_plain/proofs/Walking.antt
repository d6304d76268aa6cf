-- The records of one more entry.
use Rattle.std.proofs.Common.{◌≡◌, ◌≤◌, ◌+◌, List, [], ◌∷◌, ◌++◌, refl, ap, sym, ◌∙◌, subst, arith, Bool, true, false, cond, length-append}
use Rattle.std.specs.Prelude.{Option, None, if◌then◌else◌}
use Rattle.std.specs.Option.{option_map_or, MatchOption}
use Rattle.std.specs.Ordering.{nat_cmp, is_eq}
use Rattle.std.specs.Map.{lookup}
use Rattle.std.proofs.lemmas.List.{append-nil}
use Rattle.pass_plain.specs.declared.contents.Content.{Content}
use Rattle.pass_entry.specs.declared.entry.Entry.{Entry}
use Rattle.pass_entry.specs.declared.entry.Act.{Act}
use Rattle.pass_entry.specs.declared.entry.Act.TheVariants as act
use Rattle.pass_entry.specs.declared.objects.Node.{Node}
use Rattle.pass_entry.specs.declared.record.Record.{Record}
use Rattle.pass_entry.specs.declared.record.Record.TheVariants as log
use Rattle.pass_plain.specs.Histories.{is_fault}
use Rattle.pass_plain.specs.Sessions.{Session}
use Rattle.pass_plain.specs.Legal.{session_of}
use Rattle.pass_plain.specs.Registries.{Registry, Names, registry_after, registry_act, opening_registry}
use Rattle.pass_plain.specs.Records.{entry_records, act_records, version_records, content_records, move_records, file_named, extra_records}
use Rattle.pass_plain.specs.Versions.{nodes_of, node_at_entry, is_freeze, is_fresh, source_in}
use Rattle.pass_plain.specs.Recording.{block_count, content_by, bytes_after, row_after, is_change, step_records, plain_records, IsVersionStep, AreKept, IsRecording, IsUntouched, IsContent}
use Rattle.pass_plain.specs.declared.start.Start.{Start}
use Rattle.pass_plain.specs.declared.nodes.VersionStep.{VersionStep}
use Rattle.pass_plain.specs.declared.records.Recording.{Recording}
use Rattle.pass_plain.specs.States.{registry_of, registry_step}
use Rattle.pass_plain.proofs.RecordedBy.{records_of-append}
use Rattle.pass_plain.proofs.Replays.{state_after-append}

-- the size and the digests are those of the definition, which has the number of blocks in figures
pub content_is : (start : Start) (history : List Entry) (e : Entry)
    → content_by e.what (bytes_after start history e.what) (row_after start history e.what) e.act block_count ≡ content_records (session_of start 0) history e
unfolding block_count
content_is start history e = refl

input_if : {X : Type 0} (f : Node → List X) (b : Bool) (o : Option Node) → option_map_or f (cond b o None) [] ≡ cond b (option_map_or f o []) []
input_if f true o = refl
input_if f false o = refl

versions_are : (start : Start) (history : List Entry) (e : Entry) (s : VersionStep) → IsVersionStep start history (nodes_of (session_of start 0) history) e s
    → step_records s ≡ version_records (session_of start 0) history e s.node
versions_are start history e s is =
    let session = session_of start 0 in
    let nodes = nodes_of session history in
    let input : Node → List Record = λ source. log.Input s.node source ∷ [] in
    (λ i. cond (is.freezes i) (log.Version s.node ∷ []) [] ++ option_map_or input (is.source i) [])
    ∙ ap (λ more. cond (is_freeze session history nodes e) (log.Version s.node ∷ []) [] ++ more) (input_if input (is_fresh session history nodes e) (source_in nodes e))

module _ (session : Session) (history : List Entry) (e : Entry) (s : VersionStep) (names : Names)
    (same : step_records s ≡ version_records session history e s.node) (known : (registry_after session history).names ≡ names) where
  -- the records of an act are those but for the content, and the content's
  act_split : (a : Act) → plain_records names s e.reply a ++ cond (is_change a) (content_records session history e) [] ≡ act_records session history e s.node a
  act_split (act.Bind name) = refl
  act_split (act.Mint k) = refl
  act_split (act.Move from to) = append-nil (move_records names from to) ∙ ap (λ (n : Names). move_records n from to) (sym known)
  act_split (act.Unbind name) = ap (λ (n : Names). log.Name (file_named n name) [] ∷ []) (sym known)
  act_split (act.Tag attr value) = refl
  act_split (act.Exec out name args) =
      append-nil (step_records s ++ extra_records session history e s.node (act.Exec out name args))
      ∙ ap (λ rs. rs ++ extra_records session history e s.node (act.Exec out name args)) same
  act_split (act.Put out at bytes) = ap (λ rs. rs ++ content_records session history e) same
  act_split (act.Cut out size) = ap (λ rs. rs ++ content_records session history e) same
  act_split _ = ap (λ rs. rs ++ []) same

-- the records of an entry that is no fault
pub entry_split : (start : Start) (history : List Entry) (e : Entry) (s : VersionStep) (names : Names) → is_fault e.reply ≡ false
    → IsVersionStep start history (nodes_of (session_of start 0) history) e s → (registry_after (session_of start 0) history).names ≡ names
    → entry_records (session_of start 0) history e ≡ plain_records names s e.reply e.act ++ cond (is_change e.act) (content_records (session_of start 0) history e) []
entry_split start history e s names done is known =
    let session = session_of start 0 in
    ap (λ b. if b then [] else act_records session history e (node_at_entry session history (nodes_of session history) e) e.act) done
    ∙ ap (λ node. act_records session history e node e.act) (sym is.node)
    ∙ sym (act_split session history e s names (versions_are start history e s is) known e.act)

-- one more entry is recorded
pub recorded : (start : Start) (history : List Entry) (e : Entry) (r s : Recording) → IsRecording start history r
    → registry_of s.registry ≡ registry_step (registry_of r.registry) e
    → s.registry.made ≤ r.registry.made + 1
    → AreKept start (history ++ e ∷ []) s.files
    → s.list.items ≡ r.list.items ++ entry_records (session_of start 0) history e
    → IsRecording start (history ++ e ∷ []) s
recorded start history e r s is registry made files list =
    let session = session_of start 0 in
    let size = length-append history (e ∷ []) in
    record {
      registry = registry ∙ ap (λ (r : Registry). registry_step r e) is.registry
          ∙ sym (state_after-append (λ past r e. registry_act r e.act e.reply) 0 (opening_registry start) history e);
      made = omega (arith, made, is.made, size);
      files = files;
      list = list ∙ ap (λ rs. rs ++ entry_records session history e) is.list ∙ sym (records_of-append session history e);
    }

-- nothing is recorded yet
pub unrecorded : (start : Start) (r : Recording) → registry_of r.registry ≡ opening_registry start → r.registry.made ≡ 0
    → r.files.entries ≡ [] → r.list.items ≡ [] → IsRecording start [] r
unrecorded start r registry made files list = record {
  registry = registry;
  made = omega (arith, made);
  files = λ file.
      subst (λ (o : Option Content). MatchOption o (IsUntouched start [] file) (IsContent start [] file)) (sym (ap (λ es. lookup (λ q. is_eq (nat_cmp file q)) es) files))
      (let untouched : IsUntouched start [] file = record { quiet = refl; bytes = refl; rows = λ block. refl } in untouched);
  list = list;
}

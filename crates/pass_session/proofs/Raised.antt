-- A history's records leave the ceiling of the records before it.
use Rattle.std.proofs.Common.{◌≡◌, ℕ, Bool, true, false, List, [], ◌∷◌, ◌++◌, map, take, refl, ap, ◌∙◌}
use Rattle.std.specs.Prelude.{Option, Some, None, filter, fold, bytes_eq, if◌then◌else◌}
use Rattle.std.specs.List.{range_with_len}
use Rattle.std.specs.Option.{option_map_or}
use Rattle.std.specs.FinMap as finite_map
use Rattle.std.proofs.lemmas.List.Sums.{fold-append}
use Rattle.pass_entry.specs.declared.entry.Act.{Act}
use Rattle.pass_entry.specs.declared.entry.Act.TheVariants as act
use Rattle.pass_entry.specs.declared.entry.Entry.{Entry}
use Rattle.pass_entry.specs.declared.objects.Node.{Node}
use Rattle.pass_entry.specs.declared.record.Record.{Record}
use Rattle.pass_entry.specs.declared.record.Record.TheVariants as log
use Rattle.pass_keep.specs.Kept.{list_to}
use Rattle.pass_plain.specs.Files.{file_act, file_after}
use Rattle.pass_plain.specs.Histories.{is_fault, replay}
use Rattle.pass_plain.specs.Records.{digest_of, content_records, is_digested, args_records, extra_records, version_records, lost_name, file_named, act_records, entry_records, records_of, list_of}
use Rattle.pass_plain.specs.Registries.{Names}
use Rattle.pass_plain.specs.Sessions.{Session}
use Rattle.pass_plain.specs.Versions.{is_freeze, is_fresh, nodes_of, node_at_entry, source_in}
use Rattle.pass_plain.specs.WellLogged.{ceiling_look, ceiling_of}
use Rattle.pass_plain.specs.Ceilings.{raised}
use Rattle.pass_plain.proofs.Raising.{raised_to}
use Rattle.pass_session.specs.Lawful.{CeilingLaw}

-- records that are no ceiling
abbrev Quiet : List Record → Type 0
Quiet rs = (c : ℕ) → fold ceiling_look c rs ≡ c

both : (xs ys : List Record) → Quiet xs → Quiet ys → Quiet (xs ++ ys)
both xs ys x y c = fold-append ceiling_look c xs ys ∙ ap (λ n. fold ceiling_look n ys) (x c) ∙ y c

digests : (file : ℕ) (content : List ℕ) (blocks : List ℕ) → Quiet (map (digest_of file content) blocks)
digests file content [] c = refl
digests file content (b ∷ blocks) c = digests file content blocks c

content_quiet : (session : Session) (past : List Entry) (e : Entry) → Quiet (content_records session past e)
content_quiet session past e c = digests e.what (file_act (file_after session past e.what) e.act) (filter (is_digested session past e) (range_with_len 0 1024)) c

args_quiet : (node : Node) (args : List ℕ) → Quiet (args_records node args)
args_quiet node [] c = refl
args_quiet node (b ∷ args) c = refl

extra_quiet : (session : Session) (past : List Entry) (e : Entry) (node : Node) (a : Act) → Quiet (extra_records session past e node a)
extra_quiet session past e node (act.Put out at bytes) c = content_quiet session past e c
extra_quiet session past e node (act.Cut out size) c = content_quiet session past e c
extra_quiet session past e node (act.Exec out name args) c = args_quiet node args c
extra_quiet session past e node _ c = refl

frozen : (b : Bool) (node : Node) → Quiet (if b then log.Version node ∷ [] else [])
frozen true node c = refl
frozen false node c = refl

linked : (b : Bool) (node : Node) (source : Option Node) → Quiet (if b then option_map_or (λ source. log.Input node source ∷ []) source [] else [])
linked true node (Some source) c = refl
linked true node None c = refl
linked false node source c = refl

version_quiet : (session : Session) (past : List Entry) (e : Entry) (node : Node) → Quiet (version_records session past e node)
version_quiet session past e node =
    let nodes = nodes_of session past in
    both (if is_freeze session past nodes e then log.Version node ∷ [] else []) (if is_fresh session past nodes e then option_map_or (λ source. log.Input node source ∷ []) (source_in nodes e) [] else [])
    (frozen (is_freeze session past nodes e) node) (linked (is_fresh session past nodes e) node (source_in nodes e))

lost : (file : Option ℕ) → Quiet (option_map_or (λ file. log.Name file [] ∷ []) file [])
lost (Some file) c = refl
lost None c = refl

moved : (b : Bool) (names : Names) (from to : List ℕ) → Quiet (if b then [] else lost_name names to ++ log.Name (file_named names from) to ∷ [])
moved true names from to c = refl
moved false names from to c = both (lost_name names to) (log.Name (file_named names from) to ∷ []) (lost (finite_map.get names to)) (λ c. refl) c

act_quiet : (session : Session) (past : List Entry) (e : Entry) (node : Node) (a : Act) → Quiet (act_records session past e node a)
act_quiet session past e node (act.Bind name) c = refl
act_quiet session past e node (act.Mint k) c = refl
act_quiet session past e node (act.Move from to) c = moved (bytes_eq from to) _ from to c
act_quiet session past e node (act.Unbind name) c = refl
act_quiet session past e node (act.Tag attr value) c = refl
act_quiet session past e node a c = both (version_records session past e node) (extra_records session past e node a) (version_quiet session past e node) (extra_quiet session past e node a) c

entry_quiet : (session : Session) (past : List Entry) (e : Entry) → Quiet (entry_records session past e)
entry_quiet session past e c = by_fault (is_fault e.reply) _ (act_quiet session past e (node_at_entry session past (nodes_of session past) e) e.act c)
  where
    by_fault : (b : Bool) (rs : List Record) → fold ceiling_look c rs ≡ c → fold ceiling_look c (if b then [] else rs) ≡ c
    by_fault true rs quiet = refl
    by_fault false rs quiet = quiet

replayed : (session : Session) (past : List Entry) (list : List Record) (es : List Entry) (c : ℕ)
    → fold ceiling_look c (replay (λ past list e. list ++ entry_records session past e) past list es) ≡ fold ceiling_look c list
replayed session past list [] c = refl
replayed session past list (e ∷ es) c =
    replayed session (past ++ e ∷ []) (list ++ entry_records session past e) es c ∙ fold-append ceiling_look c list (entry_records session past e)
    ∙ entry_quiet session past e (fold ceiling_look c list)

listed : (before : List Record) (ceiling : ℕ) (session : Session) (history : List Entry) → ceiling_of (list_of before ceiling session history) ≡ ceiling
listed before ceiling session history =
    fold-append ceiling_look 0 (raised before ceiling) (records_of session history) ∙ replayed session [] [] history (ceiling_of (raised before ceiling)) ∙ raised_to before ceiling

pub ceiling_law : CeilingLaw
ceiling_law s least bound c left = record { list = list_to s left.count; records = left.records; last = listed s.before s.ceiling s.session (take left.count s.history) }

-- What an entry on a file, a pipe or an app object makes of its version.
use Rattle.std.proofs.Common.{◌≡◌, ℕ, ◌+◌, ◌<◌, ◌≤◌, ◌^◌, List, [], ◌∷◌, ◌++◌, length, refl, ap, sym, ◌∙◌, subst, arith, Bool, true, false, ◌&&◌, ◌||◌, not, ◌==◌, length-append}
use Rattle.std.specs.Prelude.{Option, Some, None, is_some, slice_get, if◌then◌else◌}
use Rattle.std.specs.Option.{option_map_or}
use Rattle.std.specs.List.{list_any}
use Rattle.std.proofs.lemmas.Bool.{false≢true}
use Rattle.pass_entry.specs.declared.entry.Entry.{Entry}
use Rattle.pass_entry.specs.declared.entry.Act.{Act}
use Rattle.pass_entry.specs.declared.entry.Act.TheVariants as act
use Rattle.pass_entry.specs.declared.objects.Node.{Node}
use Rattle.pass_entry.specs.declared.record.Record.{Record}
use Rattle.pass_entry.specs.declared.record.Record.TheVariants as log
use Rattle.pass_plain.specs.Histories.{is_fault, out_of}
use Rattle.pass_plain.specs.Legal.{IsLegal}
use Rattle.pass_plain.specs.Lineages.{Lineage, IsAlike, has, linked, frozen, with_source, lineage_act, is_fresh_act, is_freeze_act, lineage_after, IsLineageStep}
use Rattle.pass_plain.specs.Processes.{Held}
use Rattle.pass_plain.specs.Recorded.{entry_records_by, act_records_by, version_records_by, is_fresh_by, is_freeze_by, node_by, repeats}
use Rattle.pass_plain.specs.Sessions.{Session}
use Rattle.pass_plain.specs.Sound.{IsSound}
use Rattle.pass_plain.specs.Versions.{nodes_of, source_in, is_in, is_exec, always_freezes, version_after, marked_after}
use Rattle.pass_plain.proofs.Lineages.{lineage_law}
use Rattle.pass_plain.proofs.TwoPrefixes.{none_later}
use Rattle.pass_plain.proofs.Versioned.{version_law}
use Rattle.pass_plain.proofs.LastNodes.{versions_low}
use Rattle.pass_version.specs.States.{IsStateAfter, VersionState}
use Rattle.pass_version.specs.declared.versions.Taken.{Taken}
use Rattle.pass_version.specs.declared.versions.Taken.TheVariants as taken
use Rattle.pass_version.proofs.OneObject.{alike_then, alike_turned, act_alike, alike_state}
use Rattle.pass_book.specs.declared.view.VaultSync.{VaultSync}
use Rattle.pass_book.specs.Tokens.{BookId, DeskState}
use Rattle.pass_hold.specs.Callings.{IsEntered}
use Rattle.pass_hold.specs.Slips.{taken_records}
use Rattle.pass_hold.proofs.Objects.{lineage_stays, node_there, repeats_has}
use Rattle.pass_flow.specs.Entering.{IsVersioned, is_object_act, current_node, moved_by, version_records, moved_records, later_records, rest_records}

-- a lineage's node, or the one of its next version
abbrev pub versioned_node : Lineage → Bool → Node
versioned_node l b = record { pnode = l.node.pnode; version = if b then l.node.version + 1 else l.node.version }

-- the acts on objects

abbrev pub is_tag : Act → Bool
is_tag (act.Tag attr value) = true
is_tag _ = false

pub record IsObjectAct (a : Act) : Type 0 where
  pub no_exec : is_exec a ≡ false
  pub freezes_alone : always_freezes a ≡ true → out_of a ≡ None
  pub tags_alone : is_tag a ≡ true → (out_of a ≡ None) × (always_freezes a ≡ false)
  pub fresh : (l : Lineage) (source : Option Node) → is_fresh_act l source a ≡ option_map_or (λ s. not (has l s)) source false
  pub freezes : (l : Lineage) (source : Option Node) → is_freeze_act l source a ≡ (always_freezes a || (is_fresh_act l source a && l.marked))
  pub records : (session : Session) (desk : List Entry) (source : Option Node) (e : Entry) (node : Node) → is_tag a ≡ false
      → act_records_by session desk source e node a ≡ version_records_by session desk source e node ++ later_records session desk e a
  pub takes : (l : Lineage) (s : Node) → (out_of a ≡ None → ⊥) → lineage_act l (Some s) a ≡ linked l s
  pub alone : (l : Lineage) → (lineage_act l None a).node ≡ versioned_node l (always_freezes a)

pub object_act : (a : Act) → is_object_act a ≡ true → IsObjectAct a
object_act (act.Give at len) is = record { no_exec = refl; freezes_alone = λ t. absurd (cc); tags_alone = λ t. absurd (cc); fresh = λ l s. refl; freezes = λ l s. refl; records = λ session desk source e node t. refl; takes = λ l s some. absurd (some refl); alone = λ l. refl }
object_act act.Load is = record { no_exec = refl; freezes_alone = λ t. absurd (cc); tags_alone = λ t. absurd (cc); fresh = λ l s. refl; freezes = λ l s. refl; records = λ session desk source e node t. refl; takes = λ l s some. absurd (some refl); alone = λ l. refl }
object_act (act.Take len) is = record { no_exec = refl; freezes_alone = λ t. absurd (cc); tags_alone = λ t. absurd (cc); fresh = λ l s. refl; freezes = λ l s. refl; records = λ session desk source e node t. refl; takes = λ l s some. absurd (some refl); alone = λ l. refl }
object_act act.Cite is = record { no_exec = refl; freezes_alone = λ t. absurd (cc); tags_alone = λ t. absurd (cc); fresh = λ l s. refl; freezes = λ l s. refl; records = λ session desk source e node t. refl; takes = λ l s some. absurd (some refl); alone = λ l. refl }
object_act (act.Put out at bytes) is = record { no_exec = refl; freezes_alone = λ t. absurd (cc); tags_alone = λ t. absurd (cc); fresh = λ l s. refl; freezes = λ l s. refl; records = λ session desk source e node t. refl; takes = λ l s some. refl; alone = λ l. refl }
object_act (act.Cut out size) is = record { no_exec = refl; freezes_alone = λ t. absurd (cc); tags_alone = λ t. absurd (cc); fresh = λ l s. refl; freezes = λ l s. refl; records = λ session desk source e node t. refl; takes = λ l s some. refl; alone = λ l. refl }
object_act (act.Push out bytes) is = record { no_exec = refl; freezes_alone = λ t. absurd (cc); tags_alone = λ t. absurd (cc); fresh = λ l s. refl; freezes = λ l s. refl; records = λ session desk source e node t. refl; takes = λ l s some. refl; alone = λ l. refl }
object_act (act.Told out) is = record { no_exec = refl; freezes_alone = λ t. absurd (cc); tags_alone = λ t. absurd (cc); fresh = λ l s. refl; freezes = λ l s. refl; records = λ session desk source e node t. refl; takes = λ l s some. refl; alone = λ l. refl }
object_act (act.Join end) is = record { no_exec = refl; freezes_alone = λ t. absurd (cc); tags_alone = λ t. absurd (cc); fresh = λ l s. refl; freezes = λ l s. refl; records = λ session desk source e node t. refl; takes = λ l s some. absurd (some refl); alone = λ l. refl }
object_act (act.Leave end) is = record { no_exec = refl; freezes_alone = λ t. absurd (cc); tags_alone = λ t. absurd (cc); fresh = λ l s. refl; freezes = λ l s. refl; records = λ session desk source e node t. refl; takes = λ l s some. absurd (some refl); alone = λ l. refl }
object_act act.Keep is = record { no_exec = refl; freezes_alone = λ t. absurd (cc); tags_alone = λ t. absurd (cc); fresh = λ l s. refl; freezes = λ l s. refl; records = λ session desk source e node t. refl; takes = λ l s some. absurd (some refl); alone = λ l. refl }
object_act act.Freeze is = record { no_exec = refl; freezes_alone = λ t. refl; tags_alone = λ t. absurd (cc); fresh = λ l s. refl; freezes = λ l s. refl; records = λ session desk source e node t. refl; takes = λ l s some. absurd (some refl); alone = λ l. refl }
object_act (act.Tag attr value) is = record { no_exec = refl; freezes_alone = λ t. absurd (cc); tags_alone = λ t. (refl, refl); fresh = λ l s. refl; freezes = λ l s. refl; records = λ session desk source e node t. absurd (cc); takes = λ l s some. absurd (some refl); alone = λ l. refl }
object_act _ is = absurd (cc)

-- the records of a take

by_taken : (h m : Bool) (n s : Node) (rest : List Record)
    → taken_records (if h then taken.Dropped else if m then taken.FrozenAndLinked else taken.Linked) n s rest
    ≡ ((if not h && m then log.Version n ∷ [] else []) ++ (if not h then log.Input n s ∷ [] else [])) ++ rest
by_taken true m n s rest = refl
by_taken false true n s rest = refl
by_taken false false n s rest = refl

pub take_slip : (a : Act) → IsObjectAct a → (out_of a ≡ None → ⊥) → (l : Lineage) (s n : Node) → n ≡ (linked l s).node → (t : Taken)
    → t ≡ (if has l s then taken.Dropped else if l.marked then taken.FrozenAndLinked else taken.Linked) → (rest : List Record) → taken_records t n s rest ≡ version_records l (Some s) a ++ rest
take_slip a is takes l s n at t told rest =
    let node : n ≡ (lineage_act l (Some s) a).node = at ∙ ap (λ (m : Lineage). m.node) (sym (is.takes l s takes)) in
    let fresh : not (has l s) ≡ is_fresh_act l (Some s) a = sym (is.fresh l (Some s)) in
    let freeze : not (has l s) && l.marked ≡ is_freeze_act l (Some s) a =
    ap (λ b. b || (not (has l s) && l.marked)) (sym (calm (always_freezes a) refl)) ∙ ap (λ b. always_freezes a || (b && l.marked)) fresh ∙ sym (is.freezes l (Some s)) in
    ap (λ t. taken_records t n s rest) told ∙ by_taken (has l s) l.marked n s rest
    ∙ (λ i. ((if freeze i then log.Version (node i) ∷ [] else []) ++ (if fresh i then log.Input (node i) s ∷ [] else [])) ++ rest)
  where
    calm : (b : Bool) → always_freezes a ≡ b → always_freezes a ≡ false
    calm true t = absurd (takes (is.freezes_alone t))
    calm false t = t

-- what an act makes of a lineage hangs on what can be told of it

pub version_low : (book : BookId) (d : DeskState) (v : VersionState) → IsVersioned book d v → IsSound book.session → IsLegal book.session d.seen → v.lineage.node.version < 2 ^ 63
version_low book d v is sound legal =
    let low = versions_low book.session sound d.seen legal v.lineage.node.pnode in
    let same = ap (λ (n : Node). n.version) is.lineage.node in
    let few = is.few in
    omega (arith, low, same, few)

-- the versions' part of an entry's records, by what its object's holder and its caller have seen

module _ (session : Session) (desk : List Entry) (e : Entry) (l : Lineage) (source : Option Node)
    (own : l.node.pnode ≡ e.what) (is : IsStateAfter session desk l) (fits : is_object_act e.act ≡ true) (given : is_in e ≡ is_some source) (fine : is_fault e.reply ≡ false) where
  a : IsObjectAct e.act
  a = object_act e.act fits

  takes_some : option_map_or (λ out. true) (out_of e.act) false ≡ is_some source
  takes_some = ap (λ b. option_map_or (λ out. true) (if b then None else out_of e.act) false) (sym fine) ∙ given

  by_source : (s : Option Node) → source ≡ s → is_in e && not (repeats session desk e.what s) ≡ option_map_or (λ n. not (has l n)) s false
  by_source None at = ap (λ b. b && not (repeats session desk e.what None)) (given ∙ ap is_some at)
  by_source (Some s) at = ap (λ b. b && not (repeats session desk e.what (Some s))) (given ∙ ap is_some at) ∙ ap not (repeats_has session desk e.what s l own is)

  fresh : is_fresh_by session desk source e ≡ is_fresh_act l source e.act
  fresh = ap (λ b. is_in e && (b || not (repeats session desk e.what source))) a.no_exec ∙ by_source source refl ∙ sym (a.fresh l source)

  freeze : is_freeze_by session desk source e ≡ is_freeze_act l source e.act
  freeze =
      ap (λ b. not b && (always_freezes e.act || (is_fresh_by session desk source e && marked_after session desk e.what))) fine
      ∙ ap (λ b. always_freezes e.act || (b && marked_after session desk e.what)) fresh
      ∙ ap (λ b. always_freezes e.act || (is_fresh_act l source e.act && b)) (ap (λ o. marked_after session desk o) (sym own) ∙ sym is.marked)
      ∙ sym (a.freezes l source)

  version : version_after session desk e.what ≡ l.node.version
  version = ap (λ o. version_after session desk o) (sym own) ∙ sym (ap (λ (n : Node). n.version) is.node)

  node_after : (s : Option Node) → source ≡ s → (lineage_act l s e.act).node ≡ versioned_node l (is_freeze_act l s e.act)
  node_after None at =
      a.alone l ∙ ap (versioned_node l)
      (or_none (always_freezes e.act) ∙ ap (λ b. always_freezes e.act || (b && l.marked)) (sym (a.fresh l None)) ∙ sym (a.freezes l None))
    where
      or_none : (b : Bool) → b ≡ (b || (false && l.marked))
      or_none true = refl
      or_none false = refl
  node_after (Some s) at =
      ap (λ (m : Lineage). m.node) (a.takes l s takes)
      ∙ by_tests (has l s) l.marked
      ∙ ap (versioned_node l)
      (ap (λ b. b || (not (has l s) && l.marked)) (sym calm) ∙ ap (λ b. always_freezes e.act || (b && l.marked)) (sym (a.fresh l (Some s))) ∙ sym (a.freezes l (Some s)))
    where
      some : option_map_or (λ out. true) (out_of e.act) false ≡ true
      some = takes_some ∙ ap is_some at

      takes : out_of e.act ≡ None → ⊥
      takes none = false≢true (sym (ap (λ o. option_map_or (λ out. true) o false) none) ∙ some)

      calm : always_freezes e.act ≡ false
      calm = by_test (always_freezes e.act) refl
        where
          by_test : (b : Bool) → always_freezes e.act ≡ b → always_freezes e.act ≡ false
          by_test true t = absurd (takes (a.freezes_alone t))
          by_test false t = t

      by_tests : (h m : Bool)
          → (if h then l else if m then with_source (frozen l) s else with_source l s).node ≡ versioned_node l (false || (not h && m))
      by_tests true m = refl
      by_tests false true = refl
      by_tests false false = refl

  abbrev node_of : Bool → Node
  node_of b = record { pnode = e.what; version = if b then version_after session desk e.what + 1 else version_after session desk e.what }

  node : node_by session desk source e ≡ (lineage_act l source e.act).node
  node = (λ i. record { pnode = sym own i; version = if freeze i then version i + 1 else version i }) ∙ sym (node_after source refl)

  -- the records of a `Tag` are told by its object's node before
  tag_records : (b : Bool) → is_tag e.act ≡ b
      → act_records_by session desk source e (node_by session desk source e) e.act ≡ version_records_by session desk source e (node_by session desk source e) ++ later_records session desk e e.act
  tag_records false t = a.records session desk source e (node_by session desk source e) t
  tag_records true t = by_act e.act t
    where
      quiet : (out_of e.act ≡ None) × (always_freezes e.act ≡ false)
      quiet = a.tags_alone t

      not_in : is_in e ≡ false
      not_in = ap (λ b. option_map_or (λ out. true) (if b then None else out_of e.act) false) fine ∙ ap (λ o. option_map_or (λ out. true) o false) quiet.0

      not_fresh : is_fresh_by session desk source e ≡ false
      not_fresh = ap (λ b. b && (is_exec e.act || not (repeats session desk e.what source))) not_in

      not_frozen : is_freeze_by session desk source e ≡ false
      not_frozen =
          ap (λ b. not b && (always_freezes e.act || (is_fresh_by session desk source e && marked_after session desk e.what))) fine
          ∙ ap (λ b. b || (is_fresh_by session desk source e && marked_after session desk e.what)) quiet.1
          ∙ ap (λ b. b && marked_after session desk e.what) not_fresh

      same : node_by session desk source e ≡ current_node session desk e.what
      same = ap node_of not_frozen

      empty : version_records_by session desk source e (node_by session desk source e) ≡ []
      empty = λ i. (if not_frozen i then log.Version (node_by session desk source e) ∷ [] else []) ++ (if not_fresh i then option_map_or (λ s. log.Input (node_by session desk source e) s ∷ []) source [] else [])

      by_act : (b : Act) → is_tag b ≡ true
          → act_records_by session desk source e (node_by session desk source e) b ≡ version_records_by session desk source e (node_by session desk source e) ++ later_records session desk e b
      by_act (act.Tag attr value) is = ap (λ n. log.Attr n attr value ∷ []) same ∙ ap (λ rs. rs ++ log.Attr (current_node session desk e.what) attr value ∷ []) (sym empty)
      by_act _ is = absurd (cc)

  fine_records : version_records l source e.act ++ later_records session desk e e.act ≡ act_records_by session desk source e (node_by session desk source e) e.act
  fine_records =
      (λ i. ((if sym freeze i then log.Version (sym node i) ∷ [] else []) ++ (if sym fresh i then option_map_or (λ s. log.Input (sym node i) s ∷ []) source [] else [])) ++ later_records session desk e e.act)
      ∙ sym (tag_records (is_tag e.act) refl)

module _ (session : Session) (line desk : List Entry) (e : Entry) (l : Lineage) (source : Option Node)
    (own : l.node.pnode ≡ e.what) (is : IsStateAfter session desk l) (fits : is_object_act e.act ≡ true) (from : source_in (nodes_of session line) e ≡ source) (given : is_in e ≡ is_some source) where
  pub records_are : moved_records l source e ++ rest_records session desk e ≡ entry_records_by session desk (source_in (nodes_of session line) e) e
  records_are = by_reply (is_fault e.reply) refl ∙ ap (λ s. entry_records_by session desk s e) (sym from)
    where
      by_reply : (b : Bool) → is_fault e.reply ≡ b → moved_records l source e ++ rest_records session desk e ≡ entry_records_by session desk source e
      by_reply true t =
          (λ i. (if t i then [] else version_records l source e.act) ++ (if t i then [] else later_records session desk e e.act))
          ∙ sym (ap (λ b. if b then [] else act_records_by session desk source e (node_by session desk source e) e.act) t)
      by_reply false t =
          (λ i. (if t i then [] else version_records l source e.act) ++ (if t i then [] else later_records session desk e e.act))
          ∙ fine_records session desk e l source own is fits given t
          ∙ sym (ap (λ b. if b then [] else act_records_by session desk source e (node_by session desk source e) e.act) t)

  module _ (after : List Entry) (entered : IsEntered session line desk after e) where
    past_is : IsStateAfter session entered.past l
    past_is =
        let whole = entered.desk_begins.1 in
        let quiet = none_later (λ (f : Entry). f.what == e.what) desk entered.desk_begins.0 entered.past entered.desk_begins.1 entered.desk_agrees in
        subst (λ h. IsStateAfter session h l) whole
        (lineage_stays session desk entered.desk_begins.0 l (subst (λ h. IsLegal session h) (sym whole) entered.legal)
        (subst (λ o. list_any (λ (f : Entry). f.what == o) entered.desk_begins.0 ≡ false) (sym own) quiet) is)

    source_is : source_in (nodes_of session entered.past) e ≡ source
    source_is =
        let (version, mark, source, repeated) = version_law session entered.past desk line e entered.legal entered.follows entered.desk_begins entered.desk_agrees entered.line_begins entered.line_agrees in
        source ∙ from

    alike : IsAlike l (lineage_after session entered.past e.what)
    alike = subst (λ o. IsAlike l (lineage_after session entered.past o)) own past_is

    pub moved_node : (moved_by l source e).node.pnode ≡ e.what
    moved_node = by_reply (is_fault e.reply) refl
      where
        by_reply : (b : Bool) → is_fault e.reply ≡ b → (if b then l else lineage_act l source e.act).node.pnode ≡ e.what
        by_reply true t = own
        by_reply false t = ap (λ (n : Node). n.pnode) (node_after session desk e l source own is fits given t source refl) ∙ own

    state_there : IsAlike (moved_by l source e) (lineage_after session (entered.past ++ e ∷ []) e.what)
    state_there = by_reply (is_fault e.reply) refl
      where
        step : IsLineageStep session entered.past e (lineage_after session entered.past e.what) (source_in (nodes_of session entered.past) e)
        step = lineage_law session entered.past e entered.legal entered.follows

        by_reply : (b : Bool) → is_fault e.reply ≡ b → IsAlike (if b then l else lineage_act l source e.act) (lineage_after session (entered.past ++ e ∷ []) e.what)
        by_reply true t = alike_then l (lineage_after session entered.past e.what) (lineage_after session (entered.past ++ e ∷ []) e.what) alike (alike_turned (lineage_after session (entered.past ++ e ∷ []) e.what) (lineage_after session entered.past e.what) (step.stays t))
        by_reply false t =
            let before = lineage_after session entered.past e.what in
            let later = lineage_after session (entered.past ++ e ∷ []) e.what in
            alike_then (lineage_act l source e.act) (lineage_act before source e.act) later (act_alike l before source e.act alike)
            (subst (λ s. IsAlike (lineage_act before s e.act) later) source_is (alike_turned later (lineage_act before (source_in (nodes_of session entered.past) e) e.act) (step.moves t)))

    pub state_after : IsStateAfter session after (moved_by l source e)
    state_after =
        subst (λ h. IsAlike (moved_by l source e) (lineage_after session h (moved_by l source e).node.pnode)) (sym entered.whole)
        (subst (λ o. IsAlike (moved_by l source e) (lineage_after session (entered.past ++ e ∷ []) o)) (sym moved_node) state_there)

-- the same of a desk

module _ (book : BookId) (line : List Entry) (d : DeskState) (v : VersionState) (e : Entry) (source : Option Node)
    (is : IsVersioned book d v) (on : e.what ≡ d.what) (fits : is_object_act e.act ≡ true) (from : source_in (nodes_of book.session line) e ≡ source) (given : is_in e ≡ is_some source) where
  pub slip_is : (rest : List Record) → rest ≡ rest_records book.session d.seen e
      → moved_records v.lineage source e ++ rest ≡ entry_records_by book.session d.seen (source_in (nodes_of book.session line) e) e
  slip_is rest same =
      ap (λ rs. moved_records v.lineage source e ++ rs) same
      ∙ records_are book.session line d.seen e v.lineage source (is.node ∙ sym on) is.lineage fits from given

  module _ (after : List Entry) (entered : IsEntered book.session line d.seen after e) (w : VersionState) (alike : IsAlike w.lineage (moved_by v.lineage source e)) where
    node_is : w.lineage.node.pnode ≡ e.what
    node_is = ap (λ (n : Node). n.pnode) alike.node ∙ moved_node book.session line d.seen e v.lineage source (is.node ∙ sym on) is.lineage fits from given after entered

    state_is : IsStateAfter book.session after w.lineage
    state_is = alike_state book.session after w.lineage (moved_by v.lineage source e) alike (state_after book.session line d.seen e v.lineage source (is.node ∙ sym on) is.lineage fits from given after entered)

    pub versioned_after : (n : DeskState) (syncs : List VaultSync) → n ≡ record d { seen = after; syncs = syncs } → length after ≤ 2 ^ 32 → IsVersioned book n w
    versioned_after n syncs at few =
        let made : IsVersioned book (record d { seen = after; syncs = syncs }) w = record { of_book = is.of_book; node = node_is ∙ on; lineage = state_is; few = few } in
        subst (λ (n : DeskState). IsVersioned book n w) (sym at) made

    pub node_at : (place : ℕ) → place + 1 ≡ length after → slice_get (nodes_of book.session after) place ≡ Some w.lineage.node
    node_at place last =
        let longer = ap length entered.whole ∙ length-append entered.past (e ∷ []) in
        ap (λ n. slice_get (nodes_of book.session after) n) (let z : place ≡ length entered.past = omega (arith, longer, last) in z)
        ∙ node_there book.session line d.seen after e entered w.lineage node_is state_is

-- what no such entry is

pub no_finish : (a : Act) → is_object_act a ≡ true → ¬ (a ≡ act.Finish)
no_finish a is at = false≢true (sym (ap (λ (x : Act). is_object_act x) at) ∙ is)

pub no_birth : (a : Act) → is_object_act a ≡ true → (out : ℕ) (descriptors : Held) → ¬ (a ≡ act.Born out descriptors)
no_birth a is out descriptors at = false≢true (sym (ap (λ (x : Act). is_object_act x) at) ∙ is)

pub no_kept : (a : Act) → is_object_act a ≡ true → (fd : ℕ) → ¬ (a ≡ act.Kept fd)
no_kept a is fd at = false≢true (sym (ap (λ (x : Act). is_object_act x) at) ∙ is)

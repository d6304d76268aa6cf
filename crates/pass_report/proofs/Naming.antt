-- The names of files after one more entry.
use Rattle.std.proofs.Common.{◌≡◌, ◌==◌, ℕ, List, [], ◌∷◌, ◌++◌, length, refl, ap, sym, subst, ◌∙◌, Bool, true, false, ◌&&◌, ◌||◌, not, cond}
use Rattle.std.specs.Prelude.{Option, Some, None, is_some, filter_map, option_map, if◌then◌else◌}
use Rattle.std.specs.Option.{option_map_or}
use Rattle.std.specs.List.{list_any, cons_option}
use Rattle.std.proofs.lemmas.List.Folds.{list_any-append}
use Rattle.std.specs.Ordering.{nat_cmp, eq_by_cmp}
use Rattle.std.specs.Cmp.{eq_by_cmp_equiv}
use Rattle.std.specs.Cmp.Lexicographic.{slice_cmp, nat_list_cmp_total}
use Rattle.std.specs.FinMap as finite_map
use Rattle.pass_entry.specs.declared.entry.Entry.{Entry}
use Rattle.pass_entry.specs.declared.entry.Act.{Act}
use Rattle.pass_entry.specs.declared.entry.Act.TheVariants as act
use Rattle.pass_entry.specs.declared.entry.Reply.{Reply}
use Rattle.pass_plain.specs.declared.start.Start.{Start}
use Rattle.pass_plain.specs.declared.start.StartFile.{StartFile}
use Rattle.pass_plain.specs.Histories.{is_fault, pnode_of, call_entries}
use Rattle.pass_plain.specs.Sessions.{Session}
use Rattle.pass_plain.specs.Calls.{call_steps}
use Rattle.pass_plain.specs.Legal.{IsLegal, MayFollow, before_call}
use Rattle.pass_plain.specs.Registries.{Registry, Names as Named, named_file, registry_act, registry_after, renamed}
use Rattle.pass_plain.proofs.Lists.{same_numbers}
use Rattle.pass_plain.proofs.Replays.{own_step-own, own_step-other, own_step-fault}
use Rattle.pass_plain.proofs.Rows.{Row}
use Rattle.pass_plain.proofs.Calling.{row}
use Rattle.pass_plain.proofs.Making.{registry-append}
use Rattle.pass_plain.specs.Outlines.{SameButBytes}
use Rattle.pass_report.specs.declared.names.Names.{Names}
use Rattle.pass_report.specs.Names.{holds, AreNames}
use Rattle.pass_report.proofs.Openings.{same_registry}

abbrev pub same_text : List ℕ → List ℕ → Bool
same_text a b = eq_by_cmp (slice_cmp nat_cmp) a b

turned : (a b : List ℕ) → same_text a b ≡ same_text b a
turned a b = (eq_by_cmp_equiv nat_list_cmp_total).symm a b

abbrev pub has : Named → List ℕ → Bool
has names q = finite_map.contains_key names q

some_cond : (b : Bool) (v : ℕ) (o : Option ℕ) → is_some (cond b (Some v) o) ≡ b || is_some o
some_cond true v o = refl
some_cond false v o = refl

none_cond : (b : Bool) (o : Option ℕ) → is_some (cond b None o) ≡ not b && is_some o
none_cond true o = refl
none_cond false o = refl

has-insert : (names : Named) (name : List ℕ) (file : ℕ) (q : List ℕ) → has (finite_map.insert names name file) q ≡ same_text name q || has names q
has-insert names name file q =
    ap is_some (finite_map.get-insert nat_list_cmp_total names name file q) ∙ some_cond (same_text q name) file (finite_map.get names q)
    ∙ ap (λ b. b || has names q) (turned q name)

has-remove : (names : Named) (name q : List ℕ) → has (finite_map.remove names name) q ≡ not (same_text name q) && has names q
has-remove names name q =
    ap is_some (finite_map.get-remove nat_list_cmp_total names name q) ∙ none_cond (same_text q name) (finite_map.get names q)
    ∙ ap (λ b. not b && has names q) (turned q name)

has-renamed : (names : Named) (from to q : List ℕ)
    → has (renamed names from to) q ≡ (if has names from then same_text to q || not (same_text from q) && has names q else has names q)
has-renamed names from to q = by_file (finite_map.get names from)
  where
    by_file : (o : Option ℕ) → has (option_map_or (λ file. finite_map.insert (finite_map.remove names from) to file) o names) q
        ≡ (if is_some o then same_text to q || not (same_text from q) && has names q else has names q)
    by_file (Some file) = has-insert (finite_map.remove names from) to file q ∙ ap (λ b. same_text to q || b) (has-remove names from q)
    by_file None = refl

-- the opening

abbrev pub has_name : List ℕ → StartFile → Bool
has_name q f = option_map_or (λ name. same_text name q) f.name false

abbrev named_as : ℕ → Option (List ℕ) → Option (List ℕ × ℕ)
named_as pnode o = option_map (λ name. (name, pnode)) o

pub opening_has : (files : List StartFile) (q : List ℕ) → list_any (has_name q) files ≡ has (finite_map.from_entries (filter_map named_file files)) q
opening_has [] q = sym (ap is_some (finite_map.get-empty (slice_cmp nat_cmp) q))
opening_has (f ∷ files) q = by_name f.name (opening_has files q)
  where
    by_name : (o : Option (List ℕ)) → list_any (has_name q) files ≡ has (finite_map.from_entries (filter_map named_file files)) q
        → option_map_or (λ name. same_text name q) o false || list_any (has_name q) files
        ≡ has (finite_map.from_entries (cons_option (named_as f.node.pnode o) (filter_map named_file files))) q
    by_name None rest = rest
    by_name (Some name) rest = ap (λ b. same_text name q || b) rest ∙ sym (has-insert (finite_map.from_entries (filter_map named_file files)) name f.node.pnode q)

-- all names of the opening
pub opened_names : (start : Start) (n : Names) → ((q : List ℕ) → holds n q ≡ list_any (has_name q) start.files.items)
    → (session : Session) → SameButBytes start session.start → AreNames session [] n
opened_names start n all session same = λ q.
    all q ∙ opening_has start.files.items q ∙ ap (λ (r : Registry). has r.names q) (same_registry start session.start same)

-- one more file of the opening
pub one_more : (files : List StartFile) (f : StartFile) (q : List ℕ) (b : Bool) → option_map_or (λ name. same_text name q) f.name false ≡ b
    → list_any (has_name q) (files ++ f ∷ []) ≡ b || list_any (has_name q) files
one_more files f q b is =
    list_any-append (has_name q) files (f ∷ []) ∙ joined (list_any (has_name q) files) (has_name q f) ∙ ap (λ b. b || list_any (has_name q) files) is
  where
    joined : (a b : Bool) → a || (b || false) ≡ b || a
    joined true true = refl
    joined true false = refl
    joined false true = refl
    joined false false = refl

module _ (session : Session) (past : List Entry) (e : Entry) (legal : IsLegal session past) (next : MayFollow session past e) (fine : is_fault e.reply ≡ false) where
  abbrev before : Registry
  before = registry_after session past

  abbrev change : List Entry → Registry → Entry → Registry
  change = λ past r e. registry_act r e.act e.reply

  abbrev its_row : Act → Type 0
  its_row a = Row e.who (before_call past e.who e.number) (call_entries past e.who e.number)
      (call_steps e.who (before_call past e.who e.number) (call_entries past e.who e.number) next.step.request) (length (call_entries past e.who e.number)) e.what a

  rows : (a : Act) → e.act ≡ a → its_row a
  rows a is = subst its_row is (row session past e legal next)

  -- an act on the registry
  on_registry : e.what ≡ 0 → registry_after session (past ++ e ∷ []) ≡ registry_act before e.act e.reply
  on_registry zero = registry-append session past e ∙ own_step-own change 0 past before e (ap (λ n. n == 0) zero) fine

  pub bound_names : (name : List ℕ) (n m : Names) → e.act ≡ act.Bind name → AreNames session past n
      → ((q : List ℕ) → holds m q ≡ same_text name q || holds n q) → AreNames session (past ++ e ∷ []) m
  bound_names name n m is names moved = λ q.
      moved q ∙ ap (λ b. same_text name q || b) (names q) ∙ sym (has-insert before.names name (pnode_of e.reply) q)
      ∙ sym (ap (λ (r : Registry). has r.names q) (on_registry (rows (act.Bind name) is) ∙ ap (λ a. registry_act before a e.reply) is))

  pub moved_names : (from to : List ℕ) (n m : Names) → e.act ≡ act.Move from to → AreNames session past n
      → ((q : List ℕ) → holds m q ≡ (if holds n from then same_text to q || not (same_text from q) && holds n q else holds n q)) → AreNames session (past ++ e ∷ []) m
  moved_names from to n m is names moved = λ q.
      moved q ∙ (λ i. if names from i then same_text to q || not (same_text from q) && names q i else names q i) ∙ sym (has-renamed before.names from to q)
      ∙ sym (ap (λ (r : Registry). has r.names q) (on_registry (rows (act.Move from to) is) ∙ ap (λ a. registry_act before a e.reply) is))

  pub unbound_names : (name : List ℕ) (n m : Names) → e.act ≡ act.Unbind name → AreNames session past n
      → ((q : List ℕ) → holds m q ≡ not (same_text name q) && holds n q) → AreNames session (past ++ e ∷ []) m
  unbound_names name n m is names moved = λ q.
      moved q ∙ ap (λ b. not (same_text name q) && b) (names q) ∙ sym (has-remove before.names name q)
      ∙ sym (ap (λ (r : Registry). has r.names q) (on_registry (rows (act.Unbind name) is) ∙ ap (λ a. registry_act before a e.reply) is))

  other_act : (a : Act) → ((name : List ℕ) → a ≡ act.Bind name → ⊥) → ((from to : List ℕ) → a ≡ act.Move from to → ⊥) → ((name : List ℕ) → a ≡ act.Unbind name → ⊥)
      → (r : Registry) (y : Reply) → (registry_act r a y).names ≡ r.names
  other_act (act.Bind name) bind move unbind r y = absurd (bind name refl)
  other_act (act.Move from to) bind move unbind r y = absurd (move from to refl)
  other_act (act.Unbind name) bind move unbind r y = absurd (unbind name refl)
  other_act (act.Mint k) bind move unbind r y = refl
  other_act _ bind move unbind r y = refl

  pub other_names : (n : Names) → ((name : List ℕ) → e.act ≡ act.Bind name → ⊥) → ((from to : List ℕ) → e.act ≡ act.Move from to → ⊥) → ((name : List ℕ) → e.act ≡ act.Unbind name → ⊥)
      → AreNames session past n → AreNames session (past ++ e ∷ []) n
  other_names n bind move unbind names = λ q. names q ∙ sym (ap (λ (r : Named). has r q) (stays (e.what == 0) refl))
    where
      stays : (b : Bool) → (e.what == 0) ≡ b → (registry_after session (past ++ e ∷ [])).names ≡ before.names
      stays true is = ap (λ (r : Registry). r.names) (on_registry (same_numbers e.what 0 is)) ∙ other_act e.act bind move unbind before e.reply
      stays false is = ap (λ (r : Registry). r.names) (registry-append session past e ∙ own_step-other change 0 past before e is)

-- a fault changes no name
pub faulted_names : (session : Session) (past : List Entry) (e : Entry) (n : Names) → is_fault e.reply ≡ true → AreNames session past n → AreNames session (past ++ e ∷ []) n
faulted_names session past e n fault names = λ q.
    names q ∙ sym (ap (λ (r : Registry). has r.names q) (registry-append session past e ∙ own_step-fault (λ past r e. registry_act r e.act e.reply) 0 past (registry_after session past) e fault))

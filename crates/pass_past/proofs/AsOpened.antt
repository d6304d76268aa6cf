-- What a file of the opening has while it has the version with which it was opened.
use Rattle.std.proofs.Common.{◌≡◌, ℕ, ◌+◌, ◌≤◌, ◌==◌, Bool, true, false, not, ◌&&◌, ◌||◌, List, [], ◌∷◌, ◌++◌, refl, ◌∙◌, ap, subst, arith}
use Rattle.std.specs.Prelude.{Option, Some, None, zip, if◌then◌else◌}
use Rattle.std.specs.Option.{option_map_or}
use Rattle.std.specs.List.{list_any}
use Rattle.pass_entry.specs.declared.entry.Entry.{Entry}
use Rattle.pass_entry.specs.declared.entry.Act.{Act}
use Rattle.pass_entry.specs.declared.entry.Act.TheVariants as act
use Rattle.pass_entry.specs.declared.objects.Node.{Node}
use Rattle.pass_plain.specs.Histories.{is_fault, out_of, uses}
use Rattle.pass_plain.specs.Sessions.{Session, is_opened, opening_version, opening_bytes}
use Rattle.pass_plain.specs.Legal.{IsLegal, MayFollow}
use Rattle.pass_plain.specs.Files.{file_act, file_after}
use Rattle.pass_plain.specs.Recording.{is_change}
use Rattle.pass_plain.specs.Versions.{same_node, same_source, source_in, node_in, nodes_of, is_used, is_repeated, is_in, is_exec, is_fresh, is_freeze, always_freezes, version_after}
use Rattle.pass_plain.specs.Lineages.{Lineage, IsLineageStep, lineage_after, lineage_act, is_fresh_act, has, used, frozen, with_source, linked}
use Rattle.pass_plain.proofs.Lists.{same_numbers, same_itself, or_true, and_none}
use Rattle.pass_plain.proofs.Replays.{state_after-append, own_step-other, own_step-fault, own_step-own}
use Rattle.pass_plain.proofs.Calling.{legal_induction}
use Rattle.pass_plain.proofs.Lineages.{lineage_law}
use Rattle.pass_plain.proofs.LastNodes.{node_in-entry}

-- versions rise

one_or_same : (b : Bool) (v : ℕ) → v ≤ (if b then v + 1 else v)
one_or_same true v = omega arith
one_or_same false v = omega arith

module _ (session : Session) (history : List Entry) (e : Entry) where
  moved : version_after session (history ++ e ∷ []) e.what
      ≡ (if is_freeze session history (nodes_of session history) e then version_after session history e.what + 1 else version_after session history e.what)
  moved = ap (λ (n : Node). n.version) (node_in-entry session history e)

  -- a freeze begins the next version
  pub ended_rises : is_freeze session history (nodes_of session history) e ≡ true → version_after session (history ++ e ∷ []) e.what ≡ version_after session history e.what + 1
  ended_rises freezes = moved ∙ ap (λ (b : Bool). if b then version_after session history e.what + 1 else version_after session history e.what) freezes

  pub rises : IsLegal session history → MayFollow session history e → (o : ℕ) → version_after session history o ≤ version_after session (history ++ e ∷ []) o
  rises legal next o = at_object (e.what == o) refl
    where
      at_object : (b : Bool) → (e.what == o) ≡ b → version_after session history o ≤ version_after session (history ++ e ∷ []) o
      at_object true own =
          subst (λ (x : ℕ). version_after session history x ≤ version_after session (history ++ e ∷ []) x) (same_numbers e.what o own)
          (omega (arith, moved, one_or_same (is_freeze session history (nodes_of session history) e) (version_after session history e.what)))
      at_object false other =
          let kept = ap (λ (n : Node). n.version) ((lineage_law session history e legal next).others o other).node in
          omega (arith, kept)

-- no version is below the one with which its object began
pub opening_least : (session : Session) (o : ℕ) (history : List Entry) → IsLegal session history → opening_version session.start o ≤ version_after session history o
opening_least session o = legal_induction session (λ h. opening_version session.start o ≤ version_after session h o) (omega arith)
    (λ history e legal low next. omega (arith, low, rises session history e legal next o))

-- what an act does to a version that is marked and has taken from nothing

is_plain : (l : Lineage) (source : Option Node) (a : Act) → always_freezes a ≡ false → lineage_act l source a ≡ (if uses a then used l else option_map_or (linked l) source l)
is_plain l source act.Freeze plain = absurd (cc)
is_plain l source (act.Exec out name args) plain = absurd (cc)
is_plain l source _ plain = refl

begun : (l : Lineage) (source : Option Node) → (option_map_or (with_source (frozen l)) source (frozen l)).node.version ≡ l.node.version + 1
begun l None = refl
begun l (Some s) = refl

act_moved : (l : Lineage) (source : Option Node) (a : Act) → always_freezes a ≡ true → (lineage_act l source a).node.version ≡ l.node.version + 1
act_moved l source act.Freeze freezes = refl
act_moved l source (act.Exec out name args) freezes = begun l source
act_moved l source _ freezes = absurd (cc)

-- a marked version that has taken from nothing begins a new one as it takes
new_link : (l : Lineage) (s : Node) → l.marked ≡ true → has l s ≡ false → linked l s ≡ with_source (frozen l) s
new_link l s marked none =
    ap (λ (b : Bool). if b then l else if l.marked then with_source (frozen l) s else with_source l s) none
    ∙ ap (λ (b : Bool). if b then with_source (frozen l) s else with_source l s) marked

-- the act left the version, which still has taken from nothing; and it took from nothing, or used the object
record IsStill (l : Lineage) (source : Option Node) (a : Act) : Type 0 where
  none : (n : Node) → has (lineage_act l source a) n ≡ false
  takes : uses a ≡ false → source ≡ None

still : (l : Lineage) (source : Option Node) (a : Act) → l.marked ≡ true → ((n : Node) → has l n ≡ false) → (lineage_act l source a).node.version ≡ l.node.version → IsStill l source a
still l source a marked none same = at_freeze (always_freezes a) refl
  where
    at_source : (o : Option Node) → source ≡ o → lineage_act l source a ≡ option_map_or (linked l) source l → IsStill l source a
    at_source None is plain = record {
      none = λ n. ap (λ (x : Lineage). has x n) (plain ∙ ap (λ (o : Option Node). option_map_or (linked l) o l) is) ∙ none n;
      takes = λ unused. is;
    }
    at_source (Some s) is plain =
        let one : lineage_act l source a ≡ with_source (frozen l) s = plain ∙ ap (λ (o : Option Node). option_map_or (linked l) o l) is ∙ new_link l s marked (none s) in
        absurd (omega (arith, same, ap (λ (x : Lineage). x.node.version) one))

    at_use : (b : Bool) → uses a ≡ b → lineage_act l source a ≡ (if uses a then used l else option_map_or (linked l) source l) → IsStill l source a
    at_use true is plain = record {
      none = λ n. ap (λ (x : Lineage). has x n) (plain ∙ ap (λ (b : Bool). if b then used l else option_map_or (linked l) source l) is) ∙ none n;
      takes = λ unused. absurd (cc (is, unused));
    }
    at_use false is plain = at_source source refl (plain ∙ ap (λ (b : Bool). if b then used l else option_map_or (linked l) source l) is)

    at_freeze : (b : Bool) → always_freezes a ≡ b → IsStill l source a
    at_freeze true freezes = absurd (omega (arith, same, act_moved l source a freezes))
    at_freeze false plain = at_use (uses a) refl (is_plain l source a plain)

-- acts that change a content

record IsTaking (a : Act) : Type 0 where
  unused : uses a ≡ false
  no_exec : is_exec a ≡ false
  names : option_map_or (λ (out : ℕ). true) (out_of a) false ≡ true

taking : (a : Act) → is_change a ≡ true → IsTaking a
taking (act.Put out at bytes) changes = record { unused = refl; no_exec = refl; names = refl }
taking (act.Cut out size) changes = record { unused = refl; no_exec = refl; names = refl }
taking _ changes = absurd (cc)

unchanged : (content : List ℕ) (a : Act) → is_change a ≡ false → file_act content a ≡ content
unchanged content (act.Put out at bytes) same = absurd (cc)
unchanged content (act.Cut out size) same = absurd (cc)
unchanged content _ same = refl

fresh_act : (l : Lineage) (source : Option Node) (a : Act) → is_exec a ≡ false → is_fresh_act l source a ≡ option_map_or (λ (s : Node). not (has l s)) source false
fresh_act l source (act.Exec out name args) other = absurd (cc)
fresh_act l source _ other = refl

same_none : (o : Option Node) → same_source o None ≡ false
same_none None = refl
same_none (Some a) = refl

repeats_none : (nodes : List Node) (here : Node) (xs : List (Entry × Node)) → list_any (λ (s : Entry × Node). same_node s.1 here && same_source (source_in nodes s.0) None) xs ≡ false
repeats_none nodes here [] = refl
repeats_none nodes here (x ∷ xs) =
    ap (λ (b : Bool). (same_node x.1 here && b) || list_any (λ (s : Entry × Node). same_node s.1 here && same_source (source_in nodes s.0) None) xs) (same_none (source_in nodes x.0))
    ∙ ap (λ (b : Bool). b || list_any (λ (s : Entry × Node). same_node s.1 here && same_source (source_in nodes s.0) None) xs) (and_none (same_node x.1 here))
    ∙ repeats_none nodes here xs

-- it has the content with which it was opened, and has taken from nothing
pub record IsAsOpened (session : Session) (o : ℕ) (history : List Entry) : Type 0 where
  pub bytes : file_after session history o ≡ opening_bytes session.start o
  pub none : (n : Node) → has (lineage_after session history o) n ≡ false

module _ (session : Session) (history : List Entry) (e : Entry) (legal : IsLegal session history) (next : MayFollow session history e) where
  abbrev nodes : List Node
  nodes = nodes_of session history

  abbrev now : Lineage
  now = lineage_after session history e.what

  abbrev from : Option Node
  from = source_in nodes e

  step : IsLineageStep session history e now from
  step = lineage_law session history e legal next

  -- a change takes from some node
  no_source : is_fault e.reply ≡ false → is_change e.act ≡ true → from ≡ None → ⊥
  no_source fine changes none =
      let t = taking e.act changes in
      let by_act : is_fresh session history nodes e ≡ false =
      step.fresh fine ∙ fresh_act now from e.act t.no_exec ∙ ap (λ (o : Option Node). option_map_or (λ (s : Node). not (has now s)) o false) none in
      let unrepeated : is_repeated session history nodes e ≡ false =
      ap (λ (o : Option Node). list_any (λ (s : Entry × Node). same_node s.1 (node_in session nodes e.what) && same_source (source_in nodes s.0) o) (zip history nodes)) none
      ∙ repeats_none nodes (node_in session nodes e.what) (zip history nodes) in
      let takes : is_in e ≡ true = ap (λ (b : Bool). option_map_or (λ (out : ℕ). true) (if b then None else out_of e.act) false) fine ∙ t.names in
      let by_rule : is_fresh session history nodes e ≡ true =
      ap (λ (b : Bool). is_in e && (is_exec e.act || not b)) unrepeated ∙ ap (λ (b : Bool). is_in e && (b || true)) t.no_exec ∙ ap (λ (b : Bool). b && true) takes in
      absurd (cc (by_act, by_rule))

  own_content : is_fault e.reply ≡ false → IsStill now from e.act → (b : Bool) → is_change e.act ≡ b → file_act (file_after session history e.what) e.act ≡ file_after session history e.what
  own_content fine s false same = unchanged (file_after session history e.what) e.act same
  own_content fine s true changes = absurd (no_source fine changes (s.takes (taking e.act changes).unused))

  marked : is_opened session.start e.what ≡ true → version_after session history e.what ≡ opening_version session.start e.what → now.marked ≡ true
  marked opened same =
      let u = is_used history nodes (node_in session nodes e.what) in
      let v = opening_version session.start e.what in
      ap (λ (b : Bool). u || (b && version_after session history e.what == v)) opened
      ∙ ap (λ (n : ℕ). u || (true && n == v)) same ∙ ap (λ (b : Bool). u || b) (same_itself v) ∙ or_true u

  own : is_opened session.start e.what ≡ true → version_after session history e.what ≡ opening_version session.start e.what → version_after session (history ++ e ∷ []) e.what ≡ opening_version session.start e.what
      → IsAsOpened session e.what history → IsAsOpened session e.what (history ++ e ∷ [])
  own opened before after first = at_fault (is_fault e.reply) refl
    where
      at_fault : (b : Bool) → is_fault e.reply ≡ b → IsAsOpened session e.what (history ++ e ∷ [])
      at_fault true fault = record {
        bytes = state_after-append (λ past content e. file_act content e.act) e.what (opening_bytes session.start e.what) history e
            ∙ own_step-fault (λ past content e. file_act content e.act) e.what history (file_after session history e.what) e fault ∙ first.bytes;
        none = λ n. (step.stays fault).sources n ∙ first.none n;
      }
      at_fault false fine =
          let moves = step.moves fine in
          let same : (lineage_act now from e.act).node.version ≡ now.node.version = omega (arith, before, after, ap (λ (n : Node). n.version) moves.node) in
          let s = still now from e.act (marked opened before) first.none same in
          record {
            bytes = state_after-append (λ past content e. file_act content e.act) e.what (opening_bytes session.start e.what) history e
                ∙ own_step-own (λ past content e. file_act content e.act) e.what history (file_after session history e.what) e (same_itself e.what) fine
                ∙ own_content fine s (is_change e.act) refl ∙ first.bytes;
            none = λ n. moves.sources n ∙ s.none n;
          }

  each : (o : ℕ) → is_opened session.start o ≡ true → version_after session history o ≡ opening_version session.start o → version_after session (history ++ e ∷ []) o ≡ opening_version session.start o
      → IsAsOpened session o history → IsAsOpened session o (history ++ e ∷ [])
  each o opened before after first = at_object (e.what == o) refl
    where
      at_object : (b : Bool) → (e.what == o) ≡ b → IsAsOpened session o (history ++ e ∷ [])
      at_object true here =
          subst (λ (x : ℕ). is_opened session.start x ≡ true → version_after session history x ≡ opening_version session.start x → version_after session (history ++ e ∷ []) x ≡ opening_version session.start x
          → IsAsOpened session x history → IsAsOpened session x (history ++ e ∷ [])) (same_numbers e.what o here) own opened before after first
      at_object false other = record {
        bytes = state_after-append (λ past content e. file_act content e.act) o (opening_bytes session.start o) history e
            ∙ own_step-other (λ past content e. file_act content e.act) o history (file_after session history o) e other ∙ first.bytes;
        none = λ n. (step.others o other).sources n ∙ first.none n;
      }

pub as_opened : (session : Session) (o : ℕ) → is_opened session.start o ≡ true → (history : List Entry) → IsLegal session history → version_after session history o ≡ opening_version session.start o
    → IsAsOpened session o history
as_opened session o opened = legal_induction session (λ h. version_after session h o ≡ opening_version session.start o → IsAsOpened session o h)
    (λ same. record { bytes = refl; none = λ n. refl })
    (λ history e legal before next after.
    let same : version_after session history o ≡ opening_version session.start o = omega (arith, after, opening_least session o history legal, rises session history e legal next o) in
    each session history e legal next o opened same after (before same))

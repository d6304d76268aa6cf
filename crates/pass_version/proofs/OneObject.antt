-- The steps of one object's lineage agree with the definitions, for each lineage that is alike.
use Rattle.std.proofs.Common.{◌≡◌, ◌+◌, ℕ, Bool, true, false, not, ◌&&◌, ◌||◌, List, [], ◌∷◌, ◌++◌, refl, ap, sym, ◌∙◌, subst}
use Rattle.std.specs.Prelude.{Option, Some, None, slice_get, if◌then◌else◌}
use Rattle.std.specs.Option.{option_map_or}
use Rattle.pass_entry.specs.declared.entry.Entry.{Entry}
use Rattle.pass_entry.specs.declared.entry.Act.{Act}
use Rattle.pass_entry.specs.declared.entry.Act.TheVariants as act
use Rattle.pass_entry.specs.declared.objects.Node.{Node}
use Rattle.pass_plain.specs.Histories.{is_fault, is_out, uses, out_of, source_place}
use Rattle.pass_plain.specs.Sessions.{Session, is_opened, opening_version}
use Rattle.pass_plain.specs.Legal.{IsLegal, MayFollow}
use Rattle.pass_plain.specs.Versions.{same_node, nodes_of, source_in, is_fresh, is_freeze, is_exec, always_freezes}
use Rattle.pass_plain.specs.Lineages.{Lineage, IsAlike, lineage_after, has, used, frozen, linked, with_source, lineage_act, is_fresh_act, is_freeze_act}
use Rattle.pass_plain.proofs.Lists.{true_left, true_right, not_true, same_itself, and_true}
use Rattle.pass_plain.proofs.Lineages.{lineage_law}
use Rattle.pass_version.specs.States.{IsStateAfter}
use Rattle.pass_version.specs.OneObject.{OpeningLaw, StepLaw, OthersLaw}

pub alike_then : (l m n : Lineage) → IsAlike l m → IsAlike m n → IsAlike l n
alike_then l m n a b = record { node = a.node ∙ b.node; marked = a.marked ∙ b.marked; sources = λ node. a.sources node ∙ b.sources node }

pub alike_turned : (l m : Lineage) → IsAlike l m → IsAlike m l
alike_turned l m a = record { node = sym a.node; marked = sym a.marked; sources = λ node. sym (a.sources node) }

pub used_alike : (l m : Lineage) → IsAlike l m → IsAlike (used l) (used m)
used_alike l m a = record { node = a.node; marked = refl; sources = a.sources }

pub frozen_alike : (l m : Lineage) → IsAlike l m → IsAlike (frozen l) (frozen m)
frozen_alike l m a = record { node = ap (λ (n : Node). record { pnode = n.pnode; version = n.version + 1 }) a.node; marked = refl; sources = λ node. refl }

pub source_alike : (l m : Lineage) (s : Node) → IsAlike l m → IsAlike (with_source l s) (with_source m s)
source_alike l m s a = record { node = a.node; marked = a.marked; sources = λ node. ap (λ b. same_node node s || b) (a.sources node) }

pub linked_alike : (l m : Lineage) (s : Node) → IsAlike l m → IsAlike (linked l s) (linked m s)
linked_alike l m s a =
    subst (λ b. IsAlike (linked l s) (if b then m else if m.marked then with_source (frozen m) s else with_source m s)) (a.sources s)
    (subst (λ b. IsAlike (linked l s) (if has l s then m else if b then with_source (frozen m) s else with_source m s)) a.marked
    (by_tests (has l s) l.marked))
  where
    by_tests : (known marked : Bool) → IsAlike (if known then l else if marked then with_source (frozen l) s else with_source l s) (if known then m else if marked then with_source (frozen m) s else with_source m s)
    by_tests true marked = a
    by_tests false true = source_alike (frozen l) (frozen m) s (frozen_alike l m a)
    by_tests false false = source_alike l m s a

-- what an act makes of two alike lineages is alike
pub act_alike : (l m : Lineage) (source : Option Node) (a : Act) → IsAlike l m → IsAlike (lineage_act l source a) (lineage_act m source a)
act_alike l m source act.Freeze alike = frozen_alike l m alike
act_alike l m (Some s) (act.Exec out name args) alike = source_alike (frozen l) (frozen m) s (frozen_alike l m alike)
act_alike l m None (act.Exec out name args) alike = frozen_alike l m alike
act_alike l m source (act.Show fd len) alike = used_alike l m alike
act_alike l m source (act.Spawn child) alike = used_alike l m alike
act_alike l m source act.Reap alike = used_alike l m alike
act_alike l m source (act.Give at len) alike = used_alike l m alike
act_alike l m source act.Load alike = used_alike l m alike
act_alike l m source (act.Take len) alike = used_alike l m alike
act_alike l m source act.Cite alike = used_alike l m alike
act_alike l m (Some s) _ alike = linked_alike l m s alike
act_alike l m None _ alike = alike

pub alike_state : (session : Session) (h : List Entry) (m n : Lineage) → IsAlike m n → IsStateAfter session h n → IsStateAfter session h m
alike_state session h m n a is =
    subst (λ o. IsAlike m (lineage_after session h o)) (sym (ap (λ (n : Node). n.pnode) a.node)) (alike_then m n (lineage_after session h n.node.pnode) a is)

-- acts that use their object
use_act : (l : Lineage) (source : Option Node) (a : Act) → uses a ≡ true → lineage_act l source a ≡ used l
use_act l source act.Freeze is = absurd (cc)
use_act l source (act.Exec out name args) is = absurd (cc)
use_act l source (act.Show fd len) is = refl
use_act l source (act.Spawn child) is = refl
use_act l source act.Reap is = refl
use_act l source (act.Give at len) is = refl
use_act l source act.Load is = refl
use_act l source (act.Take len) is = refl
use_act l source act.Cite is = refl
use_act l source _ is = absurd (cc)

-- what an act that takes from a node does, where it is no exec
record Takes (l : Lineage) (s : Node) (a : Act) : Type 0 where
  moves : lineage_act l (Some s) a ≡ linked l s
  fresh : is_fresh_act l (Some s) a ≡ not (has l s)
  freezes : is_freeze_act l (Some s) a ≡ not (has l s) && l.marked

take_act : (l : Lineage) (s : Node) (a : Act) (out : ℕ) → out_of a ≡ Some out → is_exec a ≡ false → Takes l s a
take_act l s (act.Born o descriptors) out names other = record { moves = refl; fresh = refl; freezes = refl }
take_act l s (act.Gain o fd) out names other = record { moves = refl; fresh = refl; freezes = refl }
take_act l s (act.Gather o child) out names other = record { moves = refl; fresh = refl; freezes = refl }
take_act l s (act.Put o at bytes) out names other = record { moves = refl; fresh = refl; freezes = refl }
take_act l s (act.Cut o size) out names other = record { moves = refl; fresh = refl; freezes = refl }
take_act l s (act.Push o bytes) out names other = record { moves = refl; fresh = refl; freezes = refl }
take_act l s (act.Told o) out names other = record { moves = refl; fresh = refl; freezes = refl }
take_act l s _ out names other = absurd (cc)

exec_act : (l : Lineage) (s : Node) (a : Act) → is_exec a ≡ true → lineage_act l (Some s) a ≡ with_source (frozen l) s
exec_act l s (act.Exec out name args) is = refl
exec_act l s _ is = absurd (cc)

idle_act : (l : Lineage) (a : Act) → uses a ≡ false → always_freezes a ≡ false → lineage_act l None a ≡ l
idle_act l act.Freeze idle steady = absurd (cc)
idle_act l (act.Exec out name args) idle steady = absurd (cc)
idle_act l (act.Show fd len) idle steady = absurd (cc)
idle_act l (act.Spawn child) idle steady = absurd (cc)
idle_act l act.Reap idle steady = absurd (cc)
idle_act l (act.Give at len) idle steady = absurd (cc)
idle_act l act.Load idle steady = absurd (cc)
idle_act l (act.Take len) idle steady = absurd (cc)
idle_act l act.Cite idle steady = absurd (cc)
idle_act l _ idle steady = refl

linked_pnode : (l : Lineage) (s : Node) → (linked l s).node.pnode ≡ l.node.pnode
linked_pnode l s = by_tests (has l s) l.marked
  where
    by_tests : (known marked : Bool) → (if known then l else if marked then with_source (frozen l) s else with_source l s).node.pnode ≡ l.node.pnode
    by_tests true marked = refl
    by_tests false true = refl
    by_tests false false = refl

module _ (session : Session) (history : List Entry) (e : Entry) (l : Lineage) (legal : IsLegal session history) (next : MayFollow session history e)
    (on : e.what ≡ l.node.pnode) (state : IsStateAfter session history l) where
  abbrev known : Lineage
  known = lineage_after session history e.what

  abbrev given : Option Node
  given = source_in (nodes_of session history) e

  abbrev after : Lineage
  after = lineage_after session (history ++ e ∷ []) e.what

  alike : IsAlike l known
  alike = subst (λ o. IsAlike l (lineage_after session history o)) (sym on) state

  -- a lineage of the same object that is alike to what the definitions have is the state after the entry
  ends_at : (m : Lineage) → m.node.pnode ≡ l.node.pnode → IsAlike m after → IsStateAfter session (history ++ e ∷ []) m
  ends_at m same a = subst (λ o. IsAlike m (lineage_after session (history ++ e ∷ []) o)) (on ∙ sym same) a

  moves_to : is_fault e.reply ≡ false → (m : Lineage) → lineage_act known given e.act ≡ m → IsAlike m after
  moves_to fine m is = subst (λ n. IsAlike n after) is (alike_turned after (lineage_act known given e.act) ((lineage_law session history e legal next).moves fine))

  -- an entry that takes from a node is no fault and names the place of an OUT
  named : (o : Option ℕ) → source_place e ≡ o → (s : Node) → given ≡ Some s → (out : ℕ) × (source_place e ≡ Some out)
  named None none s is = absurd (let z : None ≡ Some s = sym (ap (λ o. option_map_or (λ out. slice_get (nodes_of session history) out) o None) none) ∙ is in cc)
  named (Some out) names s is = (out, names)

  fine_of : (b : Bool) → is_fault e.reply ≡ b → (out : ℕ) → source_place e ≡ Some out → (is_fault e.reply ≡ false) × (out_of e.act ≡ Some out)
  fine_of true refused out names = absurd (let z : None ≡ Some out = sym (ap (λ b. if b then None else out_of e.act) refused) ∙ names in cc)
  fine_of false fine out names = (fine, sym (ap (λ b. if b then None else out_of e.act) fine) ∙ names)

  marked_by : is_out e ≡ true → IsStateAfter session (history ++ e ∷ []) (used l)
  marked_by out =
      let fine = not_true _ (true_right (uses e.act) _ out) in
      ends_at (used l) refl (alike_then (used l) (used known) after (used_alike l known alike) (moves_to fine (used known) (use_act known given e.act (true_left _ (not (is_fault e.reply)) out))))

  frozen_by : e.act ≡ act.Freeze → is_fault e.reply ≡ false → IsStateAfter session (history ++ e ∷ []) (frozen l)
  frozen_by is fine =
      ends_at (frozen l) refl (alike_then (frozen l) (frozen known) after (frozen_alike l known alike) (moves_to fine (frozen known) (ap (lineage_act known given) is)))

  taken_by : (s : Node) → given ≡ Some s → is_exec e.act ≡ false
      → IsStateAfter session (history ++ e ∷ []) (linked l s)
      × (is_fresh session history (nodes_of session history) e ≡ not (has l s))
      × (is_freeze session history (nodes_of session history) e ≡ not (has l s) && l.marked)
  taken_by s is other =
      let (out, names) = named (source_place e) refl s is in
      let (fine, from) = fine_of (is_fault e.reply) refl out names in
      let act_takes = take_act known s e.act out from other in
      let step = lineage_law session history e legal next in (
        ends_at (linked l s) (linked_pnode l s)
            (alike_then (linked l s) (linked known s) after (linked_alike l known s alike)
            (moves_to fine (linked known s) (ap (λ o. lineage_act known o e.act) is ∙ act_takes.moves))),
        step.fresh fine ∙ ap (λ o. is_fresh_act known o e.act) is ∙ act_takes.fresh ∙ ap not (sym (alike.sources s)),
        step.freezes fine ∙ ap (λ o. is_freeze_act known o e.act) is ∙ act_takes.freezes
            ∙ ap (λ b. not b && known.marked) (sym (alike.sources s)) ∙ ap (λ b. not (has l s) && b) (sym alike.marked),
      )

  exec_by : (s : Node) → given ≡ Some s → is_exec e.act ≡ true → IsStateAfter session (history ++ e ∷ []) (with_source (frozen l) s)
  exec_by s is exec =
      let (out, names) = named (source_place e) refl s is in
      let (fine, from) = fine_of (is_fault e.reply) refl out names in
      ends_at (with_source (frozen l) s) refl
      (alike_then (with_source (frozen l) s) (with_source (frozen known) s) after (source_alike (frozen l) (frozen known) s (frozen_alike l known alike))
      (moves_to fine (with_source (frozen known) s) (ap (λ o. lineage_act known o e.act) is ∙ exec_act known s e.act exec)))

  stays_by : (b : Bool) → is_fault e.reply ≡ b → is_out e ≡ false → always_freezes e.act && not (is_fault e.reply) ≡ false → given ≡ None
      → IsStateAfter session (history ++ e ∷ []) l
  stays_by true refused idle steady none =
      ends_at l refl (alike_then l known after alike (alike_turned after known ((lineage_law session history e legal next).stays refused)))
  stays_by false fine idle steady none =
      let unused = sym (ap (λ b. uses e.act && not b) fine ∙ and_true (uses e.act)) ∙ idle in
      let unfrozen = sym (ap (λ b. always_freezes e.act && not b) fine ∙ and_true (always_freezes e.act)) ∙ steady in
      ends_at l refl (alike_then l known after alike (moves_to fine known (ap (λ o. lineage_act known o e.act) none ∙ idle_act known e.act unused unfrozen)))

pub step_law : StepLaw
step_law session history e l legal next on state = record {
  marks = marked_by session history e l legal next on state;
  freezes = frozen_by session history e l legal next on state;
  takes = taken_by session history e l legal next on state;
  execs = exec_by session history e l legal next on state;
  stays = stays_by session history e l legal next on state (is_fault e.reply) refl;
}

pub others_law : OthersLaw
others_law session history e l legal next other state =
    alike_then l (lineage_after session history l.node.pnode) (lineage_after session (history ++ e ∷ []) l.node.pnode) state
    (alike_turned (lineage_after session (history ++ e ∷ []) l.node.pnode) (lineage_after session history l.node.pnode)
    ((lineage_law session history e legal next).others l.node.pnode other))

pub opening_law : OpeningLaw
opening_law session object = record {
  node = refl;
  marked = sym (ap (λ b. is_opened session.start object && b) (same_itself (opening_version session.start object)) ∙ and_true (is_opened session.start object));
  sources = λ node. refl;
}

-- The numbers of objects and the versions of a legal history.
use Rattle.std.proofs.Common.{◌≡◌, ◌∙◌, ◌==◌, ◌^◌, ◌+◌, ◌<◌, ◌≤◌, ℕ, suc, Bool, true, false, cond, not, ◌&&◌, List, [], ◌∷◌, ◌++◌, length, take, refl, ap, sym, subst, arith, inl, inr, length-append}
use Rattle.std.specs.Prelude.{Option, Some, None, slice_get, find, nat_le, if◌then◌else◌}
use Rattle.std.specs.Option.{option_map_or}
use Rattle.std.specs.FinMap as finite_map
use Rattle.std.proofs.lemmas.Bool.Decides.{nat_tests}
use Rattle.std.proofs.lemmas.List.Sums.{fold-append}
use Rattle.pass_entry.specs.declared.entry.Entry.{Entry}
use Rattle.pass_entry.specs.declared.entry.Act.{Act}
use Rattle.pass_entry.specs.declared.entry.Act.TheVariants as act
use Rattle.pass_entry.specs.declared.entry.Reply.{Reply}
use Rattle.pass_entry.specs.declared.entry.Reply.TheVariants as answer
use Rattle.pass_entry.specs.declared.entry.CallFault.TheVariants as fault
use Rattle.pass_entry.specs.declared.objects.Kind.{Kind}
use Rattle.pass_entry.specs.declared.objects.Kind.TheVariants as kind
use Rattle.pass_entry.specs.declared.objects.Node.{Node}
use Rattle.pass_entry.specs.Ranges.{is_number, is_node}
use Rattle.pass_plain.specs.declared.start.StartFile.{StartFile}
use Rattle.pass_plain.specs.Histories.{is_fault, uses, source_place, pnode_of, made_kind}
use Rattle.pass_plain.specs.Sessions.{Session, opened_app, opening_version}
use Rattle.pass_plain.specs.Sound.{IsSound, IsSoundFile, IsVersion}
use Rattle.pass_plain.specs.Registries.{Registry, registry_after, registry_act, is_full, Exists, next_pnode}
use Rattle.pass_plain.specs.Replies.{reply_to}
use Rattle.pass_plain.specs.Versions.{version_in, node_at_entry, nodes_of, is_freeze, source_in, version_after}
use Rattle.pass_plain.specs.Legal.{IsLegal, MayFollow}
use Rattle.pass_plain.specs.Lawful.{is_registry_act}
use Rattle.pass_plain.proofs.Lists.{some_is, true_left, or_false, both_true, same_numbers}
use Rattle.pass_plain.proofs.Appends.{place_of}
use Rattle.pass_plain.proofs.Calling.{legal_induction, legal_take}
use Rattle.pass_plain.proofs.Making.{registry-append, stocked, made_reply}
use Rattle.pass_plain.proofs.Objects.{object_law}
use Rattle.pass_plain.proofs.Sources.{names_source, source_of}
use Rattle.pass_plain.proofs.Versioned.{nodes_of-append, length-nodes_of}
use Rattle.pass_range.proofs.Changing.{snoc_induction}

pub number_is : (n : ℕ) → 1 ≤ n → n < 2 ^ 48 → is_number n ≡ true
number_is n low high = grind (arith, nat_tests)

-- objects

-- an object was made, and the session had not made all
not_full : (b full : Bool) (made : Reply) (y : Reply) → cond b (answer.Fault fault.Exists) (cond full (answer.Fault fault.TooMany) made) ≡ y → is_fault y ≡ false → full ≡ false
not_full true full made y e done = absurd (let z : true ≡ false = ap is_fault e ∙ done in cc)
not_full false true made y e done = absurd (let z : true ≡ false = ap is_fault e ∙ done in cc)
not_full false false made y e done = refl

pub room_left : (session : Session) (r : Registry) (k : Kind) → is_full session r k ≡ false → r.made < session.objects
room_left session r k room = above session.objects r.made (or_false (nat_le session.objects r.made) _ room).0
  where
    above : (a b : ℕ) → nat_le a b ≡ false → b < a
    above a b h = grind (arith, nat_tests)

-- the session has not made all its objects before an act that makes one
made_less : (session : Session) (history : List Entry) (what : ℕ) (a : Act) (y : Reply) → reply_to session history what a ≡ Some y → is_fault y ≡ false → (k : Kind) → made_kind a ≡ Some k
    → (registry_after session history).made < session.objects
made_less session history what (act.Bind name) y e done k is =
    let r = registry_after session history in
    room_left session r kind.File (not_full (finite_map.contains_key r.names name) (is_full session r kind.File) (answer.Made (next_pnode session r)) y (some_is _ _ e) done)
made_less session history what (act.Mint kd) y e done k is =
    let r = registry_after session history in
    room_left session r kd (not_full false (is_full session r kd) (answer.Made (next_pnode session r)) y (some_is _ _ e) done)
made_less session history what _ y e done k is = absurd (cc)

act_few : (objects : ℕ) (r : Registry) (a : Act) (y : Reply) → r.made ≤ objects → ((k : Kind) → made_kind a ≡ Some k → r.made < objects) → (registry_act r a y).made ≤ objects
act_few objects r (act.Bind name) y few less = let z = less kind.File refl in omega (arith, z)
act_few objects r (act.Mint k) y few less = let z = less k refl in omega (arith, z)
act_few objects r _ y few less = few

made_few : (session : Session) (history : List Entry) → IsLegal session history → (registry_after session history).made ≤ session.objects
made_few session = legal_induction session (λ h. (registry_after session h).made ≤ session.objects) (omega arith) more
  where
    more : (history : List Entry) (e : Entry) → IsLegal session history → (registry_after session history).made ≤ session.objects → MayFollow session history e
        → (registry_after session (history ++ e ∷ [])).made ≤ session.objects
    more history e legal few next = subst (λ (r : Registry). r.made ≤ session.objects) (sym (registry-append session history e)) (by_tests (e.what == 0) (is_fault e.reply) refl)
      where
        by_tests : (own failed : Bool) → is_fault e.reply ≡ failed
            → (cond (own && not failed) (registry_act (registry_after session history) e.act e.reply) (registry_after session history)).made ≤ session.objects
        by_tests true false done = act_few session.objects (registry_after session history) e.act e.reply few (made_less session history e.what e.act e.reply next.replied done)
        by_tests true true done = few
        by_tests false failed done = few

module _ (session : Session) (sound : IsSound session) (history : List Entry) (legal : IsLegal session history) where
  -- an object that exists has a number within its range
  pub object_number : (n : ℕ) (k : Kind) → Exists (registry_after session history) n k → is_number n ≡ true
  object_number n k (i, at) =
      let (low, high) = (stocked session sound history legal).numbers i (n, k) at in
      let few = made_few session history legal in
      let room = sound.room in
      number_is n low (omega (arith, high, few, room))

  -- and so has one that an entry makes
  pub new_number : (e : Entry) → MayFollow session history e → is_fault e.reply ≡ false → (k : Kind) → made_kind e.act ≡ Some k → is_number (pnode_of e.reply) ≡ true
  new_number e next done k is =
      let given : pnode_of e.reply ≡ next_pnode session (registry_after session history) = ap pnode_of (made_reply session history e.what e.act e.reply next.replied done k is) in
      let less = made_less session history e.what e.act e.reply next.replied done k is in
      let room = sound.room in
      number_is (pnode_of e.reply) (omega (arith, given)) (omega (arith, given, less, room))

-- no object of a use is the registry
used_object : (a : Act) → uses a ≡ true → is_registry_act a ≡ true → ⊥
used_object (act.Show fd len) uses_it registry = absurd (cc)
used_object (act.Spawn child) uses_it registry = absurd (cc)
used_object act.Reap uses_it registry = absurd (cc)
used_object (act.Give at len) uses_it registry = absurd (cc)
used_object act.Load uses_it registry = absurd (cc)
used_object (act.Take len) uses_it registry = absurd (cc)
used_object act.Cite uses_it registry = absurd (cc)
used_object _ uses_it registry = absurd (cc)

used_number : (session : Session) → IsSound session → (history : List Entry) → IsLegal session history → (i : ℕ) (f : Entry) → slice_get history i ≡ Some f → uses f.act ≡ true → is_number f.what ≡ true
used_number session sound history legal i f at uses_it =
    let front = legal_take session history i legal in
    elim (object_law session sound (take i history) f front (legal i f at)) [
      | inl registry ↦ absurd (used_object f.act uses_it registry.0)
      | inr there ↦ object_number session sound (take i history) front f.what there.0 there.1
    ]

-- versions

file_low : (files : List StartFile) (object other : ℕ) → ((i : ℕ) (file : StartFile) → slice_get files i ≡ Some file → IsSoundFile file) → 1 ≤ other
    → 1 ≤ option_map_or (λ (f : StartFile). f.node.version) (find (λ f. f.node.pnode == object) files) other
file_low [] object other sound low = low
file_low (f ∷ files) object other sound low = by_test (f.node.pnode == object) (file_low files object other (λ i file at. sound (suc i) file at) low)
  where
    by_test : (b : Bool) → 1 ≤ option_map_or (λ (f : StartFile). f.node.version) (find (λ f. f.node.pnode == object) files) other
        → 1 ≤ option_map_or (λ (f : StartFile). f.node.version) (cond b (Some f) (find (λ f. f.node.pnode == object) files)) other
    by_test true later = (sound 0 f refl).version.0
    by_test false later = later

app_low : (apps : List Node) (object : ℕ) → ((i : ℕ) (app : Node) → slice_get apps i ≡ Some app → IsVersion app.version)
    → 1 ≤ option_map_or (λ (n : Node). n.version) (find (λ n. n.pnode == object) apps) 1
app_low [] object sound = omega arith
app_low (n ∷ apps) object sound = by_test (n.pnode == object) (app_low apps object (λ i app at. sound (suc i) app at))
  where
    by_test : (b : Bool) → 1 ≤ option_map_or (λ (n : Node). n.version) (find (λ n. n.pnode == object) apps) 1 → 1 ≤ option_map_or (λ (n : Node). n.version) (cond b (Some n) (find (λ n. n.pnode == object) apps)) 1
    by_test true later = (sound 0 n refl).0
    by_test false later = later

opening_low : (session : Session) → IsSound session → (object : ℕ) → 1 ≤ opening_version session.start object
opening_low session sound object =
    file_low session.start.files.items object (option_map_or (λ (n : Node). n.version) (opened_app session.start object) 1) sound.files (app_low session.start.apps.items object sound.apps)

-- the version is from 1, and at most so many above the object's opening one
abbrev pub IsAged : Session → ℕ → Node → Type 0
IsAged session entries node = (1 ≤ node.version) × (node.version ≤ opening_version session.start node.pnode + entries)

abbrev latest : Session → List Entry → ℕ → Node
latest session history object = record { pnode = object; version = version_after session history object }

aged_step : (session : Session) (history : List Entry) (e : Entry) → IsAged session (length history) (latest session history e.what)
    → IsAged session (length history + 1) (node_at_entry session history (nodes_of session history) e)
aged_step session history e (low, high) = by_test (is_freeze session history (nodes_of session history) e)
  where
    by_test : (b : Bool) → (1 ≤ (if b then version_after session history e.what + 1 else version_after session history e.what))
        × ((if b then version_after session history e.what + 1 else version_after session history e.what) ≤ opening_version session.start e.what + (length history + 1))
    by_test true = (omega (arith, low), omega (arith, high))
    by_test false = (low, omega (arith, high))

-- the version of an object is at most the number of entries above its opening one
aged : (session : Session) → IsSound session → (history : List Entry) (object : ℕ) → IsAged session (length history) (latest session history object)
aged session sound = snoc_induction (λ h. (object : ℕ) → IsAged session (length h) (latest session h object)) (λ object. let low = opening_low session sound object in (low, omega arith)) more
  where
    more : (history : List Entry) (e : Entry) → ((object : ℕ) → IsAged session (length history) (latest session history object)) → (object : ℕ)
        → IsAged session (length (history ++ e ∷ [])) (latest session (history ++ e ∷ []) object)
    more history e was object = by_test (e.what == object) refl
      where
        n : Node
        n = node_at_entry session history (nodes_of session history) e

        is : version_after session (history ++ e ∷ []) object ≡ (if e.what == object then n.version else version_after session history object)
        is = ap (λ nodes. version_in session nodes object) (nodes_of-append session history e)
            ∙ fold-append (λ v (n : Node). if n.pnode == object then n.version else v) (opening_version session.start object) (nodes_of session history) (n ∷ [])

        by_test : (b : Bool) → (e.what == object) ≡ b → IsAged session (length (history ++ e ∷ [])) (latest session (history ++ e ∷ []) object)
        by_test true own =
            let (low, high) = aged_step session history e (was e.what) in
            let v : version_after session (history ++ e ∷ []) object ≡ n.version = is ∙ ap (λ b. if b then n.version else version_after session history object) own in
            let same : opening_version session.start e.what ≡ opening_version session.start object = ap (opening_version session.start) (same_numbers e.what object own) in
            let longer = length-append history (e ∷ []) in
            (omega (arith, low, v), omega (arith, high, v, same, longer))
        by_test false other =
            let (low, high) = was object in
            let v : version_after session (history ++ e ∷ []) object ≡ version_after session history object = is ∙ ap (λ b. if b then n.version else version_after session history object) other in
            let longer = length-append history (e ∷ []) in
            (omega (arith, low, v), omega (arith, high, v, longer))

pub entry_aged : (session : Session) → IsSound session → (history : List Entry) (e : Entry) → IsAged session (length history + 1) (node_at_entry session history (nodes_of session history) e)
entry_aged session sound history e = aged_step session history e (aged session sound history e.what)

-- each node of a history is of its entry's object
abbrev IsPlaced : Session → List Entry → Type 0
IsPlaced session history = (k : ℕ) (f : Entry) (n : Node) → slice_get history k ≡ Some f → slice_get (nodes_of session history) k ≡ Some n → (n.pnode ≡ f.what) × IsAged session (length history) n

placed : (session : Session) → IsSound session → (history : List Entry) → IsPlaced session history
placed session sound = snoc_induction (IsPlaced session) (λ k f n at there. absurd (cc)) more
  where
    more : (history : List Entry) (e : Entry) → IsPlaced session history → IsPlaced session (history ++ e ∷ [])
    more history e was k f n at there = elim (place_of history e k f at) [
      | inl early ↦ elim (place_of (nodes_of session history) last k n found) [
        | inl l ↦ let (object, (low, high)) = was k f n early.0 l.0 in (object, (low, omega (arith, high, longer)))
        | inr r ↦ absurd (let a = early.1 in let b = r.0 in omega (arith, a, b, count))
      ]
      | inr late ↦ elim (place_of (nodes_of session history) last k n found) [
        | inl l ↦ absurd (let a = late.0 in let b = l.1 in omega (arith, a, b, count))
        | inr r ↦
            let (low, high) = entry_aged session sound history e in
            let same : IsAged session (length history + 1) n = subst (λ (m : Node). IsAged session (length history + 1) m) r.1 (low, high) in
            (ap (λ (m : Node). m.pnode) (sym r.1) ∙ ap (λ (g : Entry). g.what) late.1, (same.0, let z = same.1 in omega (arith, z, longer)))
      ]
    ]
      where
        last : Node
        last = node_at_entry session history (nodes_of session history) e

        found : slice_get (nodes_of session history ++ last ∷ []) k ≡ Some n
        found = ap (λ nodes. slice_get nodes k) (sym (nodes_of-append session history e)) ∙ there

        count : length (nodes_of session history) ≡ length history
        count = length-nodes_of session history

        longer : length (history ++ e ∷ []) ≡ length history + 1
        longer = length-append history (e ∷ [])

-- nodes within their range

-- no version of the history passes the range
abbrev pub IsYoung : Session → ℕ → Type 0
IsYoung session entries = (object : ℕ) → opening_version session.start object + entries < 2 ^ 48

pub node_is : (session : Session) (entries : ℕ) (n : Node) → is_number n.pnode ≡ true → IsAged session entries n → IsYoung session entries → is_node n ≡ true
node_is session entries n object (low, high) young =
    let most = young n.pnode in both_true (is_number n.pnode) (is_number n.version) object (number_is n.version low (omega (arith, high, most)))

-- the node from which an entry takes
pub source_is : (session : Session) → IsSound session → (history : List Entry) → IsLegal session history → (e : Entry) → MayFollow session history e → IsYoung session (length history)
    → (s : Node) → source_in (nodes_of session history) e ≡ Some s → is_node s ≡ true
source_is session sound history legal e next young s given = by_place (source_place e) refl given
  where
    by_place : (o : Option ℕ) → source_place e ≡ o → option_map_or (λ out. slice_get (nodes_of session history) out) o None ≡ Some s → is_node s ≡ true
    by_place None names there = absurd (cc)
    by_place (Some out) names there =
        let from = names_source session history e out legal next (source_of e out (is_fault e.reply) refl names) in
        let uses_it : uses from.source.act ≡ true = true_left (uses from.source.act) (not (is_fault from.source.reply)) from.gives in
        let (object, was) = placed session sound history out from.source s from.stands there in
        node_is session (length history) s (ap is_number object ∙ used_number session sound history legal out from.source from.stands uses_it) was young

-- The objects of a history and their kinds after one more entry.
use Rattle.std.proofs.Common.{◌≡◌, ◌==◌, ℕ, List, [], ◌∷◌, ◌++◌, length, map, refl, ap, sym, subst, ◌∙◌, Bool, true, false}
use Rattle.std.specs.Prelude.{Option, Some, None, is_some, find, fold, option_map, if◌then◌else◌}
use Rattle.std.specs.Option.{option_map_or, option_or, option_to_list}
use Rattle.std.specs.Ordering.{nat_cmp}
use Rattle.std.specs.BTreeMap.{get}
use Rattle.std.specs.BTreeSet.{insert_key}
use Rattle.std.proofs.lemmas.List.Folds.{find-append}
use Rattle.std.proofs.lemmas.List.Sums.{fold-append}
use Rattle.std.proofs.lemmas.List.Concat.{flat_map-append}
use Rattle.std.proofs.lemmas.List.{append-nil}
use Rattle.pass_entry.specs.declared.entry.Entry.{Entry}
use Rattle.pass_entry.specs.declared.entry.Act.{Act}
use Rattle.pass_entry.specs.declared.entry.Act.TheVariants as act
use Rattle.pass_entry.specs.declared.entry.Reply.{Reply}
use Rattle.pass_entry.specs.declared.entry.Reply.TheVariants as answer
use Rattle.pass_entry.specs.declared.objects.Kind.{Kind}
use Rattle.pass_entry.specs.declared.objects.Kind.TheVariants as kind
use Rattle.pass_plain.specs.declared.start.Start.{Start}
use Rattle.pass_plain.specs.Histories.{is_fault, made_kind, made_object, call_entries}
use Rattle.pass_plain.specs.Sessions.{Session, opened_file, opened_app}
use Rattle.pass_plain.specs.Calls.{call_steps}
use Rattle.pass_plain.specs.Legal.{IsLegal, MayFollow, before_call}
use Rattle.pass_plain.specs.Registries.{Registry, opening_registry, registry_act, registry_after}
use Rattle.pass_plain.proofs.Replays.{own_step-own, own_step-other, own_step-fault}
use Rattle.pass_plain.proofs.Rows.{Row}
use Rattle.pass_plain.proofs.Calling.{row}
use Rattle.pass_plain.proofs.Making.{registry-append, made_reply}
use Rattle.pass_plain.specs.Outlines.{SameButBytes}
use Rattle.pass_report.specs.Reports.{ascending, touched, kind_of}
use Rattle.pass_report.specs.declared.kinds.Kinds.{Kinds}
use Rattle.pass_report.specs.Kinds.{made_by, opening_kind, AreKinds}
use Rattle.pass_report.proofs.Filling.{nothing_in}
use Rattle.pass_report.proofs.Openings.{same_registry}
use Rattle.pass_report.proofs.Reading.{or_none, option_map-or}

kinds_through : {X : Type 0} (h : X → ℕ) (k : Kind) (p : ℕ) (xs : List X)
    → option_map (λ o. o.1) (find (λ o. o.0 == p) (map {B = ℕ × Kind} (λ x. (h x, k)) xs)) ≡ (if is_some (find (λ x. h x == p) xs) then Some k else None)
kinds_through h k p [] = refl
kinds_through {X} h k p (x ∷ xs) = by_test (h x == p) (kinds_through h k p xs)
  where
    by_test : (b : Bool) → option_map (λ o. o.1) (find (λ o. o.0 == p) (map {B = ℕ × Kind} (λ x. (h x, k)) xs)) ≡ (if is_some (find (λ x. h x == p) xs) then Some k else None)
        → option_map (λ (o : ℕ × Kind). o.1) (if b then Some (h x, k) else find (λ o. o.0 == p) (map {B = ℕ × Kind} (λ x. (h x, k)) xs)) ≡ (if is_some (if b then Some x else find (λ x. h x == p) xs) then Some k else None)
    by_test true more = refl
    by_test false more = more

-- an object of the opening is a file or an application's
pub opening_kind-is : (start : Start) (pnode : ℕ)
    → option_map (λ o. o.1) (find (λ o. o.0 == pnode) (opening_registry start).objects) ≡ opening_kind start pnode
opening_kind-is start pnode =
    ap (λ o. option_map (λ (o : ℕ × Kind). o.1) o)
    (find-append (λ (o : ℕ × Kind). o.0 == pnode) (map {B = ℕ × Kind} (λ f. (f.node.pnode, kind.File)) start.files.items) (map {B = ℕ × Kind} (λ n. (n.pnode, kind.App)) start.apps.items))
    ∙ option_map-or (λ (o : ℕ × Kind). o.1) _ _
    ∙ (λ i. option_or (kinds_through (λ f. f.node.pnode) kind.File pnode start.files.items i) (kinds_through (λ n. n.pnode) kind.App pnode start.apps.items i))
    ∙ by_tests (is_some (opened_file start pnode)) (is_some (opened_app start pnode))
  where
    by_tests : (a b : Bool) → option_or (if a then Some kind.File else None) (if b then Some kind.App else None) ≡ (if a then Some kind.File else if b then Some kind.App else None)
    by_tests true b = refl
    by_tests false b = refl

abbrev paired : ℕ → Kind → ℕ × Kind
paired n k = (n, k)

-- before the first entry
pub opening_kinds : (start : Start) (session : Session) → SameButBytes start session.start → (k : Kinds) → k.made.entries ≡ [] → k.touched.keys ≡ [] → AreKinds start session [] k
opening_kinds start session same k made none = record {
  touched = none;
  kinds = λ pnode.
      ap (option_or (opening_kind start pnode)) (nothing_in k.made made pnode) ∙ or_none (opening_kind start pnode)
      ∙ sym (opening_kind-is start pnode)
      ∙ ap (λ (r : Registry). option_map (λ o. o.1) (find (λ o. o.0 == pnode) r.objects)) (same_registry start session.start same);
}

-- an act that makes nothing
unmade : (a : Act) (y : Reply) → made_kind a ≡ None → made_by a y ≡ None
unmade a (answer.Made n) none = ap (λ o. option_map (paired n) o) none
unmade a _ none = refl

faulted_made : (a : Act) (y : Reply) → is_fault y ≡ true → made_by a y ≡ None
faulted_made a (answer.Fault f) is = refl
faulted_made a _ is = absurd (cc)

acted : (r : Registry) (a : Act) (y : Reply) (n : ℕ) → ((k : Kind) → made_kind a ≡ Some k → y ≡ answer.Made n)
    → (registry_act r a y).objects ≡ r.objects ++ option_to_list (made_by a y)
acted r (act.Bind name) y n made =
    let P : Reply → Type 0 = λ y. (registry_act r (act.Bind name) y).objects ≡ r.objects ++ option_to_list (made_by (act.Bind name) y) in
    subst P (sym (made kind.File refl)) refl
acted r (act.Mint k) y n made =
    let P : Reply → Type 0 = λ y. (registry_act r (act.Mint k) y).objects ≡ r.objects ++ option_to_list (made_by (act.Mint k) y) in
    subst P (sym (made k refl)) refl
acted r a y n made = sym (ap (λ o. r.objects ++ option_to_list o) (unmade a y refl) ∙ append-nil r.objects)

-- an act that makes an object is one on the registry
elsewhere : (session : Session) (past : List Entry) (e : Entry) → IsLegal session past → MayFollow session past e → (e.what == 0) ≡ false → made_kind e.act ≡ None
elsewhere session past e legal next other = by_act e.act (row session past e legal next)
  where
    by_act : (a : Act) → Row e.who (before_call past e.who e.number) (call_entries past e.who e.number)
        (call_steps e.who (before_call past e.who e.number) (call_entries past e.who e.number) next.step.request) (length (call_entries past e.who e.number)) e.what a → made_kind a ≡ None
    by_act (act.Bind name) r = absurd (let z : true ≡ false = sym (ap (λ n. n == 0) r) ∙ other in cc)
    by_act (act.Mint k) r = absurd (let z : true ≡ false = sym (ap (λ n. n == 0) r) ∙ other in cc)
    by_act _ r = refl

pub objects_next : (session : Session) (past : List Entry) (e : Entry) → IsLegal session past → MayFollow session past e
    → (registry_after session (past ++ e ∷ [])).objects ≡ (registry_after session past).objects ++ option_to_list (made_by e.act e.reply)
objects_next session past e legal next = by_tests (is_fault e.reply) refl (e.what == 0) refl
  where
    before : Registry
    before = registry_after session past

    stays : made_by e.act e.reply ≡ None → (registry_after session past).objects ≡ (registry_after session past).objects ++ option_to_list (made_by e.act e.reply)
    stays none = sym (ap (λ o. (registry_after session past).objects ++ option_to_list o) none ∙ append-nil (registry_after session past).objects)

    by_tests : (f : Bool) → is_fault e.reply ≡ f → (b : Bool) → (e.what == 0) ≡ b
        → (registry_after session (past ++ e ∷ [])).objects ≡ (registry_after session past).objects ++ option_to_list (made_by e.act e.reply)
    by_tests true fault b is =
        ap (λ (r : Registry). r.objects) (registry-append session past e ∙ own_step-fault (λ past r e. registry_act r e.act e.reply) 0 past (registry_after session past) e fault)
        ∙ stays (faulted_made e.act e.reply fault)
    by_tests false fine true is =
        ap (λ (r : Registry). r.objects) (registry-append session past e ∙ own_step-own (λ past r e. registry_act r e.act e.reply) 0 past (registry_after session past) e is fine)
        ∙ acted (registry_after session past) e.act e.reply _ (λ k makes. made_reply session past e.what e.act e.reply next.replied fine k makes)
    by_tests false fine false is =
        ap (λ (r : Registry). r.objects) (registry-append session past e ∙ own_step-other (λ past r e. registry_act r e.act e.reply) 0 past (registry_after session past) e is)
        ∙ stays (unmade e.act e.reply (elsewhere session past e legal next is))

-- one more object
found_one : (n p : ℕ) (k : Kind) → option_map (λ (o : ℕ × Kind). o.1) (find (λ (o : ℕ × Kind). o.0 == p) ((n, k) ∷ [])) ≡ (if n == p then Some k else None)
found_one n p k = by_test (n == p)
  where
    by_test : (b : Bool) → option_map (λ (o : ℕ × Kind). o.1) (if b then Some (n, k) else None) ≡ (if b then Some k else None)
    by_test true = refl
    by_test false = refl

or-assoc : {X : Type 0} (a b c : Option X) → option_or a (option_or b c) ≡ option_or (option_or a b) c
or-assoc None b c = refl
or-assoc (Some x) b c = refl

made_object-is : (a : Act) (y : Reply) → made_object a y ≡ option_map (λ o. o.0) (made_by a y)
made_object-is a (answer.Made n) = by_kind (made_kind a)
  where
    by_kind : (o : Option Kind) → option_map_or (λ k. Some n) o None ≡ option_map (λ (o : ℕ × Kind). o.0) (option_map (paired n) o)
    by_kind None = refl
    by_kind (Some k) = refl
made_object-is a _ = refl

module _ (start : Start) (session : Session) (past : List Entry) (e : Entry) (legal : IsLegal session past) (next : MayFollow session past e) (k m : Kinds) (kinds : AreKinds start session past k) where
  kind_next : (o : Option (ℕ × Kind)) → made_by e.act e.reply ≡ o → (pnode : ℕ)
      → kind_of session (past ++ e ∷ []) pnode ≡ option_or (kind_of session past pnode) (option_map (λ o. o.1) (find (λ o. o.0 == pnode) (option_to_list o)))
  kind_next o is pnode =
      ap (λ os. option_map (λ (o : ℕ × Kind). o.1) (find (λ o. o.0 == pnode) os)) (objects_next session past e legal next ∙ ap (λ o. (registry_after session past).objects ++ option_to_list o) is)
      ∙ ap (λ o. option_map (λ (o : ℕ × Kind). o.1) o) (find-append (λ (o : ℕ × Kind). o.0 == pnode) (registry_after session past).objects (option_to_list o))
      ∙ option_map-or (λ (o : ℕ × Kind). o.1) (find (λ o. o.0 == pnode) (registry_after session past).objects) (find (λ o. o.0 == pnode) (option_to_list o))

  touched_next : (o : Option (ℕ × Kind)) → made_by e.act e.reply ≡ o
      → ascending nat_cmp (touched (past ++ e ∷ [])) ≡ fold (insert_key nat_cmp) (ascending nat_cmp (touched past)) (e.what ∷ option_to_list (option_map (λ o. o.0) o))
  touched_next o is =
      ap (ascending nat_cmp) (flat_map-append (λ (e : Entry). e.what ∷ option_to_list (made_object e.act e.reply)) past (e ∷ []))
      ∙ fold-append (insert_key nat_cmp) [] (touched past) _
      ∙ ap (fold (insert_key nat_cmp) (ascending nat_cmp (touched past))) (append-nil (e.what ∷ option_to_list (made_object e.act e.reply))
      ∙ ap (λ o. e.what ∷ option_to_list o) (made_object-is e.act e.reply ∙ ap (λ o. option_map (λ o. o.0) o) is))

  pub idle_kinds : made_by e.act e.reply ≡ None → m.made ≡ k.made → m.touched.keys ≡ insert_key nat_cmp k.touched.keys e.what → AreKinds start session (past ++ e ∷ []) m
  idle_kinds none made keys = record {
    touched = keys ∙ ap (λ ks. insert_key nat_cmp ks e.what) kinds.touched ∙ sym (touched_next None none);
    kinds = λ pnode. ap (λ ms. option_or (opening_kind start pnode) (get nat_cmp ms pnode)) made ∙ kinds.kinds pnode ∙ sym (kind_next None none pnode ∙ or_none (kind_of session past pnode));
  }

  pub made_kinds : (n : ℕ) (kd : Kind) → made_by e.act e.reply ≡ Some (n, kd)
      → ((q : ℕ) → get nat_cmp m.made q ≡ option_or (get nat_cmp k.made q) (if n == q then Some kd else None))
      → m.touched.keys ≡ insert_key nat_cmp (insert_key nat_cmp k.touched.keys e.what) n → AreKinds start session (past ++ e ∷ []) m
  made_kinds n kd is made keys = record {
    touched = keys ∙ ap (λ ks. insert_key nat_cmp (insert_key nat_cmp ks e.what) n) kinds.touched ∙ sym (touched_next (Some (n, kd)) is);
    kinds = λ pnode.
        ap (option_or (opening_kind start pnode)) (made pnode) ∙ or-assoc (opening_kind start pnode) (get nat_cmp k.made pnode) (if n == pnode then Some kd else None)
        ∙ (λ i. option_or (kinds.kinds pnode i) (sym (found_one n pnode kd) i)) ∙ sym (kind_next (Some (n, kd)) is pnode);
  }

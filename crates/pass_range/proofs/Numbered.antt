-- The files of a session's list are those of its registry, and a block that has a row is of one of them.
use Rattle.std.proofs.Common.{◌≡◌, ◌∙◌, ◌==◌, ◌+◌, ℕ, zero, suc, Bool, true, false, cond, List, [], ◌∷◌, ◌++◌, map, filter, refl, sym, ap, subst, ⊎_elim}
use Rattle.std.specs.Prelude.{Some, find, slice_get, if◌then◌else◌}
use Rattle.std.specs.Option.{option_map_or}
use Rattle.std.specs.List.{list_any, position_from}
use Rattle.std.proofs.lemmas.List.{map-append, append-nil}
use Rattle.std.proofs.lemmas.List.Elements.{filter_map-append, filter-append}
use Rattle.pass_entry.specs.declared.entry.Entry.{Entry}
use Rattle.pass_entry.specs.declared.entry.Reply.{Reply}
use Rattle.pass_entry.specs.declared.entry.Act.{Act}
use Rattle.pass_entry.specs.declared.entry.Act.TheVariants as act
use Rattle.pass_entry.specs.declared.objects.Node.{Node}
use Rattle.pass_entry.specs.declared.objects.Kind.{Kind}
use Rattle.pass_entry.specs.declared.objects.Kind.TheVariants as kind
use Rattle.pass_entry.specs.declared.record.Record.{Record}
use Rattle.pass_plain.specs.declared.start.StartFile.{StartFile}
use Rattle.pass_plain.specs.Histories.{is_fault, pnode_of, own_step}
use Rattle.pass_plain.specs.Sessions.{Session}
use Rattle.pass_plain.specs.Registries.{Registry, registry_after, registry_act, opening_registry, same_kind, Exists}
use Rattle.pass_plain.specs.Legal.{IsLegal, MayFollow}
use Rattle.pass_plain.specs.Lawful.{is_registry_act, suits}
use Rattle.pass_plain.specs.Sound.{IsSound}
use Rattle.pass_plain.specs.Records.{has_row, entry_records, records_of}
use Rattle.pass_plain.proofs.Replays.{own_step-own, own_step-other, own_step-fault}
use Rattle.pass_plain.proofs.Lists.{same_numbers, same_itself, some_is, in_filtered}
use Rattle.pass_plain.proofs.Calling.{legal_induction}
use Rattle.pass_plain.proofs.Making.{registry-append}
use Rattle.pass_plain.proofs.Objects.{object_law}
use Rattle.pass_plain.proofs.Holding.{objects_stay}
use Rattle.pass_range.specs.Rows.{file_made, files_of, number_of}
use Rattle.pass_range.specs.Lawful.{Tells, file_objects}
use Rattle.pass_range.proofs.Digested.{is_change}
use Rattle.pass_range.proofs.Changing.{list-next, changes, has-kept, what-is, change-is}
use Rattle.pass_range.proofs.Filed.{made_files, entry_files}

-- the objects

objects-append : (xs ys : List (ℕ × Kind)) → file_objects (xs ++ ys) ≡ file_objects xs ++ file_objects ys
objects-append xs ys =
    ap (map (λ (o : ℕ × Kind). o.0)) (filter-append (λ (o : ℕ × Kind). same_kind o.1 kind.File) xs ys)
    ∙ map-append (λ (o : ℕ × Kind). o.0) (filter (λ (o : ℕ × Kind). same_kind o.1 kind.File) xs) (filter (λ (o : ℕ × Kind). same_kind o.1 kind.File) ys)

opened_files : (files : List StartFile) → file_objects (map (λ (f : StartFile). (f.node.pnode, kind.File)) files) ≡ map (λ (f : StartFile). f.node.pnode) files
opened_files [] = refl
opened_files (f ∷ files) = ap (λ (l : List ℕ). f.node.pnode ∷ l) (opened_files files)

opened_apps : (apps : List Node) → file_objects (map (λ (n : Node). (n.pnode, kind.App)) apps) ≡ []
opened_apps [] = refl
opened_apps (n ∷ apps) = opened_apps apps

act_objects : (r : Registry) (a : Act) (y : Reply) → file_objects (registry_act r a y).objects ≡ file_objects r.objects ++ made_files a (pnode_of y)
act_objects r (act.Bind name) y = objects-append r.objects ((pnode_of y, kind.File) ∷ [])
act_objects r (act.Mint k) y = objects-append r.objects ((pnode_of y, k) ∷ []) ∙ ap (λ (l : List ℕ). file_objects r.objects ++ l) (by_kind (same_kind k kind.File))
  where
    by_kind : (t : Bool) → map (λ (o : ℕ × Kind). o.0) (cond t ((pnode_of y, k) ∷ []) []) ≡ (if t then pnode_of y ∷ [] else [])
    by_kind true = refl
    by_kind false = refl
act_objects r a y = sym (append-nil (file_objects r.objects))

other_objects : (r : Registry) (a : Act) (y : Reply) (k : Kind) → suits a k ≡ true → (registry_act r a y ≡ r) × (made_files a (pnode_of y) ≡ [])
other_objects r (act.Bind name) y k e = absurd (cc)
other_objects r (act.Find name) y k e = absurd (cc)
other_objects r (act.Move from to) y k e = absurd (cc)
other_objects r (act.Unbind name) y k e = absurd (cc)
other_objects r (act.Mint kd) y k e = absurd (cc)
other_objects r (act.Known pnode) y k e = absurd (cc)
other_objects r a y k e = (refl, refl)

pub files_law : (before : List Record) (session : Session) → IsSound session → Tells before session.start → (history : List Entry) → IsLegal session history
    → files_of (before ++ records_of session history) ≡ file_objects (registry_after session history).objects
files_law before session sound tells = legal_induction session (λ h. files_of (before ++ records_of session h) ≡ file_objects (registry_after session h).objects) first more
  where
    first : files_of (before ++ []) ≡ file_objects (opening_registry session.start).objects
    first =
        let files = map (λ (f : StartFile). (f.node.pnode, kind.File)) session.start.files.items in
        let apps = map (λ (n : Node). (n.pnode, kind.App)) session.start.apps.items in
        ap files_of (append-nil before) ∙ tells.files
        ∙ sym (objects-append files apps ∙ ap (λ (l : List ℕ). l ++ file_objects apps) (opened_files session.start.files.items)
        ∙ ap (λ (l : List ℕ). map (λ (f : StartFile). f.node.pnode) session.start.files.items ++ l) (opened_apps session.start.apps.items)
        ∙ append-nil (map (λ (f : StartFile). f.node.pnode) session.start.files.items))

    more : (history : List Entry) (e : Entry) → IsLegal session history → files_of (before ++ records_of session history) ≡ file_objects (registry_after session history).objects → MayFollow session history e
        → files_of (before ++ records_of session (history ++ e ∷ [])) ≡ file_objects (registry_after session (history ++ e ∷ [])).objects
    more history e legal same next =
        ap files_of (list-next session history e before) ∙ filter_map-append file_made (before ++ records_of session history) (entry_records session history e)
        ∙ ap (λ (l : List ℕ). l ++ files_of (entry_records session history e)) same
        ∙ ap (λ (l : List ℕ). file_objects (registry_after session history).objects ++ l) (entry_files session history e)
        ∙ by_fault (is_fault e.reply) refl
        ∙ ap (λ (s : Registry). file_objects s.objects) (sym (registry-append session history e))
      where
        by_fault : (t : Bool) → is_fault e.reply ≡ t
            → file_objects (registry_after session history).objects ++ (if t then [] else made_files e.act (pnode_of e.reply))
            ≡ file_objects (own_step (λ past s f. registry_act s f.act f.reply) 0 history (registry_after session history) e).objects
        by_fault true fault =
            append-nil (file_objects (registry_after session history).objects)
            ∙ ap (λ (s : Registry). file_objects s.objects) (sym (own_step-fault (λ past s f. registry_act s f.act f.reply) 0 history (registry_after session history) e fault))
        by_fault false done =
            ⊎_elim
            (λ (on : (is_registry_act e.act ≡ true) × (e.what ≡ 0)).
            sym (act_objects (registry_after session history) e.act e.reply)
            ∙ ap (λ (s : Registry). file_objects s.objects) (sym (own_step-own (λ past s f. registry_act s f.act f.reply) 0 history (registry_after session history) e (ap (λ (w : ℕ). w == 0) on.1) done)))
            (λ (other : (k : Kind) × Exists (registry_after session history) e.what k × (suits e.act k ≡ true)).
            let kept = other_objects (registry_after session history) e.act e.reply other.0 other.2 in
            ap (λ (l : List ℕ). file_objects (registry_after session history).objects ++ l) kept.1 ∙ append-nil (file_objects (registry_after session history).objects)
            ∙ by_own (e.what == 0) refl kept.0)
            (object_law session sound history e legal next)
          where
            by_own : (t : Bool) → (e.what == 0) ≡ t → registry_act (registry_after session history) e.act e.reply ≡ registry_after session history
                → file_objects (registry_after session history).objects ≡ file_objects (own_step (λ past s f. registry_act s f.act f.reply) 0 history (registry_after session history) e).objects
            by_own true own kept =
                ap (λ (s : Registry). file_objects s.objects) (sym kept)
                ∙ ap (λ (s : Registry). file_objects s.objects) (sym (own_step-own (λ past s f. registry_act s f.act f.reply) 0 history (registry_after session history) e own done))
            by_own false own kept = ap (λ (s : Registry). file_objects s.objects) (sym (own_step-other (λ past s f. registry_act s f.act f.reply) 0 history (registry_after session history) e own))

-- a block that has a row is of a file that exists

exists_opened : (files : List StartFile) (rest : List (ℕ × Kind)) (p b : ℕ) → list_any (λ x. x == b) (option_map_or (λ (f : StartFile). f.rows.items) (find (λ f. f.node.pnode == p) files) []) ≡ true
    → (i : ℕ) × (slice_get (map (λ (f : StartFile). (f.node.pnode, kind.File)) files ++ rest) i ≡ Some (p, kind.File))
exists_opened [] rest p b has = absurd (cc)
exists_opened (f ∷ files) rest p b has = by_test (f.node.pnode == p) refl (exists_opened files rest p b) has
  where
    by_test : (t : Bool) → (f.node.pnode == p) ≡ t
        → (list_any (λ x. x == b) (option_map_or (λ (f : StartFile). f.rows.items) (find (λ f. f.node.pnode == p) files) []) ≡ true → (i : ℕ) × (slice_get (map (λ (f : StartFile). (f.node.pnode, kind.File)) files ++ rest) i ≡ Some (p, kind.File)))
        → list_any (λ x. x == b) (option_map_or (λ (f : StartFile). f.rows.items) (cond t (Some f) (find (λ f. f.node.pnode == p) files)) []) ≡ true
        → (i : ℕ) × (slice_get ((f.node.pnode, kind.File) ∷ map (λ (f : StartFile). (f.node.pnode, kind.File)) files ++ rest) i ≡ Some (p, kind.File))
    by_test true same more has = (0, ap (λ (q : ℕ). Some (q, kind.File)) (same_numbers f.node.pnode p same))
    by_test false apart more has = let m = more has in (suc m.0, m.1)

-- the kind that a change of content asks
file_kind : (a : Act) (k : Kind) → is_change a ≡ true → suits a k ≡ true → k ≡ kind.File
file_kind (act.Put out at bytes) kind.File c s = refl
file_kind (act.Put out at bytes) k c s = absurd (cc)
file_kind (act.Cut out size) kind.File c s = refl
file_kind (act.Cut out size) k c s = absurd (cc)
file_kind a k c s = absurd (cc)

pub no_registry : (a : Act) → is_change a ≡ true → is_registry_act a ≡ true → ⊥
no_registry (act.Put out at bytes) c r = cc
no_registry (act.Cut out size) c r = cc
no_registry a c r = cc

pub row_exists : (session : Session) → IsSound session → (p b : ℕ) (history : List Entry) → IsLegal session history → has_row session history p b ≡ true → Exists (registry_after session history) p kind.File
row_exists session sound p b = legal_induction session (λ h. has_row session h p b ≡ true → Exists (registry_after session h) p kind.File)
    (λ has. exists_opened session.start.files.items (map (λ (n : Node). (n.pnode, kind.App)) session.start.apps.items) p b has) more
  where
    more : (history : List Entry) (e : Entry) → IsLegal session history → (has_row session history p b ≡ true → Exists (registry_after session history) p kind.File) → MayFollow session history e
        → has_row session (history ++ e ∷ []) p b ≡ true → Exists (registry_after session (history ++ e ∷ [])) p kind.File
    more history e legal was next has = by_change (changes session history e p) refl
      where
        by_change : (t : Bool) → changes session history e p ≡ t → Exists (registry_after session (history ++ e ∷ [])) p kind.File
        by_change false kept = objects_stay session history e p kind.File (was (sym (has-kept session history e p b kept) ∙ has))
        by_change true changed =
            let change = change-is session history e p changed in
            objects_stay session history e p kind.File
            (⊎_elim (λ (on : (is_registry_act e.act ≡ true) × (e.what ≡ 0)). absurd (no_registry e.act change on.0))
            (λ (other : (k : Kind) × Exists (registry_after session history) e.what k × (suits e.act k ≡ true)).
            subst (λ (q : ℕ). Exists (registry_after session history) q kind.File) (what-is session history e p changed)
            (subst (λ (k : Kind). Exists (registry_after session history) e.what k) (file_kind e.act other.0 change other.2) other.1))
            (object_law session sound history e legal next))

-- a number among others has a place
pub position_some : (xs : List ℕ) (n i p : ℕ) → slice_get xs i ≡ Some p → (m : ℕ) × (position_from (λ file. file == p) n xs ≡ Some m)
position_some [] n i p at = absurd (cc)
position_some (x ∷ xs) n i p at = by_test (x == p) refl i at (λ j there. position_some xs (n + 1) j p there)
  where
    by_test : (t : Bool) → (x == p) ≡ t → (i : ℕ) → slice_get (x ∷ xs) i ≡ Some p → ((j : ℕ) → slice_get xs j ≡ Some p → (m : ℕ) × (position_from (λ file. file == p) (n + 1) xs ≡ Some m))
        → (m : ℕ) × (cond t (Some n) (position_from (λ file. file == p) (n + 1) xs) ≡ Some m)
    by_test true same i at more = (n, refl)
    by_test false apart zero at more = absurd (clash (sym apart ∙ ap (λ (q : ℕ). q == p) (some_is x p at) ∙ same_itself p))
      where
        clash : false ≡ true → ⊥
        clash e = absurd (cc)
    by_test false apart (suc i) at more = more i at

mapped_place : (objects : List (ℕ × Kind)) (i p : ℕ) (k : Kind) → slice_get objects i ≡ Some (p, k) → slice_get (map (λ (o : ℕ × Kind). o.0) objects) i ≡ Some p
mapped_place [] i p k at = absurd (cc)
mapped_place (o ∷ objects) zero p k at = ap (λ (q : ℕ × Kind). Some q.0) (some_is o (p, k) at)
mapped_place (o ∷ objects) (suc i) p k at = mapped_place objects i p k at

-- and has a number
pub number_law : (before : List Record) (session : Session) → IsSound session → Tells before session.start → (history : List Entry) → IsLegal session history
    → (p b : ℕ) → has_row session history p b ≡ true → (number : ℕ) × (number_of (before ++ records_of session history) p ≡ Some number)
number_law before session sound tells history legal p b has =
    let there = row_exists session sound p b history legal has in
    let listed = in_filtered (λ (o : ℕ × Kind). same_kind o.1 kind.File) (registry_after session history).objects there.0 (p, kind.File) there.1 refl in
    let at = mapped_place (filter (λ (o : ℕ × Kind). same_kind o.1 kind.File) (registry_after session history).objects) listed.0 p kind.File listed.1 in
    let files = files_law before session sound tells history legal in
    position_some (files_of (before ++ records_of session history)) 0 listed.0 p (ap (λ (l : List ℕ). slice_get l listed.0) files ∙ at)

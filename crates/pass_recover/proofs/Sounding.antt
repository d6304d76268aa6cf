-- The start of a well logged list is one with which a session may begin, and it is all that the list says.
use Rattle.std.proofs.Common.{◌≡◌, ◌∙◌, ◌⊎◌, ◌==◌, ◌||◌, ◌+◌, ◌^◌, ◌<◌, ◌≤◌, ℕ, Bool, true, false, cond, List, [], ◌∷◌, length, map, refl, sym, ap, subst, arith, inl, inr}
use Rattle.std.specs.FinMap as finite_map
use Rattle.std.specs.Prelude.{zero, suc, Option, Some, None, IfSome, is_some, find, nat_le, nat_lt, slice_get, count_by, filter_map, option_map}
use Rattle.std.specs.Option.{option_map_or}
use Rattle.std.specs.List.{All, list_any}
use Rattle.std.proofs.lemmas.Cmp.{nat_list_cmp_total}
use Rattle.std.proofs.lemmas.Option.{get_or_from_slice_get}
use Rattle.std.proofs.lemmas.List.{length-map}
use Rattle.std.proofs.lemmas.List.Elements.{All-contains}
use Rattle.pass_entry.specs.declared.objects.Kind.{Kind}
use Rattle.pass_entry.specs.declared.objects.Kind.TheVariants as kind
use Rattle.pass_entry.specs.declared.objects.Node.{Node}
use Rattle.pass_entry.specs.declared.record.Record.{Record}
use Rattle.pass_entry.specs.declared.record.Record.TheVariants as log
use Rattle.pass_entry.specs.Ranges.{IsInRange, is_number, is_node, is_name_or_none}
use Rattle.pass_entry.specs.Texts.{is_name}
use Rattle.pass_entry.proofs.Places.{filter_mapped, in_either, mapped}
use Rattle.pass_plain.specs.declared.start.Start.{Start}
use Rattle.pass_plain.specs.declared.start.StartFile.{StartFile}
use Rattle.pass_plain.specs.Sessions.{is_opened, opening_version}
use Rattle.pass_plain.specs.Legal.{session_of}
use Rattle.pass_plain.specs.Registries.{opening_registry, named_file, same_kind, is_limited, count_of_kind, Exists}
use Rattle.pass_plain.specs.Sound.{IsSound, IsSoundFile}
use Rattle.pass_plain.specs.WellLogged.{kind_of, current_of, size_of, last_name_of, ceiling_of, has_kind, is_known, is_file_of, IsWellLogged}
use Rattle.pass_plain.proofs.Lists.{true_left, true_right, same_numbers, same_itself, some_is, at_most, any_of}
use Rattle.pass_graph.specs.Openings.{Continues}
use Rattle.pass_range.specs.Rows.{row_of, number_of}
use Rattle.pass_range.specs.Lawful.{Tells}
use Rattle.pass_range.proofs.RowFiles.{row_files}
use Rattle.pass_graph.specs.Logged.{name_in}
use Rattle.pass_recover.specs.Starts.{IsStartOf, current_node}
use Rattle.pass_recover.proofs.Counting.{count_first, count_second, entry_found}
use Rattle.pass_recover.proofs.Elements.{in_mapped, in_filter_mapped}
use Rattle.pass_recover.proofs.Listed.{limited}
use Rattle.pass_recover.proofs.Made.{AreMade, objects_in, files_in, apps_in, are_made, same_kind_is}
use Rattle.pass_recover.proofs.Naming.{are_named}
use Rattle.pass_recover.proofs.RowRead.{number-at}
use Rattle.pass_recover.proofs.Sized.{empty_elsewhere}

abbrev pnode_of_file : StartFile → ℕ
pnode_of_file file = file.node.pnode

-- a file of a start is found by its number, or there is none of it
found : (files : List StartFile) (p : ℕ)
    → ((find (λ (f : StartFile). f.node.pnode == p) files ≡ None) × ((i : ℕ) → slice_get (map pnode_of_file files) i ≡ Some p → ⊥))
    ⊎ ((i : ℕ) × (f : StartFile) × (find (λ (f : StartFile). f.node.pnode == p) files ≡ Some f) × (slice_get files i ≡ Some f) × (f.node.pnode ≡ p))
found [] p = inl (refl, λ i at. absurd (cc))
found (f ∷ files) p = by_test (f.node.pnode == p) refl (found files p)
  where
    clash : true ≡ false → ⊥
    clash e = absurd (cc)

    by_test : (t : Bool) → (f.node.pnode == p) ≡ t
        → ((find (λ (f : StartFile). f.node.pnode == p) files ≡ None) × ((i : ℕ) → slice_get (map pnode_of_file files) i ≡ Some p → ⊥))
        ⊎ ((i : ℕ) × (g : StartFile) × (find (λ (f : StartFile). f.node.pnode == p) files ≡ Some g) × (slice_get files i ≡ Some g) × (g.node.pnode ≡ p))
        → ((cond t (Some f) (find (λ (f : StartFile). f.node.pnode == p) files) ≡ None) × ((i : ℕ) → slice_get (map pnode_of_file (f ∷ files)) i ≡ Some p → ⊥))
        ⊎ ((i : ℕ) × (g : StartFile) × (cond t (Some f) (find (λ (f : StartFile). f.node.pnode == p) files) ≡ Some g) × (slice_get (f ∷ files) i ≡ Some g) × (g.node.pnode ≡ p))
    by_test true same more = inr (0, f, refl, refl, same_numbers f.node.pnode p same)
    by_test false apart more = elim more [
      | inl l ↦ inl (l.0, λ i at. elsewhere i at l.1)
      | inr r ↦ inr (suc r.0, r.1, r.2, r.3, r.4)
    ]
      where
        elsewhere : (i : ℕ) → slice_get (map pnode_of_file (f ∷ files)) i ≡ Some p → ((i : ℕ) → slice_get (map pnode_of_file files) i ≡ Some p → ⊥) → ⊥
        elsewhere zero at none = clash (sym (ap (λ (x : ℕ). x == p) (some_is f.node.pnode p at) ∙ same_itself p) ∙ apart)
        elsewhere (suc i) at none = none i at

found_app : (apps : List Node) (p : ℕ) → is_some (find (λ (n : Node). n.pnode == p) apps) ≡ true
    → (i : ℕ) × (n : Node) × (find (λ (n : Node). n.pnode == p) apps ≡ Some n) × (slice_get apps i ≡ Some n) × (n.pnode ≡ p)
found_app [] p h = absurd (cc)
found_app (m ∷ apps) p h = by_test (m.pnode == p) refl h (found_app apps p)
  where
    by_test : (t : Bool) → (m.pnode == p) ≡ t → is_some (cond t (Some m) (find (λ (n : Node). n.pnode == p) apps)) ≡ true
        → (is_some (find (λ (n : Node). n.pnode == p) apps) ≡ true → (i : ℕ) × (n : Node) × (find (λ (n : Node). n.pnode == p) apps ≡ Some n) × (slice_get apps i ≡ Some n) × (n.pnode ≡ p))
        → (i : ℕ) × (n : Node) × (cond t (Some m) (find (λ (n : Node). n.pnode == p) apps) ≡ Some n) × (slice_get (m ∷ apps) i ≡ Some n) × (n.pnode ≡ p)
    by_test true same h more = (0, m, refl, refl, same_numbers m.pnode p same)
    by_test false apart h more = let r = more h in (suc r.0, r.1, r.2, r.3, r.4)

module _ (list : List Record) (start : Start) (is : IsStartOf list start) (logged : IsWellLogged list) (ranges : All IsInRange list) where
  files_made : AreMade kind.File list
  files_made = are_made kind.File list logged ranges

  apps_made : AreMade kind.App list
  apps_made = are_made kind.App list logged ranges

  -- the files and the app objects of the start are those that the list makes
  files_are : map pnode_of_file start.files.items ≡ objects_in kind.File list
  files_are = is.files ∙ sym (files_in list)

  file_at : (i : ℕ) (f : StartFile) → slice_get start.files.items i ≡ Some f → slice_get (objects_in kind.File list) i ≡ Some f.node.pnode
  file_at i f at = sym (ap (λ (l : List ℕ). slice_get l i) files_are) ∙ in_mapped pnode_of_file start.files.items i f at

  apps_are : start.apps.items ≡ map (current_node list) (objects_in kind.App list)
  apps_are = is.apps ∙ ap (map (current_node list)) (sym (apps_in list))

  app_at : (i : ℕ) (n : Node) → slice_get start.apps.items i ≡ Some n → (slice_get (objects_in kind.App list) i ≡ Some n.pnode) × (n ≡ current_node list n.pnode)
  app_at i n at =
      let m = mapped (current_node list) (objects_in kind.App list) i n (sym (ap (λ (l : List Node). slice_get l i) apps_are) ∙ at) in
      let same : m.0 ≡ n.pnode = ap (λ (x : Node). x.pnode) m.2 in
      (m.1 ∙ ap (λ (x : ℕ). Some x) same, sym m.2 ∙ ap (current_node list) same)

  -- the start's objects
  object_at : (i : ℕ) (o : ℕ × Kind) → slice_get (opening_registry start).objects i ≡ Some o
      → ((f : StartFile) × (slice_get start.files.items i ≡ Some f) × (o ≡ (f.node.pnode, kind.File)))
      ⊎ ((j : ℕ) × (n : Node) × (i ≡ length start.files.items + j) × (slice_get start.apps.items j ≡ Some n) × (o ≡ (n.pnode, kind.App)))
  object_at i o at =
      let files : List (ℕ × Kind) = map (λ (f : StartFile). (f.node.pnode, kind.File)) start.files.items in
      let apps : List (ℕ × Kind) = map (λ (n : Node). (n.pnode, kind.App)) start.apps.items in
      elim (in_either files apps i o at) [
        | inl l ↦ let m = mapped (λ (f : StartFile). (f.node.pnode, kind.File)) start.files.items i o l in inl (m.0, m.1, sym m.2)
        | inr r ↦ let m = mapped (λ (n : Node). (n.pnode, kind.App)) start.apps.items r.0 o r.2 in
            inr (r.0, m.0, (let e = r.1 in let long = length-map {B = ℕ × Kind} start.files.items (λ (f : StartFile). (f.node.pnode, kind.File)) in let z : i ≡ length start.files.items + r.0 = omega (arith, e, long) in z), m.1, sym m.2)
      ]

  pub kinds_are : (object : ℕ) (k : Kind) → Exists (opening_registry start) object k → kind_of list object ≡ Some k
  kinds_are object k there = elim (object_at there.0 (object, k) there.1) [
    | inl l ↦ let e = l.2 in
        ap (kind_of list) (ap (λ (o : ℕ × Kind). o.0) e) ∙ (files_made.each there.0 l.0.node.pnode (file_at there.0 l.0 l.1)).0 ∙ ap (λ (o : ℕ × Kind). Some o.1) (sym e)
    | inr r ↦ let e = r.4 in
        ap (kind_of list) (ap (λ (o : ℕ × Kind). o.0) e) ∙ (apps_made.each r.0 r.1.pnode (app_at r.0 r.1 r.3).0).0 ∙ ap (λ (o : ℕ × Kind). Some o.1) (sym e)
  ]

  clash : true ≡ false → ⊥
  clash e = absurd (cc)

  kind_is : (o : Option Kind) → option_map_or (λ k. same_kind k kind.File) o false ≡ true → o ≡ Some kind.File
  kind_is None h = absurd (clash (sym h))
  kind_is (Some k) h = ap (λ (x : Kind). Some x) (same_kind_is k kind.File h)

  test_of : (b : Bool) → (b ≡ true) ⊎ (b ≡ false)
  test_of true = inl refl
  test_of false = inr refl

  -- a number that no file of the start has isn't a file's
  no_file : (p : ℕ) → ((i : ℕ) → slice_get (map pnode_of_file start.files.items) i ≡ Some p → ⊥) → is_file_of list p ≡ false
  no_file p none = elim (test_of (is_file_of list p)) [
    | inl file ↦ let m = files_made.there p (kind_is (kind_of list p) file) in absurd (none m.0 (ap (λ (l : List ℕ). slice_get l m.0) files_are ∙ m.1))
    | inr other ↦ other
  ]

  no_row : (p block : ℕ) → ((i : ℕ) → slice_get (map pnode_of_file start.files.items) i ≡ Some p → ⊥) → is_some (row_of list p block) ≡ false
  no_row p block none = elim (test_of (is_some (row_of list p block))) [
    | inl some ↦ absurd (numbered (number_of list p) refl (row_files list logged p block some).0)
    | inr other ↦ other
  ]
    where
      numbered : (o : Option ℕ) → number_of list p ≡ o → is_some o ≡ true → ⊥
      numbered None number some = clash (sym some)
      numbered (Some m) number some = none m (ap (λ (l : List ℕ). slice_get l m) is.files ∙ number-at list p m number)

  -- the list tells of the files of the start
  pub tells_files : Tells list start
  tells_files = record {
    files = sym is.files;
    sizes = λ p. elim (found start.files.items p) [
      | inl l ↦ empty_elsewhere list logged p (no_file p l.1) ∙ sym (ap (λ (o : Option StartFile). option_map_or (λ (f : StartFile). f.size) o 0) l.0)
      | inr r ↦ ap (size_of list) (sym r.4) ∙ sym (is.each r.0 r.1 r.3).size ∙ sym (ap (λ (o : Option StartFile). option_map_or (λ (f : StartFile). f.size) o 0) r.2)
    ];
    rows = λ p block. elim (found start.files.items p) [
      | inl l ↦ no_row p block l.1 ∙ sym (ap (λ (o : Option StartFile). list_any (λ (b : ℕ). b == block) (option_map_or (λ (f : StartFile). f.rows.items) o [])) l.0)
      | inr r ↦ ap (λ (q : ℕ). is_some (row_of list q block)) (sym r.4) ∙ sym ((is.each r.0 r.1 r.3).rows block)
          ∙ sym (ap (λ (o : Option StartFile). list_any (λ (b : ℕ). b == block) (option_map_or (λ (f : StartFile). f.rows.items) o [])) r.2)
    ];
  }

  -- each file is sound

  some_name : (name : List ℕ) → is_name_or_none name ≡ true → IfSome (name_in name) (λ n. is_name n ≡ true)
  some_name [] fits = (cc)
  some_name (b ∷ name) fits = by_length (length (b ∷ name) == 0) refl fits
    where
      by_length : (t : Bool) → (length (b ∷ name) == 0) ≡ t → (t || is_name (b ∷ name)) ≡ true → is_name (b ∷ name) ≡ true
      by_length true none fits = absurd (let z = same_numbers (length (b ∷ name)) 0 none in omega (arith, z))
      by_length false some fits = fits

  named_some : (last name : List ℕ) → name_in last ≡ Some name → (last ≡ name) × (1 ≤ length last)
  named_some [] name named = absurd (cc)
  named_some (b ∷ last) name named = (some_is (b ∷ last) name named, omega arith)

  none_of : (o : Option (List ℕ)) → is_some o ≡ false → o ≡ None
  none_of None h = refl
  none_of (Some d) h = absurd (clash h)

  file_sound : (i : ℕ) (file : StartFile) → slice_get start.files.items i ≡ Some file → IsSoundFile file
  file_sound i file at =
      let has = is.each i file at in
      let limits = limited list logged ranges file.node.pnode in
      record {
        version = subst (λ (n : ℕ). (1 ≤ n) × (n < 2 ^ 48)) (sym has.version) limits.0;
        named = subst (λ (o : Option (List ℕ)). IfSome o (λ n. is_name n ≡ true)) (sym has.name) (some_name (last_name_of list file.node.pnode) limits.2);
        sized = sym has.sized;
        limited = let z = has.size in omega (arith, z, limits.1);
        ascending = has.ascending;
        within = λ j block there.
            let row : is_some (row_of list file.node.pnode block) ≡ true = sym (has.rows block) ∙ any_of (λ (b : ℕ). b == block) file.rows.items j block there (same_itself block) in
            let low = (row_files list logged file.node.pnode block row).1 in
            let z = has.size in omega (arith, z, low);
        zero = λ j block byte there low high none.
            let zero = has.zero block (none_of (row_of list file.node.pnode block) (sym (has.rows block) ∙ none)) j low high in
            sym (get_or_from_slice_get file.bytes.items j byte 0 there) ∙ zero;
      }

  app_version : (i : ℕ) (app : Node) → slice_get start.apps.items i ≡ Some app → (1 ≤ app.version) × (app.version < 2 ^ 48)
  app_version i app at =
      let is_node = (app_at i app at).1 in
      subst (λ (n : ℕ). (1 ≤ n) × (n < 2 ^ 48)) (sym (ap (λ (n : Node). n.version) is_node)) (limited list logged ranges app.pnode).0

  -- the numbers of the start
  numbers_fit : (i : ℕ) (o : ℕ × Kind) → slice_get (opening_registry start).objects i ≡ Some o → (1 ≤ o.0) × (o.0 ≤ start.ceiling)
  numbers_fit i o at = elim (object_at i o at) [
    | inl l ↦ let r = files_made.each i l.0.node.pnode (file_at i l.0 l.1) in fit o.0 l.0.node.pnode (ap (λ (x : ℕ × Kind). x.0) l.2) (r.1, r.2)
    | inr l ↦ let r = apps_made.each l.0 l.1.pnode (app_at l.0 l.1 l.3).0 in fit o.0 l.1.pnode (ap (λ (x : ℕ × Kind). x.0) l.4) (r.1, r.2)
  ]
    where
      fit : (o p : ℕ) → o ≡ p → (1 ≤ p) × (p ≤ ceiling_of list) → (1 ≤ o) × (o ≤ start.ceiling)
      fit o p same r = let z = is.ceiling in (omega (arith, same, r.0), omega (arith, same, r.1, z))

  two_kinds : (a b : Kind) → same_kind a b ≡ false → Some a ≡ Some b → ⊥
  two_kinds a b other same = clash (sym (itself b) ∙ ap (λ (k : Kind). same_kind k b) (sym (some_is a b same)) ∙ other)
    where
      itself : (x : Kind) → same_kind x x ≡ true
      itself kind.Process = refl
      itself kind.File = refl
      itself kind.Pipe = refl
      itself kind.App = refl

  one_place : (i j : ℕ) (a b : ℕ × Kind) → slice_get (opening_registry start).objects i ≡ Some a → slice_get (opening_registry start).objects j ≡ Some b → a.0 ≡ b.0 → i ≡ j
  one_place i j a b first second same = elim (object_at i a first) [
    | inl l ↦ elim (object_at j b second) [
      | inl m ↦ files_made.single i j l.0.node.pnode (file_at i l.0 l.1)
          (file_at j m.0 m.1 ∙ ap (λ (p : ℕ). Some p) (sym (ap (λ (x : ℕ × Kind). x.0) m.2) ∙ sym same ∙ ap (λ (x : ℕ × Kind). x.0) l.2))
      | inr m ↦ absurd (two_kinds kind.File kind.App refl
          (sym (files_made.each i l.0.node.pnode (file_at i l.0 l.1)).0 ∙ ap (kind_of list) (sym (ap (λ (x : ℕ × Kind). x.0) l.2) ∙ same ∙ ap (λ (x : ℕ × Kind). x.0) m.4)
          ∙ (apps_made.each m.0 m.1.pnode (app_at m.0 m.1 m.3).0).0))
    ]
    | inr l ↦ elim (object_at j b second) [
      | inl m ↦ absurd (two_kinds kind.App kind.File refl
          (sym (apps_made.each l.0 l.1.pnode (app_at l.0 l.1 l.3).0).0 ∙ ap (kind_of list) (sym (ap (λ (x : ℕ × Kind). x.0) l.4) ∙ same ∙ ap (λ (x : ℕ × Kind). x.0) m.2)
          ∙ (files_made.each j m.0.node.pnode (file_at j m.0 m.1)).0))
      | inr m ↦
          let one = apps_made.single l.0 m.0 l.1.pnode (app_at l.0 l.1 l.3).0
          ((app_at m.0 m.1 m.3).0 ∙ ap (λ (p : ℕ). Some p) (sym (ap (λ (x : ℕ × Kind). x.0) m.4) ∙ sym same ∙ ap (λ (x : ℕ × Kind). x.0) l.4)) in
          let e = l.2 in let f = m.2 in omega (arith, one, e, f)
    ]
  ]

  names_apart : (i j : ℕ) (a b : StartFile) (name : List ℕ) → slice_get start.files.items i ≡ Some a → slice_get start.files.items j ≡ Some b → a.name ≡ Some name → b.name ≡ Some name → i ≡ j
  names_apart i j a b name first second one two =
      let x = named_some (last_name_of list a.node.pnode) name (sym (is.each i a first).name ∙ one) in
      let y = named_some (last_name_of list b.node.pnode) name (sym (is.each j b second).name ∙ two) in
      let same = (are_named list logged ranges).apart a.node.pnode b.node.pnode x.1 (x.0 ∙ sym y.0) in
      files_made.single i j b.node.pnode (file_at i a first ∙ ap (λ (p : ℕ). Some p) same) (file_at j b second)

  files_many : length start.files.items ≡ length (objects_in kind.File list)
  files_many = sym (length-map {B = ℕ} start.files.items pnode_of_file) ∙ ap length files_are

  apps_many : length start.apps.items ≡ length (objects_in kind.App list)
  apps_many = ap length apps_are ∙ length-map {B = Node} (objects_in kind.App list) (current_node list)

  -- a session may begin with the start
  pub sound : (objects : ℕ) → 1 ≤ objects → start.ceiling + objects < 2 ^ 48 → IsSound (session_of start objects)
  sound objects some room = record {
    numbers = numbers_fit;
    single = one_place;
    files = file_sound;
    apps = app_version;
    names = names_apart;
    file_count = let z = files_many in let y = files_made.few refl in omega (arith, z, y);
    app_count = let z = apps_many in let y = apps_made.few refl in omega (arith, z, y);
    some = some;
    room = room;
  }

  -- what each record's ranges say of the list

  number_from : (n : ℕ) → is_number n ≡ true → 1 ≤ n
  number_from n fits = at_most 1 n (true_left (nat_le 1 n) (nat_lt n (2 ^ 48)) fits)

  known_of : (p : ℕ) (k : Kind) → kind_of list p ≡ Some k → is_known list p ≡ true
  known_of p k is_kind = ap is_some is_kind

  current_at : (object : ℕ) → is_opened start object ≡ true → (is_known list object ≡ true) × (opening_version start object ≡ current_of list object)
  current_at object opened = elim (found start.files.items object) [
    | inl l ↦
        let a = found_app start.apps.items object (sym (ap (λ (o : Option StartFile). is_some o || is_some (find (λ (n : Node). n.pnode == object) start.apps.items)) l.0) ∙ opened) in
        let has = app_at a.0 a.1 a.3 in (
          known_of object kind.App (ap (kind_of list) (sym a.4) ∙ (apps_made.each a.0 a.1.pnode has.0).0),
          ap (λ (o : Option StartFile). option_map_or (λ (f : StartFile). f.node.version) o (option_map_or (λ (n : Node). n.version) (find (λ (n : Node). n.pnode == object) start.apps.items) 1)) l.0
              ∙ ap (λ (o : Option Node). option_map_or (λ (n : Node). n.version) o 1) a.2 ∙ ap (λ (n : Node). n.version) has.1 ∙ ap (current_of list) a.4,
        )
    | inr r ↦ (
      known_of object kind.File (ap (kind_of list) (sym r.4) ∙ (files_made.each r.0 r.1.node.pnode (file_at r.0 r.1 r.3)).0),
      ap (λ (o : Option StartFile). option_map_or (λ (f : StartFile). f.node.version) o (option_map_or (λ (n : Node). n.version) (find (λ (n : Node). n.pnode == object) start.apps.items) 1)) r.2
          ∙ (is.each r.0 r.1 r.3).version ∙ ap (current_of list) r.4,
    )
  ]

  counts_are : (k : Kind) → is_limited k ≡ true → count_by (has_kind k) list ≤ count_of_kind k (opening_registry start)
  counts_are kind.File limit =
      let many = count_first {Y = ℕ × Kind} (λ (o : ℕ × Kind). same_kind o.1 kind.File) (λ (f : StartFile). (f.node.pnode, kind.File)) (λ f. refl) start.files.items (map (λ (n : Node). (n.pnode, kind.App)) start.apps.items) in
      let z = files_many in let y = files_made.count in omega (arith, many, z, y)
  counts_are kind.App limit =
      let many = count_second {Y = ℕ × Kind} (λ (o : ℕ × Kind). same_kind o.1 kind.App) (λ (n : Node). (n.pnode, kind.App)) (λ n. refl) (map (λ (f : StartFile). (f.node.pnode, kind.File)) start.files.items) start.apps.items in
      let z = apps_many in let y = apps_made.count in omega (arith, many, z, y)
  counts_are k limit = absurd (clash (sym limit))

  -- a name is found
  names_found : (object : ℕ) (name : List ℕ) → last_name_of list object ≡ name → 1 ≤ length name → finite_map.get (opening_registry start).names name ≡ Some object
  names_found object name last some =
      finite_map.get-from_entries nat_list_cmp_total (filter_map named_file start.files.items) name
      ∙ entry_found name object (filter_map named_file start.files.items) place.0 place.1 only
    where
      named : 1 ≤ length (last_name_of list object)
      named = subst (λ (l : List ℕ). 1 ≤ length l) (sym last) some

      full : (l : List ℕ) → 1 ≤ length l → name_in l ≡ Some l
      full [] long = absurd (omega (arith, long))
      full (b ∷ l) long = refl

      place : (j : ℕ) × (slice_get (filter_map named_file start.files.items) j ≡ Some (name, object))
      place =
          let m = files_made.there object ((are_named list logged ranges).file object named) in
          let f = mapped pnode_of_file start.files.items m.0 object (ap (λ (l : List ℕ). slice_get l m.0) files_are ∙ m.1) in
          in_filter_mapped named_file start.files.items m.0 f.0 (name, object) f.1
          (ap (option_map {U = List ℕ × ℕ} (λ (n : List ℕ). (n, f.0.node.pnode))) ((is.each m.0 f.0 f.1).name ∙ ap name_in (ap (last_name_of list) f.2 ∙ last) ∙ full name some) ∙ ap (λ (p : ℕ). Some (name, p)) f.2)

      entry_of : (file : StartFile) (o : Option (List ℕ)) (other : ℕ) → option_map {U = List ℕ × ℕ} (λ (n : List ℕ). (n, file.node.pnode)) o ≡ Some (name, other) → (o ≡ Some name) × (file.node.pnode ≡ other)
      entry_of file None other entry = absurd (cc)
      entry_of file (Some n) other entry =
          let e = some_is (n, file.node.pnode) (name, other) entry in (ap (λ (x : List ℕ × ℕ). Some x.0) e, ap (λ (x : List ℕ × ℕ). x.1) e)

      only : (j other : ℕ) → slice_get (filter_map named_file start.files.items) j ≡ Some (name, other) → other ≡ object
      only j other at =
          let m = filter_mapped named_file start.files.items j (name, other) at in
          let e = entry_of m.1 m.1.name other m.3 in
          let x = named_some (last_name_of list m.1.node.pnode) name (sym (is.each m.0 m.1 m.2).name ∙ e.0) in
          sym e.1 ∙ (are_named list logged ranges).apart m.1.node.pnode object x.1 (x.0 ∙ sym last)

  -- a session continues the list with it
  pub continues : (objects : ℕ) → 1 ≤ objects → start.ceiling + objects < 2 ^ 48 → Continues list (session_of start objects)
  continues objects some room = record {
    opens = record {
      sound = sound objects some room;
      logged = logged;
      objects = λ object k has. number_from object (All-contains IsInRange list (log.Object object k) ranges has);
      sources = λ target source has.
          number_from source.version (true_right (is_number source.pnode) (is_number source.version) (true_right (is_node target) (is_node source) (All-contains IsInRange list (log.Input target source) ranges has)));
      ceiling = let z = is.ceiling in omega (arith, z);
      current = current_at;
    };
    ceiling = is.ceiling;
    kinds = kinds_are;
    counts = counts_are;
    names = names_found;
  }

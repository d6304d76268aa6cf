-- The tables of a list become those of the list with one more record.
use Rattle.std.proofs.Common.{ℕ, ◌≡◌, ◌≤◌, ◌<◌, ◌+◌, ◌==◌, Bool, true, false, not, ◌&&◌, ◌||◌, refl, sym, ap, ◌∙◌, List, [], ◌∷◌, ◌++◌, length, arith, cond, min, subst, unwrap_or}
use Rattle.std.specs.Prelude.{Some, None, nat_eq, nat_lt, nat_le, bytes_eq, count_by, option_map, if◌then◌else◌}
use Rattle.std.specs.Option.{option_map_or}
use Rattle.std.specs.List.{list_any}
use Rattle.std.specs.Cmp.Lexicographic.{nat_list_eq_equiv}
use Rattle.std.specs.Map.{KeepsOthers, lookup}
use Rattle.std.specs.HashMap as hash
use Rattle.std.proofs.lemmas.Slice.Eq.{bytes_eq-Decides}
use Rattle.pass_graph.proofs.Holding.{other_of}
use Rattle.std.specs.HashMap.{HashMap, get, get_by}
use Rattle.std.specs.HashSet.{HashSet, contains}
use Rattle.std.specs.declared.hash.FoldHasher.{FoldHasher}
use Rattle.std.specs.declared.hash.BuildHasherDefault.{BuildHasherDefault}
use Rattle.std.specs.declared.vec.Vec.{Vec}
use Rattle.std.specs.declared.alloc.Global.{Global}
use Rattle.std.proofs.lemmas.List.Sums.{fold-append, sum_by_push}
use Rattle.std.proofs.lemmas.List.Folds.{list_any-append}
use Rattle.pass_entry.specs.declared.objects.Node.{Node}
use Rattle.pass_entry.specs.declared.objects.Kind.{Kind}
use Rattle.pass_entry.specs.declared.objects.Kind.TheVariants as kind
use Rattle.pass_entry.specs.declared.record.Record.{Record}
use Rattle.pass_entry.specs.declared.record.Record.TheVariants as log
use Rattle.pass_entry.specs.declared.record.FlawReason.TheVariants as flaw
use Rattle.pass_entry.proofs.Variants.{none_of}
use Rattle.pass_plain.specs.Registries.{is_limited, same_kind}
use Rattle.std.proofs.lemmas.Bool.Decides.{nat_tests}
use Rattle.pass_plain.specs.Versions.{same_node}
use Rattle.pass_plain.specs.WellLogged.{kind_look, kind_of, version_look, current_of, size_look, size_of, name_look, last_name_of, ceiling_look, ceiling_of, has_kind, names_other, has_source, is_input, is_known, is_file_of, flaw_if, flaw_of}
use Rattle.pass_plain.proofs.Lists.{same_numbers, same_itself, or_none}
use Rattle.pass_plain.proofs.Flaws.{unflawed}
use Rattle.pass_graph.specs.declared.logged.Told.{Told}
use Rattle.pass_graph.specs.declared.logged.Logged.{Logged}
use Rattle.pass_graph.specs.Logged.{Summarizes, told, same_pair}

abbrev Objects : Type 0
Objects = HashMap ℕ Told (BuildHasherDefault FoldHasher)

module _ (list : List Record) (r : Record) where
  abbrev more : List Record
  more = list ++ r ∷ []

  kind_more : (q : ℕ) → kind_of more q ≡ kind_look q (kind_of list q) r
  kind_more q = fold-append (kind_look q) None list (r ∷ [])

  version_more : (q : ℕ) → current_of more q ≡ version_look q (current_of list q) r
  version_more q = fold-append (version_look q) 1 list (r ∷ [])

  size_more : (q : ℕ) → size_of more q ≡ size_look q (size_of list q) r
  size_more q = fold-append (size_look q) 0 list (r ∷ [])

  name_more : (q : ℕ) → last_name_of more q ≡ name_look q (last_name_of list q) r
  name_more q = fold-append (name_look q) [] list (r ∷ [])

  ceiling_more : ceiling_of more ≡ ceiling_look (ceiling_of list) r
  ceiling_more = fold-append ceiling_look 0 list (r ∷ [])

  any_more : (p : Record → Bool) → list_any p more ≡ (list_any p list || (p r || false))
  any_more p = list_any-append p list (r ∷ [])

  any_same : (p : Record → Bool) → p r ≡ false → list_any p more ≡ list_any p list
  any_same p no_more = any_more p ∙ ap (λ b. list_any p list || (b || false)) no_more ∙ or_none (list_any p list)

  count_more : (p : Record → Bool) → count_by p more ≡ count_by p list + cond (p r) 1 0
  count_more p = sum_by_push (λ x. cond (p x) 1 0) list r

  told_more : (q : ℕ) → told more q ≡ option_map (λ k. record { kind = k; version = version_look q (current_of list q) r; size = size_look q (size_of list q) r }) (kind_look q (kind_of list q) r)
  told_more q =
      ap (λ o. option_map (λ k. record { kind = k; version = current_of more q; size = size_of more q }) o) (kind_more q)
      ∙ ap (λ v. option_map (λ k. record { kind = k; version = v; size = size_of more q }) (kind_look q (kind_of list q) r)) (version_more q)
      ∙ ap (λ n. option_map (λ k. record { kind = k; version = version_look q (current_of list q) r; size = n }) (kind_look q (kind_of list q) r)) (size_more q)

-- a test that finds no flaw

nothing_more : (n : ℕ) → n ≡ n + 0
nothing_more n = omega arith

and_false : (a b : Bool) → a ≡ true → a && b ≡ false → b ≡ false
and_false true b is none = none
and_false false b is none = absurd (cc)

-- a new object

module _ (old : Logged) (list : List Record) (s : Summarizes old list) (p : ℕ) (k : Kind) (fine : flaw_of list (log.Object p k) ≡ None) where
  abbrev made : Told
  made = record { kind = k; version = 1; size = 0 }

  new : kind_of list p ≡ None
  new = none_of (kind_of list p) (unflawed (is_known list p) _ _ fine).0

  object_told : (objects : Objects) → ((q : ℕ) → get nat_eq objects q ≡ cond (p == q) (Some made) (get nat_eq old.objects q)) → (q : ℕ) → get nat_eq objects q ≡ told (list ++ log.Object p k ∷ []) q
  object_told objects after q = after q ∙ at_test (p == q) refl ∙ sym (told_more list (log.Object p k) q)
    where
      at_test : (t : Bool) → (p == q) ≡ t → cond t (Some made) (get nat_eq old.objects q)
          ≡ option_map (λ k. record { kind = k; version = current_of list q; size = size_of list q }) (if t then Some k else kind_of list q)
      at_test true same =
          let (one, nothing) = s.unknown p new in
          let here : p ≡ q = same_numbers p q same in
          ap (λ (t : ℕ × ℕ). Some (record { kind = k; version = t.0; size = t.1 })) (λ i. (sym one i, sym nothing i)) ∙ ap (λ q. Some (record { kind = k; version = current_of list q; size = size_of list q })) here
      at_test false differ = s.objects q

  unknown_more : (q : ℕ) → kind_of (list ++ log.Object p k ∷ []) q ≡ None → (current_of (list ++ log.Object p k ∷ []) q ≡ 1) × (size_of (list ++ log.Object p k ∷ []) q ≡ 0)
  unknown_more q none =
      let (one, nothing) = s.unknown q (at_test (p == q) (sym (kind_more list (log.Object p k) q) ∙ none)) in
      (version_more list (log.Object p k) q ∙ one, size_more list (log.Object p k) q ∙ nothing)
    where
      at_test : (t : Bool) → (if t then Some k else kind_of list q) ≡ None → kind_of list q ≡ None
      at_test true is = absurd (cc)
      at_test false is = is

  pub object_added : (objects : Objects) (files apps : ℕ) → ((q : ℕ) → get nat_eq objects q ≡ cond (p == q) (Some made) (get nat_eq old.objects q))
      → files ≡ old.files + cond (has_kind kind.File (log.Object p k)) 1 0 → apps ≡ old.apps + cond (has_kind kind.App (log.Object p k)) 1 0
      → Summarizes (record old { objects = objects; files = files; apps = apps }) (list ++ log.Object p k ∷ [])
  object_added objects files apps after is_files is_apps = record {
    ceiling = s.ceiling ∙ sym (ceiling_more list (log.Object p k));
    files = is_files ∙ ap (λ n. n + cond (has_kind kind.File (log.Object p k)) 1 0) s.files ∙ sym (count_more list (log.Object p k) (has_kind kind.File));
    apps = is_apps ∙ ap (λ n. n + cond (has_kind kind.App (log.Object p k)) 1 0) s.apps ∙ sym (count_more list (log.Object p k) (has_kind kind.App));
    objects = object_told objects after;
    unknown = unknown_more;
    names = λ q. s.names q ∙ sym (name_more list (log.Object p k) q);
    holders = λ q. rw (name_more list (log.Object p k) q) (s.holders q);
    sources = λ n. s.sources n ∙ sym (any_same list (log.Object p k) (has_source n) refl);
    inputs = λ t n. s.inputs t n ∙ sym (any_same list (log.Object p k) (is_input t n) refl);
  }

  room : flaw_if (is_limited k && nat_le 1024 (count_by (has_kind k) list)) flaw.Many None ≡ None
  room = (unflawed (nat_lt (ceiling_of list) p) _ _ (unflawed (is_known list p) _ _ fine).1).1

  next_count : (n m : ℕ) → n ≡ m → flaw_if (nat_le 1024 m) flaw.Many None ≡ None → (x : ℕ) → x ≡ min (n + 1) 4294967295 → x ≡ n + 1
  next_count n m same is x next = let z = not_from (nat_le 1024 m) refl is in omega (arith, z, next, same)
    where
      not_from : (b : Bool) → nat_le 1024 m ≡ b → flaw_if b flaw.Many None ≡ None → m < 1024
      not_from true is none = absurd (cc)
      not_from false is none = grind (arith, nat_tests)

  pub file_added : k ≡ kind.File → (objects : Objects) (files : ℕ) → ((q : ℕ) → get nat_eq objects q ≡ cond (p == q) (Some made) (get nat_eq old.objects q))
      → files ≡ min (old.files + 1) 4294967295 → Summarizes (record old { objects = objects; files = files }) (list ++ log.Object p k ∷ [])
  file_added is objects files after next =
      object_added objects files old.apps after
      (next_count old.files (count_by (has_kind kind.File) list) s.files (subst (λ j. flaw_if (is_limited j && nat_le 1024 (count_by (has_kind j) list)) flaw.Many None ≡ None) is room) files next
      ∙ ap (λ j. old.files + cond (same_kind j kind.File) 1 0) (sym is))
      (nothing_more old.apps ∙ ap (λ j. old.apps + cond (same_kind j kind.App) 1 0) (sym is))

  pub app_added : k ≡ kind.App → (objects : Objects) (apps : ℕ) → ((q : ℕ) → get nat_eq objects q ≡ cond (p == q) (Some made) (get nat_eq old.objects q))
      → apps ≡ min (old.apps + 1) 4294967295 → Summarizes (record old { objects = objects; apps = apps }) (list ++ log.Object p k ∷ [])
  app_added is objects apps after next =
      object_added objects old.files apps after (nothing_more old.files ∙ ap (λ j. old.files + cond (same_kind j kind.File) 1 0) (sym is))
      (next_count old.apps (count_by (has_kind kind.App) list) s.apps (subst (λ j. flaw_if (is_limited j && nat_le 1024 (count_by (has_kind j) list)) flaw.Many None ≡ None) is room) apps next
      ∙ ap (λ j. old.apps + cond (same_kind j kind.App) 1 0) (sym is))

  pub other_added : same_kind k kind.File ≡ false → same_kind k kind.App ≡ false → (objects : Objects) → ((q : ℕ) → get nat_eq objects q ≡ cond (p == q) (Some made) (get nat_eq old.objects q))
      → Summarizes (record old { objects = objects }) (list ++ log.Object p k ∷ [])
  other_added no_file no_app objects after =
      object_added objects old.files old.apps after (nothing_more old.files ∙ ap (λ b. old.files + cond b 1 0) (sym no_file)) (nothing_more old.apps ∙ ap (λ b. old.apps + cond b 1 0) (sym no_app))

-- a new edge

pub first_or : (b c : Bool) → cond b true c ≡ (c || (b || false))
first_or true true = refl
first_or true false = refl
first_or false true = refl
first_or false false = refl

abbrev Nodes : Type 0
Nodes = HashSet Node (BuildHasherDefault FoldHasher)

abbrev Pairs : Type 0
Pairs = HashSet (Node × Node) (BuildHasherDefault FoldHasher)

pub input_added : (old : Logged) (list : List Record) → Summarizes old list → (t n : Node) (reserved sources : Nodes) (inputs : Pairs)
    → ((q : Node) → contains same_node reserved q ≡ contains same_node old.sources q)
    → ((q : Node) → contains same_node sources q ≡ cond (same_node n q) true (contains same_node reserved q))
    → ((q : Node × Node) → contains same_pair inputs q ≡ cond (same_pair (t, n) q) true (contains same_pair old.inputs q))
    → Summarizes (record old { sources = sources; inputs = inputs }) (list ++ log.Input t n ∷ [])
input_added old list s t n reserved sources inputs kept named listed =
    let r : Record = log.Input t n in
    record {
      ceiling = s.ceiling ∙ sym (ceiling_more list r);
      files = s.files ∙ nothing_more _ ∙ sym (count_more list r (has_kind kind.File));
      apps = s.apps ∙ nothing_more _ ∙ sym (count_more list r (has_kind kind.App));
      objects = λ q. s.objects q ∙ sym (told_more list r q);
      unknown = λ q none. let (one, nothing) = s.unknown q (sym (kind_more list r q) ∙ none) in (version_more list r q ∙ one, size_more list r q ∙ nothing);
      names = λ q. s.names q ∙ sym (name_more list r q);
      holders = λ q. rw (name_more list r q) (s.holders q);
      sources = λ q. named q ∙ ap (λ b. cond (same_node n q) true b) (kept q ∙ s.sources q) ∙ first_or (same_node n q) (list_any (has_source q) list) ∙ sym (any_more list r (has_source q));
      inputs = λ a b. listed (a, b) ∙ ap (λ c. cond (same_pair (t, n) (a, b)) true c) (s.inputs a b) ∙ first_or (same_pair (t, n) (a, b)) (list_any (is_input a b) list) ∙ sym (any_more list r (is_input a b));
    }

pub sources_reserved : (old : Logged) (list : List Record) → Summarizes old list → (sources : Nodes) (inputs : Pairs)
    → ((q : Node) → contains same_node sources q ≡ contains same_node old.sources q) → inputs.keys ≡ old.inputs.keys
    → Summarizes (record old { sources = sources; inputs = inputs }) list
sources_reserved old list s sources inputs kept same = record {
  ceiling = s.ceiling;
  files = s.files;
  apps = s.apps;
  objects = s.objects;
  unknown = s.unknown;
  names = s.names;
  holders = s.holders;
  sources = λ q. kept q ∙ s.sources q;
  inputs = λ a b. ap (list_any (same_pair (a, b))) same ∙ s.inputs a b;
}

-- a new name

abbrev Texts : Type 0
Texts = HashMap ℕ (List ℕ) (BuildHasherDefault FoldHasher)

abbrev Holders : Type 0
Holders = HashMap (Vec ℕ Global) ℕ (BuildHasherDefault FoldHasher)

abbrev pub same_key : Vec ℕ Global → Vec ℕ Global → Bool
same_key a b = bytes_eq a.items b.items

abbrev is_text : List ℕ → Vec ℕ Global → Bool
is_text name key = bytes_eq name key.items

-- what a text finds after another one was given a holder
text_found : (old after : Holders) (key : Vec ℕ Global) (name : List ℕ) (p : ℕ) → key.items ≡ name → hash.Updates same_key old after key (Some p) → (n : List ℕ) (b : Bool) → bytes_eq name n ≡ b
    → get_by (is_text n) after ≡ cond b (Some p) (get_by (is_text n) old)
unfolding KeepsOthers
text_found old after key name p is updates n true same = ap (λ x. get_by (is_text x) after) (sym (is ∙ (bytes_eq-Decides name n).0 same)) ∙ updates.1
text_found old after key name p is updates n false differ =
    updates.3 (is_text n) (λ x y passes. nat_list_eq_equiv.congr n x.items y.items passes)
    (λ k passes. nat_list_eq_equiv.symm n k.items ∙ sym (nat_list_eq_equiv.congr key.items k.items n passes) ∙ ap (λ x. bytes_eq x n) is ∙ differ)

module _ (old : Logged) (list : List Record) (s : Summarizes old list) (p : ℕ) (name : List ℕ) (fine : flaw_of list (log.Name p name) ≡ None)
    (holders : Holders) (key : Vec ℕ Global) (is_key : key.items ≡ name) (holds : hash.Updates same_key old.holders holders key (Some p)) where
  long : 1 ≤ length name → nat_lt 0 (length name) ≡ true
  long some = grind (arith, nat_tests)

  -- no file but this one has the name
  alone : (q : ℕ) → 1 ≤ length name → last_name_of list q ≡ name → p ≡ q
  alone q some is = at_test (p == q) refl
    where
      free : list_any (names_other list p name) list ≡ false
      free = and_false (nat_lt 0 (length name)) (list_any (names_other list p name) list) (long some) (unflawed _ _ _ (unflawed (not (is_file_of list p)) flaw.Kind _ (unflawed (not (is_known list p)) flaw.Unknown _ fine).1).1).0

      at_test : (t : Bool) → (p == q) ≡ t → p ≡ q
      at_test true same = same_numbers p q same
      at_test false differ = absurd (let z : true ≡ false = sym (other_of list p name some q (λ e. let y : true ≡ false = sym (same_itself q) ∙ ap (λ n. n == q) e ∙ differ in cc) is) ∙ free in cc)

  -- a file that has a name is found by it, before the file has the new one
  held : (q : ℕ) → 1 ≤ length (last_name_of list q) → get_by (is_text (last_name_of list q)) holders ≡ Some q
  held q some = text_found old.holders holders key name p is_key holds (last_name_of list q) (bytes_eq name (last_name_of list q)) refl ∙ at_test (bytes_eq name (last_name_of list q)) refl
    where
      at_test : (t : Bool) → bytes_eq name (last_name_of list q) ≡ t → cond t (Some p) (get_by (is_text (last_name_of list q)) old.holders) ≡ Some q
      at_test true same =
          let is : name ≡ last_name_of list q = (bytes_eq-Decides name (last_name_of list q)).0 same in
          ap (λ n. Some n) (alone q (subst (λ n. 1 ≤ length n) (sym is) some) (sym is))
      at_test false differ = s.holders q some

  pub name_held : (names : Texts) → names.entries ≡ old.names.entries → Summarizes (record old { holders = holders; names = names }) list
  name_held names same = record {
    ceiling = s.ceiling;
    files = s.files;
    apps = s.apps;
    objects = s.objects;
    unknown = s.unknown;
    names = λ q. ap (λ es. unwrap_or (lookup (nat_eq q) es) []) same ∙ s.names q;
    holders = held;
    sources = s.sources;
    inputs = s.inputs;
  }

  pub name_added : (names : Texts) (own : List ℕ) → own ≡ name → ((q : ℕ) → get nat_eq names q ≡ cond (p == q) (Some own) (get nat_eq old.names q))
      → Summarizes (record old { holders = holders; names = names }) (list ++ log.Name p name ∷ [])
  name_added names own is_own named = record {
    ceiling = s.ceiling ∙ sym (ceiling_more list (log.Name p name));
    files = s.files ∙ nothing_more _ ∙ sym (count_more list (log.Name p name) (has_kind kind.File));
    apps = s.apps ∙ nothing_more _ ∙ sym (count_more list (log.Name p name) (has_kind kind.App));
    objects = λ q. s.objects q ∙ sym (told_more list (log.Name p name) q);
    unknown = λ q none. let (one, nothing) = s.unknown q (sym (kind_more list (log.Name p name) q) ∙ none) in (version_more list (log.Name p name) q ∙ one, size_more list (log.Name p name) q ∙ nothing);
    names = λ q. ap (λ o. unwrap_or o []) (named q) ∙ at_name (p == q) q ∙ sym (name_more list (log.Name p name) q);
    holders = λ q. rw (name_more list (log.Name p name) q) (at_holder q (p == q) refl);
    sources = λ n. s.sources n ∙ sym (any_same list (log.Name p name) (has_source n) refl);
    inputs = λ t n. s.inputs t n ∙ sym (any_same list (log.Name p name) (is_input t n) refl);
  }
    where
      at_name : (t : Bool) (q : ℕ) → unwrap_or (cond t (Some own) (get nat_eq old.names q)) [] ≡ (if t then name else last_name_of list q)
      at_name true q = is_own
      at_name false q = s.names q

      at_holder : (q : ℕ) (t : Bool) → (p == q) ≡ t → 1 ≤ length (if t then name else last_name_of list q) → get_by (is_text (if t then name else last_name_of list q)) holders ≡ Some q
      at_holder q true same some = text_found old.holders holders key name p is_key holds name true ((bytes_eq-Decides name name).1 refl) ∙ ap (λ n. Some n) (same_numbers p q same)
      at_holder q false differ some = held q some

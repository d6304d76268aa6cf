-- The records of new objects and of names may stand, and the list then tells of the registry that has them.
use Rattle.std.proofs.Common.{ℕ, ◌≡◌, ◌≤◌, ◌==◌, Bool, true, false, refl, sym, ap, ◌∙◌, subst, List, [], ◌∷◌, ◌++◌, length, arith, append_assoc, cond}
use Rattle.std.specs.Prelude.{Option, Some, None, is_some, bytes_eq, if◌then◌else◌}
use Rattle.std.specs.Option.{option_map_or}
use Rattle.std.specs.FinMap as finite_map
use Rattle.std.specs.Cmp.Lexicographic.{nat_list_cmp_total, texts_ties}
use Rattle.std.proofs.lemmas.Slice.Eq.{bytes_eq-Decides}
use Rattle.std.proofs.lemmas.List.{append-nil}
use Rattle.pass_entry.specs.declared.objects.Kind.{Kind}
use Rattle.pass_entry.specs.declared.objects.Kind.TheVariants as kind
use Rattle.pass_entry.specs.declared.record.Record.{Record}
use Rattle.pass_entry.specs.declared.record.Record.TheVariants as log
use Rattle.pass_entry.specs.declared.entry.Act.TheVariants as act
use Rattle.pass_entry.specs.declared.entry.Reply.{Reply}
use Rattle.pass_entry.specs.declared.entry.Reply.TheVariants as answer
use Rattle.pass_entry.proofs.Places.{slice_get-last}
use Rattle.pass_plain.specs.Histories.{pnode_of}
use Rattle.pass_plain.specs.Sessions.{Session}
use Rattle.pass_plain.specs.Registries.{Registry, Names, Exists, registry_act, with_object, next_pnode, is_full, renamed}
use Rattle.pass_plain.specs.Records.{lost_name, file_named, move_records}
use Rattle.pass_plain.specs.WellLogged.{last_name_of, name_look}
use Rattle.pass_plain.proofs.Lists.{same_numbers, same_itself, some_is}
use Rattle.pass_graph.proofs.Accepting.{AreFine, IsTold, fine_one, fine-append, object_fine, object_told, name_more, name_fine, name_told, texts_same}

-- the records may stand after the list, and it then tells of the registry and the versions
abbrev pub Stepped : Session → List Record → Registry → (ℕ → ℕ) → List Record → Type 0
Stepped session list r version rs = AreFine list rs × IsTold session (list ++ rs) r version

pub stepped-append : (session : Session) (list : List Record) (r s : Registry) (v w : ℕ → ℕ) (xs ys : List Record) → Stepped session list r v xs → Stepped session (list ++ xs) s w ys → Stepped session list s w (xs ++ ys)
stepped-append session list r s v w xs ys a b = (fine-append list xs ys a.0 b.0, subst (λ l. IsTold session l s w) (append_assoc list xs ys) b.1)

pub nothing_stepped : (session : Session) (list : List Record) (r : Registry) (v : ℕ → ℕ) → IsTold session list r v → Stepped session list r v []
nothing_stepped session list r v t = (refl, subst (λ l. IsTold session l r v) (sym (append-nil list)) t)

got_insert : (names : Names) (name q : List ℕ) (v : ℕ) → finite_map.get (finite_map.insert names name v) q ≡ cond (bytes_eq q name) (Some v) (finite_map.get names q)
got_insert names name q v = finite_map.get-insert nat_list_cmp_total names name v q ∙ ap (λ b. cond b (Some v) (finite_map.get names q)) (sym (texts_ties q name))

got_remove : (names : Names) (name q : List ℕ) → finite_map.get (finite_map.remove names name) q ≡ cond (bytes_eq q name) None (finite_map.get names q)
got_remove names name q = finite_map.get-remove nat_list_cmp_total names name q ∙ ap (λ b. cond b None (finite_map.get names q)) (sym (texts_ties q name))

same_text : (a : List ℕ) → bytes_eq a a ≡ true
same_text a = (bytes_eq-Decides a a).1 refl

no_key : (o : Option ℕ) (p : ℕ) → is_some o ≡ false → o ≡ Some p → ⊥
no_key o p none at = let z : true ≡ false = sym (ap is_some at) ∙ none in cc

module _ (session : Session) (list : List Record) (r : Registry) (version : ℕ → ℕ) (t : IsTold session list r version) where
  pub mint_step : (k : Kind) (y : Reply) → y ≡ answer.Made (next_pnode session r) → is_full session r k ≡ false
      → Stepped session list (registry_act r (act.Mint k) y) version (log.Object (pnode_of y) k ∷ [])
  mint_step k y is room =
      subst (λ n. Stepped session list (with_object r n k) version (log.Object n k ∷ [])) (sym (ap pnode_of is))
      (fine_one list (log.Object (next_pnode session r) k) (object_fine session list r version t k room), object_told session list r version t k)

  bind_next : (name : List ℕ) → is_full session r kind.File ≡ false → finite_map.contains_key r.names name ≡ false
      → Stepped session list (record (with_object r (next_pnode session r) kind.File) { names = finite_map.insert r.names name (next_pnode session r) }) version
      (log.Object (next_pnode session r) kind.File ∷ log.Name (next_pnode session r) name ∷ [])
  bind_next name room free =
      let n : ℕ = next_pnode session r in
      let x : Record = log.Object n kind.File in
      let s : Registry = with_object r n kind.File in
      let t1 : IsTold session (list ++ x ∷ []) s version = object_told session list r version t kind.File in
      let has : Exists s n kind.File = (length r.objects, slice_get-last r.objects (n, kind.File)) in
      let ok : AreFine (list ++ x ∷ []) (log.Name n name ∷ []) = fine_one (list ++ x ∷ []) (log.Name n name)
      (name_fine session (list ++ x ∷ []) s version n name t1 has (λ p at last some. absurd (no_key (finite_map.get r.names name) p free at))) in
      stepped-append session list s (record s { names = finite_map.insert r.names name n }) version version (x ∷ []) (log.Name n name ∷ [])
      (fine_one list x (object_fine session list r version t kind.File room), t1) (
        ok,
        name_told session (list ++ x ∷ []) s (record s { names = finite_map.insert r.names name n }) version n name t1 refl refl
            (λ p q is some. got_insert r.names name q n ∙ told p q some (n == p) refl (sym (name_more (list ++ x ∷ []) (log.Name n name) p) ∙ is) t1),
      )
    where
      told : (p : ℕ) (q : List ℕ) → 1 ≤ length q → (b : Bool) → (next_pnode session r == p) ≡ b → name_look p (last_name_of (list ++ log.Object (next_pnode session r) kind.File ∷ []) p) (log.Name (next_pnode session r) name) ≡ q
          → IsTold session (list ++ log.Object (next_pnode session r) kind.File ∷ []) (with_object r (next_pnode session r) kind.File) version
          → cond (bytes_eq q name) (Some (next_pnode session r)) (finite_map.get r.names q) ≡ Some p
      told p q some true same is t1 =
          let old : List ℕ = last_name_of (list ++ log.Object (next_pnode session r) kind.File ∷ []) p in
          let name_is : name ≡ q = sym (ap (λ b. if b then name else old) same) ∙ is in
          ap (λ m. cond (bytes_eq m name) (Some (next_pnode session r)) (finite_map.get r.names m)) (sym name_is)
          ∙ ap (λ b. cond b (Some (next_pnode session r)) (finite_map.get r.names name)) (same_text name)
          ∙ ap (λ m. Some m) (same_numbers _ _ same)
      told p q some false differs is t1 =
          let old : List ℕ = last_name_of (list ++ log.Object (next_pnode session r) kind.File ∷ []) p in
          let had : finite_map.get r.names q ≡ Some p = t1.names p q (sym (ap (λ b. if b then name else old) differs) ∙ is) some in
          at_name (bytes_eq q name) refl had
        where
          at_name : (b : Bool) → bytes_eq q name ≡ b → finite_map.get r.names q ≡ Some p → cond b (Some (next_pnode session r)) (finite_map.get r.names q) ≡ Some p
          at_name false t had = had
          at_name true t had = absurd (no_key (finite_map.get r.names name) p free (ap (λ m. finite_map.get r.names m) (sym (texts_same q name t)) ∙ had))

  pub bind_step : (name : List ℕ) (y : Reply) → y ≡ answer.Made (next_pnode session r) → is_full session r kind.File ≡ false → finite_map.contains_key r.names name ≡ false
      → Stepped session list (registry_act r (act.Bind name) y) version (log.Object (pnode_of y) kind.File ∷ log.Name (pnode_of y) name ∷ [])
  bind_step name y is room free =
      subst (λ n. Stepped session list (record (with_object r n kind.File) { names = finite_map.insert r.names name n }) version (log.Object n kind.File ∷ log.Name n name ∷ []))
      (sym (ap pnode_of is)) (bind_next name room free)

  -- a file loses its name
  pub unbind_step : (name : List ℕ) (f : ℕ) → finite_map.get r.names name ≡ Some f → Exists r f kind.File
      → Stepped session list (record r { names = finite_map.remove r.names name }) version (log.Name f [] ∷ [])
  unbind_step name f at has = (
    fine_one list (log.Name f []) (name_fine session list r version f [] t has (λ p got last some. absurd (omega (arith, some)))),
    name_told session list r (record r { names = finite_map.remove r.names name }) version f [] t refl refl
        (λ p q is some. got_remove r.names name q ∙ told p q some (f == p) refl (sym (name_more list (log.Name f []) p) ∙ is)),
  )
    where
      told : (p : ℕ) (q : List ℕ) → 1 ≤ length q → (b : Bool) → (f == p) ≡ b → name_look p (last_name_of list p) (log.Name f []) ≡ q → cond (bytes_eq q name) None (finite_map.get r.names q) ≡ Some p
      told p q some true same is = absurd (let z : length q ≡ 0 = ap length (sym (sym (ap (λ b. if b then [] else last_name_of list p) same) ∙ is)) in omega (arith, z, some))
      told p q some false differs is = at_name (bytes_eq q name) refl (t.names p q (sym (ap (λ b. if b then [] else last_name_of list p) differs) ∙ is) some)
        where
          at_name : (b : Bool) → bytes_eq q name ≡ b → finite_map.get r.names q ≡ Some p → cond b None (finite_map.get r.names q) ≡ Some p
          at_name false u had = had
          at_name true u had =
              let same : f ≡ p = some_is f p (sym at ∙ ap (λ m. finite_map.get r.names m) (sym (texts_same q name u)) ∙ had) in
              absurd (let z : true ≡ false = sym (ap (λ m. m == p) same ∙ same_itself p) ∙ differs in cc)

  -- a file takes a name that no other one has
  take_name : (old new : List ℕ) (f : ℕ) → finite_map.get r.names old ≡ Some f → Exists r f kind.File
      → ((p : ℕ) → finite_map.get r.names new ≡ Some p → last_name_of list p ≡ new → 1 ≤ length new → ⊥)
      → Stepped session list (record r { names = finite_map.insert (finite_map.remove r.names old) new f }) version (log.Name f new ∷ [])
  take_name old new f at has alone = (
    fine_one list (log.Name f new) (name_fine session list r version f new t has (λ p got last some. absurd (alone p got last some))),
    name_told session list r (record r { names = finite_map.insert (finite_map.remove r.names old) new f }) version f new t refl refl
        (λ p q is some. got_insert (finite_map.remove r.names old) new q f ∙ ap (λ o. cond (bytes_eq q new) (Some f) o) (got_remove r.names old q)
        ∙ told p q some (f == p) refl (sym (name_more list (log.Name f new) p) ∙ is)),
  )
    where
      told : (p : ℕ) (q : List ℕ) → 1 ≤ length q → (b : Bool) → (f == p) ≡ b → name_look p (last_name_of list p) (log.Name f new) ≡ q
          → cond (bytes_eq q new) (Some f) (cond (bytes_eq q old) None (finite_map.get r.names q)) ≡ Some p
      told p q some true same is =
          let name_is : new ≡ q = sym (ap (λ b. if b then new else last_name_of list p) same) ∙ is in
          ap (λ b. cond b (Some f) (cond (bytes_eq q old) None (finite_map.get r.names q))) (ap (λ m. bytes_eq m new) (sym name_is) ∙ same_text new) ∙ ap (λ m. Some m) (same_numbers _ _ same)
      told p q some false differs is =
          let last : last_name_of list p ≡ q = sym (ap (λ b. if b then new else last_name_of list p) differs) ∙ is in
          at_new (bytes_eq q new) refl (bytes_eq q old) refl last (t.names p q last some)
        where
          at_new : (b : Bool) → bytes_eq q new ≡ b → (c : Bool) → bytes_eq q old ≡ c → last_name_of list p ≡ q → finite_map.get r.names q ≡ Some p
              → cond b (Some f) (cond c None (finite_map.get r.names q)) ≡ Some p
          at_new true u c w last had =
              let is_new : q ≡ new = texts_same q new u in
              absurd (alone p (ap (λ m. finite_map.get r.names m) (sym is_new) ∙ had) (last ∙ is_new) (let z : length q ≡ length new = ap length is_new in omega (arith, some, z)))
          at_new false u true w last had =
              let same : f ≡ p = some_is f p (sym at ∙ ap (λ m. finite_map.get r.names m) (sym (texts_same q old w)) ∙ had) in
              absurd (let z : true ≡ false = sym (ap (λ m. m == p) same ∙ same_itself p) ∙ differs in cc)
          at_new false u false w last had = had

module _ (session : Session) (list : List Record) (r : Registry) (version : ℕ → ℕ) (t : IsTold session list r version) where
  -- a name that stays where it is
  still_named : (old new : List ℕ) (f : ℕ) → finite_map.get r.names old ≡ Some f → old ≡ new → IsTold session list (record r { names = finite_map.insert (finite_map.remove r.names old) new f }) version
  still_named old new f at same = record {
    known = t.known;
    bound = t.bound;
    ceiling = t.ceiling;
    counts = t.counts;
    names = λ o q is some.
        got_insert (finite_map.remove r.names old) new q f ∙ ap (λ o. cond (bytes_eq q new) (Some f) o) (got_remove r.names old q)
        ∙ at_new o q (bytes_eq q new) refl (bytes_eq q old) refl (t.names o q is some);
    current = t.current;
  }
    where
      at_new : (p : ℕ) (q : List ℕ) (b : Bool) → bytes_eq q new ≡ b → (c : Bool) → bytes_eq q old ≡ c → finite_map.get r.names q ≡ Some p → cond b (Some f) (cond c None (finite_map.get r.names q)) ≡ Some p
      at_new p q true u c w had = sym at ∙ ap (λ m. finite_map.get r.names m) (same ∙ sym (texts_same q new u)) ∙ had
      at_new p q false u true w had = absurd (let z : true ≡ false = sym (ap (bytes_eq q) (sym same) ∙ w) ∙ u in cc)
      at_new p q false u false w had = had

  pub move_step : (old new : List ℕ) (f : ℕ) → finite_map.get r.names old ≡ Some f → ((name : List ℕ) (file : ℕ) → finite_map.get r.names name ≡ Some file → Exists r file kind.File)
      → Stepped session list (record r { names = renamed r.names old new }) version (move_records r.names old new)
  move_step old new f at files =
      subst (λ o. Stepped session list (record r { names = option_map_or (λ file. finite_map.insert (finite_map.remove r.names old) new file) o r.names }) version (move_records r.names old new)) (sym at)
      (at_same (bytes_eq old new) refl)
    where
      named : file_named r.names old ≡ f
      named = ap (λ o. option_map_or (λ file. file) o 0) at

      to_other : (o : Option ℕ) → finite_map.get r.names new ≡ o → Stepped session list (record r { names = finite_map.insert (finite_map.remove r.names old) new f }) version (option_map_or (λ file. log.Name file [] ∷ []) o [] ++ log.Name f new ∷ [])
      to_other None none =
          take_name session list r version t old new f at (files old f at) (λ p got last some. let z : None ≡ Some p = sym none ∙ got in cc)
      to_other (Some g) got_g =
          let x : Record = log.Name g [] in
          let t1 : IsTold session (list ++ x ∷ []) r version = name_told session list r r version g [] t refl refl (λ p q is some. lost p q some (g == p) refl (sym (name_more list x p) ∙ is)) in
          stepped-append session list r (record r { names = finite_map.insert (finite_map.remove r.names old) new f }) version version (x ∷ []) (log.Name f new ∷ [])
          (fine_one list x (name_fine session list r version g [] t (files new g got_g) (λ p got last some. absurd (omega (arith, some)))), t1)
          (take_name session (list ++ x ∷ []) r version t1 old new f at (files old f at)
          (λ p got last some.
          let same : g ≡ p = some_is g p (sym got_g ∙ got) in
          let empty : last_name_of (list ++ x ∷ []) p ≡ [] = name_more list x p ∙ ap (λ b. if b then [] else last_name_of list p) (ap (λ m. g == m) (sym same) ∙ same_itself g) in
          let z : length new ≡ 0 = ap length (sym last ∙ empty) in omega (arith, z, some)))
        where
          lost : (p : ℕ) (q : List ℕ) → 1 ≤ length q → (b : Bool) → (g == p) ≡ b → name_look p (last_name_of list p) (log.Name g []) ≡ q → finite_map.get r.names q ≡ Some p
          lost p q some true same is = absurd (let z : length q ≡ 0 = ap length (sym (sym (ap (λ b. if b then [] else last_name_of list p) same) ∙ is)) in omega (arith, z, some))
          lost p q some false differs is = t.names p q (sym (ap (λ b. if b then [] else last_name_of list p) differs) ∙ is) some

      at_same : (b : Bool) → bytes_eq old new ≡ b
          → Stepped session list (record r { names = finite_map.insert (finite_map.remove r.names old) new f }) version (if b then [] else lost_name r.names new ++ log.Name (file_named r.names old) new ∷ [])
      at_same true same = nothing_stepped session list (record r { names = finite_map.insert (finite_map.remove r.names old) new f }) version (still_named old new f at (texts_same old new same))
      at_same false differs =
          subst (λ n. Stepped session list (record r { names = finite_map.insert (finite_map.remove r.names old) new f }) version (lost_name r.names new ++ log.Name n new ∷ [])) (sym named)
          (to_other (finite_map.get r.names new) refl)

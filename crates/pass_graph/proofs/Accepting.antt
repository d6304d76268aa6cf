-- Records that may stand after a list, and what they make of what the list says of its objects.
use Rattle.std.proofs.Common.{ℕ, ◌≡◌, ◌≤◌, ◌<◌, ◌+◌, ◌*◌, ◌==◌, Bool, true, false, not, ◌||◌, ◌&&◌, inl, inr, refl, sym, ap, ◌∙◌, List, [], ◌∷◌, ◌++◌, length, arith, cond}
use Rattle.std.specs.Prelude.{Option, Some, None, is_some, nat_lt, nat_le, count_by, bytes_eq, slice_get, if◌then◌else◌}
use Rattle.std.specs.Option.{option_map_or}
use Rattle.std.specs.List.{list_any}
use Rattle.std.specs.FinMap as finite_map
use Rattle.std.proofs.lemmas.List.Sums.{fold-append, sum_by_push}
use Rattle.std.proofs.lemmas.Slice.Eq.{bytes_eq-Decides}
use Rattle.std.proofs.lemmas.Bool.Decides.{nat_tests}
use Rattle.pass_entry.specs.declared.objects.Node.{Node}
use Rattle.pass_entry.specs.declared.objects.Kind.{Kind}
use Rattle.pass_entry.specs.declared.objects.Kind.TheVariants as kind
use Rattle.pass_entry.specs.declared.record.Record.{Record}
use Rattle.pass_entry.specs.declared.record.Record.TheVariants as log
use Rattle.pass_entry.specs.declared.record.FlawReason.{FlawReason}
use Rattle.pass_plain.specs.Sessions.{Session}
use Rattle.pass_plain.specs.Registries.{Registry, Exists, same_kind, is_limited, count_of_kind, with_object, next_pnode, is_full}
use Rattle.pass_plain.specs.Versions.{same_node}
use Rattle.pass_plain.specs.WellLogged.{kind_look, kind_of, version_look, current_of, size_look, size_of, name_look, last_name_of, ceiling_look, ceiling_of, has_kind, names_other, has_source, is_input, is_known, is_file_of, flaw_if, flaw_of}
use Rattle.pass_plain.proofs.Lists.{or_false, same_numbers, same_itself, any_at, true_left, true_right, not_true}
pub use Rattle.pass_plain.proofs.Flaws.{AreFine, fine_cons, fine_one, fine-append}
use Rattle.pass_plain.proofs.Appends.{place_of}

unflawed : (b : Bool) (reason : FlawReason) (next : Option FlawReason) → b ≡ false → next ≡ None → flaw_if b reason next ≡ None
unflawed b reason next h rest = ap (λ b. if b then Some reason else next) h ∙ rest

pub none_any : {X : Type 0} (p : X → Bool) (xs : List X) → ((i : ℕ) (x : X) → slice_get xs i ≡ Some x → p x ≡ true → ⊥) → list_any p xs ≡ false
none_any p xs never = by_any (list_any p xs) refl
  where
    by_any : (b : Bool) → list_any p xs ≡ b → list_any p xs ≡ false
    by_any false t = t
    by_any true t = let (i, x, at, is) = any_at p xs t in absurd (never i x at is)

-- what a list says of its objects, by the registry and the versions of a history
pub record IsTold (session : Session) (list : List Record) (r : Registry) (version : ℕ → ℕ) : Type 0 where
  pub known : (o : ℕ) (k : Kind) → Exists r o k → kind_of list o ≡ Some k
  pub bound : (o : ℕ) → is_known list o ≡ true → o ≤ session.start.ceiling + r.made
  pub ceiling : ceiling_of list ≡ session.start.ceiling + session.objects
  pub counts : (k : Kind) → is_limited k ≡ true → count_by (has_kind k) list ≤ count_of_kind k r
  pub names : (o : ℕ) (name : List ℕ) → last_name_of list o ≡ name → 1 ≤ length name → finite_map.get r.names name ≡ Some o
  pub current : (o : ℕ) → current_of list o ≡ version o

-- what one more record makes of them
module _ (list : List Record) (x : Record) where
  abbrev more : List Record
  more = list ++ x ∷ []

  pub kind_more : (o : ℕ) → kind_of more o ≡ kind_look o (kind_of list o) x
  kind_more o = fold-append (kind_look o) None list (x ∷ [])

  pub current_more : (o : ℕ) → current_of more o ≡ version_look o (current_of list o) x
  current_more o = fold-append (version_look o) 1 list (x ∷ [])

  pub size_more : (o : ℕ) → size_of more o ≡ size_look o (size_of list o) x
  size_more o = fold-append (size_look o) 0 list (x ∷ [])

  pub name_more : (o : ℕ) → last_name_of more o ≡ name_look o (last_name_of list o) x
  name_more o = fold-append (name_look o) [] list (x ∷ [])

  pub ceiling_more : ceiling_of more ≡ ceiling_look (ceiling_of list) x
  ceiling_more = fold-append ceiling_look 0 list (x ∷ [])

  pub count_more : (k : Kind) → count_by (has_kind k) more ≡ count_by (has_kind k) list + cond (has_kind k x) 1 0
  count_more k = sum_by_push (λ r. cond (has_kind k r) 1 0) list x

  -- a record that speaks of no kind, name or ceiling
  carried : (session : Session) (r : Registry) (version after : ℕ → ℕ) → IsTold session list r version → ((o : ℕ) → kind_look o (kind_of list o) x ≡ kind_of list o)
      → ((o : ℕ) → name_look o (last_name_of list o) x ≡ last_name_of list o) → ceiling_look (ceiling_of list) x ≡ ceiling_of list → ((k : Kind) → has_kind k x ≡ false)
      → ((o : ℕ) → version_look o (current_of list o) x ≡ after o) → IsTold session more r after
  carried session r version after t kinds names low counts currents = record {
    known = λ o k has. kind_more o ∙ kinds o ∙ t.known o k has;
    bound = λ o is. t.bound o (ap is_some (sym (kind_more o ∙ kinds o)) ∙ is);
    ceiling = ceiling_more ∙ low ∙ t.ceiling;
    counts = λ k limited. let a = count_more k in let b = t.counts k limited in let c : ◌≡◌ {A = ℕ} (cond (has_kind k x) 1 0) 0 = ap (λ b. cond {A = ℕ} b 1 0) (counts k) in omega (arith, a, b, c);
    names = λ o name is some. t.names o name (sym (name_more o ∙ names o) ∙ is) some;
    current = λ o. current_more o ∙ currents o;
  }

module _ (session : Session) (list : List Record) (r : Registry) (version : ℕ → ℕ) (t : IsTold session list r version) where
  pub attr_told : (node : Node) (attr value : List ℕ) → IsTold session (list ++ log.Attr node attr value ∷ []) r version
  attr_told node attr value = carried list (log.Attr node attr value) session r version version t (λ o. refl) (λ o. refl) refl (λ k. refl) t.current

  pub input_told : (target source : Node) → IsTold session (list ++ log.Input target source ∷ []) r version
  input_told target source = carried list (log.Input target source) session r version version t (λ o. refl) (λ o. refl) refl (λ k. refl) t.current

  pub size_told : (pnode size : ℕ) → IsTold session (list ++ log.Size pnode size ∷ []) r version
  size_told pnode size = carried list (log.Size pnode size) session r version version t (λ o. refl) (λ o. refl) refl (λ k. refl) t.current

  pub digest_told : (pnode block : ℕ) (sum : _) → IsTold session (list ++ log.Digest pnode block sum ∷ []) r version
  digest_told pnode block sum = carried list (log.Digest pnode block sum) session r version version t (λ o. refl) (λ o. refl) refl (λ k. refl) t.current

  -- a new version of an object
  pub version_told : (n : Node) (after : ℕ → ℕ) → ((o : ℕ) → (if n.pnode == o then n.version else version o) ≡ after o) → IsTold session (list ++ log.Version n ∷ []) r after
  version_told n after is =
      carried list (log.Version n) session r version after t (λ o. refl) (λ o. refl) refl (λ k. refl)
      (λ o. ap (λ v. if n.pnode == o then n.version else v) (t.current o) ∙ is o)

  pub known_is : (o : ℕ) (k : Kind) → Exists r o k → is_known list o ≡ true
  known_is o k has = ap is_some (t.known o k has)

  pub file_is : (o : ℕ) → Exists r o kind.File → is_file_of list o ≡ true
  file_is o has = ap (λ x. option_map_or (λ k. same_kind k kind.File) x false) (t.known o kind.File has)

  pub attr_fine : (node : Node) (attr value : List ℕ) (k : Kind) → Exists r node.pnode k → node.version ≡ version node.pnode → flaw_of list (log.Attr node attr value) ≡ None
  attr_fine node attr value k has level =
      unflawed _ _ _ (ap not (known_is node.pnode k has))
      (unflawed _ _ _ (ap (λ v. not (node.version == v)) (t.current node.pnode ∙ sym level) ∙ ap not (same_itself node.version)) refl)

  pub version_fine : (n : Node) (k : Kind) → Exists r n.pnode k → n.version ≡ version n.pnode + 1 → flaw_of list (log.Version n) ≡ None
  version_fine n k has level =
      unflawed _ _ _ (ap not (known_is n.pnode k has))
      (unflawed _ _ _ (ap (λ v. not (n.version == v + 1)) (t.current n.pnode) ∙ ap (λ v. not (n.version == v)) (sym level) ∙ ap not (same_itself n.version)) refl)

  pub size_fine : (o size : ℕ) → Exists r o kind.File → flaw_of list (log.Size o size) ≡ None
  size_fine o size has = unflawed _ _ _ (ap not (known_is o kind.File has)) (unflawed _ _ _ (ap not (file_is o has)) refl)

  pub digest_fine : (o block : ℕ) (sum : _) → Exists r o kind.File → block * 4096 < size_of list o → flaw_of list (log.Digest o block sum) ≡ None
  digest_fine o block sum has short =
      unflawed _ _ _ (ap not (known_is o kind.File has)) (unflawed _ _ _ (ap not (file_is o has)) (unflawed _ _ _ (let z : nat_le (size_of list o) (block * 4096) ≡ false = below (size_of list o) (block * 4096) short in z) refl))
    where
      below : (a b : ℕ) → b < a → nat_le a b ≡ false
      below a b lt = grind (arith, nat_tests)

  pub input_fine : (target source : Node) (j k : Kind) → Exists r target.pnode j → Exists r source.pnode k → source.version ≤ version source.pnode → target.version ≡ version target.pnode
      → list_any (has_source target) list ≡ false → same_node target source ≡ false → list_any (is_input target source) list ≡ false → flaw_of list (log.Input target source) ≡ None
  input_fine target source j k has_target has_source_too low level free apart once =
      unflawed _ _ _ (ap not (known_is target.pnode j has_target))
      (unflawed _ _ _ (ap (λ b. not b || nat_lt (current_of list source.pnode) source.version) (known_is source.pnode k has_source_too) ∙ (let z = t.current source.pnode in within (current_of list source.pnode) source.version (omega (arith, z, low))))
      (unflawed _ _ _ (ap (λ v. not (target.version == v)) (t.current target.pnode ∙ sym level) ∙ ap not (same_itself target.version))
      (unflawed _ _ _ (ap (λ b. b || same_node target source) free ∙ apart)
      (unflawed _ _ _ once refl))))
    where
      within : (a b : ℕ) → b ≤ a → nat_lt a b ≡ false
      within a b le = grind (arith, nat_tests)

  -- a new object
  pub object_fine : (k : Kind) → is_full session r k ≡ false → flaw_of list (log.Object (next_pnode session r) k) ≡ None
  object_fine k room =
      let (few, fewer) = or_false (nat_le session.objects r.made) _ room in
      unflawed _ _ _ unknown
      (unflawed _ _ _ (let z = t.ceiling in within (ceiling_of list) (next_pnode session r) (let y = above session.objects r.made few in omega (arith, z, y)))
      (unflawed _ _ _ (limit (is_limited k) refl fewer) refl))
    where
      unknown : is_known list (next_pnode session r) ≡ false
      unknown = by_known (is_known list (next_pnode session r)) refl
        where
          by_known : (b : Bool) → is_known list (next_pnode session r) ≡ b → is_known list (next_pnode session r) ≡ false
          by_known false is = is
          by_known true is = absurd (let z = t.bound (next_pnode session r) is in omega (arith, z))

      within : (a b : ℕ) → b ≤ a → nat_lt a b ≡ false
      within a b le = grind (arith, nat_tests)

      above : (a b : ℕ) → nat_le a b ≡ false → b < a
      above a b h = grind (arith, nat_tests)

      below : (a b : ℕ) → b < a → nat_le a b ≡ false
      below a b lt = grind (arith, nat_tests)

      limit : (b : Bool) → is_limited k ≡ b → is_limited k && nat_le 1024 (count_of_kind k r) ≡ false → is_limited k && nat_le 1024 (count_by (has_kind k) list) ≡ false
      limit false is fewer = ap (λ b. b && nat_le 1024 (count_by (has_kind k) list)) is
      limit true is fewer =
          let some : nat_le 1024 (count_of_kind k r) ≡ false = sym (ap (λ b. b && nat_le 1024 (count_of_kind k r)) is) ∙ fewer in
          let low = above 1024 (count_of_kind k r) some in
          let most = t.counts k is in
          ap (λ b. b && nat_le 1024 (count_by (has_kind k) list)) is ∙ below 1024 (count_by (has_kind k) list) (omega (arith, low, most))

  pub object_told : (k : Kind) → IsTold session (list ++ log.Object (next_pnode session r) k ∷ []) (with_object r (next_pnode session r) k) version
  object_told k =
      let n : ℕ = next_pnode session r in
      let x : Record = log.Object n k in
      record {
        known = λ o j has. elim (place_of r.objects (n, k) has.0 (o, j) has.1) [
          | inl l ↦ kind_more list x o ∙ ap (λ b. if b then Some k else kind_of list o) (other o (let z = t.bound o (ap is_some (t.known o j (has.0, l.0))) in z)) ∙ t.known o j (has.0, l.0)
          | inr q ↦
              let same : n ≡ o = ap (λ (s : ℕ × Kind). s.0) q.1 in
              let alike : k ≡ j = ap (λ (s : ℕ × Kind). s.1) q.1 in
              kind_more list x o ∙ ap (λ b. if b then Some k else kind_of list o) (ap (λ m. n == m) (sym same) ∙ same_itself n) ∙ ap (λ k. Some k) alike
        ];
        bound = λ o is. at_object o (n == o) refl is;
        ceiling = ceiling_more list x ∙ t.ceiling;
        counts = λ j limited. let a = count_more list x j in let b = t.counts j limited in let c = sum_by_push (λ (o : ℕ × Kind). cond (same_kind o.1 j) 1 0) r.objects (n, k) in omega (arith, a, b, c);
        names = λ o name is some. t.names o name (sym (name_more list x o) ∙ is) some;
        current = λ o. current_more list x o ∙ t.current o;
      }
    where
      other : (o : ℕ) → o ≤ session.start.ceiling + r.made → (next_pnode session r == o) ≡ false
      other o le = let z : o < next_pnode session r = omega (arith, le) in apart (next_pnode session r) o z
        where
          apart : (a b : ℕ) → b < a → (a == b) ≡ false
          apart a b lt = grind (arith, nat_tests)

      at_object : (o : ℕ) (b : Bool) → (next_pnode session r == o) ≡ b → is_known (list ++ log.Object (next_pnode session r) k ∷ []) o ≡ true → o ≤ session.start.ceiling + (r.made + 1)
      at_object o true same is = let z : next_pnode session r ≡ o = same_numbers _ _ same in omega (arith, z)
      at_object o false differs is =
          let z = t.bound o (sym (ap is_some (kind_more list (log.Object (next_pnode session r) k) o ∙ ap (λ b. if b then Some k else kind_of list o) differs)) ∙ is) in omega (arith, z)

-- names

pub texts_same : (a b : List ℕ) → bytes_eq a b ≡ true → a ≡ b
texts_same a b h = (bytes_eq-Decides a b).0 h

-- a name that no other file has
pub name_fine : (session : Session) (list : List Record) (r : Registry) (version : ℕ → ℕ) (o : ℕ) (name : List ℕ) → IsTold session list r version → Exists r o kind.File
    → ((p : ℕ) → finite_map.get r.names name ≡ Some p → last_name_of list p ≡ name → 1 ≤ length name → p ≡ o) → flaw_of list (log.Name o name) ≡ None
name_fine session list r version o name t has alone =
    unflawed _ _ _ (ap not (known_is session list r version t o kind.File has)) (unflawed _ _ _ (ap not (file_is session list r version t o has)) (unflawed _ _ _ (at_length (nat_lt 0 (length name)) refl) refl))
  where
    some_byte : (n : ℕ) → nat_lt 0 n ≡ true → 1 ≤ n
    some_byte n h = grind (arith, nat_tests)

    no_other : 1 ≤ length name → (x : Record) → names_other list o name x ≡ true → ⊥
    no_other some (log.Name p q) is =
        let last : last_name_of list p ≡ name = texts_same (last_name_of list p) name (true_right (not (p == o)) _ is) in
        let same : p ≡ o = alone p (t.names p name last some) last some in
        let z : true ≡ false = sym (ap (λ m. m == o) same ∙ same_itself o) ∙ not_true _ (true_left (not (p == o)) _ is) in
        cc
    no_other some _ is = cc

    at_length : (b : Bool) → nat_lt 0 (length name) ≡ b → nat_lt 0 (length name) && list_any (names_other list o name) list ≡ false
    at_length false is = ap (λ b. b && list_any (names_other list o name) list) is
    at_length true is =
        ap (λ b. nat_lt 0 (length name) && b) (none_any (names_other list o name) list (λ i x at passes. no_other (some_byte (length name) is) x passes)) ∙ nothing (nat_lt 0 (length name))
      where
        nothing : (b : Bool) → b && false ≡ false
        nothing true = refl
        nothing false = refl

-- the file of a name has it
pub name_told : (session : Session) (list : List Record) (r s : Registry) (version : ℕ → ℕ) (o : ℕ) (name : List ℕ) → IsTold session list r version
    → r.objects ≡ s.objects → r.made ≡ s.made
    → ((p : ℕ) (q : List ℕ) → last_name_of (list ++ log.Name o name ∷ []) p ≡ q → 1 ≤ length q → finite_map.get s.names q ≡ Some p) → IsTold session (list ++ log.Name o name ∷ []) s version
name_told session list r s version o name t objects made names =
    let x : Record = log.Name o name in
    record {
      known = λ p k has. kind_more list x p ∙ t.known p k (has.0, ap (λ xs. slice_get xs has.0) objects ∙ has.1);
      bound = λ p is. let z = t.bound p (ap is_some (sym (kind_more list x p)) ∙ is) in omega (arith, z, made);
      ceiling = ceiling_more list x ∙ t.ceiling;
      counts = λ k limited. let a = count_more list x k in let b = t.counts k limited in let c = ap (λ (xs : List (ℕ × Kind)). count_by (λ (o : ℕ × Kind). same_kind o.1 k) xs) objects in omega (arith, a, b, c);
      names = names;
      current = λ p. current_more list x p ∙ t.current p;
    }

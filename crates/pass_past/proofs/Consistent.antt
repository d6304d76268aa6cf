-- The versions of a session agree: of a file they rise, and a version that is listed twice has one content.
use Rattle.std.proofs.Common.{◌≡◌, ◌⊎◌, ℕ, zero, suc, ◌<◌, ◌≤◌, ◌==◌, Bool, true, false, ◌&&◌, ◌||◌, List, [], ◌∷◌, ◌++◌, map, inl, inr, ⊎_elim, refl, sym, ◌∙◌, ap, subst, arith}
use Rattle.std.specs.Prelude.{Option, Some, find, is_some, slice_get, option_map, flat_map, if◌then◌else◌}
use Rattle.std.specs.Option.{option_map_or}
use Rattle.std.proofs.lemmas.Option.{slice_get-map}
use Rattle.pass_entry.specs.declared.entry.Entry.{Entry}
use Rattle.pass_entry.specs.declared.objects.Kind.{Kind}
use Rattle.pass_entry.specs.declared.objects.Kind.TheVariants as kind
use Rattle.pass_entry.specs.declared.objects.Node.{Node}
use Rattle.pass_plain.specs.declared.start.StartFile.{StartFile}
use Rattle.pass_plain.specs.Sessions.{Session, opened_file as opened_file_of, opened_app, is_opened, opening_version, opening_bytes}
use Rattle.pass_plain.specs.Registries.{opening_registry, registry_after}
use Rattle.pass_plain.specs.Sound.{IsSound}
use Rattle.pass_plain.specs.Legal.{IsLegal, MayFollow}
use Rattle.pass_plain.specs.Versions.{nodes_of, is_freeze, version_after}
use Rattle.pass_plain.proofs.Lists.{same_itself, different, true_right}
use Rattle.pass_plain.proofs.Appends.{slice_get-append}
use Rattle.pass_plain.proofs.Calling.{legal_induction}
use Rattle.pass_leaf.specs.Keeping.{FileVersion}
use Rattle.pass_leaf.specs.Laws.{IsAmong, AreConsistent}
use Rattle.pass_past.specs.Pasts.{version_of, opened_file, opened_versions, is_file_in, ended_by, ended_versions, file_number, file_numbers, current_versions, versions_of}
use Rattle.pass_past.proofs.AsOpened.{rises, ended_rises, opening_least, as_opened}
use Rattle.pass_past.proofs.Numbers.{IsIn, AreApart, apart_fold}
use Rattle.pass_past.proofs.Goings.{ended_next}

-- what two versions say of one file
pub record Agree (a b : FileVersion) : Type 0 where
  pub rise : a.node.pnode ≡ b.node.pnode → a.node.version ≤ b.node.version
  pub same : a.node ≡ b.node → a.bytes ≡ b.bytes

consistent_one : (v : FileVersion) (versions : List FileVersion) → ((b : FileVersion) → IsAmong b versions → Agree v b) → AreConsistent versions → AreConsistent (v ∷ versions)
consistent_one v versions agree rest = (λ b here. (agree b here).rise, λ b here. (agree b here).same, rest)

pub among_split : (xs ys : List FileVersion) (v : FileVersion) → IsAmong v (xs ++ ys) → IsAmong v xs ⊎ IsAmong v ys
among_split [] ys v here = inr here
among_split (x ∷ xs) ys v (inl is) = inl (inl is)
among_split (x ∷ xs) ys v (inr rest) = ⊎_elim (λ l. inl (inr l)) (λ r. inr r) (among_split xs ys v rest)

consistent_join : (xs ys : List FileVersion) → AreConsistent xs → AreConsistent ys → ((a b : FileVersion) → IsAmong a xs → IsAmong b ys → Agree a b) → AreConsistent (xs ++ ys)
consistent_join [] ys c d agree = d
consistent_join (x ∷ xs) ys c d agree =
    consistent_one x (xs ++ ys)
    (λ b here. ⊎_elim (λ l. record { rise = c.0 b l; same = c.1 b l }) (λ r. agree x b (inl refl) r) (among_split xs ys b here))
    (consistent_join xs ys c.2 d (λ a b l r. agree a b (inr l) r))

-- the versions with which a session opens

abbrev Single : List StartFile → Type 0
Single files = (i j : ℕ) (f g : StartFile) → slice_get files i ≡ Some f → slice_get files j ≡ Some g → f.node.pnode ≡ g.node.pnode → i ≡ j

single_rest : (f : StartFile) (files : List StartFile) → Single (f ∷ files) → Single files
single_rest f files single i j a b at_a at_b same = let z = single (suc i) (suc j) a b at_a at_b same in omega (arith, z)

record IsOpenedAs (files : List StartFile) (v : FileVersion) : Type 0 where
  at : ℕ
  file : StartFile
  stands : slice_get files at ≡ Some file
  is : opened_file file ≡ v

opened_among : (files : List StartFile) (v : FileVersion) → IsAmong v (map opened_file files) → IsOpenedAs files v
opened_among [] v none = absurd none
opened_among (f ∷ files) v (inl is) = record { at = 0; file = f; stands = refl; is = is }
opened_among (f ∷ files) v (inr rest) = let o = opened_among files v rest in record { at = suc o.at; file = o.file; stands = o.stands; is = o.is }

opened_consistent : (files : List StartFile) → Single files → AreConsistent (map opened_file files)
opened_consistent [] single = tt
opened_consistent (f ∷ files) single = consistent_one (opened_file f) (map opened_file files) (λ b here.
    let o = opened_among files b here in
    let apart : f.node.pnode ≡ b.node.pnode → ⊥ = λ same. (let z = single 0 (suc o.at) f o.file refl o.stands (same ∙ sym (ap (λ (v : FileVersion). v.node.pnode) o.is)) in omega (arith, z)) in
    record { rise = λ same. absurd (apart same); same = λ same. absurd (apart (ap (λ (n : Node). n.pnode) same)) }) (opened_consistent files (single_rest f files single))

-- a file of the opening is found by its number
found_file : (files : List StartFile) → Single files → (i : ℕ) (f : StartFile) → slice_get files i ≡ Some f → find (λ (g : StartFile). g.node.pnode == f.node.pnode) files ≡ Some f
found_file [] single i f is = absurd (cc is)
found_file (g ∷ files) single zero f is =
    let same : g ≡ f = some_inside g f is in
    ap (λ (b : Bool). if b then Some g else find (λ (h : StartFile). h.node.pnode == f.node.pnode) files) (ap (λ (x : StartFile). g.node.pnode == x.node.pnode) (sym same) ∙ same_itself g.node.pnode) ∙ is
  where
    some_inside : (a b : StartFile) → ◌≡◌ {A = Option StartFile} (Some a) (Some b) → a ≡ b
    some_inside a b e = cc e
found_file (g ∷ files) single (suc i) f is =
    let other : g.node.pnode ≡ f.node.pnode → ⊥ = λ same. (let z = single 0 (suc i) g f refl is same in omega (arith, z)) in
    ap (λ (b : Bool). if b then Some g else find (λ (h : StartFile). h.node.pnode == f.node.pnode) files) (different g.node.pnode f.node.pnode other)
    ∙ found_file files (single_rest g files single) i f is

-- what is known of each version that the entries end
record IsEnded (session : Session) (history : List Entry) (v : FileVersion) : Type 0 where
  over : v.node.version < version_after session history v.node.pnode
  least : opening_version session.start v.node.pnode ≤ v.node.version
  opened : is_opened session.start v.node.pnode ≡ true → v.node.version ≡ opening_version session.start v.node.pnode → v.bytes ≡ opening_bytes session.start v.node.pnode

-- of each that a file has
record IsHad (session : Session) (v : FileVersion) : Type 0 where
  least : opening_version session.start v.node.pnode ≤ v.node.version
  opened : is_opened session.start v.node.pnode ≡ true → v.node.version ≡ opening_version session.start v.node.pnode → v.bytes ≡ opening_bytes session.start v.node.pnode

had : (session : Session) (history : List Entry) → IsLegal session history → (file : ℕ) → IsHad session (version_of session history file)
had session history legal file = record {
  least = opening_least session file history legal;
  opened = λ opened same. (as_opened session file opened history legal same).bytes;
}

one_among : (v a : FileVersion) (b : Bool) → IsAmong v (if b then a ∷ [] else []) → (b ≡ true) × (a ≡ v)
one_among v a true (inl is) = (refl, is)
one_among v a true (inr none) = absurd none
one_among v a false none = absurd none

one_consistent : (a : FileVersion) (b : Bool) → AreConsistent (if b then a ∷ [] else [])
one_consistent a true = consistent_one a [] (λ v none. absurd none) tt
one_consistent a false = tt

record HasEnded (session : Session) (history : List Entry) : Type 0 where
  consistent : AreConsistent (ended_versions session history)
  each : (v : FileVersion) → IsAmong v (ended_versions session history) → IsEnded session history v

-- an ended version is below what its file has
before_now : (session : Session) (history : List Entry) (a : FileVersion) → IsEnded session history a → (file : ℕ) (b : FileVersion) → version_of session history file ≡ b → Agree a b
before_now session history a ended file b is =
    let at : file ≡ b.node.pnode = ap (λ (v : FileVersion). v.node.pnode) is in
    let version : version_after session history file ≡ b.node.version = ap (λ (v : FileVersion). v.node.version) is in
    let above : a.node.pnode ≡ b.node.pnode → a.node.version < b.node.version = λ same.
    (let z : version_after session history a.node.pnode ≡ version_after session history file = ap (version_after session history) (same ∙ sym at) in omega (arith, ended.over, z, version)) in
    record {
      rise = λ same. let z = above same in omega (arith, z);
      same = λ same. absurd (let z = above (ap (λ (n : Node). n.pnode) same) in let y = ap (λ (n : Node). n.version) same in omega (arith, z, y));
    }

module _ (session : Session) (history : List Entry) (e : Entry) (legal : IsLegal session history) (next : MayFollow session history e) (before : HasEnded session history) where
  abbrev freezes : Bool
  freezes = is_file_in (registry_after session history) e.what && is_freeze session history (nodes_of session history) e

  abbrev one : FileVersion
  one = version_of session history e.what

  goes_on : (v : FileVersion) → IsEnded session history v → IsEnded session (history ++ e ∷ []) v
  goes_on v ended = record { over = (let z = rises session history e legal next v.node.pnode in omega (arith, z, ended.over)); least = ended.least; opened = ended.opened }

  ends : (v : FileVersion) → freezes ≡ true → one ≡ v → IsEnded session (history ++ e ∷ []) v
  ends v freezing is =
      let h = had session history legal e.what in
      let over = ended_rises session history e (true_right (is_file_in (registry_after session history) e.what) (is_freeze session history (nodes_of session history) e) freezing) in
      let ended : IsEnded session (history ++ e ∷ []) one = record { over = omega (arith, over); least = h.least; opened = h.opened } in
      subst (IsEnded session (history ++ e ∷ [])) is ended

  ended_more : HasEnded session (history ++ e ∷ [])
  ended_more =
      let whole : ended_versions session (history ++ e ∷ []) ≡ ended_versions session history ++ ended_by session history e = ended_next session history e in
      record {
        consistent = subst AreConsistent (sym whole) (consistent_join (ended_versions session history) (ended_by session history e) before.consistent (one_consistent one freezes)
            (λ a b l r. before_now session history a (before.each a l) e.what b (one_among b one freezes r).1));
        each = λ v here.
            ⊎_elim (λ l. goes_on v (before.each v l)) (λ r. let o = one_among v one freezes r in ends v o.0 o.1)
            (among_split (ended_versions session history) (ended_by session history e) v (subst (IsAmong v) whole here));
      }

has_ended : (session : Session) (history : List Entry) → IsLegal session history → HasEnded session history
has_ended session = legal_induction session (HasEnded session) (record { consistent = tt; each = λ v none. absurd none }) (λ history e legal before next. ended_more session history e legal next before)

-- the versions at the end

record IsNow (f : ℕ → FileVersion) (ks : List ℕ) (v : FileVersion) : Type 0 where
  number : ℕ
  stands : IsIn number ks
  is : f number ≡ v

now_among : (f : ℕ → FileVersion) (ks : List ℕ) (v : FileVersion) → IsAmong v (map f ks) → IsNow f ks v
now_among f [] v none = absurd none
now_among f (k ∷ ks) v (inl is) = record { number = k; stands = inl refl; is = is }
now_among f (k ∷ ks) v (inr rest) = let o = now_among f ks v rest in record { number = o.number; stands = inr o.stands; is = o.is }

now_consistent : (f : ℕ → FileVersion) → ((n : ℕ) → (f n).node.pnode ≡ n) → (ks : List ℕ) → AreApart ks → AreConsistent (map f ks)
now_consistent f numbers [] apart = tt
now_consistent f numbers (k ∷ ks) apart = consistent_one (f k) (map f ks) (λ b here.
    let o = now_among f ks b here in
    let other : (f k).node.pnode ≡ b.node.pnode → ⊥ = λ same.
    (let z : k ≡ o.number = sym (numbers k) ∙ same ∙ sym (ap (λ (v : FileVersion). v.node.pnode) o.is) ∙ numbers o.number in let y = apart.0 o.number o.stands in omega (arith, z, y)) in
    record { rise = λ same. absurd (other same); same = λ same. absurd (other (ap (λ (n : Node). n.pnode) same)) }) (now_consistent f numbers ks apart.1)

-- all of them

module _ (session : Session) (sound : IsSound session) (history : List Entry) (legal : IsLegal session history) where
  abbrev files : List StartFile
  files = session.start.files.items

  abbrev of_file : StartFile → ℕ × Kind
  of_file f = (f.node.pnode, kind.File)

  abbrev of_app : Node → ℕ × Kind
  of_app n = (n.pnode, kind.App)

  registered : (i : ℕ) (f : StartFile) → slice_get files i ≡ Some f → slice_get (opening_registry session.start).objects i ≡ Some (f.node.pnode, kind.File)
  registered i f at =
      slice_get-append (map of_file files) (map of_app session.start.apps.items) i (of_file f) (slice_get-map of_file files i ∙ ap (λ (o : Option StartFile). option_map of_file o) at)

  single : Single files
  single i j f g at_f at_g same = sound.single i j (f.node.pnode, kind.File) (g.node.pnode, kind.File) (registered i f at_f) (registered j g at_g) same

  -- a version with which the session opened, and one that a file has later
  opened_agree : (a b : FileVersion) → IsAmong a (opened_versions session.start) → IsHad session b → Agree a b
  opened_agree a b here later =
      let o = opened_among files a here in
      let found : opened_file_of session.start o.file.node.pnode ≡ Some o.file = found_file files single o.at o.file o.stands in
      let known : is_opened session.start o.file.node.pnode ≡ true = ap (λ (f : Option StartFile). is_some f || is_some (opened_app session.start o.file.node.pnode)) found in
      let version : opening_version session.start o.file.node.pnode ≡ o.file.node.version =
      ap (λ (f : Option StartFile). option_map_or (λ (f : StartFile). f.node.version) f (option_map_or (λ (n : Node). n.version) (opened_app session.start o.file.node.pnode) 1)) found in
      let bytes : opening_bytes session.start o.file.node.pnode ≡ o.file.bytes.items = ap (λ (f : Option StartFile). option_map_or (λ (f : StartFile). f.bytes.items) f []) found in
      let agree : Agree (opened_file o.file) b = record {
        rise = λ same. (let z : opening_version session.start o.file.node.pnode ≡ opening_version session.start b.node.pnode = ap (opening_version session.start) same in let y = later.least in omega (arith, z, y, version));
        same = λ same.
            let at : o.file.node.pnode ≡ b.node.pnode = ap (λ (n : Node). n.pnode) same in
            sym bytes ∙ ap (opening_bytes session.start) at
            ∙ sym (later.opened (subst (λ (n : ℕ). is_opened session.start n ≡ true) at known) (sym (ap (λ (n : Node). n.version) same) ∙ sym version ∙ ap (opening_version session.start) at));
      } in
      subst (λ (v : FileVersion). Agree v b) o.is agree

  had_of : (v : FileVersion) → IsEnded session history v → IsHad session v
  had_of v ended = record { least = ended.least; opened = ended.opened }

  had_now : (v : FileVersion) → IsAmong v (current_versions session history) → IsHad session v
  had_now v here =
      let o = now_among (version_of session history) (file_numbers (registry_after session history).objects) v here in
      subst (IsHad session) o.is (had session history legal o.number)

  pub consistent : AreConsistent (versions_of session history)
  consistent =
      let e = has_ended session history legal in
      let now = now_consistent (version_of session history) (λ n. refl) (file_numbers (registry_after session history).objects) (apart_fold [] (flat_map file_number (registry_after session history).objects) tt) in
      let later = consistent_join (ended_versions session history) (current_versions session history) e.consistent now (λ a b l r.
      let o = now_among (version_of session history) (file_numbers (registry_after session history).objects) b r in
      before_now session history a (e.each a l) o.number b o.is) in
      consistent_join (opened_versions session.start) (ended_versions session history ++ current_versions session history) (opened_consistent files single) later
      (λ a b l r. opened_agree a b l (⊎_elim (λ x. had_of b (e.each b x)) (λ y. had_now b y) (among_split (ended_versions session history) (current_versions session history) b r)))

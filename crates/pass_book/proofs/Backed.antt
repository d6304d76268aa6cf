-- The vault's list as it grows, the entries that it backs and the files that it names.
use Rattle.std.proofs.Common.{◌≡◌, ℕ, ◌≤◌, Bool, true, false, cond, List, [], ◌∷◌, ◌++◌, length, take, Some, slice_get, refl, ap, sym, ◌∙◌, subst, inl, inr, arith, le_trans}
use Rattle.std.proofs.lemmas.List.{append-nil, take-append-le}
use Rattle.std.proofs.lemmas.Option.{slice_get_within}
use Rattle.std.proofs.lemmas.List.Elements.{filter-append}
use Rattle.std.specs.Prelude.{zero, suc, ◌==◌, ◌&&◌, not, filter, map}
use Rattle.std.specs.List.{list_any}
use Rattle.std.proofs.Common.{eq-eqb, append_assoc}
use Rattle.std.proofs.lemmas.List.{map-append}
use Rattle.pass_entry.specs.declared.objects.Kind.TheVariants as kind
use Rattle.pass_plain.specs.Histories.{is_fault, pnode_of}
use Rattle.pass_plain.specs.Registries.{same_kind}
use Rattle.pass_plain.proofs.TwoPrefixes.{none_later}
use Rattle.pass_plain.proofs.Lists.{some_is, or_false}
use Rattle.pass_book.proofs.Prefixes.{prefix_self}
use mathlib.Core.List.{IsPrefix}
use Rattle.pass_entry.specs.declared.entry.Entry.{Entry}
use Rattle.pass_entry.specs.declared.entry.Act.{Act}
use Rattle.pass_entry.specs.declared.entry.Act.TheVariants as act
use Rattle.pass_entry.specs.declared.entry.Reply.{Reply}
use Rattle.pass_entry.specs.declared.objects.Kind.{Kind}
use Rattle.pass_plain.specs.Sessions.{Session}
use Rattle.pass_plain.specs.Registries.{Registry, registry_act, registry_after}
use Rattle.pass_plain.specs.Lawful.{AgreeBy}
use Rattle.pass_plain.proofs.Appends.{place_of, take-front}
use Rattle.pass_plain.proofs.Making.{registry-append}
use Rattle.pass_book.specs.declared.view.FileMark.{FileMark}
use Rattle.pass_book.specs.declared.view.VaultSync.{VaultSync}
use Rattle.pass_book.specs.Numbers.{files_of, IsFileNumber}
use Rattle.pass_book.specs.Syncs.{durable_from, durable, called_from, rising_from, IsRising, HasSync, HasFileSync, Backs, IsBacked, AreNumbered}
use Rattle.pass_book.proofs.Prefixes.{prefix_trans, prefix_length, prefix_get}

durable_last_from : (k : ℕ) (ss : List VaultSync) (s : VaultSync) → durable_from k (ss ++ s ∷ []) ≡ s.entries
durable_last_from k [] s = refl
durable_last_from k (x ∷ xs) s = durable_last_from x.entries xs s

pub durable_last : (ss : List VaultSync) (s : VaultSync) → durable (ss ++ s ∷ []) ≡ s.entries
durable_last ss s = durable_last_from 0 ss s

rising_more_from : (c k : ℕ) (ss : List VaultSync) (s : VaultSync) → rising_from c k ss → called_from c ss ≤ s.calls → durable_from k ss ≤ s.entries → rising_from c k (ss ++ s ∷ [])
rising_more_from c k [] s r p q = (p, q, tt)
rising_more_from c k (x ∷ xs) s r p q = (r.0, r.1, rising_more_from x.calls x.entries xs s r.2 p q)

pub rising_more : (ss : List VaultSync) (s : VaultSync) → IsRising ss → called_from 0 ss ≤ s.calls → durable ss ≤ s.entries → IsRising (ss ++ s ∷ [])
rising_more ss s r p q = rising_more_from 0 0 ss s r p q

durable_grows : (c k : ℕ) (xs ys : List VaultSync) → rising_from c k (xs ++ ys) → durable_from k xs ≤ durable_from k (xs ++ ys)
durable_grows c k [] [] r = omega arith
durable_grows c k [] (y ∷ ys) r = let h = durable_grows y.calls y.entries [] ys r.2 in le_trans r.1 h
durable_grows c k (x ∷ xs) ys r = durable_grows x.calls x.entries xs ys r.2

-- a beginning of the list has no higher number at its end
pub durable_begins : (xs ss : List VaultSync) → IsPrefix xs ss → IsRising ss → durable xs ≤ durable ss
durable_begins xs ss p r = let P : List VaultSync → Type 0 = λ l. durable xs ≤ durable l in subst P p.1 (durable_grows 0 0 xs p.0 (subst IsRising (sym p.1) r))

durable_at_from : (c k : ℕ) (ss : List VaultSync) (i : ℕ) (s : VaultSync) → rising_from c k ss → slice_get ss i ≡ Some s → s.entries ≤ durable_from k ss
durable_at_from c k [] i s r at = absurd (cc)
durable_at_from c k (x ∷ xs) zero s r at = let is : x ≡ s = some_is x s at in subst (λ (y : VaultSync). y.entries ≤ durable_from x.entries xs) is (durable_grows x.calls x.entries [] xs r.2)
durable_at_from c k (x ∷ xs) (suc i) s r at = durable_at_from x.calls x.entries xs i s r.2 at

-- no sync of a list has more entries than its last one
pub durable_at : (ss : List VaultSync) (i : ℕ) (s : VaultSync) → IsRising ss → slice_get ss i ≡ Some s → s.entries ≤ durable ss
durable_at ss i s rising at = durable_at_from 0 0 ss i s rising at

rises_before : (c k : ℕ) (xs ys : List VaultSync) → rising_from c k (xs ++ ys) → rising_from c k xs
rises_before c k [] ys r = tt
rises_before c k (x ∷ xs) ys r = (r.0, r.1, rises_before x.calls x.entries xs ys r.2)

pub rising_begins : (xs ss : List VaultSync) → IsPrefix xs ss → IsRising ss → IsRising xs
rising_begins xs ss p r = rises_before 0 0 xs p.0 (subst IsRising (sym p.1) r)

-- Syncs between two places

sync_later : (p q r : ℕ) (xs ys : List VaultSync) → IsPrefix xs ys → q ≤ r → HasSync p q xs → HasSync p r ys
sync_later p q r xs ys pre le h = (h.0, h.1, prefix_get xs ys h.0 h.1 pre h.2, (h.3.0, h.3.1, le_trans h.3.2 le))

file_sync_later : (n p q r : ℕ) (xs ys : List VaultSync) → IsPrefix xs ys → q ≤ r → HasFileSync n p q xs → HasFileSync n p r ys
file_sync_later n p q r xs ys pre le h = (h.0, h.1, h.2, prefix_get xs ys h.0 h.1 pre h.3, h.4, h.5, (h.6.0, h.6.1, le_trans h.6.2 le))

backs_later : (session : Session) (seen : List Entry) (q r : ℕ) (xs ys : List VaultSync) (e : Entry) → IsPrefix xs ys → q ≤ r → Backs session seen q xs e → Backs session seen r ys e
backs_later session seen q r xs ys e pre le b = λ fd p k kept at who number keeps.
    let h = b fd p k kept at who number keeps in
    (sync_later p q r xs ys pre le h.0, (λ n is. file_sync_later n p q r xs ys pre le (h.1 n is)))

-- a longer list backs the same entries
pub still_backed : (session : Session) (h : List Entry) (xs ys : List VaultSync) → IsPrefix xs ys → IsBacked session h xs → IsBacked session h ys
still_backed session h xs ys pre b = λ q e at. backs_later session (take q h) q q xs ys e pre (omega arith) (b q e at)

pub backed_more : (session : Session) (h : List Entry) (e : Entry) (ss : List VaultSync) → IsBacked session h ss → Backs session h (length h) ss e → IsBacked session (h ++ e ∷ []) ss
backed_more session h e ss b new = λ q f at.
    elim (place_of h e q f at) [
      | inl l ↦ subst (λ (g : List Entry). Backs session g q ss f) (sym (take-append-le q h (e ∷ []) (omega (arith, l.1)))) (b q f l.0)
      | inr r ↦
          let whole : take q (h ++ e ∷ []) ≡ h = ap (λ n. take n (h ++ e ∷ [])) r.0 ∙ take-front h e in
          let P : List Entry → Type 0 = λ g. Backs session g q ss f in
          let Q : Entry → Type 0 = λ g. Backs session h q ss g in
          let R : ℕ → Type 0 = λ n. Backs session h n ss e in subst P (sym whole) (subst Q r.1 (subst R (sym r.0) new))
    ]

none_among : {X : Type 0} (P : X → Bool) (ys : List X) (i : ℕ) (x : X) → list_any P ys ≡ false → P x ≡ true → ¬ (slice_get ys i ≡ Some x)
none_among P [] i x off on at = absurd cc
none_among P (y ∷ ys) zero x off on at =
    let same : y ≡ x = cc in
    let hit : P y ≡ true = ap P same ∙ on in
    let miss : P y ≡ false = (or_false (P y) (list_any P ys) off).0 in absurd (let z : true ≡ false = sym hit ∙ miss in cc)
none_among P (y ∷ ys) (suc i) x off on at = none_among P ys i x (or_false (P y) (list_any P ys) off).1 on at

-- what the rest hasn't stands in the front
in_front : {X : Type 0} (P : X → Bool) (xs ys : List X) (i : ℕ) (x : X) → list_any P ys ≡ false → P x ≡ true → slice_get (xs ++ ys) i ≡ Some x → slice_get xs i ≡ Some x
in_front P [] ys i x off on at = absurd (none_among P ys i x off on at)
in_front P (y ∷ xs) ys zero x off on at = at
in_front P (y ∷ xs) ys (suc i) x off on at = in_front P xs ys i x off on at

-- what a caller has seen backs its entry in the whole history
pub backs_whole : (session : Session) (line h : List Entry) (xs ys : List VaultSync) (e : Entry) → IsPrefix line h → AgreeBy e.who line h → IsPrefix xs ys
    → Backs session line (length line) xs e → Backs session h (length h) ys e
backs_whole session line h xs ys e begins agrees listed b = λ fd p k kept at who number keeps.
    let later = begins.0 in
    let off = none_later (λ (f : Entry). f.who == e.who) line later h begins.1 agrees in
    let there : slice_get line p ≡ Some k = in_front (λ (f : Entry). f.who == e.who) line later p k off (eq-eqb k.who e.who who) (ap (λ (g : List Entry). slice_get g p) begins.1 ∙ at) in
    let below : p ≤ length line = let l = slice_get_within line p k there in omega (arith, l) in
    let same : take p h ≡ take p line = ap (take p) (sym begins.1) ∙ take-append-le p line later below in
    let found = b fd p k kept there who number keeps in
    let long = prefix_length line h begins in (
      sync_later p (length line) (length h) xs ys listed long found.0,
      (λ n is. file_sync_later n p (length line) (length h) xs ys listed long (found.1 n (subst (λ (g : List Entry). IsFileNumber session g k.what n) same is))),
    )

-- Numbers of files

files_begin : (xs ys : List (ℕ × Kind)) → IsPrefix xs ys → IsPrefix (files_of xs) (files_of ys)
files_begin xs ys pre =
    let is : files_of ys ≡ files_of xs ++ files_of pre.0 =
    ap files_of (sym pre.1) ∙ ap (map (λ (o : ℕ × Kind). o.0)) (filter-append (λ (o : ℕ × Kind). same_kind o.1 kind.File) xs pre.0)
    ∙ map-append (λ (o : ℕ × Kind). o.0) (filter (λ (o : ℕ × Kind). same_kind o.1 kind.File) xs) (filter (λ (o : ℕ × Kind). same_kind o.1 kind.File) pre.0) in
    (files_of pre.0, sym is)

act_adds : (r : Registry) (a : Act) (y : Reply) → IsPrefix r.objects (registry_act r a y).objects
act_adds r (act.Bind n) y = ((pnode_of y, kind.File) ∷ [], refl)
act_adds r (act.Mint k) y = ((pnode_of y, k) ∷ [], refl)
act_adds r _ y = prefix_self r.objects

step_adds : (r : Registry) (a : Act) (y : Reply) (b : Bool) → IsPrefix r.objects (cond b (registry_act r a y) r).objects
step_adds r a y true = act_adds r a y
step_adds r a y false = prefix_self r.objects

entry_adds : (session : Session) (h : List Entry) (e : Entry) → IsPrefix (registry_after session h).objects (registry_after session (h ++ e ∷ [])).objects
entry_adds session h e =
    let r = registry_after session h in
    subst (λ (s : Registry). IsPrefix r.objects s.objects) (sym (registry-append session h e)) (step_adds r e.act e.reply (e.what == 0 && not (is_fault e.reply)))

objects_grow : (session : Session) (h later : List Entry) → IsPrefix (registry_after session h).objects (registry_after session (h ++ later)).objects
objects_grow session h [] = subst (λ (g : List Entry). IsPrefix (registry_after session h).objects (registry_after session g).objects) (sym (append-nil h)) (prefix_self (registry_after session h).objects)
objects_grow session h (e ∷ later) =
    let rest = objects_grow session (h ++ e ∷ []) later in
    let whole = subst (λ (g : List Entry). IsPrefix (registry_after session (h ++ e ∷ [])).objects (registry_after session g).objects) (append_assoc h (e ∷ []) later) rest in
    prefix_trans (registry_after session h).objects (registry_after session (h ++ e ∷ [])).objects (registry_after session (h ++ e ∷ later)).objects (entry_adds session h e) whole

-- a file keeps its number
pub number_stays : (session : Session) (xs ys : List Entry) (file n : ℕ) → IsPrefix xs ys → IsFileNumber session xs file n → IsFileNumber session ys file n
number_stays session xs ys file n pre is =
    let grown = subst (λ (g : List Entry). IsPrefix (registry_after session xs).objects (registry_after session g).objects) pre.1 (objects_grow session xs pre.0) in
    prefix_get (files_of (registry_after session xs).objects) (files_of (registry_after session ys).objects) n file (files_begin (registry_after session xs).objects (registry_after session ys).objects grown) is

pub numbered_longer : (session : Session) (xs ys : List Entry) (ss : List VaultSync) → IsPrefix xs ys → AreNumbered session xs ss → AreNumbered session ys ss
numbered_longer session xs ys ss pre all = λ i s f at file. number_stays session xs ys f.pnode f.number pre (all i s f at file)

pub numbered_more : (session : Session) (h : List Entry) (ss : List VaultSync) (y : VaultSync) → AreNumbered session h ss → ((f : FileMark) → y.file ≡ Some f → IsFileNumber session h f.pnode f.number) → AreNumbered session h (ss ++ y ∷ [])
numbered_more session h ss y all new = λ i s f at file.
    elim (place_of ss y i s at) [ inl l ↦ all i s f l.0 file | inr r ↦ new f (ap (λ (z : VaultSync). z.file) r.1 ∙ file) ]

pub none_numbered : (session : Session) (h : List Entry) (ss : List VaultSync) → ss ≡ [] → AreNumbered session h ss
none_numbered session h ss none = λ i s f at file. absurd (let z : slice_get [] i ≡ Some s = ap (λ (xs : List VaultSync). slice_get xs i) (sym none) ∙ at in cc)

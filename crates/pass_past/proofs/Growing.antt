-- The numbers of the files as objects are made.
use Rattle.std.proofs.Common.{◌≡◌, ◌⊎◌, ℕ, ◌<◌, ◌==◌, Bool, true, false, not, ◌&&◌, ◌||◌, List, [], ◌∷◌, ◌++◌, length, drop, inl, inr, refl, sym, ◌∙◌, ap, subst, arith}
use Rattle.std.specs.Prelude.{fold, flat_map, if◌then◌else◌}
use Rattle.std.specs.List.{list_any}
use Rattle.std.specs.Ordering.{is_eq, nat_cmp}
use Rattle.std.specs.Cmp.{nat_cmp_is}
use Rattle.std.specs.declared.cmp.Ordering.TheVariants.{Less, Equal, Greater}
use Rattle.std.specs.BTreeSet.{insert_key, BTreeSet, contains}
use Rattle.std.proofs.lemmas.List.{append-nil, drop_at}
use Rattle.std.proofs.lemmas.List.Concat.{flat_map-append}
use Rattle.std.proofs.lemmas.List.Folds.{list_any-append}
use Rattle.std.proofs.lemmas.List.Sums.{fold-append}
use Rattle.pass_entry.specs.declared.entry.Entry.{Entry}
use Rattle.pass_entry.specs.declared.entry.Act.{Act}
use Rattle.pass_entry.specs.declared.entry.Act.TheVariants as act
use Rattle.pass_entry.specs.declared.entry.Reply.{Reply}
use Rattle.pass_entry.specs.declared.objects.Kind.{Kind}
use Rattle.pass_entry.specs.declared.objects.Kind.TheVariants as kind
use Rattle.pass_plain.specs.Histories.{is_fault, pnode_of}
use Rattle.pass_plain.specs.Sessions.{Session}
use Rattle.pass_plain.specs.Registries.{Registry, registry_act, registry_after, opening_registry, same_kind}
use Rattle.pass_plain.proofs.Lists.{or_none, and_none, and_true, below_or, different, alike}
use Rattle.pass_plain.proofs.Replays.{state_after-append}
use Rattle.pass_past.specs.Pasts.{is_that_file, file_number, file_numbers}
use Rattle.pass_past.proofs.Numbers.{any-fold}

-- some objects stand behind others
abbrev pub More : List (ℕ × Kind) → List (ℕ × Kind) → Type 0
More old new = (more : List (ℕ × Kind)) × (new ≡ old ++ more)

act_objects : (r : Registry) (a : Act) (reply : Reply) → More r.objects (registry_act r a reply).objects
act_objects r (act.Bind name) reply = ((pnode_of reply, kind.File) ∷ [], refl)
act_objects r (act.Mint k) reply = ((pnode_of reply, k) ∷ [], refl)
act_objects r (act.Move from to) reply = ([], sym (append-nil r.objects))
act_objects r (act.Unbind name) reply = ([], sym (append-nil r.objects))
act_objects r _ reply = ([], sym (append-nil r.objects))

pub objects_more : (session : Session) (past : List Entry) (e : Entry) → More (registry_after session past).objects (registry_after session (past ++ e ∷ [])).objects
objects_more session past e =
    let r = registry_after session past in
    subst (λ (n : Registry). More r.objects n.objects) (sym (state_after-append (λ past r e. registry_act r e.act e.reply) 0 (opening_registry session.start) past e))
    (at_own (e.what == 0 && not (is_fault e.reply)) r)
  where
    at_own : (b : Bool) (r : Registry) → More r.objects (if b then registry_act r e.act e.reply else r).objects
    at_own true r = act_objects r e.act e.reply
    at_own false r = ([], sym (append-nil r.objects))

-- the files of more objects are put behind
pub more_files : (old new : List (ℕ × Kind)) (keys : List ℕ) → More old new → keys ≡ fold (insert_key nat_cmp) (file_numbers old) (flat_map file_number (drop (length old) new)) → keys ≡ file_numbers new
more_files old new keys more is =
    let behind : drop (length old) new ≡ more.0 = ap (drop (length old)) more.1 ∙ drop_at old more.0 (length old) refl in
    is ∙ ap (λ (l : List (ℕ × Kind)). fold (insert_key nat_cmp) (file_numbers old) (flat_map file_number l)) behind
    ∙ sym (fold-append (insert_key nat_cmp) [] (flat_map file_number old) (flat_map file_number more.0))
    ∙ ap (fold (insert_key nat_cmp) []) (sym (flat_map-append file_number old more.0))
    ∙ ap file_numbers (sym more.1)

-- the object is a file where its number is one of those

is_number : (p n : ℕ) → is_eq (nat_cmp p n) ≡ (n == p)
is_number p n = at_place (below_or p n)
  where
    at_place : (p < n) ⊎ ((n < p) ⊎ (p ≡ n)) → is_eq (nat_cmp p n) ≡ (n == p)
    at_place (inl below) = ap is_eq (sym (nat_cmp_is p n Less below)) ∙ sym (different n p (λ same. omega (arith, below, same)))
    at_place (inr (inl above)) = ap is_eq (sym (nat_cmp_is p n Greater above)) ∙ sym (different n p (λ same. omega (arith, above, same)))
    at_place (inr (inr same)) = ap is_eq (sym (nat_cmp_is p n Equal same)) ∙ sym (alike n p (sym same))

one_file : (p : ℕ) (o : ℕ × Kind) → list_any (λ n. is_eq (nat_cmp p n)) (file_number o) ≡ is_that_file p o
one_file p (n, k) = at_kind (same_kind k kind.File)
  where
    at_kind : (b : Bool) → list_any (λ n. is_eq (nat_cmp p n)) (if b then n ∷ [] else []) ≡ (n == p) && b
    at_kind true = or_none (is_eq (nat_cmp p n)) ∙ is_number p n ∙ sym (and_true (n == p))
    at_kind false = sym (and_none (n == p))

each_file : (p : ℕ) (objects : List (ℕ × Kind)) → list_any (λ n. is_eq (nat_cmp p n)) (flat_map file_number objects) ≡ list_any (is_that_file p) objects
each_file p [] = refl
each_file p (o ∷ objects) =
    list_any-append (λ n. is_eq (nat_cmp p n)) (file_number o) (flat_map file_number objects)
    ∙ ap (λ (b : Bool). b || list_any (λ n. is_eq (nat_cmp p n)) (flat_map file_number objects)) (one_file p o)
    ∙ ap (λ (b : Bool). is_that_file p o || b) (each_file p objects)

pub is_file_by : (files : BTreeSet ℕ) (p : ℕ) (objects : List (ℕ × Kind)) → files.keys ≡ file_numbers objects → contains nat_cmp files p ≡ list_any (is_that_file p) objects
is_file_by files p objects are =
    ap (list_any (λ n. is_eq (nat_cmp p n))) are ∙ any-fold (λ n. is_eq (nat_cmp p n)) [] (flat_map file_number objects) ∙ each_file p objects

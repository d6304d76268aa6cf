-- Which name is which, and where a view of the changed table comes from.
use Rattle.std.proofs.Common.{◌≡◌, ◌⊎◌, ℕ, zero, suc, ◌<◌, ◌==◌, ◌&&◌, Bool, true, false, cond, not, List, [], ◌∷◌, ◌++◌, length, refl, sym, ap, ◌∙◌, subst, inl, inr, ⊎_elim, arith, eq-eqb}
use mathlib.Core.Option.{some, some-ne-none, some-injective}
use lib.ListN.{get_elem?}
use Rattle.pass_book.specs.declared.view.Role.{Role}
use Rattle.pass_book.specs.declared.view.Role.TheVariants.{Book, Desk, Line, Last, Vault, Claim, Note, Spent}
use Rattle.pass_book.specs.declared.view.Name.{Name}
use Rattle.pass_entry.specs.declared.entry.Entry.{Entry}
use Rattle.pass_book.specs.declared.view.VaultSync.{VaultSync}
use Rattle.pass_book.specs.declared.view.FileMark.{FileMark}
use Rattle.pass_entry.specs.declared.entry.Act.{Act}
use Rattle.pass_entry.specs.declared.entry.Act.TheVariants as act
use Rattle.pass_entry.proofs.Lists.{same_numbers}
use Rattle.std.specs.Option.{option_map_or}
use Rattle.std.specs.Prelude.{Option, Some, None}
use Rattle.std.proofs.lemmas.Bool.{and_parts}
use Rattle.pass_book.specs.Names.{name, code, same, Among, without, IsOne, is_finish, touches, touches_as, concerns, concerns_as}

role_of : ℕ → Role
role_of zero = Book
role_of (suc zero) = Desk
role_of (suc (suc zero)) = Line
role_of (suc (suc (suc zero))) = Last
role_of (suc (suc (suc (suc zero)))) = Vault
role_of (suc (suc (suc (suc (suc zero))))) = Claim
role_of (suc (suc (suc (suc (suc (suc zero)))))) = Note
role_of (suc (suc (suc (suc (suc (suc (suc n))))))) = Spent

role_of-code : (k : Role) → role_of (code k) ≡ k
unfolding role_of
role_of-code Book = refl
role_of-code Desk = refl
role_of-code Line = refl
role_of-code Last = refl
role_of-code Vault = refl
role_of-code Claim = refl
role_of-code Note = refl
role_of-code Spent = refl

same_name : (a b : Name) → code a.role ≡ code b.role → a.number ≡ b.number → a.strand ≡ b.strand → a ≡ b
same_name a b k n t =
    let roles : a.role ≡ b.role = sym (role_of-code a.role) ∙ ap role_of k ∙ role_of-code b.role in λ i. record { role = roles i; number = n i; strand = t i }

same_is : (a b : Name) → same a b ≡ true → a ≡ b
same_is a b e =
    let s = and_parts ((code a.role == code b.role) && (a.number == b.number)) (a.strand == b.strand) e in
    let t = and_parts (code a.role == code b.role) (a.number == b.number) s.0 in
    same_name a b (same_numbers (code a.role) (code b.role) t.0) (same_numbers a.number b.number t.1) (same_numbers a.strand b.strand s.1)

pub same_self : (a : Name) → same a a ≡ true
same_self a =
    ap (λ b. b && (a.number == a.number) && (a.strand == a.strand)) (eq-eqb (code a.role) (code a.role) refl)
    ∙ ap (λ b. b && (a.strand == a.strand)) (eq-eqb a.number a.number refl) ∙ eq-eqb a.strand a.strand refl

stays : (a b : Name) (bs : List Name) (c : Name) (t : Bool) → same a b ≡ t → ¬ (c ≡ a) → (b ≡ c) ⊎ Among c (without a bs) → Among c (cond (not t) (b ∷ without a bs) (without a bs))
stays a b bs c true e apart (inl h) = absurd (apart (sym (same_is a b e ∙ h)))
stays a b bs c true e apart (inr h) = h
stays a b bs c false e apart h = h

-- another name is still there
pub among_without : (a : Name) (bs : List Name) (c : Name) → ¬ (c ≡ a) → Among c bs → Among c (without a bs)
among_without a [] c apart h = h
among_without a (b ∷ bs) c apart (inl h) = stays a b bs c (same a b) refl apart (inl h)
among_without a (b ∷ bs) c apart (inr h) = stays a b bs c (same a b) refl apart (inr (among_without a bs c apart h))

gone_if : (a b : Name) (bs : List Name) (t : Bool) → same a b ≡ t → ¬ Among a (without a bs) → ¬ Among a (cond (not t) (b ∷ without a bs) (without a bs))
gone_if a b bs true e none h = none h
gone_if a b bs false e none (inl h) = absurd (cc (e, subst (λ (c : Name). same a c ≡ true) (sym h) (same_self a)))
gone_if a b bs false e none (inr h) = none h

-- the name is gone
pub gone : (a : Name) (bs : List Name) → ¬ Among a (without a bs)
gone a [] h = h
gone a (b ∷ bs) h = gone_if a b bs (same a b) refl (gone a bs) h

less_if : (a b c : Name) (bs : List Name) (t : Bool) → (Among c (without a bs) → Among c bs) → Among c (cond (not t) (b ∷ without a bs) (without a bs)) → Among c (b ∷ bs)
less_if a b c bs true f h = inr (f h)
less_if a b c bs false f (inl h) = inl h
less_if a b c bs false f (inr h) = inr (f h)

-- no other name came
pub among_less : (a : Name) (bs : List Name) (c : Name) → Among c (without a bs) → Among c bs
among_less a [] c h = h
among_less a (b ∷ bs) c h = less_if a b c bs (same a b) (λ k. among_less a bs c k) h

module _ {A : Type 0} where
  pub at_within : (l : List A) (i : ℕ) (a : A) → get_elem? l i ≡ some a → i < length l
  at_within [] i a e = absurd (some-ne-none a (sym e))
  at_within (x ∷ xs) zero a e = omega arith
  at_within (x ∷ xs) (suc i) a e = let h = at_within xs i a e in omega arith

  -- the last one is the new one
  pub at_end : (l : List A) (a b : A) (j : ℕ) → get_elem? (l ++ a ∷ []) j ≡ some b → (get_elem? l j ≡ some b) ⊎ ((j ≡ length l) × (a ≡ b))
  at_end [] a b zero e = inr (refl, some-injective a b e)
  at_end [] a b (suc j) e = absurd (some-ne-none b (sym e))
  at_end (x ∷ xs) a b zero e = inl e
  at_end (x ∷ xs) a b (suc j) e = ⊎_elim (λ t. inl t) (λ t. inr (ap suc t.0, t.1)) (at_end xs a b j e)

finishes : (a : Act) → is_finish a ≡ true → a ≡ act.Finish
finishes act.Finish t = refl
finishes _ t = absurd cc

touched_name_as : (k : Role) (n : ℕ) (e : Entry) → touches_as k n e ≡ true → (name k n ≡ name Desk e.what) ⊎ ((name k n ≡ name Line e.who) ⊎ ((e.act ≡ act.Finish) × (name k n ≡ name Last e.what)))
touched_name_as Book n e t = absurd cc
touched_name_as Desk n e t = inl (ap (name Desk) (sym (same_numbers e.what n t)))
touched_name_as Line n e t = inr (inl (ap (name Line) (sym (same_numbers e.who n t))))
touched_name_as Last n e t = let b = and_parts (is_finish e.act) (e.what == n) t in inr (inr (finishes e.act b.0, ap (name Last) (sym (same_numbers e.what n b.1))))
touched_name_as Vault n e t = absurd cc
touched_name_as Claim n e t = absurd cc
touched_name_as Note n e t = absurd cc
touched_name_as Spent n e t = absurd cc

first_strand : (a : Name) → (a.strand == 0) ≡ true → a ≡ name a.role a.number
first_strand a t = λ i. record { role = a.role; number = a.number; strand = same_numbers a.strand 0 t i }

-- an entry touches the desk of its object, the line of its caller and, where it ends its process, that one's last
pub touched_name : (a : Name) (e : Entry) → touches a e ≡ true → (a ≡ name Desk e.what) ⊎ ((a ≡ name Line e.who) ⊎ ((e.act ≡ act.Finish) × (a ≡ name Last e.what)))
touched_name a e t =
    let b = and_parts (a.strand == 0) (touches_as a.role a.number e) t in
    let is = first_strand a b.0 in
    let P : Name → Type 0 = λ n. (n ≡ name Desk e.what) ⊎ ((n ≡ name Line e.who) ⊎ ((e.act ≡ act.Finish) × (n ≡ name Last e.what))) in
    subst P (sym is) (touched_name_as a.role a.number e b.1)

touched_one_as : (k : Role) (n : ℕ) (e : Entry) → touches_as k n e ≡ true → IsOne k
touched_one_as Book n e t = tt
touched_one_as Desk n e t = tt
touched_one_as Line n e t = tt
touched_one_as Last n e t = tt
touched_one_as Vault n e t = tt
touched_one_as Claim n e t = absurd cc
touched_one_as Note n e t = absurd cc
touched_one_as Spent n e t = absurd cc

pub touched_one : (a : Name) (e : Entry) → touches a e ≡ true → IsOne a.role
touched_one a e t = touched_one_as a.role a.number e (and_parts (a.strand == 0) (touches_as a.role a.number e) t).1

concerned_file : (n : ℕ) (o : Option FileMark) → option_map_or (λ f. f.pnode == n) o false ≡ true → (f : FileMark) × (o ≡ Some f) × (name Desk n ≡ name Desk f.pnode)
concerned_file n None t = absurd cc
concerned_file n (Some f) t = (f, refl, ap (name Desk) (sym (same_numbers f.pnode n t)))

concerned_as : (k : Role) (n : ℕ) (s : VaultSync) → concerns_as k n s ≡ true → (k ≡ Vault) ⊎ ((f : FileMark) × (s.file ≡ Some f) × (name k n ≡ name Desk f.pnode))
concerned_as Book n s t = absurd cc
concerned_as Desk n s t = inr (concerned_file n s.file t)
concerned_as Line n s t = absurd cc
concerned_as Last n s t = absurd cc
concerned_as Vault n s t = inl refl
concerned_as Claim n s t = absurd cc
concerned_as Note n s t = absurd cc
concerned_as Spent n s t = absurd cc

-- a sync concerns the vault, and the desk of its file
pub concerned : (a : Name) (s : VaultSync) → concerns a s ≡ true → (a.role ≡ Vault) ⊎ ((f : FileMark) × (s.file ≡ Some f) × (a ≡ name Desk f.pnode))
concerned a s t =
    let b = and_parts (a.strand == 0) (concerns_as a.role a.number s) t in
    let P : Name → Type 0 = λ n. (n.role ≡ Vault) ⊎ ((f : FileMark) × (s.file ≡ Some f) × (n ≡ name Desk f.pnode)) in
    subst P (sym (first_strand a b.0)) (concerned_as a.role a.number s b.1)

-- either it is the name, or another one
pub is_or_not : (a b : Name) → (a ≡ b) ⊎ ¬ (a ≡ b)
is_or_not a b = decide (same a b) refl
  where
    decide : (t : Bool) → same a b ≡ t → (a ≡ b) ⊎ ¬ (a ≡ b)
    decide true e = inl (same_is a b e)
    decide false e = inr (λ (is : a ≡ b). absurd (cc (e, subst (λ (c : Name). same a c ≡ true) is (same_self a))))

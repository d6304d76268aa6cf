-- The syncs of a list without its stagings, and those of a file's data.
use Rattle.std.proofs.Common.{◌≡◌, ◌≤◌, ℕ, zero, suc, Bool, true, false, max, if◌then◌else◌, cond, List, [], ◌∷◌, ◌++◌, get_or, filter, refl, sym, ◌∙◌, ap, subst, arith}
use Rattle.std.specs.Prelude.{Option, Some, None, slice_get, is_some, ◌&&◌}
use Rattle.std.specs.Option.{option_map_or}
use Rattle.std.specs.List.{All}
use Rattle.std.proofs.lemmas.List.{append-nil}
use Rattle.std.proofs.lemmas.List.Elements.{filter-append, filter_passes}
use Rattle.pass_entry.specs.declared.entry.Entry.{Entry}
use Rattle.pass_plain.specs.Sessions.{Session}
use Rattle.pass_plain.proofs.Lists.{some_is}
use Rattle.pass_book.specs.declared.view.Role.TheVariants as role
use Rattle.pass_book.specs.declared.view.VaultSync.{VaultSync}
use Rattle.pass_book.specs.Names.{name, concerns}
use Rattle.pass_book.specs.Syncs.{called_from, called, IsRising, rising_from, AreNumbered}
use Rattle.pass_clean.specs.Cleaned.{covers, cleaned}
use Rattle.pass_vault.specs.Vaulted.{is_real, real_syncs, is_data, data_syncs}

-- Lists of what passes a test
module _ {X : Type 0} (p : X → Bool) where
  pub filter_one : (x : X) (xs : List X) (b : Bool) → p x ≡ b → filter p (x ∷ xs) ≡ cond b (x ∷ filter p xs) (filter p xs)
  filter_one x xs b is = ap (λ (c : Bool). cond c (x ∷ filter p xs) (filter p xs)) is

  pub filter_push : (xs : List X) (y : X) → p y ≡ true → filter p (xs ++ y ∷ []) ≡ filter p xs ++ y ∷ []
  filter_push xs y is = filter-append p xs (y ∷ []) ∙ ap (λ (l : List X). filter p xs ++ l) (filter_one y [] true is)

  pub filter_skip : (xs : List X) (y : X) → p y ≡ false → filter p (xs ++ y ∷ []) ≡ filter p xs
  filter_skip xs y is = filter-append p xs (y ∷ []) ∙ ap (λ (l : List X). filter p xs ++ l) (filter_one y [] false is) ∙ append-nil (filter p xs)

  -- each passes, and is one of the list
  pub filter_from : (xs : List X) (i : ℕ) (x : X) → slice_get (filter p xs) i ≡ Some x → ((j : ℕ) × (slice_get xs j ≡ Some x)) × (p x ≡ true)
  filter_from [] i x at = absurd (cc)
  filter_from (y ∷ xs) i x at = by_test (p y) refl (λ i there. filter_from xs i x there)
    where
      behind : p y ≡ true → (i : ℕ) → slice_get (y ∷ filter p xs) i ≡ Some x → ((i : ℕ) → slice_get (filter p xs) i ≡ Some x → ((j : ℕ) × (slice_get xs j ≡ Some x)) × (p x ≡ true))
          → ((j : ℕ) × (slice_get (y ∷ xs) j ≡ Some x)) × (p x ≡ true)
      behind is zero there more = ((0, there), ap p (sym (some_is y x there)) ∙ is)
      behind is (suc i) there more = let rest = more i there in ((suc rest.0.0, rest.0.1), rest.1)

      by_test : (b : Bool) → p y ≡ b → ((i : ℕ) → slice_get (filter p xs) i ≡ Some x → ((j : ℕ) × (slice_get xs j ≡ Some x)) × (p x ≡ true)) → ((j : ℕ) × (slice_get (y ∷ xs) j ≡ Some x)) × (p x ≡ true)
      by_test true is more = behind is i (ap (λ (l : List X). slice_get l i) (sym (filter_one y xs true is)) ∙ at) more
      by_test false is more = let rest = more i (ap (λ (l : List X). slice_get l i) (sym (filter_one y xs false is)) ∙ at) in ((suc rest.0.0, rest.0.1), rest.1)

-- Syncs

pub real_from : (ss : List VaultSync) (i : ℕ) (x : VaultSync) → slice_get (real_syncs ss) i ≡ Some x → (j : ℕ) × (slice_get ss j ≡ Some x)
real_from ss i x at = (filter_from is_real ss i x at).0

no_staging : (s : VaultSync) → is_real s ≡ true → s.staged ≡ None
no_staging s is = by_case s.staged refl
  where
    by_case : (o : Option (List ℕ)) → s.staged ≡ o → s.staged ≡ None
    by_case None same = same
    by_case (Some blocks) same = absurd (cc (sym is ∙ ap (λ (x : Option (List ℕ)). option_map_or (λ blocks. false) x true) same))

pub real_unstaged : (ss : List VaultSync) → All (λ s. s.staged ≡ None) (real_syncs ss)
real_unstaged ss = λ i d less. no_staging (get_or (real_syncs ss) i d) (filter_passes is_real ss i d less)

rising_lower : (c k d l : ℕ) (ss : List VaultSync) → c ≤ d → k ≤ l → rising_from d l ss → rising_from c k ss
rising_lower c k d l [] one two up = tt
rising_lower c k d l (s ∷ ss) one two up = (omega (arith, one, up.0), omega (arith, two, up.1), up.2)

real_rising_from : (c k : ℕ) (ss : List VaultSync) → rising_from c k ss → rising_from c k (real_syncs ss)
real_rising_from c k [] up = tt
real_rising_from c k (s ∷ ss) up = by_test (is_real s) refl (real_rising_from s.calls s.entries ss up.2)
  where
    by_test : (b : Bool) → is_real s ≡ b → rising_from s.calls s.entries (real_syncs ss) → rising_from c k (real_syncs (s ∷ ss))
    by_test true r more = subst (rising_from c k) (sym (filter_one is_real s ss true r)) (up.0, up.1, more)
    by_test false r more = subst (rising_from c k) (sym (filter_one is_real s ss false r)) (rising_lower c k s.calls s.entries (real_syncs ss) up.0 up.1 more)

pub real_rising : (ss : List VaultSync) → IsRising ss → IsRising (real_syncs ss)
real_rising ss up = real_rising_from 0 0 ss up

pub real_numbered : (session : Session) (history : List Entry) (ss : List VaultSync) → AreNumbered session history ss → AreNumbered session history (real_syncs ss)
real_numbered session history ss are = λ i x f at mark. let from = real_from ss i x at in are from.0 x f from.1 mark

-- of fewer syncs the last one isn't later
called_less : (p q : VaultSync → Bool) → ((s : VaultSync) → p s ≡ true → q s ≡ true) → (c d e k : ℕ) → c ≤ d → d ≤ e → (ss : List VaultSync) → rising_from e k ss
    → called_from c (filter p ss) ≤ called_from d (filter q ss)
called_less p q more c d e k low up [] rising = low
called_less p q more c d e k low up (s ∷ ss) rising = by_tests (p s) refl (q s) refl (λ c d one two. called_less p q more c d s.calls s.entries one two ss rising.2) rising.0
  where
    both : (l m : List VaultSync) → filter p (s ∷ ss) ≡ l → filter q (s ∷ ss) ≡ m → called_from c l ≤ called_from d m → called_from c (filter p (s ∷ ss)) ≤ called_from d (filter q (s ∷ ss))
    both l m one two le = let x = ap (called_from c) one in let y = ap (called_from d) two in omega (arith, x, y, le)

    by_tests : (a : Bool) → p s ≡ a → (b : Bool) → q s ≡ b → ((c d : ℕ) → c ≤ d → d ≤ s.calls → called_from c (filter p ss) ≤ called_from d (filter q ss)) → e ≤ s.calls
        → called_from c (filter p (s ∷ ss)) ≤ called_from d (filter q (s ∷ ss))
    by_tests true one true two rest here = both (s ∷ filter p ss) (s ∷ filter q ss) (filter_one p s ss true one) (filter_one q s ss true two) (rest s.calls s.calls (omega arith) (omega arith))
    by_tests true one false two rest here = absurd (cc (sym two ∙ more s one))
    by_tests false one true two rest here = both (filter p ss) (s ∷ filter q ss) (filter_one p s ss false one) (filter_one q s ss true two) (rest c s.calls (omega (arith, low, up, here)) (omega arith))
    by_tests false one false two rest here = both (filter p ss) (filter q ss) (filter_one p s ss false one) (filter_one q s ss false two) (rest c d low (omega (arith, up, here)))

data_real : (s : VaultSync) → is_data s ≡ true → is_real s ≡ true
data_real s is = by_case (is_real s) refl
  where
    by_case : (b : Bool) → is_real s ≡ b → is_real s ≡ true
    by_case true same = same
    by_case false same = absurd (cc (sym is ∙ ap (λ (b : Bool). b && is_some s.file) same))

pub called_data : (ss : List VaultSync) → IsRising ss → called (data_syncs ss) ≤ called (real_syncs ss)
called_data ss up = called_less is_data is_real data_real 0 0 0 0 (omega arith) (omega arith) ss up

-- and no sync of a file's data is later than the last one
called_low : (c e k : ℕ) → c ≤ e → (ss : List VaultSync) → rising_from e k ss → c ≤ called_from c (data_syncs ss)
called_low c e k low [] up = omega arith
called_low c e k low (s ∷ ss) up = by_test (is_data s) refl (called_low s.calls s.calls s.entries (omega arith) ss up.2) (called_low c s.calls s.entries (omega (arith, low, up.0)) ss up.2)
  where
    by_test : (b : Bool) → is_data s ≡ b → s.calls ≤ called_from s.calls (data_syncs ss) → c ≤ called_from c (data_syncs ss) → c ≤ called_from c (data_syncs (s ∷ ss))
    by_test true is one two = let z = ap (called_from c) (filter_one is_data s ss true is) in omega (arith, z, one, low, up.0)
    by_test false is one two = let z = ap (called_from c) (filter_one is_data s ss false is) in omega (arith, z, two)

data_last_from : (c k : ℕ) (ss : List VaultSync) → rising_from c k ss → (i : ℕ) (x : VaultSync) → slice_get ss i ≡ Some x → is_data x ≡ true → (b : ℕ) → x.calls ≤ called_from b (data_syncs ss)
data_last_from c k [] up i x at is b = absurd (cc)
data_last_from c k (s ∷ ss) up zero x at is b =
    let same : s ≡ x = some_is s x at in
    let here : is_data s ≡ true = ap is_data same ∙ is in
    let low = called_low s.calls s.calls s.entries (omega arith) ss up.2 in
    let z = ap (called_from b) (filter_one is_data s ss true here) in omega (arith, z, low, ap (λ (y : VaultSync). y.calls) same)
data_last_from c k (s ∷ ss) up (suc i) x at is b = by_test (is_data s) refl (data_last_from s.calls s.entries ss up.2 i x at is)
  where
    by_test : (t : Bool) → is_data s ≡ t → ((b : ℕ) → x.calls ≤ called_from b (data_syncs ss)) → x.calls ≤ called_from b (data_syncs (s ∷ ss))
    by_test true r more = let z = ap (called_from b) (filter_one is_data s ss true r) in omega (arith, z, more s.calls)
    by_test false r more = let z = ap (called_from b) (filter_one is_data s ss false r) in omega (arith, z, more b)

pub data_last : (ss : List VaultSync) → IsRising ss → (i : ℕ) (x : VaultSync) → slice_get ss i ≡ Some x → is_data x ≡ true → x.calls ≤ called (data_syncs ss)
data_last ss up i x at is = data_last_from 0 0 ss up i x at is 0

abbrev cleans : ℕ → ℕ → VaultSync → ℕ
cleans file block s = if concerns (name role.Desk file) s && covers block s then s.entries else 0

-- the syncs clean no more than the whole list
pub cleaned_real : (file block : ℕ) (ss : List VaultSync) → cleaned file block (real_syncs ss) ≤ cleaned file block ss
cleaned_real file block [] = omega arith
cleaned_real file block (s ∷ ss) = by_test (is_real s) refl (cleaned_real file block ss)
  where
    at_most : (m c d e : ℕ) → c ≡ max m d → d ≤ e → c ≤ max m e
    at_most m c d e is le = omega (arith, is, le)

    by_test : (b : Bool) → is_real s ≡ b → cleaned file block (real_syncs ss) ≤ cleaned file block ss → cleaned file block (real_syncs (s ∷ ss)) ≤ max (cleans file block s) (cleaned file block ss)
    by_test true is more = let z = ap (cleaned file block) (filter_one is_real s ss true is) in at_most (cleans file block s) (cleaned file block (real_syncs (s ∷ ss))) (cleaned file block (real_syncs ss)) (cleaned file block ss) z more
    by_test false is more = let z = ap (cleaned file block) (filter_one is_real s ss false is) in omega (arith, z, more)

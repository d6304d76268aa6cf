-- What syncs leave clean.
use Rattle.std.proofs.Common.{◌≡◌, ◌∙◌, ℕ, ◌<◌, ◌≤◌, ◌==◌, ◌&&◌, max, if◌then◌else◌, Bool, true, false, cond, List, [], ◌∷◌, ◌++◌, length, filter, refl, sym, ap, arith}
use Rattle.std.specs.Prelude.{Option, Some, None, nat_le, not}
use Rattle.std.specs.Option.{option_map_or}
use Rattle.std.specs.List.{list_any}
use Rattle.pass_plain.proofs.Lists.{same_itself}
use Rattle.pass_book.specs.declared.view.FileMark.{FileMark}
use Rattle.std.proofs.lemmas.Bool.Decides.{nat_tests}
use Rattle.pass_book.specs.declared.view.Role.TheVariants as role
use Rattle.pass_book.specs.declared.view.VaultSync.{VaultSync}
use Rattle.pass_book.specs.Names.{name, concerns, Listed}
use Rattle.pass_book.specs.Syncs.{durable_from, durable, rising_from, IsRising}
use Rattle.pass_clean.specs.Cleaned.{covers, cleaned, is_dirty_from, ListedLaw, DurableLaw, SyncedLaw, StagedLaw}
use Rattle.pass_range.specs.Dirtied.{dirtied_at}
use Rattle.pass_range.proofs.Dirtying.{below_law}

-- only the syncs of the file count
cleaned_own : (file block : ℕ) (ss : List VaultSync) → cleaned file block (filter (concerns (name role.Desk file)) ss) ≡ cleaned file block ss
cleaned_own file block [] = refl
cleaned_own file block (s ∷ ss) = by_test (concerns (name role.Desk file) s) refl (cleaned_own file block ss)
  where
    by_test : (t : Bool) → concerns (name role.Desk file) s ≡ t → cleaned file block (filter (concerns (name role.Desk file)) ss) ≡ cleaned file block ss
        → cleaned file block (cond t (s ∷ filter (concerns (name role.Desk file)) ss) (filter (concerns (name role.Desk file)) ss)) ≡ max (if t && covers block s then s.entries else 0) (cleaned file block ss)
    by_test true own more = ap (λ (b : Bool). max (if b && covers block s then s.entries else 0) (cleaned file block (filter (concerns (name role.Desk file)) ss))) own ∙ ap (max (if covers block s then s.entries else 0)) more
    by_test false other more = omega (arith, more)

pub listed_law : ListedLaw
listed_law file block mine all listed = sym (cleaned_own file block mine) ∙ ap (cleaned file block) listed ∙ cleaned_own file block all

low_from : (c k : ℕ) (ss : List VaultSync) → rising_from c k ss → k ≤ durable_from k ss
low_from c k [] up = omega arith
low_from c k (s ∷ ss) up = let rest = low_from s.calls s.entries ss up.2 in omega (arith, up.1, rest)

clean_from : (file block c k : ℕ) (ss : List VaultSync) → rising_from c k ss → cleaned file block ss ≤ durable_from k ss
clean_from file block c k [] up = omega arith
clean_from file block c k (s ∷ ss) up =
    let low = low_from s.calls s.entries ss up.2 in
    let rest = clean_from file block s.calls s.entries ss up.2 in
    by_test (concerns (name role.Desk file) s && covers block s) low rest
  where
    by_test : (t : Bool) → s.entries ≤ durable_from s.entries ss → cleaned file block ss ≤ durable_from s.entries ss → max (if t then s.entries else 0) (cleaned file block ss) ≤ durable_from s.entries ss
    by_test true low rest = omega (arith, low, rest)
    by_test false low rest = omega (arith, low, rest)

pub durable_law : DurableLaw
durable_law file block ss up = clean_from file block 0 0 ss up

-- a sync of the file cleans below its entries
cleaned_last : (number file block : ℕ) (ss : List VaultSync) (s : VaultSync) → s.file ≡ Some (record { pnode = file; number = number }) → s.staged ≡ None → s.entries ≤ cleaned file block (ss ++ s ∷ [])
cleaned_last number file block [] s mark whole = at_test (concerns (name role.Desk file) s && covers block s) own
  where
    own : concerns (name role.Desk file) s && covers block s ≡ true
    own = (λ i. option_map_or (λ (f : FileMark). f.pnode == file) (mark i) false && option_map_or (λ blocks. list_any (λ b. b == block) blocks) (whole i) true)
        ∙ ap (λ b. b && true) (same_itself file)

    at_test : (t : Bool) → t ≡ true → s.entries ≤ max (if t then s.entries else 0) 0
    at_test true is = omega arith
    at_test false is = absurd (cc)
cleaned_last number file block (t ∷ ss) s mark whole =
    let more = cleaned_last number file block ss s mark whole in
    high (if concerns (name role.Desk file) t && covers block t then t.entries else 0) more
  where
    high : (m : ℕ) → s.entries ≤ cleaned file block (ss ++ s ∷ []) → s.entries ≤ max m (cleaned file block (ss ++ s ∷ []))
    high m low = omega (arith, low)

pub synced_law : SyncedLaw
synced_law session history ss s number file block mark whole all = by_place (dirtied_at session history file block) refl
  where
    by_place : (o : Option ℕ) → dirtied_at session history file block ≡ o → option_map_or (is_dirty_from (cleaned file block (ss ++ s ∷ []))) o false ≡ false
    by_place None is = refl
    by_place (Some at) is =
        let low = below_law session history file block at is in
        let high = cleaned_last number file block ss s mark whole in
        not_dirty (cleaned file block (ss ++ s ∷ [])) at (omega (arith, low, high, all))
      where
        not_dirty : (c a : ℕ) → a < c → nat_le c a ≡ false
        not_dirty c a less = grind (arith, nat_tests)

-- one more sync cleans what it covers, and leaves the rest
cleaned_more : (file block : ℕ) (ss : List VaultSync) (s : VaultSync) → cleaned file block (ss ++ s ∷ []) ≡ max (cleaned file block ss) (if concerns (name role.Desk file) s && covers block s then s.entries else 0)
cleaned_more file block [] s = flip (if concerns (name role.Desk file) s && covers block s then s.entries else 0)
  where
    flip : (m : ℕ) → max m 0 ≡ max 0 m
    flip m = omega arith
cleaned_more file block (t ∷ ss) s =
    let more = cleaned_more file block ss s in
    turn (if concerns (name role.Desk file) t && covers block t then t.entries else 0) (cleaned file block (ss ++ s ∷ [])) (cleaned file block ss) (if concerns (name role.Desk file) s && covers block s then s.entries else 0) more
  where
    turn : (m c k n : ℕ) → c ≡ max k n → max m c ≡ max (max m k) n
    turn m c k n is = omega (arith, is)

-- a staging of the file covers its own blocks
staged_covers : (number file block : ℕ) (s : VaultSync) (blocks : List ℕ) → s.file ≡ Some (record { pnode = file; number = number }) → s.staged ≡ Some blocks
    → (concerns (name role.Desk file) s && covers block s) ≡ list_any (λ b. b == block) blocks
staged_covers number file block s blocks mark staged =
    (λ i. option_map_or (λ (f : FileMark). f.pnode == file) (mark i) false && option_map_or (λ blocks. list_any (λ b. b == block) blocks) (staged i) true)
    ∙ ap (λ b. b && list_any (λ b. b == block) blocks) (same_itself file)

dirty_after : (low now entries at : ℕ) (among : Bool) → at < entries → now ≡ max low (if among then entries else 0) → nat_le now at ≡ (nat_le low at && not among)
dirty_after low now entries at true less is = grind (arith, nat_tests, less, is)
dirty_after low now entries at false less is = grind (arith, nat_tests, less, is)

pub staged_law : StagedLaw
staged_law session history ss s number file block blocks mark staged all = by_place (dirtied_at session history file block) refl
  where
    more : cleaned file block (ss ++ s ∷ []) ≡ max (cleaned file block ss) (if list_any (λ b. b == block) blocks then s.entries else 0)
    more = cleaned_more file block ss s ∙ ap (λ t. max (cleaned file block ss) (if t then s.entries else 0)) (staged_covers number file block s blocks mark staged)

    by_place : (o : Option ℕ) → dirtied_at session history file block ≡ o
        → option_map_or (is_dirty_from (cleaned file block (ss ++ s ∷ []))) o false ≡ (option_map_or (is_dirty_from (cleaned file block ss)) o false && not (list_any (λ b. b == block) blocks))
    by_place None is = refl
    by_place (Some at) is =
        let low = below_law session history file block at is in
        dirty_after (cleaned file block ss) (cleaned file block (ss ++ s ∷ [])) s.entries at (list_any (λ b. b == block) blocks) (omega (arith, low, all)) more

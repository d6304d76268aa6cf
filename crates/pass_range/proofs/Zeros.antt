-- A block without a row is all zero bytes.
use Rattle.std.proofs.Common.{◌≡◌, ◌∙◌, ◌==◌, ◌&&◌, ◌+◌, ◌-◌, ◌*◌, ◌<◌, ◌≤◌, ℕ, zero, suc, Bool, true, false, cond, List, [], ◌∷◌, ◌++◌, length, get_or, take, drop, replicate, refl, sym, ap, subst, arith, inl, inr, ⊎_elim, ◌⊎◌, length-append, length-take}
use Rattle.std.specs.Prelude.{Some, find, slice_get, nat_lt}
use Rattle.std.specs.Option.{option_map_or}
use Rattle.std.specs.List.{list_any}
use Rattle.std.proofs.lemmas.List.{get_or_past, get_or_append_left, get_or-append_right, get_or-take, get_or-drop, length-replicate}
use Rattle.std.proofs.lemmas.Option.{slice_get-get_or}
use Rattle.pass_entry.specs.declared.entry.Entry.{Entry}
use Rattle.pass_entry.specs.declared.entry.Act.{Act}
use Rattle.pass_entry.specs.declared.entry.Act.TheVariants as act
use Rattle.pass_plain.specs.declared.start.StartFile.{StartFile}
use Rattle.pass_plain.specs.Sessions.{Session}
use Rattle.pass_plain.specs.Files.{file_after, file_act, written, resized, extended}
use Rattle.pass_plain.specs.Sound.{IsSound, IsSoundFile}
use Rattle.pass_plain.specs.Records.{touches, has_row, row_act}
use Rattle.pass_plain.proofs.Lists.{or_false, not_below}
use Rattle.pass_plain.proofs.Sizes.{length-resized}
use Rattle.pass_range.proofs.Changing.{snoc_induction, changes, file-kept, has-kept, file-changed, has-changed}
use Rattle.pass_range.specs.Lawful.{IsZero}

pub zero_at : (n i : ℕ) → get_or (replicate {A = ℕ} n 0) i 0 ≡ 0
zero_at zero i = refl
zero_at (suc n) zero = refl
zero_at (suc n) (suc i) = zero_at n i

zero_extended : (content : List ℕ) (n i : ℕ) → get_or (extended content n) i 0 ≡ get_or content i 0
zero_extended content n i = ⊎_elim
    (λ (inside : i < length content). get_or_append_left content (replicate (n - length content) 0) 0 i inside)
    (λ (past : length content ≤ i). get_or-append_right content (replicate (n - length content) 0) (length content) i 0 refl past ∙ zero_at (n - length content) (i - length content) ∙ sym (get_or_past content i 0 past))
    (split i (length content))
  where
    split : (a b : ℕ) → (a < b) ⊎ (b ≤ a)
    split a b = grind arith

zero_resized : (content : List ℕ) (size i : ℕ) → get_or content i 0 ≡ 0 ⊎ (size ≤ i) → get_or (resized content size) i 0 ≡ 0
zero_resized content size i zero_or_past = ⊎_elim
    (λ (zero : get_or content i 0 ≡ 0). ⊎_elim
    (λ (inside : i < size). get_or-take size (extended content size) i 0 inside ∙ zero_extended content size i ∙ zero)
    (λ (past : size ≤ i). get_or_past (resized content size) i 0 (let z = length-resized content size in omega (arith, z, past)))
    (split i size))
    (λ (past : size ≤ i). get_or_past (resized content size) i 0 (let z = length-resized content size in omega (arith, z, past)))
    zero_or_past
  where
    split : (a b : ℕ) → (a < b) ⊎ (b ≤ a)
    split a b = grind arith

zero_written : (content : List ℕ) (at : ℕ) (bytes : List ℕ) (i : ℕ) → (length bytes ≡ 0) ⊎ ((i < at) ⊎ (at + length bytes ≤ i)) → get_or (written content at bytes) i 0 ≡ get_or content i 0
zero_written content at [] i apart = refl
zero_written content at (x ∷ xs) i apart = ⊎_elim (λ none. absurd (omega (arith, none))) (λ beside. ⊎_elim
    (λ (low : i < at).
    get_or_append_left (take at (extended content at) ++ x ∷ xs) (drop (at + length (x ∷ xs)) content) 0 i (omega (arith, low, head))
    ∙ get_or_append_left (take at (extended content at)) (x ∷ xs) 0 i (omega (arith, low, front))
    ∙ get_or-take at (extended content at) i 0 low ∙ zero_extended content at i)
    (λ (high : at + length (x ∷ xs) ≤ i).
    get_or-append_right (take at (extended content at) ++ x ∷ xs) (drop (at + length (x ∷ xs)) content) (at + length (x ∷ xs)) i 0 head high
    ∙ get_or-drop (at + length (x ∷ xs)) content (i - (at + length (x ∷ xs))) 0
    ∙ ap (λ (k : ℕ). get_or content k 0) (let z : at + length (x ∷ xs) + (i - (at + length (x ∷ xs))) ≡ i = omega (arith, high) in z))
    beside) apart
  where
    front : length (take at (extended content at)) ≡ at
    front = omega (arith, length-take at (extended content at), length-append content (replicate (at - length content) 0), length-replicate {A = ℕ} (at - length content) 0)

    head : length (take at (extended content at) ++ x ∷ xs) ≡ at + length (x ∷ xs)
    head = omega (arith, front, length-append (take at (extended content at)) (x ∷ xs))

-- a byte of a block that wasn't written is beside the write
beside : (at len b i : ℕ) → touches at len b ≡ false → b * 4096 ≤ i → i < (b + 1) * 4096 → (len ≡ 0) ⊎ ((i < at) ⊎ (at + len ≤ i))
beside at len b i none low high = by_tests (nat_lt 0 len) (nat_lt (b * 4096) (at + len)) (nat_lt at ((b + 1) * 4096)) refl refl refl none
  where
    by_tests : (s t u : Bool) → nat_lt 0 len ≡ s → nat_lt (b * 4096) (at + len) ≡ t → nat_lt at ((b + 1) * 4096) ≡ u → (s && t && u) ≡ false → (len ≡ 0) ⊎ ((i < at) ⊎ (at + len ≤ i))
    by_tests false t u one two three e = inl (let z : len ≤ 0 = not_below 0 len one in omega arith)
    by_tests true false u one two three e = inr (inr (let z : at + len ≤ b * 4096 = not_below (b * 4096) (at + len) two in omega (arith, low)))
    by_tests true true false one two three e = inr (inl (let z : (b + 1) * 4096 ≤ at = not_below at ((b + 1) * 4096) three in omega (arith, high)))
    by_tests true true true one two three e = absurd (cc (e))

-- an act leaves a block zero that has no row after it
act_zero : (a : Act) (old : List ℕ) (had : Bool) (b : ℕ) → (had ≡ false → IsZero b old) → row_act b had a ≡ false → IsZero b (file_act old a)
act_zero (act.Put out at bytes) old had b was none = λ i low high.
    let parts = or_false had (touches at (length bytes) b) none in
    zero_written old at bytes i (beside at (length bytes) b i parts.1 low high) ∙ was parts.0 i low high
act_zero (act.Cut out size) old true b was none = λ i low high. zero_resized old size i (inr (let z : size ≤ b * 4096 = not_below (b * 4096) size none in omega (arith, z, low)))
act_zero (act.Cut out size) old false b was none = λ i low high. zero_resized old size i (inl (was refl i low high))
act_zero a old had b was none = was none

opened_zero : (files : List StartFile) (p b : ℕ) → ((i : ℕ) (file : StartFile) → slice_get files i ≡ Some file → IsSoundFile file)
    → list_any (λ x. x == b) (option_map_or (λ (f : StartFile). f.rows.items) (find (λ f. f.node.pnode == p) files) []) ≡ false
    → IsZero b (option_map_or (λ (f : StartFile). f.bytes.items) (find (λ f. f.node.pnode == p) files) [])
opened_zero [] p b sound none = λ i low high. refl
opened_zero (f ∷ files) p b sound none = by_test (f.node.pnode == p) (opened_zero files p b (λ i file at. sound (suc i) file at)) none
  where
    by_test : (t : Bool)
        → (list_any (λ x. x == b) (option_map_or (λ (f : StartFile). f.rows.items) (find (λ f. f.node.pnode == p) files) []) ≡ false → IsZero b (option_map_or (λ (f : StartFile). f.bytes.items) (find (λ f. f.node.pnode == p) files) []))
        → list_any (λ x. x == b) (option_map_or (λ (f : StartFile). f.rows.items) (cond t (Some f) (find (λ f. f.node.pnode == p) files)) []) ≡ false
        → IsZero b (option_map_or (λ (f : StartFile). f.bytes.items) (cond t (Some f) (find (λ f. f.node.pnode == p) files)) [])
    by_test true more none = λ i low high. ⊎_elim
        (λ (inside : i < length f.bytes.items). (sound 0 f refl).zero i b (get_or f.bytes.items i 0) (slice_get-get_or f.bytes.items i 0 inside) low high none)
        (λ (past : length f.bytes.items ≤ i). get_or_past f.bytes.items i 0 past)
        (split i (length f.bytes.items))
      where
        split : (a b : ℕ) → (a < b) ⊎ (b ≤ a)
        split a b = grind arith
    by_test false more none = more none

pub zero_law : (session : Session) → IsSound session → (history : List Entry) (p b : ℕ) → has_row session history p b ≡ false → IsZero b (file_after session history p)
zero_law session sound history p b = snoc_induction (λ h. has_row session h p b ≡ false → IsZero b (file_after session h p)) (λ none. opened_zero session.start.files.items p b sound.files none) more history
  where
    more : (history : List Entry) (e : Entry) → (has_row session history p b ≡ false → IsZero b (file_after session history p))
        → has_row session (history ++ e ∷ []) p b ≡ false → IsZero b (file_after session (history ++ e ∷ []) p)
    more history e was none = by_change (changes session history e p) refl
      where
        by_change : (t : Bool) → changes session history e p ≡ t → IsZero b (file_after session (history ++ e ∷ []) p)
        by_change false kept = subst (IsZero b) (sym (file-kept session history e p kept)) (was (sym (has-kept session history e p b kept) ∙ none))
        by_change true changed =
            subst (IsZero b) (sym (file-changed session history e p changed))
            (act_zero e.act (file_after session history p) (has_row session history p b) b was (sym (has-changed session history e p changed b) ∙ none))

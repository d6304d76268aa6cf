-- The records that the book still has, as entries are added and as more are shed.
use Rattle.std.proofs.Common.{◌≡◌, ℕ, zero, suc, ◌<◌, ◌≤◌, List, [], ◌∷◌, ◌++◌, length, set, drop, get_or, refl, ap, sym, ◌∙◌, arith, length-append}
use mathlib.Core.List.{IsPrefix}
use Rattle.std.proofs.Math.Nat.{le_trans}
use Rattle.pass_entry.specs.declared.entry.Entry.{Entry}
use Rattle.pass_entry.specs.declared.record.Record.{Record}
use Rattle.pass_plain.specs.Sessions.{Session}
use Rattle.pass_plain.specs.Records.{entry_records}
use Rattle.pass_book.specs.declared.view.VaultSync.{VaultSync}
use Rattle.pass_book.specs.Records.{entry_lists}
use Rattle.pass_book.specs.Shedding.{shed, AreKept}
use Rattle.pass_book.specs.Syncs.{durable, IsRising}
use Rattle.pass_book.proofs.Backed.{durable_begins}
use Rattle.pass_book.proofs.Recording.{lists_more, lists-length}

pub length-shed : (n : ℕ) (lists : List (List Record)) → length (shed n lists) ≡ length lists
length-shed zero lists = refl
length-shed (suc n) [] = refl
length-shed (suc n) (l ∷ lists) = (let rest = length-shed n lists in omega (arith, rest))

shed-push : (n : ℕ) (lists : List (List Record)) (r : List Record) → n ≤ length lists → shed n (lists ++ r ∷ []) ≡ shed n lists ++ r ∷ []
shed-push zero lists r le = refl
shed-push (suc n) [] r le = absurd (omega (arith, le))
shed-push (suc n) (l ∷ lists) r le = ap (λ (ls : List (List Record)). [] ∷ ls) (shed-push n lists r (omega (arith, le)))

-- from a later place on nothing is missing
pub drop-shed : (n m : ℕ) (lists : List (List Record)) → n ≤ m → drop m (shed n lists) ≡ drop m lists
drop-shed zero m lists le = refl
drop-shed (suc n) m [] le = refl
drop-shed (suc n) zero (l ∷ lists) le = absurd (omega (arith, le))
drop-shed (suc n) (suc m) (l ∷ lists) le = drop-shed n m lists (omega (arith, le))

pub shed-at : (n i : ℕ) (lists : List (List Record)) (d : List Record) → n ≤ i → get_or (shed n lists) i d ≡ get_or lists i d
shed-at zero i lists d le = refl
shed-at (suc n) i [] d le = refl
shed-at (suc n) zero (l ∷ lists) d le = absurd (omega (arith, le))
shed-at (suc n) (suc i) (l ∷ lists) d le = shed-at n i lists d (omega (arith, le))

-- one more is shed
pub set-shed : (n : ℕ) (lists : List (List Record)) → n < length lists → set (shed n lists) n [] ≡ shed (suc n) lists
set-shed zero [] lt = absurd (omega (arith, lt))
set-shed zero (l ∷ lists) lt = refl
set-shed (suc n) [] lt = absurd (omega (arith, lt))
set-shed (suc n) (l ∷ lists) lt = ap (λ (ls : List (List Record)). [] ∷ ls) (set-shed n lists (omega (arith, lt)))

-- as the book sees more of the list
pub kept_later : (session : Session) (h : List Entry) (ss us : List VaultSync) (kept : ℕ) (slips : List (List Record)) → AreKept session h ss kept slips → IsPrefix ss us → IsRising us → AreKept session h us kept slips
kept_later session h ss us kept slips k p rising = record { lists = k.lists; within = k.within; durable = le_trans k.durable (durable_begins ss us p rising) }

-- with one more entry
pub kept_more : (session : Session) (h : List Entry) (ss : List VaultSync) (kept : ℕ) (slips : List (List Record)) (e : Entry) → AreKept session h ss kept slips
    → AreKept session (h ++ e ∷ []) ss kept (slips ++ entry_records session h e ∷ [])
kept_more session h ss kept slips e k =
    let all = lists-length session h in
    let within = k.within in
    let longer = length-append h (e ∷ []) in
    let r = entry_records session h e in
    record {
      lists = ap (λ (ls : List (List Record)). ls ++ r ∷ []) k.lists ∙ sym (shed-push kept (entry_lists session h) r (omega (arith, all, within))) ∙ ap (shed kept) (sym (lists_more session h e));
      within = omega (arith, longer, within);
      durable = k.durable;
    }

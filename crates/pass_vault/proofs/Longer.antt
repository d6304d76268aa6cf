-- A vault that has seen more of the history.
use Rattle.std.proofs.Common.{◌≡◌, ◌+◌, ◌*◌, ◌≤◌, ℕ, List, [], ◌∷◌, ◌++◌, length, take, sym, ◌∙◌, ap, subst, arith}
use Rattle.std.proofs.lemmas.List.{take-append-le}
use mathlib.Core.List.{IsPrefix}
use Rattle.pass_entry.specs.declared.entry.Entry.{Entry}
use Rattle.pass_entry.specs.declared.record.Record.{Record}
use Rattle.pass_outside.specs.Moments.{Moment}
use Rattle.pass_plain.specs.Legal.{IsLegal}
use Rattle.pass_log.specs.Records.{spellings}
use Rattle.pass_book.specs.Syncs.{called, durable}
use Rattle.pass_plain.specs.Records.{records_of}
use Rattle.pass_keep.specs.declared.keeper.Keeper.{Keeper}
use Rattle.pass_keep.specs.Kept.{records_to, AreParts}
use Rattle.pass_keep.proofs.Shown.{longer_shown}
use Rattle.pass_keep.specs.Keepers.{disk_of}
use Rattle.pass_vault.specs.Vaulted.{Vaulted, story_of, story_with, data_syncs}
use Rattle.pass_vault.specs.Rooms.{first_place}
use Rattle.pass_vault.specs.Vaults.{past_of, IsVault}
use Rattle.pass_vault.proofs.Waiting.{waiting_longer}

-- the first entries of a history and of one that it begins
pub front : (xs ys : List Entry) (n : ℕ) → IsPrefix xs ys → n ≤ length xs → take n ys ≡ take n xs
front xs ys n pre le = ap (take n) (sym pre.1) ∙ take-append-le n xs pre.0 le

-- its disk keeps it of the longer history
pub vault_longer : {D : Type 0} (view : D → Moment) (v : Vaulted D) (k : Keeper D) → IsVault view v k → (seen : List Entry) → IsPrefix v.seen seen → IsLegal v.book.session seen
    → IsVault view (record v { seen = seen }) k
vault_longer view v k is seen pre legal =
    subst (λ (h : List Entry). IsVault view (record v { seen = h }) k) pre.1
    (record {
      keeper = longer_shown view (past_of v) k is.keeper pre.0
          (record { sound = is.keeper.story.sound; tells = is.keeper.story.tells; legal = subst (IsLegal v.book.session) (sym pre.1) legal });
      durable = is.durable;
      counted = is.counted;
      late = is.late;
      timely = is.timely;
      waiting = waiting_longer (story_of v) pre.0 (past_of v).noted (durable v.syncs) (λ q le. take-append-le q v.seen pre.0 (few q le)) (view (disk_of k)) v.pool v.unsynced (called (data_syncs v.syncs)) v.opened v.syncs is.waiting;
      roomy = record {
        bounded = is.roomy.bounded;
        room = λ healthy going.
            let low : durable v.syncs ≤ length v.seen = let few = is.keeper.kept.within in omega (arith, few, is.durable) in
            let same : records_to (story_with v (v.seen ++ pre.0)) (durable v.syncs) ≡ records_to (story_with v v.seen) (durable v.syncs) =
            ap (records_of v.book.session) (take-append-le (durable v.syncs) v.seen pre.0 low) in
            subst (λ (l : List Record). v.place ≤ first_place + 2 * length (spellings l)) (sym same) (is.roomy.room healthy going);
      };
    })
  where
    few : (q : ℕ) → q ≤ durable v.syncs → q ≤ length v.seen
    few q le = let low = is.keeper.kept.within in omega (arith, le, low, is.durable)

-- parts of the one are parts of the other
pub parts_longer : {D : Type 0} (v w : Vaulted D) (xs ys : List Entry) → w.book.session ≡ v.book.session → IsPrefix xs ys → (upto : ℕ) → upto ≤ length xs
    → (parts : List (List Record)) (from : ℕ) → from ≤ upto → AreParts (story_with v xs) from upto parts → AreParts (story_with w ys) from upto parts
parts_longer v w xs ys session pre upto within [] from le are = (are.0, same upto within ∙ are.1 ∙ sym (same from (omega (arith, le, within))))
  where
    same : (n : ℕ) → n ≤ length xs → records_to (story_with w ys) n ≡ records_to (story_with v xs) n
    same n low = ap (λ s. records_of s (take n ys)) session ∙ ap (records_of v.book.session) (front xs ys n pre low)
parts_longer v w xs ys session pre upto within (part ∷ parts) from le are = (
  are.0,
  are.1,
  are.2,
  same are.0 (omega (arith, are.2, within)) ∙ are.3 ∙ ap (λ (l : List Record). l ++ part) (sym (same from (omega (arith, le, within)))),
  parts_longer v w xs ys session pre upto within parts are.0 are.2 are.4,
)
  where
    same : (n : ℕ) → n ≤ length xs → records_to (story_with w ys) n ≡ records_to (story_with v xs) n
    same n low = ap (λ s. records_of s (take n ys)) session ∙ ap (records_of v.book.session) (front xs ys n pre low)

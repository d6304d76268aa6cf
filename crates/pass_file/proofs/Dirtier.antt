-- Which blocks of a file are dirty as more is seen of it.
use Rattle.std.proofs.Common.{◌≡◌, ℕ, ◌*◌, ◌<◌, ◌≤◌, List, [], ◌∷◌, ◌++◌, length, refl, ap, sym, ◌∙◌, subst, arith, Bool, true, false, ◌&&◌, ◌==◌, length-append}
use Rattle.std.specs.Prelude.{Option, Some, None, nat_le, if◌then◌else◌}
use Rattle.std.specs.Option.{option_map_or}
use Rattle.std.specs.List.{list_any}
use Rattle.std.proofs.lemmas.Bool.Decides.{nat_tests}
use mathlib.Core.List.{IsPrefix}
use Rattle.pass_entry.specs.declared.entry.Entry.{Entry}
use Rattle.pass_plain.specs.Files.{file_act, file_after}
use Rattle.pass_plain.specs.Histories.{is_fault, state_after}
use Rattle.pass_plain.specs.Lawful.{AgreeOn}
use Rattle.pass_plain.specs.Records.{block_size, has_row, row_act}
use Rattle.pass_plain.specs.Recording.{block_count, flags, is_change, is_digested_by}
use Rattle.pass_plain.specs.Sessions.{Session, opening_bytes, opening_rows}
use Rattle.pass_plain.proofs.Appends.{state_after-agrees}
use Rattle.pass_plain.proofs.Lists.{same_itself}
use Rattle.pass_plain.proofs.Replays.{own_step-own}
use Rattle.pass_plain.proofs.TwoPrefixes.{none_later}
use Rattle.pass_book.specs.declared.view.Role.TheVariants as role
use Rattle.pass_book.specs.declared.view.VaultSync.{VaultSync}
use Rattle.pass_book.specs.Names.{name, Listed}
use Rattle.pass_book.specs.Numbers.{IsFileNumber}
use Rattle.pass_book.specs.Syncs.{durable, IsRising}
use Rattle.pass_book.proofs.Backed.{number_stays}
use Rattle.pass_book.proofs.Prefixes.{prefix_trans}
use Rattle.pass_range.specs.Dirtied.{dirty_act, dirtied_at}
use Rattle.pass_clean.specs.Blocks.{AreListed, AreDirty}
use Rattle.pass_clean.specs.Cleaned.{cleaned, is_dirty_from, is_dirty}
use Rattle.pass_clean.proofs.Cleaning.{listed_law, durable_law, synced_law}
use Rattle.pass_hold.specs.Callings.{IsEntered}
use Rattle.pass_hold.proofs.Objects.{object_after}
use Rattle.pass_file.specs.Desks.{IsFileAfter}
use Rattle.pass_file.specs.FileViews.{FileView, dirty_by}

-- the state of an object stays while no entry is on it
pub still : {S : Type 0} (change : List Entry → S → Entry → S) (opening : S) (what : ℕ) (desk past : List Entry) → IsPrefix desk past → AgreeOn what desk past
    → state_after change what opening past ≡ state_after change what opening desk
still change opening what desk past begins agrees =
    ap (λ h. state_after change what opening h) (sym begins.1)
    ∙ state_after-agrees change what opening desk begins.0 (none_later (λ (f : Entry). f.what == what) desk begins.0 past begins.1 agrees)

dirty_tests : (digested change lower : Bool) (clean now place : ℕ) (at : Option ℕ) → now ≡ clean → now ≤ place
    → option_map_or (is_dirty_from now) (if digested then Some place else if change && lower then None else at) false
    ≡ (if digested then true else if change && lower then false else option_map_or (is_dirty_from clean) at false)
dirty_tests true change lower clean now place at same low = grind (arith, nat_tests)
dirty_tests false true true clean now place at same low = refl
dirty_tests false true false clean now place at same low = ap (λ c. option_map_or (is_dirty_from c) at false) same
dirty_tests false false lower clean now place at same low = ap (λ c. option_map_or (is_dirty_from c) at false) same

module _ (session : Session) (line desk after : List Entry) (e : Entry) (entered : IsEntered session line desk after e) (syncs later : List VaultSync)
    (listed : Listed (name role.Desk e.what) syncs later) (rising : IsRising later) (told : durable later < length after) (fine : is_fault e.reply ≡ false) where
  before_same : file_after session entered.past e.what ≡ file_after session desk e.what
  before_same = still (λ past content e. file_act content e.act) (opening_bytes session.start e.what) e.what desk entered.past entered.desk_begins entered.desk_agrees

  row_same : (block : ℕ) → has_row session entered.past e.what block ≡ has_row session desk e.what block
  row_same block = still (λ past had e. row_act block had e.act) (list_any (λ b. b == block) (opening_rows session.start e.what)) e.what desk entered.past entered.desk_begins entered.desk_agrees

  low : (block : ℕ) → cleaned e.what block later ≤ length entered.past
  low block =
      let longer = ap length entered.whole ∙ length-append entered.past (e ∷ []) in
      let most = durable_law e.what block later rising in
      omega (arith, longer, most, told)

  pub dirty_now : (block : ℕ) → is_dirty session after later e.what block
      ≡ dirty_by (length (file_after session desk e.what)) (length (file_act (file_after session desk e.what) e.act)) (has_row session desk e.what block) e.act block (is_dirty session desk syncs e.what block)
  unfolding dirty_by
  dirty_now block =
      ap (λ (o : Option ℕ). option_map_or (is_dirty_from (cleaned e.what block later)) o false)
      (object_after session line desk after e entered (λ past at e. dirty_act session past block at e) None
      ∙ own_step-own (λ past at e. dirty_act session past block at e) e.what entered.past (dirtied_at session desk e.what block) e (same_itself e.what) fine)
      ∙ (λ i. option_map_or (is_dirty_from (cleaned e.what block later))
      (if is_digested_by (length (before_same i)) (length (file_act (before_same i) e.act)) (row_same block i) e.act block then Some (length entered.past)
      else if is_change e.act && nat_le (length (file_act (before_same i) e.act)) (block * block_size) then None else dirtied_at session desk e.what block) false)
      ∙ dirty_tests (is_digested_by (length (file_after session desk e.what)) (length (file_act (file_after session desk e.what) e.act)) (has_row session desk e.what block) e.act block)
      (is_change e.act) (nat_le (length (file_act (file_after session desk e.what) e.act)) (block * block_size))
      (cleaned e.what block syncs) (cleaned e.what block later) (length entered.past) (dirtied_at session desk e.what block)
      (sym (listed_law e.what block syncs later listed)) (low block)

  -- the file after the entry
  pub file_now : (f g : FileView) → IsFileAfter session desk syncs e.what f → g.bytes ≡ file_act f.bytes e.act
      → ((had : ℕ → Bool) → f.rows ≡ flags had block_count → g.rows ≡ flags (λ block. row_act block (had block) e.act) block_count)
      → ((had was : ℕ → Bool) → f.rows ≡ flags had block_count → f.dirty ≡ flags was block_count
      → g.dirty ≡ flags (λ block. dirty_by (length f.bytes) (length (file_act f.bytes e.act)) (had block) e.act block (was block)) block_count)
      → IsFileAfter session after later e.what g
  file_now f g is bytes rows dirty = record {
    bytes = bytes ∙ ap (λ bytes. file_act bytes e.act) is.bytes ∙ sym (own (λ past content e. file_act content e.act) (opening_bytes session.start e.what));
    rows = rows (has_row session desk e.what) is.rows
        ∙ ap (λ (had : ℕ → Bool). flags had block_count) (λ i block. sym (own (λ past had e. row_act block had e.act) (list_any (λ b. b == block) (opening_rows session.start e.what))) i);
    dirty = dirty (has_row session desk e.what) (is_dirty session desk syncs e.what) is.rows is.dirty
        ∙ ap (λ (bytes : List ℕ). flags (λ block. dirty_by (length bytes) (length (file_act bytes e.act)) (has_row session desk e.what block) e.act block (is_dirty session desk syncs e.what block)) block_count) is.bytes
        ∙ ap (λ (was : ℕ → Bool). flags was block_count) (λ i block. sym (dirty_now block) i);
  }
    where
      own : {S : Type 0} (change : List Entry → S → Entry → S) (opening : S) → state_after change e.what opening after ≡ change entered.past (state_after change e.what opening desk) e
      own change opening = object_after session line desk after e entered change opening ∙ own_step-own change e.what entered.past (state_after change e.what opening desk) e (same_itself e.what) fine

-- a file keeps its number
pub number_entered : (session : Session) (line desk after : List Entry) (e : Entry) (file n : ℕ) → IsEntered session line desk after e → IsFileNumber session desk file n → IsFileNumber session after file n
number_entered session line desk after e file n entered is =
    number_stays session desk after file n (prefix_trans desk entered.past after entered.desk_begins (e ∷ [], sym entered.whole)) is

-- who sees more of the history, and all that is of the file
pub file_seen : (session : Session) (desk after : List Entry) (syncs later : List VaultSync) (what : ℕ) (f : FileView) → IsFileAfter session desk syncs what f → IsPrefix desk after → AgreeOn what desk after
    → Listed (name role.Desk what) syncs later → IsFileAfter session after later what f
file_seen session desk after syncs later what f is begins agrees listed = record {
  bytes = is.bytes ∙ sym (still (λ past content e. file_act content e.act) (opening_bytes session.start what) what desk after begins agrees);
  rows = is.rows ∙ ap (λ (had : ℕ → Bool). flags had block_count)
      (λ i block. sym (still (λ past had e. row_act block had e.act) (list_any (λ b. b == block) (opening_rows session.start what)) what desk after begins agrees) i);
  dirty = is.dirty ∙ ap (λ (was : ℕ → Bool). flags was block_count)
      (λ i block. option_map_or (is_dirty_from (listed_law what block syncs later listed i)) (sym (still (λ past at e. dirty_act session past block at e) None what desk after begins agrees) i) false);
}

-- after a sync of all that was seen of it
pub file_cleaned : (session : Session) (seen : List Entry) (ss : List VaultSync) (s : VaultSync) (number what : ℕ) (f g : FileView) → IsFileAfter session seen ss what f
    → s.file ≡ Some (record { pnode = what; number = number }) → s.staged ≡ None → length seen ≤ s.entries
    → g.bytes ≡ f.bytes → g.rows ≡ f.rows → g.dirty ≡ flags (λ _. false) block_count → IsFileAfter session seen (ss ++ s ∷ []) what g
file_cleaned session seen ss s number what f g is mark whole all bytes rows dirty = record {
  bytes = bytes ∙ is.bytes;
  rows = rows ∙ is.rows;
  dirty = dirty ∙ ap (λ (was : ℕ → Bool). flags was block_count) (λ i block. sym (synced_law session seen ss s number what block mark whole all) i);
}

pub dirty_blocks : (session : Session) (seen : List Entry) (syncs : List VaultSync) (what : ℕ) (bytes : List ℕ) (blocks : List (ℕ × List ℕ)) → bytes ≡ file_after session seen what
    → AreListed (is_dirty session seen syncs what) bytes block_count blocks → AreDirty session seen syncs what blocks
unfolding AreDirty block_count
dirty_blocks session seen syncs what bytes blocks same are = subst (λ (b : List ℕ). AreListed (is_dirty session seen syncs what) b 1024 blocks) same are

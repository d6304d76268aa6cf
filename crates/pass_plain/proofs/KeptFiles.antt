-- What is kept of files after one more entry.
use Rattle.std.proofs.Common.{◌≡◌, ◌≢◌, ◌<◌, ◌^◌, ℕ, List, [], ◌∷◌, ◌++◌, length, refl, ap, sym, ◌∙◌, subst, arith, Bool, true, false, not, cond, ◌==◌, ◌&&◌, ◌||◌}
use Rattle.std.specs.Prelude.{Option, Some, None, Result, Ok, Err, IfOk}
use Rattle.std.specs.declared.alloc.AllocError.{AllocError}
use Rattle.std.specs.Option.{MatchOption}
use Rattle.std.specs.Ordering.{nat_cmp, is_eq}
use Rattle.std.specs.declared.cmp.Ordering.TheVariants.{Equal}
use Rattle.std.specs.FinMap.{nat_cmp-IsAntisymmetric}
use Rattle.std.specs.Cmp.{nat_cmp_is}
use Rattle.std.specs.BTreeMap.{BTreeMap, get, UpdatesBy}
use Rattle.std.proofs.lemmas.List.FromFn.{length-map-range_with_len}
use Rattle.std.proofs.lemmas.List.Folds.{list_any-append}
use Rattle.pass_entry.specs.declared.entry.Entry.{Entry}
use Rattle.pass_entry.specs.declared.entry.Act.{Act}
use Rattle.pass_entry.specs.declared.entry.Act.TheVariants as act
use Rattle.pass_plain.specs.Histories.{is_fault}
use Rattle.pass_plain.specs.Sessions.{opening_bytes}
use Rattle.pass_plain.specs.Files.{file_act}
use Rattle.pass_plain.specs.Records.{row_act}
use Rattle.pass_plain.specs.Recording.{block_count, flags, is_change, changes, bytes_after, row_after, opened_row, IsUntouched, IsContent, IsKept, AreKept}
use Rattle.pass_plain.specs.declared.start.Start.{Start}
use Rattle.pass_plain.specs.declared.contents.Content.{Content}
use Rattle.pass_plain.proofs.Replays.{state_after-append, own_step-own, own_step-other, own_step-fault}
use Rattle.pass_plain.proofs.Lists.{same_itself, is_equal, and_none, different}

pub few_blocks : block_count < 2 ^ 32
unfolding block_count
few_blocks = omega arith

pub length-flags : (had : ℕ → Bool) (n : ℕ) → length (flags had n) ≡ n
length-flags had n = length-map-range_with_len had 0 n

-- an act that changes no content leaves its file
pub quiet_bytes : (a : Act) (content : List ℕ) → is_change a ≡ false → file_act content a ≡ content
quiet_bytes (act.Put out at bytes) content quiet = absurd (cc)
quiet_bytes (act.Cut out size) content quiet = absurd (cc)
quiet_bytes _ content quiet = refl

pub quiet_row : (a : Act) (block : ℕ) (had : Bool) → is_change a ≡ false → row_act block had a ≡ had
quiet_row (act.Put out at bytes) block had quiet = absurd (cc)
quiet_row (act.Cut out size) block had quiet = absurd (cc)
quiet_row _ block had quiet = refl

neither : (a b : Bool) → ((a && false) && b) ≡ false
neither true b = refl
neither false b = refl

module _ (start : Start) (history : List Entry) (e : Entry) (file : ℕ) where
  pub bytes_own : (e.what == file) ≡ true → is_fault e.reply ≡ false → bytes_after start (history ++ e ∷ []) file ≡ file_act (bytes_after start history file) e.act
  bytes_own own done =
      state_after-append (λ past content e. file_act content e.act) file (opening_bytes start file) history e
      ∙ own_step-own (λ past content e. file_act content e.act) file history (bytes_after start history file) e own done

  row_own : (block : ℕ) → (e.what == file) ≡ true → is_fault e.reply ≡ false → row_after start (history ++ e ∷ []) file block ≡ row_act block (row_after start history file block) e.act
  row_own block own done =
      state_after-append (λ past had e. row_act block had e.act) file (opened_row start file block) history e
      ∙ own_step-own (λ past had e. row_act block had e.act) file history (row_after start history file block) e own done

  -- what an entry leaves as it was
  pub record Leaves : Type 0 where
    pub quiet : changes file e ≡ false
    pub bytes : bytes_after start (history ++ e ∷ []) file ≡ bytes_after start history file
    pub rows : (block : ℕ) → row_after start (history ++ e ∷ []) file block ≡ row_after start history file block

  pub other_leaves : (e.what == file) ≡ false → Leaves
  other_leaves other = record {
    quiet = ap (λ b. (b && not (is_fault e.reply)) && is_change e.act) other;
    bytes = state_after-append (λ past content e. file_act content e.act) file (opening_bytes start file) history e
        ∙ own_step-other (λ past content e. file_act content e.act) file history (bytes_after start history file) e other;
    rows = λ block. state_after-append (λ past had e. row_act block had e.act) file (opened_row start file block) history e
        ∙ own_step-other (λ past had e. row_act block had e.act) file history (row_after start history file block) e other;
  }

  pub fault_leaves : is_fault e.reply ≡ true → Leaves
  fault_leaves fault = record {
    quiet = ap (λ b. (e.what == file && not b) && is_change e.act) fault ∙ neither (e.what == file) (is_change e.act);
    bytes = state_after-append (λ past content e. file_act content e.act) file (opening_bytes start file) history e
        ∙ own_step-fault (λ past content e. file_act content e.act) file history (bytes_after start history file) e fault;
    rows = λ block. state_after-append (λ past had e. row_act block had e.act) file (opened_row start file block) history e
        ∙ own_step-fault (λ past had e. row_act block had e.act) file history (row_after start history file block) e fault;
  }

  pub quiet_leaves : is_change e.act ≡ false → Leaves
  quiet_leaves quiet = by_cases (e.what == file) (is_fault e.reply) refl refl
    where
      by_cases : (own fault : Bool) → (e.what == file) ≡ own → is_fault e.reply ≡ fault → Leaves
      by_cases false fault other t = other_leaves other
      by_cases true true own t = fault_leaves t
      by_cases true false own t = record {
        quiet = ap (λ b. (e.what == file && not (is_fault e.reply)) && b) quiet ∙ and_none (e.what == file && not (is_fault e.reply));
        bytes = bytes_own own t ∙ quiet_bytes e.act (bytes_after start history file) quiet;
        rows = λ block. row_own block own t ∙ quiet_row e.act block (row_after start history file block) quiet;
      }

  content_left : (c : Content) → Leaves → IsContent start history file c → IsContent start (history ++ e ∷ []) file c
  content_left c leaves is = record {
    bytes = is.bytes ∙ sym leaves.bytes;
    rows = is.rows ∙ ap (λ (had : ℕ → Bool). flags had block_count) (λ i block. sym (leaves.rows block) i);
  }

  untouched_left : Leaves → IsUntouched start history file → IsUntouched start (history ++ e ∷ []) file
  untouched_left leaves is = record {
    quiet = list_any-append (changes file) history (e ∷ []) ∙ (λ i. is.quiet i || (leaves.quiet i || false));
    bytes = leaves.bytes ∙ is.bytes;
    rows = λ block. leaves.rows block ∙ is.rows block;
  }

  left_at : (o : Option Content) → Leaves → MatchOption o (IsUntouched start history file) (IsContent start history file)
      → MatchOption o (IsUntouched start (history ++ e ∷ []) file) (IsContent start (history ++ e ∷ []) file)
  left_at None leaves is = untouched_left leaves is
  left_at (Some c) leaves is = content_left c leaves is

-- an entry that changes no content leaves all that is kept
pub quiet_kept : (start : Start) (history : List Entry) (e : Entry) (kept : BTreeMap ℕ Content) → is_change e.act ≡ false
    → AreKept start history kept → AreKept start (history ++ e ∷ []) kept
quiet_kept start history e kept quiet are = λ file. left_at start history e file (get nat_cmp kept file) (quiet_leaves start history e file quiet) (are file)

pub fault_kept : (start : Start) (history : List Entry) (e : Entry) (kept : BTreeMap ℕ Content) → is_fault e.reply ≡ true
    → AreKept start history kept → AreKept start (history ++ e ∷ []) kept
fault_kept start history e kept fault are = λ file. left_at start history e file (get nat_cmp kept file) (fault_leaves start history e file fault) (are file)

-- the content of the entry's own file
pub changed : (start : Start) (history : List Entry) (e : Entry) (c : Content) → is_fault e.reply ≡ false
    → c.bytes.items ≡ file_act (bytes_after start history e.what) e.act
    → c.rows.items ≡ flags (λ block. row_act block (row_after start history e.what block) e.act) block_count
    → IsContent start (history ++ e ∷ []) e.what c
changed start history e c done bytes rows = record {
  bytes = bytes ∙ sym (bytes_own start history e e.what (same_itself e.what) done);
  rows = rows ∙ ap (λ (had : ℕ → Bool). flags had block_count) (λ i block. sym (row_own start history e e.what block (same_itself e.what) done) i);
}

-- a file that no entry has changed has the content with which it was opened
pub untouched_content : (start : Start) (history : List Entry) (file : ℕ) (r : Result Content AllocError) → IsUntouched start history file
    → IfOk r (λ c. c.bytes.items ≡ opening_bytes start file) → IfOk r (λ c. c.rows.items ≡ flags (opened_row start file) block_count)
    → IfOk r (IsContent start history file)
untouched_content start history file (Ok c) is bytes rows = record {
  bytes = bytes ∙ sym is.bytes;
  rows = rows ∙ ap (λ (had : ℕ → Bool). flags had block_count) (λ i block. sym (is.rows block) i);
}
untouched_content start history file (Err e) is bytes rows = tt

same_key : (k : ℕ) → is_eq (nat_cmp k k) ≡ true
same_key k = ap is_eq (sym (nat_cmp_is k k Equal refl))

module _ (start : Start) (history : List Entry) (e : Entry) (m n : BTreeMap ℕ Content) (key : ℕ) (c : Content) (own : key ≡ e.what) where
  kept_if : (file : ℕ) → is_fault e.reply ≡ false → ((file : ℕ) → e.what ≢ file → IsKept start history m file) → IsContent start (history ++ e ∷ []) e.what c
      → (b : Bool) → is_eq (nat_cmp key file) ≡ b
      → MatchOption (cond b (Some c) (get nat_cmp m file)) (IsUntouched start (history ++ e ∷ []) file) (IsContent start (history ++ e ∷ []) file)
  kept_if file done others here true t =
      subst (λ file. IsContent start (history ++ e ∷ []) file c) (sym own ∙ nat_cmp-IsAntisymmetric key file (is_equal (nat_cmp key file) t)) here
  kept_if file done others here false t =
      let apart : e.what ≢ file = λ same. let z : true ≡ false = sym (same_key key) ∙ ap (λ q. is_eq (nat_cmp key q)) (own ∙ same) ∙ t in absurd (cc) in
      left_at start history e file (get nat_cmp m file) (other_leaves start history e file (different e.what file apart)) (others file apart)

  -- the file of an entry is kept again
  pub kept_again : is_fault e.reply ≡ false → UpdatesBy nat_cmp (nat_cmp key) m n (Some c) → ((file : ℕ) → e.what ≢ file → IsKept start history m file)
      → IsContent start (history ++ e ∷ []) e.what c → AreKept start (history ++ e ∷ []) n
  kept_again done update others here = λ file.
      subst (λ (o : Option Content). MatchOption o (IsUntouched start (history ++ e ∷ []) file) (IsContent start (history ++ e ∷ []) file)) (sym (update.0 file))
      (kept_if file done others here (is_eq (nat_cmp key file)) refl)

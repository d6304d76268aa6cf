-- A course that has come to the end of a version, and what it says there.
use Rattle.std.proofs.Common.{◌≡◌, ◌∙◌, ◌==◌, ◌&&◌, ◌+◌, ◌<◌, ◌≤◌, ◌++◌, ℕ, Bool, true, false, not, List, [], ◌∷◌, length, take, get_or, refl, sym, ap, subst, arith}
use Rattle.std.specs.declared.alloc.Global.{Global}
use Rattle.std.specs.Prelude.{Vec, Option, None, fold, nat_lt, if◌then◌else◌}
use Rattle.std.specs.List.{before_first, list_all, range_with_len}
use Rattle.std.specs.Ordering.{nat_cmp}
use Rattle.std.specs.BTreeMap.{get}
use Rattle.std.proofs.lemmas.List.{get_or_default, take_more}
use Rattle.std.proofs.lemmas.List.Sums.{fold_push, position_or_len_is}
use Rattle.pass_entry.proofs.Lists.{below_is, not_below}
use Rattle.pass_entry.specs.declared.objects.Node.{Node}
use Rattle.pass_entry.specs.declared.record.Record.{Record}
use Rattle.pass_plain.specs.WellLogged.{is_file_of, current_of, size_of}
use Rattle.pass_range.specs.Rows.{row_of}
use Rattle.pass_leaf.specs.Keeping.{part, block_total}
use Rattle.pass_audit.specs.Audits.{log_at, is_part_borne, verdict_on}
use Rattle.pass_audit.specs.Courses.{own_steps, is_later, file_step, version_step, size_step, row_step, IsAfter, IsNext, AreDoubted, AreSure, HasCome, verdict_by}
use Rattle.pass_audit.specs.declared.course.Course.{Course}
use Rattle.pass_audit.specs.declared.state.State.{State}
use Rattle.pass_audit.specs.declared.steps.Step.{Step}
use Rattle.pass_audit.specs.declared.steps.Step.TheVariants.{Made, Version, Size, Digest}
use Rattle.pass_audit.specs.declared.verdict.Verdict.TheVariants.{Borne, Unlike, Unknown}
use Rattle.pass_audit.proofs.Blocks.{sure_noted}
use Rattle.pass_audit.proofs.Stepping.{own_file, own_version, own_size, own_row, own_before}

pub after_next : (steps : List Step) (old new : State) (s : Step) → IsAfter steps old → IsNext old s new → IsAfter (steps ++ s ∷ []) new
after_next steps old new s was more = record {
  is_file = more.is_file ∙ ap (λ (b : Bool). file_step b s) was.is_file ∙ sym (fold_push file_step false steps s);
  version = more.version ∙ ap (λ (n : ℕ). version_step n s) was.version ∙ sym (fold_push version_step 1 steps s);
  size = more.size ∙ ap (λ (n : ℕ). size_step n s) was.size ∙ sym (fold_push size_step 0 steps s);
  rows = λ block. more.rows block ∙ ap (λ (o : Option (List ℕ)). row_step block o s) (was.rows block) ∙ sym (fold_push (row_step block) None steps s);
}

-- a step that begins no version above this one begins none above a later one
calm_later : (v w : ℕ) → v ≤ w → (s : Step) → is_later v s ≡ false → is_later w s ≡ false
calm_later v w low (Version n) calm = by (nat_lt w n) refl
  where
    by : (b : Bool) → nat_lt w n ≡ b → b ≡ false
    by false is = refl
    by true is = absurd (omega (arith, low, below_is w n is, not_below v n calm))
calm_later v w low (Made b) calm = refl
calm_later v w low (Size n) calm = refl
calm_later v w low (Digest n d) calm = refl

pub come_later : (v w : ℕ) (course : Course) → v ≤ w → HasCome v course → HasCome w course
come_later v w course low come = record {
  within = come.within;
  state = come.state;
  before = λ k d less. calm_later v w low (get_or course.steps.items k d) (come.before k d less);
  sure = come.sure;
}

-- a step further
pub come_further : (v : ℕ) (old new : Course) (s : Step) → HasCome v old → old.next < length old.steps.items → s ≡ get_or old.steps.items old.next s → is_later v s ≡ false
    → IsNext old.state s new.state → AreDoubted old.state.rows new.state.rows old.doubts new.doubts → new.next ≡ old.next + 1 → new.steps.items ≡ old.steps.items → new.content ≡ old.content → HasCome v new
come_further v old new s come less at calm more doubted next same content =
    let steps : List Step = old.steps.items in
    let longer : take (old.next + 1) steps ≡ take old.next steps ++ s ∷ [] = take_more steps old.next s less ∙ ap (λ (x : Step). take old.next steps ++ x ∷ []) (sym at) in
    let here : take new.next new.steps.items ≡ take old.next steps ++ s ∷ [] = (λ i. take (next i) (same i)) ∙ longer in
    record {
      within = omega (arith, less, next, ap (λ (l : List Step). length l) same);
      state = subst (λ (l : List Step). IsAfter l new.state) (sym here) (after_next (take old.next steps) old.state new.state s come.state more);
      before = λ k d low. by k d (omega (arith, low, next));
      sure = subst (λ (c : Vec ℕ Global). AreSure new.state.rows c.items new.doubts) (sym content) (sure_noted old.state.rows new.state.rows old.content.items old.doubts new.doubts come.sure doubted);
    }
  where
    by : (k : ℕ) (d : Step) → k < old.next + 1 → is_later v (get_or new.steps.items k d) ≡ false
    by k d low = ap (λ (l : List Step). is_later v (get_or l k d)) same ∙ cases (nat_lt k old.next) refl
      where
        cases : (b : Bool) → nat_lt k old.next ≡ b → is_later v (get_or old.steps.items k d) ≡ false
        cases true is = come.before k d (below_is k old.next is)
        cases false is =
            let last : k ≡ old.next = omega (arith, low, not_below k old.next is) in
            ap (λ (n : ℕ). is_later v (get_or old.steps.items n d)) last ∙ ap (is_later v) (get_or_default old.steps.items old.next d s less ∙ sym at) ∙ calm

-- where it stops it has what stands before the first later version
pub come_to_end : (v : ℕ) (course : Course) → HasCome v course → ((d : Step) → course.next < length course.steps.items → is_later v (get_or course.steps.items course.next d) ≡ true)
    → IsAfter (before_first (is_later v) course.steps.items) course.state
come_to_end v course come stops =
    subst (λ (i : ℕ). IsAfter (take i course.steps.items) course.state)
    (sym (position_or_len_is (is_later v) course.steps.items course.next (Size 0) come.within (λ k less. come.before k (Size 0) less) (stops (Size 0))))
    come.state

-- What a state says of a version is what the log says of it
module _ (list : List Record) (node : Node) (steps : List Step) (are : steps ≡ own_steps node.pnode list) (state : State) (after : IsAfter (before_first (is_later node.version) steps) state) where
  ended : before_first (is_later node.version) steps ≡ own_steps node.pnode (log_at list node)
  ended = ap (before_first (is_later node.version)) are ∙ sym (own_before node list)

  same_file : state.is_file ≡ is_file_of (log_at list node) node.pnode
  same_file = after.is_file ∙ ap (fold file_step false) ended ∙ sym (own_file node.pnode (log_at list node))

  same_version : state.version ≡ current_of (log_at list node) node.pnode
  same_version = after.version ∙ ap (fold version_step 1) ended ∙ sym (own_version node.pnode (log_at list node))

  same_size : state.size ≡ size_of (log_at list node) node.pnode
  same_size = after.size ∙ ap (fold size_step 0) ended ∙ sym (own_size node.pnode (log_at list node))

  same_row : (block : ℕ) → get nat_cmp state.rows block ≡ row_of (log_at list node) node.pnode block
  same_row block = after.rows block ∙ ap (fold (row_step block) None) ended ∙ sym (own_row node.pnode (log_at list node) block)

  pub same_verdict : (content : List ℕ) → verdict_by state node.version content ≡ verdict_on (log_at list node) node content
  same_verdict content = λ i.
      if not (same_file i && (same_version i == node.version)) then Unknown
      else if (same_size i == length content) && list_all (λ (block : ℕ). is_part_borne (same_row block i) (part content block)) (range_with_len 0 (block_total (length content))) then Borne
      else Unlike

-- of a file of which the list says nothing it has no version
pub no_verdict : (list : List Record) (node : Node) (content : List ℕ) → own_steps node.pnode list ≡ [] → verdict_on (log_at list node) node content ≡ Unknown
no_verdict list node content none =
    let nothing : own_steps node.pnode (log_at list node) ≡ [] = own_before node list ∙ ap (before_first (is_later node.version)) none in
    let no_file : is_file_of (log_at list node) node.pnode ≡ false = own_file node.pnode (log_at list node) ∙ ap (fold file_step false) nothing in
    λ i. if not (no_file i && (current_of (log_at list node) node.pnode == node.version)) then Unknown
    else if (size_of (log_at list node) node.pnode == length content) && list_all (λ (block : ℕ). is_part_borne (row_of (log_at list node) node.pnode block) (part content block)) (range_with_len 0 (block_total (length content))) then Borne
    else Unlike

-- A store that reads what a crash left since a sync.
use Rattle.std.proofs.Common.{ℕ, List, subst}
use Rattle.std.specs.Prelude.{IsTrue}
use Rattle.pass_entry.specs.declared.record.Record.{Record}
use Rattle.pass_keep.specs.Kept.{list_to}
use Rattle.pass_keep.proofs.Keeping.{one_list}
use Rattle.pass_outside.specs.Areas.{Image}
use Rattle.pass_outside.specs.Moments.{Moment}
use Rattle.pass_range.specs.Rows.{IsUnmatched}
use Rattle.pass_range.specs.declared.range.Range.{Range}
use Rattle.pass_book.specs.declared.view.FileMark.{FileMark}
use Rattle.pass_run.specs.Stored.{HasFileKept}
use Rattle.pass_run.specs.Successive.{OverRun, IsReopened, IsReopenedSince, story_of_over}

pub reopened_since : {D : Type 0} (view : D → Moment) (old new : D) (run : OverRun view old new) (p q : ℕ) (f : FileMark) (kept : HasFileKept (story_of_over run) (view new) run.syncs p q f) → IsTrue (view new).tells
    → (c : Image) → (view new).left_since kept.sync.x.calls c → (list : List Record) (unmatched : List Range) → IsReopened c list unmatched → IsReopenedSince (story_of_over run) kept.sync.x f list unmatched
reopened_since view old new run p q f kept told c left list unmatched is =
    let s = story_of_over run in
    let first = run.over.stored.since told kept.sync.i kept.sync.x kept.sync.is c left in
    let same = one_list list (list_to s first.count) c.log is.records first.records in
    record {
      count = first.count;
      enough = first.enough;
      within = first.within;
      told = same;
      matched = λ block at source low listed.
          (kept.keeps told c left first.count first.within first.records block at source low).1
          (subst (λ (l : List Record). IsUnmatched l c.store f.pnode block) same ((is.exact.exact f.pnode block).0 listed));
    }

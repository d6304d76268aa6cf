use Rattle.std.proofs.Common.{◌≡◌, ◌∙◌, ℕ, List, arith, length, sym, subst}
use Rattle.std.specs.Vec.{vec_len}
use Rattle.std.specs.Prelude.{Result, Ok}
use Rattle.pass_vault.specs.Blocks.{AreSomeDirty}
use Rattle.pass_safe.specs.Commits.{staged_to}
use Rattle.pass_safe.specs.declared.fault.SafeFault.{SafeFault}
use Rattle.pass_safe.proofs.Clean.{not_zero}
use Rattle.pass_safe.proofs.Lent.{err_on, ok_on}
use Rattle.pass_safe.proofs.Stagings.{staged_left, unstaged_left}
use Rattle.pass_safe.proofs.working.stage_file.Goals as goal

pub stage_blocks-file-requires-clause-dirty : goal.stage_blocks-file-requires-clause-dirty
stage_blocks-file-requires-clause-dirty g c =
    let S = g.J.Whose.book.session in
    let f = c.args.file in
    subst (λ (l : List (ℕ × List ℕ)). AreSomeDirty S f.seen f.syncs f.what l) (sym (c.deref.ensures.value ∙ c.truncate.ensures.items))
    (c.some_dirty.ensures S f.seen f.syncs f.what c.in-Ok.blocks.items c.args.limit c.in-Ok.ensures.dirty)

pub returns-then-is_empty-clause-done : goal.returns-then-is_empty-clause-done
returns-then-is_empty-clause-done g c = λ none. absurd (omega (arith, none))

pub returns-in-Ok-result-clause-done : goal.returns-in-Ok-result-clause-done
returns-in-Ok-result-clause-done g c = λ some.
    let S = g.J.Whose.book.session in
    let f = c.args.file in
    let w = c.stage_blocks-file.new.vault in
    let blocks = c.truncate.new.self in
    let slice = c.deref.ensures.value in
    let long = blocks.ok.0 in
    let len = c.len-count.ensures in
    record {
      blocks = blocks.items;
      count = omega (arith, long, len);
      dirty = subst (λ (l : List (ℕ × List ℕ)). AreSomeDirty S f.seen f.syncs f.what l) (sym c.truncate.ensures.items) (c.some_dirty.ensures S f.seen f.syncs f.what c.in-Ok.blocks.items c.args.limit c.in-Ok.ensures.dirty);
      calls = (g.D.Disk.view w.disk).calls;
      vault = subst (λ (l : List (ℕ × List ℕ)). w ≡ staged_to c.args.vault.now w f.what f.number (g.D.Disk.view w.disk).calls (length f.seen) l) slice
          (ok_on c.stage_blocks-file.result.1 (tt {0}) c.in-Ok-result.is c.stage_blocks-file.ensures.done);
    }

pub returns-in-Ok-result-clause-idle : goal.returns-in-Ok-result-clause-idle
returns-in-Ok-result-clause-idle g c = λ is.
    let blocks = c.truncate.new.self in
    let len = c.len-count.ensures in
    let none : vec_len blocks ≡ 0 = let z = ok_inside _ 0 is in omega (arith, z, len) in
    absurd (not_zero (vec_len blocks) (sym c.is_empty.ensures ∙ c.if-is_empty.false) none)
  where
    ok_inside : (n m : ℕ) → ◌≡◌ {A = Result ℕ SafeFault} (Ok n) (Ok m) → n ≡ m
    ok_inside n m is = cc

pub returns-in-Ok-result-clause-same : goal.returns-in-Ok-result-clause-same
returns-in-Ok-result-clause-same g c =
    let f = c.args.file in
    let v = c.args.vault.now in
    let w = c.stage_blocks-file.new.vault in
    staged_left v w f.what f.number (g.D.Disk.view w.disk).calls (length f.seen) _ (ok_on c.stage_blocks-file.result.1 (tt {0}) c.in-Ok-result.is c.stage_blocks-file.ensures.done)

pub returns-clause-same : goal.returns-clause-same
returns-clause-same g c =
    let v = c.args.vault.now in
    let w = c.stage_blocks-file.new.vault in
    unstaged_left v w (err_on c.stage_blocks-file.result.1 c.in-Err.fault c.in-Err.is c.stage_blocks-file.ensures.undone)

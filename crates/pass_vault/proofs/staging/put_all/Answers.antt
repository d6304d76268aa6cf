use Rattle.std.proofs.Common.{◌≡◌, ◌∙◌, ◌∷◌, [], ℕ, List, get_or, sym, ap, subst}
use Rattle.std.proofs.lemmas.List.{take_all}
use Rattle.pass_keep.specs.Keepers.{disk_of}
use Rattle.pass_vault.specs.Saves.{IsStageable, Stages, StagesNone}
use Rattle.pass_vault.proofs.Putting.{loop_still, loop_known, loop_more, loop_failed, goes_more, pool_more, unsyncs_more, made_more}
use Rattle.pass_vault.proofs.staging.put_all.Goals as goal
use Rattle.pass_entry.proofs.Variants.{err_always}

pub returns-in_err-bytes-clause-still : goal.returns-in_err-bytes-clause-still
returns-in_err-bytes-clause-still g c =
    let k = c.args.keeper.now in
    let u = c.args.unwritten.now in
    err_always c.from_residual.result (StagesNone g.D.Disk.view c.args.number c.args.blocks.now k u c.loop-one.keeper c.loop-one.unwritten) (loop_still g.D.Disk.view c.args.number k u c.args.blocks.now c.loop-one.one-index c.loop-one.keeper c.loop-one.unwritten c.loop-one.invariant.staged)

pub put_one-requires : goal.put_one-requires
put_one-requires g c =
    let l = c.loop-one in
    let item : ℕ × List ℕ = c.one-item.result in
    let same : get_or c.args.blocks.now l.one-index item ≡ (item.0, c.in_ok-bytes.bytes) = sym c.one-item.is ∙ ap (λ (bytes : List ℕ). (item.0, bytes)) (sym c.in_ok-bytes.ensures.cases) in
    record {
      known = subst (λ (b : ℕ × List ℕ). IsStageable g.D.Disk.view l.keeper l.unwritten c.args.number (b ∷ [])) same
          (loop_known g.D.Disk.view c.args.number c.args.keeper.now c.args.unwritten.now c.args.blocks.now l.one-index l.keeper l.unwritten l.invariant.staged item c.loop-one-test.true l.invariant.durable c.requires.known);
    }

pub returns-in_err-put_one-clause-still : goal.returns-in_err-put_one-clause-still
returns-in_err-put_one-clause-still g c =
    let l = c.loop-one in
    let k = c.args.keeper.now in
    let u = c.args.unwritten.now in
    let new = c.put_one.new in
    let item : ℕ × List ℕ = c.one-item.result in
    let same : get_or c.args.blocks.now l.one-index item ≡ (item.0, c.in_ok-bytes.bytes) = sym c.one-item.is ∙ ap (λ (bytes : List ℕ). (item.0, bytes)) (sym c.in_ok-bytes.ensures.cases) in
    err_always c.from_residual-in_err-put_one.result (StagesNone g.D.Disk.view c.args.number c.args.blocks.now k u new.keeper new.unwritten) (loop_failed g.D.Disk.view c.args.number k u c.args.blocks.now l.one-index l.keeper l.unwritten l.invariant.staged item c.loop-one-test.true l.invariant.durable new.keeper new.unwritten
    (subst (λ (b : ℕ × List ℕ). StagesNone g.D.Disk.view c.args.number (b ∷ []) l.keeper l.unwritten new.keeper new.unwritten) (sym same) c.in_err-put_one.ensures.still))

pub loop-one-preserved : goal.loop-one-preserved
loop-one-preserved g c =
    let view = g.D.Disk.view in
    let l = c.loop-one in
    let k = c.args.keeper.now in
    let u = c.args.unwritten.now in
    let xs = c.args.blocks.now in
    let new = c.put_one.new in
    let done = c.in_ok-put_one.ensures in
    let item : ℕ × List ℕ = c.one-item.result in
    let one : ℕ × List ℕ = (item.0, c.in_ok-bytes.bytes) in
    let same : get_or xs l.one-index item ≡ one = sym c.one-item.is ∙ ap (λ (bytes : List ℕ). (item.0, bytes)) (sym c.in_ok-bytes.ensures.cases) in
    record {
      staged = loop_more view c.args.number k u xs l.one-index l.keeper l.unwritten l.invariant.staged item c.loop-one-test.true l.invariant.durable new.keeper new.unwritten
          (subst (λ (b : ℕ × List ℕ). Stages view c.args.number (b ∷ []) l.keeper l.unwritten new.keeper new.unwritten) (sym same) done.kept);
      pool = pool_more u.pool c.args.number xs l.one-index item one c.loop-one-test.true same l.unwritten.pool l.invariant.pool new.unwritten.pool done.pool;
      unsynced = unsyncs_more u.pool c.args.number xs l.one-index item one c.loop-one-test.true same l.unwritten.pool l.invariant.pool u.unsynced l.unwritten.unsynced new.unwritten.unsynced l.invariant.unsynced done.unsynced;
      made = made_more u.pool c.args.number xs l.one-index item one c.loop-one-test.true same l.unwritten.pool l.invariant.pool (view (disk_of k)) (view (disk_of l.keeper)) (view (disk_of new.keeper)) l.invariant.made done.made;
      log = c.put_one.ensures.log ∙ l.invariant.log;
      durable = c.put_one.ensures.durable ∙ l.invariant.durable;
      goes_on = goes_more (view (disk_of k)) (view (disk_of l.keeper)) (view (disk_of new.keeper)) l.invariant.goes_on c.put_one.ensures.goes_on;
    }

pub returns-clause-kept : goal.returns-clause-kept
returns-clause-kept g c =
    let l = c.loop-one in
    subst (λ (xs : List (ℕ × List ℕ)). Stages g.D.Disk.view c.args.number xs c.args.keeper.now c.args.unwritten.now l.keeper l.unwritten) (take_all l.one-index c.args.blocks.now c.loop-one-test.false) l.invariant.staged

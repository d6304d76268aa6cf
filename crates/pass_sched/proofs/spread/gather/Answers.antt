use Rattle.std.proofs.Common.{◌≡◌, ◌++◌, ◌∷◌, true, false, ◌&&◌, ◌||◌, nat_lt, cond, ap, ◌∙◌, sym, subst, arith, append-nil, IsPermutation, IsOk}
use Rattle.std.proofs.lemmas.Bool.{lt-ltb}
use Rattle.pass_sched.specs.Passes.{is_failed}
use Rattle.pass_sched.specs.Jobs.{run_of}
use Rattle.pass_sched.proofs.Perms.{same, behind, filter_none, filter_all}
use Rattle.pass_sched.proofs.Underway.{step}
use Rattle.pass_sched.proofs.spread.gather.Goals as goal

pub returns-clause-kept : goal.returns-clause-kept
returns-clause-kept g c given runs others under =
    let d = c.args.job in
    let living : nat_lt 0 (g.T.Task.left d.was.value) ≡ true = lt-ltb _ _ c.requires.done.living in
    let room : IsOk c.append.result = c.append.ensures.succeeds (omega (arith, c.requires.room)) in
    let items = c.append.ensures.items ∙ (ap (λ b. cond b (c.push_reserved.new.self.items ++ d.born.items) c.push_reserved.new.self.items) room ∙ ap (λ l. l ++ d.born.items) c.push_reserved.ensures.items) in (
      run_of d,
      step g.T.Task false given runs others c.args.through.now.items others c.append.new.self.items c.args.outcome.now.failed c.args.outcome.now.moved c.note.new.self.failed c.note.new.self.moved (run_of d) under
          c.requires.done.run
          (same _ _ (ap (λ l. others ++ l) (filter_none d.born.items) ∙ append-nil others))
          (subst (λ l. IsPermutation (d.task ∷ (c.args.through.now.items ++ l)) c.append.new.self.items) (sym (filter_all d.born.items))
          (subst (IsPermutation (d.task ∷ (c.args.through.now.items ++ d.born.items))) (sym items) (behind c.args.through.now.items d.born.items d.task)))
          (c.note.ensures.failed ∙ ap (λ b. (b && is_failed (g.T.Task.last d.task)) || c.args.outcome.now.failed) (sym living))
          (c.note.ensures.moved ∙ ap (λ n. nat_lt (g.T.Task.left d.task) n || c.args.outcome.now.moved) c.requires.done.had_is),
    )

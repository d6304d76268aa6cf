use Rattle.std.proofs.Common.{◌≡◌, ℕ, Bool, length, false, ap, ◌∙◌, arith}
use Rattle.std.proofs.lemmas.List.FromFn.{fill_by_all}
use Rattle.pass_plain.specs.Records.{row_act}
use Rattle.pass_plain.specs.Recording.{flags}
use Rattle.pass_plain.proofs.Digests.{flag_at}
use Rattle.pass_plain.proofs.contents.turn_rows.Goals as goal

pub returns : goal.returns
returns c = λ (had : ℕ → Bool) (is : c.args.rows.now ≡ flags had (length c.args.rows.now)).
    fill_by_all (λ block. row_act block (had block) c.args.act.now) c.loop-block.rows (length c.args.rows.now) false c.loop-block.auto.rows
    (λ k below. c.loop-block.invariant.turned k (omega arith) ∙ ap (λ b. row_act k b c.args.act.now) (flag_at had c.args.rows.now (length c.args.rows.now) k false is below))

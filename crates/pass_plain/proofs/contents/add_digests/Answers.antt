use Rattle.std.proofs.Common.{◌≡◌, ◌++◌, ◌∷◌, [], ◌∙◌, ap, sym, ℕ, Bool, Vec, Global, length, false}
use Rattle.pass_entry.specs.declared.record.Record.{Record}
use Rattle.pass_plain.specs.Recording.{flags, is_digested_by}
use Rattle.pass_plain.proofs.Digests.{flag_at, digests_then, digests_else}
use Rattle.pass_plain.proofs.contents.add_digests.Goals as goal
use Rattle.pass_plain.proofs.contents.add_digests.Goals.{then-is_digested+in_ok-push, else-is_digested}

pub loop-block-preserved : goal.loop-block-preserved
loop-block-preserved c = λ (had : ℕ → Bool) (is : c.args.rows.now ≡ flags had (length c.args.rows.now)).
    let rows = c.args.rows.now in
    let block = c.loop-block.block in
    let new = c.args.content.now in
    let flag = flag_at had rows (length rows) block false is c.loop-block-test.true in
    let test : c.is_digested.result ≡ is_digested_by c.args.old (length new) (had block) c.args.act.now block =
    c.is_digested.ensures ∙ ap (λ b. is_digested_by c.args.old (length new) b c.args.act.now block) flag in
    elim c.if-is_digested.branch [
      | then-is_digested+in_ok-push w ↦
          digests_then c.args.file c.args.old new had c.args.act.now block c.args.list.now.items c.loop-block.list.items c.if-is_digested.list.items (c.loop-block.invariant had is) (sym test ∙ w.if-is_digested.true)
          (ap (λ (v : Vec Record Global). v.items) w.list-is ∙ w.in_ok-push.ensures.items ∙ ap (λ (r : Record). c.loop-block.list.items ++ r ∷ []) w.digest_of.ensures)
      | else-is_digested w ↦
          ap (λ (v : Vec Record Global). v.items) w.list-is
          ∙ digests_else c.args.file c.args.old new had c.args.act.now block c.args.list.now.items c.loop-block.list.items (c.loop-block.invariant had is) (sym test ∙ w.if-is_digested.false)
    ]

use Rattle.std.proofs.Common.{◌≡◌, sym, ◌∙◌, count_by, rules}
use Rattle.pass_outside.specs.Keeping.{is_sync}
use Rattle.pass_outside.proofs.Kept.{syncs_counted}
use Rattle.pass_outside.proofs.keep.count_syncs.Goals as goal

pub returns : goal.returns
returns c =
    let counted : c.count.result ≡ count_by (is_sync c.args.area) c.args.events.now = search rules in
    counted ∙ sym (syncs_counted c.args.area c.args.events.now)

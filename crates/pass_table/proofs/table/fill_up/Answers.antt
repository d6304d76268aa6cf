use Rattle.std.proofs.Common.{ℕ, ◌∙◌, ◌∷◌, [], List, length, sym, subst, ap, arith, rules}
use Rattle.std.specs.Prelude.{None}
use Rattle.std.proofs.lemmas.List.{length-append, length-replicate}
use Rattle.pass_table.specs.Tables.{flat, AreWhole}
use Rattle.pass_table.proofs.Flats.{Block}
use Rattle.pass_table.proofs.Parts.{zero_is}
use Rattle.pass_table.proofs.Growing.{extended_same, flat_push, whole_push, none_push}
use Rattle.pass_table.proofs.table.fill_up.Goals as goal

pub more-init : goal.more-init
more-init c = record {
  whole = c.requires.whole;
  most = c.requires.limit;
  grows = omega arith;
  room = c.requires.room;
  longer = omega arith;
  flat = extended_same (flat c.args.table.now.items) (length (flat c.args.table.now.items)) (omega arith);
}

pub more-preserved : goal.more-preserved
more-preserved c =
    let old = c.more.table.items in
    let new = c.push_reserved.new.self.items in
    let is = c.push_reserved.ensures.items in
    let i = c.more.invariant in
    let now = ap (λ (t : List Block). length (flat t)) is ∙ ap length (flat_push old None) ∙ length-append (flat old) _ in
    let more = ap length is ∙ length-append old (None ∷ []) in
    let longer = i.longer in
    let grows = i.grows in
    record {
      whole = subst (λ (t : List Block). AreWhole 4096 t) (sym is) (whole_push 4096 old None i.whole (ap length zero_is ∙ length-replicate {A = ℕ} 4096 0));
      most = search rules;
      grows = omega (arith, more, grows);
      room = search rules;
      longer = omega (arith, now, longer);
      flat = none_push 4096 c.args.table.now.items old new zero_is is i.longer i.flat;
    }

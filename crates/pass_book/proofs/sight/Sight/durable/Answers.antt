use Rattle.std.proofs.Common.{◌<◌, sym, ap, ◌∙◌, subst}
use Rattle.pass_book.proofs.Loading.{reads}
use Rattle.pass_book.proofs.sight.Sight.durable.Goals as goal

pub load-found-requires : goal.load-found-requires
load-found-requires c =
    let i = c.self.invariant.0 in
    let d = c.deref.ensures in
    (c.taken-seat.ensures.0 ∙ i.same ∙ sym (ap (λ t. t.shared.table_id) d), subst (λ n. 1 < n) (sym (ap (λ t. t.shared.table_id.words) d)) i.words, reads _ _ _ _)

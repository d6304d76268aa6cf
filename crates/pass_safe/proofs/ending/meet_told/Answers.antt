use Rattle.std.proofs.Common.{◌≤◌, ap, subst, arith, List, length}
use mathlib.Core.List.{IsPrefix}
use Rattle.pass_book.specs.Syncs.{durable}
use Rattle.pass_book.specs.declared.view.VaultSync.{VaultSync}
use Rattle.pass_book.specs.Tokens.{BookState}
use Rattle.pass_book.proofs.Backed.{durable_at}
use Rattle.pass_book.proofs.Prefixes.{prefix_get, prefix_length, prefix_trans}
use Rattle.pass_hold.specs.Callers.{CallerState}
use Rattle.pass_safe.proofs.Ends.{looked_twice}
use Rattle.pass_safe.proofs.ending.meet_told.Goals as goal

pub shed-requires-clause-durable : goal.shed-requires-clause-durable
shed-requires-clause-durable g c =
    let at = c.requires.synced.1 in
    let told = c.args.told.syncs in
    let now = c.look.new.self.syncs in
    let listed : IsPrefix told now = prefix_trans told c.meet.new.self.syncs now c.meet.ensures.told.1 c.look.ensures.grows in
    let most = durable_at now at.i at.s c.look.ensures.rising (prefix_get told now at.i at.s listed at.is) in
    subst (λ n. n ≤ durable c.look.new.shelf.syncs) at.has (subst (λ (ss : List VaultSync). at.s.entries ≤ durable ss) c.look.ensures.list most)

pub shed-requires-clause-within : goal.shed-requires-clause-within
shed-requires-clause-within g c =
    let told = prefix_length c.args.told.seen c.meet.new.self.seen c.meet.ensures.told.0 in
    let more = prefix_length c.meet.new.self.seen c.look.new.self.seen c.look.ensures.looked.begins in
    let whole = ap length c.look.ensures.whole in
    let same = ap (λ (s : BookState). length s.history) c.look.ensures.shelf in
    let within = c.requires.within in
    omega (arith, told, more, whole, same, within)

pub returns-clause-looked : goal.returns-clause-looked
returns-clause-looked g c =
    let met = ap (λ (s : CallerState). s.who) c.meet.ensures.caller in
    looked_twice g.J.Whose.book.session c.args.caller.now.who c.meet.new.self.who c.args.caller.now.seen c.meet.new.self.seen c.look.new.self.seen met c.meet.ensures.looked c.look.ensures.looked

pub returns-clause-told : goal.returns-clause-told
returns-clause-told g c =
    let told = c.meet.ensures.told in (
      prefix_trans c.args.told.seen c.meet.new.self.seen c.look.new.self.seen told.0 c.look.ensures.looked.begins,
      prefix_trans c.args.told.syncs c.meet.new.self.syncs c.look.new.self.syncs told.1 c.look.ensures.grows,
    )

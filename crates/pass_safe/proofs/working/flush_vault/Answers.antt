use Rattle.std.proofs.Common.{ap, sym, ◌∙◌, subst, arith, length, ◌++◌, ◌∷◌, []}
use Rattle.pass_plain.specs.Sound.{IsSound}
use Rattle.pass_book.specs.Parting.{lists_of}
use Rattle.pass_book.specs.Records.{AreParts}
use Rattle.pass_book.specs.Syncs.{durable}
use Rattle.pass_book.specs.Tokens.{BookId}
use Rattle.pass_book.proofs.Backed.{durable_last}
use Rattle.pass_book.proofs.Prefixes.{prefix_length}
use Rattle.pass_vault.specs.Vaulted.{Vaulted, story_with, flushed}
use Rattle.pass_vault.proofs.Parted.{parts_law}
use Rattle.pass_safe.specs.Grounds.{ground_of}
use Rattle.pass_safe.proofs.Fitting.{met_shorter, safe_still}
use Rattle.pass_safe.proofs.Logged.{parts_in_range, parts_sized, parts_some}
use Rattle.pass_safe.proofs.working.flush_vault.Goals as goal

pub flush_parts-requires-clause-parts : goal.flush_parts-requires-clause-parts
flush_parts-requires-clause-parts g c =
    let a = c.args in
    let v = a.vault.now in
    let longer = prefix_length v.seen a.upto.seen c.requires.begins in
    let within = c.durable-durable.ensures.within in
    parts_law (story_with v a.upto.seen) (durable v.syncs) (lists_of a.parts.now) (omega (arith, longer, within))
    (subst (λ (b : BookId). AreParts b.session a.upto.seen (durable v.syncs) (lists_of a.parts.now)) (sym c.requires.safe.of_book) c.requires.parts)

pub flush_parts-requires-clause-in_range : goal.flush_parts-requires-clause-in_range
flush_parts-requires-clause-in_range g c =
    let a = c.args in
    let q = c.requires in
    parts_in_range c.histories.ensures.ranges g.J.Whose.book.session (subst (λ (b : BookId). IsSound b.session) q.safe.of_book c.durable-durable.ensures.sound) q.safe.low a.upto.seen q.legal q.few
    (durable a.vault.now.syncs) a.parts.now q.parts

pub flush_parts-requires-clause-size : goal.flush_parts-requires-clause-size
flush_parts-requires-clause-size g c =
    let a = c.args in
    let q = c.requires in
    parts_sized c.histories.ensures.ranges g.J.Whose.book.session (subst (λ (b : BookId). IsSound b.session) q.safe.of_book c.durable-durable.ensures.sound) q.safe.low a.upto.seen q.legal q.few
    (durable a.vault.now.syncs) a.parts.now q.parts

pub flush_parts-requires-clause-some : goal.flush_parts-requires-clause-some
flush_parts-requires-clause-some g c = parts_some c.args.parts.now c.requires.parts.each

pub returns-in-Ok-clause-done : goal.returns-in-Ok-clause-done
returns-in-Ok-clause-done g c =
    let v = c.args.vault.now in
    let w = c.flush_parts.new.self in
    let h = c.args.upto.seen in
    let e = c.in-Ok.ensures in
    let seen = met_shorter v.seen h w.seen (prefix_length v.seen h c.requires.begins) e.met.told e.met.history in
    e.done ∙ (λ i. record v { seen = seen i; disk = w.disk; place = w.place; syncs = v.syncs ++ flushed (g.D.Disk.view w.disk).calls (length h) ∷ [] })

pub returns-in-Ok-clause-safe : goal.returns-in-Ok-clause-safe
returns-in-Ok-clause-safe g c =
    let v = c.args.vault.now in
    let w = c.flush_parts.new.self in
    let h = c.args.upto.seen in
    let e = c.in-Ok.ensures in
    let same = ap length (met_shorter v.seen h w.seen (prefix_length v.seen h c.requires.begins) e.met.told e.met.history) in
    let few = c.requires.few in
    let last = ap (λ (v : Vaulted _). durable v.syncs) e.done ∙ durable_last v.syncs (flushed (g.D.Disk.view w.disk).calls (length h)) in
    safe_still g.J.Whose.book g.J.Opening.ground g.J.Opening.tells g.D.Disk.view v w c.requires.safe (ap (λ (v : Vaulted _). v.book) e.done) (ap ground_of e.done) c.flush_parts.ensures.goes_on (omega (arith, few, same))
    e.made.1 (omega (arith, last, same))

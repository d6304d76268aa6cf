use Rattle.std.proofs.Common.{ap, sym, refl, ◌∙◌}
use Rattle.std.specs.Ordering.{nat_cmp}
use Rattle.std.specs.BTreeSet.{insert_key}
use Rattle.pass_report.proofs.Answering.{on_at}
use Rattle.pass_report.proofs.Minting.{idle_kinds, made_kinds}
use Rattle.pass_report.proofs.kinds.Kinds.note.Goals as goal
use Rattle.pass_entry.proofs.Variants.{on_each_ok}

pub returns-in_ok-insert-in-Some : goal.returns-in_ok-insert-in-Some
returns-in_ok-insert-in-Some c = on_each_ok c.add.result _ (λ x ok. λ start session past known kinds.
    let e = c.args.entry.now in
    let keys = ap (λ s. s.keys) c.add.ensures.touched ∙ c.in_ok-insert-in-Some.ensures.keys ∙ ap (λ ks. insert_key nat_cmp ks c.in-Some.made.0) c.in_ok-insert.ensures.keys in
    made_kinds start session past e known.legal known.next c.args.self.now c.add.new.self kinds c.in-Some.made.0 c.in-Some.made.1
    (sym c.in-Some.ensures)
    (on_at c.add.result _ c.add.ensures.made x ok) keys)

pub returns-in-None : goal.returns-in-None
returns-in-None c = λ start session past known kinds.
    idle_kinds start session past c.args.entry.now known.legal known.next c.args.self.now record { made = c.args.self.now.made; touched = c.insert.new.self } kinds
    (sym c.in-None.ensures) refl c.in_ok-insert.ensures.keys

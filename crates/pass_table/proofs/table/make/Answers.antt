use Rattle.std.proofs.Common.{◌∙◌, ap, sym, subst, List, Vec, Global, ℕ}
use Rattle.std.specs.Prelude.{Option}
use Rattle.pass_table.specs.Tables.{flat, AreWhole, AreZero}
use Rattle.pass_table.proofs.Flats.{flat_made, whole_made, zero_front}
use Rattle.pass_table.proofs.table.make.Goals as goal
use Rattle.pass_entry.proofs.Variants.{none_of}

pub returns-clause-flat : goal.returns-clause-flat
returns-clause-flat c =
    let a = c.args in
    let zero = zero_front c.pop.new.self.items c.in-Some.own (subst AreZero c.in-Some.ensures.items c.requires.zero) in
    ap flat c.put_back.ensures ∙ flat_made a.table.now a.block c.in-Some.own c.requires.low (none_of _ (sym c.is_made.ensures ∙ c.if-is_made.false)) zero.1

pub returns-clause-whole : goal.returns-clause-whole
returns-clause-whole c =
    let a = c.args in
    let zero = zero_front c.pop.new.self.items c.in-Some.own (subst AreZero c.in-Some.ensures.items c.requires.zero) in
    subst (λ (t : List (Option (Vec ℕ Global))). AreWhole 4096 t) (sym c.put_back.ensures) (whole_made a.table.now a.block c.in-Some.own c.requires.whole zero.1)

pub returns-clause-zero : goal.returns-clause-zero
returns-clause-zero c = (zero_front c.pop.new.self.items c.in-Some.own (subst AreZero c.in-Some.ensures.items c.requires.zero)).0

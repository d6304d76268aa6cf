use Rattle.std.proofs.Common.{◌≡◌, ◌≤◌, ◌^◌, ap, sym, ◌∙◌, subst, length, arith}
use mathlib.Core.List.{IsPrefix}
use Rattle.pass_plain.specs.Lawful.{AgreeOn}
use Rattle.pass_book.specs.Names.{name, Listed}
use Rattle.pass_book.specs.Tokens.{DeskState}
use Rattle.pass_book.specs.declared.view.Role.TheVariants as role
use Rattle.pass_book.proofs.Prefixes.{prefix_trans}
use Rattle.pass_file.specs.Desks.{FileDeskView, IsFile}
use Rattle.pass_file.proofs.Seen.{file_later}
use Rattle.pass_file.proofs.desk.FileDesk.see.Goals as goal

pub invariant_of-self : goal.invariant_of-self
invariant_of-self g c =
    let old = c.self.inside.desk in
    let mid : DeskState = c.meet.new.self in
    let h = c.args.shelf.now.history in
    let ss = c.show.new.self.syncs in
    let i = c.self.invariant in
    let n = c.show.ensures in
    let met = c.meet.ensures.met in
    let few : length h ≤ 2 ^ 32 = let f = n.few in omega (arith, f) in
    let what : mid.what ≡ old.what = ap (λ (d : DeskState). d.what) c.meet.ensures.same in
    subst (λ (d : DeskState). IsFile g.J.Whose.book d c.self.inside.number c.self.inside.state) (sym n.desk)
    (file_later g.J.Whose.book old (record mid { seen = h; syncs = ss }) c.self.inside.number c.self.inside.state i (ap (λ (d : DeskState). d.book) c.meet.ensures.same ∙ i.version.of_book) what
    (prefix_trans old.seen mid.seen h met.begins n.object.0) (met.agrees ∙ subst (λ o. AgreeOn o mid.seen h) what n.object.1)
    (met.complete ∙ subst (λ o. Listed (name role.Desk o) mid.syncs ss) what n.listed) n.legal few)

pub returns-clause-begins : goal.returns-clause-begins
returns-clause-begins g c =
    let h = c.args.shelf.now.history in
    let mid : DeskState = c.meet.new.self in
    let met = c.meet.ensures.met in
    let n = c.show.ensures in (
      subst (λ (v : FileDeskView). IsPrefix v.seen h) c.self.view_is (prefix_trans c.self.inside.desk.seen mid.seen h met.begins n.object.0),
      subst (λ (d : DeskState). IsPrefix c.args.self.now.syncs d.syncs) (sym n.desk)
          (subst (λ (v : FileDeskView). IsPrefix v.syncs c.show.new.self.syncs) c.self.view_is (prefix_trans c.self.inside.desk.syncs mid.syncs c.show.new.self.syncs met.listed n.syncs)),
    )

pub returns-clause-object : goal.returns-clause-object
returns-clause-object g c =
    let h = c.args.shelf.now.history in
    let mid : DeskState = c.meet.new.self in
    subst (λ (v : FileDeskView). AgreeOn v.what v.seen h) c.self.view_is
    (c.meet.ensures.met.agrees ∙ subst (λ o. AgreeOn o mid.seen h) (ap (λ (d : DeskState). d.what) c.meet.ensures.same) c.show.ensures.object.1)

use Rattle.std.proofs.Common.{suc, ◌≡◌, ◌∙◌, ◌+◌, ◌-◌, ap, arith}
use Rattle.pass_loader.specs.Elf.{loader_in}
use Rattle.pass_loader.proofs.Headers.{loader_in_more}
use Rattle.pass_loader.proofs.elf.loader_in.Goals as goal

pub loop-header-preserved : goal.loop-header-preserved
loop-header-preserved c =
    let a = c.args in
    let l = c.loop-header in
    let more : a.count - l._header ≡ suc (a.count - (l._header + 1)) = omega (arith, c.loop-header-test.true) in
    record {
      within = omega (arith, c.loop-header-test.true);
      same = l.invariant.same ∙ ap (loader_in a.wide a.bytes.now l.at a.size) more ∙ loader_in_more a.wide a.bytes.now l.at a.size (a.count - (l._header + 1)) c.in-Some.field-0 c.in-Some.ensures.number c.in-Some.field-0-test.1;
    }

use Rattle.std.proofs.Common.{◌≡◌, ◌-◌, ◌≤◌}
use Rattle.pass_loader.specs.Elf.{loader_in}
use Rattle.pass_loader.proofs.elf.loader_in.Given as goal

abbrev pub invariant-loop-header : goal.invariant-loop-header
invariant-loop-header l = record {
  within : l._header ≤ l.count;
  same : loader_in l.wide l.bytes l.table l.size l.count ≡ loader_in l.wide l.bytes l.at l.size (l.count - l._header);
}

use Rattle.std.proofs.Common.{refl}
use Rattle.pass_run.proofs.Following.{all_left, followed}
use Rattle.pass_run.proofs.laws.successive.Goals as goal

pub returns : goal.returns
returns g c = λ first second third one two told told_too.
    let view = g.D.Disk.view in
    let met = g.met.D.Disk in
    followed view first second one told (λ t i le left. met.counts_now second t i le left) (view second).seen (met.reads_one second told) refl third two
    (all_left view second third two told_too (λ t i le left. met.counts_now third t i le left))

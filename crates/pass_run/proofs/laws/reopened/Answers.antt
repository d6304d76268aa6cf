use Rattle.pass_run.proofs.Following.{reopened_whole}
use Rattle.pass_run.proofs.Reopening.{reopened_since}
use Rattle.pass_run.proofs.laws.reopened.Goals as goal

pub returns-clause-whole : goal.returns-clause-whole
returns-clause-whole g c = λ old new run told i left list unmatched is.
    reopened_whole g.D.Disk.view old new run told (λ t j le may. g.met.D.Disk.counts_now new t j le may) i left list unmatched is

pub returns-clause-since : goal.returns-clause-since
returns-clause-since g c = λ old new run p q number call numbered told i left list unmatched is.
    reopened_since g.D.Disk.view old new run p q (record { pnode = call.keep.what; number = number }) (run.over.stored.synced p q number call numbered) told i left list unmatched is

use Rattle.std.proofs.Common.{◌≡◌, ◌<◌, List, length, ap, subst, arith}
use Rattle.pass_entry.specs.declared.record.Record.{Record}
use Rattle.pass_plain.specs.WellLogged.{ceiling_of}
use Rattle.pass_plain.proofs.Raising.{length_between}
use Rattle.pass_outside.specs.Moments.{Adds}
use Rattle.pass_log.specs.Records.{image_of, with_batch, IsOldOrBoth}
use Rattle.pass_keep.proofs.Starting.{has_before, begun_open, begun_append, kept_begun}
use Rattle.pass_keep.proofs.begin.begin.Goals as goal

pub open-requires-clause-synced : goal.open-requires-clause-synced
open-requires-clause-synced g c = λ told i may. (c.requires.1.1.1.1.1.1.0 told i (g.met.D.Disk.counts_now c.args.disk.now g.story.start i c.requires.1.1.1.1.1.0 may)).0

pub returns-in_err-log-clause-begun : goal.returns-in_err-log-clause-begun
returns-in_err-log-clause-begun g c =
    let s = g.story in
    let old = g.D.Disk.view c.args.disk.now in
    begun_open s old (g.D.Disk.view c.open.new.disk) c.requires.1.1.1.1.1.0 (has_before s old c.args.image.now c.requires.1.1.1.1.0 c.requires.1.0) c.requires.1.1.1.1.1.1.0
    (λ i may. g.met.D.Disk.counts_now c.args.disk.now s.start i c.requires.1.1.1.1.1.0 may)
    c.open.ensures.work.tells c.open.ensures.any_moment c.open.ensures.store.moments c.open.ensures.store.at_once

pub returns-in_err-append-clause-begun : goal.returns-in_err-append-clause-begun
returns-in_err-append-clause-begun g c =
    let view = g.D.Disk.view in
    let s = g.story in
    let old = view c.args.disk.now in
    let mid = view c.open.new.disk in
    let new = view c.append.new.disk in
    begun_append s old mid c.requires.1.1.1.1.1.0 (has_before s old c.args.image.now c.requires.1.1.1.1.0 c.requires.1.0) c.requires.1.1.1.1.1.1.0
    (λ i may. g.met.D.Disk.counts_now c.args.disk.now s.start i c.requires.1.1.1.1.1.0 may)
    c.open.ensures.work.tells c.open.ensures.any_moment c.open.ensures.store.moments c.open.ensures.store.at_once c.in_ok-log.ensures.same new c.append.ensures.work.tells
    (λ told. subst (λ (l : List Record). Adds mid new (λ i. IsOldOrBoth l (image_of mid.seen.log) (image_of i.log))) c.requires.1.1.0 (c.append.ensures.any_moment told))
    c.append.ensures.store.moments c.append.ensures.store.at_once

pub returns-clause-begun : goal.returns-clause-begun
returns-clause-begun g c =
    let view = g.D.Disk.view in
    let s = g.story in
    let old = view c.args.disk.now in
    let mid = view c.open.new.disk in
    let new = view c.append.new.disk in
    begun_append s old mid c.requires.1.1.1.1.1.0 (has_before s old c.args.image.now c.requires.1.1.1.1.0 c.requires.1.0) c.requires.1.1.1.1.1.1.0
    (λ i may. g.met.D.Disk.counts_now c.args.disk.now s.start i c.requires.1.1.1.1.1.0 may)
    c.open.ensures.work.tells c.open.ensures.any_moment c.open.ensures.store.moments c.open.ensures.store.at_once c.in_ok-log.ensures.same new c.append.ensures.work.tells
    (λ told. subst (λ (l : List Record). Adds mid new (λ i. IsOldOrBoth l (image_of mid.seen.log) (image_of i.log))) c.requires.1.1.0 (c.append.ensures.any_moment told))
    c.append.ensures.store.moments c.append.ensures.store.at_once

pub returns-clause-kept : goal.returns-clause-kept
returns-clause-kept g c =
    let view = g.D.Disk.view in
    let s = g.story in
    let old = view c.args.disk.now in
    let mid = view c.open.new.disk in
    let new = view c.append.new.disk in
    let same = c.requires.1.1.0 in
    let some : 0 < length c.args.ceilings.now = (let long = length_between (ceiling_of s.before) s.ceiling in let as_long = ap length same in omega (arith, long, as_long)) in
    kept_begun s old mid c.requires.1.1.1.1.1.0 (has_before s old c.args.image.now c.requires.1.1.1.1.0 c.requires.1.0) c.requires.1.1.1.1.1.1.0
    (λ i may. g.met.D.Disk.counts_now c.args.disk.now s.start i c.requires.1.1.1.1.1.0 may)
    c.open.ensures.work.tells c.open.ensures.any_moment c.open.ensures.store.moments c.open.ensures.store.at_once c.in_ok-log.ensures.same new c.append.ensures.work.tells
    (λ told. subst (λ (l : List Record). Adds mid new (λ i. IsOldOrBoth l (image_of mid.seen.log) (image_of i.log))) same (c.append.ensures.any_moment told))
    c.append.ensures.store.moments c.append.ensures.store.at_once
    c.append.new.self c.append.ensures.settled
    (λ told. subst (λ (l : List Record). image_of new.seen.log ≡ with_batch l (image_of mid.seen.log)) same (c.in_ok-append.ensures.reads some told))
    (λ told i may. subst (λ (l : List Record). image_of i.log ≡ with_batch l (image_of mid.seen.log)) same (c.in_ok-append.ensures.acknowledged some told i may))
    c.calls-calls.ensures.now

pub returns-clause-place : goal.returns-clause-place
returns-clause-place g c =
    let long = length_between (ceiling_of g.story.before) g.story.ceiling in
    let some : 0 < length c.args.ceilings.now = (let as_long = ap length c.requires.1.1.0 in omega (arith, long, as_long)) in
    let end = c.in_ok-append.ensures.end some in
    let place = c.in_ok-log.ensures.place in
    omega (arith, end, place)

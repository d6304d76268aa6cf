use Rattle.std.proofs.Common.{◌+◌, ap, sym, ◌∙◌, subst, arith}
use Rattle.pass_session.proofs.Judging.{of_disk}
use Rattle.pass_session.proofs.Told.{on_session, on_refusal, judged_by, of_first}
use Rattle.pass_session.proofs.opening.open.Goals as goal

pub judge-requires-clause-found : goal.judge-requires-clause-found
judge-requires-clause-found g c =
    let view = g.D.Disk.view in
    let e = c.in-Ok.ensures in
    let count = c.calls-calls.ensures.count in
    let went = e.later (λ err. absurd (cc)) in
    let still = e.no_fault (λ err. absurd (cc)) in
    of_disk view c.of-first.result.value c.args.disk (view c.recover.new.disk) _ c.of-first.ensures (record {
      heard = e.image;
      read = e.open_next;
      logged = e.logged;
      told = e.start;
      bytes = e.bytes;
      files = e.tells_files;
      sound = e.sound;
      continues = e.continues;
      counted = ap (λ n. n + 2) count;
      earlier = omega (arith, count, went);
      since = λ image left. e.since (went, λ _. still) image (subst (λ n. (view c.recover.new.disk).left_since (n + 2) image) count left) ∙ sym e.content;
      seen = e.content;
      tells = e.tells;
      healthy = still;
      alone = record { crash = e.crash; adds = e.run };
    })

pub returns-in-Ok-clause-vault : goal.returns-in-Ok-clause-vault
returns-in-Ok-clause-vault g c =
    on_session g.D.Disk.view (g.D.Disk.view c.args.disk) c.args.objects c.args.entries c.judge.result (of_first g.D.Disk.view _ c.args.disk c.args.objects c.args.entries c.judge.result c.of-first.ensures c.judge.ensures) _ (λ o s. s.vault)

pub returns-in-Ok-clause-limits : goal.returns-in-Ok-clause-limits
returns-in-Ok-clause-limits g c =
    on_session g.D.Disk.view (g.D.Disk.view c.args.disk) c.args.objects c.args.entries c.judge.result (of_first g.D.Disk.view _ c.args.disk c.args.objects c.args.entries c.judge.result c.of-first.ensures c.judge.ensures) _ (λ o s. (s.objects_are, s.places))

pub returns-in-Ok-clause-opening : goal.returns-in-Ok-clause-opening
returns-in-Ok-clause-opening g c =
    on_session g.D.Disk.view (g.D.Disk.view c.args.disk) c.args.objects c.args.entries c.judge.result (of_first g.D.Disk.view _ c.args.disk c.args.objects c.args.entries c.judge.result c.of-first.ensures c.judge.ensures) _ (λ o s. s.opening)

pub returns-in-Ok-clause-sound : goal.returns-in-Ok-clause-sound
returns-in-Ok-clause-sound g c =
    on_session g.D.Disk.view (g.D.Disk.view c.args.disk) c.args.objects c.args.entries c.judge.result (of_first g.D.Disk.view _ c.args.disk c.args.objects c.args.entries c.judge.result c.of-first.ensures c.judge.ensures) _ (λ o s. s.sound)

pub returns-in-Ok-clause-continues : goal.returns-in-Ok-clause-continues
returns-in-Ok-clause-continues g c =
    on_session g.D.Disk.view (g.D.Disk.view c.args.disk) c.args.objects c.args.entries c.judge.result (of_first g.D.Disk.view _ c.args.disk c.args.objects c.args.entries c.judge.result c.of-first.ensures c.judge.ensures) _ (λ o s. s.continues)

pub returns-in-Ok-clause-begun : goal.returns-in-Ok-clause-begun
returns-in-Ok-clause-begun g c =
    on_session g.D.Disk.view (g.D.Disk.view c.args.disk) c.args.objects c.args.entries c.judge.result (of_first g.D.Disk.view _ c.args.disk c.args.objects c.args.entries c.judge.result c.of-first.ensures c.judge.ensures) _ (λ o s. s.begun)

pub returns-in-Ok-clause-ceiling : goal.returns-in-Ok-clause-ceiling
returns-in-Ok-clause-ceiling g c =
    on_session g.D.Disk.view (g.D.Disk.view c.args.disk) c.args.objects c.args.entries c.judge.result (of_first g.D.Disk.view _ c.args.disk c.args.objects c.args.entries c.judge.result c.of-first.ensures c.judge.ensures) _ (λ o s. s.ceiling)

pub returns-in-Ok-clause-healthy : goal.returns-in-Ok-clause-healthy
returns-in-Ok-clause-healthy g c =
    on_session g.D.Disk.view (g.D.Disk.view c.args.disk) c.args.objects c.args.entries c.judge.result (of_first g.D.Disk.view _ c.args.disk c.args.objects c.args.entries c.judge.result c.of-first.ensures c.judge.ensures) _ (λ o s. s.healthy)

pub returns-in-Ok-clause-later : goal.returns-in-Ok-clause-later
returns-in-Ok-clause-later g c =
    on_session g.D.Disk.view (g.D.Disk.view c.args.disk) c.args.objects c.args.entries c.judge.result (of_first g.D.Disk.view _ c.args.disk c.args.objects c.args.entries c.judge.result c.of-first.ensures c.judge.ensures) _ (λ o s. s.later)

pub returns-in-Ok-clause-disk_fault : goal.returns-in-Ok-clause-disk_fault
returns-in-Ok-clause-disk_fault g c =
    on_refusal g.D.Disk.view (g.D.Disk.view c.args.disk) c.args.objects c.args.entries c.judge.result (of_first g.D.Disk.view _ c.args.disk c.args.objects c.args.entries c.judge.result c.of-first.ensures c.judge.ensures) _ (λ e s. s.disk_fault)

pub returns-in-Ok-clause-no_fault : goal.returns-in-Ok-clause-no_fault
returns-in-Ok-clause-no_fault g c =
    on_refusal g.D.Disk.view (g.D.Disk.view c.args.disk) c.args.objects c.args.entries c.judge.result (of_first g.D.Disk.view _ c.args.disk c.args.objects c.args.entries c.judge.result c.of-first.ensures c.judge.ensures) _ (λ e s. s.healthy)

pub returns-in-Ok-clause-bad_store : goal.returns-in-Ok-clause-bad_store
returns-in-Ok-clause-bad_store g c =
    on_refusal g.D.Disk.view (g.D.Disk.view c.args.disk) c.args.objects c.args.entries c.judge.result (of_first g.D.Disk.view _ c.args.disk c.args.objects c.args.entries c.judge.result c.of-first.ensures c.judge.ensures) _ (λ e s. s.bad_store)

pub returns-in-Ok-clause-left : goal.returns-in-Ok-clause-left
returns-in-Ok-clause-left g c =
    on_refusal g.D.Disk.view (g.D.Disk.view c.args.disk) c.args.objects c.args.entries c.judge.result (of_first g.D.Disk.view _ c.args.disk c.args.objects c.args.entries c.judge.result c.of-first.ensures c.judge.ensures) _ (λ e s. s.left)

pub returns-in-Ok-clause-refused_later : goal.returns-in-Ok-clause-refused_later
returns-in-Ok-clause-refused_later g c =
    on_refusal g.D.Disk.view (g.D.Disk.view c.args.disk) c.args.objects c.args.entries c.judge.result (of_first g.D.Disk.view _ c.args.disk c.args.objects c.args.entries c.judge.result c.of-first.ensures c.judge.ensures) _ (λ e s. s.later)

pub returns-in-Ok-clause-judged : goal.returns-in-Ok-clause-judged
returns-in-Ok-clause-judged g c =
    judged_by g.D.Disk.view (g.D.Disk.view c.args.disk) c.args.objects c.args.entries c.judge.result (of_first g.D.Disk.view _ c.args.disk c.args.objects c.args.entries c.judge.result c.of-first.ensures c.judge.ensures)

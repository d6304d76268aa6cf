use Rattle.std.proofs.Common.{ap, sym, ◌∙◌, subst}
use Rattle.pass_book.specs.Tokens.{VaultState}
use Rattle.pass_session.specs.Sessions.{HasSession}
use Rattle.pass_session.proofs.Judging.{begun, is_sound, opened_with, ready, stopped}
use Rattle.pass_session.proofs.opening.begin.Goals as goal

pub new-requires : goal.new-requires
new-requires g c =
    let view = g.D.Disk.view in
    let f = c.args.found in
    record { sound = is_sound view (view f.first.value) c.args.disk f c.requires.found c.args.objects c.requires.objects.0 c.requires.objects.1 c.requires.short c.logs.ensures.opened }

pub new-requires-in-Ok-open : goal.new-requires-in-Ok-open
new-requires-in-Ok-open g c =
    let view = g.D.Disk.view in
    let f = c.args.found in
    let ground = c.in-Ok.ensures in
    let vault = c.in-Ok-open.ensures in
    ready view (view f.first.value) c.args.disk f c.requires.found c.args.objects c.requires.objects.0 c.requires.objects.1 c.requires.short c.logs.ensures.opened
    c.args.entries c.in-Ok.ground ground.session ground.places ground.ground c.in-Ok.seat ground.seat c.session_ceiling-ceiling.result c.session_ceiling-ceiling.ensures _ _ c.in-Ok-open.vault vault.opened vault.healthy vault.goes_on
    c.requires.entries c.faults-opened.result c.faults-opened.ensures

pub returns-in-Ok-open : goal.returns-in-Ok-open
returns-in-Ok-open g c =
    let view = g.D.Disk.view in
    let f = c.args.found in
    let ground = c.in-Ok.ensures in
    let vault = c.in-Ok-open.ensures in
    subst (HasSession view (view f.first.value) c.args.objects c.args.entries) (sym (c.new-in-Ok-open.ensures ∙ ap (opened_with c.in-Ok-open.vault) ground.places))
    (begun view (view f.first.value) c.args.disk f c.requires.found c.args.objects c.requires.objects.0 c.requires.objects.1 c.requires.short c.logs.ensures.opened
    c.args.entries c.in-Ok.ground ground.session ground.places ground.ground c.in-Ok.seat ground.seat c.session_ceiling-ceiling.result c.session_ceiling-ceiling.ensures _ _ c.in-Ok-open.vault vault.opened vault.healthy vault.goes_on
    c.ceilings.ensures c.images.ensures.begun c.images.ensures.opened)

pub returns-in-Err : goal.returns-in-Err
returns-in-Err g c =
    let view = g.D.Disk.view in
    let f = c.args.found in
    let ground = c.in-Ok.ensures in
    stopped view (view f.first.value) c.args.disk f c.requires.found c.args.objects c.requires.objects.0 c.requires.objects.1 c.requires.short
    c.in-Ok.seat c.session_ceiling-ceiling.result c.in-Err.fault c.in-Err.disk c.refused.result c.session_ceiling-ceiling.ensures (ap (λ (s : VaultState). s.book.session) ground.seat ∙ ground.session) (ap (λ (s : VaultState). s.seen) ground.seat)
    c.in-Err.ensures.begun c.in-Err.ensures.stopped c.in-Err.ensures.failed c.refused.ensures.disk c.refused.ensures.memory

use Rattle.pass_plain.specs.Legal.{session_of}
use Rattle.pass_reference.proofs.Caching.{caller_at, allowed_if}
use Rattle.pass_reference.proofs.cache.StateCache.allows.Goals as goal

pub returns-in-Some : goal.returns-in-Some
returns-in-Some c =
    let history = c.args.history.now in
    allowed_if history c.args.e.now c.in-Some.caller.now c.allows.result (session_of c.args.start.now c.args.objects, c.requires.sound, c.requires.legal)
    (caller_at history c.args.self.now.callers c.args.e.now.who c.in-Some.caller.now (c.requires.kept.callers c.args.e.now.who) c.in-Some.ensures) c.allows.ensures

pub returns-in_ok-caller-in-None : goal.returns-in_ok-caller-in-None
returns-in_ok-caller-in-None c =
    allowed_if c.args.history.now c.args.e.now c.in_ok-caller-in-None.caller c.allows-in-None.result (session_of c.args.start.now c.args.objects, c.requires.sound, c.requires.legal)
    c.in_ok-caller-in-None.ensures c.allows-in-None.ensures

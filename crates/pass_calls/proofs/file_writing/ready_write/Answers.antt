use Rattle.std.proofs.Common.{◌+◌, ◌≤◌, ◌∙◌, length, subst, sym}
use Rattle.pass_calls.proofs.file_writing.ready_write.Goals as goal

pub returns-clause-room : goal.returns-clause-room
returns-clause-room g c =
    let made = c.in_ok-reserve.ensures in
    (subst (λ bytes. c.held-d.result.offset + length bytes ≤ c.reserve.new.self.room) (c.as_bytes.ensures.bytes ∙ sym c.in_ok-bytes.ensures.cases) made.room, made.spare)

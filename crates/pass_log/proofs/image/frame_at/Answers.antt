use Rattle.std.proofs.Common.{◌≡◌, ◌∙◌, sym, ◌<◌, ◌^◌, ◌++◌, length, drop, rules}
use Rattle.std.proofs.lemmas.List.{take_rest}
use Rattle.std.specs.Int.{w32, to_be_bytes}
use Rattle.pass_log.proofs.Scan.{after_is}
use Rattle.pass_log.proofs.image.frame_at.Goals as goal

pub returns-clause-rest : goal.returns-clause-rest
returns-clause-rest c =
    let behind = drop 1 c.args.bytes.now in
    let count = c.in-Ok.count in
    let frame = c.in-Ok-take_bytes.frame.now in
    let after = c.left-after.result.now in
    let fits : count < 2 ^ 32 = search rules in
    let at : behind ≡ c.new-cursor.result = sym (take_rest c.args.bytes.now 1) ∙ sym c.new-cursor.ensures in
    let taken : c.new-cursor.result ≡ to_be_bytes w32 count ++ c.take_u32.new.self = c.in-Ok.ensures.taken in
    let is : behind ≡ to_be_bytes w32 count ++ c.take_u32.new.self = at ∙ taken in
    let parts : c.take_u32.new.self ≡ frame ++ after = search rules in
    let whole : length frame ≡ count = search rules in
    after_is count behind c.take_u32.new.self fits is frame after parts whole

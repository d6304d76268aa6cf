use Rattle.std.proofs.Common.{◌≡◌, ◌+◌, ◌++◌, ◌==◌, ap, sym, ◌∙◌, length, take, drop, arith, false}
use Rattle.pass_plain.specs.Files.{extended}
use Rattle.pass_plain.proofs.Overwriting.{put_is_written, put_back}
use Rattle.pass_plain.proofs.file.overwrite.Goals as goal

pub returns-in_ok-extend-in-Some : goal.returns-in_ok-extend-in-Some
returns-in_ok-extend-in-Some c =
    let content = c.args.content.now.items in
    let at = c.args.at in
    let bytes = c.args.bytes.now in
    let some : (length bytes == 0) ≡ false = sym c.is_empty.ensures ∙ c.if-is_empty.false in
    let long : c.deref_mut.result.now ≡ extended content (at + length bytes) =
    c.deref_mut.ensures.value ∙ c.in_ok-extend-in-Some.ensures ∙ ap (λ size. extended content size) c.in-Some.ensures.1 in
    let size : length c.put.new.content ≡ c.extend.new.content.len = omega (arith, c.put.auto.content, c.deref_mut.ensures.len) in
    let whole : length c.extend.new.content.items ≡ c.extend.new.content.len = omega (arith, ap length c.deref_mut.ensures.value, c.deref_mut.ensures.len) in
    put_back c.extend.new.content.len c.put.new.content c.extend.new.content.items size whole
    ∙ c.put.ensures ∙ ap (λ bs. take at bs ++ bytes ++ drop (at + length bytes) bs) long ∙ put_is_written content at bytes some

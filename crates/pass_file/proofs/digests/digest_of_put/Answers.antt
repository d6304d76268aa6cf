use Rattle.std.proofs.Common.{◌∙◌, ◌*◌, ◌+◌, ◌-◌, ◌++◌, ap, sym, length, take, drop, replicate}
use Rattle.md5.specs.Md5.{md5}
use Rattle.pass_plain.specs.Files.{written}
use Rattle.pass_table.proofs.Seen.{some_length}
use Rattle.pass_file.proofs.Pieces.{part_written}
use Rattle.pass_file.proofs.Resizing.{empty_list}
use Rattle.pass_file.proofs.digests.digest_of_put.Goals as goal

pub returns-then-is_empty : goal.returns-then-is_empty
returns-then-is_empty c =
    let a = c.args in
    c.digest.ensures
    ∙ ap md5 c.bytes_in-own.ensures
    ∙ ap (λ bytes. md5 (take 4096 (drop (a.block * 4096) (written a.content.now.bytes a.at bytes)))) (sym (empty_list a.bytes.now (sym c.is_empty.ensures ∙ c.if-is_empty.true)))

pub returns : goal.returns
returns c =
    let a = c.args in
    let from = c.within-from.result in
    let part = c.part_of-part.result.now in
    c.digest_with.ensures
    ∙ (λ k. md5 (take from (c.bytes_in-own.ensures k) ++ replicate (from - length (c.bytes_in-own.ensures k)) 0 ++ part ++ drop (from + length part) (c.bytes_in-own.ensures k)))
    ∙ ap md5
    (sym
    (part_written a.content.now.bytes a.bytes.now a.at (a.block * 4096) 4096 from part (some_length (length a.bytes.now) (sym c.is_empty.ensures ∙ c.if-is_empty.false))
    c.within-from.ensures c.part_of-part.ensures))

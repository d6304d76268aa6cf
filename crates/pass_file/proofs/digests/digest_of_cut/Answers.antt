use Rattle.std.proofs.Common.{◌∙◌, ◌*◌, ◌-◌, ◌++◌, ap, sym, length, take, replicate}
use Rattle.md5.specs.Md5.{md5}
use Rattle.pass_file.proofs.Pieces.{part_resized}
use Rattle.pass_file.proofs.digests.digest_of_cut.Goals as goal

pub returns : goal.returns
returns c =
    let a = c.args in
    let len = c.within-len.result in
    c.digest_of_front.ensures
    ∙ (λ k. md5 (take len (c.bytes_in-own.ensures k) ++ replicate (len - length (c.bytes_in-own.ensures k)) 0))
    ∙ ap md5 (sym (part_resized a.content.now.bytes a.size (a.block * 4096) 4096 len c.within-len.ensures))

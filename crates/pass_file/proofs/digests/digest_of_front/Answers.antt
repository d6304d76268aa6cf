use Rattle.std.proofs.Common.{◌-◌, ◌++◌, [], length, take, replicate}
use Rattle.pass_file.proofs.digests.digest_of_front.Goals as goal

pub returns : goal.returns
returns c =
    let a = c.args in
    c.finalize.ensures (take a.len a.own.now ++ replicate (a.len - length a.own.now) 0) (c.feed_front.ensures [] c.new-hasher.ensures)

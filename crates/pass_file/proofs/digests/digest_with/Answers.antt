use Rattle.std.proofs.Common.{◌∙◌, ◌-◌, ◌++◌, [], ℕ, List, ap, length, take, replicate}
use Rattle.md5.specs.Md5.{md5}
use Rattle.pass_file.proofs.digests.digest_with.Goals as goal

pub returns : goal.returns
returns c =
    let a = c.args in
    let own = a.own.now in
    let front : List ℕ = take a.from own ++ replicate (a.from - length own) 0 in
    c.finalize.ensures (front ++ a.bytes.now ++ c.behind-rest.result.now)
    (c.feed-2.ensures (front ++ a.bytes.now) (c.feed.ensures front (c.feed_front.ensures [] c.new-hasher.ensures)))
    ∙ ap (λ xs. md5 (front ++ a.bytes.now ++ xs)) c.behind-rest.ensures

use Rattle.std.proofs.Common.{◌≡◌, ℕ, [], length, subst}
use Rattle.std.specs.Prelude.{IsTrue}
use Rattle.pass_ask.specs.Follows.{IsToldOf}
use Rattle.pass_ask.proofs.Streams.{on_ok}
use Rattle.pass_ask.proofs.following.follow_on.Goals as goal

pub returns : goal.returns
returns g c =
    let new = c.feed_all-fed.new.standby in
    let answer = c.feed_all-fed.result in
    let now = (g.D.Disk.view c.into_disk-disk.result).faults in
    let judged = c.judge_fed.result.status in
    let text = c.judge_fed.result.text.items in
    record {
      new = new;
      answer = answer;
      same = c.into_disk-disk.ensures.disk;
      fed = c.feed_all-fed.ensures.fed;
      to_end = on_ok answer (IsTrue g.S.Source.tells → g.S.Source.left c.feed_all-fed.new.source ≡ []) c.feed_all-fed.ensures.to_end;
      told = subst (λ (n : ℕ). IsToldOf answer n (length new.begun) c.args.opened now judged text) c.position-position.ensures
          (subst (λ (n : ℕ). IsToldOf answer c.position-position.result n c.args.opened now judged text) c.rest-rest.ensures
          (subst (λ (n : ℕ). IsToldOf answer c.position-position.result c.rest-rest.result c.args.opened n judged text) c.faults.ensures c.judge_fed.ensures));
    }

use Rattle.std.proofs.Common.{rules, ◌≡◌, length}
use Rattle.pass_audit.proofs.Blocks.{sure_laid}
use Rattle.pass_audit.proofs.course.Course.lay.Goals as goal

pub returns-clause-come : goal.returns-clause-come
returns-clause-come c =
    let old = c.args.self.now in
    let come = c.requires in
    let long : c.len-size.result ≡ length old.content.items = search rules in
    let e = c.in_ok-doubt_leaf.ensures in
    record {
      within = come.within;
      state = come.state;
      before = come.before;
      sure = sure_laid old.state.rows old.content.items c.lay.new.content.items c.args.leaf.now c.len-size.result old.doubts c.doubt_leaf.new.doubts e.formed long c.in_ok-lay.ensures e.blocks come.sure;
    }

use Rattle.std.proofs.Common.{◌≡◌, ◌∙◌, ◌+◌, List, take, get_or, ap, subst, sym, Vec}
use Rattle.std.specs.declared.alloc.Global.{Global}
use Rattle.pass_entry.specs.declared.record.Record.{Record}
use Rattle.pass_log.specs.Frames.{staged}
use Rattle.pass_log.specs.Records.{spellings}
use Rattle.pass_keep.specs.Parts.{lists_of, bytes_length, AreFrames}
use Rattle.pass_keep.proofs.Appending.{staged_more, length_more, frame_of}
use Rattle.pass_keep.proofs.append.stage_all.Goals as goal

pub loop-part-preserved : goal.loop-part-preserved
loop-part-preserved c =
    let parts : List (Vec Record Global) = c.args.parts.now in
    let i = c.loop-part.part-index in
    let part = c.part-item.result in
    let frame = c.in-Ok.frame in
    let frames = c.loop-part.frames.items in
    let is : frame.items ≡ staged (spellings (get_or parts i part).items) =
    c.in-Ok.ensures.bytes ∙ ap (λ (l : List Record). staged (spellings l)) (c.deref.ensures.value ∙ ap (λ (p : Vec Record Global). p.items) c.part-item.is) in
    let both = frame_of parts i part c.loop-part-test.true c.requires.in_range c.requires.size frame is in
    record {
      frames = subst (AreFrames (lists_of (take (i + 1) parts))) (sym c.in_ok-push.ensures.items)
          (staged_more parts i part c.loop-part-test.true frames frame c.loop-part.invariant.frames both.0);
      length = ap bytes_length c.in_ok-push.ensures.items
          ∙ length_more parts i part c.loop-part-test.true frames frame c.loop-part.invariant.length both.1;
    }

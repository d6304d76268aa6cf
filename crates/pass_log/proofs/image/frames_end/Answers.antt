use Rattle.std.proofs.Common.{ℕ, ◌≡◌, ◌+◌, ◌<◌, ◌++◌, ◌∷◌, [], length, take, drop, rules, ap, ◌∙◌, arith, length-take, length-drop}
use Rattle.std.proofs.lemmas.List.{drop_more}
use Rattle.pass_log.specs.Frames.{scan, number}
use Rattle.pass_log.proofs.Scan.{more_frames}
use Rattle.pass_log.proofs.image.frames_end.Goals as goal

pub loop-rest-preserved : goal.loop-rest-preserved
loop-rest-preserved c =
    let rest = c.loop-rest.rest.now in
    let frame = c.in-Some.frame.now in
    let after = c.in-Some.after.now in
    let some : 0 < length rest = search rules in
    let gate : rest ≡ 1 ∷ drop 1 rest = drop_more rest 0 0 some ∙ ap (λ (g : ℕ). g ∷ drop 1 rest) c.if-rest-eq-OPEN.true in
    let fits : number (drop 1 rest) + 4 < length (drop 1 rest) = c.in-Some.ensures.fits in
    let is_frame : frame ≡ take (number (drop 1 rest)) (drop 4 (drop 1 rest)) = c.in-Some.ensures.frame in
    let is_after : after ≡ drop (number (drop 1 rest) + 4) (drop 1 rest) = c.in-Some.ensures.rest in
    let so_far = c.loop-rest.invariant.told in
    record {
      told = (so_far.0 ++ frame ∷ [], more_frames so_far.0 c.loop-rest.place rest frame after (scan 0 0 c.args.bytes.now) so_far.1 gate fits is_frame is_after);
      size = omega (arith, c.loop-rest.invariant.size, fits, ap length is_frame, ap length is_after, length-take (number (drop 1 rest)) (drop 4 (drop 1 rest)), length-drop 4 (drop 1 rest), length-drop (number (drop 1 rest) + 4) (drop 1 rest), length-drop 1 rest, some);
    }

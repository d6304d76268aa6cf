use Rattle.std.proofs.Common.{◌≡◌, ◌≤◌, ◌<◌, ◌∙◌, ◌++◌, List, ℕ, length, take, drop, arith, ap, sym, rules, refl, subst, IsTrue}
use Rattle.std.proofs.lemmas.List.{take_at}
use Rattle.pass_outside.specs.Areas.{Image}
use Rattle.pass_outside.specs.Moments.{Moment, IsAtEnd}
use Rattle.pass_outside.specs.Runs.{adds_both}
use Rattle.pass_log.proofs.Pieces.{more_piece, size_more}
use Rattle.pass_log.proofs.area.read_area.Goals as goal

pub pieces-preserved : goal.pieces-preserved
pieces-preserved g c =
    let first = g.D.Disk.view c.args.disk.now in
    let old = g.D.Disk.view c.pieces.disk in
    let new = g.D.Disk.view c.read.new.self in
    let bytes = c.pieces.bytes.items in
    let count = c.in_ok-count.count in
    let into = c.read.new.into in
    let rest = drop (length into) c.pieces.piece.items in
    let whole : length into ≡ c.pieces.piece.len = search rules in
    let long : c.pieces.piece.len ≡ length c.pieces.piece.items = search rules in
    let back : take c.pieces.piece.len (into ++ rest) ≡ into = take_at into rest c.pieces.piece.len whole in
    let pushed : c.extend_from_slice.new.self.items ≡ bytes ++ take count (take c.pieces.piece.len (into ++ rest)) = c.in_ok-extend_from_slice.ensures.items ∙ ap (λ (l : List ℕ). bytes ++ take count l) c.deref.ensures.value in
    let put : c.extend_from_slice.new.self.items ≡ bytes ++ take count into = pushed ∙ ap (λ (l : List ℕ). bytes ++ take count l) back in
    let place : c.len-in-pieces.result ≡ length bytes = search rules in
    let below : length bytes < c.args.size = search rules in
    let within : count ≤ c.pieces.piece.len = search rules in
    let size : length c.pieces.piece.items ≡ 65536 = c.pieces.invariant.piece in
    record {
      bytes = λ tells.
          let told : IsTrue old.tells = subst IsTrue (sym c.pieces.invariant.tells) tells in
          more_piece first.seen.log old.seen.log bytes c.extend_from_slice.new.self.items into c.deref_mut.result.now count c.len-in-pieces.result (ap (λ (i : Image). i.log) c.pieces.invariant.content) place
          (c.pieces.invariant.bytes tells) (c.in_ok-count.ensures.count told) (c.in_ok-count.ensures.bytes told) put;
      size = size_more bytes c.extend_from_slice.new.self.items (take c.pieces.piece.len (into ++ rest)) count c.args.size pushed below (omega (arith, within, long, size));
      piece = ap length back ∙ whole ∙ long ∙ size;
      tells = c.in_ok-count.ensures.call.tells ∙ c.pieces.invariant.tells;
      faults = (c.in_ok-count.ensures.call.ok refl).0 ∙ c.pieces.invariant.faults;
      content = c.in_ok-count.ensures.content ∙ c.pieces.invariant.content;
      crash = λ i may. c.pieces.invariant.crash i (c.in_ok-count.ensures.crash i may);
      run = adds_both first.may_leave first old new c.pieces.invariant.run c.in_ok-count.ensures.call.adds (λ i x. x) (λ i may. c.pieces.invariant.crash i (c.in_ok-count.ensures.crash i may));
      stands = λ ended.
          let before : IsAtEnd old = subst (λ (m : Moment). IsAtEnd m) (sym (ap g.D.Disk.view (c.pieces.invariant.stands ended))) ended in
          absurd ((c.in_ok-count.ensures.call.ok refl).1 before);
    }

use Rattle.std.specs.Prelude.{fold}
use Rattle.pass_status.specs.Reading.{counted}
use Rattle.std.proofs.Common.{refl, ◌≡◌, ◌++◌, take, drop, arith, ap, sym, ◌∙◌, subst, true, false, length-take}
use Rattle.std.proofs.lemmas.Grind.{common_steps}
use Rattle.pass_status.specs.Reading.{counted_of, StopsInTime}
use Rattle.pass_status.specs.declared.reading.Limits.{Limits}
use Rattle.pass_status.proofs.Limited.{over_is, text_short, counted-append, stops_at}
use Rattle.pass_status.proofs.reading.read_source.Goals as goal
use Rattle.pass_status.proofs.reading.read_source.Goals.{else-pieces-test, then-pieces-test+in_ok-count+then-count-eq0}

pub pieces-smaller : goal.pieces-smaller
pieces-smaller g c =
    let over : (counted_of c.args.scale c.pieces.text.items).over ≡ false = ap (λ (l : Limits). l.over) (sym c.pieces.invariant.seen) ∙ c.pieces-test.true in
    let short = text_short c.args.scale c.pieces.text.items over in
    let size = length-take c.in_ok-count.count c.read.new.into in
    omega (arith, short, size, c.in_ok-extend_from_slice.ensures.len, c.if-count-eq0.false, c.in_ok-count.ensures.within, c.read.auto.into)

pub pieces-preserved : goal.pieces-preserved
pieces-preserved g c =
    let i = c.pieces.invariant in
    let text = c.pieces.text.items in
    let over : (counted_of c.args.scale text).over ≡ false = ap (λ (l : Limits). l.over) (sym i.seen) ∙ c.pieces-test.true in
    let piece = take c.in_ok-count.count c.read.new.into in
    let grown : c.extend_from_slice.new.self.items ≡ text ++ piece = c.in_ok-extend_from_slice.ensures.items in
    record {
      left = grind (arith, common_steps);
      seen = c.take.ensures ∙ ap (λ (l : Limits). fold (counted c.args.scale) l piece) i.seen ∙ sym (counted-append c.args.scale text piece) ∙ ap (counted_of c.args.scale) (sym grown);
      stops = subst (StopsInTime c.args.scale) (sym grown) (stops_at c.args.scale text piece over (let short = length-take c.in_ok-count.count c.read.new.into in omega (arith, short, c.in_ok-count.ensures.within, i.room)));
      room = c.read.auto.into ∙ i.room;
      same = (c.in_ok-count.ensures.faults.ok refl).0 ∙ i.same;
      goes = λ some end. (c.in_ok-count.ensures.faults.ok refl).1 (i.same ∙ end);
    }

pub returns-clause-whole : goal.returns-clause-whole
returns-clause-whole g c = λ tells short.
    elim c.pieces-test.branch [
      | else-pieces-test w ↦
          let z : true ≡ false = sym w.pieces-test.false ∙ ap (λ (l : Limits). l.over) c.pieces.invariant.seen ∙ over_is c.args.scale c.pieces.text.items ∙ short in cc
      | then-pieces-test+in_ok-count+then-count-eq0 w ↦
          let e = w.in_ok-count.ensures in
          let none = w.if-count-eq0.true in
          ap (λ s. g.S.Source.left s) w.source-is ∙ e.rest tells ∙ ap (λ n. drop n (g.S.Source.left c.pieces.source)) none ∙ e.end tells (omega (arith, c.pieces.invariant.room)) none
    ]

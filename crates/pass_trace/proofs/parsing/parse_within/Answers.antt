use Rattle.std.proofs.Common.{◌≡◌, ◌≤◌, ◌∙◌, ◌+◌, ◌++◌, ℕ, List, [], ◌∷◌, None, length, drop, refl, sym, ap, below_more, arith, length-drop}
use Rattle.std.proofs.lemmas.List.{take_all}
use Rattle.pass_plain.proofs.Lists.{same_numbers}
use Rattle.pass_trace.specs.declared.trace.TraceFault.TheVariants as trace
use Rattle.pass_trace.specs.Lines.{lines_of}
use Rattle.pass_trace.specs.Traces.{text_line_of, said, lines_from, fault_at}
use Rattle.pass_trace.proofs.LinesLemmas.{Stands-from_drop, lines_from-take, fault_at-read, IsFirstFault-read}
use Rattle.pass_trace.proofs.Wider.{same_trace}
use Rattle.pass_trace.proofs.parsing.parse_within.Goals as goal

pub loop-rest-preserved : goal.loop-rest-preserved
loop-rest-preserved c =
    let texts = lines_of c.args.bytes.now in
    let i = c.loop-rest.number in
    let text = c.first_line.result.0.now in
    let rest = lines_of c.first_line.result.1.now in
    let at = Stands-from_drop texts i text rest [] (sym c.loop-rest.invariant.rest ∙ c.first_line.ensures.lines) in
    record {
      within = c.in_default.ensures.within;
      there = omega (arith, at.there);
      rest = sym at.behind;
      lines = c.in_default.ensures.says ∙ ap (λ ls. ls ++ said (text_line_of c.args.scale (i + 1) text)) c.loop-rest.invariant.lines ∙ sym (lines_from-take c.args.scale texts i text rest at);
      sound = below_more (λ k. fault_at c.args.scale texts k ≡ None) i c.loop-rest.invariant.sound (fault_at-read c.args.scale texts i text rest c.loop-rest.earlier None at c.loop-rest.invariant.lines c.in_default.ensures.fits);
    }

none_left : (bytes : List ℕ) → length bytes ≡ 0 → lines_of bytes ≡ []
none_left [] none = refl
none_left (b ∷ bs) none = absurd (omega (arith, none))

pub returns-clause-trace : goal.returns-clause-trace
returns-clause-trace c =
    let texts = lines_of c.args.bytes.now in
    let i = c.loop-rest.number in
    let zero : length c.loop-rest.rest.now ≡ 0 = same_numbers (length c.loop-rest.rest.now) 0 (sym c.is_empty.ensures ∙ c.loop-rest-test.false) in
    let left : length (drop i texts) ≡ 0 = ap length (sym c.loop-rest.invariant.rest ∙ none_left c.loop-rest.rest.now zero) in
    let all : length texts ≤ i = omega (arith, left, length-drop i texts) in
    c.into_lines.ensures ∙ c.loop-rest.invariant.lines ∙ ap (lines_from c.args.scale 1) (take_all i texts all)
    ∙ same_trace c.args.scale c.args.bytes.now (λ k within. c.loop-rest.invariant.sound k (omega (arith, within, all)))

pub returns-in-Err-clause-fault : goal.returns-in-Err-clause-fault
returns-in-Err-clause-fault c =
    let texts = lines_of c.args.bytes.now in
    let i = c.loop-rest.number in
    let text = c.first_line.result.0.now in
    let rest = lines_of c.first_line.result.1.now in
    let at = Stands-from_drop texts i text rest [] (sym c.loop-rest.invariant.rest ∙ c.first_line.ensures.lines) in
    λ line reason e.
    let fault : c.at_line.result ≡ trace.BadTrace line reason = cc in
    IsFirstFault-read c.args.scale c.args.bytes.now i text rest c.loop-rest.earlier c.in-Err.fault at c.loop-rest.invariant.lines c.loop-rest.invariant.sound c.in-Err.ensures.fault line reason (sym c.at_line.ensures ∙ fault)

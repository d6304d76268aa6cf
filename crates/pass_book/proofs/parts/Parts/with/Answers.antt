use Rattle.std.proofs.Common.{rules, ◌≡◌, [], ◌∷◌, ◌++◌, ◌+◌, ◌<◌, subst, ap, ◌∙◌, inl, inr, arith}
use Rattle.std.proofs.lemmas.List.{map-append}
use Rattle.pass_book.specs.Records.{part_bytes}
use Rattle.pass_book.specs.Parting.{PartsState, IsGrowing, lists_of}
use Rattle.pass_book.proofs.Parting.{IsGrown, grown_grows, grown_parted}
use Rattle.pass_book.proofs.parts.Parts.with.Goals as goal
use Rattle.pass_book.proofs.parts.Parts.with.Goals.{then-bytes-more+in_ok-push, else-bytes-more}

-- the records go into the part that grew, or begin another one
grown : (c : goal.After-row_known-1) → IsGrown c.args.self c.self.inside.bytes c.args.slip.now c.slip_bytes-more.result (record { full = lists_of c.if-bytes-more.full.items; part = c.append.new.part.items }) (c.if-bytes-more.bytes + c.slip_bytes-more.result)
grown c =
    let old = ap (λ (p : PartsState). p.full) c.self.view_is in
    let was = ap (λ (p : PartsState). p.part) c.self.view_is in
    let r = c.args.slip.now in
    elim c.if-bytes-more.branch [
      | then-bytes-more+in_ok-push w ↦
          let none : w.replace.new.dest.items ≡ [] = search rules in
          let full_up : part_bytes < c.self.inside.bytes + c.slip_bytes-more.result = (let lt = w.if-bytes-more.true in omega (arith, lt)) in
          inr (record {
            full = ap (λ v. lists_of v.items) w.full-is ∙ ap lists_of w.in_ok-push.ensures.items ∙ map-append (λ p. p.items) _ _ ∙ ap (λ ls. ls ++ w.replace.result.items ∷ []) old
                ∙ ap (λ (v : _). c.args.self.full ++ v.items ∷ []) w.replace.ensures.value ∙ ap (λ rs. c.args.self.full ++ rs ∷ []) was;
            part = c.in_ok-append.ensures ∙ ap (λ v. v.items ++ r) w.part-is ∙ ap (λ rs. rs ++ r) none;
            bytes = (let from = w.bytes-is in omega (arith, from));
            full_up = full_up;
          })
      | else-bytes-more w ↦
          inl (record {
            full = ap (λ v. lists_of v.items) w.full-is ∙ old;
            part = c.in_ok-append.ensures ∙ ap (λ v. v.items ++ r) w.part-is ∙ ap (λ rs. rs ++ r) was;
            bytes = ap (λ n. n + c.slip_bytes-more.result) w.bytes-is;
            room = (let fits = c.self.invariant.within in let few = w.if-bytes-more.false in omega (arith, fits, few));
          })
    ]

pub invariant_of-result : goal.invariant_of-result
invariant_of-result c =
    let was = subst (λ (p : PartsState). IsGrowing p c.self.inside.bytes) c.self.view_is c.self.invariant in
    grown_grows _ _ _ _ _ _ was (grown c) c.slip_bytes-more.ensures.bytes c.slip_bytes-more.ensures.within

pub returns : goal.returns
returns c lists is = grown_parted lists _ _ _ _ _ _ is (grown c)

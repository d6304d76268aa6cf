use Rattle.std.proofs.Common.{◌≡◌, ◌∙◌, ◌++◌, ◌∷◌, [], ℕ, List, All, IsPermutation, ap, subst, sym, get_or, append_assoc, arith}
use Rattle.std.proofs.lemmas.List.Elements.{All-append, All-cons, All-nil}
use Rattle.std.proofs.lemmas.List.Sorted.{IsPermutation-append_left, IsPermutation-sym, IsPermutation-swap_remove, IsPermutation-to_front, IsPermutation-trans}
use Rattle.std.proofs.lemmas.Option.{slice_get-get_or}
use Rattle.pass_plain.proofs.Lists.{some_is}
use Rattle.pass_turns.specs.Turners.{TurnerState}
use Rattle.pass_turns.proofs.crew.set_apart.Goals as goal

-- one goes from the first list behind the second
moves : (turning rest ended : List TurnerState) (x : TurnerState) → IsPermutation turning (x ∷ rest) → IsPermutation (turning ++ ended) (rest ++ (ended ++ x ∷ []))
moves turning rest ended x out =
    IsPermutation-trans (turning ++ ended) (x ∷ (rest ++ ended)) (rest ++ (ended ++ x ∷ [])) (IsPermutation-append_left ended turning (x ∷ rest) out)
    (subst (IsPermutation (x ∷ (rest ++ ended))) (append_assoc rest ended (x ∷ [])) (IsPermutation-sym ((rest ++ ended) ++ x ∷ []) (x ∷ (rest ++ ended)) (IsPermutation-to_front (rest ++ ended) x)))

pub loop-place-preserved-then-left-eq0 : goal.loop-place-preserved-then-left-eq0
loop-place-preserved-then-left-eq0 g c =
    let x : TurnerState = c.swap_remove.result in
    let old : List TurnerState = c.loop-place.turning.items in
    let rest : List TurnerState = c.swap_remove.new.self.items in
    let i : ℕ = c.loop-place.place in
    let out : IsPermutation old (x ∷ rest) =
    subst (λ (ts : List TurnerState). IsPermutation old (x ∷ ts)) (sym c.swap_remove.ensures.items) (IsPermutation-swap_remove old c.loop-place.place x (omega arith) c.swap_remove.ensures.value) in
    let here : get_or old i x ≡ get_or old i c.index.result.now = some_is (get_or old i x) (get_or old i c.index.result.now) (sym (slice_get-get_or old i x (omega arith)) ∙ slice_get-get_or old i c.index.result.now (omega arith)) in
    let ended : x.left ≡ 0 = ap (λ (t : TurnerState). t.left) (c.swap_remove.ensures.value ∙ here ∙ sym c.index.ensures) ∙ sym c.left.ensures ∙ c.if-left-eq0.true in
    record {
      room = omega (arith, c.push_reserved.ensures.len, c.push_reserved.ensures.capacity, c.swap_remove.ensures.len, c.loop-place.invariant.room);
      same = IsPermutation-trans (c.args.turning.now.items ++ c.args.ended.now.items) (old ++ c.loop-place.ended.items) (rest ++ c.push_reserved.new.self.items) c.loop-place.invariant.same
          (subst (λ (ts : List TurnerState). IsPermutation (old ++ c.loop-place.ended.items) (rest ++ ts)) (sym c.push_reserved.ensures.items) (moves old rest c.loop-place.ended.items x out));
      ended = λ none. subst (λ (ts : List TurnerState). All (λ (t : TurnerState). t.left ≡ 0) ts) (sym c.push_reserved.ensures.items)
          (All-append (λ (t : TurnerState). t.left ≡ 0) c.loop-place.ended.items (x ∷ []) (c.loop-place.invariant.ended none) (All-cons (λ (t : TurnerState). t.left ≡ 0) x [] ended (All-nil (λ (t : TurnerState). t.left ≡ 0))));
    }

use Rattle.std.proofs.Common.{◌≡◌, ◌⊎◌, inl, inr, List, [], ◌∷◌, ◌++◌, sym, ◌∙◌, subst}
use Rattle.std.specs.Prelude.{Contains}
use Rattle.std.proofs.lemmas.List.Elements.{Contains-append_left, Contains-push, Contains-push_cases}
use Rattle.pass_entry.specs.declared.objects.Node.{Node}
use Rattle.pass_recipe.specs.declared.waiters.Waiting.{Waiting}
use Rattle.pass_recipe.specs.declared.queue.Queue.{Queue}
use Rattle.pass_recipe.specs.Queues.{IsFit, IsHeld}
use Rattle.pass_recipe.proofs.queue.Queue.wake.Goals as goal

-- a node that was still to be woken is still, or is the one that has settled
one_less : (new : List Waiting) (one w : Waiting) (old q : Queue) → Contains (new ++ one ∷ []) w ⊎ IsHeld old w.node → ((n : Node) → IsHeld old n → IsHeld q n) → IsHeld q one.node → Contains new w ⊎ IsHeld q w.node
one_less new one w old q (inl there) holds held = elim (Contains-push_cases new one w there) [ inl left ↦ inl left | inr is ↦ inr (subst (λ (x : Waiting). IsHeld q x.node) is held) ]
one_less new one w old q (inr before) holds held = inr (holds w.node before)

pub loop-one-preserved : goal.loop-one-preserved
loop-one-preserved c =
    let old : List Waiting = c.loop-one.woken.items in
    let new : List Waiting = c.pop.new.self.items in
    let one : Waiting = c.in-Some.one in
    let items : old ≡ new ++ one ∷ [] = c.in-Some.ensures.items in
    let before : (w : Waiting) → Contains new w → Contains old w = λ w there. subst (λ xs. Contains xs w) (sym items) (Contains-append_left new (one ∷ []) w there) in
    let here : Contains old one = subst (λ xs. Contains xs one) (sym items) (Contains-push new one) in
    record {
      made = c.settle.ensures.made ∙ c.loop-one.invariant.made;
      keeps = λ list all k fits.
          c.in_ok-settle.ensures.keeps list all (c.loop-one.invariant.keeps list all k fits)
          (subst (λ m. IsFit list all m one) (sym c.loop-one.invariant.made) (fits one (c.loop-one.invariant.rest one here)));
      rest = λ w there. c.loop-one.invariant.rest w (before w there);
      held = λ w there.
          one_less new one w c.loop-one.self c.settle.new.self
          (subst (λ xs. Contains xs w ⊎ IsHeld c.loop-one.self w.node) items (c.loop-one.invariant.held w there)) c.in_ok-settle.ensures.holds c.in_ok-settle.ensures.held;
      holds = λ n h. c.in_ok-settle.ensures.holds n (c.loop-one.invariant.holds n h);
    }

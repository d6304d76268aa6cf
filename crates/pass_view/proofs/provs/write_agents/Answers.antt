use Rattle.std.proofs.Common.{ℕ, ap, refl, sym, ◌∙◌, List, [], ◌∷◌}
use Rattle.std.specs.Prelude.{codes, map}
use Rattle.std.specs.Map.Iter.{deref}
use Rattle.std.proofs.lemmas.Map.Iter.{rest_all, rest_more}
use Rattle.std.proofs.lemmas.Result.{on_ok_weaker}
use Rattle.json.specs.Token.{begin_object, end_object, key}
use Rattle.pass_view.specs.Provs.{agent, member_tokens, object_of}
use Rattle.pass_view.proofs.Adding.{closed, next_comes, same_added}
use Rattle.pass_view.proofs.Members.{ones_are}
use Rattle.pass_view.proofs.provs.write_agents.Goals as goal

pub loop-name-init : goal.loop-name-init
loop-name-init c = (refl, refl)

pub loop-name-preserved : goal.loop-name-preserved
loop-name-preserved c =
    next_comes (λ (name : List ℕ). member_tokens (agent name)) c.begin.new.out c.into_iter-name-iterator.result c.loop-name.out c.write_agent.new.out c.in-Some.name.now c.loop-name.name-iterator
    c.next.new.self (rest_more deref c.loop-name.name-iterator c.next.new.self c.next.result c.in-Some.name c.in-Some.is c.next.ensures.steps) c.in_ok-write_agent.ensures c.loop-name.invariant

pub returns : goal.returns
returns c = on_ok_weaker c.end_object.result (λ wrote.
    same_added c.args.out.now c.end_object.new.self _ _
    (ap (λ ts. key (codes "agent") ∷ begin_object ∷ ts) (sym (ones_are agent c.into_iter-name-iterator.result)) ∙ ap (λ (names : List (List ℕ)). member_tokens (codes "agent", object_of (map agent names))) (c.into_iter-name-iterator.ensures.into_iter_gives.0 ∙ c.in_ok-names.ensures))
    (closed (λ (name : List ℕ). member_tokens (agent name)) c.begin.new.out c.into_iter-name-iterator.result c.args.out.now c.loop-name.out c.end_object.new.self
    (key (codes "agent") ∷ begin_object ∷ []) end_object c.loop-name.name-iterator
    (rest_all deref c.loop-name.name-iterator c.next.new.self c.next.result c.in-None.is c.next.ensures.steps)
    c.in_ok-begin.ensures c.loop-name.invariant (wrote, c.end_object.ensures.room.0))) c.end_object.ensures.ok

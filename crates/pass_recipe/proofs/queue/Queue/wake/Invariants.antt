use Rattle.std.proofs.Common.{◌≡◌, ◌⊎◌, List}
use Rattle.std.specs.Prelude.{vec_len, Contains}
use Rattle.pass_entry.specs.declared.objects.Node.{Node}
use Rattle.pass_entry.specs.declared.record.Record.{Record}
use Rattle.pass_recipe.specs.declared.waiters.Waiting.{Waiting}
use Rattle.pass_recipe.specs.Queues.{IsFit, IsQueue, IsHeld}
use Rattle.pass_recipe.proofs.queue.Queue.wake.Given as goal

abbrev pub invariant-loop-one : goal.invariant-loop-one
invariant-loop-one l = record {
  made : l.self.made ≡ l.fn.self.made;
  keeps : (list : List Record) (all : List Node) → IsQueue list all l.fn.self → ((one : Waiting) → Contains l.fn.woken.items one → IsFit list all l.fn.self.made one) → IsQueue list all l.self;
  rest : (one : Waiting) → Contains l.woken.items one → Contains l.fn.woken.items one;
  held : (one : Waiting) → Contains l.fn.woken.items one → Contains l.woken.items one ⊎ IsHeld l.self one.node;
  holds : (n : Node) → IsHeld l.fn.self n → IsHeld l.self n;
}

abbrev pub decreases-loop-one : goal.decreases-loop-one
decreases-loop-one l = vec_len l.woken

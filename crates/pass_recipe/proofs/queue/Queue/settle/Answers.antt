use Rattle.std.proofs.Common.{◌≡◌, ◌+◌, ◌<◌, false, List, length, refl, ap, ◌∙◌, subst}
use Rattle.std.specs.Prelude.{Some, slice_get}
use Rattle.std.specs.HashSet.{contains}
use Rattle.std.proofs.lemmas.Option.{slice_get_read}
use Rattle.std.proofs.lemmas.Result.{on_ok_weaker}
use Rattle.pass_entry.specs.declared.objects.Node.{Node}
use Rattle.pass_plain.specs.Versions.{same_node}
use Rattle.pass_recipe.specs.declared.waiters.Waiting.{Waiting}
use Rattle.pass_recipe.specs.declared.queue.Queue.{Queue}
use Rattle.pass_recipe.specs.Queues.{AreMade}
use Rattle.pass_recipe.proofs.Settling.{waited_keeps, waited_held, waited_holds, fit_waits, readied_keeps, readied_holds, fit_ready}
use Rattle.pass_recipe.proofs.queue.Queue.settle.Goals as goal

pub returns-in-Some-clause-keeps : goal.returns-in-Some-clause-keeps
returns-in-Some-clause-keeps c =
    let q : Queue = c.args.self.now in
    let one : Waiting = c.args.one in
    let items : List Node = one.sources.items in
    let place = c.in-Some.place in
    let source : Node = c.index-source.result.now in
    let moved : Waiting = record { node = one.node; sources = one.sources; next = place + 1 } in
    let same : c.deref.result.now ≡ items = c.deref.ensures.value in
    let within : place < length items = subst (λ (xs : List Node). place < length xs) same c.in-Some.ensures.some.0 in
    let at : slice_get items place ≡ Some source = slice_get_read items (length items) place source refl within c.index-source.ensures in
    let are : AreMade q.made items one.next place = subst (λ xs. AreMade q.made xs one.next place) same c.in-Some.ensures.some.1 in
    on_ok_weaker c.add.result (λ adds list all k f. waited_keeps q c.add.new.self source moved adds list all k (fit_waits list all q.made one place source f at are)) c.add.ensures

pub returns-in-Some-clause-held : goal.returns-in-Some-clause-held
returns-in-Some-clause-held c =
    let q : Queue = c.args.self.now in
    let one : Waiting = c.args.one in
    let items : List Node = one.sources.items in
    let place = c.in-Some.place in
    let source : Node = c.index-source.result.now in
    let moved : Waiting = record { node = one.node; sources = one.sources; next = place + 1 } in
    let same : c.deref.result.now ≡ items = c.deref.ensures.value in
    let within : place < length items = subst (λ (xs : List Node). place < length xs) same c.in-Some.ensures.some.0 in
    let at : slice_get items place ≡ Some source = slice_get_read items (length items) place source refl within c.index-source.ensures in
    let unmade : contains same_node q.made source ≡ false = c.in-Some.ensures.some.2 source (ap (λ (xs : List Node). slice_get xs place) same ∙ at) in
    on_ok_weaker c.add.result (λ adds. waited_held q c.add.new.self source moved adds unmade) c.add.ensures

pub returns-in-Some-clause-holds : goal.returns-in-Some-clause-holds
returns-in-Some-clause-holds c =
    let q : Queue = c.args.self.now in
    let one : Waiting = c.args.one in
    let moved : Waiting = record { node = one.node; sources = one.sources; next = c.in-Some.place + 1 } in
    on_ok_weaker c.add.result (λ adds. waited_holds q c.add.new.self c.index-source.result.now moved adds) c.add.ensures

pub returns-in_ok-insert-in-None-clause-keeps : goal.returns-in_ok-insert-in-None-clause-keeps
returns-in_ok-insert-in-None-clause-keeps c = λ list all k f.
    let q : Queue = c.args.self.now in
    let one : Waiting = c.args.one in
    let are : AreMade q.made one.sources.items one.next (length one.sources.items) =
    subst (λ xs. AreMade q.made xs one.next (length xs)) c.deref.ensures.value (c.first_missing.ensures.none c.in-None.is) in
    readied_keeps q c.insert.new.self one.node one.sources c.in_ok-insert-in-None.ensures.updates.0 list all k (fit_ready list all q.made one f are)

pub returns-in_ok-insert-in-None-clause-holds : goal.returns-in_ok-insert-in-None-clause-holds
returns-in_ok-insert-in-None-clause-holds c = readied_holds c.args.self.now c.insert.new.self c.args.one.node c.args.one.sources c.in_ok-insert-in-None.ensures.updates.0

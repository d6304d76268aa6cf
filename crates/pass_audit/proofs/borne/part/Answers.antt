use Rattle.std.proofs.Common.{◌∙◌, ◌*◌, ◌-◌, ℕ, List, length, take, drop, sym, arith, length-take, length-drop}
use Rattle.std.proofs.lemmas.List.{take_all, take_rest}
use Rattle.pass_audit.proofs.borne.part.Goals as goal

pub slice_bounds-result-end : goal.slice_bounds-result-end
slice_bounds-result-end c =
    let content : List ℕ = c.args.content.now in
    let at : ℕ = c.args.block * 4096 in
    omega (arith, c.if-rest.true, c.requires, length-take 4096 (take (length content - at) (drop at content)), length-take (length content - at) (drop at content), length-drop at content)

pub returns-else-rest : goal.returns-else-rest
returns-else-rest c =
    let content : List ℕ = c.args.content.now in
    let at : ℕ = c.args.block * 4096 in
    take_rest content at ∙ sym (take_all 4096 (drop at content) (omega (arith, c.if-rest.false, c.requires, length-take (length content - at) (drop at content), length-drop at content)))

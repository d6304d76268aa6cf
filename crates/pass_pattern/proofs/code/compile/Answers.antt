use Rattle.std.proofs.Common.{◌≡◌, ◌+◌, List, [], ◌∷◌, ◌++◌, length, ap, ◌∙◌, subst, arith}
use Rattle.std.specs.Prelude.{slice_get}
use Rattle.pass_pattern.specs.declared.code.Instruction.{Instruction}
use Rattle.pass_pattern.specs.declared.code.Instruction.TheVariants.{Found}
use Rattle.pass_pattern.specs.Patterns.{shape_of, atoms}
use Rattle.pass_pattern.specs.Codes.{HasCode, edges_in}
use Rattle.pass_pattern.proofs.code.compile.Goals as goal

pub returns : goal.returns
returns c =
    let before : c.push.new.self.items ≡ Found ∷ [] = c.in_ok-push.ensures.items ∙ ap (λ (xs : List Instruction). xs ++ Found ∷ []) c.new-instructions.ensures.items in
    let size : length c.push.new.self.items ≡ 1 = ap length before in
    let none : edges_in c.push.new.self.items ≡ 0 = ap edges_in before in
    record {
      ends = c.in_ok-start.ensures.grown.kept 0 Found (ap (λ xs. slice_get xs 0) before);
      has = subst (λ n. HasCode c.emit.new.code.items n (shape_of c.args.pattern.now) c.in_ok-start.start 0) size c.in_ok-start.ensures.code;
      edges = c.in_ok-start.ensures.edges ∙ ap (λ n. n + atoms (shape_of c.args.pattern.now)) none ∙ (let z : 0 + atoms (shape_of c.args.pattern.now) ≡ atoms (shape_of c.args.pattern.now) = omega arith in z);
    }

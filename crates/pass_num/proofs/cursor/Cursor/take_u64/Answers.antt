-- The bytes of the number are the bytes that it was read from.
use Rattle.std.proofs.Common.{◌≡◌, ◌++◌, ap, sym, ◌∙◌, List, ℕ, rules}
use Rattle.std.specs.Int.{w64, to_be_bytes}
use Rattle.std.proofs.lemmas.Nat.{be_bytes_8}
use Rattle.pass_num.proofs.cursor.Cursor.take_u64.Goals as goal

pub returns-clause-taken : goal.returns-clause-taken
returns-clause-taken c =
    let field : to_be_bytes w64 c.from_be_bytes.result ≡ c.in_ok-field.field.now =
    be_bytes_8 c.in_ok-field.field.now c.from_be_bytes.result c.in_ok-field.ensures.len (search rules) c.from_be_bytes.ensures in
    c.in_ok-field.ensures.taken ∙ ap (λ (bytes : List ℕ). bytes ++ c.take_bytes.new.self) (sym field)

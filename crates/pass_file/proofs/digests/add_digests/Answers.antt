use Rattle.std.proofs.Common.{◌∙◌, ◌-◌, ◌++◌, ◌∷◌, [], ℕ, List, map, ap, append_assoc}
use Rattle.std.specs.List.{range_with_len}
use Rattle.std.specs.Option.{option_map_or}
use Rattle.pass_entry.specs.declared.record.Record.{Record}
use Rattle.pass_plain.specs.Files.{file_act}
use Rattle.pass_plain.specs.Records.{digest_of}
use Rattle.pass_file.proofs.digests.add_digests.Goals as goal

pub returns : goal.returns
returns c =
    let a = c.args in
    let t = a.touched.now in
    let f : ℕ → Record = digest_of a.file (file_act a.content.now.bytes a.act.now) in
    c.add_all.ensures
    ∙ ap (λ (xs : List Record). xs ++ map f (range_with_len t.first (t.end - t.first))) c.add_some.ensures.list
    ∙ append_assoc a.list.now.items (option_map_or (λ e. f e ∷ []) t.edge []) (map f (range_with_len t.first (t.end - t.first)))

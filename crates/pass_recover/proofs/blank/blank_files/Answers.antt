use Rattle.std.proofs.Common.{ℕ, Vec, Global, ◌≡◌, ◌∙◌, ◌+◌, ◌++◌, ◌∷◌, [], List, take, length, map, ap, sym, refl}
use Rattle.std.specs.Prelude.{Option, Some, filter_map, slice_get}
use Rattle.std.specs.List.{cons_option}
use Rattle.std.proofs.lemmas.Option.{slice_get_read}
use Rattle.std.proofs.lemmas.List.{map-append, append-nil}
use Rattle.std.proofs.lemmas.List.Elements.{filter_map-append}
use Rattle.pass_entry.specs.declared.objects.Node.{Node}
use Rattle.pass_plain.specs.declared.start.StartFile.{StartFile}
use Rattle.pass_plain.specs.WellLogged.{current_of, last_name_of}
use Rattle.pass_plain.proofs.Replays.{take-next}
use Rattle.pass_range.specs.Rows.{file_made, files_of}
use Rattle.pass_graph.specs.Logged.{name_in}
use Rattle.pass_recover.proofs.Blanks.{made_number, blank_filled, filled_more}
use Rattle.pass_recover.proofs.blank.blank_files.Goals as goal
use Rattle.pass_recover.proofs.blank.blank_files.Goals.{in-Some+in_ok-file+in_ok-file-2+in_ok-push, in_default}

pub loop-one-preserved : goal.loop-one-preserved
loop-one-preserved c =
    let list = c.args.list.now in
    let i = c.loop-one.one-index in
    let r = c.one-item.result in
    let next : files_of (take (i + 1) list) ≡ files_of (take i list) ++ filter_map file_made (r ∷ []) =
    ap files_of (take-next list i r c.loop-one-test.true c.one-item.is) ∙ filter_map-append file_made (take i list) (r ∷ []) in
    elim c.match-made_file.branch [
      | in-Some+in_ok-file+in_ok-file-2+in_ok-push w ↦
          let pnode = w.in-Some.pnode in
          let blank = w.in_ok-file.file in
          let made : file_made r ≡ Some pnode = sym c.made_file.ensures ∙ w.in-Some.is in
          let version : w.version-file.result ≡ current_of list pnode = w.version-file.ensures list c.requires.says in
          let named : w.in_ok-file-2.field-0 ≡ name_in (last_name_of list pnode) = w.in_ok-file-2.ensures list c.requires.says in
          let file : StartFile = record { node = record { pnode = blank.node.pnode; version = w.version-file.result }; name = w.in_ok-file-2.field-0; size = blank.size; rows = blank.rows; bytes = blank.bytes } in
          let is : blank.node.pnode ≡ pnode = ap (λ (n : Node). n.pnode) w.in_ok-file.ensures.node in
          let there = made_number list i r pnode (slice_get_read list (length list) i r refl c.loop-one-test.true c.one-item.is) made in
          let filled = blank_filled list c.args.table.now pnode there.0 c.requires.table there.1 file is version named w.in_ok-file.ensures.size w.in_ok-file.ensures.rows w.in_ok-file.ensures.bytes in
          let items : c.match-made_file.files.items ≡ c.loop-one.files.items ++ file ∷ [] = ap (λ (v : Vec StartFile Global). v.items) w.files-is ∙ w.in_ok-push.ensures.items in
          record {
            order =
                ap (map (λ (f : StartFile). f.node.pnode)) items ∙ map-append (λ (f : StartFile). f.node.pnode) c.loop-one.files.items (file ∷ [])
                ∙ ap (λ (l : List ℕ). l ++ blank.node.pnode ∷ []) c.loop-one.invariant.order ∙ ap (λ (p : ℕ). files_of (take i list) ++ p ∷ []) is
                ∙ sym (next ∙ ap (λ (o : Option ℕ). files_of (take i list) ++ cons_option o []) made);
            each = λ j f at. filled_more list c.loop-one.files.items file c.loop-one.invariant.each filled j f (sym (ap (λ (l : List StartFile). slice_get l j) items) ∙ at);
          }
      | in_default w ↦
          let items : c.match-made_file.files.items ≡ c.loop-one.files.items = ap (λ (v : Vec StartFile Global). v.items) w.files-is in
          record {
            order =
                ap (map (λ (f : StartFile). f.node.pnode)) items ∙ c.loop-one.invariant.order
                ∙ sym (next ∙ ap (λ (o : Option ℕ). files_of (take i list) ++ cons_option o []) (sym c.made_file.ensures ∙ w.in_default.is) ∙ append-nil (files_of (take i list)));
            each = λ j f at. c.loop-one.invariant.each j f (sym (ap (λ (l : List StartFile). slice_get l j) items) ∙ at);
          }
    ]

use Rattle.std.proofs.Common.{◌≡◌, take_all, ◌∙◌, ◌<◌, ℕ, List, [], ◌++◌, ap, sym, subst, take, length, arith}
use Rattle.std.specs.Prelude.{Option, Some, filter_map, option_map, vec_capacity}
use Rattle.std.specs.List.{cons_option}
use Rattle.std.specs.Ordering.{nat_cmp}
use Rattle.std.specs.Cmp.Lexicographic.{slice_cmp, nat_list_cmp_total}
use Rattle.std.specs.FinMap.{find, from_entries, get-from_entries, same_map, slice_cmp-IsAntisymmetric, nat_cmp-IsAntisymmetric}
use Rattle.std.proofs.lemmas.List.{append-nil}
use Rattle.pass_plain.specs.declared.start.StartFile.{StartFile}
use Rattle.pass_plain.specs.Registries.{named_file}
use Rattle.pass_registry.specs.Places.{Entries, IsAscending, map_of}
use Rattle.pass_registry.proofs.NameMaps.{ascending_put, longer}
use Rattle.pass_registry.proofs.OpenNames.{free_name, names-next, found_next}
use Rattle.pass_registry.proofs.names.Names.of_files.Goals as goal
use Rattle.pass_registry.proofs.names.Names.of_files.Goals.{in-Some+in_ok-clone, in_default}

pub put_in-requires-clause-free : goal.put_in-requires-clause-free
put_in-requires-clause-free c =
    let named = c.in-Some.is ∙ ap (λ (n : List ℕ). Some n) (sym c.in_ok-clone.ensures.cases) in
    c.loop-file.invariant.same c.in_ok-clone.field-0
    ∙ free_name c.args.files.now c.loop-file.file-index c.file-item.result c.in_ok-clone.field-0 c.requires (omega arith) c.file-item.is named

pub loop-file-preserved : goal.loop-file-preserved
loop-file-preserved c =
    let files = c.args.files.now in
    let i = c.loop-file.file-index in
    let file = c.file-item.result in
    let within : i < length files = omega arith in
    let before = filter_map named_file (take i files) in
    let more = λ (o : Option (List ℕ)). before ++ cons_option (option_map (λ n. (n, file.node.pnode)) o) [] in
    let es = c.loop-file.entries.items in
    elim c.match-file.branch [
      | in-Some+in_ok-clone w ↦
          let name = w.in_ok-clone.field-0 in
          let named = w.in-Some.is ∙ ap (λ (n : List ℕ). Some n) (sym w.in_ok-clone.ensures.cases) in
          let free = free_name files i file name c.requires within c.file-item.is named in
          let absent = c.loop-file.invariant.same name ∙ free in
          let items = ap (λ v. v.items) w.entries-is ∙ w.put_in.ensures.items in
          let len = ap (λ (x : Entries). length x) items ∙ longer name file.node.pnode es c.loop-file.invariant.ascending absent in
          let room = ap (λ v. vec_capacity v) w.entries-is in
          record {
            ascending = subst IsAscending (sym items) (ascending_put name file.node.pnode es c.loop-file.invariant.ascending);
            same = λ q. ap (find (slice_cmp nat_cmp) q) items ∙ found_next q name file.node.pnode es before free (c.loop-file.invariant.same q)
                ∙ ap (find (slice_cmp nat_cmp) q) (sym (names-next files i file within c.file-item.is ∙ ap more named));
            short = omega (arith, len, c.loop-file.invariant.short);
            room = omega (arith, room, c.loop-file.invariant.room, w.put_in.ensures.capacity);
          }
      | in_default w ↦
          let items = ap (λ v. v.items) w.entries-is in
          let room = ap (λ v. vec_capacity v) w.entries-is in
          let len = ap (λ (x : Entries). length x) items in
          record {
            ascending = subst IsAscending (sym items) c.loop-file.invariant.ascending;
            same = λ q. ap (find (slice_cmp nat_cmp) q) items ∙ c.loop-file.invariant.same q
                ∙ ap (find (slice_cmp nat_cmp) q) (sym (names-next files i file within c.file-item.is ∙ ap more w.in_default.is ∙ append-nil before));
            short = omega (arith, len, c.loop-file.invariant.short);
            room = omega (arith, room, c.loop-file.invariant.room);
          }
    ]

pub returns : goal.returns
returns c =
    let files = c.args.files.now in
    let all : take c.loop-file.file-index files ≡ files = take_all _ _ (omega arith) in
    (λ i. record {
      names = same_map nat_list_cmp_total (slice_cmp-IsAntisymmetric nat_cmp-IsAntisymmetric) (map_of c.loop-file.entries.items) (from_entries (filter_map named_file files))
          (λ q. get-from_entries nat_list_cmp_total c.loop-file.entries.items q ∙ c.loop-file.invariant.same q
          ∙ ap (λ (fs : List StartFile). find (slice_cmp nat_cmp) q (filter_map named_file fs)) all
          ∙ sym (get-from_entries nat_list_cmp_total (filter_map named_file files) q)) i;
      room = 0;
    })

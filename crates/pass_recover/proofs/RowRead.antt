-- One row more is read into the files of a list.
use Rattle.std.proofs.Common.{◌≡◌, ◌∙◌, ◌⊎◌, ◌==◌, ◌||◌, ◌&&◌, ◌+◌, ◌-◌, ◌*◌, ◌<◌, ◌≤◌, ℕ, Bool, true, false, not, cond, List, [], ◌∷◌, ◌++◌, length, map, filter, take, drop, get_or, refl, sym, ap, subst, arith, inl, inr, ⊎_elim}
use Rattle.std.specs.Prelude.{Option, Some, None, is_some, option_map, slice_get, slice_set, bytes_eq, if◌then◌else◌}
use Rattle.std.specs.Option.{option_map_or}
use Rattle.std.specs.List.{All}
use Rattle.std.proofs.lemmas.Option.{get_or_from_slice_get}
use Rattle.std.proofs.lemmas.List.{map-append, get_or-take, get_or-drop, length-map, append-nil}
use Rattle.std.proofs.lemmas.List.Elements.{filter-append}
use Rattle.std.proofs.lemmas.List.Folds.{list_any-append}
use Rattle.std.proofs.lemmas.Bool.{cases_Bool, true≢false}
use Rattle.md5.specs.Md5.{md5}
use Rattle.pass_entry.specs.declared.objects.Kind.TheVariants as kind
use Rattle.pass_entry.specs.declared.objects.Node.{Node}
use Rattle.pass_entry.specs.declared.record.Record.{Record}
use Rattle.pass_entry.specs.Ranges.{IsInRange}
use Rattle.pass_entry.proofs.Places.{position_at, slice_get-take, filter_agrees, Contains-at}
use Rattle.pass_plain.specs.declared.start.StartFile.{StartFile}
use Rattle.pass_plain.specs.Records.{range_len}
use Rattle.pass_plain.specs.WellLogged.{current_of, last_name_of, size_of, IsWellLogged}
use Rattle.pass_plain.proofs.Replays.{take-next}
use Rattle.pass_plain.proofs.Lists.{or_false, both_true, same_numbers, same_itself, some_is, within_take}
use Rattle.pass_range.specs.declared.table.Table.{Table}
use Rattle.pass_range.specs.declared.table.TableFile.{TableFile}
use Rattle.pass_range.specs.Places.{place, found_there}
use Rattle.pass_range.specs.Rows.{range, row_of, files_of, number_of}
use Rattle.pass_range.specs.Tables.{Row, IsBelow, IsTableOf, file_in}
use Rattle.pass_range.specs.Lawful.{IsZero}
use Rattle.pass_range.proofs.Listed.{numbered}
use Rattle.pass_range.proofs.RowFiles.{row_files, number-below, number-one}
use Rattle.pass_graph.specs.Logged.{name_in}
use Rattle.pass_recover.specs.Fills.{has_block, blocks_in, IsFilled, AreFilled, AreRead, bytes_in, is_same, other_ranges}
use Rattle.pass_recover.proofs.Elements.{set_at, set_here, set_other, set_mapped, in_mapped}
use Rattle.pass_recover.proofs.Made.{are_made, objects_in, files_in}

some_none : {X : Type 0} (x : X) → Some x ≡ None → ⊥
some_none x e = absurd (cc)

pub number-at : (list : List Record) (p m : ℕ) → number_of list p ≡ Some m → slice_get (files_of list) m ≡ Some p
number-at list p m is = let r = position_at 0 (files_of list) p m is in ap (slice_get (files_of list)) (let z = r.1 in let y : m ≡ r.0 = omega (arith, z) in y) ∙ r.2

-- a block with an equal range is as zero
zero_range : (block : ℕ) (old new : List ℕ) → range block new ≡ range block old → IsZero block old → IsZero block new
zero_range block old new same is_zero = λ at low high. sym (in_range new at low high) ∙ ap (λ (l : List ℕ). get_or l (at - block * 4096) 0) same ∙ in_range old at low high ∙ is_zero at low high
  where
    in_range : (bytes : List ℕ) (at : ℕ) → block * 4096 ≤ at → at < (block + 1) * 4096 → get_or (range block bytes) (at - block * 4096) 0 ≡ get_or bytes at 0
    in_range bytes at low high =
        get_or-take 4096 (drop (block * 4096) bytes) (at - block * 4096) 0 (omega (arith, low, high)) ∙ get_or-drop (block * 4096) bytes (at - block * 4096) 0
        ∙ ap (λ (k : ℕ). get_or bytes k 0) (let z : block * 4096 + (at - block * 4096) ≡ at = omega (arith, low) in z)

-- the blocks of one row more

blocks_more : (read : List Row) (row : Row) (p : ℕ) (t : Bool) → (row.0.pnode == p) ≡ t → blocks_in (read ++ row ∷ []) p ≡ blocks_in read p ++ (if t then row.0.block ∷ [] else [])
blocks_more read row p t is =
    ap (map (λ (r : Row). r.0.block)) (filter-append (λ (r : Row). r.0.pnode == p) read (row ∷ []))
    ∙ map-append (λ (r : Row). r.0.block) (filter (λ (r : Row). r.0.pnode == p) read) (filter (λ (r : Row). r.0.pnode == p) (row ∷ []))
    ∙ by_test t is
  where
    by_test : (t : Bool) → (row.0.pnode == p) ≡ t → blocks_in read p ++ map (λ (r : Row). r.0.block) (cond (row.0.pnode == p) (row ∷ []) []) ≡ blocks_in read p ++ (if t then row.0.block ∷ [] else [])
    by_test true is = ap (λ (b : Bool). blocks_in read p ++ map (λ (r : Row). r.0.block) (cond b (row ∷ []) [])) is
    by_test false is = ap (λ (b : Bool). blocks_in read p ++ map (λ (r : Row). r.0.block) (cond b (row ∷ []) [])) is

has_more : (read : List Row) (row : Row) (p block : ℕ) → has_block (read ++ row ∷ []) p block ≡ (has_block read p block || ((row.0.pnode == p && row.0.block == block) || false))
has_more read row p block = list_any-append (λ (r : Row). r.0.pnode == p && r.0.block == block) read (row ∷ [])

module _ (list : List Record) (table : Table) (is : IsTableOf list table) (logged : IsWellLogged list) where
  abbrev rows : List Row
  rows = table.rows.items

  -- a row is of a file of the table, and begins within it
  pub row_file : (k : ℕ) (row : Row) → slice_get rows k ≡ Some row
      → (m : ℕ) × (number_of list row.0.pnode ≡ Some m) × (file_in table row.0.pnode ≡ Some (record { number = m; size = size_of list row.0.pnode })) × (row.0.block * 4096 < size_of list row.0.pnode)
  row_file k row at = by_number (number_of list row.0.pnode) refl filed.0
    where
      has : row_of list row.0.pnode row.0.block ≡ Some row.1
      has = (is.rows row.0.pnode row.0.block row.1).0 (Contains-at rows k row at)

      filed : (is_some (number_of list row.0.pnode) ≡ true) × (row.0.block * 4096 < size_of list row.0.pnode)
      filed = row_files list logged row.0.pnode row.0.block (ap is_some has)

      by_number : (o : Option ℕ) → number_of list row.0.pnode ≡ o → is_some o ≡ true
          → (m : ℕ) × (number_of list row.0.pnode ≡ Some m) × (file_in table row.0.pnode ≡ Some (record { number = m; size = size_of list row.0.pnode })) × (row.0.block * 4096 < size_of list row.0.pnode)
      by_number None number some = absurd (true≢false (sym some))
      by_number (Some m) number some =
          (m, number, is.files row.0.pnode ∙ ap (option_map (λ (n : ℕ). record { number = n; size = size_of list row.0.pnode })) number, filed.1)

  module _ (k : ℕ) (row : Row) (at : slice_get rows k ≡ Some row) (there : TableFile) (found : file_in table row.0.pnode ≡ Some there) (files : List StartFile) (filled : AreFilled list (take k rows) files) where
    number_is : number_of list row.0.pnode ≡ Some there.number
    number_is = (numbered (number_of list row.0.pnode) (size_of list row.0.pnode) there (sym (is.files row.0.pnode) ∙ found)).0

    -- its file is among the files
    pub row_within : there.number < length files
    row_within =
        let long : length files ≡ length (files_of list) = sym (length-map {B = ℕ} files (λ (f : StartFile). f.node.pnode)) ∙ ap length filled.order in
        let low = number-below list row.0.pnode there.number number_is in
        omega (arith, long, low)

    module _ (old : StartFile) (here : slice_get files there.number ≡ Some old) where
      pnode_is : old.node.pnode ≡ row.0.pnode
      pnode_is = some_is old.node.pnode row.0.pnode
          (sym (in_mapped (λ (f : StartFile). f.node.pnode) files there.number old here) ∙ ap (λ (l : List ℕ). slice_get l there.number) filled.order ∙ number-at list row.0.pnode there.number number_is)

      old_filled : IsFilled list (take k rows) old
      old_filled = filled.each there.number old here

      -- its range is in it
      pub row_fits : row.0.block * 4096 < length old.bytes.items
      row_fits = let r = row_file k row at in subst (λ (n : ℕ). row.0.block * 4096 < n) (sym (old_filled.sized ∙ ap (size_of list) pnode_is)) r.3

      module _ (ranges : All IsInRange list) (low : k < length rows) (new : StartFile)
          (head : (new.node ≡ old.node) × (new.name ≡ old.name) × (new.size ≡ old.size)) (more : new.rows.items ≡ old.rows.items ++ row.0.block ∷ [])
          (long : length new.bytes.items ≡ length old.bytes.items) (others : (other : ℕ) → (other ≡ row.0.block → ⊥) → range other new.bytes.items ≡ range other old.bytes.items) where
        abbrev after : List StartFile
        after = slice_set files there.number new

        same_pnode : new.node.pnode ≡ old.node.pnode
        same_pnode = ap (λ (n : Node). n.pnode) head.0

        new_pnode : new.node.pnode ≡ row.0.pnode
        new_pnode = same_pnode ∙ pnode_is

        next_rows : take (k + 1) rows ≡ take k rows ++ row ∷ []
        next_rows = take-next rows k row low (sym (get_or_from_slice_get rows k row row at))

        -- in the file, every block but this has what it had
        zero_new : (block : ℕ) → has_block (take k rows ++ row ∷ []) new.node.pnode block ≡ false → IsZero block new.bytes.items
        zero_new block none =
            let split = or_false (has_block (take k rows) new.node.pnode block) ((row.0.pnode == new.node.pnode && row.0.block == block) || false) (sym (has_more (take k rows) row new.node.pnode block) ∙ none) in
            zero_range block old.bytes.items new.bytes.items
            (others block (λ same. true≢false (sym (both_true (row.0.pnode == new.node.pnode) (row.0.block == block) (ap (λ (q : ℕ). row.0.pnode == q) new_pnode ∙ same_itself row.0.pnode) (ap (λ (b : ℕ). row.0.block == b) same ∙ same_itself row.0.block))
            ∙ (or_false (row.0.pnode == new.node.pnode && row.0.block == block) false split.1).0)))
            (old_filled.zero block (ap (λ (q : ℕ). has_block (take k rows) q block) (sym same_pnode) ∙ split.0))

        new_filled : IsFilled list (take (k + 1) rows) new
        new_filled = subst (λ (read : List Row). IsFilled list read new) (sym next_rows) (record {
          version = ap (λ (n : Node). n.version) head.0 ∙ old_filled.version ∙ ap (current_of list) (sym same_pnode);
          name = head.1 ∙ old_filled.name ∙ ap (λ (q : ℕ). name_in (last_name_of list q)) (sym same_pnode);
          size = head.2 ∙ old_filled.size ∙ ap (size_of list) (sym same_pnode);
          rows = more ∙ ap (λ (l : List ℕ). l ++ row.0.block ∷ []) (old_filled.rows ∙ ap (blocks_in (take k rows)) (sym same_pnode))
              ∙ sym (blocks_more (take k rows) row new.node.pnode true (ap (λ (q : ℕ). row.0.pnode == q) new_pnode ∙ same_itself row.0.pnode));
          sized = long ∙ old_filled.sized ∙ ap (size_of list) (sym same_pnode);
          zero = zero_new;
        })

        -- another file stays
        apart_file : (i : ℕ) (f : StartFile) → slice_get files i ≡ Some f → (i ≡ there.number → ⊥) → (row.0.pnode == f.node.pnode) ≡ false
        apart_file i f has other = elim (cases_Bool (row.0.pnode == f.node.pnode)) [
          | inl same ↦ absurd (other ((are_made kind.File list logged ranges).single i there.number row.0.pnode
              (place_in i ∙ ap (λ (q : ℕ). Some q) (sym (same_numbers row.0.pnode f.node.pnode same)))
              (ap (λ (l : List ℕ). slice_get l there.number) (files_in list) ∙ number-at list row.0.pnode there.number number_is)))
          | inr apart ↦ apart
        ]
          where
            place_in : (j : ℕ) → slice_get (objects_in kind.File list) i ≡ Some f.node.pnode
            place_in j = ap (λ (l : List ℕ). slice_get l i) (files_in list ∙ sym filled.order) ∙ in_mapped (λ (f : StartFile). f.node.pnode) files i f has

        other_filled : (i : ℕ) (f : StartFile) → slice_get files i ≡ Some f → (i ≡ there.number → ⊥) → IsFilled list (take (k + 1) rows) f
        other_filled i f has other =
            let apart = apart_file i f has other in
            let was = filled.each i f has in
            subst (λ (read : List Row). IsFilled list read f) (sym next_rows) (record {
              version = was.version;
              name = was.name;
              size = was.size;
              rows = was.rows ∙ sym (blocks_more (take k rows) row f.node.pnode false apart ∙ append-nil (blocks_in (take k rows) f.node.pnode));
              sized = was.sized;
              zero = λ block none. was.zero block (or_false (has_block (take k rows) f.node.pnode block) ((row.0.pnode == f.node.pnode && row.0.block == block) || false) (sym (has_more (take k rows) row f.node.pnode block) ∙ none)).0;
            })

        pub next_filled : AreFilled list (take (k + 1) rows) after
        next_filled = record {
          order = set_mapped (λ (f : StartFile). f.node.pnode) files there.number new old here same_pnode ∙ filled.order;
          each = λ i f has. elim (set_at files there.number new i f has) [
            | inl l ↦ subst (IsFilled list (take (k + 1) rows)) l.1 new_filled
            | inr r ↦ other_filled i f r.1 r.0
          ];
        }

        -- what was read
        pub next_read : (store : List ℕ) → range row.0.block new.bytes.items ≡ found_there (place there.number row.0.block) (range_len (length old.bytes.items) row.0.block) store
            → AreRead list (take k rows) store files → AreRead list (take (k + 1) rows) store after
        next_read store given read = λ i f has block some.
            let some_more = sym (has_more (take k rows) row f.node.pnode block) ∙ ap (λ (l : List Row). has_block l f.node.pnode block) (sym next_rows) ∙ some in
            elim (set_at files there.number new i f has) [
              | inl l ↦ subst (λ (g : StartFile). range block g.bytes.items ≡ found_there (place i block) (range_len (size_of list g.node.pnode) block) store) l.1
                  (in_new block (ap (λ (g : StartFile). has_block (take k rows) g.node.pnode block || ((row.0.pnode == g.node.pnode && row.0.block == block) || false)) l.1 ∙ some_more) i l.0)
              | inr r ↦ read i f r.1 block (earlier (has_block (take k rows) f.node.pnode block) (row.0.pnode == f.node.pnode) (row.0.block == block) (apart_file i f r.1 r.0) some_more)
            ]
          where
            earlier : (a p b : Bool) → p ≡ false → (a || ((p && b) || false)) ≡ true → a ≡ true
            earlier true p b apart some = refl
            earlier false true b apart some = absurd (true≢false apart)
            earlier false false b apart some = some

            in_new : (block : ℕ) → (has_block (take k rows) new.node.pnode block || ((row.0.pnode == new.node.pnode && row.0.block == block) || false)) ≡ true → (i : ℕ) → i ≡ there.number
                → range block new.bytes.items ≡ found_there (place i block) (range_len (size_of list new.node.pnode) block) store
            in_new block some i number = by_block (row.0.block == block) refl
              where
                size : length old.bytes.items ≡ size_of list new.node.pnode
                size = old_filled.sized ∙ ap (size_of list) (sym same_pnode)

                by_block : (t : Bool) → (row.0.block == block) ≡ t → range block new.bytes.items ≡ found_there (place i block) (range_len (size_of list new.node.pnode) block) store
                by_block true same =
                    ap (λ (b : ℕ). range b new.bytes.items) (sym (same_numbers row.0.block block same)) ∙ given
                    ∙ ap (λ (b : ℕ). found_there (place there.number b) (range_len (length old.bytes.items) b) store) (same_numbers row.0.block block same)
                    ∙ ap (λ (n : ℕ). found_there (place there.number block) (range_len n block) store) size
                    ∙ ap (λ (n : ℕ). found_there (place n block) (range_len (size_of list new.node.pnode) block) store) (sym number)
                by_block false other =
                    others block (λ same. true≢false (sym (ap (λ (b : ℕ). row.0.block == b) same ∙ same_itself row.0.block) ∙ other))
                    ∙ read there.number old here block (ap (λ (q : ℕ). has_block (take k rows) q block) (sym same_pnode) ∙ before (has_block (take k rows) new.node.pnode block) (row.0.pnode == new.node.pnode) (row.0.block == block) other some)
                    ∙ ap (λ (q : ℕ). found_there (place there.number block) (range_len (size_of list q) block) store) (sym same_pnode)
                    ∙ ap (λ (n : ℕ). found_there (place n block) (range_len (size_of list new.node.pnode) block) store) (sym number)
                  where
                    before : (a p b : Bool) → b ≡ false → (a || ((p && b) || false)) ≡ true → a ≡ true
                    before true p b apart some = refl
                    before false p true apart some = absurd (true≢false apart)
                    before false true false apart some = some
                    before false false false apart some = some

        -- what was read before has the digests that it had
        same_row : (i : ℕ) (r : Row) → slice_get (take k rows) i ≡ Some r → not (is_same table after r) ≡ not (is_same table files r)
        same_row i r has = ap not (by_file (file_in table r.0.pnode) refl)
          where
            in_rows : slice_get rows i ≡ Some r
            in_rows = slice_get-take k i rows r has

            below : IsBelow r.0 row.0
            below = is.ascending i k r.0 row.0 (within_take k i rows r has) (in_mapped (λ (x : Row). x.0) rows i r in_rows) (in_mapped (λ (x : Row). x.0) rows k row at)

            by_file : (o : Option TableFile) → file_in table r.0.pnode ≡ o
                → option_map_or (λ (file : TableFile). bytes_eq (md5 (range r.0.block (bytes_in after file.number))) r.1) o true
                ≡ option_map_or (λ (file : TableFile). bytes_eq (md5 (range r.0.block (bytes_in files file.number))) r.1) o true
            by_file None none = refl
            by_file (Some file) is_file = ap (λ (l : List ℕ). bytes_eq (md5 l) r.1) (by_number (file.number == there.number) refl)
              where
                by_number : (t : Bool) → (file.number == there.number) ≡ t → range r.0.block (bytes_in after file.number) ≡ range r.0.block (bytes_in files file.number)
                by_number true same =
                    let number = same_numbers file.number there.number same in
                    let one : number_of list r.0.pnode ≡ Some there.number = (numbered (number_of list r.0.pnode) (size_of list r.0.pnode) file (sym (is.files r.0.pnode) ∙ is_file)).0 ∙ ap (λ (n : ℕ). Some n) number in
                    let pnode : row.0.pnode ≡ r.0.pnode = number-one list r.0.pnode row.0.pnode there.number one number_is in
                    ap (λ (n : ℕ). range r.0.block (bytes_in after n)) number
                    ∙ ap (λ (o : Option StartFile). range r.0.block (option_map_or (λ (f : StartFile). f.bytes.items) o [])) (set_here files there.number new old here)
                    ∙ others r.0.block (λ block. ⊎_elim (λ (less : r.0.pnode < row.0.pnode). absurd (omega (arith, less, pnode))) (λ (less : (r.0.pnode ≡ row.0.pnode) × (r.0.block < row.0.block)). absurd (omega (arith, less.1, block))) below)
                    ∙ sym (ap (λ (n : ℕ). range r.0.block (bytes_in files n)) number ∙ ap (λ (o : Option StartFile). range r.0.block (option_map_or (λ (f : StartFile). f.bytes.items) o [])) here)
                by_number false other =
                    ap (λ (o : Option StartFile). range r.0.block (option_map_or (λ (f : StartFile). f.bytes.items) o []))
                    (set_other files there.number new file.number (λ same. true≢false (sym (ap (λ (n : ℕ). n == there.number) same ∙ same_itself there.number) ∙ other)))

        new_row : is_same table after row ≡ bytes_eq (md5 (range row.0.block new.bytes.items)) row.1
        new_row =
            ap (λ (o : Option TableFile). option_map_or (λ (file : TableFile). bytes_eq (md5 (range row.0.block (bytes_in after file.number))) row.1) o true) found
            ∙ ap (λ (o : Option StartFile). bytes_eq (md5 (range row.0.block (option_map_or (λ (f : StartFile). f.bytes.items) o []))) row.1) (set_here files there.number new old here)

        pub next_ranges : (matched : Bool) → matched ≡ bytes_eq (md5 (range row.0.block new.bytes.items)) row.1
            → other_ranges table after (take (k + 1) rows) ≡ other_ranges table files (take k rows) ++ (if matched then [] else row.0 ∷ [])
        next_ranges matched same =
            ap (other_ranges table after) next_rows
            ∙ ap (map (λ (r : Row). r.0)) (filter-append (λ (r : Row). not (is_same table after r)) (take k rows) (row ∷ []))
            ∙ map-append (λ (r : Row). r.0) (filter (λ (r : Row). not (is_same table after r)) (take k rows)) (filter (λ (r : Row). not (is_same table after r)) (row ∷ []))
            ∙ ap (λ (l : List Row). map (λ (r : Row). r.0) l ++ map (λ (r : Row). r.0) (filter (λ (r : Row). not (is_same table after r)) (row ∷ [])))
            (filter_agrees (λ (r : Row). not (is_same table after r)) (λ (r : Row). not (is_same table files r)) (take k rows) same_row)
            ∙ ap (λ (b : Bool). other_ranges table files (take k rows) ++ map (λ (r : Row). r.0) (cond (not b) (row ∷ []) [])) (new_row ∙ sym same)
            ∙ by_matched matched
          where
            by_matched : (b : Bool) → other_ranges table files (take k rows) ++ map (λ (r : Row). r.0) (cond (not b) (row ∷ []) []) ≡ other_ranges table files (take k rows) ++ (if b then [] else row.0 ∷ [])
            by_matched true = refl
            by_matched false = refl

-- Files of a list before any bytes are read.
use Rattle.std.proofs.Common.{◌≡◌, ◌∙◌, ℕ, List, [], ◌∷◌, ◌++◌, length, replicate, sym, ap, subst, ⊎_elim, ◌<◌}
use Rattle.std.specs.Prelude.{Option, Some, option_map, slice_get}
use Rattle.std.specs.Option.{option_map_or}
use Rattle.std.proofs.lemmas.List.{length-replicate}
use Rattle.pass_entry.specs.declared.record.Record.{Record}
use Rattle.pass_plain.specs.declared.start.StartFile.{StartFile}
use Rattle.pass_plain.specs.WellLogged.{current_of, last_name_of, size_of}
use Rattle.pass_plain.proofs.Appends.{place_of}
use Rattle.pass_range.specs.declared.table.Table.{Table}
use Rattle.pass_range.specs.declared.table.TableFile.{TableFile}
use Rattle.pass_range.specs.Rows.{file_made, files_of, number_of}
use Rattle.pass_range.specs.Tables.{IsTableOf, file_in}
use Rattle.pass_range.specs.Lawful.{IsZero}
use Rattle.pass_range.proofs.Numbered.{position_some}
use Rattle.pass_range.proofs.Zeros.{zero_at}
use Rattle.pass_graph.specs.Logged.{name_in}
use Rattle.pass_recover.specs.Fills.{IsFilled}
use Rattle.pass_recover.proofs.Elements.{in_filter_mapped}

-- a file that the list makes has a number
pub made_number : (list : List Record) (i : ℕ) (r : Record) (p : ℕ) → slice_get list i ≡ Some r → file_made r ≡ Some p → (m : ℕ) × (number_of list p ≡ Some m)
made_number list i r p at is = let there = in_filter_mapped file_made list i r p at is in position_some (files_of list) 0 there.0 p there.1

-- a new file, into which nothing was read
pub blank_filled : (list : List Record) (table : Table) (p m : ℕ) → IsTableOf list table → number_of list p ≡ Some m
    → (file : StartFile) → file.node.pnode ≡ p → file.node.version ≡ current_of list p → file.name ≡ name_in (last_name_of list p)
    → file.size ≡ option_map_or (λ (f : TableFile). f.size) (file_in table p) 0 → file.rows.items ≡ [] → file.bytes.items ≡ replicate file.size 0 → IsFilled list [] file
blank_filled list table p m is number file pnode version name size rows bytes =
    let sized : file.size ≡ size_of list p =
    size ∙ ap (λ (o : Option TableFile). option_map_or (λ (f : TableFile). f.size) o 0)
    (is.files p ∙ ap (option_map (λ (n : ℕ). record { number = n; size = size_of list p })) number) in
    record {
      version = version ∙ ap (current_of list) (sym pnode);
      name = name ∙ ap (λ (q : ℕ). name_in (last_name_of list q)) (sym pnode);
      size = sized ∙ ap (size_of list) (sym pnode);
      rows = rows;
      sized = ap length bytes ∙ length-replicate file.size 0 ∙ sized ∙ ap (size_of list) (sym pnode);
      zero = λ block none. subst (IsZero block) (sym bytes) (λ at low high. zero_at file.size at);
    }

-- one file more
pub filled_more : (list : List Record) (files : List StartFile) (file : StartFile) → ((i : ℕ) (f : StartFile) → slice_get files i ≡ Some f → IsFilled list [] f) → IsFilled list [] file
    → (i : ℕ) (f : StartFile) → slice_get (files ++ file ∷ []) i ≡ Some f → IsFilled list [] f
filled_more list files file was one i f at = ⊎_elim
    (λ (old : (slice_get files i ≡ Some f) × (i < length files)). was i f old.0)
    (λ (new : (i ≡ length files) × (file ≡ f)). subst (IsFilled list []) new.1 one)
    (place_of files file i f at)

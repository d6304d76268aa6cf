-- What the rows of a table read back as. After `Rattle.csv.proofs.RoundTrip`, whose records end at a line feed alone.
use Rattle.std.proofs.Common.{ℕ, ◌≡◌, ◌==◌, Bool, true, false, refl, sym, ap, ◌∙◌, inl, inr, List, [], ◌∷◌, ◌++◌, append_assoc}
use Rattle.std.specs.Prelude.{⊤, ◌||◌, Some, None, map, if◌then◌else◌}
use Rattle.std.specs.List.{list_any}
use Rattle.std.proofs.lemmas.Bool.{cases_Bool}
use Rattle.csv.specs.Machine.{next_record}
use Rattle.csv.specs.Reading.{AreRecords, Reached, default_config}
use Rattle.csv.specs.Writing.{default_writer, escaped, field_text, fields_text, is_blank, needs_byte}
use Rattle.csv.specs.declared.parser.State.TheVariants as st
use Rattle.csv.proofs.RoundTrip.{field-run, record-same}
use Rattle.pass_view.specs.Csvs.{Row, edge_row, layout, node_row, row_bytes, rows_bytes, table_rows}
use Rattle.pass_view.specs.Laws.{ReadBack}
use Rattle.pass_view.specs.declared.csvs.Table.TheVariants.{Nodes, Edges}
use Rattle.pass_view.specs.declared.picture.Link.{Link}
use Rattle.pass_view.specs.declared.picture.Shown.{Shown}

-- fields are written as the default writer writes them

escaped_same : (x : List ℕ) → escaped layout x ≡ escaped default_writer x
unfolding escaped
escaped_same [] = refl
escaped_same (b ∷ rest) = λ i. if b == 34 then 34 ∷ b ∷ escaped_same rest i else b ∷ escaped_same rest i

field_same : (x : List ℕ) → field_text layout x ≡ field_text default_writer x
field_same x = λ i. if list_any (needs_byte default_writer) x then 34 ∷ (escaped_same x i ++ 34 ∷ []) else x

fields_same : (xs : List (List ℕ)) → fields_text layout xs ≡ fields_text default_writer xs
unfolding fields_text
fields_same [] = refl
fields_same (x ∷ xs) = λ i. 44 ∷ (field_same x i ++ fields_same xs i)

-- a row of two or more fields
row_is : (x y : List ℕ) (ys : List (List ℕ)) (tail : List ℕ)
    → row_bytes (x ∷ y ∷ ys) ++ tail ≡ field_text default_writer x ++ (fields_text default_writer (y ∷ ys) ++ (13 ∷ 10 ∷ tail))
unfolding row_bytes is_blank
row_is x y ys tail =
    append_assoc (field_text layout x ++ fields_text layout (y ∷ ys)) (13 ∷ 10 ∷ []) tail ∙ append_assoc (field_text layout x) (fields_text layout (y ∷ ys)) (13 ∷ 10 ∷ tail)
    ∙ (λ i. field_same x i ++ (fields_same (y ∷ ys) i ++ (13 ∷ 10 ∷ tail)))

-- behind a field stands a comma or the end of the row

abbrev head_of : List (List ℕ) → ℕ
head_of [] = 13
head_of (z ∷ zs) = 44

abbrev rest_of : List (List ℕ) → List ℕ → List ℕ
rest_of [] tail = tail
rest_of (z ∷ zs) tail = (field_text default_writer z ++ fields_text default_writer zs) ++ (13 ∷ tail)

text_head : (ys : List (List ℕ)) (tail : List ℕ) → fields_text default_writer ys ++ (13 ∷ tail) ≡ head_of ys ∷ rest_of ys tail
unfolding fields_text
text_head [] tail = refl
text_head (z ∷ zs) tail = refl

head_plain : (ys : List (List ℕ)) → (head_of ys == 34) ≡ false
head_plain [] = refl
head_plain (z ∷ zs) = refl

comma_ends : (fields : List (List ℕ)) (x u : List ℕ) → next_record default_config st.InField fields x (44 ∷ u) ≡ next_record default_config st.StartField (fields ++ (x ∷ [])) [] u
unfolding next_record
comma_ends fields x u = refl

return_ends : (fields : List (List ℕ)) (x tail : List ℕ) → next_record default_config st.InField fields x (13 ∷ tail) ≡ Some (fields ++ (x ∷ []), st.AfterCr, tail)
unfolding next_record
return_ends fields x tail = refl

-- a field and what comes behind it, up to a comma or the end of the row
field_read : (fields : List (List ℕ)) (y : List ℕ) (ys : List (List ℕ)) (tail : List ℕ)
    → next_record default_config st.StartField fields [] ((field_text default_writer y ++ fields_text default_writer ys) ++ (13 ∷ tail))
    ≡ next_record default_config st.InField fields y (fields_text default_writer ys ++ (13 ∷ tail))
field_read fields y ys tail =
    ap (next_record default_config st.StartField fields []) (append_assoc (field_text default_writer y) (fields_text default_writer ys) (13 ∷ tail)
    ∙ ap (λ (t : List ℕ). field_text default_writer y ++ t) (text_head ys tail))
    ∙ field-run fields y (head_of ys) (rest_of ys tail) (head_plain ys)
    ∙ ap (next_record default_config st.InField fields y) (sym (text_head ys tail))

-- the rest of a row, behind a field
rest_read : (fields : List (List ℕ)) (x : List ℕ) (rest : List (List ℕ)) (tail : List ℕ)
    → next_record default_config st.InField fields x (fields_text default_writer rest ++ (13 ∷ tail)) ≡ Some (fields ++ (x ∷ rest), st.AfterCr, tail)
unfolding fields_text
rest_read fields x [] tail = return_ends fields x tail
rest_read fields x (y ∷ ys) tail =
    comma_ends fields x ((field_text default_writer y ++ fields_text default_writer ys) ++ (13 ∷ tail)) ∙ field_read (fields ++ (x ∷ [])) y ys tail
    ∙ rest_read (fields ++ (x ∷ [])) y ys tail ∙ ap (λ (f : List (List ℕ)). Some (f, st.AfterCr, tail)) (append_assoc fields (x ∷ []) (y ∷ ys))

-- a row starts as a field does: with a quote, with a byte that ends no line, or with the comma behind an empty field

pub left_false : (a b : Bool) → (a || b) ≡ false → a ≡ false
left_false false b e = refl
left_false true b e = absurd (cc)

pub right_false : (a b : Bool) → (a || b) ≡ false → b ≡ false
right_false false b e = e
right_false true b e = absurd (cc)

quote_starts : (t : List ℕ) → next_record default_config st.StartRecord [] [] (34 ∷ t) ≡ next_record default_config st.StartField [] [] (34 ∷ t)
quote_starts t = record-same [] [] 34 t refl refl

comma_starts : (t : List ℕ) → next_record default_config st.StartRecord [] [] (44 ∷ t) ≡ next_record default_config st.StartField [] [] (44 ∷ t)
comma_starts t = record-same [] [] 44 t refl refl

-- a byte that needs no quotes ends no line
ends_none : (b : ℕ) → needs_byte default_writer b ≡ false → ((b == 13) ≡ false) × ((b == 10) ≡ false)
ends_none b e =
    let line : ((b == 13) || (b == 10)) ≡ false =
    right_false ((b == 44) || (b == 34)) ((b == 13) || (b == 10)) (left_false (((b == 44) || (b == 34)) || ((b == 13) || (b == 10))) false (left_false ((((b == 44) || (b == 34)) || ((b == 13) || (b == 10))) || false) false e)) in
    (left_false (b == 13) (b == 10) line, right_false (b == 13) (b == 10) line)

plain_starts : (x t : List ℕ) → list_any (needs_byte default_writer) x ≡ false → next_record default_config st.StartRecord [] [] (x ++ (44 ∷ t)) ≡ next_record default_config st.StartField [] [] (x ++ (44 ∷ t))
plain_starts [] t none = comma_starts t
plain_starts (b ∷ x) t none =
    let ends = ends_none b (left_false (needs_byte default_writer b) (list_any (needs_byte default_writer) x) none) in
    record-same [] [] b (x ++ (44 ∷ t)) ends.0 ends.1

field_starts : (x t : List ℕ)
    → next_record default_config st.StartRecord [] [] (field_text default_writer x ++ (44 ∷ t)) ≡ next_record default_config st.StartField [] [] (field_text default_writer x ++ (44 ∷ t))
field_starts x t = elim (cases_Bool (list_any (needs_byte default_writer) x)) [
  | inl needs ↦ rw needs (quote_starts ((escaped default_writer x ++ 34 ∷ []) ++ (44 ∷ t)))
  | inr none ↦ rw none (plain_starts x t none)
]

-- Rows

abbrev IsWide : Row → Type 0
IsWide [] = ⊥
IsWide (x ∷ []) = ⊥
IsWide (x ∷ y ∷ ys) = ⊤

wide_read : (x y : List ℕ) (ys : List (List ℕ)) (tail : List ℕ) → next_record default_config st.StartRecord [] [] (row_bytes (x ∷ y ∷ ys) ++ tail) ≡ Some (x ∷ y ∷ ys, st.AfterCr, 10 ∷ tail)
unfolding fields_text
wide_read x y ys tail =
    let more : List ℕ = (field_text default_writer y ++ fields_text default_writer ys) ++ (13 ∷ 10 ∷ tail) in
    ap (next_record default_config st.StartRecord [] []) (row_is x y ys tail) ∙ field_starts x more ∙ field-run [] x 44 more refl ∙ rest_read [] x (y ∷ ys) (10 ∷ tail)

row_read : (row : Row) (tail : List ℕ) → IsWide row → next_record default_config st.StartRecord [] [] (row_bytes row ++ tail) ≡ Some (row, st.AfterCr, 10 ∷ tail)
row_read [] tail wide = absurd wide
row_read (x ∷ []) tail wide = absurd wide
row_read (x ∷ y ∷ ys) tail wide = wide_read x y ys tail

feed_skipped : (xs : List ℕ) → next_record default_config st.AfterCr [] [] (10 ∷ xs) ≡ next_record default_config st.StartRecord [] [] xs
unfolding next_record
feed_skipped xs = refl

none_left : next_record default_config st.StartRecord [] [] [] ≡ None
unfolding next_record
none_left = refl

abbrev AreWide : List Row → Type 0
AreWide [] = ⊤
AreWide (row ∷ rows) = IsWide row × AreWide rows

rows_behind : (rows : List Row) → AreWide rows → AreRecords default_config st.AfterCr (10 ∷ rows_bytes rows) rows
unfolding Reached
rows_behind [] wide = (st.AfterCr, 10 ∷ [], (refl, refl), feed_skipped [] ∙ none_left)
rows_behind (row ∷ rows) wide =
    let more = rows_behind rows wide.1 in
    (more.0, more.1, ((row, st.AfterCr, 10 ∷ rows_bytes rows), feed_skipped (row_bytes row ++ rows_bytes rows) ∙ row_read row (rows_bytes rows) wide.0, refl, more.2), more.3)

rows_read : (rows : List Row) → AreWide rows → AreRecords default_config st.StartRecord (rows_bytes rows) rows
unfolding Reached
rows_read [] wide = (st.StartRecord, [], (refl, refl), none_left)
rows_read (row ∷ rows) wide =
    let more = rows_behind rows wide.1 in
    (more.0, more.1, ((row, st.AfterCr, 10 ∷ rows_bytes rows), row_read row (rows_bytes rows) wide.0, refl, more.2), more.3)

nodes_wide : (store : List ℕ) (nodes : List Shown) → AreWide (map (node_row store) nodes)
nodes_wide store [] = tt
nodes_wide store (s ∷ nodes) = (tt, nodes_wide store nodes)

edges_wide : (store : List ℕ) (edges : List Link) → AreWide (map (edge_row store) edges)
edges_wide store [] = tt
edges_wide store (e ∷ edges) = (tt, edges_wide store edges)

pub read_back : ReadBack
read_back Nodes store view = rows_read (table_rows Nodes store view) (tt, nodes_wide store view.nodes.items)
read_back Edges store view = rows_read (table_rows Edges store view) (tt, edges_wide store view.edges.items)

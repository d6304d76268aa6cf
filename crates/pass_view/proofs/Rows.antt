-- Rows of a table, written one behind the other.
use Rattle.std.proofs.Common.{ℕ, ◌≡◌, ◌≢◌, ◌≤◌, ◌<◌, ◌+◌, false, refl, sym, ap, ◌∙◌, subst, List, [], ◌∷◌, ◌++◌, length, take, get_or, append_assoc}
use Rattle.std.specs.Prelude.{Option, Some, None, map}
use Rattle.std.specs.List.{flat_map}
use Rattle.std.specs.Io.KnownBytes.{Appends, Keeps}
use Rattle.std.specs.declared.alloc.Global.{Global}
use Rattle.std.specs.declared.vec.Vec.{Vec}
use Rattle.std.proofs.lemmas.List.{append-nil, take_all, take_more}
use Rattle.std.proofs.lemmas.List.Concat.{flat_map-append}
use Rattle.csv.specs.Records as record_of
use Rattle.csv.specs.Records.{fields_of, partial_of}
use Rattle.csv.specs.Writing.{fields_written, has_written, row_text, text_written, writer_pending, writer_setup, writer_under}
use Rattle.csv.specs.declared.writer.QuoteStyle.TheVariants as style
use Rattle.csv.specs.declared.writer.Writer.{Writer}
use Rattle.csv.specs.declared.writer.WriterBuilder.{WriterBuilder}
use Rattle.pass_plain.proofs.Lists.{some_is}
use Rattle.pass_view.specs.Csvs.{HasText, Pushes, Row, Writes, layout, row_bytes}

abbrev Out : Type 0
Out = Writer (Vec ℕ Global)

abbrev so_far : Out → Option (List ℕ)
so_far out = text_written (λ (v : Vec ℕ Global). Some v.items) out

-- a writer over nothing has written nothing
pub begun : (out : Out) (under : Vec ℕ Global) → writer_setup out ≡ layout → fields_written out ≡ 0 → has_written out ≡ false → writer_under out ≡ under → writer_pending out ≡ []
    → under.items ≡ [] → HasText out []
begun out under setup fields wrote is pending none = record {
  setup = setup;
  fields = fields;
  wrote = wrote;
  text_is = (λ i. Some ((is i).items ++ pending i)) ∙ ap (λ (xs : List ℕ). Some (xs ++ [])) none;
}

-- known bytes that grow
grown : (old new : Option (List ℕ)) (text more : List ℕ) → old ≡ Some text → Appends old new more → new ≡ Some (text ++ more)
grown None new text more is adds = absurd (cc)
grown (Some xs) None text more is adds = absurd adds
grown (Some xs) (Some ys) text more is adds = ap Some (adds ∙ ap (λ zs. zs ++ more) (some_is xs text is))

kept : (known : Option (List ℕ)) (text last : List ℕ) → known ≡ Some text → Keeps known (Some last) → last ≡ text
kept None text last is keeps = absurd (cc)
kept (Some xs) text last is keeps = keeps ∙ some_is xs text is

-- what the writer underneath has at the end
pub ended : (out : Out) (last : Vec ℕ Global) → Keeps (so_far out) (Some last.items) → (text : List ℕ) → HasText out text → last.items ≡ text
ended out last keeps text at = kept (so_far out) text last.items at.text_is keeps

necessary : (setup : WriterBuilder) → setup ≡ layout → setup.style ≢ style.NonNumeric
necessary setup is numeric = let z : style.Necessary ≡ style.NonNumeric = sym (ap (λ (b : WriterBuilder). b.style) is) ∙ numeric in cc

-- one row
pub row_written : (old new : Out) (row : Row) → writer_setup new ≡ writer_setup old → fields_written new ≡ 0 → has_written new ≡ false
    → (fields_written old ≡ 0 → has_written old ≡ false → (writer_setup old).style ≢ style.NonNumeric → Appends (so_far old) (so_far new) (row_text (writer_setup old) row))
    → Writes old new (row_bytes row)
unfolding row_bytes
row_written old new row same fields wrote adds text at = record {
  setup = same ∙ at.setup;
  fields = fields;
  wrote = wrote;
  text_is = grown (so_far old) (so_far new) text (row_text layout row) at.text_is
      (subst (λ (b : WriterBuilder). Appends (so_far old) (so_far new) (row_text b row)) at.setup (adds at.fields at.wrote (necessary (writer_setup old) at.setup)));
}

-- rows that each of a list has one of
module _ {X : Type 0} (h : X → List ℕ) (xs : List X) (begun out : Out) where
  pub none_written : Writes begun begun (flat_map h (take 0 xs))
  none_written text at = subst (HasText begun) (sym (append-nil text)) at

  one_more : (x : X) (k : ℕ) → k < length xs → x ≡ get_or xs k x → flat_map h (take k xs) ++ h x ≡ flat_map h (take (k + 1) xs)
  one_more x k within at =
      ap (λ ys. flat_map h (take k xs) ++ ys) (sym (append-nil (h x))) ∙ sym (flat_map-append h (take k xs) (x ∷ []))
      ∙ ap (flat_map h) (sym (take_more xs k x within ∙ ap (λ y. take k xs ++ y ∷ []) (sym at)))

  pub next_written : (new : Out) (x : X) (k : ℕ) → k < length xs → x ≡ get_or xs k x → Writes begun out (flat_map h (take k xs)) → Writes out new (h x)
      → Writes begun new (flat_map h (take (k + 1) xs))
  next_written new x k within at before wrote text start =
      subst (HasText new) (append_assoc text (flat_map h (take k xs)) (h x) ∙ ap (λ ys. text ++ ys) (one_more x k within at))
      (wrote (text ++ flat_map h (take k xs)) (before text start))

  pub all_written : (k : ℕ) → length xs ≤ k → Writes begun out (flat_map h (take k xs)) → Writes begun out (flat_map h xs)
  all_written k over wrote text start = subst (λ ys. HasText out (text ++ flat_map h ys)) (take_all k xs over) (wrote text start)

-- the rows of a list
pub rows_of : {X : Type 0} (row : X → Row) (xs : List X) → flat_map (λ x. row_bytes (row x)) xs ≡ flat_map row_bytes (map row xs)
rows_of row [] = refl
rows_of row (x ∷ xs) = ap (λ ys. row_bytes (row x) ++ ys) (rows_of row xs)

-- fields put behind others, and then more of them
pub pushed : (old mid new : record_of.Row) (xs ys : Row) → Pushes old mid xs → Pushes mid new ys → Pushes old new (xs ++ ys)
pushed old mid new xs ys one two fresh =
    let first = one fresh in
    let second = two first.1 in
    (second.0 ∙ ap (λ zs. zs ++ ys) first.0 ∙ append_assoc (fields_of old) xs ys, second.1)

-- the fields that were put into an empty row
pub all_pushed : (old new : record_of.Row) (fields : Row) → fields_of old ≡ [] → partial_of old ≡ [] → Pushes old new fields → fields_of new ≡ fields
all_pushed old new fields none fresh pushes = (pushes fresh).0 ∙ ap (λ zs. zs ++ fields) none

-- The text of a list of nodes as JSON.
use Rattle.std.proofs.Common.{ℕ, ◌≡◌, ◌≤◌, ◌+◌, ◌/◌, ◌%◌, ◌==◌, zero, suc, Bool, true, false, refl, sym, ap, ◌∙◌, List, [], ◌∷◌, ◌++◌, cond, arith, append_assoc}
use Rattle.std.specs.Prelude.{decimal, map, codes}
use Rattle.std.specs.Fmt.{digits, digits_onto, digit_glyph}
use Rattle.std.specs.List.{flat_map}
use Rattle.std.proofs.lemmas.Bool.Decides.{nat_tests}
use Rattle.std.proofs.lemmas.List.Concat.{flat_map-append}
use Rattle.json.specs.Print.{escape_byte, escape, quoted}
use Rattle.serde_json.specs.Data.{Data, string, array}
use Rattle.serde_json.specs.View.{items_of}
use Rattle.serde_json.specs.Written.{compact_text, items_text, items_have_float}
use Rattle.pass_entry.specs.declared.objects.Node.{Node}
use Rattle.pass_query.specs.Texts.{node_text, quoted_node, json_of}

-- a digit stands for itself
plain_digit : (d : ℕ) → 48 ≤ d → d ≤ 57 → escape_byte d ≡ d ∷ []
unfolding escape_byte
plain_digit d low high = grind (arith, nat_tests)

glyph_plain : (n : ℕ) → escape_byte (digit_glyph false (n % 10)) ≡ digit_glyph false (n % 10) ∷ []
glyph_plain n = let d : digit_glyph false (n % 10) ≡ 48 + n % 10 = grind (arith, nat_tests) in
    ap escape_byte d ∙ plain_digit (48 + n % 10) (omega arith) (omega arith) ∙ ap (λ x. x ∷ []) (sym d)

plain_onto : (k n : ℕ) (acc : List ℕ) → escape acc ≡ acc → escape (digits_onto k 10 false n acc) ≡ digits_onto k 10 false n acc
plain_onto zero n acc plain = plain
plain_onto (suc k) n acc plain = at_test (n / 10 == 0) (plain_onto k (n / 10) (digit_glyph false (n % 10) ∷ acc) more)
  where
    more : escape (digit_glyph false (n % 10) ∷ acc) ≡ digit_glyph false (n % 10) ∷ acc
    more = ap (λ xs. xs ++ escape acc) (glyph_plain n) ∙ ap (λ xs. digit_glyph false (n % 10) ∷ xs) plain

    at_test : (b : Bool) → escape (digits_onto k 10 false (n / 10) (digit_glyph false (n % 10) ∷ acc)) ≡ digits_onto k 10 false (n / 10) (digit_glyph false (n % 10) ∷ acc)
        → escape (cond b (digit_glyph false (n % 10) ∷ acc) (digits_onto k 10 false (n / 10) (digit_glyph false (n % 10) ∷ acc))) ≡ cond b (digit_glyph false (n % 10) ∷ acc) (digits_onto k 10 false (n / 10) (digit_glyph false (n % 10) ∷ acc))
    at_test true later = more
    at_test false later = later

plain_decimal : (n : ℕ) → escape (decimal n) ≡ decimal n
unfolding digits
plain_decimal n = plain_onto 64 n [] refl

plain_node : (n : Node) → escape (node_text n) ≡ node_text n
unfolding escape_byte
plain_node n =
    flat_map-append escape_byte (decimal n.pnode ++ 46 ∷ []) (decimal n.version)
    ∙ ap (λ xs. xs ++ escape (decimal n.version)) (flat_map-append escape_byte (decimal n.pnode) (46 ∷ []) ∙ ap (λ xs. xs ++ 46 ∷ []) (plain_decimal n.pnode))
    ∙ ap (λ xs. (decimal n.pnode ++ 46 ∷ []) ++ xs) (plain_decimal n.version)

abbrev string_of : Node → Data
string_of n = string (node_text n)

quoted_is : (n : Node) → quoted (node_text n) ≡ quoted_node n
quoted_is n = ap (λ xs. 34 ∷ (xs ++ 34 ∷ [])) (plain_node n)

abbrev rest_of : List Node → List ℕ
rest_of nodes = flat_map (λ m. codes "," ++ quoted_node m) nodes

more_text : (nodes : List Node) → items_text true (items_of (map string_of nodes)) ≡ rest_of nodes ++ 93 ∷ []
more_text [] = refl
more_text (n ∷ nodes) =
    ap (λ xs. 44 ∷ (xs ++ items_text true (items_of (map string_of nodes)))) (quoted_is n)
    ∙ ap (λ xs. 44 ∷ (quoted_node n ++ xs)) (more_text nodes)
    ∙ sym (append_assoc (44 ∷ quoted_node n) (rest_of nodes) (93 ∷ []))

pub text_is : (nodes : List Node) → compact_text (array (items_of (map (λ n. string (node_text n)) nodes))) ++ 10 ∷ [] ≡ json_of nodes
text_is [] = refl
text_is (n ∷ nodes) =
    ap (λ xs. 91 ∷ ((xs ++ items_text true (items_of (map string_of nodes))) ++ 10 ∷ [])) (quoted_is n)
    ∙ ap (λ xs. 91 ∷ ((quoted_node n ++ xs) ++ 10 ∷ [])) (more_text nodes)
    ∙ ap (λ xs. 91 ∷ (xs ++ 10 ∷ [])) (sym (append_assoc (quoted_node n) (rest_of nodes) (93 ∷ [])))

pub no_float : (nodes : List Node) → items_have_float (items_of (map (λ n. string (node_text n)) nodes)) ≡ false
no_float [] = refl
no_float (n ∷ nodes) = no_float nodes

-- Words and numbers that are written are read again.
use Rattle.std.proofs.Common.{◌≡◌, lit<, ℕ, ◌+◌, ◌-◌, ◌*◌, ◌^◌, ◌<◌, ◌≤◌, Bool, true, false, ◌&&◌, ◌||◌, cond, eqb, leb, ltb, List, [], ◌∷◌, ◌++◌, length, get_or, fold, decimal, Ok, Err, refl, sym, ap, ◌∙◌, inl, inr, arith, rules, append-nil}
use Rattle.std.specs.List.{list_all, onto_first, join_with_byte}
use Rattle.std.proofs.lemmas.Bool.{and_parts, and_from, cases_eq, ne_eqb, le-leb, lt-ltb, leb-true, or_right, or_left, eq-eqb, not_from_false}
use Rattle.std.proofs.lemmas.List.Splits.{slice_split-cons_no, slice_split-cons_yes}
use Rattle.std.proofs.lemmas.Str.Parse.{IsNumeralModel, numerals_by_fold}
use Rattle.std.proofs.lemmas.Fmt.{digits_decimal, digits_value-decimal, length-decimal-le, decimal_digit, decimal_nonempty, first_decimal}
use Rattle.pass_entry.specs.Texts.{is_name_byte, is_line_byte}
use Rattle.pass_entry.proofs.NameTexts.{name_byte-line}
use Rattle.pass_trace.specs.declared.trace.TraceReason.TheVariants as reason
use Rattle.pass_trace.specs.Lines.{words_of}
use Rattle.pass_trace.specs.Words.{is_digit, is_number, value_of}
use Rattle.pass_trace.specs.Commands.{number_in}
use Rattle.pass_trace.specs.Texts.{spaced}

abbrev pub are_graphic : List ℕ → Bool
are_graphic bytes = list_all is_name_byte bytes

no_space : (b : ℕ) → is_name_byte b ≡ true → eqb b 32 ≡ false
no_space b h = ne_eqb b 32 (λ e. omega (arith, e, leb-true 33 b (and_parts (leb 33 b) (leb b 126) h).0))

-- a word ends at the first space
pub words_of-behind : (word text : List ℕ) → are_graphic word ≡ true → words_of (word ++ 32 ∷ text) ≡ word ∷ words_of text
words_of-behind [] text h = refl
words_of-behind (b ∷ word) text h =
    let parts = and_parts (is_name_byte b) (are_graphic word) h in
    slice_split-cons_no (λ b. eqb b 32) b (word ++ 32 ∷ text) (no_space b parts.0) ∙ ap (onto_first b) (words_of-behind word text parts.1)

pub words_of-alone : (word : List ℕ) → are_graphic word ≡ true → words_of word ≡ word ∷ []
words_of-alone [] h = refl
words_of-alone (b ∷ word) h =
    let parts = and_parts (is_name_byte b) (are_graphic word) h in
    slice_split-cons_no (λ b. eqb b 32) b word (no_space b parts.0) ∙ ap (onto_first b) (words_of-alone word parts.1)

pub words_of-spaced : (word : List ℕ) (words : List (List ℕ)) → are_graphic word ≡ true → list_all are_graphic words ≡ true → words_of (word ++ spaced words) ≡ word ∷ words
words_of-spaced word [] h hs = ap words_of (append-nil word) ∙ words_of-alone word h
words_of-spaced word (next ∷ words) h hs =
    let parts = and_parts (are_graphic next) (list_all are_graphic words) hs in
    words_of-behind word (next ++ spaced words) h ∙ ap (λ ws. word ∷ ws) (words_of-spaced next words parts.0 parts.1)

pub join_with_byte-spaced : (word : List ℕ) (words : List (List ℕ)) → join_with_byte 32 (word ∷ words) ≡ word ++ spaced words
join_with_byte-spaced word [] = sym (append-nil word)
join_with_byte-spaced word (next ∷ words) = ap (λ t. word ++ 32 ∷ t) (join_with_byte-spaced next words)

-- text between words and spaces is a line's
onto_first-graphic : (b : ℕ) (parts : List (List ℕ)) → list_all are_graphic (onto_first b parts) ≡ true → (is_name_byte b ≡ true) × (list_all are_graphic parts ≡ true)
onto_first-graphic b [] h = ((and_parts (is_name_byte b) true (and_parts (is_name_byte b && true) true h).0).0, refl)
onto_first-graphic b (part ∷ parts) h =
    let both = and_parts (is_name_byte b && are_graphic part) (list_all are_graphic parts) h in
    let front = and_parts (is_name_byte b) (are_graphic part) both.0 in
    (front.0, and_from (are_graphic part) (list_all are_graphic parts) front.1 both.1)

pub are_printable : (text : List ℕ) → list_all are_graphic (words_of text) ≡ true → list_all is_line_byte text ≡ true
are_printable [] h = refl
are_printable (b ∷ text) h =
    elim (cases_eq b 32) [
      | inl space ↦
          let split = slice_split-cons_yes (λ b. eqb b 32) b text (eq-eqb b 32 space) in
          let rest : list_all are_graphic (words_of text) ≡ true = ap (list_all are_graphic) (sym split) ∙ h in
          and_from (is_line_byte b) (list_all is_line_byte text) (ap is_line_byte space) (are_printable text rest)
      | inr other ↦
          let split = slice_split-cons_no (λ b. eqb b 32) b text (ne_eqb b 32 other) in
          let parts = onto_first-graphic b (words_of text) (ap (list_all are_graphic) (sym split) ∙ h) in
          and_from (is_line_byte b) (list_all is_line_byte text) (name_byte-line b parts.0) (are_printable text parts.1)
    ]

own : IsNumeralModel (λ ds. list_all is_digit ds ≡ true) value_of
own = numerals_by_fold _ (search rules) (λ n ds. fold (λ n b. 10 * n + (b - 48)) n ds) (search rules)

pub value_of-decimal : (n : ℕ) → n < 2 ^ 64 → value_of (decimal n) ≡ n
value_of-decimal n h = digits_value-decimal own n h

digits_graphic : (ds : List ℕ) → list_all is_digit ds ≡ true → are_graphic ds ≡ true
digits_graphic [] h = refl
digits_graphic (d ∷ ds) h =
    let parts = and_parts (is_digit d) (list_all is_digit ds) h in
    let digit = and_parts (leb 48 d) (leb d 57) parts.0 in
    and_from (is_name_byte d) (are_graphic ds) (and_from (leb 33 d) (leb d 126) (le-leb 33 d (omega (arith, leb-true 48 d digit.0))) (le-leb d 126 (omega (arith, leb-true d 57 digit.1)))) (digits_graphic ds parts.1)

pub are_graphic-decimal : (n : ℕ) → n < 2 ^ 64 → are_graphic (decimal n) ≡ true
are_graphic-decimal n h = digits_graphic (decimal n) (digits_decimal own n h)

no_leading_zero : (n : ℕ) → n < 2 ^ 64 → (eqb (length (decimal n)) 1 || ltb 48 (get_or (decimal n) 0 0)) ≡ true
no_leading_zero n h =
    elim (cases_eq n 0) [
      | inl none ↦
          let one : length (decimal n) ≡ 1 = ap (λ m. length (decimal m)) none ∙ ap length (decimal_digit 0 (lit< tt)) in
          or_left (eqb (length (decimal n)) 1) _ (eq-eqb (length (decimal n)) 1 one)
      | inr some ↦ or_right (eqb (length (decimal n)) 1) _ (lt-ltb 48 (get_or (decimal n) 0 0) (first_decimal n (omega (arith, some)) h))
    ]

pub is_number-decimal : (n : ℕ) → n < 2 ^ 48 → is_number (decimal n) ≡ true
is_number-decimal n small =
    let h : n < 2 ^ 64 = omega arith in
    let some = decimal_nonempty n h in
    let short = length-decimal-le 19 n (lit< tt) (omega arith) h in
    and_from _ _ (not_from_false (eqb (length (decimal n)) 0) (ne_eqb (length (decimal n)) 0 (λ e. omega (arith, e, some)))) (
    and_from _ _ (le-leb (length (decimal n)) 19 short) (and_from _ _ (digits_decimal own n h) (no_leading_zero n h))
    )

pub number_in-decimal : (low high n : ℕ) → n < 2 ^ 48 → low ≤ n → n ≤ high → number_in low high (decimal n) ≡ Ok n
unfolding number_in
number_in-decimal low high n small above below =
    let e = value_of-decimal n (omega arith) in
    ap (λ v. cond (leb low v && leb v high) (Ok v) (Err reason.Number)) e
    ∙ ap (λ b. cond b (Ok n) (Err reason.Number)) (and_from (leb low n) (leb n high) (le-leb low n above) (le-leb n high below))

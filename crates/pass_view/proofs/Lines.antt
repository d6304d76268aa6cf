-- The lines of a label, written byte by byte.
use Rattle.std.proofs.Common.{ℕ, ◌≡◌, ◌≤◌, ◌<◌, ◌+◌, sym, ap, ◌∙◌, List, ◌∷◌, ◌++◌, length, drop, get_or, append_assoc}
use Rattle.std.proofs.lemmas.List.{append-nil, drop_all, drop_more}
use Rattle.pass_view.specs.Dots.{line_byte, lines_from, next_left}

module _ (text whole : List ℕ) where
  -- the byte at a place of the text
  pub byte_comes : (out new : List ℕ) (left k b : ℕ) → k < length text → b ≡ get_or text k b → new ≡ out ++ line_byte left b → out ++ lines_from left (drop k text) ≡ whole
      → new ++ lines_from (next_left left b) (drop (k + 1) text) ≡ whole
  byte_comes out new left k b within at wrote come =
      let rest : List ℕ = lines_from (next_left left b) (drop (k + 1) text) in
      ap (λ xs. xs ++ rest) wrote ∙ append_assoc out (line_byte left b) rest
      ∙ ap (λ xs. out ++ lines_from left xs) (sym (drop_more text k b within ∙ ap (λ y. y ∷ drop (k + 1) text) (sym at))) ∙ come

  -- behind the last byte
  pub lines_closed : (out : List ℕ) (left k : ℕ) → length text ≤ k → out ++ lines_from left (drop k text) ≡ whole → out ≡ whole
  lines_closed out left k over come = sym (append-nil out) ∙ ap (λ xs. out ++ lines_from left xs) (sym (drop_all k text over)) ∙ come

-- Parts of a text in JSON, written one behind the other.
use Rattle.std.proofs.Common.{ℕ, ◌≡◌, ◌≤◌, ◌<◌, ◌+◌, Bool, true, false, refl, sym, ap, ◌∙◌, subst, List, [], ◌∷◌, ◌++◌, length, drop, get_or, append_assoc}
use Rattle.std.specs.Prelude.{if◌then◌else◌}
use Rattle.std.specs.List.{flat_map}
use Rattle.std.proofs.lemmas.List.{append-nil, drop_all, drop_more}
use Rattle.json.specs.Token.{Token}
use Rattle.json.specs.Written.{Written}
use Rattle.pass_view.specs.Provs.{Adds, Member, member_tokens, tokens_of}

-- tokens one behind the other
pub both : (old mid new : Written) (xs ys : List Token) → Adds old mid xs → Adds mid new ys → Adds old new (xs ++ ys)
both old mid new xs ys one two = (two.0 ∙ ap (λ ts. ts ++ ys) one.0 ∙ append_assoc old.tokens xs ys, two.1 ∙ one.1)

pub same_added : (old new : Written) (xs ys : List Token) → xs ≡ ys → Adds old new xs → Adds old new ys
same_added old new xs ys is adds = (adds.0 ∙ ap (λ ts. old.tokens ++ ts) is, adds.1)

none_added : (old : Written) → Adds old old []
none_added old = (sym (append-nil old.tokens), refl)

-- one member
pub alone : (old new : Written) (m : Member) → Adds old new (member_tokens m) → Adds old new (tokens_of (m ∷ []))
alone old new m adds = same_added old new (member_tokens m) (tokens_of (m ∷ [])) (sym (append-nil (member_tokens m))) adds

-- one member where a test holds, and else none
pub added_if : (old new : Written) (b : Bool) (m : Member) → b ≡ true → Adds old new (member_tokens m) → Adds old new (tokens_of (if b then m ∷ [] else []))
added_if old new b m is adds = subst (λ (t : Bool). Adds old new (tokens_of (if t then m ∷ [] else []))) (sym is) (alone old new m adds)

pub none_unless : (old : Written) (b : Bool) (m : Member) → b ≡ false → Adds old old (tokens_of (if b then m ∷ [] else []))
none_unless old b m is = subst (λ (t : Bool). Adds old old (tokens_of (if t then m ∷ [] else []))) (sym is) (none_added old)

module _ {X : Type 0} (g : X → List Token) (begun : Written) (all : List X) where
  -- the tokens of all, of which those of the ones that are left are still to come
  abbrev pub Comes : Written → List X → Type 0
  Comes now left = (now.tokens ++ flat_map g left ≡ begun.tokens ++ flat_map g all) × (now.before ≡ begun.before)

  pub next_comes : (mid new : Written) (x : X) (left rest : List X) → left ≡ x ∷ rest → Adds mid new (g x) → Comes mid left → Comes new rest
  next_comes mid new x left rest is adds come = (
    ap (λ ts. ts ++ flat_map g rest) adds.0 ∙ append_assoc mid.tokens (g x) (flat_map g rest) ∙ ap (λ xs. mid.tokens ++ flat_map g xs) (sym is) ∙ come.0,
    adds.1 ∙ come.1,
  )

  -- all of them, between a head and a last token
  pub closed : (old mid new : Written) (head : List Token) (last : Token) (left : List X) → left ≡ [] → Adds old begun head → Comes mid left → Adds mid new (last ∷ []) → Adds old new (head ++ (flat_map g all ++ last ∷ []))
  closed old mid new head last left is first come wrote =
      let inner : Adds begun mid (flat_map g all) = (sym (append-nil mid.tokens) ∙ ap (λ xs. mid.tokens ++ flat_map g xs) (sym is) ∙ come.0, come.1) in
      both old begun new head (flat_map g all ++ last ∷ []) first (both begun mid new (flat_map g all) (last ∷ []) inner wrote)

  -- the item at a place of a slice
  pub item_comes : (mid new : Written) (k : ℕ) (x : X) → k < length all → x ≡ get_or all k x → Adds mid new (g x) → Comes mid (drop k all) → Comes new (drop (k + 1) all)
  item_comes mid new k x within at adds come =
      next_comes mid new x (drop k all) (drop (k + 1) all) (drop_more all k x within ∙ ap (λ y. y ∷ drop (k + 1) all) (sym at)) adds come

  pub items_closed : (old mid new : Written) (head : List Token) (last : Token) (k : ℕ) → length all ≤ k → Adds old begun head → Comes mid (drop k all) → Adds mid new (last ∷ []) → Adds old new (head ++ (flat_map g all ++ last ∷ []))
  items_closed old mid new head last k over first come wrote = closed old mid new head last (drop k all) (drop_all k all over) first come wrote

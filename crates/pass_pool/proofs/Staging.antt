-- What a cache keeps and hands out, in the words of a pool.
use Rattle.std.proofs.Common.{◌≡◌, ℕ, ◌-◌, ◌==◌, ◌&&◌, Bool, cond, true, false, List, [], ◌∷◌, take, Option, Some, None, is_some, refl, sym, ap, ◌∙◌}
use Rattle.std.proofs.lemmas.Bool.{eqb-true}
use Rattle.std.specs.Option.{option_map_or}
use Rattle.std.specs.Map.{lookup, lookup_entry, remove_entry}
use Rattle.lru.specs.LruCache.{LruCache, put_entries}
use Rattle.lru.proofs.CallerLemmas.{Contains-lookup_entry}
use Rattle.pass_pool.specs.declared.pool.FileBlock.{FileBlock}
use Rattle.pass_pool.specs.Pools.{is_block, is_there, staged}

-- what is found is looked up
looked : {K V : Type 0} (test : K → Bool) (es : List (K × V)) (o : Option (K × V)) → lookup_entry test es ≡ o → lookup test es ≡ option_map_or (λ e. Some e.1) o None
looked test [] o is = ap (λ o. option_map_or (λ e. Some e.1) o None) is
looked test (e ∷ es) o is = (elim (test e.0) as (λ y. test e.0 ≡ y → lookup test (e ∷ es) ≡ option_map_or (λ e. Some e.1) o None) [
  | true ↦ λ t. let here : Some e ≡ o = rw t at is in rw t (ap (λ o. option_map_or (λ e. Some e.1) o None) here)
  | false ↦ λ t. rw t (looked test es o (rw t at is))
]) refl

same_key : (key at : FileBlock) → is_block key.number key.block at ≡ true → at ≡ key
same_key key at same = by_number (key.number == at.number) refl same
  where
    by_block : key.number ≡ at.number → key.block ≡ at.block → at ≡ key
    by_block number block = ap (λ (n : ℕ). record { number = n; block = at.block }) (sym number) ∙ ap (λ (b : ℕ). record { number = key.number; block = b }) (sym block)

    by_number : (b : Bool) → (key.number == at.number) ≡ b → b && (key.block == at.block) ≡ true → at ≡ key
    by_number true is both = by_block (eqb-true key.number at.number is) (eqb-true key.block at.block both)
    by_number false is both = absurd (cc)

module _ {K V : Type 0} (f g : K → Bool) (same : (k : K) → f k ≡ g k) where
  same_entry : (es : List (K × V)) → lookup_entry f es ≡ lookup_entry g es
  same_entry [] = refl
  same_entry (e ∷ es) = rw (same e.0) (ap (cond (g e.0) (Some e)) (same_entry es))

  same_rest : (es : List (K × V)) → remove_entry f es ≡ remove_entry g es
  same_rest [] = refl
  same_rest (e ∷ es) = rw (same e.0) (ap (λ rest. cond (g e.0) es (e ∷ rest)) (same_rest es))

module _ (pool : LruCache FileBlock (List ℕ)) (key : FileBlock) (bytes : List ℕ) where
  abbrev is_key : FileBlock → Bool
  is_key = is_block key.number key.block

  abbrev behind : Option (FileBlock × List ℕ) → List (FileBlock × List ℕ) → List (FileBlock × List ℕ)
  behind o rest = option_map_or (λ e. (e.0, bytes) ∷ rest) o ((key, bytes) ∷ take (pool.cap - 1) pool.entries)

  after : (o : Option (FileBlock × List ℕ)) → lookup_entry is_key pool.entries ≡ o → behind o (remove_entry is_key pool.entries) ≡ staged pool key bytes
  after None is = let new : is_there pool key ≡ false = ap is_some (looked is_key pool.entries None is) in rw new refl
  after (Some e) is = let known : is_there pool key ≡ true = ap is_some (looked is_key pool.entries (Some e) is) in
      rw known (ap (λ k. (k, bytes) ∷ remove_entry is_key pool.entries) (same_key key e.0 (Contains-lookup_entry is_key pool.entries e is).1))

  -- what is put, by any test of keys that is that one
  pub staged_is : (eq : FileBlock → FileBlock → Bool) → ((k : FileBlock) → eq key k ≡ is_key k) → put_entries eq pool key bytes ≡ staged pool key bytes
  staged_is eq same = ap (λ o. behind o (remove_entry (eq key) pool.entries)) (same_entry (eq key) is_key same pool.entries)
      ∙ ap (behind (lookup_entry is_key pool.entries)) (same_rest (eq key) is_key same pool.entries) ∙ after (lookup_entry is_key pool.entries) refl

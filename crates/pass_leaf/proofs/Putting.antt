-- How blocks are put over a content, and leaves one behind the other.
use Rattle.std.proofs.Common.{◌≡◌, ℕ, ◌+◌, ◌*◌, ◌<◌, ◌≤◌, ◌==◌, List, [], ◌∷◌, ◌++◌, length, get_or, take, drop, refl, sym, ◌∙◌, ap, subst, arith}
use Rattle.std.specs.Prelude.{fold, if◌then◌else◌, Some, None, true, false, Bool}
use Rattle.std.proofs.lemmas.List.{drop_more, take_more, drop_all}
use Rattle.pass_entry.specs.Limits.{block_size}
use Rattle.pass_entry.specs.declared.objects.Node.{Node}
use Rattle.pass_leaf.specs.declared.leaf.LeafBlock.{LeafBlock}
use Rattle.pass_leaf.specs.Leaves.{Leaf, IsFormed, AreBlocks}
use Rattle.pass_leaf.specs.Contents.{with_block, laid, last_content, is_of, content_after, content_of}
use Rattle.pass_leaf.proofs.Lists.{last_content-push}
use Rattle.pass_leaf.proofs.Laying.{length-with_block}

pub next_item : {X : Type 0} (xs : List X) (i : ℕ) (x : X) → i < length xs → x ≡ get_or xs i x → drop i xs ≡ x ∷ drop (i + 1) xs
next_item xs i x lt is = drop_more xs i x lt ∙ ap (λ y. y ∷ drop (i + 1) xs) (sym is)

-- blocks that are left to be put
pub record IsPutting (size : ℕ) (old now : List ℕ) (blocks : List LeafBlock) (i : ℕ) : Type 0 where
  pub long : length now ≡ size
  pub from : ℕ
  pub fit : AreBlocks size from (drop i blocks)
  pub same : fold with_block now (drop i blocks) ≡ fold with_block old blocks

pub putting_none : (leaf : Leaf) (old : List ℕ) → IsFormed leaf → length old ≡ leaf.size → IsPutting leaf.size old old leaf.blocks 0
putting_none leaf old formed long = record { long = long; from = 0; fit = formed.blocks; same = refl }

module _ (size : ℕ) (old now : List ℕ) (blocks : List LeafBlock) (i : ℕ) (b : LeafBlock) (p : IsPutting size old now blocks i) (lt : i < length blocks) (is : b ≡ get_or blocks i b) where
  next : drop i blocks ≡ b ∷ drop (i + 1) blocks
  next = next_item blocks i b lt is

  fits : AreBlocks size p.from (b ∷ drop (i + 1) blocks)
  fits = subst (AreBlocks size p.from) next p.fit

  pub put_within : b.number * block_size + length b.bytes ≤ length now
  put_within = omega (arith, fits.0.long, fits.0.within, p.long)

  pub putting_more : (new : List ℕ) → new ≡ with_block now b → IsPutting size old new blocks (i + 1)
  putting_more new put = record {
    long = ap length put ∙ length-with_block now b put_within ∙ p.long;
    from = b.number + 1;
    fit = fits.1;
    same = ap (λ (l : List ℕ). fold with_block l (drop (i + 1) blocks)) put ∙ sym (ap (fold with_block now) next) ∙ p.same;
  }

-- a content behind one leaf more, which may be another file's
abbrev pub followed : ℕ → List ℕ → Leaf → List ℕ
followed pnode content leaf = if leaf.node.pnode == pnode then laid content leaf else content

-- a node's content is sought
pub record IsSeeking (leaves : List Leaf) (node : Node) (content : List ℕ) (i : ℕ) : Type 0 where
  pub content_is : content ≡ last_content (take i leaves) node.pnode
  pub rest : content_after (take i leaves) (drop i leaves) node ≡ content_of leaves node

pub seeking_none : (leaves : List Leaf) (node : Node) → IsSeeking leaves node [] 0
seeking_none leaves node = record { content_is = refl; rest = refl }

module _ (leaves : List Leaf) (node : Node) (content : List ℕ) (i : ℕ) (leaf : Leaf) (new : List ℕ) (s : IsSeeking leaves node content i) (lt : i < length leaves) (is : leaf ≡ get_or leaves i leaf) (put : new ≡ followed node.pnode content leaf) where
  here : (if is_of node leaf then Some (laid (last_content (take i leaves) node.pnode) leaf) else content_after (take i leaves ++ leaf ∷ []) (drop (i + 1) leaves) node) ≡ content_of leaves node
  here = sym (ap (λ (l : List Leaf). content_after (take i leaves) l node) (next_item leaves i leaf lt is)) ∙ s.rest

  front : take (i + 1) leaves ≡ take i leaves ++ leaf ∷ []
  front = take_more leaves i leaf lt ∙ ap (λ (x : Leaf). take i leaves ++ x ∷ []) (sym is)

  pub seeking_more : is_of node leaf ≡ false → IsSeeking leaves node new (i + 1)
  seeking_more other = record {
    content_is = put ∙ ap (λ (l : List ℕ). followed node.pnode l leaf) s.content_is ∙ sym (last_content-push (take i leaves) leaf node.pnode) ∙ ap (λ (l : List Leaf). last_content l node.pnode) (sym front);
    rest = ap (λ (l : List Leaf). content_after l (drop (i + 1) leaves) node) front ∙ sym (ap (λ (b : Bool). if b then Some (laid (last_content (take i leaves) node.pnode) leaf) else content_after (take i leaves ++ leaf ∷ []) (drop (i + 1) leaves) node) other) ∙ here;
  }

  pub seeking_found : is_of node leaf ≡ true → (leaf.node.pnode == node.pnode) ≡ true → content_of leaves node ≡ Some new
  seeking_found found same =
      sym here ∙ ap (λ (b : Bool). if b then Some (laid (last_content (take i leaves) node.pnode) leaf) else content_after (take i leaves ++ leaf ∷ []) (drop (i + 1) leaves) node) found
      ∙ ap (λ (l : List ℕ). Some (laid l leaf)) (sym s.content_is)
      ∙ sym (ap (λ (l : List ℕ). Some l) (put ∙ ap (λ (b : Bool). if b then laid content leaf else content) same))

pub seeking_ends : (leaves : List Leaf) (node : Node) (content : List ℕ) (i : ℕ) → IsSeeking leaves node content i → length leaves ≤ i → content_of leaves node ≡ None
seeking_ends leaves node content i s past = sym s.rest ∙ ap (λ (l : List Leaf). content_after (take i leaves) l node) (drop_all i leaves past)

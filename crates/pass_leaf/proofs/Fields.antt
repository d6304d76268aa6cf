-- The fields of leaves, told apart by the bytes in front.
use Rattle.std.proofs.Common.{◌≡◌, ℕ, ◌+◌, ◌<◌, ◌^◌, List, ◌++◌, length, take, drop, refl, sym, ◌∙◌, ap, arith, append_assoc, length-append}
use Rattle.std.specs.Int.{Width, w16, w32, w64, to_be_bytes, from_be_bytes}
use Rattle.std.proofs.lemmas.List.{take_at, drop_at}
use Rattle.pass_record.proofs.Parts.{IsWide, wide16, wide32, wide64}
use Rattle.pass_entry.specs.declared.objects.Node.{Node}
use Rattle.pass_leaf.specs.Leaves.{Leaf, IsFormed, head_bytes, blocks_bytes, IsNoLeaf}
use Rattle.pass_leaf.specs.Reads.{raw_bytes}

-- lists of one length in front of others
pub same_front : (a b x y : List ℕ) → length a ≡ length b → a ++ x ≡ b ++ y → (a ≡ b) × (x ≡ y)
same_front a b x y long is = (
  sym (take_at a x (length a) refl) ∙ ap (take (length a)) is ∙ take_at b y (length a) (sym long),
  sym (drop_at a x (length a) refl) ∙ ap (drop (length a)) is ∙ drop_at b y (length a) (sym long),
)

pub same_number : (w : Width) (limit : ℕ) → IsWide w limit → (a b : ℕ) (x y : List ℕ) → a < limit → b < limit → to_be_bytes w a ++ x ≡ to_be_bytes w b ++ y → (a ≡ b) × (x ≡ y)
same_number w limit wide a b x y fits other is =
    let s = same_front (to_be_bytes w a) (to_be_bytes w b) x y (wide.len a ∙ sym (wide.len b)) is in
    (sym (wide.again a fits) ∙ ap (from_be_bytes w) s.0 ∙ wide.again b other, s.1)

-- the parts of a block that stands in front
pub raw_parts : (n : ℕ) (bytes rest : List ℕ) → raw_bytes n bytes ++ rest ≡ to_be_bytes w32 n ++ (to_be_bytes w16 (length bytes) ++ (bytes ++ rest))
raw_parts n bytes rest =
    append_assoc (to_be_bytes w32 n) (to_be_bytes w16 (length bytes) ++ bytes) rest
    ∙ ap (λ (l : List ℕ). to_be_bytes w32 n ++ l) (append_assoc (to_be_bytes w16 (length bytes)) bytes rest)

pub raw_length : (n : ℕ) (bytes : List ℕ) → length (raw_bytes n bytes) ≡ 6 + length bytes
raw_length n bytes =
    let four : length (to_be_bytes w32 n) ≡ 4 = refl in
    let two : length (to_be_bytes w16 (length bytes)) ≡ 2 = refl in
    omega (arith, four, two, length-append (to_be_bytes w32 n) (to_be_bytes w16 (length bytes) ++ bytes), length-append (to_be_bytes w16 (length bytes)) bytes)

-- no block stands in front of these bytes
abbrev pub HasNoBlock : List ℕ → Type 0
HasNoBlock old = (number : ℕ) (bytes rest : List ℕ) → number < 2 ^ 32 → length bytes < 2 ^ 16 → old ≡ raw_bytes number bytes ++ rest → ⊥

pub too_short : (old : List ℕ) → length old < 6 → HasNoBlock old
too_short old few number bytes rest fits long is = omega (arith, few, ap length is, length-append (raw_bytes number bytes) rest, raw_length number bytes)

pub short_number : (old : List ℕ) → length old < 4 → HasNoBlock old
short_number old few = too_short old (omega (arith, few))

pub short_length : (old : List ℕ) (n : ℕ) (left : List ℕ) → old ≡ to_be_bytes w32 n ++ left → length left < 2 → HasNoBlock old
short_length old n left is few =
    let four : length (to_be_bytes w32 n) ≡ 4 = refl in
    too_short old (omega (arith, few, four, ap length is, length-append (to_be_bytes w32 n) left))

pub short_bytes : (old : List ℕ) (n len : ℕ) (left : List ℕ) → n < 2 ^ 32 → len < 2 ^ 16 → old ≡ to_be_bytes w32 n ++ (to_be_bytes w16 len ++ left) → length left < len → HasNoBlock old
short_bytes old n len left small fits is few number bytes rest number_fits bytes_fit other =
    let first = same_number w32 (2 ^ 32) wide32 n number (to_be_bytes w16 len ++ left) (to_be_bytes w16 (length bytes) ++ (bytes ++ rest)) small number_fits (sym is ∙ other ∙ raw_parts number bytes rest) in
    let next = same_number w16 (2 ^ 16) wide16 len (length bytes) left (bytes ++ rest) fits bytes_fit first.1 in
    omega (arith, few, next.0, ap length next.1, length-append bytes rest)

-- the block that stands in front is the only one
pub record SameRaw (n m : ℕ) (bs cs x y : List ℕ) : Type 0 where
  pub number : n ≡ m
  pub bytes : bs ≡ cs
  pub rest : x ≡ y

pub same_raw : (n m : ℕ) (bs cs x y : List ℕ) → n < 2 ^ 32 → m < 2 ^ 32 → length bs < 2 ^ 16 → length cs < 2 ^ 16 → raw_bytes n bs ++ x ≡ raw_bytes m cs ++ y → SameRaw n m bs cs x y
same_raw n m bs cs x y small other_small fits other_fits is =
    let first = same_number w32 (2 ^ 32) wide32 n m (to_be_bytes w16 (length bs) ++ (bs ++ x)) (to_be_bytes w16 (length cs) ++ (cs ++ y)) small other_small (sym (raw_parts n bs x) ∙ is ∙ raw_parts m cs y) in
    let next = same_number w16 (2 ^ 16) wide16 (length bs) (length cs) (bs ++ x) (cs ++ y) fits other_fits first.1 in
    let last = same_front bs cs x y next.0 next.1 in
    record { number = first.0; bytes = last.0; rest = last.1 }

-- the fields in front of a leaf's blocks
pub head_parts : (node : Node) (size count : ℕ) (rest : List ℕ) → head_bytes node size count ++ rest ≡ to_be_bytes w64 node.pnode ++ (to_be_bytes w64 node.version ++ (to_be_bytes w64 size ++ (to_be_bytes w32 count ++ rest)))
head_parts node size count rest =
    let p = to_be_bytes w64 node.pnode in
    let v = to_be_bytes w64 node.version in
    let s = to_be_bytes w64 size in
    let c = to_be_bytes w32 count in
    append_assoc p (v ++ (s ++ c)) rest
    ∙ ap (λ (l : List ℕ). p ++ l) (append_assoc v (s ++ c) rest)
    ∙ ap (λ (l : List ℕ). p ++ (v ++ l)) (append_assoc s c rest)

pub head_length : (node : Node) (size count : ℕ) → length (head_bytes node size count) ≡ 28
head_length node size count =
    let p = to_be_bytes w64 node.pnode in
    let v = to_be_bytes w64 node.version in
    let s = to_be_bytes w64 size in
    let c = to_be_bytes w32 count in
    let pl : length p ≡ 8 = refl in
    let vl : length v ≡ 8 = refl in
    let sl : length s ≡ 8 = refl in
    let cl : length c ≡ 4 = refl in
    omega (arith, pl, vl, sl, cl, length-append p (v ++ (s ++ c)), length-append v (s ++ c), length-append s c)

pub record SameHead (n m : Node) (s t c d : ℕ) (x y : List ℕ) : Type 0 where
  pub pnode : n.pnode ≡ m.pnode
  pub version : n.version ≡ m.version
  pub size : s ≡ t
  pub count : c ≡ d
  pub rest : x ≡ y

-- these numbers are within their fields
pub record AreFields (n : Node) (s c : ℕ) : Type 0 where
  pub pnode : n.pnode < 2 ^ 64
  pub version : n.version < 2 ^ 64
  pub size : s < 2 ^ 64
  pub count : c < 2 ^ 32

pub same_head : (n m : Node) (s t c d : ℕ) (x y : List ℕ) → AreFields n s c → AreFields m t d → head_bytes n s c ++ x ≡ head_bytes m t d ++ y → SameHead n m s t c d x y
same_head n m s t c d x y f g is =
    let one = same_number w64 (2 ^ 64) wide64 n.pnode m.pnode (to_be_bytes w64 n.version ++ (to_be_bytes w64 s ++ (to_be_bytes w32 c ++ x))) (to_be_bytes w64 m.version ++ (to_be_bytes w64 t ++ (to_be_bytes w32 d ++ y)))
    f.pnode g.pnode (sym (head_parts n s c x) ∙ is ∙ head_parts m t d y) in
    let two = same_number w64 (2 ^ 64) wide64 n.version m.version (to_be_bytes w64 s ++ (to_be_bytes w32 c ++ x)) (to_be_bytes w64 t ++ (to_be_bytes w32 d ++ y)) f.version g.version one.1 in
    let three = same_number w64 (2 ^ 64) wide64 s t (to_be_bytes w32 c ++ x) (to_be_bytes w32 d ++ y) f.size g.size two.1 in
    let four = same_number w32 (2 ^ 32) wide32 c d x y f.count g.count three.1 in
    record { pnode = one.0; version = two.0; size = three.0; count = four.0; rest = four.1 }

pub formed_fields : (leaf : Leaf) → IsFormed leaf → AreFields leaf.node leaf.size (length leaf.blocks)
formed_fields leaf f = record { pnode = f.pnode.1; version = f.version; size = f.size; count = f.count }

-- bytes that are too few for the fields
pub few_bytes : (old : List ℕ) → length old < 28 → IsNoLeaf old
few_bytes old few leaf formed is = omega (arith, few, ap length is, head_length leaf.node leaf.size (length leaf.blocks), length-append (head_bytes leaf.node leaf.size (length leaf.blocks)) (blocks_bytes leaf.blocks))

pub few_one : (old : List ℕ) → length old < 8 → IsNoLeaf old
few_one old few = few_bytes old (omega (arith, few))

pub few_two : (old : List ℕ) (p : ℕ) (left : List ℕ) → old ≡ to_be_bytes w64 p ++ left → length left < 8 → IsNoLeaf old
few_two old p left is few =
    let long : length (to_be_bytes w64 p) ≡ 8 = refl in
    few_bytes old (omega (arith, few, long, ap length is, length-append (to_be_bytes w64 p) left))

pub few_three : (old : List ℕ) (p v : ℕ) (mid left : List ℕ) → old ≡ to_be_bytes w64 p ++ mid → mid ≡ to_be_bytes w64 v ++ left → length left < 8 → IsNoLeaf old
few_three old p v mid left is next few =
    let long : length (to_be_bytes w64 p) ≡ 8 = refl in
    let also : length (to_be_bytes w64 v) ≡ 8 = refl in
    few_bytes old (omega (arith, few, long, also, ap length is, ap length next, length-append (to_be_bytes w64 p) mid, length-append (to_be_bytes w64 v) left))

pub few_four : (old : List ℕ) (p v s : ℕ) (mid next left : List ℕ) → old ≡ to_be_bytes w64 p ++ mid → mid ≡ to_be_bytes w64 v ++ next → next ≡ to_be_bytes w64 s ++ left → length left < 4 → IsNoLeaf old
few_four old p v s mid next left is second third few =
    let long : length (to_be_bytes w64 p) ≡ 8 = refl in
    let also : length (to_be_bytes w64 v) ≡ 8 = refl in
    let third_long : length (to_be_bytes w64 s) ≡ 8 = refl in
    few_bytes old (omega (arith, few, long, also, third_long, ap length is, ap length second, ap length third, length-append (to_be_bytes w64 p) mid, length-append (to_be_bytes w64 v) next, length-append (to_be_bytes w64 s) left))

-- a pnode of 0
pub no_pnode : (old : List ℕ) (p : ℕ) (left : List ℕ) → p ≡ 0 → old ≡ to_be_bytes w64 p ++ left → IsNoLeaf old
no_pnode old p left none is leaf formed other =
    let same = same_number w64 (2 ^ 64) wide64 p leaf.node.pnode left _ (omega (arith, none)) formed.pnode.1 (sym is ∙ sym other ∙ head_parts leaf.node leaf.size (length leaf.blocks) (blocks_bytes leaf.blocks)) in
    omega (arith, none, same.0, formed.pnode.0)

-- the fields one behind the other
pub head_taken : (old : List ℕ) (node : Node) (size count : ℕ) (one two three left : List ℕ) → old ≡ to_be_bytes w64 node.pnode ++ one → one ≡ to_be_bytes w64 node.version ++ two → two ≡ to_be_bytes w64 size ++ three
    → three ≡ to_be_bytes w32 count ++ left → old ≡ head_bytes node size count ++ left
head_taken old node size count one two three left is second third fourth =
    is ∙ ap (λ (l : List ℕ). to_be_bytes w64 node.pnode ++ l) (second ∙ ap (λ (l : List ℕ). to_be_bytes w64 node.version ++ l) (third ∙ ap (λ (l : List ℕ). to_be_bytes w64 size ++ l) fourth))
    ∙ sym (head_parts node size count left)

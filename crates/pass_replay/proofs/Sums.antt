-- Sums over the lines of a trace.
use Rattle.std.proofs.Common.{◌≡◌, ◌≤◌, ◌+◌, ℕ, List, [], ◌∷◌, ◌++◌, length, ap, sym, ◌∙◌, subst, arith, append_assoc}
use Rattle.std.specs.Prelude.{Some, slice_get}
use Rattle.std.proofs.lemmas.List.{append-nil}
use Rattle.pass_plain.specs.Traces.{Line, LineCall, lines_of}
use Rattle.pass_replay.specs.Making.{sum_lines}
use Rattle.pass_replay.proofs.Positions.{stands_at}

abbrev pub Counts : Type 0
Counts = ℕ → ℕ → LineCall → ℕ

-- no line counts more
abbrev pub NoneMore : Counts → Counts → Type 0
NoneMore less more = (process number : ℕ) (call : LineCall) → less process number call ≤ more process number call

pub sum-le : (less more : Counts) (before lines : List Line) → NoneMore less more → sum_lines less before lines ≤ sum_lines more before lines
sum-le less more before [] none = omega arith
sum-le less more before (l ∷ ls) none =
    let here = none l.process (length (lines_of before l.process) + 1) l.call in
    let later = sum-le less more (before ++ l ∷ []) ls none in
    omega (arith, here, later)

sum-append : (counts : Counts) (before xs ys : List Line) → sum_lines counts before (xs ++ ys) ≡ sum_lines counts before xs + sum_lines counts (before ++ xs) ys
sum-append counts before [] ys = ap (λ b. sum_lines counts b ys) (sym (append-nil before)) ∙ (let z : sum_lines counts (before ++ []) ys ≡ 0 + sum_lines counts (before ++ []) ys = omega arith in z)
sum-append counts before (x ∷ xs) ys =
    let here : ℕ = counts x.process (length (lines_of before x.process) + 1) x.call in
    ap (λ n. here + n) (sum-append counts (before ++ x ∷ []) xs ys)
    ∙ ap (λ b. here + (sum_lines counts (before ++ x ∷ []) xs + sum_lines counts b ys)) (append_assoc before (x ∷ []) xs)
    ∙ (let z : here + (sum_lines counts (before ++ x ∷ []) xs + sum_lines counts (before ++ x ∷ xs) ys) ≡ here + sum_lines counts (before ++ x ∷ []) xs + sum_lines counts (before ++ x ∷ xs) ys = omega arith in z)

-- the sum at the line that stands there
sum-parts : (counts : Counts) (xs ys : List Line) (l : Line)
    → sum_lines counts [] (xs ++ l ∷ ys) ≡ sum_lines counts [] xs + (counts l.process (length (lines_of xs l.process) + 1) l.call + sum_lines counts (xs ++ l ∷ []) ys)
sum-parts counts xs ys l = sum-append counts [] xs (l ∷ ys)

sum-less_parts : (less more : Counts) (d : ℕ) (xs ys : List Line) (l : Line) → NoneMore less more
    → less l.process (length (lines_of xs l.process) + 1) l.call + d ≤ more l.process (length (lines_of xs l.process) + 1) l.call
    → sum_lines less [] (xs ++ l ∷ ys) + d ≤ sum_lines more [] (xs ++ l ∷ ys)
sum-less_parts less more d xs ys l none here =
    let a = sum-parts less xs ys l in
    let b = sum-parts more xs ys l in
    let front = sum-le less more [] xs none in
    let back = sum-le less more (xs ++ l ∷ []) ys none in
    omega (arith, a, b, front, back, here)

-- where no line counts more, and one of them less by d, the sum is less by d
pub sum-less : (less more : Counts) (d : ℕ) (trace : List Line) (process k : ℕ) (l : Line) → slice_get (lines_of trace process) k ≡ Some l → NoneMore less more
    → less process (k + 1) l.call + d ≤ more process (k + 1) l.call → sum_lines less [] trace + d ≤ sum_lines more [] trace
sum-less less more d trace process k l at none here =
    let s = stands_at trace process k l at in
    subst (λ (t : List Line). sum_lines less [] t + d ≤ sum_lines more [] t) (sym s.parts)
    (sum-less_parts less more d s.before s.after l none
    (subst (λ n. less l.process (n + 1) l.call + d ≤ more l.process (n + 1) l.call) (sym (ap (λ p. length (lines_of s.before p)) s.own ∙ s.count))
    (subst (λ p. less p (k + 1) l.call + d ≤ more p (k + 1) l.call) (sym s.own) here)))

-- a line that counts is at most the whole
pub count-le_sum : (counts : Counts) (trace : List Line) (process k : ℕ) (l : Line) → slice_get (lines_of trace process) k ≡ Some l
    → counts process (k + 1) l.call ≤ sum_lines counts [] trace
count-le_sum counts trace process k l at =
    let s = stands_at trace process k l at in
    let parts = ap (λ (t : List Line). sum_lines counts [] t) s.parts ∙ sum-parts counts s.before s.after l in
    let own = ap (λ p. counts p (length (lines_of s.before p) + 1) l.call) s.own ∙ ap (λ n. counts process (n + 1) l.call) s.count in
    omega (arith, parts, own)

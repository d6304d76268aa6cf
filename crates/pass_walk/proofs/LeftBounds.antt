-- At most two turns for each line are left to a process, and its exit: no two of its lines, or of those that it will bear, fork the same child.
use Rattle.std.proofs.Common.{◌≡◌, ◌≢◌, ◌≤◌, ◌+◌, ℕ, suc, List, [], ◌∷◌, ◌++◌, length, take, drop, refl, ap, sym, ◌∙◌, subst, arith, Bool, true, false, ◌==◌, cond, append_assoc, length-append}
use Rattle.std.specs.Prelude.{Some, slice_get}
use Rattle.std.proofs.lemmas.List.{append-nil}
use Rattle.pass_plain.specs.Traces.{Line, LineCall, given, write_last, fork_as, wait_for, await_for}
use Rattle.pass_plain.proofs.Lists.{same_numbers, different}
use Rattle.pass_replay.specs.Lines.{AreLinesBehind, is_there}
use Rattle.pass_replay.proofs.Begun.{there_now, there_stays}
use Rattle.pass_walk.specs.Lefts.{of_child, left_in}
use Rattle.pass_walk.proofs.LeftLemmas.{drop_at}
use Rattle.pass_entry.proofs.Places.{parted}

-- what is left to some processes together
abbrev total : List Line → List ℕ → ℕ
total ls [] = 0
total ls (p ∷ ps) = left_in ls p + total ls ps

abbrev NotIn : ℕ → List ℕ → Type 0
NotIn q [] = Unit {0}
NotIn q (p ∷ ps) = (p ≢ q) × NotIn q ps

abbrev Unique : List ℕ → Type 0
Unique [] = Unit {0}
Unique (p ∷ ps) = NotIn p ps × Unique ps

abbrev AllThere : List Line → List ℕ → Type 0
AllThere before [] = Unit {0}
AllThere before (p ∷ ps) = (is_there before p ≡ true) × AllThere before ps

all_stay : (before : List Line) (l : Line) (ps : List ℕ) → AllThere before ps → AllThere (before ++ l ∷ []) ps
all_stay before l [] all = tt
all_stay before l (p ∷ ps) (there, all) = (there_stays before (l ∷ []) p there, all_stay before l ps all)

new_to_all : (before : List Line) (q : ℕ) (ps : List ℕ) → is_there before q ≡ false → AllThere before ps → NotIn q ps
new_to_all before q [] none all = tt
new_to_all before q (p ∷ ps) none (there, all) = ((λ same. let z : true ≡ false = sym there ∙ ap (λ p. is_there before p) same ∙ none in cc), new_to_all before q ps none all)

total_other : (l : Line) (ls : List Line) (ps : List ℕ) → NotIn l.process ps → total (l ∷ ls) ps ≡ total ls ps
total_other l ls [] other = refl
total_other l ls (p ∷ ps) (apart, others) =
    let one : left_in (l ∷ ls) p ≡ left_in ls p = ap (λ b. cond b (1 + of_child (λ p. left_in ls p) l.call + left_in ls p) (left_in ls p)) (different l.process p (λ same. apart (sym same))) in
    let rest = total_other l ls ps others in
    omega (arith, one, rest)

one_step : (l : Line) (ls : List Line) (p : ℕ) (ps : List ℕ) → NotIn p ps → total (l ∷ ls) ps ≤ 1 + of_child (λ p. left_in ls p) l.call + total ls ps → (b : Bool) → (l.process == p) ≡ b
    → left_in (l ∷ ls) p + total (l ∷ ls) ps ≤ 1 + of_child (λ p. left_in ls p) l.call + (left_in ls p + total ls ps)
one_step l ls p ps new rest true t =
    let same = same_numbers l.process p t in
    let one : left_in (l ∷ ls) p ≡ 1 + of_child (λ p. left_in ls p) l.call + left_in ls p = ap (λ b. cond b (1 + of_child (λ p. left_in ls p) l.call + left_in ls p) (left_in ls p)) t in
    let others = total_other l ls ps (subst (λ q. NotIn q ps) (sym same) new) in
    omega (arith, one, others)
one_step l ls p ps new rest false t =
    let one : left_in (l ∷ ls) p ≡ left_in ls p = ap (λ b. cond b (1 + of_child (λ p. left_in ls p) l.call + left_in ls p) (left_in ls p)) t in
    omega (arith, one, rest)

total_step : (l : Line) (ls : List Line) (ps : List ℕ) → Unique ps → total (l ∷ ls) ps ≤ 1 + of_child (λ p. left_in ls p) l.call + total ls ps
total_step l ls [] unique = omega arith
total_step l ls (p ∷ ps) (new, unique) = one_step l ls p ps new (total_step l ls ps unique) (l.process == p) refl

total_none : (ps : List ℕ) → total [] ps ≡ length ps
total_none [] = refl
total_none (p ∷ ps) = let z = total_none ps in omega (arith, z)

bound_by : (l : Line) (ls : List Line) (ps : List ℕ) → total (l ∷ ls) ps ≤ 1 + of_child (λ p. left_in ls p) l.call + total ls ps → total ls ps ≤ length ps + (length ls + length ls)
    → ((child : ℕ) → l.call ≡ fork_as child → left_in ls child + total ls ps ≤ suc (length ps) + (length ls + length ls)) → (call : LineCall) → l.call ≡ call
    → total (l ∷ ls) ps ≤ length ps + (suc (length ls) + suc (length ls))
bound_by l ls ps step rest with_child (fork_as child) forks =
    let z = with_child child forks in
    let y : of_child (λ p. left_in ls p) l.call ≡ left_in ls child = ap (λ c. of_child (λ p. left_in ls p) c) forks in
    omega (arith, z, y, step)
bound_by l ls ps step rest with_child (given r) is = (let y : of_child (λ p. left_in ls p) l.call ≡ 0 = ap (λ c. of_child (λ p. left_in ls p) c) is in omega (arith, y, step, rest))
bound_by l ls ps step rest with_child (write_last fd) is = (let y : of_child (λ p. left_in ls p) l.call ≡ 0 = ap (λ c. of_child (λ p. left_in ls p) c) is in omega (arith, y, step, rest))
bound_by l ls ps step rest with_child (wait_for q) is = (let y : of_child (λ p. left_in ls p) l.call ≡ 0 = ap (λ c. of_child (λ p. left_in ls p) c) is in omega (arith, y, step, rest))
bound_by l ls ps step rest with_child (await_for q) is = (let y : of_child (λ p. left_in ls p) l.call ≡ 0 = ap (λ c. of_child (λ p. left_in ls p) c) is in omega (arith, y, step, rest))

bound : (ls before : List Line) (ps : List ℕ) → AreLinesBehind before ls → Unique ps → AllThere before ps → total ls ps ≤ length ps + (length ls + length ls)
bound [] before ps behind unique all = (let z = total_none ps in omega (arith, z))
bound (l ∷ ls) before ps (rules, behind) unique all =
    bound_by l ls ps (total_step l ls ps unique) (bound ls (before ++ l ∷ []) ps behind unique (all_stay before l ps all))
    (λ child forks. bound ls (before ++ l ∷ []) (child ∷ ps) behind (new_to_all before child ps (rules.forks child forks) all, unique) (there_now before l child forks, all_stay before l ps all))
    l.call refl

pub behind_from : (before xs ys : List Line) → AreLinesBehind before (xs ++ ys) → AreLinesBehind (before ++ xs) ys
behind_from before [] ys h = subst (λ b. AreLinesBehind b ys) (sym (append-nil before)) h
behind_from before (x ∷ xs) ys h = subst (λ b. AreLinesBehind b ys) (append_assoc before (x ∷ []) xs) (behind_from (before ++ x ∷ []) xs ys h.1)

-- what is left to a process from one of its lines on
pub left_bound : (trace : List Line) (place : ℕ) (l : Line) → AreLinesBehind [] trace → slice_get trace place ≡ Some l → left_in (drop place trace) l.process ≤ 1 + (length trace + length trace)
left_bound trace place l behind at =
    let parts = parted trace place l at in
    let later = behind_from [] (take place trace) (l ∷ drop (suc place) trace) (subst (λ t. AreLinesBehind [] t) parts behind) in
    let all = bound (l ∷ drop (suc place) trace) (take place trace) (l.process ∷ []) later (tt, tt) (later.0.there, tt) in
    let size = ap length parts ∙ length-append (take place trace) (l ∷ drop (suc place) trace) in
    let same = ap (λ ls. left_in ls l.process) (drop_at trace place l at) in
    omega (arith, all, size, same)

-- a line takes one, and what its child needs
pub left_cons : (trace : List Line) (place : ℕ) (l : Line) → slice_get trace place ≡ Some l → (process : ℕ)
    → left_in (drop place trace) process ≡ cond (l.process == process) (1 + of_child (λ p. left_in (drop (suc place) trace) p) l.call + left_in (drop (suc place) trace) process) (left_in (drop (suc place) trace) process)
left_cons trace place l at process = ap (λ ls. left_in ls process) (drop_at trace place l at)

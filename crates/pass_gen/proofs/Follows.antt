-- The lines of a generated trace may follow each other.
use Rattle.std.proofs.Common.{◌≡◌, ℕ, zero, suc, ◌+◌, ◌-◌, ◌/◌, ◌%◌, ◌<◌, ◌≤◌, Bool, true, false, not, ◌&&◌, cond, eqb, leb, List, [], ◌∷◌, ◌++◌, map, replicate, codes, Some, None, inl, inr, refl, sym, subst, arith, append_assoc, append-nil}
use Rattle.std.specs.List.{range_with_len, list_any}
use Rattle.std.proofs.lemmas.Bool.{agree_below_at, or_right, cases_lt}
use Rattle.std.proofs.lemmas.List.{get_or-replicate, length-replicate, get_or_past}
use Rattle.pass_trace.specs.declared.trace.Command.{Command}
use Rattle.pass_trace.specs.declared.trace.Command.TheVariants as command
use Rattle.pass_trace.specs.declared.trace.Payload.TheVariants.{Given}
use Rattle.pass_trace.specs.declared.trace.TraceLine.{TraceLine}
use Rattle.pass_trace.specs.declared.trace.TraceReason.TheVariants as reason
use Rattle.pass_trace.specs.declared.limits.Scale.{Scale}
use Rattle.pass_trace.specs.declared.limits.Scale.TheVariants.{Usual, Long}
use Rattle.pass_trace.specs.Limits.{last_process, most_created}
use Rattle.pass_trace.specs.Ranges.{IsPayload, IsGood, IsGoodLine}
use Rattle.pass_trace.specs.Rules.{forks, forks_as, is_there, may_call, creates, count_created, rule_of, LinesFollow}
use Rattle.pass_gen.specs.Generated.{line, word_at, child_at, length_of, transfer_of, command_of, first_lines, drawn_lines, last_lines, generated}
use Rattle.pass_entry.proofs.Lists.{of_both}
use Rattle.pass_entry.proofs.Places.{any_more}

last_high : (scale : Scale) → 8 ≤ last_process scale
last_high Usual = omega arith
last_high Long = omega arith

-- the first process has forked the seven children
record HasChildren (earlier : List TraceLine) : Type 0 where
  there : (child : ℕ) → child < 7 → list_any (forks (2 + child)) earlier ≡ true
  own : (child : ℕ) → child < 7 → list_any (forks_as 1 (2 + child)) earlier ≡ true

HasChildren-append : (xs ys : List TraceLine) → HasChildren xs → HasChildren (xs ++ ys)
HasChildren-append xs ys h = record {
  there = λ child small. any_more (forks (2 + child)) xs ys (h.there child small);
  own = λ child small. any_more (forks_as 1 (2 + child)) xs ys (h.own child small);
}

HasChildren-first : HasChildren first_lines
HasChildren-first = record {
  there = λ child small. agree_below_at (λ q. list_any (forks (2 + q)) first_lines) (λ q. true) 7 child refl small;
  own = λ child small. agree_below_at (λ q. list_any (forks_as 1 (2 + q)) first_lines) (λ q. true) 7 child refl small;
}

module _ (scale : Scale) where
  LinesFollow-append : (earlier xs ys : List TraceLine) → LinesFollow scale earlier xs → LinesFollow scale (earlier ++ xs) ys → LinesFollow scale earlier (xs ++ ys)
  LinesFollow-append earlier [] ys f g = subst (λ e. LinesFollow scale e ys) (append-nil earlier) g
  LinesFollow-append earlier (x ∷ xs) ys f g =
      (f.0, f.1, LinesFollow-append (earlier ++ x ∷ []) xs ys f.2 (subst (λ e. LinesFollow scale e ys) (sym (append_assoc earlier (x ∷ []) xs)) g))

  good : (number process : ℕ) (c : Command) → 1 ≤ process → process ≤ 8 → IsGood scale c → IsGoodLine scale (line number process c)
  good number process c from to h = record { from = from; to = (let z = last_high scale in omega (arith, to, z)); command = h }

  fork_good : (child : ℕ) → 1 ≤ child → child ≤ 8 → IsGoodLine scale (line child 1 (command.Fork child))
  fork_good child some few = good child 1 (command.Fork child) (omega arith) (omega arith) (some, let z = last_high scale in omega (arith, few, z))

-- two scales, two computations
first_follow : (scale : Scale) → LinesFollow scale [] first_lines
first_follow Usual = (
  good Usual 1 1 (command.Creat 3 (codes "shared")) (omega arith) (omega arith) (omega arith, refl),
  refl,
  (
    fork_good Usual 2 (omega arith) (omega arith),
    refl,
    (
      fork_good Usual 3 (omega arith) (omega arith),
      refl,
      (
        fork_good Usual 4 (omega arith) (omega arith),
        refl,
        (
          fork_good Usual 5 (omega arith) (omega arith),
          refl,
          (fork_good Usual 6 (omega arith) (omega arith), refl, (fork_good Usual 7 (omega arith) (omega arith), refl, (fork_good Usual 8 (omega arith) (omega arith), refl, tt))),
        ),
      ),
    ),
  ),
)
first_follow Long = (
  good Long 1 1 (command.Creat 3 (codes "shared")) (omega arith) (omega arith) (omega arith, refl),
  refl,
  (
    fork_good Long 2 (omega arith) (omega arith),
    refl,
    (
      fork_good Long 3 (omega arith) (omega arith),
      refl,
      (
        fork_good Long 4 (omega arith) (omega arith),
        refl,
        (
          fork_good Long 5 (omega arith) (omega arith),
          refl,
          (fork_good Long 6 (omega arith) (omega arith), refl, (fork_good Long 7 (omega arith) (omega arith), refl, (fork_good Long 8 (omega arith) (omega arith), refl, tt))),
        ),
      ),
    ),
  ),
)

module _ (scale : Scale) where
  -- a drawn line: its fields are in their ranges, and it makes nothing and waits for nobody
  record IsQuiet (c : Command) : Type 0 where
    good : IsGood scale c
    makes : creates c ≡ false
    may : (earlier : List TraceLine) (process : ℕ) → may_call earlier process c ≡ true

  IsPayload-replicate : (n b : ℕ) → n ≤ 4096 → b < 256 → IsPayload (Given (replicate n b))
  IsPayload-replicate n b short small = (
    omega (arith, short, length-replicate n b),
    λ i.
        elim (cases_lt i n) [
          | inl below ↦ rw (get_or-replicate n i b 0 below) small
          | inr past ↦ rw (get_or_past (replicate n b) i 0 (omega (arith, length-replicate n b))) (omega arith)
        ],
  )

  IsQuiet-read : (len : ℕ) → 1 ≤ len → len ≤ 4096 → IsQuiet (command.Read 3 len)
  IsQuiet-read len some short = record { good = (omega arith, some, short); makes = refl; may = λ earlier process. refl }

  IsQuiet-write : (len byte : ℕ) → len ≤ 4096 → byte < 256 → IsQuiet (command.Write 3 (Given (replicate len byte)))
  IsQuiet-write len byte short small = record { good = (omega arith, IsPayload-replicate len byte short small); makes = refl; may = λ earlier process. refl }

  IsQuiet-seek : (off : ℕ) → off ≤ 65535 → IsQuiet (command.Seek 3 off)
  IsQuiet-seek off near = record { good = (omega arith, omega (arith, near)); makes = refl; may = λ earlier process. refl }

  IsQuiet-drawn : (i word : ℕ) → IsQuiet (command_of i word)
  IsQuiet-drawn i word =
      let short : length_of word ≤ 4096 = omega arith in
      let transfer = of_both IsQuiet (eqb (word % 2) 0) (command.Read 3 (length_of word)) (command.Write 3 (Given (replicate (length_of word) (word / 8192 % 256)))) (IsQuiet-read (length_of word) (omega arith) short) (IsQuiet-write (length_of word) (word / 8192 % 256) short (omega arith)) in
      of_both IsQuiet (eqb (i % 2) 0) (command.Seek 3 (word % 65536)) (transfer_of word) (IsQuiet-seek (word % 65536) (omega arith)) transfer

  -- no reason against a line whose process is there, that may call and makes nothing
  fits : (a b c d : Bool) → a ≡ true → b ≡ true → c ≡ false → cond (not (a && b)) (Some reason.Process) (cond (c && d) (Some reason.Many) None) ≡ None
  fits true true false d ea eb ec = refl
  fits true true true d ea eb ec = cc
  fits true false c d ea eb ec = cc
  fits false b c d ea eb ec = cc

  is_there-child : (earlier : List TraceLine) (child : ℕ) → child < 7 → HasChildren earlier → is_there earlier (2 + child) ≡ true
  is_there-child earlier child small h = or_right (eqb (2 + child) 1) (list_any (forks (2 + child)) earlier) (h.there child small)

  rule_of-quiet : (earlier : List TraceLine) (number child : ℕ) (c : Command) → child < 7 → HasChildren earlier → IsQuiet c → rule_of scale earlier (line number (2 + child) c) ≡ None
  rule_of-quiet earlier number child c small h q =
      fits (is_there earlier (2 + child)) (may_call earlier (2 + child) c) (creates c) (leb (most_created scale) (count_created earlier)) (is_there-child earlier child small h) (q.may earlier (2 + child)) q.makes

  drawn_follow : (number a count : ℕ) (earlier : List TraceLine) → HasChildren earlier → LinesFollow scale earlier (map (λ i. line (9 + i) (child_at i) (command_of i (word_at number i))) (range_with_len a count))
  drawn_follow number a zero earlier h = tt
  drawn_follow number a (suc count) earlier h =
      let c = command_of a (word_at number a) in
      let quiet = IsQuiet-drawn a (word_at number a) in
      let small : a / 2 % 7 < 7 = omega arith in (
        good scale (9 + a) (child_at a) c (omega arith) (omega (arith, small)) quiet.good,
        rule_of-quiet earlier (9 + a) (a / 2 % 7) c small h quiet,
        drawn_follow number (a + 1) count (earlier ++ line (9 + a) (child_at a) c ∷ []) (HasChildren-append earlier (line (9 + a) (child_at a) c ∷ []) h),
      )

  -- the waits
  waits_follow : (k a b count : ℕ) (earlier : List TraceLine) → 2 + b ≡ a → b + count ≤ 7 → HasChildren earlier → LinesFollow scale earlier (map (λ child. line (k + child) 1 (command.Wait child)) (range_with_len a count))
  waits_follow k a b zero earlier at few h = tt
  waits_follow k a b (suc count) earlier at few h =
      let own : list_any (forks_as 1 a) earlier ≡ true = subst (λ c. list_any (forks_as 1 c) earlier ≡ true) at (h.own b (omega (arith, few))) in (
        good scale (k + a) 1 (command.Wait a) (omega arith) (omega arith) (omega (arith, at), (let z = last_high scale in omega (arith, at, few, z))),
        fits true (list_any (forks_as 1 a) earlier) false (leb (most_created scale) (count_created earlier)) refl own refl,
        waits_follow k (a + 1) (b + 1) count (earlier ++ line (k + a) 1 (command.Wait a) ∷ []) (omega (arith, at)) (omega (arith, few)) (HasChildren-append earlier (line (k + a) 1 (command.Wait a) ∷ []) h),
      )

  pub follows : (number lines : ℕ) → LinesFollow scale [] (generated number lines)
  follows number lines =
      let count = lines - 15 in
      let front = LinesFollow-append scale [] first_lines (drawn_lines number count) (first_follow scale) (drawn_follow number 0 count first_lines HasChildren-first) in
      LinesFollow-append scale [] (first_lines ++ drawn_lines number count) (last_lines count) front
      (waits_follow (7 + count) 2 0 7 (first_lines ++ drawn_lines number count) refl (omega arith) (HasChildren-append first_lines (drawn_lines number count) HasChildren-first))

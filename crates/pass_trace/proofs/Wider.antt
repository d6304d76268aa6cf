-- A text of a trace of any scale is one of the long scale, with the same trace.
use Rattle.std.proofs.Common.{◌≡◌, ℕ, zero, suc, ◌+◌, ◌<◌, ◌≤◌, Bool, true, false, ◌&&◌, cond, leb, ltb, List, [], ◌∷◌, ◌++◌, length, take, drop, get_or, Option, Some, None, Result, Ok, Err, refl, sym, ap, ◌∙◌, arith, drop-cons}
use Rattle.std.proofs.lemmas.List.{take_all}
use Rattle.std.proofs.lemmas.Bool.{and_parts, and_from, leb-true, le-leb, le-ltb, ltb-false}
use Rattle.std.proofs.lemmas.Bool.Decides.{nat_tests}
use Rattle.pass_entry.specs.Words.{call_of}
use Rattle.pass_entry.specs.declared.entry.CallName.{CallName}
use Rattle.pass_entry.specs.declared.entry.CallName.TheVariants as call
use Rattle.pass_entry.proofs.Variants.{guard_ok}
use Rattle.pass_trace.specs.declared.limits.Scale.{Scale}
use Rattle.pass_trace.specs.declared.limits.Scale.TheVariants.{Usual, Long}
use Rattle.pass_trace.specs.declared.trace.Command.{Command}
use Rattle.pass_trace.specs.declared.trace.Command.TheVariants as command
use Rattle.pass_trace.specs.declared.trace.TraceLine.{TraceLine}
use Rattle.pass_trace.specs.declared.trace.TraceReason.{TraceReason}
use Rattle.pass_trace.specs.declared.trace.TraceReason.TheVariants as reason
use Rattle.pass_trace.specs.Limits.{most_lines, most_created, last_process}
use Rattle.pass_trace.specs.Lines.{lines_of, words_of}
use Rattle.pass_trace.specs.Rules.{creates, count_created, rule_of}
use Rattle.pass_trace.specs.Words.{value_of}
use Rattle.pass_trace.specs.Commands.{◌>>=◌, word_at, number_in, process_of, command_of, fork_of, wait_of, await_of}
use Rattle.pass_trace.specs.Traces.{has_row, call_line_of, row_of, line_of, text_line_of, said, lines_from, reason_behind, fault_at, trace_of, IsTraceText}
use Rattle.pass_trace.specs.Lawful.{WiderLaw}
use Rattle.pass_trace.proofs.Good.{last_low, bind_ok}
use Rattle.pass_trace.proofs.LinesLemmas.{Stands, Stands-from_drop, lines_from-take}

pub lines_low : (scale : Scale) → most_lines scale ≤ 1000000
lines_low Usual = omega arith
lines_low Long = omega arith

created_low : (scale : Scale) → most_created scale ≤ 65535
created_low Usual = omega arith
created_low Long = omega arith

-- Fields and lines

number_wide : (scale : Scale) (word : List ℕ) (n : ℕ) → process_of scale word ≡ Ok n → process_of Long word ≡ Ok n
unfolding number_in
number_wide scale word n h =
    let v = value_of word in
    let parts = guard_ok (leb 1 v && leb v (last_process scale)) v n reason.Number h in
    let both = and_parts (leb 1 v) (leb v (last_process scale)) parts.0 in
    let most = leb-true v (last_process scale) both.1 in
    ap (λ b. cond b (Ok v) (Err reason.Number)) (and_from (leb 1 v) (leb v 65536) both.0 (le-leb v 65536 (omega (arith, most, last_low scale)))) ∙ ap (λ m. Ok m) parts.1

one_wide : (scale : Scale) (word : List ℕ) (f : ℕ → Command) (c : Command) → (process_of scale word >>= λ a. Ok (f a)) ≡ Ok c → (process_of Long word >>= λ a. Ok (f a)) ≡ Ok c
one_wide scale word f c h =
    let step = bind_ok (process_of scale word) (λ a. Ok (f a)) c h in
    ap (λ r. r >>= λ a. Ok (f a)) (number_wide scale word step.0 step.1) ∙ step.2

command_wide : (scale : Scale) (call : CallName) (words : List (List ℕ)) (c : Command) → command_of scale call words ≡ Ok c → command_of Long call words ≡ Ok c
unfolding fork_of wait_of await_of
command_wide scale call.Fork words c h = one_wide scale (word_at words 0) command.Fork c h
command_wide scale call.WaitChild words c h = one_wide scale (word_at words 0) command.Wait c h
command_wide scale call.Await words c h = one_wide scale (word_at words 0) command.Await c h
command_wide scale call.Start words c h = h
command_wide scale call.Creat words c h = h
command_wide scale call.OpenName words c h = h
command_wide scale call.CloseFd words c h = h
command_wide scale call.Read words c h = h
command_wide scale call.Write words c h = h
command_wide scale call.Seek words c h = h
command_wide scale call.Truncate words c h = h
command_wide scale call.MakePipe words c h = h
command_wide scale call.Exec words c h = h
command_wide scale call.Exit words c h = h
command_wide scale call.Rename words c h = h
command_wide scale call.Unlink words c h = h
command_wide scale call.MakeObj words c h = h
command_wide scale call.Revive words c h = h
command_wide scale call.FreezeObj words c h = h
command_wide scale call.Disclose words c h = h
command_wide scale call.TagObj words c h = h
command_wide scale call.Sync words c h = h

call_line_wide : (scale : Scale) (number : ℕ) (process : List ℕ) (call : CallName) (words : List (List ℕ)) (line : TraceLine)
    → call_line_of scale number process call words ≡ Ok line → call_line_of Long number process call words ≡ Ok line
unfolding call_line_of
call_line_wide scale number process call words line h =
    let p = bind_ok (process_of scale process) (λ p. command_of scale call words >>= λ c. Ok (record { number = number; process = p; command = c })) line h in
    let c = bind_ok (command_of scale call words) (λ c. Ok (record { number = number; process = p.0; command = c })) line p.2 in
    ap (λ r. r >>= λ p. command_of Long call words >>= λ c. Ok (record { number = number; process = p; command = c })) (number_wide scale process p.0 p.1)
    ∙ ap (λ r. r >>= λ c. Ok (record { number = number; process = p.0; command = c })) (command_wide scale call words c.0 c.1) ∙ c.2

row_wide : (scale : Scale) (number : ℕ) (process : List ℕ) (call : Option CallName) (words : List (List ℕ)) (line : TraceLine)
    → row_of scale number process call words ≡ Ok line → row_of Long number process call words ≡ Ok line
row_wide scale number process None words line h = h
row_wide scale number process (Some call) words line h = by (has_row process call words) h
  where
    by : (b : Bool) → cond b (call_line_of scale number process call words) (Err reason.Form) ≡ Ok line → cond b (call_line_of Long number process call words) (Err reason.Form) ≡ Ok line
    by true h = call_line_wide scale number process call words line h
    by false h = h

words_wide : (scale : Scale) (number : ℕ) (words : List (List ℕ)) (line : TraceLine) → line_of scale number words ≡ Ok line → line_of Long number words ≡ Ok line
unfolding line_of
words_wide scale number [] line h = h
words_wide scale number (process ∷ []) line h = h
words_wide scale number (process ∷ call ∷ words) line h = row_wide scale number process (call_of call) words line h

wide_cases : (a b c d : Bool) (read more : Result TraceLine TraceReason) (o : Option TraceLine) → (a ≡ false → b ≡ false) → ((l : TraceLine) → read ≡ Ok l → more ≡ Ok l)
    → cond a (Err reason.Many) (cond c (Err reason.Length) (cond d (Ok None) (read >>= λ l. Ok (Some l)))) ≡ Ok o
    → cond b (Err reason.Many) (cond c (Err reason.Length) (cond d (Ok None) (more >>= λ l. Ok (Some l)))) ≡ Ok o
wide_cases true b c d read more o few wide h = absurd (cc)
wide_cases false b true d read more o few wide h = absurd (cc)
wide_cases false b false true read more o few wide h = ap (λ b. cond b (Err reason.Many) (Ok None)) (few refl) ∙ h
wide_cases false b false false (Ok l) more o few wide h =
    ap (λ b. cond b (Err reason.Many) (more >>= λ l. Ok (Some l))) (few refl) ∙ ap (λ r. r >>= λ l. Ok (Some l)) (wide l refl) ∙ h
wide_cases false b false false (Err r) more o few wide h = absurd (cc)

text_wide : (scale : Scale) (number : ℕ) (text : List ℕ) (o : Option TraceLine) → text_line_of scale number text ≡ Ok o → text_line_of Long number text ≡ Ok o
unfolding text_line_of
text_wide scale number text o h =
    wide_cases (ltb (most_lines scale) number) (ltb 1000000 number) _ _ (line_of scale number (words_of text)) (line_of Long number (words_of text)) o
    (λ few. le-ltb 1000000 number (let z = ltb-false (most_lines scale) number few in omega (arith, z, lines_low scale))) (words_wide scale number (words_of text)) h

-- Places

rule_cases : (a b c d : Bool) → (c ≡ false → d ≡ false) → cond a (Some reason.Process) (cond (b && c) (Some reason.Many) None) ≡ None → cond a (Some reason.Process) (cond (b && d) (Some reason.Many) None) ≡ None
rule_cases true b c d few h = h
rule_cases false false c d few h = h
rule_cases false true true d few h = absurd (cc)
rule_cases false true false d few h = ap (λ d. cond d (Some reason.Many) None) (few refl)

rule_wide : (scale : Scale) (earlier : List TraceLine) (line : TraceLine) → rule_of scale earlier line ≡ None → rule_of Long earlier line ≡ None
rule_wide scale earlier line h =
    rule_cases _ (creates line.command) (leb (most_created scale) (count_created earlier)) (leb 65535 (count_created earlier)) (fewer (most_created scale) 65535 (count_created earlier) (created_low scale)) h
  where
    fewer : (a b n : ℕ) → a ≤ b → leb a n ≡ false → leb b n ≡ false
    fewer a b n le h = grind (arith, nat_tests)

behind_wide : (scale : Scale) (earlier : List TraceLine) (read more : Result (Option TraceLine) TraceReason) → ((o : Option TraceLine) → read ≡ Ok o → more ≡ Ok o)
    → reason_behind scale earlier read ≡ None → (reason_behind Long earlier more ≡ None) × (said read ≡ said more)
behind_wide scale earlier (Ok (Some l)) more wide h = (ap (reason_behind Long earlier) (wide (Some l) refl) ∙ rule_wide scale earlier l h, ap said (sym (wide (Some l) refl)))
behind_wide scale earlier (Ok None) more wide h = (ap (reason_behind Long earlier) (wide None refl), ap said (sym (wide None refl)))
behind_wide scale earlier (Err r) more wide h = absurd (cc)

module _ (scale : Scale) (texts : List (List ℕ)) (fine : (k : ℕ) → k < length texts → fault_at scale texts k ≡ None) where
  -- a line in its place
  here_wide : (k : ℕ) → k < length texts
      → (reason_behind Long (lines_from scale 1 (take k texts)) (text_line_of Long (k + 1) (get_or texts k [])) ≡ None)
      × (said (text_line_of scale (k + 1) (get_or texts k [])) ≡ said (text_line_of Long (k + 1) (get_or texts k [])))
  here_wide k there =
      behind_wide scale (lines_from scale 1 (take k texts)) (text_line_of scale (k + 1) (get_or texts k [])) (text_line_of Long (k + 1) (get_or texts k []))
      (text_wide scale (k + 1) (get_or texts k [])) (fine k there)

  front_wide : (k : ℕ) → k ≤ length texts → lines_from scale 1 (take k texts) ≡ lines_from Long 1 (take k texts)
  front_wide zero within = refl
  front_wide (suc k) within =
      let there : k < length texts = omega (arith, within) in
      let text : List ℕ = get_or texts k [] in
      let at : Stands texts k text (drop (suc k) texts) [] = Stands-from_drop texts k text (drop (suc k) texts) [] (drop-cons texts k [] there) in
      let same = front_wide k (omega (arith, within)) in
      let next : suc k ≡ k + 1 = omega arith in
      ap (λ n. lines_from scale 1 (take n texts)) next
      ∙ lines_from-take scale texts k text (drop (suc k) texts) at
      ∙ ap (λ ls. ls ++ said (text_line_of scale (k + 1) text)) same
      ∙ ap (λ ls. lines_from Long 1 (take k texts) ++ ls) (here_wide k there).1
      ∙ sym (lines_from-take Long texts k text (drop (suc k) texts) at)
      ∙ ap (λ n. lines_from Long 1 (take n texts)) (sym next)

  fine_wide : (k : ℕ) → k < length texts → fault_at Long texts k ≡ None
  fine_wide k there =
      ap (λ ls. reason_behind Long ls (text_line_of Long (k + 1) (get_or texts k []))) (sym (front_wide k (omega (arith, there)))) ∙ (here_wide k there).0

pub same_trace : (scale : Scale) (bytes : List ℕ) → IsTraceText scale bytes → lines_from scale 1 (lines_of bytes) ≡ trace_of bytes
same_trace scale bytes fine =
    let texts = lines_of bytes in
    let whole = take_all (length texts) texts (omega arith) in
    ap (lines_from scale 1) (sym whole) ∙ front_wide scale texts fine (length texts) (omega arith) ∙ ap (lines_from Long 1) whole

pub wider_law : WiderLaw
wider_law scale bytes fine = fine_wide scale (lines_of bytes) fine

-- What the writes of a drawn trace write on a fresh store.
use Rattle.std.proofs.Common.{◌≡◌, ◌≤◌, ◌+◌, ◌-◌, ◌*◌, ℕ, List, [], ◌∷◌, ◌++◌, length, map, refl, ap, sym, ◌∙◌, arith, inl, inr, Bool, true, false, not, ◌&&◌, cond}
use Rattle.std.specs.Prelude.{Some, slice_get, sum_by}
use Rattle.std.proofs.lemmas.List.Sums.{sum_by-append}
use Rattle.pass_entry.specs.declared.entry.Entry.{Entry}
use Rattle.pass_entry.specs.declared.entry.Act.{Act}
use Rattle.pass_entry.specs.declared.entry.Act.TheVariants as act
use Rattle.pass_plain.specs.declared.request.Request.TheVariants as requests
use Rattle.pass_plain.specs.Histories.{call_entries, is_fault}
use Rattle.pass_plain.specs.Sessions.{Session}
use Rattle.pass_plain.specs.Traces.{Line, LineCall, given, write_last, fork_as, wait_for, await_for, name_of_call, calls_of}
use Rattle.pass_plain.specs.Runs.{IsRun}
use Rattle.pass_plain.specs.Outlines.{outline}
use Rattle.pass_report.specs.Reports.{is_answered}
use Rattle.pass_replay.specs.Ends.{NoneOpen}
use Rattle.pass_trace.specs.declared.trace.Command.{Command}
use Rattle.pass_trace.specs.declared.trace.Command.TheVariants as command
use Rattle.pass_trace.specs.declared.trace.Payload.TheVariants as payload
use Rattle.pass_trace.specs.declared.trace.TraceLine.{TraceLine}
use Rattle.pass_trace.specs.Rules.{count_created, creates}
use Rattle.pass_trace.specs.TraceLines.{call_of, plain_line, session_of_trace}
use Rattle.pass_gen.specs.Generated.{first_lines, drawn_lines, last_lines, generated}
use Rattle.pass_drawn.specs.Runs.{drawn_trace}
use Rattle.pass_drawn.specs.Texts.{is_write, is_written, length_written, writes_command, length_command, drawn_text}
use Rattle.pass_drawn.specs.Lawful.{WroteLaw, TextLaw}
use Rattle.pass_drawn.proofs.Adding.{sum_by-same, sum_by-map}
use Rattle.pass_drawn.proofs.Tracing.{IsFirsts, IsChilds, call_drawn}
use Rattle.pass_drawn.proofs.Counting.{pnode, counted_by_call}
use Rattle.pass_drawn.proofs.Answered.{quiet_start, last_entry, entry_named, call_counts, answered_law}
use Rattle.pass_drawn.proofs.Seeking.{written}

-- there is room for the first process and the file
room_of : (number lines : ℕ) → 2 ≤ 1 + count_created (generated number lines)
room_of number lines =
    let count = lines - 15 in
    let drawn = drawn_lines number count in
    let a = sum_by-append (λ (l : TraceLine). cond (creates l.command) 1 0) (first_lines ++ drawn) (last_lines count) in
    let b = sum_by-append (λ (l : TraceLine). cond (creates l.command) 1 0) first_lines drawn in
    let c : count_created first_lines ≡ 8 = refl in
    omega (arith, a, b, c)

both_if : (a b : Bool) (n : ℕ) → cond (a && b) n 0 ≡ cond a (cond b n 0) 0
both_if true b n = refl
both_if false b n = refl

-- what a call counts, by the bytes of its write
abbrev counts : (List ℕ → ℕ) → ℕ → LineCall → ℕ
counts of_bytes of_last (given (requests.Write fd bytes)) = of_bytes bytes
counts of_bytes of_last (write_last fd) = of_last
counts of_bytes of_last _ = 0

module _ (session : Session) (number lines : ℕ) (history : List Entry) (run : IsRun session (drawn_trace number lines) history) (some_object : 1 ≤ session.objects)
    (closed : NoneOpen session (drawn_trace number lines) history)
    (no_files : session.start.files.items ≡ []) (no_apps : session.start.apps.items ≡ []) (room : 2 ≤ session.objects)
    (of_act : Act → ℕ) (of_bytes : List ℕ → ℕ) (of_last : ℕ) (agree : (out at : ℕ) (bytes : List ℕ) → of_act (act.Put out at bytes) ≡ of_bytes bytes) where
  abbrev value : Entry → ℕ
  value e = cond (is_write e.call && not (is_fault e.reply)) (of_act e.act) 0

  abbrev sum_of_call : ℕ → ℕ → ℕ
  sum_of_call who k = sum_by (λ (s : ℕ × Entry). cond (is_answered history s.1) (value s.1) 0) (call_entries history who (k + 1))

  -- a call that is no write counts nothing
  other_call : (process who k : ℕ) (call : LineCall) → pnode session number lines history run some_object closed process ≡ Some who → slice_get (calls_of (drawn_trace number lines) process) k ≡ Some call
      → is_write (name_of_call call) ≡ false → sum_of_call who k ≡ 0
  other_call process who k call begun stands other =
      let (m, at, last) = last_entry session number lines history run some_object closed process who k call begun stands in
      call_counts session number lines history run some_object closed process who k call begun stands value m at last
      ∙ ap (λ c. cond (is_write c && not (is_fault m.1.reply)) (of_act m.1.act) 0) (entry_named session number lines history run some_object closed process who k call begun stands _ m at)
      ∙ ap (λ b. cond (b && not (is_fault m.1.reply)) (of_act m.1.act) 0) other

  write_call : (process who k : ℕ) (fd : ℕ) (bytes : List ℕ) → pnode session number lines history run some_object closed process ≡ Some who
      → slice_get (calls_of (drawn_trace number lines) process) k ≡ Some (given (requests.Write fd bytes)) → 2 ≤ process → fd ≡ 3 → length bytes ≤ 4096 → sum_of_call who k ≡ of_bytes bytes
  write_call process who k fd bytes begun stands least three short =
      let (m, at, last) = last_entry session number lines history run some_object closed process who k (given (requests.Write fd bytes)) begun stands in
      let put = written session number lines history run some_object closed no_files no_apps room process who least begun k bytes (stands ∙ ap (λ fd. Some (given (requests.Write fd bytes))) three) short m at last in
      call_counts session number lines history run some_object closed process who k (given (requests.Write fd bytes)) begun stands value m at last
      ∙ ap (λ c. cond (is_write c && not (is_fault m.1.reply)) (of_act m.1.act) 0) (entry_named session number lines history run some_object closed process who k (given (requests.Write fd bytes)) begun stands _ m at)
      ∙ ap (λ b. cond (not b) (of_act m.1.act) 0) put.done
      ∙ ap of_act put.puts ∙ agree put.out put.offset bytes

  first_call : (process who k : ℕ) (call : LineCall) → pnode session number lines history run some_object closed process ≡ Some who → slice_get (calls_of (drawn_trace number lines) process) k ≡ Some call
      → IsFirsts call → sum_of_call who k ≡ counts of_bytes of_last call
  first_call process who k (given (requests.Creat fd name)) begun stands is = other_call process who k (given (requests.Creat fd name)) begun stands refl
  first_call process who k (given _) begun stands is = absurd is
  first_call process who k (write_last fd) begun stands is = absurd is
  first_call process who k (fork_as child) begun stands is = other_call process who k (fork_as child) begun stands refl
  first_call process who k (wait_for child) begun stands is = other_call process who k (wait_for child) begun stands refl
  first_call process who k (await_for child) begun stands is = absurd is

  child_call : (process who k : ℕ) (call : LineCall) → pnode session number lines history run some_object closed process ≡ Some who → slice_get (calls_of (drawn_trace number lines) process) k ≡ Some call
      → 2 ≤ process → IsChilds call → sum_of_call who k ≡ counts of_bytes of_last call
  child_call process who k (given (requests.Seek fd at)) begun stands least is = other_call process who k (given (requests.Seek fd at)) begun stands refl
  child_call process who k (given (requests.Read fd len)) begun stands least is = other_call process who k (given (requests.Read fd len)) begun stands refl
  child_call process who k (given (requests.Write fd bytes)) begun stands least is = write_call process who k fd bytes begun stands least is.0 is.1
  child_call process who k (given _) begun stands least is = absurd is
  child_call process who k (write_last fd) begun stands least is = absurd is
  child_call process who k (fork_as child) begun stands least is = absurd is
  child_call process who k (wait_for child) begun stands least is = absurd is
  child_call process who k (await_for child) begun stands least is = absurd is

  each_call : (process who k : ℕ) (call : LineCall) → pnode session number lines history run some_object closed process ≡ Some who → slice_get (calls_of (drawn_trace number lines) process) k ≡ Some call
      → sum_of_call who k ≡ counts of_bytes of_last call
  each_call process who k call begun stands = elim (call_drawn number lines process k call stands) [
    | inr exit ↦
        other_call process who k call begun stands (ap (λ c. is_write (name_of_call c)) exit) ∙ ap (counts of_bytes of_last) (sym exit)
    | inl drawn ↦ elim drawn [
      | inl one ↦ first_call process who k call begun stands one.1
      | inr other ↦ child_call process who k call begun stands other.0 other.2
    ]
  ]

  -- so the writes of the history count what those of the lines do
  pub summed : (of_command : Command → ℕ) → ((c : Command) → counts of_bytes of_last (call_of c) ≡ of_command c)
      → sum_by (λ e. cond (is_written history e) (of_act e.act) 0) history ≡ sum_by (λ (l : TraceLine). of_command l.command) (generated number lines)
  summed of_command same =
      let lines_sum = sum_by (λ (l : TraceLine). of_command l.command) (generated number lines) in
      sum_by-same (λ e. cond (is_written history e) (of_act e.act) 0) (λ e. cond (is_answered history e) (value e) 0) history
      (λ k e at. both_if (is_answered history e) (is_write e.call && not (is_fault e.reply)) (of_act e.act))
      ∙ counted_by_call session number lines history run some_object closed (λ e. cond (is_answered history e) (value e) 0) (counts of_bytes of_last) (λ e start. quiet_start history value e start) each_call
      ∙ ap (λ n. n + 8 * 0) (sum_by-map plain_line (λ (l : Line). counts of_bytes of_last l.call) (generated number lines)
      ∙ sum_by-same (λ (l : TraceLine). counts of_bytes of_last (call_of l.command)) (λ (l : TraceLine). of_command l.command) (generated number lines) (λ k l at. same l.command))
      ∙ (let z : lines_sum + 8 * 0 ≡ lines_sum = omega arith in z)

writes_as : (c : Command) → counts (λ bytes. 1) 1 (call_of c) ≡ cond (writes_command c) 1 0
writes_as (command.Write fd (payload.Given bytes)) = refl
writes_as (command.Write fd payload.Last) = refl
writes_as _ = refl

lengths_as : (c : Command) → counts (λ bytes. length bytes) 0 (call_of c) ≡ length_command c
lengths_as (command.Write fd (payload.Given bytes)) = refl
lengths_as (command.Write fd payload.Last) = refl
lengths_as _ = refl

-- what has no files has none with their bytes either
none_mapped : {X Y : Type 0} (f : X → Y) (xs ys : List X) → map f xs ≡ map f ys → xs ≡ [] → ys ≡ []
none_mapped f xs [] same none = refl
none_mapped f xs (y ∷ ys) same none = absurd (let z : [] ≡ map f (y ∷ ys) = ap (λ zs. map f zs) (sym none) ∙ same in cc)

pub wrote_law : WroteLaw
wrote_law start full number lines history r =
    let session = session_of_trace full (generated number lines) in
    let room = room_of number lines in
    let no_files = none_mapped outline start.files.items full.files.items r.same.files r.no_files in
    let no_apps : full.apps.items ≡ [] = sym r.same.apps ∙ r.no_apps in (
      summed session number lines history r.run (omega arith) r.closed no_files no_apps room (λ a. 1) (λ bytes. 1) 1 (λ out at bytes. refl) (λ c. cond (writes_command c) 1 0) writes_as,
      summed session number lines history r.run (omega arith) r.closed no_files no_apps room length_written (λ bytes. length bytes) 0 (λ out at bytes. refl) length_command lengths_as,
    )

pub text_law : TextLaw
text_law start full number lines history least r =
    let calls = answered_law (session_of_trace full (generated number lines)) number lines history least (omega arith) r.run r.closed in
    let (count, bytes) = wrote_law start full number lines history r in
    (λ i. drawn_text number lines (calls i) (count i) (bytes i))

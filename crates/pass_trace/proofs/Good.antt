-- What the fields of a line that is read keep.
use Rattle.std.proofs.Common.{◌≡◌, ℕ, zero, suc, ◌-◌, ◌^◌, ◌<◌, ◌≤◌, Bool, true, false, ◌&&◌, cond, leb, List, [], ◌∷◌, length, take, drop, get_or, replicate, codes, Option, Some, None, Result, Ok, Err, inl, inr, refl, sym, ◌∙◌, subst, arith}
use Rattle.std.specs.List.{list_all, join_with_byte}
use Rattle.std.proofs.lemmas.Bool.{and_parts, leb-true, cases_lt}
use Rattle.std.proofs.lemmas.List.{get_or-replicate, length-replicate, get_or_past}
use Rattle.hex.specs.Hex.{IsBytes, decode_of, decode_sized}
use Rattle.hex.specs.declared.error.FromHexError.{FromHexError}
use Rattle.hex.proofs.HexLemmas.{decode_of-ok, decode_sized-ok, decode_sized-twice}
use Rattle.pass_entry.specs.Texts.{is_name, is_line, is_name_byte, IsName, IsLine}
use Rattle.pass_entry.specs.declared.objects.Mode.TheVariants as mode
use Rattle.pass_trace.specs.declared.trace.Command.{Command}
use Rattle.pass_trace.specs.declared.trace.Command.TheVariants as command
use Rattle.pass_trace.specs.declared.trace.Payload.{Payload}
use Rattle.pass_trace.specs.declared.trace.Payload.TheVariants.{Given, Last}
use Rattle.pass_trace.specs.declared.trace.TraceLine.{TraceLine}
use Rattle.pass_trace.specs.declared.trace.TraceReason.{TraceReason}
use Rattle.pass_trace.specs.declared.trace.TraceReason.TheVariants as reason
use Rattle.pass_trace.specs.declared.call.Form.TheVariants as form
use Rattle.pass_entry.specs.Words.{call_of}
use Rattle.pass_entry.specs.declared.entry.CallName.{CallName}
use Rattle.pass_entry.specs.declared.entry.CallName.TheVariants as call
use Rattle.pass_entry.proofs.Variants.{guard_ok}
use Rattle.pass_trace.specs.Calls.{forms_of}
use Rattle.pass_trace.specs.Lines.{words_of}
pub use Rattle.pass_trace.specs.Ranges.{IsPayload, IsMode, IsArgs, IsGood, IsGoodLine}
use Rattle.pass_trace.specs.declared.limits.Scale.{Scale}
use Rattle.pass_trace.specs.declared.limits.Scale.TheVariants.{Usual, Long}
use Rattle.pass_trace.specs.Limits.{last_process}
use Rattle.pass_trace.specs.Rules.{child_of}
use Rattle.pass_trace.specs.Words.{is_text, is_word, is_number, is_payload, have_forms, have_these, value_of}
use Rattle.pass_trace.specs.Commands.{◌>>=◌, word_at, number_in, process_of, fd_of, name_of, mode_of, given, decoded, repeated_of, hex_of, payload_of, args_of, command_of, creat_of, open_of, close_of, read_of, write_of, seek_of, truncate_of, pipe_of, fork_of, exec_of, wait_of, await_of, rename_of, unlink_of, mkobj_of, revive_of, freeze_of, disclose_of, tag_of, sync_of}
use Rattle.pass_trace.specs.Traces.{has_row, row_of, call_line_of, line_of, text_line_of}

-- the usual scale is within the long one
pub last_low : (scale : Scale) → last_process scale ≤ 65536
last_low Usual = omega arith
last_low Long = omega arith

pub good_wide : (scale : Scale) (c : Command) → IsGood scale c → IsGood Long c
good_wide scale (command.Fork child) h = (h.0, let z = last_low scale in omega (arith, z, h.1))
good_wide scale (command.Wait child) h = (h.0, let z = last_low scale in omega (arith, z, h.1))
good_wide scale (command.Await child) h = (h.0, let z = last_low scale in omega (arith, z, h.1))
good_wide scale (command.Creat fd name) h = h
good_wide scale (command.Open fd name mode) h = h
good_wide scale (command.Close fd) h = h
good_wide scale (command.Read fd len) h = h
good_wide scale (command.Write fd payload) h = h
good_wide scale (command.Seek fd off) h = h
good_wide scale (command.Truncate fd size) h = h
good_wide scale (command.Pipe reader writer) h = h
good_wide scale (command.Exec name args) h = h
good_wide scale (command.Rename from to) h = h
good_wide scale (command.Unlink name) h = h
good_wide scale (command.MkObj fd) h = h
good_wide scale (command.Revive fd pnode) h = h
good_wide scale (command.Freeze fd) h = h
good_wide scale (command.Disclose target source) h = h
good_wide scale (command.Tag fd attr value) h = h
good_wide scale (command.Sync fd) h = h

pub line_wide : (scale : Scale) (line : TraceLine) → IsGoodLine scale line → IsGoodLine Long line
line_wide scale line h = record { from = h.from; to = (let z = last_low scale in omega (arith, z, h.to)); command = good_wide scale line.command h.command }

-- the process that a command names is one of a trace
pub child_of-le : (c : Command) → IsGood Long c → child_of c ≤ 65536
child_of-le (command.Fork child) h = h.1
child_of-le (command.Wait child) h = h.1
child_of-le (command.Await child) h = h.1
child_of-le _ h = omega arith

pub number_in_range : (low high : ℕ) (word : List ℕ) (n : ℕ) → number_in low high word ≡ Ok n → (low ≤ n) × (n ≤ high)
unfolding number_in
number_in_range low high word n h =
    let v = value_of word in
    let parts = guard_ok (leb low v && leb v high) v n reason.Number h in
    let both = and_parts (leb low v) (leb v high) parts.0 in
    (subst (λ x. low ≤ x) parts.1 (leb-true low v both.0), subst (λ x. x ≤ high) parts.1 (leb-true v high both.1))

fd_range : (word : List ℕ) (n : ℕ) → fd_of word ≡ Ok n → n ≤ 63
fd_range word n h = (number_in_range 0 63 word n h).1

name_is : (word name : List ℕ) → name_of word ≡ Ok name → IsName name
unfolding name_of
name_is word name h =
    let parts = guard_ok (is_name word) word name reason.Length h in
    subst IsName parts.1 parts.0

mode_is : (word : List ℕ) → IsMode (mode_of word)
unfolding mode_of
mode_is word =
    elim (is_text word (codes "r")) as (λ b. IsMode (cond b mode.Read (cond (is_text word (codes "w")) mode.Write mode.Both))) [
      | true ↦ tt
      | false ↦ elim (is_text word (codes "w")) as (λ b. IsMode (cond b mode.Write mode.Both)) [ true ↦ tt | false ↦ tt ]
    ]

-- the steps of a command with one, two or three fields
one_ok : {A : Type 0} (x : Result A TraceReason) (f : A → Command) (P : Command → Type 0) (c : Command) → (x >>= (λ a. Ok (f a))) ≡ Ok c → ((a : A) → x ≡ Ok a → P (f a)) → P c
one_ok (Ok a) f P c h k = let e : f a ≡ c = cc in subst P e (k a refl)
one_ok (Err r) f P c h k = cc

two_ok : {A B : Type 0} (x : Result A TraceReason) (y : Result B TraceReason) (f : A → B → Command) (P : Command → Type 0) (c : Command) → (x >>= (λ a. y >>= (λ b. Ok (f a b)))) ≡ Ok c → ((a : A) (b : B) → x ≡ Ok a → y ≡ Ok b → P (f a b)) → P c
two_ok (Ok a) y f P c h k = one_ok y (f a) P c h (λ b. k a b refl)
two_ok (Err r) y f P c h k = cc

three_ok : {A B C : Type 0} (x : Result A TraceReason) (y : Result B TraceReason) (z : Result C TraceReason) (f : A → B → C → Command) (P : Command → Type 0) (c : Command) → (x >>= (λ a. y >>= (λ b. z >>= (λ d. Ok (f a b d))))) ≡ Ok c → ((a : A) (b : B) (d : C) → x ≡ Ok a → y ≡ Ok b → z ≡ Ok d → P (f a b d)) → P c
three_ok (Ok a) y z f P c h k = two_ok y z (f a) P c h (λ b d. k a b d refl)
three_ok (Err r) y z f P c h k = cc

given_is : (bytes : List ℕ) (p : Payload) → given bytes ≡ Ok p → IsBytes bytes → IsPayload p
given_is bytes p h fits =
    let parts = guard_ok (leb (length bytes) 4096) (Given bytes) p reason.Length h in
    subst IsPayload parts.1 (leb-true (length bytes) 4096 parts.0, fits)

decoded_ok : (r : Result (List ℕ) FromHexError) (bytes : List ℕ) → decoded r ≡ Ok bytes → r ≡ Ok bytes
decoded_ok (Ok xs) bytes h = cc
decoded_ok (Err e) bytes h = cc

pub bind_ok : {A B : Type 0} (r : Result A TraceReason) (f : A → Result B TraceReason) (y : B) → (r >>= f) ≡ Ok y → (x : A) × (r ≡ Ok x) × (f x ≡ Ok y)
bind_ok (Ok x) f y h = (x, refl, h)
bind_ok (Err e) f y h = cc

hex_is : (digits : List ℕ) (p : Payload) → hex_of digits ≡ Ok p → IsPayload p
unfolding hex_of
hex_is digits p h =
    let step = bind_ok (decoded (decode_of digits)) given p h in
    let read = decode_of-ok digits step.0 (decoded_ok (decode_of digits) step.0 step.1) in
    given_is step.0 p step.2 read.3

byte_is : (digits bytes : List ℕ) → decode_sized digits 1 ≡ Ok bytes → get_or bytes 0 0 < 256
byte_is digits bytes h =
    let size = decode_sized-ok digits 1 bytes h in
    let read = decode_of-ok digits bytes (sym (decode_sized-twice digits 1 size) ∙ h) in
    read.3 0

IsBytes-replicate : (n b : ℕ) → b < 256 → IsBytes (replicate n b)
IsBytes-replicate n b small i =
    elim (cases_lt i n) [
      | inl below ↦ rw (get_or-replicate n i b 0 below) small
      | inr past ↦ rw (get_or_past (replicate n b) i 0 (omega (arith, length-replicate n b))) (omega arith)
    ]

repeated_is : (bytes : List ℕ) (p : Payload) → repeated_of bytes ≡ Ok p → IsPayload p
unfolding repeated_of
repeated_is bytes p h =
    let digits = drop (length bytes - 2) bytes in
    let count = bind_ok (number_in 0 4096 (take (length bytes - 3) bytes)) (λ n. decoded (decode_sized digits 1) >>= λ byte. given (replicate n (get_or byte 0 0))) p h in
    let byte = bind_ok (decoded (decode_sized digits 1)) (λ b. given (replicate count.0 (get_or b 0 0))) p count.2 in
    let small = byte_is digits byte.0 (decoded_ok (decode_sized digits 1) byte.0 byte.1) in
    given_is (replicate count.0 (get_or byte.0 0 0)) p byte.2 (IsBytes-replicate count.0 (get_or byte.0 0 0) small)

-- bytes from ! to ~ are bytes
IsBytes-graphic : (bytes : List ℕ) → list_all is_name_byte bytes ≡ true → IsBytes bytes
IsBytes-graphic [] h zero = omega arith
IsBytes-graphic [] h (suc i) = omega arith
IsBytes-graphic (b ∷ bs) h zero =
    let parts = and_parts (leb 33 b && leb b 126) (list_all is_name_byte bs) h in
    omega (arith, leb-true b 126 (and_parts (leb 33 b) (leb b 126) parts.0).1)
IsBytes-graphic (b ∷ bs) h (suc i) =
    IsBytes-graphic bs (and_parts (is_name_byte b) (list_all is_name_byte bs) h).1 i

payload_cases : (P : Payload → Type 0) (is_buf is_bytes is_hex is_count fb fh fc : Bool) (b h c : Result Payload TraceReason) (p : Payload) → cond is_buf (Ok Last) (cond is_bytes b (cond is_hex h (cond is_count c (Err reason.Form)))) ≡ Ok p → cond is_buf true (cond is_bytes fb (cond is_hex fh (cond is_count fc false))) ≡ true → P Last → (fb ≡ true → b ≡ Ok p → P p) → (h ≡ Ok p → P p) → (c ≡ Ok p → P p) → P p
payload_cases P true is_bytes is_hex is_count fb fh fc b h c p e f last kb kh kc = let same : Last ≡ p = cc in subst P same last
payload_cases P false true is_hex is_count fb fh fc b h c p e f last kb kh kc = kb f e
payload_cases P false false true is_count fb fh fc b h c p e f last kb kh kc = kh e
payload_cases P false false false true fb fh fc b h c p e f last kb kh kc = kc e
payload_cases P false false false false fb fh fc b h c p e f last kb kh kc = cc

pub payload_is : (word : List ℕ) (p : Payload) → is_payload word ≡ true → payload_of word ≡ Ok p → IsPayload p
unfolding payload_of
payload_is word p form h =
    payload_cases IsPayload (is_text word (codes "buf")) (is_text (take 2 word) (codes "t:")) (is_text (take 2 word) (codes "x:")) (is_text (take 2 word) (codes "r:")) _ _ _ (given (drop 2 word)) (hex_of (drop 2 word)) (repeated_of (drop 2 word)) p h form tt
    (λ graphic e. given_is (drop 2 word) p e (IsBytes-graphic (drop 2 word) graphic))
    (λ e. hex_is (drop 2 word) p e)
    (λ e. repeated_is (drop 2 word) p e)

-- the forms of a write and of an exec
payload_form : (words : List (List ℕ)) → have_these (forms_of call.Write) words ≡ true → is_payload (word_at words 1) ≡ true
payload_form [] h = cc
payload_form (fd ∷ []) h = cc (and_parts (is_number fd) false h).1
payload_form (fd ∷ payload ∷ words) h =
    (and_parts (is_payload payload) (have_forms [] words) (and_parts (is_number fd) (have_forms (form.Payload ∷ []) (payload ∷ words)) h).1).0

args_form : (words : List (List ℕ)) → have_these (forms_of call.Exec) words ≡ true → list_all is_word (drop 1 words) ≡ true
args_form [] h = cc
args_form (name ∷ words) h = (and_parts (is_word name) (list_all is_word words) h).1

args_is : (words : List (List ℕ)) (args : List ℕ) → list_all is_word words ≡ true → args_of words ≡ Ok args → IsArgs args
unfolding args_of
args_is words args form h =
    let parts = guard_ok (is_line (join_with_byte 32 words)) (join_with_byte 32 words) args reason.Length h in
    record { line = subst IsLine parts.1 parts.0; words = (words, form, sym parts.1) }

module _ (scale : Scale) where
  pub command_is : (call : CallName) (words : List (List ℕ)) (c : Command) → have_these (forms_of call) words ≡ true → command_of scale call words ≡ Ok c → IsGood scale c
  unfolding creat_of open_of close_of read_of write_of seek_of truncate_of pipe_of fork_of exec_of wait_of await_of rename_of unlink_of mkobj_of revive_of freeze_of disclose_of tag_of sync_of
  command_is call.Start words c form h = absurd (cc)
  command_is call.Creat words c form h = two_ok (fd_of (word_at words 0)) (name_of (word_at words 1)) command.Creat (IsGood scale) c h (λ a b ea eb. (fd_range (word_at words 0) a ea, name_is (word_at words 1) b eb))
  command_is call.OpenName words c form h = two_ok (fd_of (word_at words 0)) (name_of (word_at words 1)) (λ a b. command.Open a b (mode_of (word_at words 2))) (IsGood scale) c h (λ a b ea eb. (fd_range (word_at words 0) a ea, name_is (word_at words 1) b eb, mode_is (word_at words 2)))
  command_is call.CloseFd words c form h = one_ok (fd_of (word_at words 0)) command.Close (IsGood scale) c h (λ a ea. fd_range (word_at words 0) a ea)
  command_is call.Read words c form h = two_ok (fd_of (word_at words 0)) (number_in 1 4096 (word_at words 1)) command.Read (IsGood scale) c h (λ a b ea eb. (fd_range (word_at words 0) a ea, (number_in_range 1 4096 (word_at words 1) b eb).0, (number_in_range 1 4096 (word_at words 1) b eb).1))
  command_is call.Write words c form h = two_ok (fd_of (word_at words 0)) (payload_of (word_at words 1)) command.Write (IsGood scale) c h (λ a b ea eb. (fd_range (word_at words 0) a ea, payload_is (word_at words 1) b (payload_form words form) eb))
  command_is call.Seek words c form h = two_ok (fd_of (word_at words 0)) (number_in 0 4294967295 (word_at words 1)) command.Seek (IsGood scale) c h (λ a b ea eb. (fd_range (word_at words 0) a ea, (number_in_range 0 4294967295 (word_at words 1) b eb).1))
  command_is call.Truncate words c form h = two_ok (fd_of (word_at words 0)) (number_in 0 4294967295 (word_at words 1)) command.Truncate (IsGood scale) c h (λ a b ea eb. (fd_range (word_at words 0) a ea, (number_in_range 0 4294967295 (word_at words 1) b eb).1))
  command_is call.MakePipe words c form h = two_ok (fd_of (word_at words 0)) (fd_of (word_at words 1)) command.Pipe (IsGood scale) c h (λ a b ea eb. (fd_range (word_at words 0) a ea, fd_range (word_at words 1) b eb))
  command_is call.Fork words c form h = one_ok (process_of scale (word_at words 0)) command.Fork (IsGood scale) c h (λ a ea. ((number_in_range 1 (last_process scale) (word_at words 0) a ea).0, (number_in_range 1 (last_process scale) (word_at words 0) a ea).1))
  command_is call.Exec words c form h = two_ok (name_of (word_at words 0)) (args_of (drop 1 words)) command.Exec (IsGood scale) c h (λ a b ea eb. (name_is (word_at words 0) a ea, args_is (drop 1 words) b (args_form words form) eb))
  command_is call.WaitChild words c form h = one_ok (process_of scale (word_at words 0)) command.Wait (IsGood scale) c h (λ a ea. ((number_in_range 1 (last_process scale) (word_at words 0) a ea).0, (number_in_range 1 (last_process scale) (word_at words 0) a ea).1))
  command_is call.Await words c form h = one_ok (process_of scale (word_at words 0)) command.Await (IsGood scale) c h (λ a ea. ((number_in_range 1 (last_process scale) (word_at words 0) a ea).0, (number_in_range 1 (last_process scale) (word_at words 0) a ea).1))
  command_is call.Exit words c form h = absurd (cc)
  command_is call.Rename words c form h = two_ok (name_of (word_at words 0)) (name_of (word_at words 1)) command.Rename (IsGood scale) c h (λ a b ea eb. (name_is (word_at words 0) a ea, name_is (word_at words 1) b eb))
  command_is call.Unlink words c form h = one_ok (name_of (word_at words 0)) command.Unlink (IsGood scale) c h (λ a ea. name_is (word_at words 0) a ea)
  command_is call.MakeObj words c form h = one_ok (fd_of (word_at words 0)) command.MkObj (IsGood scale) c h (λ a ea. fd_range (word_at words 0) a ea)
  command_is call.Revive words c form h = two_ok (fd_of (word_at words 0)) (number_in 1 (2 ^ 48 - 1) (word_at words 1)) command.Revive (IsGood scale) c h (λ a b ea eb. (fd_range (word_at words 0) a ea, (number_in_range 1 (2 ^ 48 - 1) (word_at words 1) b eb).0, (number_in_range 1 (2 ^ 48 - 1) (word_at words 1) b eb).1))
  command_is call.FreezeObj words c form h = one_ok (fd_of (word_at words 0)) command.Freeze (IsGood scale) c h (λ a ea. fd_range (word_at words 0) a ea)
  command_is call.Disclose words c form h = two_ok (fd_of (word_at words 0)) (fd_of (word_at words 1)) command.Disclose (IsGood scale) c h (λ a b ea eb. (fd_range (word_at words 0) a ea, fd_range (word_at words 1) b eb))
  command_is call.TagObj words c form h = three_ok (fd_of (word_at words 0)) (name_of (word_at words 1)) (name_of (word_at words 2)) command.Tag (IsGood scale) c h (λ a b d ea eb ed. (fd_range (word_at words 0) a ea, name_is (word_at words 1) b eb, name_is (word_at words 2) d ed))
  command_is call.Sync words c form h = one_ok (fd_of (word_at words 0)) command.Sync (IsGood scale) c h (λ a ea. fd_range (word_at words 0) a ea)

  -- a line of a trace that words say
  row_is : (number : ℕ) (process : List ℕ) (call : Option CallName) (words : List (List ℕ)) (line : TraceLine) → row_of scale number process call words ≡ Ok line → IsGoodLine scale line
  unfolding call_line_of
  row_is number process None words line h = cc
  row_is number process (Some call) words line h =
      elim (has_row process call words) as (λ b. has_row process call words ≡ b → cond b (call_line_of scale number process call words) (Err reason.Form) ≡ Ok line → IsGoodLine scale line) [
        | true ↦ λ form e.
            let forms = (and_parts (is_number process) (have_these (forms_of call) words) form).1 in
            let p = bind_ok (process_of scale process) (λ p. command_of scale call words >>= λ c. Ok (record { number = number; process = p; command = c })) line e in
            let c = bind_ok (command_of scale call words) (λ c. Ok (record { number = number; process = p.0; command = c })) line p.2 in
            let range = number_in_range 1 (last_process scale) process p.0 p.1 in
            let good : IsGoodLine scale (record { number = number; process = p.0; command = c.0 }) = record { from = range.0; to = range.1; command = command_is call words c.0 forms c.1 } in
            let same : record { number = number; process = p.0; command = c.0 } ≡ line = cc in
            subst (IsGoodLine scale) same good
        | false ↦ λ form e. cc
      ] refl h

  pub line_is : (number : ℕ) (words : List (List ℕ)) (line : TraceLine) → line_of scale number words ≡ Ok line → IsGoodLine scale line
  unfolding line_of
  line_is number [] line h = cc
  line_is number (process ∷ []) line h = cc
  line_is number (process ∷ call ∷ words) line h = row_is number process (call_of call) words line h

  text_line_cases : (a b c : Bool) (read : Result TraceLine TraceReason) (line : TraceLine) → cond a (Err reason.Many) (cond b (Err reason.Length) (cond c (Ok None) (read >>= λ l. Ok (Some l)))) ≡ Ok (Some line) → read ≡ Ok line
  text_line_cases true b c read line h = cc
  text_line_cases false true c read line h = cc
  text_line_cases false false true read line h = cc
  text_line_cases false false false (Ok l) line h = cc
  text_line_cases false false false (Err r) line h = cc

  pub text_line_is : (number : ℕ) (text : List ℕ) (line : TraceLine) → text_line_of scale number text ≡ Ok (Some line) → IsGoodLine scale line
  unfolding text_line_of
  text_line_is number text line h = line_is number (words_of text) line (text_line_cases _ _ _ (line_of scale number (words_of text)) line h)

-- What is written of a line that was read is read as the same line.
use Rattle.std.proofs.Common.{◌≡◌, lit<, ℕ, suc, ◌+◌, ◌-◌, ◌*◌, ◌^◌, ◌/◌, ◌%◌, ◌<◌, ◌≤◌, Bool, true, false, not, cond, eqb, leb, List, [], ◌∷◌, ◌++◌, length, get_or, codes, decimal, Some, None, Result, Ok, Err, refl, ap, ◌∙◌, arith, append-nil, length-append}
use Rattle.std.specs.List.{list_all, join_with_byte}
use Rattle.std.proofs.lemmas.Bool.{and_parts, and_from, ne_eqb, eq-eqb, agree_below_at, le-leb, leb-true, not_from_false, le-ltb}
use Rattle.std.proofs.lemmas.Bool.Decides.{nat_tests}
use Rattle.std.proofs.lemmas.List.Splits.{join_with_byte-slice_split}
use Rattle.std.proofs.lemmas.Fmt.{length-decimal-le, decimal_nonempty, first_decimal}
use Rattle.hex.specs.Hex.{IsBytes, encode_lower, encode_with, lower_digits}
use Rattle.hex.proofs.HexLemmas.{decode_of-encode_lower, length-encode_with}
use Rattle.pass_entry.specs.Texts.{is_line, is_name_byte, is_line_byte, is_name_length, IsName, IsLine}
use Rattle.pass_entry.specs.declared.objects.Mode as entry
use Rattle.pass_entry.specs.declared.objects.Mode.TheVariants as mode
use Rattle.pass_trace.specs.declared.trace.Command.{Command}
use Rattle.pass_trace.specs.declared.trace.Command.TheVariants as command
use Rattle.pass_trace.specs.declared.trace.Payload.{Payload}
use Rattle.pass_trace.specs.declared.trace.Payload.TheVariants.{Given, Last}
use Rattle.pass_trace.specs.declared.trace.TraceLine.{TraceLine}
use Rattle.pass_trace.specs.declared.trace.TraceReason.{TraceReason}
use Rattle.pass_trace.specs.declared.trace.TraceReason.TheVariants as reason
use Rattle.pass_entry.specs.Words.{call_of, call_word}
use Rattle.pass_entry.proofs.CallWords.{call_of-call_word}
use Rattle.pass_entry.specs.declared.entry.CallName.{CallName}
use Rattle.pass_entry.specs.declared.entry.CallName.TheVariants as call
use Rattle.pass_trace.specs.Calls.{forms_of}
use Rattle.pass_trace.specs.Lines.{is_skipped, words_of}
use Rattle.pass_trace.specs.Words.{is_word, is_mode, is_hex, is_payload, have_these}
use Rattle.pass_trace.specs.Commands.{◌>>=◌, number_in, process_of, fd_of, name_of, mode_of, given, decoded, hex_of, payload_of, args_of, command_of, creat_of, open_of, close_of, read_of, write_of, seek_of, truncate_of, pipe_of, fork_of, exec_of, wait_of, await_of, rename_of, unlink_of, mkobj_of, revive_of, freeze_of, disclose_of, tag_of, sync_of}
use Rattle.pass_trace.specs.Traces.{row_of, call_line_of, line_of, text_line_of}
use Rattle.pass_trace.specs.Texts.{spaced, payload_word, mode_word, command_words, line_text}
use Rattle.pass_trace.specs.declared.limits.Scale.{Scale}
use Rattle.pass_trace.specs.declared.limits.Scale.TheVariants.{Long}
use Rattle.pass_trace.specs.Limits.{last_process, most_lines}
use Rattle.pass_trace.proofs.Good.{last_low, good_wide}
use Rattle.pass_trace.specs.Ranges.{IsGood, IsGoodLine, IsPayload, IsMode, IsArgs}
use Rattle.pass_trace.proofs.Spelled.{are_graphic, words_of-behind, words_of-spaced, join_with_byte-spaced, are_printable, are_graphic-decimal, is_number-decimal, number_in-decimal}

abbrev pub call_named : Command → CallName
call_named (command.Creat a b) = call.Creat
call_named (command.Open a b d) = call.OpenName
call_named (command.Close a) = call.CloseFd
call_named (command.Read a b) = call.Read
call_named (command.Write a b) = call.Write
call_named (command.Seek a b) = call.Seek
call_named (command.Truncate a b) = call.Truncate
call_named (command.Pipe a b) = call.MakePipe
call_named (command.Fork a) = call.Fork
call_named (command.Exec a b) = call.Exec
call_named (command.Wait a) = call.WaitChild
call_named (command.Await a) = call.Await
call_named (command.Rename a b) = call.Rename
call_named (command.Unlink a) = call.Unlink
call_named (command.MkObj a) = call.MakeObj
call_named (command.Revive a b) = call.Revive
call_named (command.Freeze a) = call.FreezeObj
call_named (command.Disclose a b) = call.Disclose
call_named (command.Tag a b d) = call.TagObj
call_named (command.Sync a) = call.Sync

-- the words behind the call, as they are split again
abbrev pub words_named : Command → List (List ℕ)
words_named (command.Creat a b) = decimal a ∷ b ∷ []
words_named (command.Open a b d) = decimal a ∷ b ∷ mode_word d ∷ []
words_named (command.Close a) = decimal a ∷ []
words_named (command.Read a b) = decimal a ∷ decimal b ∷ []
words_named (command.Write a b) = decimal a ∷ payload_word b ∷ []
words_named (command.Seek a b) = decimal a ∷ decimal b ∷ []
words_named (command.Truncate a b) = decimal a ∷ decimal b ∷ []
words_named (command.Pipe a b) = decimal a ∷ decimal b ∷ []
words_named (command.Fork a) = decimal a ∷ []
words_named (command.Exec a []) = a ∷ []
words_named (command.Exec a (b ∷ bs)) = a ∷ words_of (b ∷ bs)
words_named (command.Wait a) = decimal a ∷ []
words_named (command.Await a) = decimal a ∷ []
words_named (command.Rename a b) = a ∷ b ∷ []
words_named (command.Unlink a) = a ∷ []
words_named (command.MkObj a) = decimal a ∷ []
words_named (command.Revive a b) = decimal a ∷ decimal b ∷ []
words_named (command.Freeze a) = decimal a ∷ []
words_named (command.Disclose a b) = decimal a ∷ decimal b ∷ []
words_named (command.Tag a b d) = decimal a ∷ b ∷ d ∷ []
words_named (command.Sync a) = decimal a ∷ []

graphic-call_word : (call : CallName) → are_graphic (call_word call) ≡ true
graphic-call_word call.Start = refl
graphic-call_word call.Creat = refl
graphic-call_word call.OpenName = refl
graphic-call_word call.CloseFd = refl
graphic-call_word call.Read = refl
graphic-call_word call.Write = refl
graphic-call_word call.Seek = refl
graphic-call_word call.Truncate = refl
graphic-call_word call.MakePipe = refl
graphic-call_word call.Fork = refl
graphic-call_word call.Exec = refl
graphic-call_word call.WaitChild = refl
graphic-call_word call.Await = refl
graphic-call_word call.Exit = refl
graphic-call_word call.Rename = refl
graphic-call_word call.Unlink = refl
graphic-call_word call.MakeObj = refl
graphic-call_word call.Revive = refl
graphic-call_word call.FreezeObj = refl
graphic-call_word call.Disclose = refl
graphic-call_word call.TagObj = refl
graphic-call_word call.Sync = refl

is_word-name : (name : List ℕ) → IsName name → is_word name ≡ true
is_word-name name h =
    let parts = and_parts (is_name_length name) (are_graphic name) h in
    let some = and_parts (leb 1 (length name)) (leb (length name) 255) parts.0 in
    and_from _ _ (not_from_false (eqb (length name) 0) (ne_eqb (length name) 0 (λ e. omega (arith, e, leb-true 1 (length name) some.0)))) parts.1

graphic_name : (name : List ℕ) → IsName name → are_graphic name ≡ true
graphic_name name h = (and_parts (is_name_length name) (are_graphic name) h).1

graphic_word : (word : List ℕ) → is_word word ≡ true → are_graphic word ≡ true
graphic_word word h = (and_parts (not (eqb (length word) 0)) (are_graphic word) h).1

name_of-name : (name : List ℕ) → IsName name → name_of name ≡ Ok name
unfolding name_of
name_of-name name h = ap (λ b. cond b (Ok name) (Err reason.Length)) h

-- digits in base 16
is_hex-digit : (n : ℕ) → n < 16 → is_hex (get_or lower_digits n 0) ≡ true
is_hex-digit n h = agree_below_at (λ n. is_hex (get_or lower_digits n 0)) (λ _. true) 16 n refl h

is_hex-encode : (bytes : List ℕ) → IsBytes bytes → list_all is_hex (encode_lower bytes) ≡ true
unfolding encode_with
is_hex-encode [] h = refl
is_hex-encode (b ∷ bytes) h =
    let small : b < 256 = h 0 in
    and_from _ _ (is_hex-digit (b / 16) (omega arith)) (and_from _ _ (is_hex-digit (b % 16) (omega arith)) (is_hex-encode bytes (λ i. h (suc i))))

graphic_hex : (bytes : List ℕ) → list_all is_hex bytes ≡ true → are_graphic bytes ≡ true
graphic_hex [] h = refl
graphic_hex (b ∷ bytes) h =
    let parts = and_parts (is_hex b) (list_all is_hex bytes) h in
    and_from (is_name_byte b) (are_graphic bytes) (hex_byte b parts.0) (graphic_hex bytes parts.1)
  where
    hex_byte : (b : ℕ) → is_hex b ≡ true → is_name_byte b ≡ true
    hex_byte b h = grind (arith, nat_tests)

-- the word of a payload
graphic_payload : (p : Payload) → IsPayload p → are_graphic (payload_word p) ≡ true
graphic_payload (Given bytes) h = graphic_hex (encode_lower bytes) (is_hex-encode bytes h.1)
graphic_payload Last h = refl

payload_length : (p : Payload) → IsPayload p → length (payload_word p) ≤ 8194
payload_length (Given bytes) h = let size = length-encode_with lower_digits bytes in omega (arith, size, h.0)
payload_length Last h = omega arith

is_payload-word : (p : Payload) → IsPayload p → is_payload (payload_word p) ≡ true
is_payload-word (Given bytes) h =
    let size = length-encode_with lower_digits bytes in
    let even : length (encode_lower bytes) % 2 ≡ 0 = omega arith in
    and_from _ _ (eq-eqb (length (encode_lower bytes) % 2) 0 even) (is_hex-encode bytes h.1)
is_payload-word Last h = refl

hex_of-encode : (bytes : List ℕ) → length bytes ≤ 4096 → IsBytes bytes → hex_of (encode_lower bytes) ≡ Ok (Given bytes)
unfolding hex_of
hex_of-encode bytes short fits =
    ap (λ r. decoded r >>= given) (decode_of-encode_lower bytes fits) ∙ ap (λ b. cond b (Ok (Given bytes)) (Err reason.Length)) (le-leb (length bytes) 4096 short)

payload_of-word : (p : Payload) → IsPayload p → payload_of (payload_word p) ≡ Ok p
unfolding payload_of
payload_of-word (Given bytes) h = hex_of-encode bytes h.0 h.1
payload_of-word Last h = refl

-- the word of a mode
graphic_mode : (m : entry.Mode) → are_graphic (mode_word m) ≡ true
graphic_mode mode.Read = refl
graphic_mode mode.Write = refl
graphic_mode mode.Both = refl
graphic_mode mode.App = refl

is_mode-word : (m : entry.Mode) → IsMode m → is_mode (mode_word m) ≡ true
is_mode-word mode.Read h = refl
is_mode-word mode.Write h = refl
is_mode-word mode.Both h = refl
is_mode-word mode.App h = absurd h

mode_of-word : (m : entry.Mode) → IsMode m → mode_of (mode_word m) ≡ m
unfolding mode_of
mode_of-word mode.Read h = refl
mode_of-word mode.Write h = refl
mode_of-word mode.Both h = refl
mode_of-word mode.App h = absurd h

short_mode : (m : entry.Mode) → leb (length (mode_word m)) 1024 ≡ true
short_mode mode.Read = refl
short_mode mode.Write = refl
short_mode mode.Both = refl
short_mode mode.App = refl

graphic_words : (ws : List (List ℕ)) → list_all is_word ws ≡ true → list_all are_graphic ws ≡ true
graphic_words [] h = refl
graphic_words (w ∷ ws) h =
    let parts = and_parts (is_word w) (list_all is_word ws) h in
    and_from (are_graphic w) (list_all are_graphic ws) (graphic_word w parts.0) (graphic_words ws parts.1)

-- the words of arguments
words_of-args : (b : ℕ) (bs : List ℕ) → IsArgs (b ∷ bs) → list_all is_word (words_of (b ∷ bs)) ≡ true
words_of-args b bs h = split h.words.0 h.words.1 h.words.2
  where
    split : (ws : List (List ℕ)) → list_all is_word ws ≡ true → b ∷ bs ≡ join_with_byte 32 ws → list_all is_word (words_of (b ∷ bs)) ≡ true
    split [] form e = cc
    split (w ∷ ws) form e =
        let parts = and_parts (is_word w) (list_all is_word ws) form in
        let words = words_of-spaced w ws (graphic_word w parts.0) (graphic_words ws parts.1) in
        ap (λ t. list_all is_word (words_of t)) (e ∙ join_with_byte-spaced w ws) ∙ ap (list_all is_word) words ∙ form

args_of-words : (args : List ℕ) → IsLine args → args_of (words_of args) ≡ Ok args
unfolding args_of
args_of-words args h =
    ap (λ t. cond (is_line t) (Ok t) (Err reason.Length)) (join_with_byte-slice_split 32 args) ∙ ap (λ b. cond b (Ok args) (Err reason.Length)) h

args_of-none : args_of [] ≡ Ok []
unfolding args_of
args_of-none = refl

short_decimal : (n : ℕ) → n < 2 ^ 48 → leb (length (decimal n)) 1024 ≡ true
short_decimal n h = le-leb (length (decimal n)) 1024 (omega (arith, length-decimal-le 15 n (lit< tt) (omega arith) (omega arith)))

short_name : (name : List ℕ) → IsName name → leb (length name) 1024 ≡ true
short_name name h =
    let parts = and_parts (is_name_length name) (are_graphic name) h in
    let size = and_parts (leb 1 (length name)) (leb (length name) 255) parts.0 in
    le-leb (length name) 1024 (omega (arith, leb-true (length name) 255 size.1))

short_args : (args : List ℕ) → IsLine args → leb (length args) 1024 ≡ true
short_args args h = (and_parts (leb (length args) 1024) (list_all is_line_byte args) h).0

abbrev are_short : List (List ℕ) → Bool
are_short words = list_all (λ w. leb (length w) 1024) words

length-spaced : (words : List (List ℕ)) → are_short words ≡ true → length (spaced words) ≤ 1025 * length words
length-spaced [] h = omega arith
length-spaced (w ∷ words) h =
    let parts = and_parts (leb (length w) 1024) (are_short words) h in
    let rest = length-spaced words parts.1 in
    let short = leb-true (length w) 1024 parts.0 in
    omega (arith, length-append w (spaced words), rest, short)

length-spaced_three : (a b d : List ℕ) → length (spaced (a ∷ b ∷ d ∷ [])) ≡ 3 + length a + length b + length d
length-spaced_three a b d =
    omega (arith, length-append a (32 ∷ (b ++ 32 ∷ (d ++ []))), length-append b (32 ∷ (d ++ [])), length-append d [])

-- the steps of a command whose fields are read
one_reads : {A : Type 0} (x : Result A TraceReason) (f : A → Command) (a : A) → x ≡ Ok a → (x >>= (λ a. Ok (f a))) ≡ Ok (f a)
one_reads x f a e = ap (λ x. x >>= (λ a. Ok (f a))) e

two_reads : {A B : Type 0} (x : Result A TraceReason) (y : Result B TraceReason) (f : A → B → Command) (a : A) (b : B) → x ≡ Ok a → y ≡ Ok b → (x >>= (λ a. y >>= (λ b. Ok (f a b)))) ≡ Ok (f a b)
two_reads x y f a b e g = ap (λ x. x >>= (λ a. y >>= (λ b. Ok (f a b)))) e ∙ one_reads y (f a) b g

three_reads : {A B C : Type 0} (x : Result A TraceReason) (y : Result B TraceReason) (z : Result C TraceReason) (f : A → B → C → Command) (a : A) (b : B) (d : C) → x ≡ Ok a → y ≡ Ok b → z ≡ Ok d → (x >>= (λ a. y >>= (λ b. z >>= (λ d. Ok (f a b d))))) ≡ Ok (f a b d)
three_reads x y z f a b d e g k = ap (λ x. x >>= (λ a. y >>= (λ b. z >>= (λ d. Ok (f a b d))))) e ∙ two_reads y z (f a) b d g k

fd_of-decimal : (n : ℕ) → n ≤ 63 → fd_of (decimal n) ≡ Ok n
fd_of-decimal n h = number_in-decimal 0 63 n (omega arith) (omega arith) h

-- the words of what is written
pub words_of-line : (process : List ℕ) (c : Command) → are_graphic process ≡ true → IsGood Long c → words_of (process ++ spaced (command_words c)) ≡ process ∷ call_word (call_named c) ∷ words_named c
words_of-line process (command.Creat a b) p h = words_of-spaced process (command_words (command.Creat a b)) p (and_from _ _ (are_graphic-decimal a (omega (arith, h.0))) (and_from _ _ (graphic_name b h.1) refl))
words_of-line process (command.Open a b d) p h = words_of-spaced process (command_words (command.Open a b d)) p (and_from _ _ (are_graphic-decimal a (omega (arith, h.0))) (and_from _ _ (graphic_name b h.1) (and_from _ _ (graphic_mode d) refl)))
words_of-line process (command.Close a) p h = words_of-spaced process (command_words (command.Close a)) p (and_from _ _ (are_graphic-decimal a (omega (arith, h))) refl)
words_of-line process (command.Read a b) p h = words_of-spaced process (command_words (command.Read a b)) p (and_from _ _ (are_graphic-decimal a (omega (arith, h.0))) (and_from _ _ (are_graphic-decimal b (omega (arith, h.2))) refl))
words_of-line process (command.Write a b) p h = words_of-spaced process (command_words (command.Write a b)) p (and_from _ _ (are_graphic-decimal a (omega (arith, h.0))) (and_from _ _ (graphic_payload b h.1) refl))
words_of-line process (command.Seek a b) p h = words_of-spaced process (command_words (command.Seek a b)) p (and_from _ _ (are_graphic-decimal a (omega (arith, h.0))) (and_from _ _ (are_graphic-decimal b (omega (arith, h.1))) refl))
words_of-line process (command.Truncate a b) p h = words_of-spaced process (command_words (command.Truncate a b)) p (and_from _ _ (are_graphic-decimal a (omega (arith, h.0))) (and_from _ _ (are_graphic-decimal b (omega (arith, h.1))) refl))
words_of-line process (command.Pipe a b) p h = words_of-spaced process (command_words (command.Pipe a b)) p (and_from _ _ (are_graphic-decimal a (omega (arith, h.0))) (and_from _ _ (are_graphic-decimal b (omega (arith, h.1))) refl))
words_of-line process (command.Fork a) p h = words_of-spaced process (command_words (command.Fork a)) p (and_from _ _ (are_graphic-decimal a (omega (arith, h.1))) refl)
words_of-line process (command.Exec a []) p h =
    words_of-spaced process (codes "exec" ∷ a ∷ []) p (and_from _ _ (graphic_name a h.0) refl)
words_of-line process (command.Exec a (b ∷ bs)) p h =
    words_of-behind process (codes "exec" ++ 32 ∷ (a ++ 32 ∷ ((b ∷ bs) ++ []))) p
    ∙ ap (λ ws. process ∷ ws) (
    words_of-behind (codes "exec") (a ++ 32 ∷ ((b ∷ bs) ++ [])) refl
    ∙ ap (λ ws. codes "exec" ∷ ws) (words_of-behind a ((b ∷ bs) ++ []) (graphic_name a h.0) ∙ ap (λ t. a ∷ words_of t) (append-nil (b ∷ bs)))
    )
words_of-line process (command.Wait a) p h = words_of-spaced process (command_words (command.Wait a)) p (and_from _ _ (are_graphic-decimal a (omega (arith, h.1))) refl)
words_of-line process (command.Await a) p h = words_of-spaced process (command_words (command.Await a)) p (and_from _ _ (are_graphic-decimal a (omega (arith, h.1))) refl)
words_of-line process (command.Rename a b) p h = words_of-spaced process (command_words (command.Rename a b)) p (and_from _ _ (graphic_name a h.0) (and_from _ _ (graphic_name b h.1) refl))
words_of-line process (command.Unlink a) p h = words_of-spaced process (command_words (command.Unlink a)) p (and_from _ _ (graphic_name a h) refl)
words_of-line process (command.MkObj a) p h = words_of-spaced process (command_words (command.MkObj a)) p (and_from _ _ (are_graphic-decimal a (omega (arith, h))) refl)
words_of-line process (command.Revive a b) p h = words_of-spaced process (command_words (command.Revive a b)) p (and_from _ _ (are_graphic-decimal a (omega (arith, h.0))) (and_from _ _ (are_graphic-decimal b (omega (arith, h.2))) refl))
words_of-line process (command.Freeze a) p h = words_of-spaced process (command_words (command.Freeze a)) p (and_from _ _ (are_graphic-decimal a (omega (arith, h))) refl)
words_of-line process (command.Disclose a b) p h = words_of-spaced process (command_words (command.Disclose a b)) p (and_from _ _ (are_graphic-decimal a (omega (arith, h.0))) (and_from _ _ (are_graphic-decimal b (omega (arith, h.1))) refl))
words_of-line process (command.Tag a b d) p h = words_of-spaced process (command_words (command.Tag a b d)) p (and_from _ _ (are_graphic-decimal a (omega (arith, h.0))) (and_from _ _ (graphic_name b h.1) (and_from _ _ (graphic_name d h.2) refl)))
words_of-line process (command.Sync a) p h = words_of-spaced process (command_words (command.Sync a)) p (and_from _ _ (are_graphic-decimal a (omega (arith, h))) refl)

pub have_forms-named : (c : Command) → IsGood Long c → have_these (forms_of (call_named c)) (words_named c) ≡ true
have_forms-named (command.Creat a b) h = (and_from _ _ (is_number-decimal a (omega (arith, h.0))) (and_from _ _ (is_word-name b h.1) refl))
have_forms-named (command.Open a b d) h = (and_from _ _ (is_number-decimal a (omega (arith, h.0))) (and_from _ _ (is_word-name b h.1) (and_from _ _ (is_mode-word d h.2) refl)))
have_forms-named (command.Close a) h = (and_from _ _ (is_number-decimal a (omega (arith, h))) refl)
have_forms-named (command.Read a b) h = (and_from _ _ (is_number-decimal a (omega (arith, h.0))) (and_from _ _ (is_number-decimal b (omega (arith, h.2))) refl))
have_forms-named (command.Write a b) h = (and_from _ _ (is_number-decimal a (omega (arith, h.0))) (and_from _ _ (is_payload-word b h.1) refl))
have_forms-named (command.Seek a b) h = (and_from _ _ (is_number-decimal a (omega (arith, h.0))) (and_from _ _ (is_number-decimal b (omega (arith, h.1))) refl))
have_forms-named (command.Truncate a b) h = (and_from _ _ (is_number-decimal a (omega (arith, h.0))) (and_from _ _ (is_number-decimal b (omega (arith, h.1))) refl))
have_forms-named (command.Pipe a b) h = (and_from _ _ (is_number-decimal a (omega (arith, h.0))) (and_from _ _ (is_number-decimal b (omega (arith, h.1))) refl))
have_forms-named (command.Fork a) h = (and_from _ _ (is_number-decimal a (omega (arith, h.1))) refl)
have_forms-named (command.Exec a []) h = and_from _ _ (is_word-name a h.0) refl
have_forms-named (command.Exec a (b ∷ bs)) h = and_from _ _ (is_word-name a h.0) (words_of-args b bs h.1)
have_forms-named (command.Wait a) h = (and_from _ _ (is_number-decimal a (omega (arith, h.1))) refl)
have_forms-named (command.Await a) h = (and_from _ _ (is_number-decimal a (omega (arith, h.1))) refl)
have_forms-named (command.Rename a b) h = (and_from _ _ (is_word-name a h.0) (and_from _ _ (is_word-name b h.1) refl))
have_forms-named (command.Unlink a) h = (and_from _ _ (is_word-name a h) refl)
have_forms-named (command.MkObj a) h = (and_from _ _ (is_number-decimal a (omega (arith, h))) refl)
have_forms-named (command.Revive a b) h = (and_from _ _ (is_number-decimal a (omega (arith, h.0))) (and_from _ _ (is_number-decimal b (omega (arith, h.2))) refl))
have_forms-named (command.Freeze a) h = (and_from _ _ (is_number-decimal a (omega (arith, h))) refl)
have_forms-named (command.Disclose a b) h = (and_from _ _ (is_number-decimal a (omega (arith, h.0))) (and_from _ _ (is_number-decimal b (omega (arith, h.1))) refl))
have_forms-named (command.Tag a b d) h = (and_from _ _ (is_number-decimal a (omega (arith, h.0))) (and_from _ _ (is_word-name b h.1) (and_from _ _ (is_word-name d h.2) refl)))
have_forms-named (command.Sync a) h = (and_from _ _ (is_number-decimal a (omega (arith, h))) refl)

module _ (scale : Scale) where
  pub command_of-named : (c : Command) → IsGood scale c → command_of scale (call_named c) (words_named c) ≡ Ok c
  unfolding creat_of open_of close_of read_of write_of seek_of truncate_of pipe_of fork_of exec_of wait_of await_of rename_of unlink_of mkobj_of revive_of freeze_of disclose_of tag_of sync_of
  command_of-named (command.Creat a b) h = two_reads (fd_of (decimal a)) (name_of b) command.Creat a b (fd_of-decimal a h.0) (name_of-name b h.1)
  command_of-named (command.Open a b d) h =
      two_reads (fd_of (decimal a)) (name_of b) (λ x y. command.Open x y (mode_of (mode_word d))) a b (fd_of-decimal a h.0) (name_of-name b h.1) ∙ ap (λ m. Ok (command.Open a b m)) (mode_of-word d h.2)
  command_of-named (command.Close a) h = one_reads (fd_of (decimal a)) command.Close a (fd_of-decimal a h)
  command_of-named (command.Read a b) h = two_reads (fd_of (decimal a)) (number_in 1 4096 (decimal b)) command.Read a b (fd_of-decimal a h.0) (number_in-decimal 1 4096 b (omega (arith, h.2)) h.1 h.2)
  command_of-named (command.Write a b) h = two_reads (fd_of (decimal a)) (payload_of (payload_word b)) command.Write a b (fd_of-decimal a h.0) (payload_of-word b h.1)
  command_of-named (command.Seek a b) h = two_reads (fd_of (decimal a)) (number_in 0 4294967295 (decimal b)) command.Seek a b (fd_of-decimal a h.0) (number_in-decimal 0 4294967295 b (omega (arith, h.1)) (omega arith) h.1)
  command_of-named (command.Truncate a b) h = two_reads (fd_of (decimal a)) (number_in 0 4294967295 (decimal b)) command.Truncate a b (fd_of-decimal a h.0) (number_in-decimal 0 4294967295 b (omega (arith, h.1)) (omega arith) h.1)
  command_of-named (command.Pipe a b) h = two_reads (fd_of (decimal a)) (fd_of (decimal b)) command.Pipe a b (fd_of-decimal a h.0) (fd_of-decimal b h.1)
  command_of-named (command.Fork a) h = one_reads (process_of scale (decimal a)) command.Fork a (number_in-decimal 1 (last_process scale) a (omega (arith, h.1, last_low scale)) h.0 h.1)
  command_of-named (command.Exec a []) h = two_reads (name_of a) (args_of []) command.Exec a [] (name_of-name a h.0) args_of-none
  command_of-named (command.Exec a (b ∷ bs)) h = two_reads (name_of a) (args_of (words_of (b ∷ bs))) command.Exec a (b ∷ bs) (name_of-name a h.0) (args_of-words (b ∷ bs) h.1.line)
  command_of-named (command.Wait a) h = one_reads (process_of scale (decimal a)) command.Wait a (number_in-decimal 1 (last_process scale) a (omega (arith, h.1, last_low scale)) h.0 h.1)
  command_of-named (command.Await a) h = one_reads (process_of scale (decimal a)) command.Await a (number_in-decimal 1 (last_process scale) a (omega (arith, h.1, last_low scale)) h.0 h.1)
  command_of-named (command.Rename a b) h = two_reads (name_of a) (name_of b) command.Rename a b (name_of-name a h.0) (name_of-name b h.1)
  command_of-named (command.Unlink a) h = one_reads (name_of a) command.Unlink a (name_of-name a h)
  command_of-named (command.MkObj a) h = one_reads (fd_of (decimal a)) command.MkObj a (fd_of-decimal a h)
  command_of-named (command.Revive a b) h = two_reads (fd_of (decimal a)) (number_in 1 (2 ^ 48 - 1) (decimal b)) command.Revive a b (fd_of-decimal a h.0) (number_in-decimal 1 (2 ^ 48 - 1) b (omega (arith, h.2)) h.1 h.2)
  command_of-named (command.Freeze a) h = one_reads (fd_of (decimal a)) command.Freeze a (fd_of-decimal a h)
  command_of-named (command.Disclose a b) h = two_reads (fd_of (decimal a)) (fd_of (decimal b)) command.Disclose a b (fd_of-decimal a h.0) (fd_of-decimal b h.1)
  command_of-named (command.Tag a b d) h = three_reads (fd_of (decimal a)) (name_of b) (name_of d) command.Tag a b d (fd_of-decimal a h.0) (name_of-name b h.1) (name_of-name d h.2)
  command_of-named (command.Sync a) h = one_reads (fd_of (decimal a)) command.Sync a (fd_of-decimal a h)

length-command : (c : Command) → IsGood Long c → length (spaced (command_words c)) ≤ 8300
length-command (command.Creat a b) h = omega (arith, length-spaced (command_words (command.Creat a b)) (and_from _ _ (short_decimal a (omega (arith, h.0))) (and_from _ _ (short_name b h.1) refl)))
length-command (command.Open a b d) h = omega (arith, length-spaced (command_words (command.Open a b d)) (and_from _ _ (short_decimal a (omega (arith, h.0))) (and_from _ _ (short_name b h.1) (and_from _ _ (short_mode d) refl))))
length-command (command.Close a) h = omega (arith, length-spaced (command_words (command.Close a)) (and_from _ _ (short_decimal a (omega (arith, h))) refl))
length-command (command.Read a b) h = omega (arith, length-spaced (command_words (command.Read a b)) (and_from _ _ (short_decimal a (omega (arith, h.0))) (and_from _ _ (short_decimal b (omega (arith, h.2))) refl)))
length-command (command.Write a b) h =
    let number = length-decimal-le 2 a (lit< tt) (omega (arith, h.0)) (omega (arith, h.0)) in
    omega (arith, length-spaced_three (codes "write") (decimal a) (payload_word b), number, payload_length b h.1)
length-command (command.Seek a b) h = omega (arith, length-spaced (command_words (command.Seek a b)) (and_from _ _ (short_decimal a (omega (arith, h.0))) (and_from _ _ (short_decimal b (omega (arith, h.1))) refl)))
length-command (command.Truncate a b) h = omega (arith, length-spaced (command_words (command.Truncate a b)) (and_from _ _ (short_decimal a (omega (arith, h.0))) (and_from _ _ (short_decimal b (omega (arith, h.1))) refl)))
length-command (command.Pipe a b) h = omega (arith, length-spaced (command_words (command.Pipe a b)) (and_from _ _ (short_decimal a (omega (arith, h.0))) (and_from _ _ (short_decimal b (omega (arith, h.1))) refl)))
length-command (command.Fork a) h = omega (arith, length-spaced (command_words (command.Fork a)) (and_from _ _ (short_decimal a (omega (arith, h.1))) refl))
length-command (command.Exec a []) h = omega (arith, length-spaced (codes "exec" ∷ a ∷ []) (and_from _ _ (short_name a h.0) refl))
length-command (command.Exec a (b ∷ bs)) h =
    omega (arith, length-spaced (codes "exec" ∷ a ∷ (b ∷ bs) ∷ []) (and_from _ _ (short_name a h.0) (and_from _ _ (short_args (b ∷ bs) h.1.line) refl)))
length-command (command.Wait a) h = omega (arith, length-spaced (command_words (command.Wait a)) (and_from _ _ (short_decimal a (omega (arith, h.1))) refl))
length-command (command.Await a) h = omega (arith, length-spaced (command_words (command.Await a)) (and_from _ _ (short_decimal a (omega (arith, h.1))) refl))
length-command (command.Rename a b) h = omega (arith, length-spaced (command_words (command.Rename a b)) (and_from _ _ (short_name a h.0) (and_from _ _ (short_name b h.1) refl)))
length-command (command.Unlink a) h = omega (arith, length-spaced (command_words (command.Unlink a)) (and_from _ _ (short_name a h) refl))
length-command (command.MkObj a) h = omega (arith, length-spaced (command_words (command.MkObj a)) (and_from _ _ (short_decimal a (omega (arith, h))) refl))
length-command (command.Revive a b) h = omega (arith, length-spaced (command_words (command.Revive a b)) (and_from _ _ (short_decimal a (omega (arith, h.0))) (and_from _ _ (short_decimal b (omega (arith, h.2))) refl)))
length-command (command.Freeze a) h = omega (arith, length-spaced (command_words (command.Freeze a)) (and_from _ _ (short_decimal a (omega (arith, h))) refl))
length-command (command.Disclose a b) h = omega (arith, length-spaced (command_words (command.Disclose a b)) (and_from _ _ (short_decimal a (omega (arith, h.0))) (and_from _ _ (short_decimal b (omega (arith, h.1))) refl)))
length-command (command.Tag a b d) h = omega (arith, length-spaced (command_words (command.Tag a b d)) (and_from _ _ (short_decimal a (omega (arith, h.0))) (and_from _ _ (short_name b h.1) (and_from _ _ (short_name d h.2) refl))))
length-command (command.Sync a) h = omega (arith, length-spaced (command_words (command.Sync a)) (and_from _ _ (short_decimal a (omega (arith, h))) refl))

-- the line of a number of the text, for the same process and command
abbrev pub renumbered : ℕ → TraceLine → TraceLine
renumbered number line = record { number = number; process = line.process; command = line.command }

module _ (scale : Scale) where
  row_of-named : (number : ℕ) (line : TraceLine) → IsGoodLine scale line → row_of scale number (decimal line.process) (call_of (call_word (call_named line.command))) (words_named line.command) ≡ Ok (renumbered number line)
  unfolding call_line_of
  row_of-named number line h =
      let call = call_named line.command in
      let words = words_named line.command in
      let process = number_in-decimal 1 (last_process scale) line.process (omega (arith, h.to, last_low scale)) h.from h.to in
      let row = and_from _ _ (is_number-decimal line.process (omega (arith, h.to, last_low scale))) (have_forms-named line.command (good_wide scale line.command h.command)) in
      ap (λ o. row_of scale number (decimal line.process) o words) (call_of-call_word call)
      ∙ ap (λ b. cond b (call_line_of scale number (decimal line.process) call words) (Err reason.Form)) row
      ∙ ap (λ r. r >>= λ p. command_of scale call words >>= λ c. Ok (record { number = number; process = p; command = c })) process
      ∙ ap (λ r. r >>= λ c. Ok (record { number = number; process = line.process; command = c })) (command_of-named scale line.command h.command)

  line_of-named : (number : ℕ) (line : TraceLine) → IsGoodLine scale line → line_of scale number (decimal line.process ∷ call_word (call_named line.command) ∷ words_named line.command) ≡ Ok (renumbered number line)
  unfolding line_of
  line_of-named number line h = row_of-named number line h

  pub line_of-text : (number : ℕ) (line : TraceLine) → IsGoodLine scale line → line_of scale number (words_of (line_text line)) ≡ Ok (renumbered number line)
  line_of-text number line h =
      ap (line_of scale number) (words_of-line (decimal line.process) line.command (are_graphic-decimal line.process (omega (arith, h.to, last_low scale))) (good_wide scale line.command h.command)) ∙ line_of-named number line h

  is_skipped-number : (front rest : List ℕ) → 0 < length front → 48 < get_or front 0 0 → is_skipped (front ++ rest) ≡ false
  is_skipped-number [] rest some digit = absurd (omega arith)
  is_skipped-number (d ∷ front) rest some digit = ne_eqb d 35 (λ e. omega (arith, e, digit))

  text_line_steps : (a b c : Bool) (read : Result TraceLine TraceReason) (line : TraceLine) → a ≡ false → b ≡ false → c ≡ false → read ≡ Ok line → cond a (Err reason.Many) (cond b (Err reason.Length) (cond c (Ok None) (read >>= λ l. Ok (Some l)))) ≡ Ok (Some line)
  text_line_steps a b c read line ea eb ec er =
      ap (λ a. cond a (Err reason.Many) (cond b (Err reason.Length) (cond c (Ok None) (read >>= λ l. Ok (Some l))))) ea
      ∙ ap (λ b. cond b (Err reason.Length) (cond c (Ok None) (read >>= λ l. Ok (Some l)))) eb
      ∙ ap (λ c. cond c (Ok None) (read >>= λ l. Ok (Some l))) ec
      ∙ ap (λ r. r >>= λ l. Ok (Some l)) er

  pub text_line_of-text : (number : ℕ) (line : TraceLine) → number ≤ most_lines scale → IsGoodLine scale line → text_line_of scale number (line_text line) ≡ Ok (Some (renumbered number line))
  unfolding text_line_of
  text_line_of-text number line within h =
      let small : line.process < 2 ^ 64 = omega (arith, h.to, last_low scale) in
      let digits = length-decimal-le 15 line.process (lit< tt) (omega (arith, h.to, last_low scale)) small in
      let size = length-append (decimal line.process) (spaced (command_words line.command)) in
      let rest = length-command line.command (good_wide scale line.command h.command) in
      text_line_steps _ _ _ (line_of scale number (words_of (line_text line))) (renumbered number line)
      (le-ltb (most_lines scale) number within)
      (le-ltb 8400 (length (line_text line)) (omega (arith, digits, size, rest)))
      (is_skipped-number (decimal line.process) (spaced (command_words line.command)) (decimal_nonempty line.process small) (first_decimal line.process h.from small))
      (line_of-text number line h)

graphic_named : (c : Command) → IsGood Long c → list_all are_graphic (words_named c) ≡ true
graphic_named (command.Creat a b) h = (and_from _ _ (are_graphic-decimal a (omega (arith, h.0))) (and_from _ _ (graphic_name b h.1) refl))
graphic_named (command.Open a b d) h = (and_from _ _ (are_graphic-decimal a (omega (arith, h.0))) (and_from _ _ (graphic_name b h.1) (and_from _ _ (graphic_mode d) refl)))
graphic_named (command.Close a) h = (and_from _ _ (are_graphic-decimal a (omega (arith, h))) refl)
graphic_named (command.Read a b) h = (and_from _ _ (are_graphic-decimal a (omega (arith, h.0))) (and_from _ _ (are_graphic-decimal b (omega (arith, h.2))) refl))
graphic_named (command.Write a b) h = (and_from _ _ (are_graphic-decimal a (omega (arith, h.0))) (and_from _ _ (graphic_payload b h.1) refl))
graphic_named (command.Seek a b) h = (and_from _ _ (are_graphic-decimal a (omega (arith, h.0))) (and_from _ _ (are_graphic-decimal b (omega (arith, h.1))) refl))
graphic_named (command.Truncate a b) h = (and_from _ _ (are_graphic-decimal a (omega (arith, h.0))) (and_from _ _ (are_graphic-decimal b (omega (arith, h.1))) refl))
graphic_named (command.Pipe a b) h = (and_from _ _ (are_graphic-decimal a (omega (arith, h.0))) (and_from _ _ (are_graphic-decimal b (omega (arith, h.1))) refl))
graphic_named (command.Fork a) h = (and_from _ _ (are_graphic-decimal a (omega (arith, h.1))) refl)
graphic_named (command.Exec a []) h = and_from _ _ (graphic_name a h.0) refl
graphic_named (command.Exec a (b ∷ bs)) h = and_from _ _ (graphic_name a h.0) (graphic_words (words_of (b ∷ bs)) (words_of-args b bs h.1))
graphic_named (command.Wait a) h = (and_from _ _ (are_graphic-decimal a (omega (arith, h.1))) refl)
graphic_named (command.Await a) h = (and_from _ _ (are_graphic-decimal a (omega (arith, h.1))) refl)
graphic_named (command.Rename a b) h = (and_from _ _ (graphic_name a h.0) (and_from _ _ (graphic_name b h.1) refl))
graphic_named (command.Unlink a) h = (and_from _ _ (graphic_name a h) refl)
graphic_named (command.MkObj a) h = (and_from _ _ (are_graphic-decimal a (omega (arith, h))) refl)
graphic_named (command.Revive a b) h = (and_from _ _ (are_graphic-decimal a (omega (arith, h.0))) (and_from _ _ (are_graphic-decimal b (omega (arith, h.2))) refl))
graphic_named (command.Freeze a) h = (and_from _ _ (are_graphic-decimal a (omega (arith, h))) refl)
graphic_named (command.Disclose a b) h = (and_from _ _ (are_graphic-decimal a (omega (arith, h.0))) (and_from _ _ (are_graphic-decimal b (omega (arith, h.1))) refl))
graphic_named (command.Tag a b d) h = (and_from _ _ (are_graphic-decimal a (omega (arith, h.0))) (and_from _ _ (graphic_name b h.1) (and_from _ _ (graphic_name d h.2) refl)))
graphic_named (command.Sync a) h = (and_from _ _ (are_graphic-decimal a (omega (arith, h))) refl)

pub is_printable-text : (line : TraceLine) → IsGoodLine Long line → list_all is_line_byte (line_text line) ≡ true
is_printable-text line h =
    let graphic = are_graphic-decimal line.process (omega (arith, h.to)) in
    let words = words_of-line (decimal line.process) line.command graphic h.command in
    are_printable (line_text line) (ap (list_all are_graphic) words ∙ and_from _ _ graphic (and_from _ _ (graphic-call_word (call_named line.command)) (graphic_named line.command h.command)))

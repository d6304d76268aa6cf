-- No file is longer than the limit.
use Rattle.std.proofs.Common.{◌≡◌, ◌≤◌, ◌<◌, ◌+◌, ◌-◌, ◌*◌, ℕ, suc, List, [], ◌∷◌, ◌++◌, length, take, refl, ap, sym, ◌∙◌, subst, arith, Bool, true, false, ◌&&◌, not, ◌==◌, cond, length-append}
use Rattle.std.specs.Prelude.{nat_lt, drop, replicate, find, slice_get, Option, Some}
use Rattle.std.specs.Option.{option_map_or}
use Rattle.pass_plain.specs.declared.start.StartFile.{StartFile}
use Rattle.std.proofs.lemmas.List.{length-take, length-drop, length-replicate}
use Rattle.pass_entry.specs.declared.entry.Entry.{Entry}
use Rattle.pass_entry.specs.declared.entry.Act.{Act}
use Rattle.pass_entry.specs.declared.entry.Act.TheVariants as act
use Rattle.pass_plain.specs.Histories.{is_fault, call_entries}
use Rattle.pass_plain.specs.Sessions.{Session, opening_bytes}
use Rattle.pass_plain.specs.Sound.{IsSound, IsSoundFile}
use Rattle.pass_plain.specs.Files.{file_after, file_act, written, resized, extended}
use Rattle.pass_plain.specs.Processes.{Process, file_limit}
use Rattle.pass_plain.specs.Calls.{Made, Step}
use Rattle.pass_plain.specs.Legal.{IsLegal, before_call}
use Rattle.pass_plain.specs.Records.{is_written}
use Rattle.pass_plain.proofs.Lists.{below_is, true_left, true_right}
use Rattle.pass_plain.proofs.Replays.{state_after-append}
use Rattle.pass_plain.proofs.Rows.{Row}
use Rattle.pass_plain.proofs.Calling.{legal_induction, row}

pub length-extended : (content : List ℕ) (size : ℕ) → length (extended content size) ≡ length content + (size - length content)
length-extended content size = length-append content (replicate (size - length content) 0) ∙ ap (λ n. length content + n) (length-replicate (size - length content) 0)

pub length-resized : (content : List ℕ) (size : ℕ) → length (resized content size) ≡ size
length-resized content size = omega (arith, length-take size (extended content size), length-extended content size)

-- a write makes no file shorter
pub no_shorter : (old : List ℕ) (at : ℕ) (bytes : List ℕ) → length old ≤ length (written old at bytes)
no_shorter old at [] = omega arith
no_shorter old at (x ∷ xs) =
    omega (
      arith,
      length-append (take at (extended old at) ++ x ∷ xs) (drop (at + length (x ∷ xs)) old),
      length-append (take at (extended old at)) (x ∷ xs),
      length-take at (extended old at),
      length-extended old at,
      length-drop (at + length (x ∷ xs)) old,
    )

-- a block of which a byte was written begins within the file
pub written_begins : (a : Act) (old : List ℕ) (b : ℕ) → is_written a b ≡ true → b * 4096 < length (file_act old a)
written_begins (act.Put out at bytes) old b is =
    let parts = true_left (nat_lt 0 (length bytes) && nat_lt (b * 4096) (at + length bytes)) (nat_lt at ((b + 1) * 4096)) is in
    let some : 0 < length bytes = below_is 0 (length bytes) (true_left (nat_lt 0 (length bytes)) (nat_lt (b * 4096) (at + length bytes)) parts) in
    let below : b * 4096 < at + length bytes = below_is (b * 4096) (at + length bytes) (true_right (nat_lt 0 (length bytes)) (nat_lt (b * 4096) (at + length bytes)) parts) in
    omega (arith, below, long old at bytes some)
  where
    long : (old : List ℕ) (at : ℕ) (bytes : List ℕ) → 0 < length bytes → at + length bytes ≤ length (written old at bytes)
    long old at [] some = absurd (omega (arith, some))
    long old at (x ∷ xs) some =
        omega (
          arith,
          length-append (take at (extended old at) ++ x ∷ xs) (drop (at + length (x ∷ xs)) old),
          length-append (take at (extended old at)) (x ∷ xs),
          length-take at (extended old at),
          length-extended old at,
        )
written_begins a old b is = absurd (cc)

pub written_fits : (content : List ℕ) (at : ℕ) (bytes : List ℕ) (most : ℕ) → length content ≤ most → at + length bytes ≤ most → length (written content at bytes) ≤ most
written_fits content at [] most fits more = fits
written_fits content at (b ∷ bytes) most fits more =
    let front = length-take at (extended content at) in
    let wide = length-extended content at in
    let tail = length-drop (at + length (b ∷ bytes)) content in
    let all : length (written content at (b ∷ bytes)) ≡ length (take at (extended content at) ++ (b ∷ bytes)) + length (drop (at + length (b ∷ bytes)) content) =
    length-append (take at (extended content at) ++ (b ∷ bytes)) (drop (at + length (b ∷ bytes)) content) in
    let rest = length-append (take at (extended content at)) (b ∷ bytes) in
    omega (arith, front, wide, tail, all, rest)

pub resized_fits : (content : List ℕ) (size most : ℕ) → size ≤ most → length (resized content size) ≤ most
resized_fits content size most fits = let t = length-take size (extended content size) in omega (arith, t)

act_fits : (who : ℕ) (p : Process) (made : Made) (steps : List Step) (k what : ℕ) (a : Act) → Row who p made steps k what a → (content : List ℕ) → length content ≤ file_limit → length (file_act content a) ≤ file_limit
act_fits who p made steps k what (act.Put out at bytes) r content fits = written_fits content at bytes file_limit fits r.2
act_fits who p made steps k what (act.Cut out size) r content fits = resized_fits content size file_limit r.2
act_fits who p made steps k what _ r content fits = fits

fits_if : (b : Bool) (xs ys : List ℕ) → length xs ≤ file_limit → length ys ≤ file_limit → length (cond b xs ys) ≤ file_limit
fits_if true xs ys a b = a
fits_if false xs ys a b = b

found_fits : (b : Bool) (f : StartFile) (rest : Option StartFile) → IsSoundFile f
    → length (option_map_or (λ (f : StartFile). f.bytes.items) rest []) ≤ file_limit
    → length (option_map_or (λ (f : StartFile). f.bytes.items) (cond b (Some f) rest) []) ≤ file_limit
found_fits true f rest sound later = let a = sound.sized in let b = sound.limited in omega (arith, a, b)
found_fits false f rest sound later = later

first_fits : (files : List StartFile) (object : ℕ) → ((i : ℕ) (file : StartFile) → slice_get files i ≡ Some file → IsSoundFile file)
    → length (option_map_or (λ (f : StartFile). f.bytes.items) (find (λ f. f.node.pnode == object) files) []) ≤ file_limit
first_fits [] object sound = omega arith
first_fits (f ∷ files) object sound = found_fits (f.node.pnode == object) f _ (sound 0 f refl) (first_fits files object (λ i file at. sound (suc i) file at))

-- no file of the opening is longer than the limit
opening_fits : (session : Session) → IsSound session → (object : ℕ) → length (opening_bytes session.start object) ≤ file_limit
opening_fits session sound object = first_fits session.start.files.items object sound.files

pub files_fit : (session : Session) → IsSound session → (history : List Entry) → IsLegal session history → (object : ℕ) → length (file_after session history object) ≤ file_limit
files_fit session sound = legal_induction session (λ h. (object : ℕ) → length (file_after session h object) ≤ file_limit) (opening_fits session sound) (λ history e legal fits next object.
    subst (λ (bytes : List ℕ). length bytes ≤ file_limit) (sym (state_after-append (λ past content e. file_act content e.act) object (opening_bytes session.start object) history e))
    (fits_if (e.what == object && not (is_fault e.reply)) (file_act (file_after session history object) e.act) (file_after session history object)
    (act_fits e.who (before_call history e.who e.number) (call_entries history e.who e.number) _ _ e.what e.act (row session history e legal next) (file_after session history object) (fits object))
    (fits object)))

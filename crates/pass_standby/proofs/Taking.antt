-- All bytes of a log, taken as a stream.
use Rattle.std.proofs.Common.{◌≡◌, ◌≢◌, ◌⊎◌, ℕ, zero, suc, ◌+◌, ◌-◌, ◌<◌, ◌≤◌, Bool, true, false, List, [], ◌∷◌, ◌++◌, length, take, drop, Result, Ok, Err, inl, inr, refl, sym, ◌∙◌, ap, subst, arith, append_assoc, length-append, length-drop, length-take, take-append-drop}
use Rattle.std.specs.Prelude.{Option, Some, None, nat_le, ◌&&◌}
use Rattle.std.specs.Option.{option_map_or}
use Rattle.std.specs.Int.{w32, from_be_bytes}
use Rattle.std.specs.List.{All}
use Rattle.std.proofs.lemmas.Bool.{cases_eq, cases_lt, le-leb}
use Rattle.std.proofs.lemmas.List.{append-nil, take-take, drop-take, take_all}
use Rattle.pass_entry.specs.declared.record.Record.{Record}
use Rattle.pass_entry.specs.declared.record.FlawReason.{FlawReason}
use Rattle.pass_log.specs.declared.fault.LogFault.{LogFault}
use Rattle.pass_log.specs.Frames.{Frames, before, number, scan, frames_of, longest}
use Rattle.pass_log.specs.Records.{Held, joined, records_in, frame_more, records_of, held, image_in, image_of}
use Rattle.pass_log.proofs.Crash.{image_short, image_long, image_scan, found, broken}
use Rattle.pass_log.proofs.Scan.{scan_skip, scan_shut, scan_open, scan_broken}
use Rattle.pass_log.proofs.Split.{Rest, before_ok}
use Rattle.pass_plain.proofs.Flaws.{logged_before}
use Rattle.pass_plain.specs.WellLogged.{first_flaw_after, IsWellLogged}
use Rattle.pass_standby.specs.Streams.{head, longest_frame, furthest, is_fit, unflawed, batch_in, Told, followed, told_from}
use Rattle.pass_standby.specs.Laws.{IsFitFrame, AllLaw}
use Rattle.pass_standby.proofs.Batching.{flaw-append}
use Rattle.pass_standby.proofs.Coming.{followed-append}
use Rattle.pass_standby.proofs.Feeding.{take_behind}
use Rattle.pass_standby.proofs.Framing.{frame_taken}

-- nothing has begun behind these records
abbrev at_rest : List Record → ℕ → Told
at_rest list n = record { list = list; at = n; begun = []; bad = false }

-- what comes before records that were found
record Behind (batch : List Record) (r : Result (List Record) LogFault) (all : List Record) : Type 0 where
  more : List Record
  is : r ≡ Ok more
  parts : all ≡ batch ++ more

joined_ok : (batch : List Record) (r : Result (List Record) LogFault) (all : List Record) → joined batch r ≡ Ok all → Behind batch r all
joined_ok batch (Ok more) all h = record { more = more; is = refl; parts = sym (ap list_of h) }
  where
    list_of : Result (List Record) LogFault → List Record
    list_of (Ok l) = l
    list_of (Err e) = []
joined_ok batch (Err e) all h = absurd (cc h)

-- a frame's records, and those behind it
record Framed (place : ℕ) (r : Result (List Record) LogFault) (frames : List (List ℕ)) (all : List Record) : Type 0 where
  batch : List Record
  is : r ≡ Ok batch
  more : List Record
  behind : records_of (place + length batch) frames ≡ Ok more
  parts : all ≡ batch ++ more

framed : (place : ℕ) (r : Result (List Record) LogFault) (frames : List (List ℕ)) (all : List Record) → frame_more r (λ count. records_of (place + count) frames) ≡ Ok all → Framed place r frames all
framed place (Ok batch) frames all h =
    let b = joined_ok batch (records_of (place + length batch) frames) all h in
    record { batch = batch; is = refl; more = b.more; behind = b.is; parts = b.parts }
framed place (Err e) frames all h = absurd (cc h)

-- records without a flaw are a batch
fine_batch : (list : List Record) (bytes : List ℕ) (batch : List Record) → records_in 0 (length list) bytes ≡ Ok batch → first_flaw_after list batch ≡ None → batch_in list bytes ≡ Some batch
fine_batch list bytes batch read fine =
    ap (unflawed list) read ∙ ap (λ (o : Option (ℕ × FlawReason)). option_map_or (λ (flaw : ℕ × FlawReason). None) o (Some batch)) fine

fits_there : (at count : ℕ) → 1 ≤ count → count ≤ longest_frame → at + head + count ≤ furthest → is_fit at count ≡ true
fits_there at count some short near = all (nat_le 1 count) (nat_le count longest_frame) (nat_le (at + head + count) furthest) (le-leb 1 count some) (le-leb count longest_frame short) (le-leb (at + head + count) furthest near)
  where
    all : (a b c : Bool) → a ≡ true → b ≡ true → c ≡ true → ((a && b) && c) ≡ true
    all true true true x y z = refl
    all false b c x y z = absurd (cc x)
    all true false c x y z = absurd (cc y)
    all true true false x y z = absurd (cc z)

-- the frames from a place on are taken one after another
record Taken (place : ℕ) (bytes : List ℕ) (r : Frames) (list more : List Record) : Type 0 where
  on : place ≤ r.end
  told : followed (at_rest list place) (take (r.end - place) bytes) ≡ at_rest (list ++ more) r.end

taken_all : (fuel place : ℕ) (bytes : List ℕ) (r : Frames) (list more : List Record) → length bytes ≤ fuel → 0 < length bytes → scan 0 place bytes ≡ Ok r
    → records_of (length list) r.list ≡ Ok more → first_flaw_after list more ≡ None → All IsFitFrame r.list → r.end ≤ furthest → Taken place bytes r list more
taken_all fuel place [] r list more le some h read fine fit near = absurd (omega arith)
taken_all zero place (gate ∷ rest) r list more le some h read fine fit near = absurd (omega arith)
taken_all (suc fuel) place (gate ∷ rest) r list more le some h read fine fit near = elim (cases_eq gate 1) [
  | inr shut ↦
      let is : found [] place ≡ Ok r = sym (scan_shut place gate rest shut) ∙ h in
      let frames : [] ≡ r.list = ap list_of is in
      let end : place ≡ r.end = ap end_of is in
      let none : Ok [] ≡ Ok more = ap (records_of (length list)) frames ∙ read in
      let nothing : [] ≡ more = ap records none in
      let zero_bytes : r.end - place ≡ 0 = omega (arith, end) in
      record {
        on = omega (arith, end);
        told = ap (λ (n : ℕ). followed (at_rest list place) (take n (gate ∷ rest))) zero_bytes ∙ ap (λ (l : List Record). at_rest l place) (sym (append-nil list))
            ∙ ap (λ (l : List Record). at_rest (list ++ l) place) nothing ∙ ap (at_rest (list ++ more)) end;
      }
  | inl one ↦
      let open_here : scan 0 place (1 ∷ rest) ≡ Ok r = ap (λ (g : ℕ). scan 0 place (g ∷ rest)) (sym one) ∙ h in
      elim (cases_lt (number rest + 4) (length rest)) [
        | inr short ↦ let bad : broken place ≡ Ok r = sym (scan_broken place rest short) ∙ open_here in absurd (cc bad)
        | inl fits ↦
            let n = number rest + 4 in
            let xs = take n rest in
            let ys = drop n rest in
            let four = take 4 xs in
            let frame = drop 4 xs in
            let long : length xs ≡ n = length-take n rest ∙ omega (arith, fits) in
            let behind : length ys ≡ length rest - n = length-drop n rest in
            let after = before_ok (take (number rest) (drop 4 rest) ∷ []) (scan (number rest + 4) (place + 1) rest) r (sym (scan_open place rest fits) ∙ open_here) in
            let piece : frame ≡ take (number rest) (drop 4 rest) = piece_is (number rest) rest in
            let size : length frame ≡ number rest = length-drop 4 xs ∙ omega (arith, long) in
            let four_size : length four ≡ 4 = length-take 4 xs ∙ omega (arith, long) in
            let spelled : number four ≡ length frame = number_is n rest (omega arith) ∙ sym size in
            let parts : r.list ≡ frame ∷ after.rest.list = after.list ∙ ap (λ (l : List ℕ). l ∷ after.rest.list) (sym piece) in
            let f = framed (length list) (records_in 0 (length list) frame) after.rest.list more (ap (records_of (length list)) (sym parts) ∙ read) in
            let fine_all : first_flaw_after list (f.batch ++ f.more) ≡ None = ap (first_flaw_after list) (sym f.parts) ∙ fine in
            let fine_first : first_flaw_after list f.batch ≡ None = logged_before list f.batch f.more fine_all in
            let fine_then : first_flaw_after (list ++ f.batch) f.more ≡ None = sym (flaw-append list f.batch f.more fine_first) ∙ fine_all in
            let count : length list + length f.batch ≡ length (list ++ f.batch) = sym (length-append list f.batch) in
            let read_then : records_of (length (list ++ f.batch)) after.rest.list ≡ Ok f.more = ap (λ (k : ℕ). records_of k after.rest.list) (sym count) ∙ f.behind in
            let all_fit : All IsFitFrame (frame ∷ after.rest.list) = subst (All IsFitFrame) parts fit in
            let fit_first : IsFitFrame frame = all_fit 0 frame (omega arith) in
            let shifted : scan n (place + 1) rest ≡ scan 0 (place + 1 + n) ys =
            ap (scan n (place + 1)) (sym (take-append-drop n rest)) ∙ ap (λ (k : ℕ). scan k (place + 1) (xs ++ ys)) (sym long) ∙ scan_skip (place + 1) xs ys ∙ ap (λ (k : ℕ). scan 0 (place + 1 + k) ys) long in
            let next : place + 1 + n ≡ place + head + length frame = omega (arith, size) in
            let below = taken_all fuel (place + 1 + n) ys after.rest (list ++ f.batch) f.more (omega (arith, le, behind)) (omega (arith, behind, fits)) (sym shifted ∙ after.is) read_then fine_then
            (λ k d within. all_fit (suc k) d (omega (arith, within))) (omega (arith, near, after.end)) in
            let there : is_fit place (length frame) ≡ true = fits_there place (length frame) fit_first.0 fit_first.1 (omega (arith, next, below.on, near, after.end)) in
            let first : followed (at_rest list place) (1 ∷ xs) ≡ at_rest (list ++ f.batch) (place + 1 + n) =
            ap (λ (l : List ℕ). followed (at_rest list place) (1 ∷ l)) (sym (take-append-drop 4 xs))
            ∙ frame_taken list place four frame four_size spelled there f.batch (fine_batch list frame f.batch f.is fine_first) ∙ ap (at_rest (list ++ f.batch)) (sym next) in
            let left : r.end - place ≡ length (1 ∷ xs) + (after.rest.end - (place + 1 + n)) = omega (arith, long, below.on, after.end) in
            record {
              on = omega (arith, below.on, after.end);
              told = ap (λ (g : ℕ). followed (at_rest list place) (take (r.end - place) (g ∷ rest))) one
                  ∙ ap (λ (k : ℕ). followed (at_rest list place) (take k (1 ∷ rest))) left
                  ∙ ap (λ (l : List ℕ). followed (at_rest list place) (take (length (1 ∷ xs) + (after.rest.end - (place + 1 + n))) (1 ∷ l))) (sym (take-append-drop n rest))
                  ∙ ap (followed (at_rest list place)) (take_behind (1 ∷ xs) ys (after.rest.end - (place + 1 + n)))
                  ∙ followed-append (at_rest list place) (1 ∷ xs) (take (after.rest.end - (place + 1 + n)) ys)
                  ∙ ap (λ (t : Told). followed t (take (after.rest.end - (place + 1 + n)) ys)) first
                  ∙ below.told
                  ∙ ap (λ (l : List Record). at_rest l after.rest.end) (append_assoc list f.batch f.more ∙ ap (λ (l : List Record). list ++ l) (sym f.parts))
                  ∙ ap (at_rest (list ++ more)) (sym after.end);
            }
      ]
]
  where
    list_of : Result Frames ℕ → List (List ℕ)
    list_of (Ok x) = x.list
    list_of (Err e) = []

    end_of : Result Frames ℕ → ℕ
    end_of (Ok x) = x.end
    end_of (Err e) = 0

    records : Result (List Record) LogFault → List Record
    records (Ok l) = l
    records (Err e) = []

    piece_is : (k : ℕ) (l : List ℕ) → drop 4 (take (k + 4) l) ≡ take k (drop 4 l)
    piece_is k l = let turned : k + 4 ≡ 4 + k = omega arith in ap (λ (j : ℕ). drop 4 (take j l)) turned ∙ drop-take 4 k l

    number_is : (k : ℕ) (l : List ℕ) → 4 ≤ k → number (take 4 (take k l)) ≡ number l
    number_is k l enough =
        let none : 4 ≤ 4 = omega arith in
        ap (from_be_bytes w32) (take-take 4 4 (take k l) none ∙ take-take 4 k l enough)

-- the records and the end of an image
pub record Imaged (frames : Frames) (h : Held) : Type 0 where
  pub list : records_of 0 frames.list ≡ Ok h.list
  pub end : frames.end ≡ h.end

pub imaged : (frames : Frames) (h : Held) → held frames.end (records_of 0 frames.list) ≡ Ok h → Imaged frames h
imaged frames h is = by (records_of 0 frames.list) refl is
  where
    held_of : Result Held LogFault → Held
    held_of (Ok x) = x
    held_of (Err e) = h

    by : (r : Result (List Record) LogFault) → records_of 0 frames.list ≡ r → held frames.end r ≡ Ok h → Imaged frames h
    by (Ok l) found same = record { list = found ∙ ap (λ (x : Held). Ok x.list) (ap held_of same); end = ap (λ (x : Held). x.end) (ap held_of same) }
    by (Err e) found same = absurd (cc same)

pub all_taken : AllLaw
all_taken log frames h is image logged fit near = elim (cases_lt 1 (length log)) [
  | inr short ↦
      let same : found [] 0 ≡ Ok frames = sym (image_short log short) ∙ is in
      let none : [] ≡ frames.list = ap list_of same in
      let start : 0 ≡ frames.end = ap end_of same in
      let nothing : [] ≡ h.list = ap records (ap (records_of 0) none ∙ of.list) in
      ap (λ (n : ℕ). followed (at_rest [] 0) (take n log)) (sym start) ∙ ap (λ (l : List Record). at_rest l 0) nothing ∙ ap (at_rest h.list) (start ∙ of.end)
  | inl some ↦
      elim (cases_lt longest (length log)) [
        | inl long ↦ let bad : broken longest ≡ Ok frames = sym (image_long log long) ∙ is in absurd (cc bad)
        | inr fits ↦
            let t = taken_all (length log) 0 log frames [] h.list (omega arith) (omega (arith, some)) (sym (image_scan log some fits) ∙ is) of.list logged fit near in
            let all : frames.end - 0 ≡ frames.end = omega arith in
            ap (λ (n : ℕ). followed (at_rest [] 0) (take n log)) (sym all) ∙ t.told ∙ ap (at_rest h.list) of.end
      ]
]
  where
    of : Imaged frames h
    of = imaged frames h (ap image_in (sym is) ∙ image)

    list_of : Result Frames ℕ → List (List ℕ)
    list_of (Ok x) = x.list
    list_of (Err e) = []

    end_of : Result Frames ℕ → ℕ
    end_of (Ok x) = x.end
    end_of (Err e) = 0

    records : Result (List Record) LogFault → List Record
    records (Ok l) = l
    records (Err e) = []

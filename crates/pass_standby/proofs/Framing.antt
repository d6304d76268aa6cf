-- A frame of a log, as its bytes come.
use Rattle.std.proofs.Common.{◌≡◌, ℕ, ◌+◌, ◌<◌, ◌≤◌, ◌^◌, Bool, true, false, List, [], ◌∷◌, ◌++◌, length, drop, refl, sym, ◌∙◌, ap, arith, length-append}
use Rattle.std.specs.Prelude.{Some, nat_lt}
use Rattle.std.specs.Int.{w32, to_be_bytes}
use Rattle.std.proofs.lemmas.List.{append-nil, drop_at}
use Rattle.std.proofs.lemmas.Bool.{lt-ltb, le-ltb}
use Rattle.pass_entry.specs.declared.record.Record.{Record}
use Rattle.pass_log.specs.Frames.{number}
use Rattle.pass_log.proofs.Scan.{spells}
use Rattle.pass_standby.specs.declared.frame.Judgement.TheVariants.{Begun, Whole}
use Rattle.pass_standby.specs.Streams.{head, claimed, is_open, is_fit, judgement, batch_in, Told, judged, followed, next_stop, IsBegun}
use Rattle.pass_standby.specs.Laws.{WholeLaw}
use Rattle.pass_standby.proofs.Coming.{by_tests, stop_at_end, claimed_stays, begun_is, followed-append}
use Rattle.pass_standby.proofs.Feeding.{taken_is}
use Rattle.pass_standby.proofs.Keeping.{fit_room, judged_whole}

-- a judgement by its four tests, each known
judged_by : (at : ℕ) (frame : List ℕ) (fit less : Bool) → is_open frame ≡ true → nat_lt (length frame) head ≡ false → is_fit at (claimed frame) ≡ fit → nat_lt (length frame) (head + claimed frame) ≡ less
    → judgement at frame ≡ by_tests true false fit less
judged_by at frame fit less gate few is_it is_less =
    ap (λ (b : Bool). by_tests b (nat_lt (length frame) head) (is_fit at (claimed frame)) (nat_lt (length frame) (head + claimed frame))) gate
    ∙ ap (λ (b : Bool). by_tests true b (is_fit at (claimed frame)) (nat_lt (length frame) (head + claimed frame))) few
    ∙ ap (λ (b : Bool). by_tests true false b (nat_lt (length frame) (head + claimed frame))) is_it
    ∙ ap (λ (b : Bool). by_tests true false fit b) is_less

-- A frame, of which four bytes in front of its records spell the length.
module _ (list : List Record) (at : ℕ) (four frame : List ℕ) (four_size : length four ≡ 4) (spelled : number four ≡ length frame) (fit : is_fit at (length frame) ≡ true) where
  abbrev start : List ℕ → Told
  start begun = record { list = list; at = at; begun = begun; bad = false }

  abbrev front : List ℕ
  front = 1 ∷ four

  five : length front ≡ 5
  five = omega (arith, four_size)

  some : 1 ≤ length frame
  some = (fit_room at (length frame) fit).0

  claims : claimed front ≡ length frame
  claims = spelled

  all_size : length (front ++ frame) ≡ 5 + length frame
  all_size = omega (arith, five, length-append front frame)

  all_claims : claimed (front ++ frame) ≡ length frame
  all_claims = claimed_stays front frame (omega (arith, five)) ∙ claims

  -- its gate
  one : followed (start []) (1 ∷ []) ≡ start (1 ∷ [])
  one = refl

  gate_begun : IsBegun at (1 ∷ [])
  gate_begun = begun_is at (1 ∷ []) refl

  -- its length
  still : judgement at front ≡ Begun
  still = judged_by at front true true refl (le-ltb (length front) head (omega (arith, five))) (ap (is_fit at) claims ∙ fit) (lt-ltb (length front) (head + claimed front) (omega (arith, five, claims, some)))

  two : followed (start (1 ∷ [])) four ≡ start front
  two =
      let stop : next_stop (1 ∷ []) ≡ 5 = refl in
      taken_is (start (1 ∷ [])) four refl gate_begun (omega (arith, four_size)) (omega (arith, four_size, stop)) ∙ ap (judged (start (1 ∷ [])) front) still

  -- and its records
  whole : judgement at (front ++ frame) ≡ Whole
  whole = judged_by at (front ++ frame) true false refl (le-ltb (length (front ++ frame)) head (omega (arith, all_size))) (ap (is_fit at) all_claims ∙ fit)
      (le-ltb (length (front ++ frame)) (head + claimed (front ++ frame)) (omega (arith, all_size, all_claims)))

  three : followed (start front) frame ≡ judged (start front) (front ++ frame) Whole
  three =
      let stop : next_stop front ≡ head + claimed front = stop_at_end front (omega (arith, five)) in
      taken_is (start front) frame refl (begun_is at front still) (omega (arith, some)) (omega (arith, five, stop, claims)) ∙ ap (judged (start front) (front ++ frame)) whole

  all_come : followed (start []) (1 ∷ four ++ frame) ≡ judged (start front) (front ++ frame) Whole
  all_come =
      followed-append (start []) (1 ∷ []) (four ++ frame) ∙ ap (λ (t : Told). followed t (four ++ frame)) one
      ∙ followed-append (start (1 ∷ [])) four frame ∙ ap (λ (t : Told). followed t frame) two ∙ three

  -- all of it is taken
  pub frame_taken : (batch : List Record) → batch_in list frame ≡ Some batch → followed (start []) (1 ∷ four ++ frame) ≡ record { list = list ++ batch; at = at + head + length frame; begun = []; bad = false }
  frame_taken batch is =
      let records : drop head (front ++ frame) ≡ frame = drop_at front frame 5 five in
      let place : at + length (front ++ frame) ≡ at + head + length frame = omega (arith, all_size) in
      all_come ∙ judged_whole (start front) (front ++ frame) batch (ap (batch_in list) records ∙ is) ∙ ap ending place
    where
      ending : ℕ → Told
      ending n = record { list = list ++ batch; at = n; begun = []; bad = false }

pub whole_frame : WholeLaw
whole_frame list at frame batch fit is =
    let small : length frame < 2 ^ 32 = omega (arith, (fit_room at (length frame) fit).1) in
    let spelled : number (to_be_bytes w32 (length frame)) ≡ length frame =
    spells (length frame) (to_be_bytes w32 (length frame)) [] small (sym (append-nil (to_be_bytes w32 (length frame)))) in
    frame_taken list at (to_be_bytes w32 (length frame)) frame refl spelled fit batch is

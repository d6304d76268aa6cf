-- How pieces of a stream are taken one after another.
use Rattle.std.proofs.Common.{◌≡◌, ◌⊎◌, ℕ, suc, ◌+◌, ◌-◌, ◌<◌, ◌≤◌, min, Bool, true, false, List, [], ◌∷◌, ◌++◌, length, take, drop, IsTrue, inl, inr, refl, sym, ◌∙◌, ap, subst, arith, append_assoc, length-append, length-take, take-append-drop}
use Rattle.std.specs.Prelude.{Option, Some, None, if◌then◌else◌}
use Rattle.std.specs.Option.{option_map_or}
use Rattle.std.proofs.lemmas.List.{append-nil}
use Rattle.pass_entry.specs.declared.record.Record.{Record}
use Rattle.pass_outside.specs.Moments.{Moment, Adds, IsDeviceWork}
use Rattle.pass_outside.specs.Runs.{adds_nothing, adds_both}
use Rattle.pass_standby.specs.declared.following.Following.{Following}
use Rattle.pass_standby.specs.declared.fault.StandbyFault.{StandbyFault}
use Rattle.pass_standby.specs.declared.fault.StandbyFault.TheVariants as faults
use Rattle.pass_standby.specs.declared.frame.Judgement.{Judgement}
use Rattle.pass_standby.specs.declared.frame.Judgement.TheVariants.{Begun, Bad, Whole}
use Rattle.pass_standby.specs.Streams.{head, judgement, batch_in, Told, spoiled, with_batch, judged, arrived, followed, bytes_as, bytes_with, next_stop, IsBegun, IsWhole, HasFrames, HasSomeFrames}
use Rattle.pass_standby.specs.Standing.{told_so_far, log_to, IsFollowing, HasBegun, Spoils, LeavesEither, Reads, Stops, Starves, Undone, Ends}
use Rattle.pass_log.specs.Log.{log_end, LeavesStore}
use Rattle.pass_log.proofs.Append.{leaves_more, leaves_none}
use Rattle.pass_standby.proofs.Carried.{bytes_none, bytes_then}
use Rattle.pass_standby.proofs.Coming.{followed-append, bad_stays, gathered, below_stop, whole_is}
use Rattle.pass_standby.proofs.Keeping.{work_none, work_then, work_as}

-- no byte of a frame
pub begun_none : (at : ℕ) → IsBegun at []
begun_none at = record { open_gate = λ some. absurd (omega (arith, some)); fits = λ enough. absurd (omega (arith, enough)); short = omega arith }

-- bytes up to the next stop are judged as one
pub taken_is : (t : Told) (xs : List ℕ) → t.bad ≡ false → IsBegun t.at t.begun → 0 < length xs → length t.begun + length xs ≤ next_stop t.begun
    → followed t xs ≡ judged t (t.begun ++ xs) (judgement t.at (t.begun ++ xs))
taken_is t [] fine begun some within = absurd (omega (arith, some))
taken_is t (x ∷ xs) fine begun some within = gathered t x xs fine begun within

-- how many there are of them
module _ (begun piece : List ℕ) (at used : ℕ) (is : IsBegun at begun) (count : used ≡ min (next_stop begun - length begun) (length piece)) (some : 0 < length piece) where
  pub used_some : 0 < used
  used_some = omega (arith, count, some, is.short)

  pub used_within : used ≤ length piece
  used_within = omega (arith, count)

  pub used_size : length (take used piece) ≡ used
  used_size = omega (arith, length-take used piece, used_within)

  pub used_stop : length begun + length (take used piece) ≤ next_stop begun
  used_stop = omega (arith, used_size, count, is.short)

-- bytes behind others
pub take_behind : (front rest : List ℕ) (n : ℕ) → take (length front + n) (front ++ rest) ≡ front ++ take n rest
take_behind [] rest n = let same : 0 + n ≡ n = omega arith in ap (λ (k : ℕ). take k rest) same
take_behind (x ∷ front) rest n =
    let same : suc (length front) + n ≡ suc (length front + n) = omega arith in
    ap (λ (k : ℕ). take k (x ∷ (front ++ rest))) same ∙ ap (λ (l : List ℕ). x ∷ l) (take_behind front rest n)

module _ (t : Told) (front rest : List ℕ) where
  pub behind : (n : ℕ) → followed t (take (length front + n) (front ++ rest)) ≡ followed (followed t front) (take n rest)
  behind n = ap (followed t) (take_behind front rest n) ∙ followed-append t front (take n rest)

  within_both : (n : ℕ) → n ≤ length rest → length front + n ≤ length (front ++ rest)
  within_both n le = omega (arith, length-append front rest, le)

  -- what the rest has done is what all has done
  pub spoils_behind : (list : List Record) (at : ℕ) → Spoils (followed t front) rest list at → Spoils t (front ++ rest) list at
  spoils_behind list at s =
      let all = followed-append t front rest in
      record { bad = ap (λ (u : Told). u.bad) all ∙ s.bad; list_is = s.list_is ∙ ap (λ (u : Told). u.list) (sym all); at_is = s.at_is ∙ ap (λ (u : Told). u.at) (sym all) }

  module _ (fine : t.bad ≡ false) (good : (followed t front).bad ≡ false) where
    pub bytes_behind : (kept : List ℕ) (n : ℕ) → bytes_with (bytes_with kept t front) (followed t front) (take n rest) ≡ bytes_with kept t (take (length front + n) (front ++ rest))
    bytes_behind kept n = bytes_then kept t front (take n rest) fine good ∙ ap (bytes_with kept t) (sym (take_behind front rest n))

    -- a log with frames of the rest has them behind those of the front
    frames_behind : (kept : List ℕ) (n : ℕ) (log : List ℕ) → HasFrames (followed (followed t front) (take n rest)) (bytes_with (bytes_with kept t front) (followed t front) (take n rest)) log
        → HasFrames (followed t (take (length front + n) (front ++ rest))) (bytes_with kept t (take (length front + n) (front ++ rest))) log
    frames_behind kept n log h =
        subst (λ (u : Told). HasFrames u (bytes_with kept t (take (length front + n) (front ++ rest))) log) (sym (behind n))
        (subst (λ (l : List ℕ). HasFrames (followed (followed t front) (take n rest)) l log) (bytes_behind kept n) h)

    pub some_behind : (kept log : List ℕ) → HasSomeFrames (bytes_with kept t front) (followed t front) rest log → HasSomeFrames kept t (front ++ rest) log
    some_behind kept log h = (length front + h.0, within_both h.0 h.1, frames_behind kept h.0 log h.2)

    either_behind : (kept : List ℕ) (n : ℕ) (log : List ℕ) → HasFrames (followed (followed t front) (take n rest)) (bytes_with (bytes_with kept t front) (followed t front) (take n rest)) log
        ⊎ HasFrames (followed (followed t front) (take (n + 1) rest)) (bytes_with (bytes_with kept t front) (followed t front) (take (n + 1) rest)) log
        → HasFrames (followed t (take (length front + n) (front ++ rest))) (bytes_with kept t (take (length front + n) (front ++ rest))) log
        ⊎ HasFrames (followed t (take (length front + n + 1) (front ++ rest))) (bytes_with kept t (take (length front + n + 1) (front ++ rest))) log
    either_behind kept n log (inl h) = inl (frames_behind kept n log h)
    either_behind kept n log (inr h) =
        let same : length front + (n + 1) ≡ length front + n + 1 = omega arith in
        inr (subst (λ (k : ℕ). HasFrames (followed t (take k (front ++ rest))) (bytes_with kept t (take k (front ++ rest))) log) same (frames_behind kept (n + 1) log h))

  pub stops_behind : (m : Moment) (kept mid : List ℕ) (list : List Record) (at : ℕ) → (IsTrue m.tells → mid ≡ bytes_with kept t front) → t.bad ≡ false → (followed t front).bad ≡ false
      → Stops m mid (followed t front) rest list at → Stops m kept t (front ++ rest) list at
  stops_behind m kept mid list at same fine fine_front s =
      let all = behind s.count in
      let next : followed t (take (length front + s.count + 1) (front ++ rest)) ≡ followed (followed t front) (take (s.count + 1) rest) =
      ap (λ (n : ℕ). followed t (take n (front ++ rest))) (one_more s.count) ∙ behind (s.count + 1) in
      record {
        count = length front + s.count;
        within = omega (arith, length-append front rest, s.within);
        good = ap (λ (u : Told). u.bad) next ∙ s.good;
        whole = omega (arith, ap (λ (u : Told). u.at) all, ap (λ (u : Told). u.at) next, s.whole);
        list_is = s.list_is ∙ ap (λ (u : Told). u.list) (sym all);
        at_is = s.at_is ∙ ap (λ (u : Told). u.at) (sym all);
        leaves = λ tells c may. either_behind fine fine_front kept s.count c.log (subst
            (λ (l : List ℕ). HasFrames (followed (followed t front) (take s.count rest)) (bytes_with l (followed t front) (take s.count rest)) c.log
            ⊎ HasFrames (followed (followed t front) (take (s.count + 1) rest)) (bytes_with l (followed t front) (take (s.count + 1) rest)) c.log) (same tells) (s.leaves tells c may));
      }
    where
      one_more : (n : ℕ) → length front + n + 1 ≡ length front + (n + 1)
      one_more n = omega arith

  pub starves_behind : (list : List Record) (at : ℕ) → length t.list ≤ length (followed t front).list → Starves (followed t front) rest list at → Starves t (front ++ rest) list at
  starves_behind list at more s =
      let all = behind s.count in
      record {
        count = length front + s.count;
        within = within_both s.count s.within;
        good = ap (λ (u : Told). u.bad) all ∙ s.good;
        lacks = s.lacks;
        list_is = s.list_is ∙ ap (λ (u : Told). u.list) (sym all);
        least = omega (arith, s.least, more);
        at_is = s.at_is ∙ ap (λ (u : Told). u.at) (sym all);
      }

-- no record goes
judged_grows : (t : Told) (frame : List ℕ) (j : Judgement) → length t.list ≤ length (judged t frame j).list
judged_grows t frame Begun = omega arith
judged_grows t frame Bad = omega arith
judged_grows t frame Whole = by_case (batch_in t.list (drop head frame))
  where
    by_case : (o : Option (List Record)) → length t.list ≤ length (option_map_or (with_batch t frame) o (spoiled t frame)).list
    by_case None = omega arith
    by_case (Some batch) = omega (arith, length-append t.list batch)

arrived_grows : (t : Told) (byte : ℕ) → length t.list ≤ length (arrived t byte).list
arrived_grows t byte = by_case t.bad
  where
    frame : List ℕ
    frame = t.begun ++ byte ∷ []

    by_case : (b : Bool) → length t.list ≤ length (if b then t else judged t (t.begun ++ byte ∷ []) (judgement t.at (t.begun ++ byte ∷ []))).list
    by_case true = omega arith
    by_case false = judged_grows t (t.begun ++ byte ∷ []) (judgement t.at (t.begun ++ byte ∷ []))

pub followed_grows : (t : Told) (bytes : List ℕ) → length t.list ≤ length (followed t bytes).list
followed_grows t [] = omega arith
followed_grows t (x ∷ bytes) = omega (arith, arrived_grows t x, followed_grows (arrived t x) bytes)

-- what a fault has left behind bytes that were taken
pub ends_behind : {D : Type 0} (view : D → Moment) (kept mid : List ℕ) (t : Told) (front rest : List ℕ) (new : Following D) (e : StandbyFault)
    → (IsTrue (view new.disk).tells → mid ≡ bytes_with kept t front) → t.bad ≡ false → (followed t front).bad ≡ false → Ends view mid (followed t front) rest new e → Ends view kept t (front ++ rest) new e
ends_behind view kept mid t front rest new faults.DiskFault same fine good h = stops_behind t front rest (view new.disk) kept mid new.index (log_end new.log) same fine good h
ends_behind view kept mid t front rest new (faults.BadStream at) same fine good h = (
  h.0,
  spoils_behind t front rest new.index (log_end new.log) h.1,
  h.2,
  λ tells. h.3 tells ∙ ap (λ (l : List ℕ). bytes_with l (followed t front) rest) (same tells) ∙ bytes_then kept t front rest fine good,
)
ends_behind view kept mid t front rest new faults.NoMemory same fine good h = starves_behind t front rest new.index (log_end new.log) (followed_grows t front) h
ends_behind view kept mid t front rest new (faults.BadLog at) same fine good h = h
ends_behind view kept mid t front rest new (faults.Closed at) same fine good h = h

-- what was left of a frame that wasn't kept
module _ {D : Type 0} (view : D → Moment) (kept : List ℕ) (t u : Told) (piece : List ℕ) (used : ℕ) (fine : t.bad ≡ false) (within : used ≤ length piece) (is : followed t (take used piece) ≡ u) where
  bad_piece : u.bad ≡ true → followed t piece ≡ u
  bad_piece bad =
      ap (followed t) (sym (take-append-drop used piece)) ∙ followed-append t (take used piece) (drop used piece)
      ∙ ap (λ (v : Told). followed v (drop used piece)) is ∙ bad_stays u (drop used piece) bad

  pub spoils_piece : (list : List Record) (at : ℕ) → u.bad ≡ true → list ≡ u.list → at ≡ u.at → Spoils t piece list at
  spoils_piece list at bad list_is at_is =
      let all = bad_piece bad in
      record { bad = ap (λ (v : Told). v.bad) all ∙ bad; list_is = list_is ∙ ap (λ (v : Told). v.list) (sym all); at_is = at_is ∙ ap (λ (v : Told). v.at) (sym all) }

  pub starves_none : (list : List Record) (at : ℕ) → list ≡ t.list → at ≡ t.at → Starves t piece list at
  starves_none list at list_is at_is = record {
    count = 0;
    within = omega arith;
    good = fine;
    lacks = [];
    list_is = append-nil list ∙ list_is;
    least = omega (arith, ap length list_is);
    at_is = at_is;
  }

  -- the bytes that are kept with it
  used_bytes : bytes_with kept t (take used piece) ≡ bytes_as kept t (t.begun ++ take used piece) u
  used_bytes = ap (bytes_as kept t (t.begun ++ take used piece)) is

  -- the byte at which the frame was whole
  pub stops_here : (m : Moment) (list : List Record) (at : ℕ) → 0 < used → (begun : List ℕ) → followed t (take (used - 1) piece) ≡ record t { begun = begun } → list ≡ t.list → at ≡ t.at
      → u.bad ≡ false → t.at < u.at → LeavesEither m t kept u (bytes_as kept t (t.begun ++ take used piece) u) → Stops m kept t piece list at
  stops_here m list at some begun before list_is at_is good more leaves =
      let all : followed t (take (used - 1 + 1) piece) ≡ u = ap (λ (n : ℕ). followed t (take n piece)) (last used some) ∙ is in
      record {
        count = used - 1;
        within = omega (arith, some, within);
        good = ap (λ (v : Told). v.bad) all ∙ good;
        whole = omega (arith, ap (λ (v : Told). v.at) before, ap (λ (v : Told). v.at) all, more);
        list_is = list_is ∙ ap (λ (v : Told). v.list) (sym before);
        at_is = at_is ∙ ap (λ (v : Told). v.at) (sym before);
        leaves = λ tells c may. either c.log (leaves tells c may);
      }
    where
      last : (n : ℕ) → 0 < n → n - 1 + 1 ≡ n
      last n some = omega (arith, some)

      either : (log : List ℕ) → HasFrames t kept log ⊎ HasFrames u (bytes_as kept t (t.begun ++ take used piece) u) log
          → HasFrames (followed t (take (used - 1) piece)) (bytes_with kept t (take (used - 1) piece)) log
          ⊎ HasFrames (followed t (take (used - 1 + 1) piece)) (bytes_with kept t (take (used - 1 + 1) piece)) log
      either log (inl h) =
          let same : bytes_with kept t (take (used - 1) piece) ≡ kept = bytes_none kept t (t.begun ++ take (used - 1) piece) (followed t (take (used - 1) piece)) (ap (λ (v : Told). v.at) before) in
          let there : HasFrames t (bytes_with kept t (take (used - 1) piece)) log = subst (λ (l : List ℕ). HasFrames t l log) (sym same) h in
          inl (subst (λ (v : Told). HasFrames v (bytes_with kept t (take (used - 1) piece)) log) (sym before) there)
      either log (inr h) =
          let there : HasFrames u (bytes_with kept t (take used piece)) log = subst (λ (l : List ℕ). HasFrames u l log) (sym used_bytes) h in
          let all : HasFrames (followed t (take used piece)) (bytes_with kept t (take used piece)) log = subst (λ (v : Told). HasFrames v (bytes_with kept t (take used piece)) log) (sym is) there in
          inr (subst (λ (n : ℕ). HasFrames (followed t (take n piece)) (bytes_with kept t (take n piece)) log) (sym (last used some)) all)

  pub undone_ends : (new : Following D) (e : StandbyFault) → 0 < used → (begun : List ℕ) → followed t (take (used - 1) piece) ≡ record t { begun = begun }
      → Undone view kept t (t.begun ++ take used piece) u new e → Ends view kept t piece new e
  undone_ends new faults.DiskFault some begun before h = stops_here (view new.disk) new.index (log_end new.log) some begun before h.0 h.1 h.2 h.3 h.4
  undone_ends new (faults.BadStream at) some begun before h = (
    h.0,
    spoils_piece new.index (log_end new.log) h.1 h.2 h.3,
    h.4,
    λ tells. h.6 tells ∙ sym (bytes_none kept t (t.begun ++ piece) (followed t piece) (ap (λ (v : Told). v.at) (bad_piece h.1) ∙ h.5)),
  )
  undone_ends new faults.NoMemory some begun before (inl h) = starves_none new.index (log_end new.log) h.0 h.1
  undone_ends new faults.NoMemory some begun before (inr h) = record {
    count = used;
    within = within;
    good = ap (λ (v : Told). v.bad) is ∙ h.0;
    lacks = h.1.0;
    list_is = h.1.1 ∙ ap (λ (v : Told). v.list) (sym is);
    least = h.2;
    at_is = h.3 ∙ ap (λ (v : Told). v.at) (sym is);
  }
  undone_ends new (faults.BadLog at) some begun before h = h
  undone_ends new (faults.Closed at) some begun before h = h

  pub some_of_both : (log : List ℕ) → HasFrames t kept log ⊎ HasFrames u (bytes_as kept t (t.begun ++ take used piece) u) log → HasSomeFrames kept t piece log
  some_of_both log (inl h) = (0, omega arith, subst (λ (l : List ℕ). HasFrames t l log) (sym (bytes_none kept t (t.begun ++ []) t refl)) h)
  some_of_both log (inr h) = (used, within, subst (λ (v : Told). HasFrames v (bytes_with kept t (take used piece)) log) (sym is) (subst (λ (l : List ℕ). HasFrames u l log) (sym used_bytes) h))

-- the bytes in front of the rest were taken
pub record IsFeeding {D : Type 0} (view : D → Moment) (piece rest : List ℕ) (first now : Following D) : Type 0 where
  pub front : List ℕ
  pub is : piece ≡ front ++ rest
  pub told : told_so_far now ≡ followed (told_so_far first) front
  pub following : IsFollowing view now
  pub begun : HasBegun now
  pub bytes : Reads (view now.disk) (log_end now.log) (bytes_with (log_to (view first.disk) (log_end first.log)) (told_so_far first) front)
  pub moments : IsTrue (view first.disk).tells → Adds (view first.disk) (view now.disk) (λ c. HasSomeFrames (log_to (view first.disk) (log_end first.log)) (told_so_far first) piece c.log)
  pub store : LeavesStore (view first.disk) (view now.disk)
  pub work : IsDeviceWork (view first.disk) (view now.disk) ⊥

-- what was there of the frame makes no difference to what is judged now
pub judged_same : (t : Told) (begun frame : List ℕ) (j : Judgement) → judged (record t { begun = begun }) frame j ≡ judged t frame j
judged_same t begun frame Begun = refl
judged_same t begun frame Bad = refl
judged_same t begun frame Whole = refl

-- what came is judged as one
pub taken_so : (t : Told) (begun piece : List ℕ) (used : ℕ) → t.bad ≡ false → IsBegun t.at t.begun → used ≡ min (next_stop t.begun - length t.begun) (length piece) → 0 < length piece
    → begun ≡ t.begun ++ take used piece → followed t (take used piece) ≡ judged (record t { begun = begun }) begun (judgement t.at begun)
taken_so t begun piece used fine is count some bytes =
    let size : length (take used piece) ≡ used = used_size t.begun piece t.at used is count some in
    let more : 0 < length (take used piece) = omega (arith, size, used_some t.begun piece t.at used is count some) in
    taken_is t (take used piece) fine is more (used_stop t.begun piece t.at used is count some)
    ∙ ap (λ (f : List ℕ). judged t f (judgement t.at f)) (sym bytes) ∙ sym (judged_same t begun begun (judgement t.at begun))

-- its bytes are those of what came
pub bytes_so : (kept : List ℕ) (t : Told) (begun piece : List ℕ) (used : ℕ) (u : Told) → begun ≡ t.begun ++ take used piece → followed t (take used piece) ≡ u
    → bytes_as kept (record t { begun = begun }) begun u ≡ bytes_with kept t (take used piece)
bytes_so kept t begun piece used u bytes is = ap (λ (l : List ℕ). bytes_as kept t l u) bytes ∙ ap (bytes_as kept t (t.begun ++ take used piece)) (sym is)

-- what was left of it is the same, however its bytes are named
pub undone_so : {D : Type 0} (view : D → Moment) (kept : List ℕ) (t : Told) (begun frame : List ℕ) (u : Told) (new : Following D) (e : StandbyFault) → begun ≡ frame
    → Undone view kept (record t { begun = begun }) begun u new e → Undone view kept t frame u new e
undone_so view kept t begun frame u new e same undone = subst (λ (l : List ℕ). Undone view kept t l u new e) same (by e undone)
  where
    by : (k : StandbyFault) → Undone view kept (record t { begun = begun }) begun u new k → Undone view kept t begun u new k
    by faults.DiskFault h = h
    by (faults.BadStream at) h = h
    by faults.NoMemory h = h
    by (faults.BadLog at) h = h
    by (faults.Closed at) h = h

-- before the last byte of what came, no stop was reached
pub before_so : (t : Told) (piece : List ℕ) (used : ℕ) → t.bad ≡ false → IsBegun t.at t.begun → used ≡ min (next_stop t.begun - length t.begun) (length piece) → 0 < length piece
    → followed t (take (used - 1) piece) ≡ record t { begun = t.begun ++ take (used - 1) piece }
before_so t piece used fine is count some =
    below_stop t (take (used - 1) piece) fine is
    (omega (arith, length-take (used - 1) piece, count, is.short, used_some t.begun piece t.at used is count some, used_within t.begun piece t.at used is count some))

pub whole_so : (at : ℕ) (begun frame piece : List ℕ) (used : ℕ) → IsBegun at begun → used ≡ min (next_stop begun - length begun) (length piece) → 0 < length piece
    → frame ≡ begun ++ take used piece → judgement at frame ≡ Whole → IsWhole at frame
whole_so at begun frame piece used is count some bytes whole =
    subst (IsWhole at) (sym bytes) (whole_is at begun (take used piece) is (used_stop begun piece at used is count some) (ap (judgement at) (sym bytes) ∙ whole))

pub some_so : (at : ℕ) (begun frame piece : List ℕ) (used : ℕ) → IsBegun at begun → used ≡ min (next_stop begun - length begun) (length piece) → 0 < length piece → frame ≡ begun ++ take used piece
    → 1 ≤ length frame
some_so at begun frame piece used is count some bytes =
    omega (arith, ap length bytes, length-append begun (take used piece), used_size begun piece at used is count some, used_some begun piece at used is count some)

pub feeding_none : {D : Type 0} (view : D → Moment) (piece : List ℕ) (first : Following D) → IsFollowing view first → HasBegun first → IsFeeding view piece piece first first
feeding_none view piece first following begun = record {
  front = [];
  is = refl;
  told = refl;
  following = following;
  begun = begun;
  bytes = λ tells. sym (bytes_none (log_to (view first.disk) (log_end first.log)) (told_so_far first) (first.begun.items ++ []) (told_so_far first) refl);
  moments = λ told. adds_nothing (view first.disk) (λ c. HasSomeFrames (log_to (view first.disk) (log_end first.log)) (told_so_far first) piece c.log);
  store = leaves_none (view first.disk);
  work = work_none (view first.disk) (λ never. never);
}

module _ {D : Type 0} (view : D → Moment) (piece rest : List ℕ) (first now : Following D) (f : IsFeeding view piece rest first now) (next : Following D) where
  abbrev kept : List ℕ
  kept = log_to (view first.disk) (log_end first.log)

  none_bad : (followed (told_so_far first) f.front).bad ≡ false
  none_bad = ap (λ (u : Told). u.bad) (sym f.told)

  some_then : (log : List ℕ) → IsTrue (view now.disk).tells → HasSomeFrames (log_to (view now.disk) (log_end now.log)) (told_so_far now) rest log → HasSomeFrames kept (told_so_far first) piece log
  some_then log tells x = subst (λ (l : List ℕ). HasSomeFrames kept (told_so_far first) l log) (sym f.is)
      (some_behind (told_so_far first) f.front rest refl none_bad kept log
      (subst (λ (u : Told). HasSomeFrames (bytes_with kept (told_so_far first) f.front) u rest log) f.told (subst (λ (l : List ℕ). HasSomeFrames l (told_so_far now) rest log) (f.bytes tells) x)))

  pub moments_on : IsTrue (view first.disk).tells
      → (IsTrue (view now.disk).tells → Adds (view now.disk) (view next.disk) (λ c. HasSomeFrames (log_to (view now.disk) (log_end now.log)) (told_so_far now) rest c.log))
      → Adds (view first.disk) (view next.disk) (λ c. HasSomeFrames kept (told_so_far first) piece c.log)
  moments_on told any =
      let tells : IsTrue (view now.disk).tells = subst IsTrue (sym f.work.tells) told in
      adds_both (λ c. HasSomeFrames kept (told_so_far first) piece c.log) (view first.disk) (view now.disk) (view next.disk) (f.moments told) (any tells) (λ c x. x) (λ c x. some_then c.log tells x)

  pub store_on : LeavesStore (view now.disk) (view next.disk) → LeavesStore (view first.disk) (view next.disk)
  store_on more = leaves_more (view first.disk) (view now.disk) (view next.disk) f.work.tells f.store more

  pub work_on : {G : Type 0} → IsDeviceWork (view now.disk) (view next.disk) G → IsDeviceWork (view first.disk) (view next.disk) G
  work_on {G} more = work_then (view first.disk) (view now.disk) (view next.disk) f.work (λ never. never) more

  pub ends_on : (e : StandbyFault) → (view next.disk).tells ≡ (view now.disk).tells → Ends view (log_to (view now.disk) (log_end now.log)) (told_so_far now) rest next e
      → Ends view kept (told_so_far first) piece next e
  ends_on e same ended = subst (λ (l : List ℕ). Ends view kept (told_so_far first) l next e) (sym f.is)
      (ends_behind view kept (log_to (view now.disk) (log_end now.log)) (told_so_far first) f.front rest next e (λ tells. f.bytes (subst IsTrue same tells)) refl none_bad
      (subst (λ (u : Told). Ends view (log_to (view now.disk) (log_end now.log)) u rest next e) f.told ended))

  pub feeding_more : {G : Type 0} (used : ℕ) (left : List ℕ) → left ≡ drop used rest → told_so_far next ≡ followed (told_so_far now) (take used rest) → IsFollowing view next → HasBegun next
      → Reads (view next.disk) (log_end next.log) (bytes_with (log_to (view now.disk) (log_end now.log)) (told_so_far now) (take used rest))
      → (IsTrue (view now.disk).tells → Adds (view now.disk) (view next.disk) (λ c. HasSomeFrames (log_to (view now.disk) (log_end now.log)) (told_so_far now) rest c.log))
      → LeavesStore (view now.disk) (view next.disk) → IsDeviceWork (view now.disk) (view next.disk) G → (G → ⊥) → IsFeeding view piece left first next
  feeding_more {G} used left rest_is told following begun bytes any store work fine = record {
    front = f.front ++ take used rest;
    is = f.is ∙ ap (λ (l : List ℕ). f.front ++ l) (sym (take-append-drop used rest)) ∙ sym (append_assoc f.front (take used rest) (drop used rest))
        ∙ ap (λ (l : List ℕ). (f.front ++ take used rest) ++ l) (sym rest_is);
    told = told ∙ ap (λ (u : Told). followed u (take used rest)) f.told ∙ sym (followed-append (told_so_far first) f.front (take used rest));
    following = following;
    begun = begun;
    bytes = λ tells. bytes tells ∙ ap (λ (u : Told). bytes_with (log_to (view now.disk) (log_end now.log)) u (take used rest)) f.told
        ∙ ap (λ (l : List ℕ). bytes_with l (followed (told_so_far first) f.front) (take used rest)) (f.bytes (subst IsTrue work.tells tells))
        ∙ bytes_then kept (told_so_far first) f.front (take used rest) refl none_bad;
    moments = λ tells. moments_on tells any;
    store = store_on store;
    work = work_as (view first.disk) (view next.disk) (work_on work) fine (λ never. never);
  }

pub feeding_done : {D : Type 0} (view : D → Moment) (piece rest : List ℕ) (first now : Following D) → IsFeeding view piece rest first now → length rest ≡ 0
    → told_so_far now ≡ followed (told_so_far first) piece
feeding_done view piece [] first now f none = f.told ∙ ap (followed (told_so_far first)) (sym (f.is ∙ append-nil f.front))
feeding_done view piece (x ∷ rest) first now f none = absurd (omega (arith, none))

pub bytes_done : {D : Type 0} (view : D → Moment) (piece rest : List ℕ) (first now : Following D) (f : IsFeeding view piece rest first now) → length rest ≡ 0
    → Reads (view now.disk) (log_end now.log) (bytes_with (log_to (view first.disk) (log_end first.log)) (told_so_far first) piece)
bytes_done view piece [] first now f none = λ tells. f.bytes tells ∙ ap (bytes_with (log_to (view first.disk) (log_end first.log)) (told_so_far first)) (sym (f.is ∙ append-nil f.front))
bytes_done view piece (x ∷ rest) first now f none = absurd (omega (arith, none))

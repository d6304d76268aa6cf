-- How the frames of a log are judged one after another.
use Rattle.std.proofs.Common.{◌≡◌, ◌⊎◌, ℕ, ◌+◌, ◌<◌, ◌≤◌, ◌^◌, true, List, [], ◌∷◌, ◌++◌, length, take, drop, replicate, get_or, Ok, inl, inr, refl, sym, ◌∙◌, ap, subst, arith, append_assoc, length-append}
use Rattle.std.specs.Prelude.{None}
use Rattle.std.specs.Int.{w32, to_be_bytes}
use Rattle.std.proofs.lemmas.List.{take_at, drop_at}
use Rattle.pass_entry.specs.declared.record.Record.{Record}
use Rattle.pass_graph.specs.declared.logged.Logged.{Logged}
use Rattle.pass_graph.specs.Logged.{Summarizes}
use Rattle.pass_graph.proofs.Accepting.{fine-append}
use Rattle.pass_log.specs.Frames.{longest, IsFront}
use Rattle.pass_log.specs.Records.{joined, records_of, held, image_in, image_of}
use Rattle.pass_log.proofs.Scan.{front_nil, front_append, front_frame, scan_rests, spells, left_length}
use Rattle.pass_log.proofs.Reading.{frame_read}
use Rattle.pass_log.proofs.Crash.{image_scan}
use Rattle.pass_plain.specs.WellLogged.{IsWellLogged}
use Rattle.pass_standby.specs.declared.batch.BatchFault.{BatchFault}
use Rattle.pass_standby.specs.declared.batch.BatchFault.TheVariants as batches
use Rattle.pass_standby.specs.declared.fault.StandbyFault.{StandbyFault}
use Rattle.pass_standby.specs.declared.fault.StandbyFault.TheVariants as faults
use Rattle.pass_standby.specs.Streams.{batch_in, is_open, claimed}
use Rattle.pass_standby.specs.Logs.{IsBatch, IsBroken, IsUnread, HasBadFrame}
use Rattle.pass_standby.proofs.Keeping.{batch_read}

-- the frames in front of the rest are whole, of these records, which are well logged
pub record IsWalking (bytes rest : List ℕ) (place : ℕ) (list : List Record) (judge : Logged) : Type 0 where
  pub front : List ℕ
  pub frames : List (List ℕ)
  pub is : bytes ≡ front ++ rest
  pub size : length front ≡ place
  pub passes : IsFront front frames
  pub read : records_of 0 frames ≡ Ok list
  pub says : Summarizes judge list
  pub logged : IsWellLogged list
  pub some : 0 < length rest

pub walking_none : (bytes : List ℕ) (judge : Logged) → Summarizes judge [] → 0 < length bytes → IsWalking bytes bytes 0 [] judge
walking_none bytes judge says some = record { front = []; frames = []; is = refl; size = refl; passes = front_nil; read = refl; says = says; logged = refl; some = some }

-- one frame more
module _ (bytes rest : List ℕ) (place : ℕ) (list : List Record) (judge : Logged) (w : IsWalking bytes rest place list judge)
    (frame after : List ℕ) (fits : length frame < 2 ^ 32) (is : rest ≡ 1 ∷ to_be_bytes w32 (length frame) ++ frame ++ after) (more : 0 < length after) where
  one : List ℕ
  one = 1 ∷ to_be_bytes w32 (length frame) ++ frame

  four : length (to_be_bytes w32 (length frame)) ≡ 4
  four = refl

  one_size : length one ≡ 5 + length frame
  unfolding one
  one_size = omega (arith, four, length-append (to_be_bytes w32 (length frame)) frame)

  parts : bytes ≡ (w.front ++ one) ++ after
  unfolding one
  parts = w.is ∙ ap (λ (l : List ℕ). w.front ++ l) is ∙ sym (append_assoc w.front (1 ∷ to_be_bytes w32 (length frame) ++ frame) after)

  pub walking_more : (new : List Record) (next : Logged) → IsBatch list frame list new next → IsWalking bytes after (place + (5 + length frame)) new next
  unfolding one
  walking_more new next b =
      let found = batch_read list frame b.batch b.read in
      record {
        front = w.front ++ one;
        frames = w.frames ++ frame ∷ [];
        is = parts;
        size = omega (arith, length-append w.front one, one_size, w.size);
        passes = front_append w.front one w.frames (frame ∷ []) w.passes (front_frame frame fits);
        read = frame_read w.frames frame list new w.read (ap (joined list) found.records ∙ ap (λ (l : List Record). Ok l) (sym b.put));
        says = subst (Summarizes next) (sym b.put) b.says;
        logged = subst IsWellLogged (sym b.put) (fine-append [] list b.batch w.logged found.fine);
        some = more;
      }

  pub frame_unread : batch_in list frame ≡ None → IsUnread list rest
  frame_unread none = (
    omega (arith, size, left, length-append frame after, more),
    ap (batch_in list) (ap (λ (n : ℕ). take n (drop 5 rest)) size ∙ ap (take (length frame)) behind ∙ take_at frame after (length frame) refl) ∙ none,
  )
    where
      at : drop 1 rest ≡ to_be_bytes w32 (length frame) ++ (frame ++ after)
      at = ap (drop 1) is ∙ append_assoc (to_be_bytes w32 (length frame)) frame after

      size : claimed rest ≡ length frame
      size = spells (length frame) (drop 1 rest) (frame ++ after) fits at

      left : length (drop 1 rest) ≡ 4 + length (frame ++ after)
      left = left_length (length frame) (drop 1 rest) (frame ++ after) fits at

      behind : drop 5 rest ≡ frame ++ after
      behind = ap (drop 5) (is ∙ ap (λ (l : List ℕ). 1 ∷ l) (append_assoc (to_be_bytes w32 (length frame)) frame after))
          ∙ drop_at (1 ∷ to_be_bytes w32 (length frame)) (frame ++ after) 5 (omega (arith, four))

-- the frame of an open gate here is bad
pub walking_bad : (bytes rest : List ℕ) (place : ℕ) (list : List Record) (judge : Logged) → IsWalking bytes rest place list judge → is_open rest ≡ true
    → IsBroken rest ⊎ IsUnread list rest → HasBadFrame bytes place
walking_bad bytes rest place list judge w gate bad =
    let here : drop place bytes ≡ rest = ap (drop place) w.is ∙ drop_at w.front rest place w.size in
    let front : take place bytes ≡ w.front = ap (take place) w.is ∙ take_at w.front rest place w.size in
    record {
      frames = w.frames;
      list = list;
      front = subst (λ (l : List ℕ). IsFront l w.frames) (sym front) w.passes;
      within = omega (arith, ap length w.is, length-append w.front rest, w.size, w.some);
      read = w.read;
      logged = w.logged;
      gate = ap is_open here ∙ gate;
      bad = subst (λ (l : List ℕ). IsBroken l ⊎ IsUnread list l) (sym here) bad;
    }

-- what the fault of a frame tells
pub frame_fault : (bytes : List ℕ) (place : ℕ) (e : BatchFault) (r : StandbyFault) → (e ≡ batches.Bad → r ≡ faults.BadLog place) → (e ≡ batches.NoMemory → r ≡ faults.NoMemory)
    → (e ≡ batches.Bad → HasBadFrame bytes place) → (r ≡ faults.NoMemory) ⊎ ((at : ℕ) × (r ≡ faults.BadLog at) × HasBadFrame bytes at)
frame_fault bytes place batches.Bad r bad memory has = inr (place, bad refl, has refl)
frame_fault bytes place batches.NoMemory r bad memory has = inl (memory refl)

-- no gate is open here: these are all frames
pub walking_done : (bytes rest : List ℕ) (place : ℕ) (list : List Record) (judge : Logged) → IsWalking bytes rest place list judge → (get_or rest 0 0 ≡ 1 → ⊥)
    → 1 < length bytes → length bytes ≤ longest → image_of bytes ≡ Ok (record { list = list; end = place })
walking_done bytes [] place list judge w shut some fits = absurd (omega (arith, w.some))
walking_done bytes (gate ∷ tail) place list judge w shut some fits =
    ap image_in (image_scan bytes some fits ∙ scan_rests w.frames place bytes (record { front = w.front; gate = gate; tail = tail; is = w.is; shut = shut; passes = w.passes; place = w.size }))
    ∙ ap (held place) w.read

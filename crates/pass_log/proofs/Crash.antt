-- What a crash leaves of a log while a frame is written behind its gate, and while the gate is opened.
use Rattle.std.proofs.Common.{◌≡◌, ◌≢◌, ◌⊎◌, ℕ, zero, suc, ◌+◌, ◌-◌, ◌<◌, ◌≤◌, ◌^◌, min, List, [], ◌∷◌, ◌++◌, length, get_or, take, drop, replicate, Result, Ok, Err, inl, inr, refl, sym, ◌∙◌, ap, subst, arith, append_assoc, length-append, length-drop, take-append-drop}
use Rattle.std.specs.Int.{w32, to_be_bytes}
use Rattle.std.proofs.lemmas.Bool.{cases_eq}
use Rattle.std.proofs.lemmas.Bool.Decides.{nat_tests}
use Rattle.std.proofs.lemmas.List.{append-nil, take_at, drop_at, take_all, drop_more, nil_from_length}
use Rattle.pass_outside.specs.Areas.{Torn, written}
use Rattle.pass_log.specs.Frames.{Frames, before, scan, frames_of, longest, staged, IsFront, Rests}
use Rattle.pass_log.proofs.Scan.{scan_shut, scan_rests, front_append, front_frame}

pub image_short : (bytes : List ℕ) → length bytes ≤ 1 → frames_of bytes ≡ Ok (record { list = []; end = 0 })
image_short bytes short = grind (arith, nat_tests)

pub image_long : (bytes : List ℕ) → longest < length bytes → frames_of bytes ≡ Err longest
image_long bytes long = grind (arith, nat_tests)

pub image_scan : (bytes : List ℕ) → 1 < length bytes → length bytes ≤ longest → frames_of bytes ≡ scan 0 0 bytes
image_scan bytes some fits = grind (arith, nat_tests)

abbrev pub found : List (List ℕ) → ℕ → Result Frames ℕ
found list end = Ok (record { list = list; end = end })

abbrev pub broken : ℕ → Result Frames ℕ
broken place = Err place

-- no bytes are no frames
front_empty : (list : List (List ℕ)) → IsFront [] list → list ≡ []
front_empty list f =
    let shut : 0 ≢ 1 = omega arith in
    let one : scan 0 0 (0 ∷ []) ≡ Ok (record { list = []; end = 0 }) = scan_shut 0 0 [] shut in
    let two : scan 0 0 (0 ∷ []) ≡ Ok (record { list = list ++ []; end = 0 }) = f.passes 0 (0 ∷ []) (omega arith) ∙ ap (before list) (scan_shut 0 0 [] shut) in
    let same : found (list ++ []) 0 ≡ found [] 0 = sym two ∙ one in
    let lists : list ++ [] ≡ [] = ap list_of same in
    sym (append-nil list) ∙ lists
  where
    list_of : Result Frames ℕ → List (List ℕ)
    list_of (Ok r) = r.list
    list_of (Err e) = []

-- a log at rest has that image
pub image_rests : (list : List (List ℕ)) (end : ℕ) (bytes : List ℕ) → Rests list end bytes → length bytes ≤ longest → frames_of bytes ≡ Ok (record { list = list; end = end })
image_rests list end bytes r fits = elim (leq_or (length bytes)) [
  | inl short ↦
      let sum : length bytes ≡ length r.front + suc (length r.tail) = ap length r.is ∙ length-append r.front (r.gate ∷ r.tail) in
      let none : length r.front ≡ 0 = omega (arith, sum, short) in
      let at_start : end ≡ 0 = omega (arith, none, r.place) in
      let empty : r.front ≡ [] = nil_from_length r.front none in
      let no_list : list ≡ [] = front_empty list (subst (λ (f : List ℕ). IsFront f list) empty r.passes) in
      image_short bytes short ∙ ap (λ (l : List (List ℕ)). Ok (record { list = l; end = 0 })) (sym no_list) ∙ ap (λ (n : ℕ). Ok (record { list = list; end = n })) (sym at_start)
  | inr more ↦ image_scan bytes more fits ∙ scan_rests list end bytes r
]
  where
    leq_or : (n : ℕ) → (n ≤ 1) ⊎ (1 < n)
    leq_or zero = inl (omega arith)
    leq_or (suc zero) = inl (omega arith)
    leq_or (suc (suc n)) = inr (omega arith)

-- the bytes up to its end are those of its frames
pub front_is : (list : List (List ℕ)) (end : ℕ) (bytes : List ℕ) (r : Rests list end bytes) → take end bytes ≡ r.front
front_is list end bytes r = ap (take end) r.is ∙ take_at r.front (r.gate ∷ r.tail) end r.place

module _ (list : List (List ℕ)) (end : ℕ) (bytes : List ℕ) (r : Rests list end bytes) where
  size : length bytes ≡ end + suc (length r.tail)
  size = ap length r.is ∙ length-append r.front (r.gate ∷ r.tail) ∙ ap (λ (n : ℕ). n + suc (length r.tail)) r.place

  grouped : bytes ≡ (r.front ++ r.gate ∷ []) ++ r.tail
  grouped = r.is ∙ sym (append_assoc r.front (r.gate ∷ []) r.tail)

  front_size : length (r.front ++ r.gate ∷ []) ≡ end + 1
  front_size = length-append r.front (r.gate ∷ []) ∙ ap (λ (n : ℕ). n + 1) r.place

  gate_stays : take (end + 1) bytes ≡ r.front ++ r.gate ∷ []
  gate_stays = ap (take (end + 1)) grouped ∙ take_at (r.front ++ r.gate ∷ []) r.tail (end + 1) front_size

  -- the closed gate stands in each outcome of a write behind it
  pub torn_behind : (n : ℕ) (c : List ℕ) → Torn (end + 1) n bytes c → Rests list end c
  torn_behind n c torn =
      let whole : min (end + 1) (length bytes) ≡ end + 1 = omega (arith, size) in
      let same : take (end + 1) c ≡ r.front ++ r.gate ∷ [] = ap (λ (k : ℕ). take k c) (sym whole) ∙ torn.front ∙ gate_stays in
      record {
        front = r.front;
        gate = r.gate;
        tail = drop (end + 1) c;
        is = sym (take-append-drop (end + 1) c) ∙ ap (λ (l : List ℕ). l ++ drop (end + 1) c) same ∙ append_assoc r.front (r.gate ∷ []) (drop (end + 1) c);
        shut = r.shut;
        passes = r.passes;
        place = r.place;
      }

  pub behind_bytes : (n : ℕ) (c : List ℕ) → Torn (end + 1) n bytes c → take end c ≡ take end bytes
  unfolding torn_behind
  behind_bytes n c torn = front_is list end c (torn_behind n c torn) ∙ sym (front_is list end bytes r)

-- a whole frame and a closed gate stand behind a gate
pub record Ready (list : List (List ℕ)) (end : ℕ) (frame : List ℕ) (bytes : List ℕ) : Type 0 where
  pub front : List ℕ
  pub gate : ℕ
  pub tail : List ℕ
  pub is : bytes ≡ front ++ gate ∷ (to_be_bytes w32 (length frame) ++ frame ++ 0 ∷ tail)
  pub passes : IsFront front list
  pub place : length front ≡ end

pub written_behind : (list : List (List ℕ)) (end : ℕ) (frame bytes : List ℕ) → Rests list end bytes → Ready list end frame (written bytes (end + 1) (staged frame))
written_behind list end frame bytes r =
    let tail = drop (end + 1 + length (staged frame)) bytes in
    let none : end + 1 - length bytes ≡ 0 = omega (arith, size list end bytes r) in
    let head = to_be_bytes w32 (length frame) in
    record {
      front = r.front;
      gate = r.gate;
      tail = tail;
      passes = r.passes;
      place = r.place;
      is =
          ap (λ (l : List ℕ). (l ++ replicate (end + 1 - length bytes) 0) ++ staged frame ++ tail) (gate_stays list end bytes r)
          ∙ ap (λ (n : ℕ). ((r.front ++ r.gate ∷ []) ++ replicate n 0) ++ staged frame ++ tail) none
          ∙ ap (λ (l : List ℕ). l ++ staged frame ++ tail) (append-nil (r.front ++ r.gate ∷ []))
          ∙ append_assoc (r.front ++ r.gate ∷ []) (staged frame) tail
          ∙ append_assoc r.front (r.gate ∷ []) (staged frame ++ tail)
          ∙ ap (λ (l : List ℕ). r.front ++ r.gate ∷ l) (append_assoc (head ++ frame) (0 ∷ []) tail);
    }

module _ (list : List (List ℕ)) (end : ℕ) (frame : List ℕ) (fits : length frame < 2 ^ 32) where
  -- the frame counts once its gate is open
  opened : (front tail c : List ℕ) → IsFront front list → length front ≡ end → c ≡ front ++ 1 ∷ (to_be_bytes w32 (length frame) ++ frame ++ 0 ∷ tail) → Rests (list ++ frame ∷ []) (end + 5 + length frame) c
  opened front tail c passes place is =
      let head = to_be_bytes w32 (length frame) in
      let four : length head ≡ 4 = refl in
      record {
        front = front ++ (1 ∷ head ++ frame);
        gate = 0;
        tail = tail;
        is = is ∙ sym (append_assoc front (1 ∷ head ++ frame) (0 ∷ tail));
        shut = omega arith;
        passes = front_append front (1 ∷ head ++ frame) list (frame ∷ []) passes (front_frame frame fits);
        place = length-append front (1 ∷ head ++ frame) ∙ omega (arith, place, four, length-append head frame);
      }

  pub opened_bytes : (front tail c : List ℕ) (passes : IsFront front list) (place : length front ≡ end) → c ≡ front ++ 1 ∷ (to_be_bytes w32 (length frame) ++ frame ++ 0 ∷ tail)
      → take (end + 5 + length frame) c ≡ front ++ (1 ∷ to_be_bytes w32 (length frame) ++ frame)
  unfolding opened
  opened_bytes front tail c passes place is = front_is (list ++ frame ∷ []) (end + 5 + length frame) c (opened front tail c passes place is)

  module _ (bytes : List ℕ) (r : Ready list end frame bytes) where
    rest : List ℕ
    rest = to_be_bytes w32 (length frame) ++ frame ++ 0 ∷ r.tail

    ready_size : length bytes ≡ end + suc (length (to_be_bytes w32 (length frame) ++ frame ++ 0 ∷ r.tail))
    ready_size = ap length r.is ∙ length-append r.front (r.gate ∷ (to_be_bytes w32 (length frame) ++ frame ++ 0 ∷ r.tail)) ∙ ap (λ (n : ℕ). n + suc (length (to_be_bytes w32 (length frame) ++ frame ++ 0 ∷ r.tail))) r.place

    pub ready_front : take end bytes ≡ r.front
    ready_front = ap (take end) r.is ∙ take_at r.front (r.gate ∷ (to_be_bytes w32 (length frame) ++ frame ++ 0 ∷ r.tail)) end r.place

    ready_back : drop (end + 1) bytes ≡ to_be_bytes w32 (length frame) ++ frame ++ 0 ∷ r.tail
    ready_back =
        ap (drop (end + 1)) (r.is ∙ sym (append_assoc r.front (r.gate ∷ []) (to_be_bytes w32 (length frame) ++ frame ++ 0 ∷ r.tail)))
        ∙ drop_at (r.front ++ r.gate ∷ []) (to_be_bytes w32 (length frame) ++ frame ++ 0 ∷ r.tail) (end + 1) (length-append r.front (r.gate ∷ []) ∙ ap (λ (n : ℕ). n + 1) r.place)

    -- the frames as they were, or with this one, and the bytes up to their end
    abbrev pub IsEither : List ℕ → Type 0
    IsEither c = (Rests list end c × (take end c ≡ take end bytes))
        ⊎ (Rests (list ++ frame ∷ []) (end + 5 + length frame) c × (take (end + 5 + length frame) c ≡ take end bytes ++ (1 ∷ to_be_bytes w32 (length frame) ++ frame)))

    -- with whatever byte the gate is
    with_gate : (g : ℕ) (c : List ℕ) → c ≡ r.front ++ g ∷ (to_be_bytes w32 (length frame) ++ frame ++ 0 ∷ r.tail) → IsEither c
    with_gate g c is = elim (cases_eq g 1) [
      | inl one ↦
          let open_now : c ≡ r.front ++ 1 ∷ (to_be_bytes w32 (length frame) ++ frame ++ 0 ∷ r.tail) = is ∙ ap (λ (k : ℕ). r.front ++ k ∷ (to_be_bytes w32 (length frame) ++ frame ++ 0 ∷ r.tail)) one in
          inr (
            opened r.front r.tail c r.passes r.place open_now,
            opened_bytes r.front r.tail c r.passes r.place open_now ∙ ap (λ (l : List ℕ). l ++ (1 ∷ to_be_bytes w32 (length frame) ++ frame)) (sym ready_front),
          )
      | inr shut ↦
          let same : Rests list end c = record { front = r.front; gate = g; tail = to_be_bytes w32 (length frame) ++ frame ++ 0 ∷ r.tail; is = is; shut = shut; passes = r.passes; place = r.place } in
          inl (same, front_is list end c same ∙ sym ready_front)
    ]

    -- each outcome of the write of the gate
    pub torn_gate : (c : List ℕ) → Torn end 1 bytes c → IsEither c
    torn_gate c torn =
        let whole : min end (length bytes) ≡ end = omega (arith, ready_size) in
        let long : length c ≡ length bytes = omega (arith, ready_size, torn.no_shorter, torn.no_longer) in
        let front : take end c ≡ r.front = ap (λ (k : ℕ). take k c) (sym whole) ∙ torn.front ∙ ready_front in
        let all : take (length bytes - (end + 1)) (drop (end + 1) c) ≡ drop (end + 1) c = take_all (length bytes - (end + 1)) (drop (end + 1) c) (omega (arith, length-drop (end + 1) c, long)) in
        let back : drop (end + 1) c ≡ to_be_bytes w32 (length frame) ++ frame ++ 0 ∷ r.tail = sym all ∙ torn.back ∙ ready_back in
        let g = get_or c end 0 in
        with_gate g c (
        sym (take-append-drop end c)
        ∙ ap (λ (l : List ℕ). l ++ drop end c) front
        ∙ ap (λ (l : List ℕ). r.front ++ l) (drop_more c end 0 (omega (arith, long, ready_size)))
        ∙ ap (λ (l : List ℕ). r.front ++ g ∷ l) back)

    -- the gate is open
    gate_open : written bytes end (1 ∷ []) ≡ r.front ++ 1 ∷ (to_be_bytes w32 (length frame) ++ frame ++ 0 ∷ r.tail)
    gate_open =
        let none : end - length bytes ≡ 0 = omega (arith, ready_size) in
        ap (λ (l : List ℕ). (l ++ replicate (end - length bytes) 0) ++ (1 ∷ []) ++ drop (end + 1) bytes) ready_front
        ∙ ap (λ (n : ℕ). (r.front ++ replicate n 0) ++ (1 ∷ []) ++ drop (end + 1) bytes) none
        ∙ ap (λ (l : List ℕ). l ++ (1 ∷ []) ++ drop (end + 1) bytes) (append-nil r.front)
        ∙ append_assoc r.front (1 ∷ []) (drop (end + 1) bytes)
        ∙ ap (λ (l : List ℕ). r.front ++ 1 ∷ l) ready_back

    pub written_gate : Rests (list ++ frame ∷ []) (end + 5 + length frame) (written bytes end (1 ∷ []))
    written_gate = opened r.front r.tail (written bytes end (1 ∷ [])) r.passes r.place gate_open

    pub written_bytes : take (end + 5 + length frame) (written bytes end (1 ∷ [])) ≡ take end bytes ++ (1 ∷ to_be_bytes w32 (length frame) ++ frame)
    written_bytes =
        opened_bytes r.front r.tail (written bytes end (1 ∷ [])) r.passes r.place gate_open ∙ ap (λ (l : List ℕ). l ++ (1 ∷ to_be_bytes w32 (length frame) ++ frame)) (sym ready_front)

-- a frame that is written behind a log leaves the bytes up to its end
pub written_front : (list : List (List ℕ)) (end : ℕ) (frame bytes : List ℕ) (r : Rests list end bytes) → length frame < 2 ^ 32 → take end (written bytes (end + 1) (staged frame)) ≡ take end bytes
unfolding written_behind
written_front list end frame bytes r fits =
    ready_front list end frame fits (written bytes (end + 1) (staged frame)) (written_behind list end frame bytes r) ∙ sym (front_is list end bytes r)

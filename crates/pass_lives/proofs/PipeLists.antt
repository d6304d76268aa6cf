-- The pipes of a process one by one, and the steps on them.
use Rattle.std.proofs.Common.{◌≡◌, ℕ, suc, ◌+◌, ◌-◌, ◌<◌, List, [], ◌∷◌, ◌++◌, length, refl, ap, ◌∙◌, arith, Bool, true, false, cond, length-append}
use Rattle.std.specs.Prelude.{Option, Some, None, drop, filter, filter_map, map, slice_get, if◌then◌else◌}
use Rattle.std.specs.Option.{option_map_or}
use Rattle.std.specs.List.{cons_option, range_with_len}
use Rattle.std.specs.FinMap as finite_map
use Rattle.pass_entry.specs.declared.entry.Entry.{Entry}
use Rattle.pass_entry.specs.declared.objects.Descriptor.{Descriptor}
use Rattle.pass_entry.proofs.Places.{slice_get-last}
use Rattle.pass_plain.specs.Calls.{Made, Step, is_last}
use Rattle.pass_plain.specs.Legal.{ends_call}
use Rattle.pass_plain.specs.Processes.{Held, Process, is_pipe}
use Rattle.pass_lives.specs.Pipes.{pipe_at, pipes_from}

-- under one number more
pub pipes_step : (held : Held) (fd : ℕ) → fd < 64 → pipes_from held fd ≡ cons_option (pipe_at held fd) (pipes_from held (fd + 1))
pipes_step held fd low =
    ap (λ n. filter is_pipe (filter_map (finite_map.get held) (range_with_len fd n))) (let z : 64 - fd ≡ suc (64 - (fd + 1)) = omega (arith, low) in z)
    ∙ front (finite_map.get held fd) (filter_map (finite_map.get held) (range_with_len (fd + 1) (64 - (fd + 1))))
  where
    by_kind : (b : Bool) (d : Descriptor) (ds : List Descriptor) → cond b (d ∷ ds) ds ≡ cons_option (if b then Some d else None) ds
    by_kind true d ds = refl
    by_kind false d ds = refl

    front : (o : Option Descriptor) (ds : List Descriptor) → filter is_pipe (cons_option o ds) ≡ cons_option (option_map_or (λ (d : Descriptor). if is_pipe d then Some d else None) o None) (filter is_pipe ds)
    front None ds = refl
    front (Some d) ds = by_kind (is_pipe d) d (filter is_pipe ds)

-- the first one
pub first_is : {X : Type 0} (xs : List X) (x : X) → slice_get xs 0 ≡ Some x → xs ≡ x ∷ drop 1 xs
first_is [] x at = absurd (cc)
first_is (y ∷ ys) x at = ap (λ z. z ∷ ys) (some_same y x at)
  where
    some_same : {X : Type 0} (a b : X) → Some a ≡ Some b → a ≡ b
    some_same a b e = cc

pub none_is : {X : Type 0} (xs : List X) → slice_get xs 0 ≡ None → xs ≡ []
none_is [] at = refl
none_is (x ∷ xs) at = absurd (cc)

-- behind the steps on the pipes before it stands the one on the next, and behind all the last step
pub next_in : (f : Descriptor → Step) (done rest : List Descriptor) (d : Descriptor) (last : Step) → slice_get (map f (done ++ d ∷ rest) ++ last ∷ []) (length done) ≡ Some (f d)
next_in f [] rest d last = refl
next_in f (x ∷ done) rest d last = next_in f done rest d last

pub last_in : (f : Descriptor → Step) (done : List Descriptor) (last : Step) → slice_get (map f done ++ last ∷ []) (length done) ≡ Some last
last_in f [] last = refl
last_in f (x ∷ done) last = last_in f done last

-- the last of some entries
pub at_end : (made : Made) (m : ℕ × Entry) → slice_get (made ++ m ∷ []) (length (made ++ m ∷ []) - 1) ≡ Some m
at_end made m =
    let longer = length-append made (m ∷ []) in
    ap (λ n. slice_get (made ++ m ∷ []) n) (let z : length (made ++ m ∷ []) - 1 ≡ length made = omega (arith, longer) in z) ∙ slice_get-last made m

-- whether they are a whole call
pub ends_with : (p : Process) (made : Made) (m : ℕ × Entry) (b : Bool) → is_last p m.1 ≡ b → ends_call p (made ++ m ∷ []) ≡ b
ends_with p made m b last = ap (λ (o : Option (ℕ × Entry)). option_map_or (λ s. is_last p s.1) o false) (at_end made m) ∙ last

-- what goes on behind the first pipe
pub shorter : (ds rest : List Descriptor) (d : Descriptor) → slice_get ds 0 ≡ Some d → rest ≡ drop 1 ds → length rest < length ds
shorter ds rest d at is = let whole = ap length (first_is ds d at) in let fewer = ap length is in omega (arith, whole, fewer)

-- A keeper after a call, from what is kept of its disk.
use Rattle.std.proofs.Common.{◌≡◌, ℕ, zero, suc, Bool, true, false, List, [], ◌∷◌, ◌++◌, length, map, Some, Result, Ok, Err, OnOk, OnErr, is_err, refl, sym, ◌∙◌, ap, subst, arith, Vec}
use Rattle.std.specs.Prelude.{slice_get}
use Rattle.std.specs.declared.alloc.Global.{Global}
use Rattle.pass_plain.proofs.Lists.{some_is}
use Rattle.pass_entry.specs.declared.record.Record.{Record}
use Rattle.pass_log.specs.Log.{IsFrameOf}
use Rattle.pass_keep.specs.Parts.{lists_of, AreFrames}
use Rattle.std.proofs.lemmas.List.{map-append}
use Rattle.std.proofs.lemmas.Bool.{false≢true}
use Rattle.pass_entry.specs.declared.entry.Synced.{Synced}
use Rattle.pass_outside.specs.Moments.{Moment}
use Rattle.pass_log.specs.declared.log.Log.{Log}
use Rattle.pass_keep.specs.declared.keeper.Keeper.{Keeper}
use Rattle.pass_keep.specs.Kept.{Noted, synced_of, IsKept}
use Rattle.pass_keep.specs.Keepers.{Past, with_sync, IsKeeper}

-- the same at other names
kept_at : {D : Type 0} (view : D → Moment) (past : Past) (d e : D) (l j : Log) (n k : ℕ) (xs : List Noted) → e ≡ d → j ≡ l → k ≡ n → IsKept past.story (view d) l n xs → IsKept past.story (view e) j k xs
kept_at view past d e l j n k xs disk log durable kept =
    subst (λ (x : ℕ). IsKept past.story (view e) j x xs) (sym durable)
    (subst (λ (x : Log). IsKept past.story (view e) x n xs) (sym log) (subst (λ x. IsKept past.story (view x) l n xs) (sym disk) kept))

-- no sync more
pub keeper_still : {D : Type 0} (view : D → Moment) (past : Past) (k new : Keeper D) → IsKeeper view past k → (disk : D) (log : Log) → IsKept past.story (view disk) log k.durable past.noted
    → new.disk ≡ disk → new.log ≡ log → new.durable ≡ k.durable → new.syncs.items ≡ k.syncs.items → IsKeeper view past new
keeper_still view past k new keeper disk log kept is_disk is_log is_durable is_syncs = record {
  story = keeper.story;
  kept = kept_at view past disk new.disk log new.log k.durable new.durable past.noted is_disk is_log is_durable kept;
  syncs = is_syncs ∙ keeper.syncs;
}

-- one more, at this moment
pub keeper_noted : {D : Type 0} (view : D → Moment) (past : Past) (k new : Keeper D) → IsKeeper view past k → (disk : D) (log : Log) (upto : ℕ) (files : ℕ → Bool)
    → IsKept past.story (view disk) log upto (past.noted ++ record { calls = (view disk).calls; entries = upto; files = files } ∷ [])
    → new.disk ≡ disk → new.log ≡ log → new.durable ≡ upto → new.syncs.items ≡ k.syncs.items ++ record { calls = (view disk).calls; entries = upto } ∷ []
    → IsKeeper view (with_sync past (view new.disk).calls upto files) new
keeper_noted view past k new keeper disk log upto files kept is_disk is_log is_durable is_syncs =
    let x : Noted = record { calls = (view disk).calls; entries = upto; files = files } in
    let y : Noted = record { calls = (view new.disk).calls; entries = upto; files = files } in
    let same : x ≡ y = ap (λ d. noted_at (view d).calls upto files) (sym is_disk) in
    record {
      story = keeper.story;
      kept = subst (λ (z : Noted). IsKept past.story (view new.disk) new.log new.durable (past.noted ++ z ∷ [])) same
          (kept_at view past disk new.disk log new.log upto new.durable (past.noted ++ x ∷ []) is_disk is_log is_durable kept);
      syncs = is_syncs ∙ ap (λ (l : List Synced). l ++ synced_of x ∷ []) keeper.syncs ∙ ap (λ (z : Noted). map synced_of past.noted ++ synced_of z ∷ []) same
          ∙ sym (map-append synced_of past.noted (y ∷ []));
    }
  where
    noted_at : ℕ → ℕ → (ℕ → Bool) → Noted
    noted_at calls entries files = record { calls = calls; entries = entries; files = files }

-- which answer it was

pub err_case : {T E : Type 0} (P : Type 0) (r : Result T E) (b : Bool) → b ≡ is_err r → b ≡ true → OnErr r P → P
err_case {T} {E} P (Ok x) b is failed h = absurd (false≢true (sym is ∙ failed))
err_case {T} {E} P (Err e) b is failed h = h

pub ok_case : {T E : Type 0} (P : Type 0) (r : Result T E) (b : Bool) → b ≡ is_err r → b ≡ false → OnOk r P → P
ok_case {T} {E} P (Ok x) b is went h = h
ok_case {T} {E} P (Err e) b is went h = absurd (false≢true (sym went ∙ is))

-- each frame is one of some records
pub frame_some : (parts : List (List Record)) (frames : List (Vec ℕ Global)) → AreFrames parts frames → (i : ℕ) (frame : Vec ℕ Global) → slice_get frames i ≡ Some frame
    → (batch : List Record) × IsFrameOf batch frame.items
frame_some [] [] are i frame is = absurd (cc)
frame_some (p ∷ parts) (f ∷ frames) are zero frame is = (p, subst (λ (x : Vec ℕ Global). IsFrameOf p x.items) (some_is f frame is) are.0)
frame_some (p ∷ parts) (f ∷ frames) are (suc i) frame is = frame_some parts frames are.1 i frame is
frame_some [] (f ∷ frames) are i frame is = absurd are
frame_some (p ∷ parts) [] are i frame is = absurd are

pub frames_count : (parts : List (Vec Record Global)) (frames : List (Vec ℕ Global)) → AreFrames (lists_of parts) frames → length frames ≡ length parts
frames_count [] [] are = refl
frames_count (p ∷ parts) (f ∷ frames) are = let more = frames_count parts frames are.1 in omega (arith, more)
frames_count [] (f ∷ frames) are = absurd are
frames_count (p ∷ parts) [] are = absurd are

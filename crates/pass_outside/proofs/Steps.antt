-- One device call of a disk in memory.
use Rattle.std.proofs.Common.{◌≡◌, ◌⊎◌, ℕ, ◌+◌, ◌<◌, ◌≤◌, max, List, [], ◌∷◌, ◌++◌, length, Vec, Ok, inl, inr, ⊎_elim, refl, sym, ◌∙◌, ap, subst, arith}
use Rattle.std.specs.declared.alloc.Global.{Global}
use Rattle.pass_outside.specs.declared.disk.Area.{Area}
use Rattle.pass_outside.specs.declared.change.Change.TheVariants.{Wrote}
use Rattle.pass_outside.specs.declared.change.Event.{Event}
use Rattle.pass_outside.specs.Areas.{Image, area_of, with_area, written, Torn, OnArea}
use Rattle.pass_outside.specs.Moments.{IsDeviceCall}
use Rattle.pass_outside.specs.Scripts.{Script, HasBegun}
use Rattle.pass_outside.specs.History.{Past, changed, leaves, next, after_all, beginning, latest}
use Rattle.pass_outside.specs.Memory.{moment_of}
use Rattle.pass_outside.specs.Images.{pushed, torn_written, on_area, area_with}

pub image_is : (i j : Image) → i.log ≡ j.log → i.store ≡ j.store → i ≡ j
image_is i j a b = λ k. record { log = a k; store = b k }

latest-push : (es : List Event) (e : Event) → latest (es ++ e ∷ []) ≡ max (latest es) e.call
latest-push [] e = omega arith
latest-push (d ∷ es) e = ap (max d.call) (latest-push es e) ∙ omega arith

-- at this moment there is no other since
pub now_only : (p : Past) (es : List Event) (t : ℕ) → latest es ≤ t → ((c : Image) → p.left_since t c → p.may_leave c) → (c : Image) → (after_all p es).left_since t c → (after_all p es).may_leave c
now_only p [] t le h = h
now_only p (e ∷ es) t le h = now_only (next p e) es t (omega (arith, le)) (λ c left. ⊎_elim (λ early. absurd (omega (arith, le, early.0))) (λ m. m) left)

module _ (first : Image) (es vs : List Event) (e : Event) (grown : vs ≡ es ++ e ∷ []) where
  next_is : after_all (beginning first) vs ≡ next (after_all (beginning first) es) e
  next_is = ap (after_all (beginning first)) grown ∙ pushed (beginning first) es e

  pub seen_new : (after_all (beginning first) vs).seen ≡ with_area e.area (changed e.change (area_of e.area (after_all (beginning first) es).seen)) (after_all (beginning first) es).seen
  seen_new = ap (λ (x : Past). x.seen) next_is

  -- what is read is what the areas hold
  pub reads_new : (old new : Image) → old.log ≡ (after_all (beginning first) es).seen.log → old.store ≡ (after_all (beginning first) es).seen.store
      → new ≡ with_area e.area (changed e.change (area_of e.area old)) old → new ≡ (after_all (beginning first) vs).seen
  reads_new old new a b h =
      let same : old ≡ (after_all (beginning first) es).seen = image_is old (after_all (beginning first) es).seen a b in
      h ∙ ap (λ (i : Image). with_area e.area (changed e.change (area_of e.area i)) i) same ∙ sym seen_new

  pub ordered_new : (calls : ℕ) → latest es ≤ calls → e.call ≡ calls + 1 → latest vs ≤ calls + 1
  ordered_new calls le now = omega (arith, ap latest grown, latest-push es e, le, now)

  pub may_new : (c : Image) → (after_all (beginning first) vs).may_leave c → leaves (after_all (beginning first) es) e.area e.change c
  may_new c may = subst (λ (x : Past). x.may_leave c) next_is may

  pub new_may : (c : Image) → leaves (after_all (beginning first) es) e.area e.change c → (after_all (beginning first) vs).may_leave c
  new_may c left = subst (λ (x : Past). x.may_leave c) (sym next_is) left

  pub call_new : {T E : Type 0} (x : T) (old new : Script) → HasBegun old new → e.call ≡ old.calls + 1
      → IsDeviceCall {T = T} {E = E} (moment_of (after_all (beginning first) es) old) (moment_of (after_all (beginning first) vs) new) (Ok x)
  call_new x old new begun now =
      let calls : new.calls ≡ old.calls + 1 = ap (λ (s : Script). s.calls) begun.counted in
      let faults : new.faults ≡ old.faults = ap (λ (s : Script). s.faults) begun.counted in
      record {
        tells = refl;
        rises = omega (arith, faults);
        one_more = λ _. calls;
        ok = λ _. (faults, begun.goes);
        err = λ failed. absurd (cc failed);
        adds = record {
          later = omega (arith, calls);
          nothing_else = λ t c le left.
              let here : ((t < e.call) × (after_all (beginning first) es).left_since t c) ⊎ leaves (after_all (beginning first) es) e.area e.change c = subst (λ (x : Past). x.left_since t c) next_is left in
              ⊎_elim (λ early. inl early.1) (λ m. inr (new_may c m)) here;
        };
        keeps = λ t c le before.
            let early : t < e.call = omega (arith, le, now) in
            let here : (next (after_all (beginning first) es) e).left_since t c = inl (early, before) in
            subst (λ (x : Past). x.left_since t c) (sym next_is) here;
      }

-- a write

module _ (first : Image) (es vs : List Event) (call : ℕ) (area : Area) (at : ℕ) (bytes : List ℕ) (v : Vec ℕ Global) (is : v.items ≡ bytes)
    (grown : vs ≡ es ++ (record { call = call; area = area; change = Wrote at v }) ∷ []) where
  event : Event
  event = record { call = call; area = area; change = Wrote at v }

  pub write_follows : (c : Image) → (after_all (beginning first) vs).may_leave c → (d : Image) × (after_all (beginning first) es).may_leave d × OnArea area (Torn at (length bytes)) d c
  write_follows c may =
      let left = may_new first es vs (record { call = call; area = area; change = Wrote at v }) grown c may in
      (left.0, left.1, subst (λ (l : List ℕ). OnArea area (Torn at (length l)) left.0 c) is left.2)

  pub write_reaches : (c : Image) → ((d : Image) × (after_all (beginning first) es).may_leave d × OnArea area (Torn at (length bytes)) d c) → (after_all (beginning first) vs).may_leave c
  write_reaches c left =
      new_may first es vs (record { call = call; area = area; change = Wrote at v }) grown c (left.0, left.1, subst (λ (l : List ℕ). OnArea area (Torn at (length l)) left.0 c) (sym is) left.2)

  pub write_seen : (after_all (beginning first) vs).seen ≡ with_area area (written (area_of area (after_all (beginning first) es).seen) at bytes) (after_all (beginning first) es).seen
  write_seen =
      let old = (after_all (beginning first) es).seen in
      seen_new first es vs (record { call = call; area = area; change = Wrote at v }) grown ∙ ap (λ (l : List ℕ). with_area area (written (area_of area old) at l) old) is

  pub write_content : OnArea area (Torn at (length bytes)) (after_all (beginning first) es).seen (after_all (beginning first) vs).seen
  write_content =
      let old = (after_all (beginning first) es).seen in
      subst (OnArea area (Torn at (length bytes)) old) (sym write_seen)
      (on_area area (Torn at (length bytes)) (written (area_of area old) at bytes) old (torn_written (area_of area old) at bytes))

  pub write_area : area_of area (after_all (beginning first) vs).seen ≡ written (area_of area (after_all (beginning first) es).seen) at bytes
  write_area =
      let old = (after_all (beginning first) es).seen in
      ap (area_of area) write_seen ∙ area_with area (written (area_of area old) at bytes) old

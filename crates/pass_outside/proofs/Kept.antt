-- What is kept of all changes is one of the images that a crash may leave.
use Rattle.std.proofs.Common.{◌≡◌, ℕ, ◌+◌, ◌-◌, ◌<◌, Bool, true, false, List, Vec, [], ◌∷◌, ◌++◌, length, take, replicate, nat_lt, count_by, if◌then◌else◌, refl, sym, ◌∙◌, ap, subst, arith}
use Rattle.std.proofs.lemmas.Bool.Decides.{nat_tests}
use Rattle.std.proofs.lemmas.List.Recursion.{is_count_by}
use Rattle.pass_outside.specs.declared.disk.Area.{Area}
use Rattle.pass_outside.specs.declared.disk.Area.TheVariants.{Log, Store}
use Rattle.pass_outside.specs.declared.change.Change.{Change}
use Rattle.pass_outside.specs.declared.change.Change.TheVariants.{Wrote, Cut, Synced}
use Rattle.pass_outside.specs.declared.change.Event.{Event}
use Rattle.pass_outside.specs.declared.keep.Keep.{Keep}
use Rattle.pass_outside.specs.declared.keep.Keep.TheVariants.{Old, New, Fill}
use Rattle.pass_outside.specs.Areas.{Image, area_of, other, with_area, written, Torn, CutBack}
use Rattle.pass_outside.specs.History.{Past, changed, leaves, next, after_all, beginning}
use Rattle.std.specs.declared.alloc.Global.{Global}
use Rattle.pass_outside.specs.Keeping.{kept_change, kept_write, kept_cut, kept_all, syncs, is_sync, syncs_of}
use Rattle.pass_outside.specs.Images.{torn_written, torn_none, torn_filled, cut_done, cut_none, cut_filled, on_area, area_with, with_same}

-- a write or a cut, kept in any way, makes an image of an image
step_may : (p : Past) (i : Image) (area : Area) (change : Change) (keep : Keep) → p.may_leave i → (change ≡ Synced → area_of area i ≡ area_of area p.seen)
    → leaves p area change (with_area area (kept_change keep change (area_of area i)) i)
step_may p i area (Wrote at bytes) Old may same = (i, may, on_area area (Torn at (length bytes.items)) (area_of area i) i (torn_none (area_of area i) at (length bytes.items)))
step_may p i area (Wrote at bytes) New may same = (i, may, on_area area (Torn at (length bytes.items)) (written (area_of area i) at bytes.items) i (torn_written (area_of area i) at bytes.items))
step_may p i area (Wrote at bytes) (Fill b) may same =
    (i, may, on_area area (Torn at (length bytes.items)) (written (area_of area i) at (replicate (length bytes.items) b)) i (torn_filled (area_of area i) at (length bytes.items) b))
step_may p i area (Cut n) Old may same = (i, may, on_area area (CutBack n) (area_of area i) i (cut_none (area_of area i) n))
step_may p i area (Cut n) New may same = (i, may, on_area area (CutBack n) (take n (area_of area i)) i (cut_done (area_of area i) n))
step_may p i area (Cut n) (Fill b) may same = (i, may, on_area area (CutBack n) (take n (area_of area i) ++ replicate (length (area_of area i) - n) b) i (cut_filled (area_of area i) n b))
step_may p i area Synced Old may same = (subst p.may_leave (sym (with_same area i)) may, area_with area (area_of area i) i ∙ same refl)
step_may p i area Synced New may same = (subst p.may_leave (sym (with_same area i)) may, area_with area (area_of area i) i ∙ same refl)
step_may p i area Synced (Fill b) may same = (subst p.may_leave (sym (with_same area i)) may, area_with area (area_of area i) i ∙ same refl)

-- an area that is synced later stays what is read
step_same : (at area : Area) (change : Change) (how keep : Keep) (i seen : Image) (left : ℕ) → how ≡ (if nat_lt 0 left then New else keep) → (at ≡ area → 0 < left)
    → area_of at i ≡ area_of at seen → area_of at (with_area area (kept_change how change (area_of area i)) i) ≡ area_of at (with_area area (changed change (area_of area seen)) seen)
step_same Log Log change how keep i seen left is must same =
    let some : 0 < left = must refl in
    let later : nat_lt 0 left ≡ true = grind (arith, nat_tests) in
    ap (λ (k : Keep). kept_change k change i.log) (is ∙ ap (λ (b : Bool). if b then New else keep) later) ∙ ap (changed change) same
step_same Log Store change how keep i seen left is must same = same
step_same Store Log change how keep i seen left is must same = same
step_same Store Store change how keep i seen left is must same =
    let some : 0 < left = must refl in
    let later : nat_lt 0 left ≡ true = grind (arith, nat_tests) in
    ap (λ (k : Keep). kept_change k change i.store) (is ∙ ap (λ (b : Bool). if b then New else keep) later) ∙ ap (changed change) same

-- a sync is one of its own area
sync_here : (area : Area) (change : Change) → change ≡ Synced → syncs area area change ≡ true
sync_here Log change is = ap (syncs Log Log) is
sync_here Store change is = ap (syncs Store Store) is

longer : (b : Bool) (n : ℕ) → 0 < n → 0 < (if b then 1 + n else n)
longer true n some = omega arith
longer false n some = some

-- what is kept stays an image, and in an area that is synced later it is what is read
kept_on : (keep : Keep) (p : Past) (i : Image) (es : List Event) → p.may_leave i → ((at : Area) → 0 < syncs_of at es → area_of at i ≡ area_of at p.seen)
    → (after_all p es).may_leave (kept_all keep i es)
kept_on keep p i [] may same = may
kept_on keep p i (e ∷ es) may same =
    let left = syncs_of e.area es in
    let how = if nat_lt 0 left then New else keep in
    kept_on keep (next p e) (with_area e.area (kept_change how e.change (area_of e.area i)) i) es
    (step_may p i e.area e.change how may (λ is. same e.area (sooner is)))
    (λ at some. step_same at e.area e.change how keep i p.seen left refl (λ same_area. subst (λ (a : Area). 0 < syncs_of a es) same_area some) (same at (later at some)))
  where
    sooner : e.change ≡ Synced → 0 < syncs_of e.area (e ∷ es)
    sooner is = subst (λ (b : Bool). 0 < (if b then 1 + syncs_of e.area es else syncs_of e.area es)) (sym (sync_here e.area e.change is)) (omega arith)

    later : (at : Area) → 0 < syncs_of at es → 0 < syncs_of at (e ∷ es)
    later at some = longer (is_sync at e) (syncs_of at es) some

-- as many as pass the test
pub syncs_counted : (area : Area) (es : List Event) → syncs_of area es ≡ count_by (is_sync area) es
syncs_counted area es = is_count_by (syncs_of area) (is_sync area) refl (λ e es. refl) es

pub kept_may : (keep : Keep) (first : Image) (es : List Event) → (after_all (beginning first) es).may_leave (kept_all keep first es)
kept_may keep first es = kept_on keep (beginning first) first es refl (λ at some. refl)

-- one change more

-- where no sync is added, the same syncs are left
syncs_pushed : (area : Area) (es : List Event) (e : Event) → is_sync area e ≡ false → syncs_of area (es ++ e ∷ []) ≡ syncs_of area es
syncs_pushed area [] e no_sync = ap (λ (b : Bool). if b then 1 + 0 else 0) no_sync
syncs_pushed area (d ∷ es) e no_sync = ap (λ (n : ℕ). if is_sync area d then 1 + n else n) (syncs_pushed area es e no_sync)

-- where one is added, one is left
syncs_more : (area : Area) (es : List Event) (e : Event) → is_sync area e ≡ true → 0 < syncs_of area (es ++ e ∷ [])
syncs_more area [] e sync = subst (λ (b : Bool). 0 < (if b then 1 + 0 else 0)) (sym sync) (omega arith)
syncs_more area (d ∷ es) e sync = longer (is_sync area d) (syncs_of area (es ++ e ∷ [])) (syncs_more area es e sync)

-- one step of the definition
abbrev kept_next : Keep → ℕ → Event → Image → Image
kept_next keep left e i = with_area e.area (kept_change (if nat_lt 0 left then New else keep) e.change (area_of e.area i)) i

-- a change more that is no sync
pub kept_pushed : (keep : Keep) (i : Image) (es : List Event) (e : Event) → ((area : Area) → is_sync area e ≡ false)
    → kept_all keep i (es ++ e ∷ []) ≡ with_area e.area (kept_change keep e.change (area_of e.area (kept_all keep i es))) (kept_all keep i es)
kept_pushed keep i [] e no_sync = refl
kept_pushed keep i (d ∷ es) e no_sync =
    ap (λ (n : ℕ). kept_all keep (kept_next keep n d i) (es ++ e ∷ [])) (syncs_pushed d.area es e (no_sync d.area))
    ∙ kept_pushed keep (kept_next keep (syncs_of d.area es) d i) es e no_sync

-- what is kept of an area hangs on that area alone
kept_apart : (at : Area) (keep : Keep) (i j : Image) (es : List Event) → area_of at i ≡ area_of at j → area_of at (kept_all keep i es) ≡ area_of at (kept_all keep j es)
kept_apart at keep i j [] same = same
kept_apart at keep i j (e ∷ es) same =
    kept_apart at keep (kept_next keep (syncs_of e.area es) e i) (kept_next keep (syncs_of e.area es) e j) es (by_area at e.area e.change (if nat_lt 0 (syncs_of e.area es) then New else keep) same)
  where
    by_area : (at area : Area) (change : Change) (how : Keep) → area_of at i ≡ area_of at j → area_of at (with_area area (kept_change how change (area_of area i)) i) ≡ area_of at (with_area area (kept_change how change (area_of area j)) j)
    by_area Log Log change how same = ap (kept_change how change) same
    by_area Log Store change how same = same
    by_area Store Log change how same = same
    by_area Store Store change how same = ap (kept_change how change) same

same_with : (area : Area) (bytes : List ℕ) (i j : Image) → area_of (other area) i ≡ area_of (other area) j → with_area area bytes i ≡ with_area area bytes j
same_with Log bytes i j same = ap (λ (l : List ℕ). record { log = bytes; store = l }) same
same_with Store bytes i j same = ap (λ (l : List ℕ). record { log = l; store = bytes }) same

kept_synced : (keep : Keep) (old : List ℕ) → kept_change keep Synced old ≡ old
kept_synced Old old = refl
kept_synced New old = refl
kept_synced (Fill b) old = refl

no_sync_there : (a : Area) → syncs (other a) a Synced ≡ false
no_sync_there Log = refl
no_sync_there Store = refl

-- in the other area two ways of keeping a change come to the same, unless it is a change of that area
other_same : (a area : Area) (change : Change) (first second : Keep) (i : Image) → (area ≡ other a → first ≡ second)
    → area_of (other a) (with_area area (kept_change first change (area_of area i)) i) ≡ area_of (other a) (with_area area (kept_change second change (area_of area i)) i)
other_same Log Log change first second i same = refl
other_same Log Store change first second i same = ap (λ (k : Keep). kept_change k change i.store) (same refl)
other_same Store Log change first second i same = ap (λ (k : Keep). kept_change k change i.log) (same refl)
other_same Store Store change first second i same = refl

-- a sync more
pub kept_sync : (keep : Keep) (p : Past) (i : Image) (es : List Event) (call : ℕ) (a : Area) → area_of a i ≡ area_of a p.seen
    → kept_all keep i (es ++ (record { call = call; area = a; change = Synced }) ∷ []) ≡ with_area a (area_of a (after_all p es).seen) (kept_all keep i es)
kept_sync keep p i [] call a same = ap (λ (l : List ℕ). with_area a l i) (kept_synced keep (area_of a i) ∙ same)
kept_sync keep p i (d ∷ es) call a same =
    let s : Event = record { call = call; area = a; change = Synced } in
    let more = syncs_of d.area (es ++ s ∷ []) in
    let left = syncs_of d.area es in
    let i1 = kept_next keep more d i in
    let i2 = kept_next keep left d i in
    let here : 0 < syncs_of a (es ++ s ∷ []) = syncs_more a es s (sync_here a Synced refl) in
    let same1 : area_of a i1 ≡ area_of a (next p d).seen =
    step_same a d.area d.change (if nat_lt 0 more then New else keep) keep i p.seen more refl (λ is. subst (λ (x : Area). 0 < syncs_of x (es ++ s ∷ [])) is here) same in
    let apart : area_of (other a) i1 ≡ area_of (other a) i2 =
    other_same a d.area d.change (if nat_lt 0 more then New else keep) (if nat_lt 0 left then New else keep) i
    (λ is. ap (λ (n : ℕ). if nat_lt 0 n then New else keep) (syncs_pushed d.area es s (ap (λ (x : Area). syncs x a Synced) is ∙ no_sync_there a))) in
    kept_sync keep (next p d) i1 es call a same1
    ∙ same_with a (area_of a (after_all (next p d) es).seen) (kept_all keep i1 es) (kept_all keep i2 es) (kept_apart (other a) keep i1 i2 es apart)

-- what is kept after a write, a cut and a sync

pub kept_after_write : (keep : Keep) (i : Image) (es vs : List Event) (call : ℕ) (area : Area) (at : ℕ) (bytes : List ℕ) (v : Vec ℕ Global) → v.items ≡ bytes → vs ≡ es ++ (record { call = call; area = area; change = Wrote at v }) ∷ []
    → kept_all keep i vs ≡ with_area area (kept_write keep (area_of area (kept_all keep i es)) at bytes) (kept_all keep i es)
kept_after_write keep i es vs call area at bytes v is grown =
    let e : Event = record { call = call; area = area; change = Wrote at v } in
    let old = kept_all keep i es in
    ap (kept_all keep i) grown ∙ kept_pushed keep i es e (λ a. no_write a area)
    ∙ ap (λ (l : List ℕ). with_area area l old) (by_keep keep (area_of area old) ∙ ap (kept_write keep (area_of area old) at) is)
  where
    no_write : (a area : Area) → syncs a area (Wrote at v) ≡ false
    no_write Log Log = refl
    no_write Log Store = refl
    no_write Store Log = refl
    no_write Store Store = refl

    by_keep : (keep : Keep) (old : List ℕ) → kept_change keep (Wrote at v) old ≡ kept_write keep old at v.items
    by_keep Old old = refl
    by_keep New old = refl
    by_keep (Fill b) old = refl

pub kept_after_cut : (keep : Keep) (i : Image) (es vs : List Event) (call : ℕ) (area : Area) (len : ℕ) → vs ≡ es ++ (record { call = call; area = area; change = Cut len }) ∷ []
    → kept_all keep i vs ≡ with_area area (kept_cut keep (area_of area (kept_all keep i es)) len) (kept_all keep i es)
kept_after_cut keep i es vs call area len grown =
    let e : Event = record { call = call; area = area; change = Cut len } in
    let old = kept_all keep i es in
    ap (kept_all keep i) grown ∙ kept_pushed keep i es e (λ a. no_cut a area)
    ∙ ap (λ (l : List ℕ). with_area area l old) (by_keep keep (area_of area old))
  where
    no_cut : (a area : Area) → syncs a area (Cut len) ≡ false
    no_cut Log Log = refl
    no_cut Log Store = refl
    no_cut Store Log = refl
    no_cut Store Store = refl

    by_keep : (keep : Keep) (old : List ℕ) → kept_change keep (Cut len) old ≡ kept_cut keep old len
    by_keep Old old = refl
    by_keep New old = refl
    by_keep (Fill b) old = refl

pub kept_after_sync : (keep : Keep) (i : Image) (es vs : List Event) (call : ℕ) (area : Area) → vs ≡ es ++ (record { call = call; area = area; change = Synced }) ∷ []
    → kept_all keep i vs ≡ with_area area (area_of area (after_all (beginning i) es).seen) (kept_all keep i es)
kept_after_sync keep i es vs call area grown = ap (kept_all keep i) grown ∙ kept_sync keep (beginning i) i es call area refl

use Rattle.std.proofs.Common.{◌≡◌, ℕ, ◌+◌, ◌-◌, ◌<◌, ◌≤◌, ◌∷◌, List, Bool, true, false, length, drop, nat_lt, ap, sym, ◌∙◌, arith, if◌then◌else◌}
use mir.Val.{bool_byte}
use Rattle.std.proofs.lemmas.Bool.Decides.{nat_tests}
use Rattle.std.proofs.lemmas.List.{drop_more}
use Rattle.pass_outside.specs.declared.disk.Area.{Area}
use Rattle.pass_outside.specs.declared.disk.Area.TheVariants.{Log, Store}
use Rattle.pass_outside.specs.declared.change.Event.{Event}
use Rattle.pass_outside.specs.declared.keep.Keep.{Keep}
use Rattle.pass_outside.specs.declared.keep.Keep.TheVariants.{New}
use Rattle.pass_outside.specs.Areas.{Image, area_of, with_area}
use Rattle.pass_outside.specs.Keeping.{kept_change, kept_all, is_sync, syncs_of, pick}
use Rattle.pass_outside.proofs.keep.keep_all.Goals as goal
use Rattle.pass_outside.proofs.keep.keep_all.Goals.{then-later-gt0, else-later-gt0}

-- the number of syncs that are left in one area
picked : (area : Area) (log store : ℕ) (es : List Event) → log ≡ syncs_of Log es → store ≡ syncs_of Store es → pick area log store ≡ syncs_of area es
picked Log log store es a b = a
picked Store log store es a b = b

one_less : (b : Bool) (n : ℕ) {m k : ℕ} → m ≡ (if b then 1 + n else n) → k ≡ bool_byte b → m - k ≡ n
one_less true n a b = omega (arith, a, b)
one_less false n a b = omega (arith, a, b)

some : (n : ℕ) → 0 < n → nat_lt 0 n ≡ true
some n h = grind (arith, nat_tests)

none : (n : ℕ) → n ≤ 0 → nat_lt 0 n ≡ false
none n h = grind (arith, nat_tests)

pub loop-event-preserved : goal.loop-event-preserved
loop-event-preserved c =
    let i = c.loop-event.event-index in
    let es = c.args.events.now in
    let e = c.event-item.result in
    let keep = c.args.keep in
    let left = drop (i + 1) es in
    let v = c.loop-event.invariant in
    let within : i < length es = omega (arith, c.loop-event-test.true) in
    let rest : drop i es ≡ e ∷ left = drop_more es i e within ∙ ap (λ (x : Event). x ∷ left) (sym c.event-item.is) in
    let log : c.loop-event.log_syncs - c.from-log_syncs.result ≡ syncs_of Log left = one_less (is_sync Log e) (syncs_of Log left) (v.log ∙ ap (syncs_of Log) rest) (c.from-log_syncs.ensures ∙ ap bool_byte c.sync_in.ensures) in
    let store : c.loop-event.store_syncs - c.from-store_syncs.result ≡ syncs_of Store left = one_less (is_sync Store e) (syncs_of Store left) (v.store ∙ ap (syncs_of Store) rest) (c.from-store_syncs.ensures ∙ ap bool_byte c.sync_in-in-loop-event.ensures) in
    let later : c.left_in-later.result ≡ syncs_of e.area left = c.left_in-later.ensures ∙ picked e.area _ _ left log store in
    let how : c.if-later-gt0.how ≡ (if nat_lt 0 (syncs_of e.area left) then New else keep) =
    elim c.if-later-gt0.branch [
      | then-later-gt0 w ↦ w.how-is ∙ sym (ap (λ (b : Bool). if b then New else keep) (ap (nat_lt 0) (sym later) ∙ some c.left_in-later.result (omega (arith, w.if-later-gt0.true))))
      | else-later-gt0 w ↦ w.how-is ∙ sym (ap (λ (b : Bool). if b then New else keep) (ap (nat_lt 0) (sym later) ∙ none c.left_in-later.result (omega (arith, w.if-later-gt0.false))))
    ] in
    record {
      kept = ap (λ (x : Image). kept_all keep x left) (c.in_ok-keep_change.ensures ∙ ap (λ (k : Keep). with_area e.area (kept_change k e.change (area_of e.area c.loop-event.areas)) c.loop-event.areas) how)
          ∙ sym (ap (kept_all keep c.loop-event.areas) rest) ∙ v.kept;
      log = log;
      store = store;
    }

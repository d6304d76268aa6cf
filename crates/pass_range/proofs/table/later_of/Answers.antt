use Rattle.std.proofs.Common.{◌≡◌, ◌∙◌, ◌+◌, ◌<◌, ◌++◌, ◌∷◌, [], ℕ, List, length, take, get_or, ap, sym}
use Rattle.std.specs.Prelude.{reverse}
use Rattle.std.proofs.lemmas.List.{reverse-append, length_push}
use Rattle.std.proofs.lemmas.Iterator.Adapters.{YieldsList-from_rev_slice}
use Rattle.std.proofs.lemmas.Iterator.Consumers.{YieldsList-turn}
use Rattle.pass_entry.specs.declared.record.Record.{Record}
use Rattle.pass_plain.proofs.Replays.{take-next}
use Rattle.pass_range.specs.Sources.{touch, touch_of, and_then}
use Rattle.pass_range.proofs.table.later_of.Goals as goal

touch_more : (list : List Record) (p b k n : ℕ) (x : Record) → k < length (reverse list) → x ≡ get_or (reverse list) k x → n ≡ k + 1
    → touch p b (reverse (take n (reverse list))) ≡ and_then (touch_of p b x) (touch p b (reverse (take k (reverse list))))
touch_more list p b k n x low is next =
    ap (λ (i : ℕ). touch p b (reverse (take i (reverse list)))) next
    ∙ ap (λ (l : List Record). touch p b (reverse l)) (take-next (reverse list) k x low is)
    ∙ ap (touch p b) (reverse-append (take k (reverse list)) (x ∷ []))

pub loop-one-preserved : goal.loop-one-preserved
loop-one-preserved c = λ p b.
    let list = c.args.list.now in
    let t = YieldsList-turn (YieldsList-from_rev_slice list cc) c.loop-one.yielded _ c.loop-one.yielded_by _ _ c.in-Some.one c.in-Some.is c.next.ensures.steps in
    c.in_ok-note.ensures p b ∙ ap (and_then (touch_of p b c.in-Some.one.now)) (c.loop-one.invariant p b)
    ∙ sym (touch_more list p b (length c.loop-one.yielded) (length (c.loop-one.yielded ++ c.in-Some.one ∷ [])) c.in-Some.one.now t.0 t.1 (length_push c.loop-one.yielded c.in-Some.one))

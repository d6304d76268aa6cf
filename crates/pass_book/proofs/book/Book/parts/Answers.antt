use Rattle.std.proofs.Common.{◌≡◌, ℕ, ◌≤◌, ◌<◌, [], List, All, length, take, drop, get_or, ap, IfOk, Result, Ok, Err, Vec, Global, subst, sym, ◌∙◌, arith}
use Rattle.std.specs.declared.alloc.AllocError.{AllocError}
use Rattle.std.proofs.lemmas.List.{take_all}
use Rattle.pass_entry.specs.declared.entry.Entry.{Entry}
use Rattle.pass_entry.specs.declared.record.Record.{Record}
use Rattle.pass_plain.specs.Sessions.{Session}
use Rattle.pass_book.specs.Tokens.{BookState}
use Rattle.pass_book.specs.Parting.{PartsState, IsParted, lists_of}
use Rattle.pass_book.specs.Records.{entry_lists, AreParts, IsPart, IsCrowded}
use Rattle.pass_book.specs.Views.{session_in}
use Rattle.pass_book.proofs.Counted.{lists_few}
use Rattle.pass_book.proofs.Recording.{are_parts}
use Rattle.pass_book.proofs.Shedding.{length-shed, drop-shed, shed-at}
use Rattle.std.proofs.Math.Nat.{le_trans}
use Rattle.pass_book.proofs.book.Book.parts.Goals as goal

finished : (r : Result (Vec (Vec Record Global) Global) AllocError) (session : Session) (h : List Entry) (from : ℕ) (p : PartsState) → IsParted (drop from (entry_lists session h)) p
    → IfOk r (λ parts. (lists : List (List Record)) → IsParted lists p → IsParted lists (record { full = lists_of parts.items; part = [] }))
    → IfOk r (λ parts. All IsPart (lists_of parts.items)) → IfOk r (λ parts. IsCrowded (lists_of parts.items))
    → IfOk r (λ parts. AreParts session h from (lists_of parts.items))
finished (Ok parts) session h from p is parted each crowded = are_parts session h from (lists_of parts.items) (parted (drop from (entry_lists session h)) is) each crowded
finished (Err e) session h from p is parted each crowded = parted

pub with-requires : goal.with-requires
with-requires c =
    let k = c.self.invariant.1 in
    let i = c.loop-place.place in
    let d = c.index.result.now in
    let lists = entry_lists (session_in c.self.inside.seat.me.0.opened) c.self.inside.entries.items in
    let low : c.self.inside.kept ≤ i = le_trans (subst (λ (b : BookState). b.kept ≤ c.args.from) (sym c.self.view_is) c.requires.kept) c.loop-place.auto.place in
    let all = ap length k.lists ∙ length-shed c.self.inside.kept lists in
    let lt : i < length lists = (let here = c.loop-place-test.true in let len = c.len-place-end.ensures in omega (arith, here, len, all)) in
    let is = c.index.ensures ∙ ap (λ (ls : List (List Record)). get_or ls i d) k.lists ∙ shed-at c.self.inside.kept i lists d low in
    subst (λ (r : List Record). length r ≤ 1027) (sym is) (lists_few (session_in c.self.inside.seat.me.0.opened) c.self.inside.entries.items i d lt)

pub returns : goal.returns
returns c =
    let whole : take c.loop-place.place c.self.inside.slips.items ≡ c.self.inside.slips.items = take_all _ _ (let here = c.loop-place-test.false in let len = c.len-place-end.ensures in omega (arith, here, len)) in
    let kept : c.self.inside.kept ≤ c.args.from = subst (λ (b : BookState). b.kept ≤ c.args.from) (sym c.self.view_is) c.requires.kept in
    let lists = ap (drop c.args.from) (whole ∙ c.self.invariant.1.lists) ∙ drop-shed c.self.inside.kept c.args.from _ kept in
    let P : List (List Record) → Type 0 = λ ls. IsParted ls c.loop-place.parts in
    let Q : BookState → Type 0 = λ b. IfOk c.finish.result (λ parts. AreParts b.book.session b.history c.args.from (lists_of parts.items)) in
    subst Q c.self.view_is (finished c.finish.result _ _ c.args.from c.loop-place.parts (subst P lists c.loop-place.invariant) c.finish.ensures.parted c.finish.ensures.each c.finish.ensures.crowded)

use Rattle.std.proofs.Common.{◌≡◌, ℕ, List, length, subst, sym, arith}
use Rattle.pass_book.specs.Numbers.{IsFileNumber}
use Rattle.pass_file.specs.Desks.{FileDeskView}
use Rattle.pass_store.specs.Closings.{AreByNumber}
use Rattle.pass_store.proofs.Filing.{one_more}
use Rattle.pass_store.proofs.settling.add_file.Goals as goal

pub returns-then-number-len : goal.returns-then-number-len
returns-then-number-len g c =
    let S = g.J.Whose.book.session in
    let h = c.args.registry.now.seen in
    let files = c.args.files.now.items in
    let test = c.if-number-len.true in
    let len = c.len.ensures in
    let long = c.args.files.now.ok.0 in
    let place : c.in-Some.number ≡ length files = omega (arith, test, len, long) in
    let its : IsFileNumber S h c.args.file.what c.in-Some.number = subst (λ (w : ℕ). IsFileNumber S h w c.in-Some.number) c.what.ensures c.in-Some.ensures.number in
    subst (λ (fs : List FileDeskView). AreByNumber S h fs) (sym c.in_ok-push.ensures.items) (one_more S h files c.args.file c.requires (subst (λ (n : ℕ). IsFileNumber S h c.args.file.what n) place its))

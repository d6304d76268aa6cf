use Rattle.std.proofs.Common.{ap, sym, ◌∙◌, subst, refl, ℕ, length}
use Rattle.pass_plain.specs.declared.request.Request.TheVariants as requests
use Rattle.pass_book.specs.Syncs.{Backs}
use Rattle.pass_book.proofs.Prefixes.{prefix_trans}
use Rattle.pass_proc.specs.Procs.{proc_with}
use Rattle.pass_answer.specs.Answers.{HasMoved}
use Rattle.pass_answer.specs.declared.answer.Moved.TheVariants as moved
use Rattle.pass_safe.specs.Syncings.{IsKeeping, KeepingView, kept_entry}
use Rattle.pass_safe.proofs.Ends.{backs_on, by_parts, ended_ok, file_backed, keeping_met, met_backs, no_way, synced_on}
use Rattle.pass_safe.proofs.ending.end_sync.Goals as goal

pub meet_told-requires-clause-book : goal.meet_told-requires-clause-book
meet_told-requires-clause-book g c = c.requires.saved.1.of_book

pub meet_told-requires-clause-synced : goal.meet_told-requires-clause-synced
meet_told-requires-clause-synced g c = (c.args.saved.receipt.calls, c.requires.saved.1.synced)

pub meet_told-requires-clause-within : goal.meet_told-requires-clause-within
meet_told-requires-clause-within g c = c.requires.saved.1.within

pub kept_step-requires-clause-who : goal.kept_step-requires-clause-who
kept_step-requires-clause-who g c = c.meet_told.ensures.who.0 ∙ c.proc.invariant.0.of_who

pub kept_step-requires-clause-kept : goal.kept_step-requires-clause-kept
kept_step-requires-clause-kept g c =
    let S = g.J.Whose.book.session in
    let k = c.args.keeping.now in
    let i = c.proc.inside in
    let q = c.requires.kept in
    let fd = ap (λ (v : KeepingView). v.fd) c.keeping.view_is in (
      k.before.seen,
      q.0,
      k.place,
      subst (λ (n : ℕ). IsKeeping S i.process.who i.number k.before.seen c.meet_told.new.caller.seen n q.0 i.process.state k.place) (sym fd)
          (keeping_met S k i.process i.number i.caller c.meet_told.new.caller i.way c.args.proc.now c.proc.view_is q.0 q.1 c.meet_told.ensures.looked c.proc.invariant.0.of_who),
    )

pub kept_step-requires-clause-backs : goal.kept_step-requires-clause-backs
kept_step-requires-clause-backs g c =
    let S = g.J.Whose.book.session in
    let k = c.args.keeping.now in
    let i = c.proc.inside in
    let q = c.requires.kept in
    let s = c.requires.saved.1 in
    let met = c.meet_told.new.caller in
    let fd = ap (λ (v : KeepingView). v.fd) c.keeping.view_is in
    subst (λ (n : ℕ). Backs S met.seen (length met.seen) met.syncs (kept_entry i.process.who i.number n)) (sym fd)
    (met_backs S k i.process i.number i.caller met i.way c.args.proc.now c.proc.view_is q.0 q.1 c.meet_told.ensures.looked c.proc.invariant.0.of_who c.args.saved q.2 c.meet_told.ensures.told.0 c.meet_told.ensures.told.1 s.synced c.requires.above s.within)

pub returns : goal.returns
returns g c =
    let S = g.J.Whose.book.session in
    let k = c.args.keeping.now in
    let i = c.proc.inside in
    let q = c.requires.kept in
    let s = c.args.saved in
    let met = c.meet_told.new.caller in
    let e = c.kept_step.ensures in
    let fd = ap (λ (v : KeepingView). v.fd) c.keeping.view_is in
    let there = by_parts S k i.process i.number i.caller met i.way c.args.proc.now c.proc.view_is q.0 q.1 c.meet_told.ensures.looked c.proc.invariant.0.of_who in
    let here = subst (λ (n : ℕ). IsKeeping S i.process.who i.number k.before.seen met.seen n q.0 i.process.state k.place) (sym fd)
    (keeping_met S k i.process i.number i.caller met i.way c.args.proc.now c.proc.view_is q.0 q.1 c.meet_told.ensures.looked c.proc.invariant.0.of_who) in
    let made = subst (λ (n : ℕ). HasMoved S i.process.who k.before.seen c.kept_step.new.caller.seen c.kept_step.new.process.state (requests.Sync n) (moved.Synced s.receipt.calls s.receipt.entries)) fd
    (e.call k.before.seen q.0 k.place s.receipt.calls s.receipt.entries here c.requires.above) in
    ended_ok S g.J.Whose.places k (proc_with i.process i.number i.caller i.way) q.0 there (proc_with c.kept_step.new.process i.number c.kept_step.new.caller i.way) e.who.0 refl s.receipt.calls s.receipt.entries made
    (synced_on s.receipt.calls s.receipt.entries s.told.syncs c.kept_step.new.caller.syncs c.requires.saved.1.synced (prefix_trans s.told.syncs met.syncs c.kept_step.new.caller.syncs c.meet_told.ensures.told.1 e.grows))
    (backs_on S k.before.seen q.0 s.receipt.calls s.receipt.entries met.syncs c.kept_step.new.caller.syncs
    (file_backed S k i.process i.number i.caller met i.way c.args.proc.now c.proc.view_is q.0 q.1 c.meet_told.ensures.looked c.proc.invariant.0.of_who s q.2 c.meet_told.ensures.told.0 c.meet_told.ensures.told.1) e.grows)

pub invariant_of-proc : goal.invariant_of-proc
invariant_of-proc g c =
    let i = c.proc.inside in
    let e = c.kept_step.ensures in
    let m = c.meet_told.ensures.who in
    let q = c.requires.kept in
    let there = by_parts g.J.Whose.book.session c.args.keeping.now i.process i.number i.caller c.meet_told.new.caller i.way c.args.proc.now c.proc.view_is q.0 q.1 c.meet_told.ensures.looked c.proc.invariant.0.of_who in (
      record {
        of_who = e.who.1 ∙ m.0 ∙ c.proc.invariant.0.of_who ∙ sym e.who.0;
        own = e.own ∙ m.1 ∙ c.proc.invariant.0.own;
        idle = e.idle;
        few = e.few;
      },
      no_way g.J.Whose.book.session c.kept_step.new.process.who i.number c.kept_step.new.caller.seen c.kept_step.new.process.state i.way there.way,
    )

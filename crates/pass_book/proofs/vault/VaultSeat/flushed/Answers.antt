use Rattle.std.proofs.Common.{◌≤◌, None, length, sym, ap, ◌∙◌, subst}
use Rattle.pass_book.specs.Syncs.{called, durable}
use Rattle.pass_book.specs.Tokens.{VaultState}
use Rattle.pass_book.proofs.Meetings.{past_noted, vault_now}
use Rattle.pass_book.proofs.vault.VaultSeat.flushed.Goals as goal

pub invariant_of-self : goal.invariant_of-self
invariant_of-self c =
    let i = c.self.invariant.0 in
    let n = c.note_flush.ensures in
    let is = ap (λ m. m.0) n.1 in
    let P : VaultState → Type 0 = λ v. (called v.syncs ≤ c.args.calls) × (durable v.syncs ≤ c.args.entries) × (c.args.entries ≤ length v.seen) in
    let asked = subst P (sym c.self.view_is) (c.requires.calls, c.requires.entries.0, c.requires.entries.1) in
    let past = past_noted _ _ (record { calls = c.args.calls; entries = c.args.entries; file = None; staged = None }) i.past is asked.0 asked.1 asked.2 (λ f e. absurd cc) in (
      vault_now _ _ _ _ _ i n.0 (ap (λ v. v.name) is) (ap (λ m. m.1) n.1) (ap (λ v. v.told) is ∙ i.told) (ap (λ v. v.told_syncs) is ∙ i.told_syncs) (ap (λ v. v.away) is ∙ i.away) past,
      c.self.invariant.1 ∙ sym (ap (λ v. length v.seen) is),
    )

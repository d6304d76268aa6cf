use Rattle.std.proofs.Common.{◌≡◌, ◌∙◌, ◌∷◌, ◌++◌, [], ℕ, List, sym, ap, subst, arith}
use Rattle.pass_entry.specs.declared.entry.Entry.{Entry}
use Rattle.pass_plain.specs.Legal.{IsLegal}
use Rattle.pass_book.specs.Numbers.{IsFileNumber}
use Rattle.pass_book.specs.Syncs.{called, durable, AreNumbered}
use Rattle.pass_book.specs.Tokens.{VaultState, DeskState}
use Rattle.pass_book.specs.Views.{longer}
use Rattle.pass_vault.specs.Vaulted.{file_staged}
use Rattle.pass_vault.specs.Vaults.{valued, IsVault}
use Rattle.pass_vault.proofs.Keeping.{longer_self, file_number, staging_known, staged_lost, staged_kept}
use Rattle.pass_vault.proofs.staging.stage_file.Goals as goal

pub put_all-requires : goal.put_all-requires
put_all-requires g c =
    let same = c.meet_desk.ensures.vault in
    let legal = subst (λ (s : VaultState). IsLegal s.book.session s.seen) same c.seen-seen.ensures.legal in
    let numbered = subst (λ (s : VaultState). AreNumbered s.book.session s.seen s.syncs) same c.seen-seen.ensures.numbered in
    record {
      known = staging_known g.D.Disk.view c.args.keeper.now c.args.seat.now c.args.opening.now c.args.unwritten.now c.requires.kept c.meet_desk.new.desk.seen c.meet_desk.ensures.met.told legal
          c.args.desk.now.what c.args.number c.args.desk.now.seen c.requires.number c.meet_desk.ensures.met.begins c.args.desk.now.syncs c.meet_desk.ensures.met.complete numbered c.args.blocks.now c.requires.dirty;
    }

pub returns-in_err-put_all-clause-kept : goal.returns-in_err-put_all-clause-kept
returns-in_err-put_all-clause-kept g c =
    let same = c.meet_desk.ensures.vault in
    let legal = subst (λ (s : VaultState). IsLegal s.book.session s.seen) same c.seen-seen.ensures.legal in
    let numbered = subst (λ (s : VaultState). AreNumbered s.book.session s.seen s.syncs) same c.seen-seen.ensures.numbered in
    subst (λ (s : VaultState). IsVault g.D.Disk.view (valued g.D.Disk.view c.put_all.new.keeper s c.args.opening.now c.put_all.new.unwritten) c.put_all.new.keeper) (sym same)
    (staged_lost g.D.Disk.view c.args.keeper.now c.args.seat.now c.args.opening.now c.args.unwritten.now c.requires.kept c.meet_desk.new.desk.seen c.meet_desk.ensures.met.told legal
    c.args.desk.now.what c.args.number c.args.desk.now.seen c.requires.number c.meet_desk.ensures.met.begins c.args.desk.now.syncs c.meet_desk.ensures.met.complete numbered c.args.blocks.now c.requires.dirty
    c.put_all.new.keeper c.put_all.new.unwritten c.put_all.ensures.log c.put_all.ensures.goes_on c.put_all.ensures.durable c.in_err-put_all.ensures.still)

pub staged_file-requires-clause-number : goal.staged_file-requires-clause-number
staged_file-requires-clause-number g c =
    let seen = c.meet_desk.new.desk.seen in
    let same = c.meet_desk.ensures.vault in
    let legal = subst (λ (s : VaultState). IsLegal s.book.session s.seen) same c.seen-seen.ensures.legal in
    let numbered = subst (λ (s : VaultState). AreNumbered s.book.session s.seen s.syncs) same c.seen-seen.ensures.numbered in
    let there = file_number g.D.Disk.view c.args.keeper.now c.args.seat.now c.args.opening.now c.args.unwritten.now c.requires.kept seen c.meet_desk.ensures.met.told legal c.args.desk.now.what c.args.number c.args.desk.now.seen
    c.requires.number c.meet_desk.ensures.met.begins c.args.desk.now.syncs c.meet_desk.ensures.met.complete numbered in
    subst (λ (n : ℕ). IsFileNumber c.meet_desk.new.self.book.session seen n c.args.number) (sym (ap (λ (d : DeskState). d.what) c.meet_desk.ensures.desk))
    (subst (λ (s : VaultState). IsFileNumber s.book.session seen c.args.desk.now.what c.args.number) (sym same) there)

pub staged_file-requires-clause-calls : goal.staged_file-requires-clause-calls
staged_file-requires-clause-calls g c =
    let low = c.requires.kept.timely in
    let same = ap (λ (s : VaultState). called s.syncs) c.meet_desk.ensures.vault in
    omega (arith, low, same, c.calls-calls.ensures, c.put_all.ensures.goes_on.2)

pub staged_file-requires-clause-entries : goal.staged_file-requires-clause-entries
staged_file-requires-clause-entries g c =
    let same = ap (λ (s : VaultState). durable s.syncs) c.meet_desk.ensures.vault in
    let number = c.durable-entries.ensures ∙ c.put_all.ensures.durable ∙ c.requires.kept.durable in
    (omega (arith, number, same), omega (arith, number, same, c.seen-seen.ensures.within))

pub returns-clause-kept : goal.returns-clause-kept
returns-clause-kept g c =
    let k = c.args.keeper.now in
    let seat = c.args.seat.now in
    let seen = c.meet_desk.new.desk.seen in
    let same = c.meet_desk.ensures.vault in
    let legal = subst (λ (s : VaultState). IsLegal s.book.session s.seen) same c.seen-seen.ensures.legal in
    let numbered = subst (λ (s : VaultState). AreNumbered s.book.session s.seen s.syncs) same c.seen-seen.ensures.numbered in
    staged_kept g.D.Disk.view k seat c.args.opening.now c.args.unwritten.now c.requires.kept seen c.meet_desk.ensures.met.told legal
    c.args.desk.now.what c.args.number c.args.desk.now.seen c.requires.number c.meet_desk.ensures.met.begins c.args.desk.now.syncs c.meet_desk.ensures.met.complete numbered c.args.blocks.now c.requires.dirty
    c.put_all.new.keeper c.put_all.new.unwritten c.put_all.ensures.log c.put_all.ensures.goes_on c.put_all.ensures.durable c.in_ok-put_all.ensures.kept c.staged_file.new.self
    (c.staged_file.ensures.vault
    ∙ ap (λ (l : List Entry). with_all c.meet_desk.new.self l c.meet_desk.new.desk.what c.calls-calls.result c.durable-entries.result) last_seen
    ∙ ap (λ (s : VaultState). with_all s seen c.meet_desk.new.desk.what c.calls-calls.result c.durable-entries.result) same
    ∙ ap (λ (d : DeskState). with_all seat seen d.what c.calls-calls.result c.durable-entries.result) c.meet_desk.ensures.desk
    ∙ ap (λ (n : ℕ). with_all seat seen c.args.desk.now.what n c.durable-entries.result) c.calls-calls.ensures
    ∙ ap (λ (n : ℕ). with_all seat seen c.args.desk.now.what (g.D.Disk.view c.put_all.new.keeper.disk).calls n) (c.durable-entries.ensures ∙ c.put_all.ensures.durable ∙ c.requires.kept.durable))
  where
    with_all : VaultState → List Entry → ℕ → ℕ → ℕ → VaultState
    with_all s seen what calls entries = record s { seen = seen; syncs = s.syncs ++ file_staged what c.args.number calls entries c.args.blocks.now ∷ [] }

    last_seen : c.staged_file.new.desk.seen ≡ c.meet_desk.new.desk.seen
    last_seen =
        c.staged_file.ensures.met.history ∙ ap (longer c.meet_desk.new.desk.seen) (ap (λ (s : VaultState). s.seen) c.meet_desk.ensures.vault) ∙ longer_self c.meet_desk.new.desk.seen

use Rattle.std.proofs.Common.{◌≡◌, ◌+◌, List, [], ◌∷◌, sym, ap, ◌∙◌, subst}
use Rattle.pass_plain.specs.Sessions.{Session}
use Rattle.pass_plain.specs.Legal.{session_of}
use Rattle.pass_book.specs.declared.view.Role.TheVariants as role
use Rattle.pass_book.specs.declared.view.Name.{Name}
use Rattle.pass_book.specs.Names.{name}
use Rattle.pass_book.specs.Openings.{opening_numbers, AreApart, AwayApart, AwayBelow}
use Rattle.pass_book.specs.Tokens.{IsPast}
use Rattle.pass_book.specs.Views.{session_in}
use Rattle.pass_book.proofs.Badges.{past_begins}
use Rattle.pass_book.proofs.First.{begins}
use Rattle.pass_book.proofs.Opened.{sound_apart, apart_first, apart_below}
use Rattle.pass_book.proofs.book.Book.open.Goals as goal

pub of_words-requires : goal.of_words-requires
of_words-requires c = begins _

pub vault_of-vault-requires-clause-past : goal.vault_of-vault-requires-clause-past
vault_of-vault-requires-clause-past c =
    let session = ap (λ m. session_in m.0.opened) c.in_ok-table.ensures.4 ∙ ap (λ s. session_of s c.args.objects) c.of.ensures in
    subst (λ (s : Session). IsPast s [] []) (sym session) (past_begins (session_of c.args.start.now c.args.objects) c.requires)

-- once the registry's desk is made
numbers : (c : goal.After-desks-2-1) → c.deref.result.now ≡ opening_numbers c.args.start.now
numbers c = c.deref.ensures.value ∙ c.in_ok-numbers.ensures

ceiling : (c : goal.After-desks-2-1) → c.desk_of_registry.new.book.me.0.opened.start.ceiling ≡ c.args.start.now.ceiling
ceiling c =
    ap (λ m. m.0.opened.start.ceiling) c.in_ok-desk_of_registry.ensures.book.1 ∙ ap (λ m. m.0.opened.start.ceiling) c.vault_of-vault.ensures.book.1
    ∙ ap (λ m. m.0.opened.start.ceiling) c.in_ok-table.ensures.4 ∙ ap (λ s. s.ceiling) c.of.ensures

pub open_known-requires-clause-apart : goal.open_known-requires-clause-apart
open_known-requires-clause-apart c =
    let apart = sound_apart c.args.start.now c.args.objects c.requires in
    subst (λ n. AreApart c.deref.result.now n) (sym (ceiling c)) (subst (λ ns. AreApart ns c.args.start.now.ceiling) (sym (numbers c)) apart)

pub open_known-requires-clause-away : goal.open_known-requires-clause-away
open_known-requires-clause-away c =
    let last = c.desk_of_registry.new.book.me.0.opened.start.ceiling in
    let behind : List Name → List Name = λ ns. name role.Line 0 ∷ name role.Desk 0 ∷ ns in
    let vault = ap (λ m. m.0.away) c.vault_of-vault.ensures.book.1 ∙ ap (λ m. name role.Vault 0 ∷ m.0.away) c.in_ok-table.ensures.4 in
    let away = ap (λ m. m.0.away) c.in_ok-desk_of_registry.ensures.book.1 ∙ ap behind vault in
    subst (λ (ns : List Name). AwayApart ns c.deref.result.now last) (sym away) (apart_first c.deref.result.now last (open_known-requires-clause-apart c))

pub open_new-requires-clause-below : goal.open_new-requires-clause-below
open_new-requires-clause-below c =
    let is = ap (λ m. m.0.opened.start.ceiling) c.in_ok-desk_of_registry.ensures.book.1 ∙ ap (λ m. m.0.opened.start.ceiling) c.vault_of-vault.ensures.book.1
    ∙ ap (λ m. m.0.opened.start.ceiling) c.in_ok-table.ensures.4 ∙ ap (λ s. s.ceiling) c.of.ensures in
    let last = c.desk_of_registry.new.book.me.0.opened.start.ceiling in
    let below = apart_below c.open_known.new.book.me.0.away last c.in_ok-open_known.ensures.away in
    subst (λ n. AwayBelow c.open_known.new.book.me.0.away (n + 1)) is below

use Rattle.std.proofs.Common.{◌≡◌, ℕ, List, ◌≤◌, ◌+◌, ◌∙◌, ap, sym, subst, arith, length}
use Rattle.std.specs.Prelude.{Some}
use Rattle.std.specs.Ordering.{nat_cmp}
use Rattle.std.specs.Cmp.Lexicographic.{slice_cmp}
use Rattle.std.specs.FinMap.{get, find, put}
use Rattle.pass_plain.specs.Registries.{renamed}
use Rattle.pass_registry.specs.Outcomes.{displaced}
use Rattle.pass_registry.specs.Places.{Entries, NameState, IsAscending, map_of, without}
use Rattle.pass_registry.proofs.NameMaps.{found_is, ascending_without, ascending_put, free_without, longer, shorter, no_longer, map_renamed, found_displaced}
use Rattle.pass_registry.proofs.names.Names.rename.Goals as goal

pub take_out-lost-requires : goal.take_out-lost-requires
take_out-lost-requires c = subst IsAscending (sym c.take_out.ensures.items) (ascending_without c.args.from.now c.self.inside.entries.items c.self.invariant.0)

pub put_in-requires-clause-ascending : goal.put_in-requires-clause-ascending
put_in-requires-clause-ascending c =
    let first = subst IsAscending (sym c.take_out.ensures.items) (ascending_without c.args.from.now c.self.inside.entries.items c.self.invariant.0) in
    subst IsAscending (sym c.take_out-lost.ensures.items) (ascending_without c.args.to c.take_out.new.entries.items first)

-- with the first name gone there is one entry less, and the other name's going makes them no more
fewer : (from to : List ℕ) (file : ℕ) (es one two : Entries) → IsAscending es → find (slice_cmp nat_cmp) from es ≡ Some file
    → one ≡ without from es → two ≡ without to one → length two + 1 ≤ length es
fewer from to file es one two ascending found first second =
    let a = ap (λ (x : Entries). length x) first in
    let b = ap (λ (x : Entries). length x) second in
    let less = shorter from file es ascending found in
    let more = no_longer to one (subst IsAscending (sym first) (ascending_without from es ascending)) in
    omega (arith, a, b, less, more)

pub put_in-requires-clause-room : goal.put_in-requires-clause-room
put_in-requires-clause-room c =
    let found = found_is c.args.from.now c.self.inside.entries.items ∙ ap (λ (s : NameState). get s.names c.args.from.now) c.self.view_is ∙ c.requires in
    let less = fewer c.args.from.now c.args.to c.args.file c.self.inside.entries.items c.take_out.new.entries.items c.take_out-lost.new.entries.items
    c.self.invariant.0 found c.take_out.ensures.items c.take_out-lost.ensures.items in
    omega (arith, less, c.self.invariant.1, c.take_out.ensures.capacity, c.take_out-lost.ensures.capacity)

pub put_in-requires-clause-free : goal.put_in-requires-clause-free
put_in-requires-clause-free c =
    ap (find (slice_cmp nat_cmp) c.args.to) c.take_out-lost.ensures.items ∙ free_without c.args.to c.take_out.new.entries.items

pub invariant_of-self : goal.invariant_of-self
invariant_of-self c =
    let es = c.self.inside.entries.items in
    let rest = c.take_out-lost.new.entries.items in
    let found = found_is c.args.from.now es ∙ ap (λ (s : NameState). get s.names c.args.from.now) c.self.view_is ∙ c.requires in
    let less = fewer c.args.from.now c.args.to c.args.file es c.take_out.new.entries.items rest c.self.invariant.0 found c.take_out.ensures.items c.take_out-lost.ensures.items in
    let first = subst IsAscending (sym c.take_out.ensures.items) (ascending_without c.args.from.now es c.self.invariant.0) in
    let ascending = subst IsAscending (sym c.take_out-lost.ensures.items) (ascending_without c.args.to c.take_out.new.entries.items first) in
    let free = ap (find (slice_cmp nat_cmp) c.args.to) c.take_out-lost.ensures.items ∙ free_without c.args.to c.take_out.new.entries.items in
    let len = ap (λ (x : Entries). length x) c.put_in.ensures.items ∙ longer c.args.to c.args.file rest ascending free in (
      subst IsAscending (sym c.put_in.ensures.items) (ascending_put c.args.to c.args.file rest ascending),
      omega (arith, less, len, c.self.invariant.1, c.take_out.ensures.capacity, c.take_out-lost.ensures.capacity, c.put_in.ensures.capacity),
    )

pub returns-clause-answer : goal.returns-clause-answer
returns-clause-answer c =
    c.take_out-lost.ensures.answer ∙ ap (find (slice_cmp nat_cmp) c.args.to) c.take_out.ensures.items
    ∙ found_displaced c.args.from.now c.args.to c.self.inside.entries.items
    ∙ ap (λ (s : NameState). displaced s.names c.args.from.now c.args.to) c.self.view_is

pub returns-clause-names : goal.returns-clause-names
returns-clause-names c =
    let es = c.self.inside.entries.items in
    let from = c.args.from.now in
    let to = c.args.to in
    let has : get (map_of es) from ≡ Some c.args.file = ap (λ (s : NameState). get s.names from) c.self.view_is ∙ c.requires in
    let entries = c.put_in.ensures.items ∙ ap (put (slice_cmp nat_cmp) to c.args.file) (c.take_out-lost.ensures.items ∙ ap (without to) c.take_out.ensures.items) in
    let same : NameState → NameState = λ s. record { names = renamed s.names from to; room = s.room } in
    (λ i. record { names = (ap map_of entries ∙ map_renamed from to c.args.file es has) i; room = c.self.inside.room }) ∙ ap same c.self.view_is

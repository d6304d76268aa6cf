-- A pipe that an entry changes.
use Rattle.std.proofs.Common.{◌≡◌, ℕ, ◌-◌, ◌<◌, ◌≤◌, ◌^◌, length, arith, List, [], refl, ap, sym, ◌∙◌, subst, Bool, true, false, ◌&&◌, ◌||◌, not, ◌==◌}
use Rattle.std.specs.Prelude.{Option, Some, None, Result, Ok, Err, IfOk, IfSome, is_some, slice_get, if◌then◌else◌}
use Rattle.std.specs.Option.{option_map_or}
use mathlib.Core.List.{IsPrefix}
use Rattle.pass_entry.specs.declared.entry.Act.{Act}
use Rattle.pass_entry.specs.declared.entry.Act.TheVariants as act
use Rattle.pass_entry.specs.declared.entry.Entry.{Entry}
use Rattle.pass_entry.specs.declared.objects.End.{End}
use Rattle.pass_entry.specs.declared.objects.End.TheVariants as end
use Rattle.pass_entry.specs.declared.objects.Node.{Node}
use Rattle.pass_plain.specs.Histories.{is_fault, out_of, own_step, source_place}
use Rattle.pass_plain.specs.Lawful.{AgreeOn}
use Rattle.pass_plain.specs.Legal.{IsLegal}
use Rattle.pass_plain.specs.Lineages.{Lineage, IsAlike}
use Rattle.pass_plain.specs.Pipes.{Pipe, new_pipe, pipe_act, pipe_after}
use Rattle.pass_plain.specs.Sessions.{Session, is_opened, opened_app, opened_file, opening_version}
use Rattle.pass_plain.specs.declared.start.Start.{Start}
use Rattle.pass_plain.specs.declared.start.StartFile.{StartFile}
use Rattle.pass_plain.specs.Versions.{is_in, source_in}
use Rattle.pass_plain.proofs.Appends.{state_after-agrees}
use Rattle.pass_plain.proofs.Counts.{pipe_law}
use Rattle.pass_plain.proofs.Lists.{same_itself}
use Rattle.pass_plain.proofs.TwoPrefixes.{none_later}
use Rattle.pass_book.proofs.Prefixes.{prefix_trans}
use Rattle.pass_book.specs.declared.view.VaultSync.{VaultSync}
use Rattle.pass_book.specs.Tokens.{DeskState}
use Rattle.pass_hold.specs.Callings.{IsEntered}
use Rattle.pass_hold.proofs.Objects.{object_after}
use Rattle.pass_flow.specs.Entering.{later_records, rest_records}
use Rattle.pass_flow.specs.Flows.{is_flow_act}
use Rattle.pass_pipe.specs.Desks.{given_reply}
use Rattle.pass_pipe.specs.Ends.{count_at}

-- what an entry makes of a pipe
abbrev pub pipe_by : Pipe → Entry → Pipe
pipe_by p e = if is_fault e.reply then p else pipe_act p e.act

own_pipe : (e : Entry) (past : List Entry) (p : Pipe) → own_step (λ past pipe e. pipe_act pipe e.act) e.what past p e ≡ pipe_by p e
own_pipe e past p = ap (λ b. if b && not (is_fault e.reply) then pipe_act p e.act else p) (same_itself e.what) ∙ by_reply (is_fault e.reply)
  where
    by_reply : (b : Bool) → (if not b then pipe_act p e.act else p) ≡ (if b then p else pipe_act p e.act)
    by_reply true = refl
    by_reply false = refl

pub pipe_entered : (session : Session) (line desk after : List Entry) (e : Entry) → IsEntered session line desk after e → pipe_after after e.what ≡ pipe_by (pipe_after desk e.what) e
pipe_entered session line desk after e entered =
    object_after session line desk after e entered (λ past pipe e. pipe_act pipe e.act) new_pipe ∙ own_pipe e entered.past (pipe_after desk e.what)

pub pipe_there : (session : Session) (line : List Entry) (d n : DeskState) (e : Entry) → e.what ≡ d.what → (after : List Entry) → IsEntered session line d.seen after e
    → (syncs : List VaultSync) → n ≡ record d { seen = after; syncs = syncs } → (p q : Pipe) → p ≡ pipe_after d.seen d.what → q ≡ pipe_by p e → q ≡ pipe_after n.seen n.what
pipe_there session line d n e on after entered syncs at p q before moved =
    moved ∙ ap (λ p. pipe_by p e) (before ∙ ap (pipe_after d.seen) (sym on)) ∙ sym (pipe_entered session line d.seen after e entered)
    ∙ ap (pipe_after after) on ∙ sym (ap (λ (n : DeskState). pipe_after n.seen n.what) at)

-- one who has seen all entries on a pipe knows it
pub pipe_seen : (desk history : List Entry) (what : ℕ) → IsPrefix desk history → AgreeOn what desk history → pipe_after history what ≡ pipe_after desk what
pipe_seen desk history what begins agrees =
    ap (λ h. pipe_after h what) (sym begins.1)
    ∙ state_after-agrees (λ past pipe e. pipe_act pipe e.act) what new_pipe desk begins.0 (none_later (λ (f : Entry). f.what == what) desk begins.0 history begins.1 agrees)

-- the acts that all objects have leave it
pub flow_leaves : (p : Pipe) (a : Act) → is_flow_act a ≡ true → pipe_act p a ≡ p
flow_leaves p act.Freeze is = refl
flow_leaves p act.Cite is = refl
flow_leaves p (act.Told out) is = refl
flow_leaves p (act.Tag attr value) is = refl
flow_leaves p act.Keep is = refl
flow_leaves p _ is = absurd (cc)

-- an object that is not of the opening begins with version 1
pub first_version : (start : Start) (o : ℕ) → is_opened start o ≡ false → opening_version start o ≡ 1
first_version start o fresh = by_kinds (opened_file start o) (opened_app start o) fresh
  where
    by_kinds : (f : Option StartFile) (n : Option Node) → is_some f || is_some n ≡ false → option_map_or (λ f. f.node.version) f (option_map_or (λ n. n.version) n 1) ≡ 1
    by_kinds None None fresh = refl
    by_kinds None (Some n) fresh = absurd (cc)
    by_kinds (Some f) n fresh = absurd (cc)

-- no more ends than entries
pub few_ends : (session : Session) (history : List Entry) (o : ℕ) (p : Pipe) (x : End) → IsLegal session history → length history ≤ 16777216 → p ≡ pipe_after history o → count_at p x < 2 ^ 32 - 1
few_ends session history o p end.Reader legal few at =
    let (bytes, readers, writers) = pipe_law session history legal o in let same = ap (λ (p : Pipe). p.readers) at in omega (arith, readers, same, few)
few_ends session history o p end.Writer legal few at =
    let (bytes, readers, writers) = pipe_law session history legal o in let same = ap (λ (p : Pipe). p.writers) at in omega (arith, writers, same, few)

-- who has seen less of other objects may have made the entry too
pub entered_before : (session : Session) (line desk shown after : List Entry) (e : Entry) → IsPrefix desk shown → AgreeOn e.what desk shown → IsEntered session line shown after e → IsEntered session line desk after e
entered_before session line desk shown after e begins agrees entered = record {
  past = entered.past;
  whole = entered.whole;
  legal = entered.legal;
  follows = entered.follows;
  line_begins = entered.line_begins;
  line_agrees = entered.line_agrees;
  desk_begins = prefix_trans desk shown entered.past begins entered.desk_begins;
  desk_agrees = agrees ∙ entered.desk_agrees;
}

pub alike_itself : (l : Lineage) → IsAlike l l
alike_itself l = record { node = refl; marked = refl; sources = λ node. refl }

-- a write that came in, or that nobody can read

pub given_source : (nodes : List Node) (out : ℕ) (s : Node) (e : Entry) (given : Bool) (bytes : List ℕ) (o : Option Node) → e.act ≡ act.Push out bytes → e.reply ≡ given_reply given
    → slice_get nodes out ≡ Some s → o ≡ (if given then Some s else None) → (source_in nodes e ≡ o) × (is_in e ≡ is_some o)
given_source nodes out s e given bytes o push reply at is = (
  ap (λ (p : Option ℕ). option_map_or (λ out. slice_get nodes out) p None) place ∙ by_given given ∙ sym is,
  ap (λ (p : Option ℕ). option_map_or (λ out. true) p false) place ∙ by_test given ∙ sym (ap is_some is),
)
  where
    place : source_place e ≡ (if is_fault (given_reply given) then None else Some out)
    place = λ i. if is_fault (reply i) then None else out_of (push i)

    by_given : (b : Bool) → option_map_or (λ out. slice_get nodes out) (if is_fault (given_reply b) then None else Some out) None ≡ (if b then Some s else None)
    by_given true = at
    by_given false = refl

    by_test : (b : Bool) → option_map_or (λ out. true) (if is_fault (given_reply b) then None else Some out) false ≡ is_some (if b then Some s else None)
    by_test true = refl
    by_test false = refl

pub given_pipe : (p q : Pipe) (e : Entry) (out : ℕ) (bytes : List ℕ) (given : Bool) → e.act ≡ act.Push out bytes → e.reply ≡ given_reply given
    → q ≡ (if given then pipe_act p (act.Push out bytes) else p) → q ≡ pipe_by p e
given_pipe p q e out bytes given push reply is = is ∙ by_given given ∙ sym (λ i. if is_fault (reply i) then p else pipe_act p (push i))
  where
    by_given : (b : Bool) → (if b then pipe_act p (act.Push out bytes) else p) ≡ (if is_fault (given_reply b) then p else pipe_act p (act.Push out bytes))
    by_given true = refl
    by_given false = refl

pub no_rest : (session : Session) (seen : List Entry) (e : Entry) (out : ℕ) (bytes : List ℕ) (given : Bool) → e.act ≡ act.Push out bytes → e.reply ≡ given_reply given → rest_records session seen e ≡ []
no_rest session seen e out bytes given push reply = (λ i. if is_fault (reply i) then [] else later_records session seen e (push i)) ∙ by_given given
  where
    by_given : (b : Bool) → (if is_fault (given_reply b) then [] else later_records session seen e (act.Push out bytes)) ≡ []
    by_given true = refl
    by_given false = refl

pub all_some : {P : Type 0} (o : Option Node) → P → IfSome o (λ s. P)
all_some None p = tt
all_some (Some s) p = p

pub ok_at : {E : Type 0} (r : Result (ℕ × Node) E) (at : ℕ × Node) (P : ℕ × Node → Type 0) → IfOk r (λ x. x ≡ at) → P at → IfOk r P
ok_at (Ok x) at P is p = subst P (sym is) p
ok_at (Err e) at P is p = tt

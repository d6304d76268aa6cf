-- The acts that files, pipes and app objects have in common.
use Rattle.std.proofs.Common.{◌≡◌, ℕ, List, [], length, refl, ap, sym, ◌∙◌, subst, arith, Bool, true}
use Rattle.std.specs.Prelude.{Some}
use Rattle.pass_entry.specs.declared.entry.Act.{Act}
use Rattle.pass_entry.specs.declared.entry.Act.TheVariants as act
use Rattle.pass_entry.specs.declared.entry.Entry.{Entry}
use Rattle.pass_entry.specs.declared.entry.Reply.TheVariants as answer
use Rattle.pass_entry.specs.declared.objects.Node.{Node}
use Rattle.pass_plain.specs.Legal.{ObjectAllows}
use Rattle.pass_plain.specs.Lineages.{Lineage, IsAlike}
use Rattle.pass_plain.specs.Replies.{reply_to}
use Rattle.pass_plain.specs.Sessions.{Session, is_opened, opening_version}
use Rattle.pass_plain.specs.Versions.{node_in, nodes_of}
use Rattle.pass_version.specs.States.{VersionState, IsStateAfter}
use Rattle.pass_version.proofs.OneObject.{opening_law, alike_state}
use Rattle.pass_book.specs.Tokens.{BookId, DeskState}
use Rattle.pass_flow.specs.Entering.{IsVersioned, is_object_act, current_node}
use Rattle.pass_flow.specs.Flows.{is_flow_act}

pub flow_fits : (a : Act) → is_flow_act a ≡ true → is_object_act a ≡ true
flow_fits act.Freeze is = refl
flow_fits act.Cite is = refl
flow_fits (act.Told out) is = refl
flow_fits (act.Tag attr value) is = refl
flow_fits act.Keep is = refl
flow_fits _ is = absurd (cc)

pub flow_replies : (session : Session) (seen : List Entry) (e : Entry) → is_flow_act e.act ≡ true → e.reply ≡ answer.Done → ObjectAllows session seen e
flow_replies session seen e is done = by_act e.act is ∙ ap (λ r. Some r) (sym done)
  where
    by_act : (a : Act) → is_flow_act a ≡ true → reply_to session seen e.what a ≡ Some answer.Done
    by_act act.Freeze is = refl
    by_act act.Cite is = refl
    by_act (act.Told out) is = refl
    by_act (act.Tag attr value) is = refl
    by_act act.Keep is = refl
    by_act _ is = absurd (cc)

-- a desk's object and its version

pub node_is_current : (book : BookId) (d : DeskState) (v : VersionState) → IsVersioned book d v → v.lineage.node ≡ current_node book.session d.seen d.what
node_is_current book d v is = is.lineage.node ∙ ap (λ o. node_in book.session (nodes_of book.session d.seen) o) is.node

pub versioned_alike : (book : BookId) (d : DeskState) (v w : VersionState) → IsVersioned book d v → IsAlike w.lineage v.lineage → IsVersioned book d w
versioned_alike book d v w is alike = record {
  of_book = is.of_book;
  node = ap (λ (n : Node). n.pnode) alike.node ∙ is.node;
  lineage = alike_state book.session d.seen w.lineage v.lineage alike is.lineage;
  few = is.few;
}

abbrev first_lineage : ℕ → ℕ → Bool → Lineage
first_lineage what version marked = record { node = record { pnode = what; version = version }; marked = marked; sources = [] }

pub versioned_first : (book : BookId) (d : DeskState) (what version : ℕ) (marked : Bool) (v : VersionState) → v.lineage ≡ first_lineage what version marked
    → d.book ≡ book → d.what ≡ what → d.seen ≡ [] → version ≡ opening_version book.session.start what → marked ≡ is_opened book.session.start what → IsVersioned book d v
versioned_first book d what version marked v is of_book of_what unseen of_version of_mark =
    let first : v.lineage ≡ first_lineage what (opening_version book.session.start what) (is_opened book.session.start what) = is ∙ (λ i. first_lineage what (of_version i) (of_mark i)) in
    record {
      of_book = of_book;
      node = ap (λ (l : Lineage). l.node.pnode) is ∙ sym of_what;
      lineage = subst (λ (l : Lineage). IsStateAfter book.session d.seen l) (sym first)
          (subst (λ h. IsStateAfter book.session h (first_lineage what (opening_version book.session.start what) (is_opened book.session.start what))) (sym unseen) (opening_law book.session what));
      few = let none = ap length unseen in omega (arith, none);
    }

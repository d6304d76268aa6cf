-- The objects of a history and their kinds.
use Rattle.std.specs.Prelude.{ℕ, ◌≡◌, List, Option, Some, None, is_some, option_map, if◌then◌else◌}
use Rattle.std.specs.Option.{option_or}
use Rattle.std.specs.Ordering.{nat_cmp}
use Rattle.std.specs.BTreeMap.{get}
use Rattle.pass_entry.specs.declared.entry.Entry.{Entry}
use Rattle.pass_entry.specs.declared.entry.Act.{Act}
use Rattle.pass_entry.specs.declared.entry.Reply.{Reply}
use Rattle.pass_entry.specs.declared.entry.Reply.TheVariants as answer
use Rattle.pass_entry.specs.declared.objects.Kind.{Kind}
use Rattle.pass_entry.specs.declared.objects.Kind.TheVariants as kind
use Rattle.pass_plain.specs.declared.start.Start.{Start}
use Rattle.pass_plain.specs.Histories.{made_kind}
use Rattle.pass_plain.specs.Sessions.{Session, opened_file, opened_app}
use Rattle.pass_report.specs.Reports.{ascending, touched, kind_of}
use Rattle.pass_report.specs.declared.kinds.Kinds.{Kinds}

-- the object that an act with this reply makes, with its kind
abbrev pub made_by : Act → Reply → Option (ℕ × Kind)
made_by a (answer.Made pnode) = option_map (λ k. (pnode, k)) (made_kind a)
made_by a _ = None

abbrev pub opening_kind : Start → ℕ → Option Kind
opening_kind start pnode = if is_some (opened_file start pnode) then Some kind.File else if is_some (opened_app start pnode) then Some kind.App else None

abbrev pub kind_in : Start → Kinds → ℕ → Option Kind
kind_in start k pnode = option_or (opening_kind start pnode) (get nat_cmp k.made pnode)

-- each object has its kind, and those are touched that were made or have entries
pub record AreKinds (start : Start) (session : Session) (history : List Entry) (k : Kinds) : Type 0 where
  pub touched : k.touched.keys ≡ ascending nat_cmp (touched history)
  pub kinds : (pnode : ℕ) → kind_in start k pnode ≡ kind_of session history pnode

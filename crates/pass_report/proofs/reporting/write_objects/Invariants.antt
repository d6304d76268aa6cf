use Rattle.std.proofs.Common.{◌≡◌, ◌++◌, List, string_bytes}
use Rattle.std.specs.Prelude.{flat_map}
use Rattle.pass_entry.specs.declared.entry.Entry.{Entry}
use Rattle.pass_plain.specs.Sessions.{Session}
use Rattle.pass_report.specs.Reports.{object_line}
use Rattle.pass_report.specs.Trails.{IsTrail}
use Rattle.pass_report.specs.Kinds.{AreKinds}
use Rattle.pass_report.proofs.reporting.write_objects.Given as goal

abbrev pub invariant-loop-pnode : goal.invariant-loop-pnode
invariant-loop-pnode l = (session : Session) (history : List Entry) → AreKinds l.start session history l.kinds → IsTrail l.start session history l.trail
    → string_bytes l.text ++ flat_map (object_line session history) l.pnode-iterator
    ≡ string_bytes l.initial.text ++ flat_map (object_line session history) l.kinds.touched.keys

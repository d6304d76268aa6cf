use Rattle.std.proofs.Common.{◌≡◌, drop}
use Rattle.pass_outside.specs.declared.disk.Area.TheVariants.{Log, Store}
use Rattle.pass_outside.specs.Keeping.{kept_all, syncs_of}
use Rattle.pass_outside.proofs.keep.keep_all.Given as goal

-- the changes that are left come to the same
abbrev pub invariant-loop-event : goal.invariant-loop-event
invariant-loop-event l = record {
  kept : kept_all l.keep l.areas (drop l.event-index l.events) ≡ kept_all l.keep l.fn.areas l.events;
  log : l.log_syncs ≡ syncs_of Log (drop l.event-index l.events);
  store : l.store_syncs ≡ syncs_of Store (drop l.event-index l.events);
}

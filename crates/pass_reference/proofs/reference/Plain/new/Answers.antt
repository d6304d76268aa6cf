use Rattle.std.proofs.Common.{sym, subst, List}
use Rattle.pass_entry.specs.declared.entry.Entry.{Entry}
use Rattle.pass_reference.specs.Cache.{AreCached}
use Rattle.pass_plain.specs.Legal.{IsLegal, session_of}
use Rattle.pass_reference.proofs.reference.Plain.new.Goals as goal

pub invariant_of-result : goal.invariant_of-result
invariant_of-result c = record {
  legal = subst (λ (h : List Entry). IsLegal (session_of c.args.start.now c.args.objects) h) (sym c.new.ensures.items) (λ i e at. absurd (cc));
  sound = c.requires;
  kept = subst (λ (h : List Entry). AreCached c.args.start.now h c.new-2.result) (sym c.new.ensures.items) (c.new-2.ensures c.args.start.now);
}

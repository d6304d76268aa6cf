-- What a tar answers.
use Rattle.std.proofs.Common.{◌≡◌, ◌∙◌, ◌⊎◌, ◌++◌, ℕ, Bool, true, false, List, [], ◌∷◌, inl, inr, ⊎_elim, refl, sym, ap, subst, arith}
use Rattle.std.specs.Prelude.{◌≢◌, IsTrue, Result, Err, IfErr}
use Rattle.pass_entry.specs.declared.objects.Node.{Node}
use Rattle.pass_entry.specs.declared.record.Record.{Record}
use Rattle.pass_outside.specs.Faults.{HasRisen, HasStayed}
use Rattle.pass_outside.specs.Moments.{Moment}
use Rattle.pass_graph.specs.ListRanks.{HasNode}
use Rattle.pass_files.specs.declared.spelled.Spelled.{Spelled}
use Rattle.pass_files.specs.Spelling.{node_meant}
use Rattle.pass_leaf.specs.declared.fault.OldFault.{OldFault}
use Rattle.pass_leaf.specs.declared.fault.OldFault.TheVariants as faults
use Rattle.pass_leaf.specs.Leaves.{Leaf}
use Rattle.pass_status.specs.declared.status.Status.TheVariants as status
use Rattle.pass_status.specs.Writing.{IsPartOfText}
use Rattle.pass_ask.specs.Answers.{SinkSeen}
use Rattle.pass_inputs.specs.declared.fault.TarFault.{TarFault}
use Rattle.pass_inputs.specs.declared.fault.TarFault.TheVariants as tar_faults
use Rattle.pass_inputs.specs.Tars.{IsTarOf}
use Rattle.pass_old.specs.declared.status.OldStatus.{OldStatus}
use Rattle.pass_old.specs.declared.status.OldStatus.TheVariants as old_status
use Rattle.pass_old.specs.Answers.{IsTaken, IsWritten, old_text_with}
use Rattle.pass_old.specs.Consults.{IsJudgedByLog}
use Rattle.pass_old.specs.Statuses.{status_of_archive}
use Rattle.pass_old.specs.Tars.{IsTarAnswer, IsTarOfNode, IsTarTold, tar_status, tar_text}

-- a tar that was made is answered by its own status

pub made_text : (lacks : List Node) (tar : List ℕ) → tar_text (tar_status lacks) tar ≡ tar
made_text [] tar = refl
made_text (node ∷ rest) tar = refl

abbrev pub is_made : OldStatus → Bool
is_made (old_status.Same status.Done) = true
is_made (old_status.Lacks node) = true
is_made _ = false

pub made_is : (lacks : List Node) → is_made (tar_status lacks) ≡ true
made_is [] = refl
made_is (node ∷ rest) = refl

-- so it is none of the others
pub made_not : (lacks : List Node) (s other : OldStatus) → s ≡ tar_status lacks → is_made other ≡ false → s ≢ other
made_not lacks s other is differs same = let z : true ≡ false = sym (made_is lacks) ∙ ap is_made (sym is ∙ same) ∙ differs in cc

pub made_done : (lacks : List Node) (s : OldStatus) → s ≡ tar_status lacks → ((node : Node) → s ≢ old_status.Lacks node) → lacks ≡ []
made_done [] s is other = refl
made_done (node ∷ rest) s is other = absurd (other node is)

pub made : (list : List Record) (leaves : List Leaf) (node : Node) (tar : List ℕ) (lacks : List Node) (sink : SinkSeen) (answered : OldStatus) → answered ≡ tar_status lacks → ((HasNode list node → ⊥) → ⊥) → IsTarOf list leaves node tar lacks
    → (IsTrue sink.tells → sink.after ≡ sink.before ++ tar) → IsTarAnswer (λ (t : List ℕ) (l : List Node) (j : OldStatus). IsTarOfNode node t l j list leaves) sink answered lacks
made list leaves node tar lacks sink answered is there of taken = record {
  judged = tar_status lacks;
  tar = tar;
  lacks = lacks;
  by = inl (record { there = there; of = of; is = refl });
  written = record {
    stands = inl is;
    whole = λ _ tells. taken tells ∙ ap (λ (t : List ℕ). sink.before ++ t) (sym (made_text lacks tar));
    part = λ fault. absurd (made_not lacks answered (old_status.Same status.WriteFault) is refl fault);
  };
  out = λ _. refl;
}

-- one of which the sink took a beginning
pub broken : (list : List Record) (leaves : List Leaf) (node : Node) (tar : List ℕ) (lacks handed : List Node) (sink : SinkSeen) (answered : OldStatus) → answered ≡ old_status.Same status.WriteFault
    → ((HasNode list node → ⊥) → ⊥) → IsTarOf list leaves node tar lacks → (IsTrue sink.tells → IsPartOfText tar sink.before sink.after)
    → IsTarAnswer (λ (t : List ℕ) (l : List Node) (j : OldStatus). IsTarOfNode node t l j list leaves) sink answered handed
broken list leaves node tar lacks handed sink answered is there of taken = record {
  judged = tar_status lacks;
  tar = tar;
  lacks = lacks;
  by = inl (record { there = there; of = of; is = refl });
  written = record {
    stands = inr is;
    whole = λ other. absurd (other is);
    part = λ _ tells. subst (λ (t : List ℕ). IsPartOfText t sink.before sink.after) (sym (made_text lacks tar)) (taken tells);
  };
  out = λ other. absurd (other is);
}

pub not_risen : (old new : ℕ) → HasStayed old new → HasRisen old new → ⊥
not_risen old new stayed (inl more) = omega (arith, stayed.0, more)
not_risen old new stayed (inr at_end) = stayed.1 at_end.0

-- another fault left the sink as it was
pub err_stays : {X S : Type 0} (r : Result X TarFault) (e : TarFault) (new old : S) → r ≡ Err e → e ≢ tar_faults.WriteFault → IfErr r (λ f. (f ≡ tar_faults.WriteFault) ⊎ (new ≡ old)) → new ≡ old
err_stays {X} {S} r e new old is other left = ⊎_elim (λ (f : e ≡ tar_faults.WriteFault). absurd (other f)) (λ (same : new ≡ old). same) (subst (λ (x : Result X TarFault). IfErr x (λ f. (f ≡ tar_faults.WriteFault) ⊎ (new ≡ old))) is left)

-- a refusal has its own text, and hands out nothing

pub refusal : (By : List ℕ → List Node → OldStatus → Type 0) (judged : OldStatus) (sink : SinkSeen) (answered : OldStatus) (handed : List Node) → By [] [] judged
    → tar_text judged [] ≡ old_text_with judged [] → IsWritten sink judged answered [] → handed ≡ [] → IsTarAnswer By sink answered handed
refusal By judged sink answered handed by own written none = record {
  judged = judged;
  tar = [];
  lacks = [];
  by = by;
  written = subst (λ (t : List ℕ). IsTaken sink judged answered t) (sym own) written;
  out = λ _. none;
}

pub archive_text : (judged : OldStatus) (fault : OldFault) (node : Node) → judged ≡ status_of_archive fault node → tar_text judged [] ≡ old_text_with judged []
archive_text judged fault node is = subst (λ (j : OldStatus). tar_text j [] ≡ old_text_with j []) (sym is) (own fault)
  where
    own : (f : OldFault) → tar_text (status_of_archive f node) [] ≡ old_text_with (status_of_archive f node) []
    own faults.DiskFault = refl
    own (faults.Broken opened now) = refl
    own (faults.BadFrame at) = refl
    own faults.NoVersion = refl
    own faults.NoMemory = refl

-- what is known of one judgement is known of another
pub judged_as : (P Q : List ℕ → List Node → OldStatus → Type 0) (sink : SinkSeen) (answered : OldStatus) (handed : List Node) → ((tar : List ℕ) (lacks : List Node) (judged : OldStatus) → P tar lacks judged → Q tar lacks judged)
    → IsTarAnswer P sink answered handed → IsTarAnswer Q sink answered handed
judged_as P Q sink answered handed more a = record { judged = a.judged; tar = a.tar; lacks = a.lacks; by = more a.tar a.lacks a.judged a.by; written = a.written; out = a.out }

-- a tar that was judged by the log isn't refused by the archive's device

told_not_archive : (node : Spelled) (tar : List ℕ) (lacks : List Node) (judged : OldStatus) (list : List Record) (leaves : List Leaf) → IsTarTold node tar lacks judged list leaves → judged ≢ old_status.ArchiveFault
told_not_archive node tar lacks judged list leaves (inl m) same = made_not lacks judged old_status.ArchiveFault m.is refl same
told_not_archive node tar lacks judged list leaves (inr n) same = let z : old_status.Same (status.NoObject (node_meant list node)) ≡ old_status.ArchiveFault = sym n.is ∙ same in cc

pub logged_not_archive : (before after : Moment) (leaves : List Leaf) (node : Spelled) (tar : List ℕ) (lacks : List Node) (judged : OldStatus) → IsJudgedByLog before after leaves (IsTarTold node tar lacks judged) judged
    → judged ≢ old_status.ArchiveFault
logged_not_archive before after leaves node tar lacks judged (inl u) same = let z : ◌≡◌ {A = OldStatus} (old_status.Same _) old_status.ArchiveFault = sym u.is ∙ same in cc
logged_not_archive before after leaves node tar lacks judged (inr r) same = told_not_archive node tar lacks judged r.list leaves r.told same

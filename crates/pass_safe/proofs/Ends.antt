-- How a sync ends.
use Rattle.std.proofs.Common.{◌≡◌, ℕ, zero, suc, ◌+◌, ◌<◌, ◌≤◌, List, [], ◌∷◌, length, refl, ap, sym, ◌∙◌, subst, arith, Bool, true, false}
use Rattle.std.specs.Prelude.{Option, Some, None, Ok, Err, slice_get, map, filter, cond}
use Rattle.std.specs.FinMap as finite_map
use mathlib.Core.List.{IsPrefix}
use Rattle.pass_entry.specs.declared.entry.CallFault.{CallFault}
use Rattle.pass_entry.specs.declared.entry.Entry.{Entry}
use Rattle.pass_entry.specs.declared.entry.Reply.TheVariants as answer
use Rattle.pass_entry.specs.declared.objects.Descriptor.{Descriptor}
use Rattle.pass_entry.specs.declared.objects.Kind.{Kind}
use Rattle.pass_entry.specs.declared.objects.Kind.TheVariants as kind
use Rattle.pass_plain.specs.declared.request.Request.TheVariants as requests
use Rattle.pass_plain.specs.CallLaws.{IsBegun}
use Rattle.pass_plain.specs.Histories.{call_entries}
use Rattle.pass_plain.specs.Legal.{IsLegal, before_call, leaves_call, may_be_left}
use Rattle.pass_flow.specs.Flows.{keep_entry}
use Rattle.pass_plain.specs.Places.{left_for}
use Rattle.pass_plain.specs.Processes.{Process, is_file, process_after}
use Rattle.pass_plain.specs.Registries.{Exists, registry_after, same_kind}
use Rattle.pass_plain.specs.Sessions.{Session}
use Rattle.pass_plain.specs.Sound.{IsSound}
use Rattle.pass_plain.proofs.Bounds.{descriptor_law}
use Rattle.pass_plain.proofs.Lists.{some_is}
use Rattle.pass_plain.proofs.Objects.{one_kind_law}
use Rattle.pass_book.specs.Numbers.{IsFileNumber, files_of}
use Rattle.pass_book.specs.Syncs.{Backs}
use Rattle.pass_book.specs.declared.claim.Full.{Full}
use Rattle.pass_book.specs.declared.view.VaultSync.{VaultSync}
use Rattle.pass_plain.specs.Calls.{descriptor_at}
use Rattle.pass_book.proofs.Backed.{number_stays}
use Rattle.pass_book.proofs.Numbered.{number_one}
use Rattle.pass_book.proofs.Prefixes.{prefix_get, prefix_length, prefix_trans}
use Rattle.pass_hold.specs.Callers.{CallerState, moved_on}
use Rattle.pass_hold.specs.Callings.{HasLooked}
use Rattle.pass_file.specs.Desks.{FileDeskView}
use Rattle.pass_proc.specs.CallEnds.{HasReplied, HasTooFew}
use Rattle.pass_proc.specs.Procs.{ProcView, IsCallerOf, proc_with}
use Rattle.pass_proc.specs.Views.{ProcessView}
use Rattle.pass_proc.specs.UnderWay.{IsWay}
use Rattle.pass_proc.specs.declared.way.Way.{Way}
use Rattle.pass_answer.specs.Answers.{HasMoved}
use Rattle.pass_answer.specs.declared.answer.CallEnd.{CallEnd}
use Rattle.pass_answer.specs.declared.answer.CallEnd.TheVariants as ends
use Rattle.pass_answer.specs.declared.answer.Moved.TheVariants as moved
use Rattle.pass_safe.specs.declared.saving.Saved.{Saved}
use Rattle.pass_safe.specs.Syncings.{HasKept, IsBacking, IsFileSaved, IsKeeping, KeepingView, kept_entry}
use Rattle.pass_answer.specs.Syncs.{BacksFile, HasSynced}
use Rattle.pass_answer.specs.Syncs.{HasLeft, SyncAnswers}
use Rattle.pass_answer.proofs.Wrapping.{full}
use Rattle.pass_safe.proofs.Committing.{keeping_looked, kept_backs}

-- a list of syncs that goes on has them still
pub synced_on : (calls entries : ℕ) (xs ys : List VaultSync) → HasSynced calls entries xs → IsPrefix xs ys → HasSynced calls entries ys
synced_on calls entries xs ys s more = record { i = s.i; s = s.s; is = prefix_get xs ys s.i s.s more s.is; whole = s.whole; called = s.called; has = s.has }

pub backs_on : (session : Session) (seen : List Entry) (what calls entries : ℕ) (xs ys : List VaultSync) → BacksFile session seen what calls entries xs → IsPrefix xs ys → BacksFile session seen what calls entries ys
backs_on session seen what calls entries xs ys backs more = λ number is. let b = backs number is in (b.0, b.1, b.2, prefix_get xs ys b.0 b.1 more b.3, b.4, b.5, b.6, b.7, b.8)

-- a file has one number, that of its desk
pub file_backs : (session : Session) → IsSound session → (file : FileDeskView) → IsFileNumber session file.seen file.what file.number → (s : Saved) → IsPrefix file.seen s.told.seen → IsFileSaved file.what file.number s
    → (seen : List Entry) → IsPrefix s.told.seen seen → IsLegal session seen → BacksFile session seen file.what s.receipt.calls s.receipt.entries s.told.syncs
file_backs session sound file known s begins saved seen told legal = λ number is.
    let mine = number_stays session file.seen seen file.what file.number (prefix_trans file.seen s.told.seen seen begins told) known in
    (saved.i, saved.sync, record { pnode = file.what; number = file.number }, saved.is, saved.mark, number_one session sound seen legal file.what file.number number mine is, saved.whole, saved.called, saved.has)

-- a file among objects is one of them
file_exists : (objects : List (ℕ × Kind)) (k p : ℕ) → slice_get (files_of objects) k ≡ Some p → (i : ℕ) × (a : ℕ × Kind) × (slice_get objects i ≡ Some a) × (a.0 ≡ p) × (same_kind a.1 kind.File ≡ true)
file_exists [] k p at = absurd (cc)
file_exists (o ∷ objects) k p at = by_kind (same_kind o.1 kind.File) refl k at (λ j there. let r = file_exists objects j p there in (suc r.0, r.1, r.2, r.3, r.4))
  where
    by_kind : (t : Bool) → same_kind o.1 kind.File ≡ t → (k : ℕ) → slice_get (map (λ (o : ℕ × Kind). o.0) (cond t (o ∷ filter (λ (o : ℕ × Kind). same_kind o.1 kind.File) objects) (filter (λ (o : ℕ × Kind). same_kind o.1 kind.File) objects))) k ≡ Some p
        → ((j : ℕ) → slice_get (files_of objects) j ≡ Some p → (i : ℕ) × (a : ℕ × Kind) × (slice_get (o ∷ objects) i ≡ Some a) × (a.0 ≡ p) × (same_kind a.1 kind.File ≡ true))
        → (i : ℕ) × (a : ℕ × Kind) × (slice_get (o ∷ objects) i ≡ Some a) × (a.0 ≡ p) × (same_kind a.1 kind.File ≡ true)
    by_kind true is zero at later = (zero, o, refl, some_is o.0 p at, is)
    by_kind true is (suc k) at later = later k at
    by_kind false is k at later = later k at

-- what a descriptor of another kind names is no file
pub other_backs : (session : Session) → IsSound session → (who : ℕ) (p : Process) (fd : ℕ) (d : Descriptor) → finite_map.get p.descriptors fd ≡ Some d → is_file d ≡ false → (calls entries : ℕ) (ss : List VaultSync)
    → (seen : List Entry) → IsLegal session seen → process_after seen who ≡ p → BacksFile session seen d.pnode calls entries ss
other_backs session sound who p fd d held no_file calls entries ss seen legal state = λ number is.
    let (i, a, at, same, file) = file_exists (registry_after session seen).objects number d.pnode is in
    let good = descriptor_law session sound seen legal who in
    let known = (good.held fd d (ap (λ (p : Process). finite_map.get p.descriptors fd) state ∙ held)).known in
    let other : Exists (registry_after session seen) d.pnode a.1 = (i, at ∙ (λ j. Some (same j, a.1))) in
    let one = one_kind_law session sound seen d.pnode a.1 d.kind legal other known in
    let z : true ≡ false = sym file ∙ ap (λ k. same_kind k kind.File) one ∙ no_file in
    absurd (cc)

-- The first entry stands, and the call may be left
pub kept_left : (session : Session) (k : KeepingView) (now : ProcView) (what : ℕ) → HasKept session k now what → HasLeft session k.before now (requests.Sync k.fd)
kept_left session k now what kept =
    let is = kept.keeping.gone.is in
    record {
      who = kept.who;
      made = (k.place, keep_entry now.who now.number what) ∷ [];
      legal = is.legal;
      begins = is.begins;
      own = is.own;
      made_is = ap (λ n. call_entries now.seen now.who n) (sym is.counted) ∙ is.made_is;
      before_is = ap (λ n. before_call now.seen now.who n) (sym is.counted) ∙ is.before_is ∙ sym is.was;
      steps = subst (λ (p : Process). IsBegun now.who p ((k.place, keep_entry now.who now.number what) ∷ []) (requests.Sync k.fd)) (sym is.was) is.begun_as;
      left = ap (λ n. may_be_left now.seen now.who n) (sym is.counted) ∙ (λ i. leaves_call (is.before_is i) (is.made_is i));
      way = kept.way;
    }

-- or its last one stands, too
pub ended_ok : (session : Session) (places : ℕ) (k : KeepingView) (now : ProcView) (what : ℕ) → HasKept session k now what → (new : ProcView) → new.who ≡ now.who → new.way ≡ now.way → (calls entries : ℕ)
    → HasMoved session now.who k.before.seen new.seen new.state (requests.Sync k.fd) (moved.Synced calls entries) → HasSynced calls entries new.syncs → BacksFile session k.before.seen what calls entries new.syncs
    → SyncAnswers session places k.before new k.fd (Ok (moved.Synced calls entries))
ended_ok session places k now what kept new who way calls entries made synced backs = (
  subst (λ w. HasMoved session w k.before.seen new.seen new.state (requests.Sync k.fd) (moved.Synced calls entries)) kept.who made,
  record { who = who ∙ kept.who; grows = made.call.begins; way = way ∙ kept.way },
  (synced, subst (λ (o : ℕ). BacksFile session k.before.seen o calls entries new.syncs) (sym kept.keeping.object ∙ ap (λ (p : Process). (descriptor_at p k.fd).pnode) kept.state) backs),
)

pub no_way : (session : Session) (who number : ℕ) (seen : List Entry) (now : Process) (o : Option Way) → o ≡ None → IsWay session who number seen now o
no_way session who number seen now None is = tt
no_way session who number seen now (Some w) is = absurd (cc)

-- Its caller meets what the vault had seen

module _ (session : Session) (k : KeepingView) (process : ProcessView) (number : ℕ) (caller met : CallerState) (way : Option Way) (now : ProcView) (is_now : proc_with process number caller way ≡ now)
    (what : ℕ) (kept : HasKept session k now what) (looked : HasLooked session caller.who caller.seen met.seen) (of_who : caller.who ≡ process.who) where
  pub by_parts : HasKept session k (proc_with process number caller way) what
  by_parts = subst (λ (v : ProcView). HasKept session k v what) (sym is_now) kept

  pub keeping_met : IsKeeping session process.who number k.before.seen met.seen k.fd what process.state k.place
  keeping_met = keeping_looked session process.who number k.before.seen caller.seen k.fd what process.state k.place by_parts.keeping met.seen (subst (λ w. HasLooked session w caller.seen met.seen) of_who looked)

  -- of a file it has a sync of the data, which had its number before the call
  pub file_backed : (s : Saved) → IsBacking session now.who now.state what s → IsPrefix s.told.seen met.seen → IsPrefix s.told.syncs met.syncs → BacksFile session k.before.seen what s.receipt.calls s.receipt.entries met.syncs
  file_backed s backing told listed = λ number is.
      let here = subst (λ (v : ProcView). IsBacking session v.who v.state what s) (sym is_now) backing in
      let going = keeping_met.gone.is in
      backs_on session met.seen what s.receipt.calls s.receipt.entries s.told.syncs met.syncs (here met.seen told going.legal going.state) listed number (number_stays session k.before.seen met.seen what number going.begins is)

  pub met_backs : (s : Saved) → IsBacking session now.who now.state what s → IsPrefix s.told.seen met.seen → IsPrefix s.told.syncs met.syncs → HasSynced s.receipt.calls s.receipt.entries s.told.syncs
      → k.place < s.receipt.entries → s.receipt.entries ≤ length s.told.seen → Backs session met.seen (length met.seen) met.syncs (kept_entry process.who number k.fd)
  met_backs s backing told listed synced above within =
      let here = subst (λ (v : ProcView). IsBacking session v.who v.state what s) (sym is_now) backing in
      let longer = prefix_length s.told.seen met.seen told in
      let is = keeping_met.gone.is in
      kept_backs session process.who number k.before.seen met.seen k.fd what process.state k.place keeping_met s.receipt.calls s.receipt.entries met.syncs
      (synced_on s.receipt.calls s.receipt.entries s.told.syncs met.syncs synced listed) above (omega (arith, within, longer))
      (backs_on session met.seen what s.receipt.calls s.receipt.entries s.told.syncs met.syncs (here met.seen told is.legal is.state) listed)

-- The process refused it

pub refused_fault : (session : Session) (places : ℕ) (old new : ProcView) (fd : ℕ) (f : CallFault) → HasReplied session old.who old.seen new.seen (requests.Sync fd) (answer.Fault f) → new.way ≡ None → new.who ≡ old.who
    → (e : CallEnd) → e ≡ ends.Fault f → SyncAnswers session places old new fd (Err e)
refused_fault session places old new fd f made way who e is =
    subst (λ e. SyncAnswers session places old new fd (Err e)) (sym is) (made, record { who = who; grows = made.call.begins; way = way })

pub refused_full : (session : Session) (places : ℕ) (old new : ProcView) (fd : ℕ) (f : Full) → HasTooFew session places old.who old.seen new.seen 3 f → new.number ≡ old.number → new.way ≡ old.way
    → (new.looks ≡ old.looks + 1) × (new.looked ≡ length new.seen) → (new.who ≡ old.who) × (new.state ≡ old.state) → (e : CallEnd) → e ≡ ends.Full f.left f.need → SyncAnswers session places old new fd (Err e)
refused_full session places old new fd f few number way looks same e is =
    let fewer = few.fewer in
    let needs = few.needs in
    let more = looks.0 in
    subst (λ e. SyncAnswers session places old new fd (Err e)) (sym is)
    (record {
      only = record {
        looked = few.looked;
        rose = omega (arith, more);
        stays = λ i. record { who = same.0 i; number = number i; seen = new.seen; syncs = new.syncs; looks = new.looks; looked = looks.1 i; state = same.1 i; way = way i };
      };
      anew = refl;
      needs = needs;
      fewer = omega (arith, fewer, needs);
      leaves = few.left;
    })

-- It was begun, or found too few places

pub kept_first : (session : Session) (k : KeepingView) (old : ProcView) (p : ProcessView) (n number : ℕ) (c d e : CallerState) (way : Option Way) (what : ℕ) → proc_with p n c way ≡ old → k.before ≡ old → d ≡ c
    → IsKeeping session p.who number d.seen e.seen k.fd what p.state k.place → HasKept session k (proc_with p number e None) what
kept_first session k old p n number c d e way what is_old before same keeping =
    let back : proc_with p n c way ≡ k.before = is_old ∙ sym before in
    record {
      keeping = subst (λ (v : ProcView). IsKeeping session p.who number v.seen e.seen k.fd what p.state k.place) back
          (subst (λ (s : CallerState). IsKeeping session p.who number s.seen e.seen k.fd what p.state k.place) same keeping);
      who = ap (λ (v : ProcView). v.who) back;
      state = ap (λ (v : ProcView). v.state) back;
      way = refl;
    }

pub too_few_sync : (session : Session) (places : ℕ) (old : ProcView) (p : ProcessView) (n : ℕ) (c d : CallerState) (way : Option Way) (fd : ℕ) (f : Full) → IsCallerOf session p n c → proc_with p n c way ≡ old
    → d ≡ moved_on c d.seen d.syncs c.held → HasLooked session c.who c.seen d.seen → (f.need ≡ 3) × (f.left < 3) × (f.left ≡ left_for places d.seen c.who) → (e : CallEnd) → e ≡ ends.Full f.left f.need
    → SyncAnswers session places old (proc_with p n d way) fd (Err e)
too_few_sync session places old p n c d way fd f is is_old same looked few e told =
    subst (λ e. SyncAnswers session places old (proc_with p n d way) fd (Err e)) (sym told)
    (subst (λ (v : ProcView). SyncAnswers session places v (proc_with p n d way) fd (Err (ends.Full f.left f.need))) is_old (full session places p n c d way is (requests.Sync fd) 3 f refl refl same looked few))

-- Its process sees more

pub looked_twice : (session : Session) (who other : ℕ) (seen mid after : List Entry) → other ≡ who → HasLooked session who seen mid → HasLooked session other mid after → HasLooked session who seen after
looked_twice session who other seen mid after same first second =
    let again = subst (λ w. HasLooked session w mid after) same second in
    record { legal = again.legal; begins = prefix_trans seen mid after first.begins again.begins; own = again.own ∙ first.own }

pub kept_on : (session : Session) (k : KeepingView) (old new : ProcView) (what : ℕ) → HasKept session k old what → HasLooked session old.who old.seen new.seen
    → (new.who ≡ old.who) × (new.number ≡ old.number) × (new.state ≡ old.state) × (new.way ≡ old.way) → HasKept session k new what
kept_on session k old new what kept looked same =
    let here = keeping_looked session old.who old.number k.before.seen old.seen k.fd what old.state k.place kept.keeping new.seen looked in
    record {
      keeping = subst (λ (p : Process). IsKeeping session new.who new.number k.before.seen new.seen k.fd what p k.place) (sym same.2)
          (subst (λ n. IsKeeping session new.who n k.before.seen new.seen k.fd what old.state k.place) (sym same.1)
          (subst (λ w. IsKeeping session w old.number k.before.seen new.seen k.fd what old.state k.place) (sym same.0) here));
      who = same.0 ∙ kept.who;
      state = same.2 ∙ kept.state;
      way = same.3 ∙ kept.way;
    }

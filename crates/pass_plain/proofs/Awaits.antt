-- No data flows by an await, and the child that it lets go has ended.
use Rattle.std.proofs.Common.{◌≡◌, ◌+◌, ℕ, zero, suc, List, [], ◌∷◌, ◌++◌, length, take, refl, ap, sym, ◌∙◌, subst, arith, Bool, true, false, not, ◌||◌, ◌&&◌, ◌==◌, cond}
use Rattle.std.specs.Prelude.{Option, Some, None, slice_get, drop, if◌then◌else◌}
use Rattle.std.specs.Option.{option_map_or}
use Rattle.std.proofs.lemmas.List.{take-append-drop}
use Rattle.pass_entry.specs.declared.entry.Entry.{Entry}
use Rattle.pass_entry.specs.declared.entry.Act.{Act}
use Rattle.pass_entry.specs.declared.entry.Act.TheVariants as act
use Rattle.pass_entry.specs.declared.entry.Ask.{Ask}
use Rattle.pass_entry.specs.declared.entry.CallName.TheVariants as call
use Rattle.pass_entry.specs.declared.objects.Node.{Node}
use Rattle.pass_entry.specs.declared.record.Record.{Record}
use Rattle.pass_entry.specs.declared.record.Record.TheVariants as log
use Rattle.pass_plain.specs.declared.request.Request.{Request}
use Rattle.pass_plain.specs.declared.request.Request.TheVariants as requests
use Rattle.pass_plain.specs.Histories.{call_entries, is_fault, own_step, out_of, replay, source_place, uses}
use Rattle.pass_plain.specs.Sessions.{Session}
use Rattle.pass_plain.specs.Processes.{Process, has_ended, new_process, process_act, process_after}
use Rattle.pass_plain.specs.Replies.{reply_to}
use Rattle.pass_plain.specs.Calls.{Made, Step, act_on, call_steps, name_of, refused_ask, steps_of}
use Rattle.pass_plain.specs.Legal.{MayFollow, before_call}
use Rattle.pass_plain.specs.Versions.{always_freezes, is_exec, is_fresh, is_freeze, is_marked, is_repeated, node_at_entry, nodes_of, source_in}
use Rattle.pass_plain.specs.Records.{act_records, entry_records, version_records}
use Rattle.pass_plain.specs.Lineages.{IsAlike, IsLineageStep, Lineage, lineage_act, lineage_after}
use Rattle.pass_plain.specs.Awaits.{NoFlowLaw, ReleaseLaw}
use Rattle.pass_plain.proofs.Appends.{replay-++}
use Rattle.pass_plain.proofs.Calling.{made_step, row, step_next, steps_by}
use Rattle.pass_plain.proofs.Lineages.{lineage_law}
use Rattle.pass_plain.proofs.Lists.{and_none, same_numbers, some_is}
use Rattle.pass_plain.proofs.Objects.{reaped}
use Rattle.pass_plain.proofs.OtherCalls.{ended_act}
use Rattle.pass_plain.proofs.Rows.{Row}

-- the acts of an await: its refusal and its two steps
abbrev is_awaiting : Act → Bool
is_awaiting (act.Deny ask) = true
is_awaiting act.Ended = true
is_awaiting (act.Release child) = true
is_awaiting _ = false

await_request : (r : Request) → name_of r ≡ call.Await → (child : ℕ) × (r ≡ requests.Await child)
await_request (requests.Await child) is = (child, refl)
await_request _ is = absurd (cc)

by_refusal : (who : ℕ) (p : Process) (made : Made) (child : ℕ) (o : Option Ask) (k : ℕ) (s : Step)
    → slice_get (option_map_or (λ a. act_on who (act.Deny a) ∷ []) o (steps_of who p made (requests.Await child))) k ≡ Some s → is_awaiting s.1 ≡ true
by_refusal who p made child (Some a) zero s at = ap (λ (s : Step). is_awaiting s.1) (sym (some_is (act_on who (act.Deny a)) s at))
by_refusal who p made child (Some a) (suc k) s at = absurd (cc)
by_refusal who p made child None zero s at = ap (λ (s : Step). is_awaiting s.1) (sym (some_is (act_on child act.Ended) s at))
by_refusal who p made child None (suc zero) s at = ap (λ (s : Step). is_awaiting s.1) (sym (some_is (act_on who (act.Release child)) s at))
by_refusal who p made child None (suc (suc k)) s at = absurd (cc)

awaiting : (session : Session) (history : List Entry) (e : Entry) → MayFollow session history e → e.call ≡ call.Await → is_awaiting e.act ≡ true
awaiting session history e next named =
    let p = before_call history e.who e.number in
    let made = call_entries history e.who e.number in
    let (child, same) = await_request next.step.request (next.step.named ∙ named) in
    let stands = step_next e.who p made (call_steps e.who p made next.step.request) (e.what, e.act) next.step.steps in
    by_refusal e.who p made child (refused_ask p (requests.Await child)) (length made) (e.what, e.act)
    (ap (λ r. slice_get (call_steps e.who p made r) (length made)) (sym same) ∙ stands)

-- what such an act is not
no_use : (a : Act) → is_awaiting a ≡ true → uses a ≡ false
no_use (act.Deny ask) is = refl
no_use act.Ended is = refl
no_use (act.Release child) is = refl
no_use _ is = absurd (cc)

no_out : (a : Act) → is_awaiting a ≡ true → out_of a ≡ None
no_out (act.Deny ask) is = refl
no_out act.Ended is = refl
no_out (act.Release child) is = refl
no_out _ is = absurd (cc)

steady : (a : Act) → is_awaiting a ≡ true → always_freezes a ≡ false
steady (act.Deny ask) is = refl
steady act.Ended is = refl
steady (act.Release child) is = refl
steady _ is = absurd (cc)

lists : (session : Session) (past : List Entry) (e : Entry) (node : Node) (a : Act) → is_awaiting a ≡ true
    → act_records session past e node a ≡ version_records session past e node ++ []
lists session past e node (act.Deny ask) is = refl
lists session past e node act.Ended is = refl
lists session past e node (act.Release child) is = refl
lists session past e node _ is = absurd (cc)

keeps : (l : Lineage) (a : Act) → is_awaiting a ≡ true → lineage_act l None a ≡ l
keeps l (act.Deny ask) is = refl
keeps l act.Ended is = refl
keeps l (act.Release child) is = refl
keeps l _ is = absurd (cc)

none_of_both : (b : Bool) (o : Option ℕ) → o ≡ None → (if b then None else o) ≡ None
none_of_both true o is = refl
none_of_both false o is = is

nothing_of_both : (b : Bool) (rs : List Record) → rs ≡ [] → (if b then [] else rs) ≡ []
nothing_of_both true rs is = refl
nothing_of_both false rs is = is

module _ (session : Session) (history : List Entry) (e : Entry) (is : is_awaiting e.act ≡ true) where
  abbrev nodes : List Node
  nodes = nodes_of session history

  abbrev node : Node
  node = node_at_entry session history nodes e

  pub unsourced : source_place e ≡ None
  unsourced = none_of_both (is_fault e.reply) (out_of e.act) (no_out e.act is)

  unfresh : is_fresh session history nodes e ≡ false
  unfresh = ap (λ o. option_map_or (λ out. true) o false && (is_exec e.act || not (is_repeated session history nodes e))) unsourced

  unfrozen : is_freeze session history nodes e ≡ false
  unfrozen =
      ap (λ b. not (is_fault e.reply) && (b || (is_fresh session history nodes e && is_marked session history nodes e.what))) (steady e.act is)
      ∙ ap (λ b. not (is_fault e.reply) && (b && is_marked session history nodes e.what)) unfresh ∙ and_none (not (is_fault e.reply))

  pub unrecorded : entry_records session history e ≡ []
  unrecorded =
      nothing_of_both (is_fault e.reply) (act_records session history e node e.act)
      (lists session history e node e.act is
      ∙ (λ i. ((if unfrozen i then log.Version node ∷ [] else []) ++ (if unfresh i then option_map_or (λ source. log.Input node source ∷ []) (source_in nodes e) [] else [])) ++ []))

  unchanged : IsLineageStep session history e (lineage_after session history e.what) (source_in nodes e) → (object : ℕ)
      → IsAlike (lineage_after session (history ++ e ∷ []) object) (lineage_after session history object)
  unchanged step object = at_object (e.what == object) refl
    where
      at_reply : (b : Bool) → is_fault e.reply ≡ b → IsAlike (lineage_after session (history ++ e ∷ []) e.what) (lineage_after session history e.what)
      at_reply true fault = step.stays fault
      at_reply false fine =
          subst (λ m. IsAlike (lineage_after session (history ++ e ∷ []) e.what) m)
          (ap (λ o. lineage_act (lineage_after session history e.what) (option_map_or (λ out. slice_get nodes out) o None) e.act) unsourced ∙ keeps (lineage_after session history e.what) e.act is)
          (step.moves fine)

      at_object : (b : Bool) → (e.what == object) ≡ b → IsAlike (lineage_after session (history ++ e ∷ []) object) (lineage_after session history object)
      at_object false other = step.others object other
      at_object true own =
          subst (λ o. IsAlike (lineage_after session (history ++ e ∷ []) o) (lineage_after session history o)) (same_numbers e.what object own) (at_reply (is_fault e.reply) refl)

pub no_flow_law : NoFlowLaw
no_flow_law session history e legal next named =
    let is = awaiting session history e next named in
    record {
      no_use = ap (λ b. b && not (is_fault e.reply)) (no_use e.act is);
      no_source = unsourced session history e is;
      no_records = unrecorded session history e is;
      stays = unchanged session history e is (lineage_law session history e legal next);
    }

-- a process that has ended lives no more

replay_ended : (o : ℕ) (past es : List Entry) (p : Process) → p.ended ≡ true → (replay (own_step (λ past (p : Process) (e : Entry). process_act past p e.act) o) past p es).ended ≡ true
replay_ended o past [] p is = is
replay_ended o past (e ∷ es) p is = replay_ended o (past ++ e ∷ []) es _ (by_test (e.what == o && not (is_fault e.reply)))
  where
    by_test : (b : Bool) → (cond b (process_act past p e.act) p).ended ≡ true
    by_test true = ended_act past p e.act is
    by_test false = is

pub ended_more : (h later : List Entry) (o : ℕ) → has_ended h o ≡ true → has_ended (h ++ later) o ≡ true
ended_more h later o is =
    ap (λ (p : Process). p.ended) (replay-++ (own_step (λ past (p : Process) (e : Entry). process_act past p e.act) o) [] new_process h later)
    ∙ replay_ended o h later (process_after h o) is

pub release_law : ReleaseLaw
release_law session history e child legal next is =
    let made = call_entries history e.who e.number in
    let r = subst (λ a. Row e.who (before_call history e.who e.number) made (steps_by session history e legal next) (length made) e.what a) is (row session history e legal next) in
    let (m, first, stands, what, same, done, who, number, called) = made_step session history e legal next 0 (act_on child act.Ended) (let one = r.1 in omega (arith, one)) r.2 in
    let past = take m.0 history in
    let ended : has_ended past m.1.what ≡ true =
    reaped (has_ended past m.1.what) m.1.reply (ap (λ a. reply_to session past m.1.what a) (sym same) ∙ (legal m.0 m.1 stands).replied) in
    subst (λ h. has_ended h child ≡ true) (take-append-drop m.0 history) (ended_more past (drop m.0 history) child (subst (λ o. has_ended past o ≡ true) what ended))

-- A write to a pipe that is under way: its process does not refuse it, and it is no write to a file.
use Rattle.std.proofs.Common.{◌≡◌, ℕ, ◌+◌, List, length, ap, sym, ◌∙◌, subst, true, false, ◌&&◌, ◌||◌}
use Rattle.std.specs.Prelude.{Option, Some, None, nat_lt, take}
use Rattle.std.specs.Option.{option_map_or}
use Rattle.std.specs.FinMap as finite_map
use Rattle.std.proofs.lemmas.Bool.{false_from_ne_true}
use Rattle.pass_entry.specs.Limits.{file_limit}
use Rattle.pass_entry.specs.declared.entry.Entry.{Entry}
use Rattle.pass_entry.specs.declared.entry.Ask.TheVariants as ask
use Rattle.pass_entry.specs.declared.entry.CallFault.{CallFault}
use Rattle.pass_entry.specs.declared.entry.CallFault.TheVariants as fault
use Rattle.pass_entry.specs.declared.objects.Descriptor.{Descriptor}
use Rattle.pass_entry.specs.declared.objects.Mode.TheVariants as mode
use Rattle.pass_entry.proofs.Lists.{some_is}
use Rattle.pass_plain.specs.Processes.{Process, faults_if, is_app, is_file, is_pipe, process_after, refusal, same_mode}
use Rattle.pass_plain.specs.Sessions.{Session}
use Rattle.pass_proc.specs.Procs.{is_way}
use Rattle.pass_proc.specs.UnderWay.{IsWay}
use Rattle.pass_proc.specs.declared.way.Way.{Way}
use Rattle.pass_answer.proofs.Waiting.{way_bytes, way_fd}
use Rattle.pass_slots.proofs.OneKind.{file_alone}

-- what is under way is a write to a pipe that the process holds
way_pipe : (session : Session) (who number : ℕ) (seen : List Entry) (now : Process) (way : Option Way) (fd : ℕ) (bytes : List ℕ) (d : Descriptor) → IsWay session who number seen now way
    → finite_map.get now.descriptors fd ≡ Some d → is_way way fd bytes ≡ true → is_pipe d ≡ true
way_pipe session who number seen now None fd bytes d under at is = absurd (cc)
way_pipe session who number seen now (Some w) fd bytes d under at is =
    let same : w.to ≡ d = some_is w.to d (sym under.holds ∙ ap (λ n. finite_map.get now.descriptors n) (way_fd w fd bytes is) ∙ at) in subst (λ (x : Descriptor). is_pipe x ≡ true) same under.pipe

pub new_write : (session : Session) (who number : ℕ) (seen : List Entry) (now : Process) (way : Option Way) (fd : ℕ) (bytes : List ℕ) (d : Descriptor) → IsWay session who number seen now way
    → finite_map.get now.descriptors fd ≡ Some d → is_file d ≡ true → is_way way fd bytes ≡ false
new_write session who number seen now way fd bytes d under at file =
    false_from_ne_true (is_way way fd bytes) (λ is. let pipe = (file_alone d file).0 in let also = way_pipe session who number seen now way fd bytes d under at is in absurd (cc))

same_judge : (p q : Process) (fd len : ℕ) → finite_map.get p.descriptors fd ≡ finite_map.get q.descriptors fd → refusal p (ask.ToWrite fd len) ≡ refusal q (ask.ToWrite fd len)
same_judge p q fd len same =
    ap (λ o. option_map_or (λ d. faults_if (is_app d || same_mode d.mode mode.Read) fault.BadMode (faults_if (is_file d && nat_lt file_limit (d.offset + len)) fault.TooBig None)) o (Some fault.BadFd)) same

fine_way : (session : Session) (who number : ℕ) (seen : List Entry) (now : Process) (way : Option Way) (fd : ℕ) (bytes : List ℕ) → IsWay session who number seen now way
    → is_way way fd bytes ≡ true → refusal now (ask.ToWrite fd (length bytes)) ≡ None
fine_way session who number seen now None fd bytes under is = absurd (cc)
fine_way session who number seen now (Some w) fd bytes under is =
    subst (λ b. refusal now (ask.ToWrite fd (length b)) ≡ None) (way_bytes w fd bytes is)
    (subst (λ n. refusal now (ask.ToWrite n (length w.bytes)) ≡ None) (way_fd w fd bytes is)
    (same_judge now (process_after (take w.out seen) who) w.fd (length w.bytes) (under.holds ∙ sym under.held) ∙ under.free))

-- a write that is refused is a new one
pub new_refused : (session : Session) (who number : ℕ) (seen : List Entry) (now : Process) (way : Option Way) (fd : ℕ) (bytes : List ℕ) (f : CallFault) → IsWay session who number seen now way
    → refusal now (ask.ToWrite fd (length bytes)) ≡ Some f → is_way way fd bytes ≡ false
new_refused session who number seen now way fd bytes f under refused =
    false_from_ne_true (is_way way fd bytes) (λ is. let free = fine_way session who number seen now way fd bytes under is in absurd (cc))

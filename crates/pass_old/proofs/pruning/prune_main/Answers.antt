use Rattle.std.proofs.Common.{◌≡◌, ◌∙◌, List, refl, sym, ap, subst}
use Rattle.std.specs.Prelude.{Option, Some, option_map, map, string_bytes, Vec}
use Rattle.std.specs.declared.alloc.Global.{Global}
use Rattle.pass_entry.specs.declared.objects.Node.{Node}
use Rattle.pass_status.specs.declared.status.Status.TheVariants as status
use Rattle.pass_ask.specs.Answers.{SinkSeen}
use Rattle.pass_old.specs.declared.status.OldStatus.TheVariants as old_status
use Rattle.pass_old.specs.Prunes.{prune_of, IsPruneAnswer, IsWholePruning}
use Rattle.pass_old.proofs.Pruned.{answer_whole, answer_words, answer_work, answer_fresh_work, starved_answer, one_named, some_named, none_named, words_alone}
use Rattle.pass_old.proofs.Steps.{left_at, later_at, later_work}
use Rattle.pass_old.proofs.Texts.{stands_as}
use Rattle.pass_old.proofs.pruning.prune_main.Goals as goal

abbrev nodes : Option (Vec Node Global) → Option (List Node)
nodes read = option_map (λ n. n.items) read

-- memory was refused for the words

pub returns-in-Err-clause-bad_words : goal.returns-in-Err-clause-bad_words
returns-in-Err-clause-bad_words g c = λ none known. absurd (known refl)

pub returns-in-Err-clause-pruned : goal.returns-in-Err-clause-pruned
returns-in-Err-clause-pruned g c = λ named is. starved_answer g.D.Disk.view g.A.Disk.view g.F.Disk.view c.args.disk c.args.archive c.args.fresh named _

pub returns-in-Err-clause-done : goal.returns-in-Err-clause-done
returns-in-Err-clause-done g c = λ named is done. absurd (cc done)

pub returns-in-Err-clause-alone : goal.returns-in-Err-clause-alone
returns-in-Err-clause-alone g c = (left_at g.D.Disk.view c.args.disk c.args.disk refl, left_at g.A.Disk.view c.args.archive c.args.archive refl)

pub returns-in-Err-clause-later : goal.returns-in-Err-clause-later
returns-in-Err-clause-later g c = later_at g.D.Disk.view c.args.disk c.args.disk refl

pub returns-in-Err-clause-archive_later : goal.returns-in-Err-clause-archive_later
returns-in-Err-clause-archive_later g c = later_at g.A.Disk.view c.args.archive c.args.archive refl

pub returns-in-Err-clause-fresh_later : goal.returns-in-Err-clause-fresh_later
returns-in-Err-clause-fresh_later g c = later_at g.F.Disk.view c.args.fresh c.args.fresh refl

pub returns-in-Err-clause-write_fault : goal.returns-in-Err-clause-write_fault
returns-in-Err-clause-write_fault g c = λ known. absurd (known refl)

pub returns-in-Err-clause-archive_fault : goal.returns-in-Err-clause-archive_fault
returns-in-Err-clause-archive_fault g c = λ known. absurd (known refl)

pub returns-in-Err-clause-fresh_fault : goal.returns-in-Err-clause-fresh_fault
returns-in-Err-clause-fresh_fault g c = λ known. absurd (known refl)

pub returns-in-Err-clause-refused_words : goal.returns-in-Err-clause-refused_words
returns-in-Err-clause-refused_words g c = λ is. absurd (cc is)

-- a pruning

pub returns-in-Some-clause-bad_words : goal.returns-in-Some-clause-bad_words
returns-in-Some-clause-bad_words g c = λ none.
    let read : Some c.in-Some.named.items ≡ prune_of (map string_bytes c.args.words.now) = sym (ap nodes c.in-Some.is) ∙ c.in-Ok.ensures in
    absurd (some_named (prune_of (map string_bytes c.args.words.now)) c.in-Some.named.items read none)

pub returns-in-Some-clause-pruned : goal.returns-in-Some-clause-pruned
returns-in-Some-clause-pruned g c = λ named is.
    let p = c.prune_named in
    let sink : SinkSeen = record { tells = g.K.Sink.tells; before = g.K.Sink.taken c.args.sink.now; after = g.K.Sink.taken p.new.sink } in
    let read : Some c.in-Some.named.items ≡ prune_of (map string_bytes c.args.words.now) = sym (ap nodes c.in-Some.is) ∙ c.in-Ok.ensures in
    let same : c.deref.result.now ≡ named = c.deref.ensures.value ∙ one_named (prune_of (map string_bytes c.args.words.now)) c.in-Some.named.items named read is in
    subst (λ (n : List Node). IsPruneAnswer g.D.Disk.view g.A.Disk.view g.F.Disk.view c.args.disk p.result.disk c.args.archive p.result.archive c.args.fresh p.result.fresh n sink p.result.status) same p.ensures.pruned

pub returns-in-Some-clause-done : goal.returns-in-Some-clause-done
returns-in-Some-clause-done g c = λ named is done.
    let p = c.prune_named in
    let read : Some c.in-Some.named.items ≡ prune_of (map string_bytes c.args.words.now) = sym (ap nodes c.in-Some.is) ∙ c.in-Ok.ensures in
    let same : c.deref.result.now ≡ named = c.deref.ensures.value ∙ one_named (prune_of (map string_bytes c.args.words.now)) c.in-Some.named.items named read is in
    subst (λ (n : List Node). IsWholePruning g.D.Disk.view g.A.Disk.view g.F.Disk.view c.args.disk c.args.archive c.args.fresh p.result.fresh n) same
    (answer_whole g.D.Disk.view g.A.Disk.view g.F.Disk.view c.args.disk p.result.disk c.args.archive p.result.archive c.args.fresh p.result.fresh c.deref.result.now _ p.result.status p.ensures.pruned done)

pub returns-in-Some-clause-alone : goal.returns-in-Some-clause-alone
returns-in-Some-clause-alone g c = (c.prune_named.ensures.store_alone, c.prune_named.ensures.alone)

pub returns-in-Some-clause-untouched : goal.returns-in-Some-clause-untouched
returns-in-Some-clause-untouched g c = λ none.
    let read : Some c.in-Some.named.items ≡ prune_of (map string_bytes c.args.words.now) = sym (ap nodes c.in-Some.is) ∙ c.in-Ok.ensures in
    absurd (some_named (prune_of (map string_bytes c.args.words.now)) c.in-Some.named.items read none)

pub returns-in-Some-clause-archive_later : goal.returns-in-Some-clause-archive_later
returns-in-Some-clause-archive_later g c = later_work (g.A.Disk.view c.args.archive) (g.A.Disk.view c.prune_named.result.archive) _ c.prune_named.ensures.pruned.work

pub returns-in-Some-clause-fresh_later : goal.returns-in-Some-clause-fresh_later
returns-in-Some-clause-fresh_later g c = later_work (g.F.Disk.view c.args.fresh) (g.F.Disk.view c.prune_named.result.fresh) _ c.prune_named.ensures.pruned.fresh_work

pub returns-in-Some-clause-archive_fault : goal.returns-in-Some-clause-archive_fault
returns-in-Some-clause-archive_fault g c = λ known taken.
    let p = c.prune_named in
    answer_work g.D.Disk.view g.A.Disk.view g.F.Disk.view c.args.disk p.result.disk c.args.archive p.result.archive c.args.fresh p.result.fresh c.deref.result.now _ p.result.status p.ensures.pruned known taken

pub returns-in-Some-clause-fresh_fault : goal.returns-in-Some-clause-fresh_fault
returns-in-Some-clause-fresh_fault g c = λ known taken.
    let p = c.prune_named in
    answer_fresh_work g.D.Disk.view g.A.Disk.view g.F.Disk.view c.args.disk p.result.disk c.args.archive p.result.archive c.args.fresh p.result.fresh c.deref.result.now _ p.result.status p.ensures.pruned known taken

pub returns-in-Some-clause-refused_words : goal.returns-in-Some-clause-refused_words
returns-in-Some-clause-refused_words g c = λ is.
    let p = c.prune_named in
    absurd (answer_words g.D.Disk.view g.A.Disk.view g.F.Disk.view c.args.disk p.result.disk c.args.archive p.result.archive c.args.fresh p.result.fresh c.deref.result.now _ p.result.status p.ensures.pruned is)

-- other words

pub returns-in-None-clause-bad_words : goal.returns-in-None-clause-bad_words
returns-in-None-clause-bad_words g c = λ none known.
    let w = c.write_old in
    record { stands = stands_as w.result (old_status.Same status.BadWords) known w.ensures.stands; whole = λ whole tells. w.ensures.whole whole known tells; part = w.ensures.part }

pub returns-in-None-clause-pruned : goal.returns-in-None-clause-pruned
returns-in-None-clause-pruned g c = λ named is. absurd (none_named (prune_of (map string_bytes c.args.words.now)) named (sym (ap nodes c.in-None.is) ∙ c.in-Ok.ensures) is)

pub returns-in-None-clause-done : goal.returns-in-None-clause-done
returns-in-None-clause-done g c = λ named is. absurd (none_named (prune_of (map string_bytes c.args.words.now)) named (sym (ap nodes c.in-None.is) ∙ c.in-Ok.ensures) is)

pub returns-in-None-clause-alone : goal.returns-in-None-clause-alone
returns-in-None-clause-alone g c = (left_at g.D.Disk.view c.args.disk c.args.disk refl, left_at g.A.Disk.view c.args.archive c.args.archive refl)

pub returns-in-None-clause-later : goal.returns-in-None-clause-later
returns-in-None-clause-later g c = later_at g.D.Disk.view c.args.disk c.args.disk refl

pub returns-in-None-clause-archive_later : goal.returns-in-None-clause-archive_later
returns-in-None-clause-archive_later g c = later_at g.A.Disk.view c.args.archive c.args.archive refl

pub returns-in-None-clause-fresh_later : goal.returns-in-None-clause-fresh_later
returns-in-None-clause-fresh_later g c = later_at g.F.Disk.view c.args.fresh c.args.fresh refl

pub returns-in-None-clause-archive_fault : goal.returns-in-None-clause-archive_fault
returns-in-None-clause-archive_fault g c = λ known taken.
    words_alone (g.A.Disk.view c.args.archive) c.write_old.result old_status.ArchiveFault (λ e. cc e) taken (stands_as c.write_old.result (old_status.Same status.BadWords) known c.write_old.ensures.stands)

pub returns-in-None-clause-fresh_fault : goal.returns-in-None-clause-fresh_fault
returns-in-None-clause-fresh_fault g c = λ known taken.
    words_alone (g.F.Disk.view c.args.fresh) c.write_old.result old_status.FreshFault (λ e. cc e) taken (stands_as c.write_old.result (old_status.Same status.BadWords) known c.write_old.ensures.stands)

pub returns-in-None-clause-refused_words : goal.returns-in-None-clause-refused_words
returns-in-None-clause-refused_words g c = λ is. sym c.in-Ok.ensures ∙ ap nodes c.in-None.is

use Rattle.std.proofs.Common.{◌≡◌, ◌&&◌, ◌++◌, ◌∷◌, [], true, false, List, sym, ◌∙◌, ap, subst, append-nil}
use Rattle.std.proofs.lemmas.Result.{on_ok_weaker}
use Rattle.pass_plain.specs.Legal.{session_of}
use Rattle.pass_plain.specs.Registries.{registry_after}
use Rattle.pass_plain.specs.Recording.{bytes_after}
use Rattle.pass_plain.specs.Versions.{nodes_of, is_freeze}
use Rattle.pass_leaf.specs.Keeping.{FileVersion}
use Rattle.pass_past.specs.Pasts.{is_file_in, version_of}
use Rattle.pass_past.specs.Keepings.{IsKeeping, IsHalted}
use Rattle.pass_past.proofs.Goings.{ended_not, ended_one, err_weaker}
use Rattle.pass_past.proofs.phases.keep_ended_by.Goals as goal

pub returns-then-not-is_ended-clause-kept : goal.returns-then-not-is_ended-clause-kept
returns-then-not-is_ended-clause-kept g c = λ first done past e is h.
    let session = session_of c.args.start.now 0 in
    let test : c.is_ended.result ≡ (is_file_in (registry_after session past) e.what && is_freeze session past (nodes_of session past) e) =
    c.is_ended.ensures c.args.start.now past is.files_are ∙ (λ i. is_file_in (registry_after session past) (is.object i) && is.freeze i) in
    let not_ended : c.is_ended.result ≡ false = cc (c.if-not-is_ended.true) in
    subst (λ (l : List FileVersion). IsKeeping g.A.Disk.view first l c.args.old.now) (sym (ap (λ (l : List FileVersion). done ++ l) (ended_not session past e (sym test ∙ not_ended)) ∙ append-nil done)) h

pub returns-clause-kept : goal.returns-clause-kept
returns-clause-kept g c = on_ok_weaker c.keep_next.result (λ kept. λ first done past e is h.
    let session = session_of c.args.start.now 0 in
    let test : c.is_ended.result ≡ (is_file_in (registry_after session past) e.what && is_freeze session past (nodes_of session past) e) =
    c.is_ended.ensures c.args.start.now past is.files_are ∙ (λ i. is_file_in (registry_after session past) (is.object i) && is.freeze i) in
    let ended : c.is_ended.result ≡ true = cc (c.if-not-is_ended.false) in
    let bytes : c.content.result.now ≡ bytes_after c.args.start.now past e.what = c.content.ensures past is.recorded ∙ ap (bytes_after c.args.start.now past) is.object in
    let one : ◌≡◌ {A = List FileVersion} (record { node = c.args.node; bytes = c.content.result.now } ∷ []) (version_of session past e.what ∷ []) =
    λ i. record { node = record { pnode = is.object i; version = is.version i }; bytes = bytes i } ∷ [] in
    subst (λ (l : List FileVersion). IsKeeping g.A.Disk.view first (done ++ l) c.keep_next.new.old) (one ∙ sym (ended_one session past e (sym test ∙ ended))) (kept first done h)) c.keep_next.ensures.kept

pub returns-clause-stopped : goal.returns-clause-stopped
returns-clause-stopped g c = err_weaker c.keep_next.result _ _ (λ fault stopped. λ first done past e is h.
    let session = session_of c.args.start.now 0 in
    let test : c.is_ended.result ≡ (is_file_in (registry_after session past) e.what && is_freeze session past (nodes_of session past) e) =
    c.is_ended.ensures c.args.start.now past is.files_are ∙ (λ i. is_file_in (registry_after session past) (is.object i) && is.freeze i) in
    let ended : c.is_ended.result ≡ true = cc (c.if-not-is_ended.false) in
    let bytes : c.content.result.now ≡ bytes_after c.args.start.now past e.what = c.content.ensures past is.recorded ∙ ap (bytes_after c.args.start.now past) is.object in
    let one : ◌≡◌ {A = List FileVersion} (record { node = c.args.node; bytes = c.content.result.now } ∷ []) (version_of session past e.what ∷ []) =
    λ i. record { node = record { pnode = is.object i; version = is.version i }; bytes = bytes i } ∷ [] in
    subst (λ (l : List FileVersion). IsHalted g.A.Disk.view first (done ++ l) c.keep_next.new.old fault) (one ∙ sym (ended_one session past e (sym test ∙ ended))) (stopped first done h)) c.keep_next.ensures.stopped

-- A walk with one more entry, and how far versions rise.
use Rattle.std.proofs.Common.{◌≡◌, ◌≤◌, ◌<◌, ◌+◌, ℕ, List, [], ◌∷◌, ◌++◌, length, refl, ap, sym, ◌∙◌, subst, arith, Bool, true, false, cond, ◌==◌, length-append}
use Rattle.std.specs.Prelude.{Option, Some, suc, find, slice_get, if◌then◌else◌}
use Rattle.std.specs.Option.{option_map_or}
use Rattle.std.proofs.lemmas.List.Sums.{fold-append}
use Rattle.pass_entry.specs.declared.entry.Entry.{Entry}
use Rattle.pass_entry.specs.declared.objects.Node.{Node}
use Rattle.pass_entry.specs.Limits.{number_limit}
use Rattle.pass_plain.specs.Sessions.{Session, opening_version}
use Rattle.pass_plain.specs.Sound.{IsSound, IsSoundFile, IsVersion}
use Rattle.pass_plain.specs.declared.start.StartFile.{StartFile}
use Rattle.pass_plain.specs.declared.start.Start.{Start}
use Rattle.pass_plain.specs.declared.nodes.VersionStep.{VersionStep}
use Rattle.pass_plain.specs.Legal.{session_of}
use Rattle.pass_plain.specs.Versions.{version_in, nodes_of, node_at_entry, is_freeze}
use Rattle.pass_plain.specs.Recording.{IsVersionStep, IsRecording}
use Rattle.pass_plain.proofs.Versioned.{nodes_of-append}
use Rattle.pass_reference.specs.Walks.{IsWalk, HasVersions}
use Rattle.pass_reference.specs.declared.walk.Walk.{Walk}

-- versions rise by at most one an entry
risen_if : (b : Bool) (v most : ℕ) → v ≤ most → cond b (v + 1) v ≤ most + 1
risen_if true v most h = omega arith
risen_if false v most h = omega arith

picked : (b : Bool) (v w most : ℕ) → v ≤ most → w ≤ most → cond b v w ≤ most
picked true v w most p q = p
picked false v w most p q = q

rises : (session : Session) (history : List Entry) (e : Entry) (object most : ℕ) → version_in session (nodes_of session history) e.what ≤ most
    → version_in session (nodes_of session history) object ≤ most + 1 → version_in session (nodes_of session (history ++ e ∷ [])) object ≤ most + 1
rises session history e object most here there =
    let nodes = nodes_of session history in
    let node = node_at_entry session history nodes e in
    subst (λ n. n ≤ most + 1)
    (sym (ap (λ nodes. version_in session nodes object) (nodes_of-append session history e)
    ∙ fold-append (λ v (n : Node). if n.pnode == object then n.version else v) (opening_version session.start object) nodes (node ∷ [])))
    (picked (e.what == object) node.version (version_in session nodes object) (most + 1) (risen_if (is_freeze session history nodes e) (version_in session nodes e.what) most here) there)

-- a walk that has noted one more entry
pub walked : (start : Start) (history : List Entry) (e : Entry) (w v : Walk) (s : VersionStep) → IsWalk start history w
    → IsVersionStep start history (nodes_of (session_of start 0) history) e s
    → v.nodes.items ≡ w.nodes.items ++ s.node ∷ []
    → IsRecording start (history ++ e ∷ []) v.recording
    → IsWalk start (history ++ e ∷ []) v
walked start history e w v s is step nodes recording =
    let session = session_of start 0 in
    let size = length-append history (e ∷ []) in
    record {
      nodes = nodes ∙ (λ i. is.nodes i ++ step.node i ∷ []) ∙ sym (nodes_of-append session history e);
      recording = recording;
      versions = λ object.
          let here = is.versions e.what in
          let there = is.versions object in
          omega (arith, rises session history e object (number_limit + length history) here (omega (arith, there)), size);
    }

-- a walk that has noted nothing
pub begun : (start : Start) (w : Walk) → HasVersions start → w.nodes.items ≡ [] → IsRecording start [] w.recording → IsWalk start [] w
begun start w versions nodes recording = record {
  nodes = nodes;
  recording = recording;
  versions = λ object. let v = versions object in omega (arith, v);
}

-- a sound opening gives each object a version that a record can have
file_version : (b : Bool) (f : StartFile) (rest : Option StartFile) (other : ℕ) → IsSoundFile f → option_map_or (λ (f : StartFile). f.node.version) rest other < number_limit
    → option_map_or (λ (f : StartFile). f.node.version) (cond b (Some f) rest) other < number_limit
file_version true f rest other sound later = let v = sound.version in omega (arith, v.1)
file_version false f rest other sound later = later

file_versions : (files : List StartFile) (object other : ℕ) → ((i : ℕ) (file : StartFile) → slice_get files i ≡ Some file → IsSoundFile file) → other < number_limit
    → option_map_or (λ (f : StartFile). f.node.version) (find (λ f. f.node.pnode == object) files) other < number_limit
file_versions [] object other sound few = few
file_versions (f ∷ files) object other sound few = file_version (f.node.pnode == object) f _ other (sound 0 f refl) (file_versions files object other (λ i file at. sound (suc i) file at) few)

app_version : (b : Bool) (n : Node) (rest : Option Node) → IsVersion n.version → option_map_or (λ (n : Node). n.version) rest 1 < number_limit
    → option_map_or (λ (n : Node). n.version) (cond b (Some n) rest) 1 < number_limit
app_version true n rest sound later = omega (arith, sound.1)
app_version false n rest sound later = later

app_versions : (apps : List Node) (object : ℕ) → ((i : ℕ) (app : Node) → slice_get apps i ≡ Some app → IsVersion app.version)
    → option_map_or (λ (n : Node). n.version) (find (λ n. n.pnode == object) apps) 1 < number_limit
app_versions [] object sound = omega arith
app_versions (n ∷ apps) object sound = app_version (n.pnode == object) n _ (sound 0 n refl) (app_versions apps object (λ i app at. sound (suc i) app at))

pub sound_versions : (session : Session) → IsSound session → HasVersions session.start
sound_versions session sound object =
    file_versions session.start.files.items object _ sound.files (app_versions session.start.apps.items object sound.apps)

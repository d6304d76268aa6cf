-- A run goes on by one entry.
use Rattle.std.proofs.Common.{◌≡◌, ◌+◌, ℕ, List, [], ◌∷◌, ◌++◌, length, arith, length-append}
use Rattle.std.specs.Prelude.{Some, slice_get}
use Rattle.pass_entry.specs.declared.entry.Entry.{Entry}
use Rattle.pass_plain.specs.Histories.{call_entries}
use Rattle.pass_plain.specs.Sessions.{Session}
use Rattle.pass_plain.specs.Legal.{MayFollow, before_call}
use Rattle.pass_plain.specs.Traces.{Line, LineCall, calls_of}
use Rattle.pass_plain.specs.Runs.{pnode_of_process, next_number, request_at}
use Rattle.pass_replay.specs.Lines.{AreLinesBehind}
use Rattle.pass_replay.specs.Making.{IsRunSoFar, IsNextEntry}
use Rattle.pass_replay.proofs.OneMore.{run_after}
use Rattle.pass_replay.proofs.Lives.{begun_after, ended_after, unborn_after, single_after}
use Rattle.pass_replay.proofs.Rooms.{room_after}

module _ (session : Session) (trace : List Line) (behind : AreLinesBehind [] trace) (history : List Entry) (so_far : IsRunSoFar session trace history)
    (process who done : ℕ) (call : LineCall) (begun : pnode_of_process session trace history process ≡ Some who)
    (stands : slice_get (calls_of trace process) done ≡ Some call) (next : next_number history who ≡ done + 1)
    (e : Entry) (follows : MayFollow session history e)
    (is : IsNextEntry who (done + 1) (request_at session trace history who (done + 1) call) (before_call history who (done + 1)) (call_entries history who (done + 1)) e) where
  abbrev longer : List Entry
  longer = history ++ e ∷ []

  one_longer : length longer ≡ length history + 1
  one_longer = length-append history (e ∷ [])

  pub so_far_after : IsRunSoFar session trace longer
  so_far_after = record {
    run = run_after session trace behind history so_far process who done call begun stands next e follows is;
    some = omega (arith, one_longer);
    begun = begun_after session trace behind history so_far process who done call begun stands next e follows is;
    ended = ended_after session trace behind history so_far process who done call begun stands next e follows is;
    unborn = unborn_after session trace behind history so_far process who done call begun stands next e follows is;
    single = single_after session trace behind history so_far process who done call begun stands next e follows is;
    room = room_after session trace behind history so_far process who done call begun stands next e follows is;
  }

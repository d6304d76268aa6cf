-- A command that is no fork makes no fork.
use Rattle.std.proofs.Common.{◌≡◌, ◌≢◌, ℕ, refl}
use Rattle.pass_plain.specs.declared.request.Request.{Request}
use Rattle.pass_plain.specs.declared.request.Request.TheVariants as requests
use Rattle.pass_plain.specs.Traces.{given, write_last, fork_as, wait_for, await_for}
use Rattle.pass_trace.specs.TraceLines.{call_of}
use Rattle.pass_trace.specs.declared.trace.Command.{Command}
use Rattle.pass_trace.specs.declared.trace.Command.TheVariants as command
use Rattle.pass_trace.specs.declared.trace.Payload.TheVariants as payload

apart_given : (r : Request) (child : ℕ) → given r ≢ fork_as child
apart_given r child is = let z : given r ≡ fork_as child = is in cc

apart_write : (fd child : ℕ) → write_last fd ≢ fork_as child
apart_write fd child is = let z : write_last fd ≡ fork_as child = is in cc

apart_wait : (q child : ℕ) → wait_for q ≢ fork_as child
apart_wait q child is = let z : wait_for q ≡ fork_as child = is in cc

apart_await : (q child : ℕ) → await_for q ≢ fork_as child
apart_await q child is = let z : await_for q ≡ fork_as child = is in cc

pub other_than_fork : (c : Command) → ((child : ℕ) → c ≢ command.Fork child) → (child : ℕ) → call_of c ≢ fork_as child
other_than_fork (command.Creat fd name) apart child is = apart_given (requests.Creat fd name) child is
other_than_fork (command.Open fd name mode) apart child is = apart_given (requests.OpenName fd name mode) child is
other_than_fork (command.Close fd) apart child is = apart_given (requests.CloseFd fd) child is
other_than_fork (command.Read fd len) apart child is = apart_given (requests.Read fd len) child is
other_than_fork (command.Write fd (payload.Given bytes)) apart child is = apart_given (requests.Write fd bytes) child is
other_than_fork (command.Write fd payload.Last) apart child is = apart_write fd child is
other_than_fork (command.Seek fd off) apart child is = apart_given (requests.Seek fd off) child is
other_than_fork (command.Truncate fd size) apart child is = apart_given (requests.Truncate fd size) child is
other_than_fork (command.Pipe reader writer) apart child is = apart_given (requests.MakePipe reader writer) child is
other_than_fork (command.Fork q) apart child is = apart q refl
other_than_fork (command.Exec name args) apart child is = apart_given (requests.Exec name args) child is
other_than_fork (command.Wait q) apart child is = apart_wait q child is
other_than_fork (command.Await q) apart child is = apart_await q child is
other_than_fork (command.Rename from to) apart child is = apart_given (requests.Rename from to) child is
other_than_fork (command.Unlink name) apart child is = apart_given (requests.Unlink name) child is
other_than_fork (command.MkObj fd) apart child is = apart_given (requests.MakeObj fd) child is
other_than_fork (command.Revive fd object) apart child is = apart_given (requests.Revive fd object) child is
other_than_fork (command.Freeze fd) apart child is = apart_given (requests.FreezeObj fd) child is
other_than_fork (command.Disclose target source) apart child is = apart_given (requests.Disclose target source) child is
other_than_fork (command.Tag fd attr value) apart child is = apart_given (requests.TagObj fd attr value) child is
other_than_fork (command.Sync fd) apart child is = apart_given (requests.Sync fd) child is

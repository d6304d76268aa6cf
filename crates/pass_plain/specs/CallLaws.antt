-- What makes the steps of a call its next ones, and how they stand while it goes on.
use Rattle.std.specs.Prelude.{ℕ, ◌≡◌, true, [], ◌∷◌, ◌++◌, Some, length, map, take, slice_get}
use Rattle.pass_entry.specs.declared.entry.Entry.{Entry}
use Rattle.pass_plain.specs.declared.request.Request.{Request}
use Rattle.pass_plain.specs.Processes.{Process}
use Rattle.pass_plain.specs.Calls.{name_of, is_within, Made, Step, call_steps}
use Rattle.pass_plain.specs.Legal.{IsNextStep, step_of}
use Rattle.pass_plain.specs.NextSteps.{AreOfCall}

-- the entries made are the first steps of the call
abbrev pub IsBegun : ℕ → Process → Made → Request → Type 0
IsBegun who p made r = map step_of made ≡ take (length made) (call_steps who p made r)

-- the step at the place after those made may come next
abbrev pub NextStepLaw : Type 0
NextStepLaw = (who : ℕ) (p : Process) (made : Made) (r : Request) (s : Step) → is_within r ≡ true → AreOfCall made (name_of r) → IsBegun who p made r
    → slice_get (call_steps who p made r) (length made) ≡ Some s → IsNextStep who p made (name_of r) s

-- once it is made, the entries are again the first steps of the call
abbrev pub BegunLaw : Type 0
BegunLaw = (who : ℕ) (p : Process) (made : Made) (r : Request) (place : ℕ) (e : Entry) → IsBegun who p made r
    → slice_get (call_steps who p made r) (length made) ≡ Some (e.what, e.act) → IsBegun who p (made ++ (place, e) ∷ []) r

-- how many steps a call has does not hang on what it has made
abbrev pub StepNumberLaw : Type 0
StepNumberLaw = (who : ℕ) (p : Process) (made more : Made) (r : Request) → length (call_steps who p made r) ≡ length (call_steps who p more r)

-- The files of a session, each in the place of its number.
use Rattle.std.proofs.Common.{◌≡◌, ◌<◌, ◌≤◌, ℕ, List, [], ◌∷◌, ◌++◌, length, get_or, sym, ◌∙◌, subst, arith, inl, ⊎_elim}
use Rattle.std.specs.Prelude.{Some, slice_get}
use Rattle.std.proofs.lemmas.Option.{slice_get_within, slice_get-get_or}
use Rattle.pass_entry.specs.declared.entry.Entry.{Entry}
use Rattle.pass_entry.proofs.Lists.{some_is}
use Rattle.pass_plain.specs.Sessions.{Session}
use Rattle.pass_plain.specs.Registries.{registry_after}
use Rattle.pass_plain.proofs.Appends.{place_of}
use Rattle.pass_book.specs.Numbers.{IsFileNumber, files_of}
use Rattle.pass_file.specs.Desks.{FileDeskView}
use Rattle.pass_safe.specs.Settled.{AreAll}
use Rattle.pass_store.specs.Closings.{AreByNumber}

-- none
pub no_files : (session : Session) (history : List Entry) → AreByNumber session history []
no_files session history = λ number f at. absurd (cc)

-- one more
pub one_more : (session : Session) (history : List Entry) (files : List FileDeskView) (file : FileDeskView) → AreByNumber session history files → IsFileNumber session history file.what (length files)
    → AreByNumber session history (files ++ file ∷ [])
one_more session history files file are is = λ number f at.
    ⊎_elim (λ (old : (slice_get files number ≡ Some f) × (number < length files)). are number f old.0)
    (λ (new : (number ≡ length files) × (file ≡ f)).
    subst (λ (n : ℕ). IsFileNumber session history f.what n) (sym new.0) (subst (λ (g : FileDeskView). IsFileNumber session history g.what (length files)) new.1 is))
    (place_of files file number f at)

-- as many as there are
pub all_are : (session : Session) (history : List Entry) (files : List FileDeskView) → AreByNumber session history files → length (files_of (registry_after session history).objects) ≤ length files → AreAll session history files
all_are session history files are enough = λ file number is.
    let within : number < length files = let low = slice_get_within (files_of (registry_after session history).objects) number file is in omega (arith, low, enough) in
    let none : FileDeskView = record { what = 0; number = 0; seen = []; syncs = []; spare = 0; room = 0 } in
    let at = slice_get-get_or files number none within in
    inl (record { i = number; f = get_or files number none; is = at; same = some_is (get_or files number none).what file (sym (are number (get_or files number none) at) ∙ is) })

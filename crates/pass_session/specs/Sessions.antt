-- A session that has been opened, and how it begins. This project's own rule.
use Rattle.std.specs.Prelude.{◌≡◌, ℕ, ◌+◌, ◌≤◌, ◌^◌, ◌⊎◌, ◌<◌, IsTrue, List, [], Result, Ok, Err, Some, map, length, false}
use Rattle.std.specs.List.{range_with_len}
use Rattle.std.specs.Vec.{vec_capacity}
use Rattle.pass_entry.specs.declared.record.Record.{Record}
use Rattle.pass_book.specs.Openings.{known_desk, new_desk, registry_desk}
use Rattle.pass_book.specs.Tokens.{BookId}
use Rattle.pass_graph.specs.Openings.{Continues}
use Rattle.pass_keep.specs.Kept.{IsBegun}
use Rattle.pass_log.specs.LogImage.{IsRead}
use Rattle.pass_outside.specs.Areas.{Image}
use Rattle.pass_outside.specs.Moments.{Moment, IsAtEnd}
use Rattle.pass_plain.specs.declared.start.Start.{Start}
use Rattle.pass_plain.specs.Legal.{session_of}
use Rattle.pass_plain.specs.Sessions.{opening_version}
use Rattle.pass_plain.specs.Sound.{IsSound}
use Rattle.pass_plain.specs.WellLogged.{IsWellLogged}
use Rattle.pass_range.specs.Lawful.{Tells}
use Rattle.pass_recover.specs.declared.fault.OpenFault.{OpenFault}
use Rattle.pass_recover.specs.declared.fault.OpenFault.TheVariants.{DiskFault}
use Rattle.pass_recover.specs.Faults.{LogHas}
use Rattle.pass_recover.specs.Starts.{IsStartOf, HasBytes}
use Rattle.pass_registry.specs.States as registries
use Rattle.pass_vault.specs.Vaulted.{Vaulted}
use Rattle.pass_vault.specs.Vaulted as vaults
use Rattle.pass_session.specs.declared.opening.Found.{Found}
use Rattle.pass_session.specs.declared.ground.Desks.{Desks}
use Rattle.pass_session.specs.declared.ground.Ground.{Ground}
use Rattle.pass_session.specs.Layouts.{first_process}
use Rattle.pass_session.specs.Judgements.{IsOfStore, session_fault}
use Rattle.pass_session.specs.Openings.{IsOpening, IsLater, IsLeftAlone, IsUntouched, HasBegun, HasCeiling}

-- What contracts see of a session that was opened: its vault, with its book and its disk, and how many entries it may have.
pub record OpenedView (D : Type 0) : Type 0 where
  pub vault : Vaulted D
  pub places : ℕ

-- What was opened of a disk that was at `old`: the session over the records of its log, at its first moment, with its ceiling
-- on the disk.
pub record HasSession {D : Type 0} (view : D → Moment) (old : Moment) (objects entries : ℕ) (o : OpenedView D) : Type 0 where
  pub vault : o.vault ≡ record {
    book = o.vault.book;
    seen = [];
    syncs = [];
    disk = o.vault.disk;
    before = o.vault.before;
    store = old.seen.store;
    ceiling = o.vault.book.session.start.ceiling + objects;
    since = old.calls + 2;
    ready = (view o.vault.disk).calls;
    opened = old.faults;
    place = o.vault.place;
    pool = o.vault.pool;
    unsynced = false;
  }
  pub objects_are : o.vault.book.session.objects ≡ objects
  pub places : o.places ≡ entries
  pub opening : IsOpening old o.vault.before o.vault.book.session.start
  pub sound : IsSound o.vault.book.session
  pub continues : Continues o.vault.before o.vault.book.session
  pub begun : IsBegun (vaults.story_of o.vault) (view o.vault.disk)
  pub ceiling : IsTrue (view o.vault.disk).tells → (c : Image) → (view o.vault.disk).left_since o.vault.ready c → HasCeiling o.vault.ceiling c.log
  pub healthy : (view o.vault.disk).faults ≡ old.faults
  pub later : IsLater old (view o.vault.disk)

-- why an opening was refused, and what it leaves
pub record HasRefused {D : Type 0} (view : D → Moment) (old : Moment) (objects : ℕ) (e : OpenFault × D) : Type 0 where
  pub disk_fault : e.0 ≡ DiskFault → (old.faults < (view e.1).faults) ⊎ IsAtEnd (view e.1)
  pub healthy : IsOfStore e.0 → (view e.1).faults ≡ old.faults
  pub judged : IsOfStore e.0 → LogHas old (λ bytes. session_fault bytes ≡ Some e.0)
  pub bad_store : IsOfStore e.0 → IsUntouched old (view e.1) e.0
  pub left : IsUntouched old (view e.1) e.0 ⊎ HasBegun old (view e.1) objects
  pub later : IsLater old (view e.1)

abbrev pub IsOpenedOver : {D : Type 0} → (D → Moment) → Moment → ℕ → ℕ → Result (OpenedView D) (OpenFault × D) → Type 0
IsOpenedOver view old objects entries (Ok o) = HasSession view old objects entries o
IsOpenedOver view old objects entries (Err e) = HasRefused view old objects e

-- How it is made

-- What was read of a disk that was at `old` and is at `now`: the store opens, and nothing was written since the opening's two
-- syncs.
pub record IsFound {D : Type 0} (old now : Moment) (f : Found D) : Type 0 where
  pub heard : IsRead old f.image
  pub read : IsRead now f.image
  pub logged : IsWellLogged f.image.list.items
  pub told : IsStartOf f.image.list.items f.start
  pub bytes : IsTrue old.tells → HasBytes f.image.list.items old.seen.store f.start
  pub files : Tells f.image.list.items f.start
  pub sound : (objects : ℕ) → 1 ≤ objects → f.start.ceiling + objects < 2 ^ 48 → IsSound (session_of f.start objects)
  pub continues : (objects : ℕ) → 1 ≤ objects → f.start.ceiling + objects < 2 ^ 48 → Continues f.image.list.items (session_of f.start objects)
  pub counted : f.since ≡ old.calls + 2
  pub earlier : f.since ≤ now.calls
  pub since : (c : Image) → now.left_since f.since c → c ≡ now.seen
  pub seen : now.seen ≡ old.seen
  pub tells : now.tells ≡ old.tells
  pub healthy : now.faults ≡ old.faults
  pub alone : IsLeftAlone old now

-- the desks of a book that was just opened, by what they are of
pub record AreDesks (book : BookId) (d : Desks) : Type 0 where
  pub registry : d.registry ≡ registry_desk book
  pub files : d.files.items ≡ map (λ f. known_desk book f.node.pnode) book.session.start.files.items
  pub apps : d.apps.items ≡ map (λ n. known_desk book n.pnode) book.session.start.apps.items
  pub first : d.first ≡ new_desk book (first_process book.session.start)
  pub objects : length d.rest.items + 1 ≡ book.session.objects
  pub rest : d.rest.items ≡ map (new_desk book) (range_with_len (first_process book.session.start + 1) (length d.rest.items))

-- a session before its first entry, with room for its records
pub record IsGround (g : Ground) : Type 0 where
  pub book : g.book ≡ record { book = g.book.book; history = []; syncs = []; places = g.book.places; claimed = 0; kept = 0 }
  pub desks : AreDesks g.book.book g.desks
  pub registry : g.registry ≡ registries.opened g.book.book.session.start g.book.book.session.objects
  pub slip : (g.slip.items ≡ []) × (1 ≤ vec_capacity g.slip)

-- what an opened session keeps until its locks are made
pub record IsReady {D : Type 0} (view : D → Moment) (g : Ground) (v : Vaulted D) (start : Start) (list : List Record) (opened : ℕ) : Type 0 where
  pub ground : IsGround g
  pub start_is : start ≡ g.book.book.session.start
  pub few : (66 ≤ g.book.places) × (g.book.places ≤ 16777216)
  pub sound : IsSound g.book.book.session
  pub of_book : v.book ≡ g.book.book
  pub fresh : (v.seen ≡ []) × (v.syncs ≡ [])
  pub healthy : (view v.disk).faults ≡ v.opened
  pub low : (object : ℕ) → opening_version g.book.book.session.start object ≤ 2 ^ 35
  pub list_is : list ≡ v.before
  pub count : opened ≡ v.opened

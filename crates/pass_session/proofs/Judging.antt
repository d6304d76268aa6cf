-- Why no session begins over what was read of a disk, or which one does.
use Rattle.std.proofs.Common.{◌≡◌, ◌⊎◌, ◌<◌, ◌≤◌, ◌+◌, ◌^◌, ℕ, Bool, true, false, ◌||◌, List, [], refl, ap, sym, ◌∙◌, subst, inl, inr, ⊎_elim, arith}
use Rattle.std.specs.Prelude.{Option, Some, None, Result, Ok, IsTrue, is_some, nat_lt, option_map, if◌then◌else◌}
use Rattle.std.specs.Option.{option_map_or}
use Rattle.std.proofs.lemmas.Bool.Decides.{nat_tests}
use Rattle.pass_bounds.specs.Lawful.{OpenedLaw}
use Rattle.pass_entry.specs.declared.objects.Node.{Node}
use Rattle.pass_entry.specs.declared.record.FlawReason.{FlawReason}
use Rattle.pass_entry.specs.declared.record.Record.{Record}
use Rattle.pass_graph.specs.Openings.{Continues}
use Rattle.pass_keep.specs.Kept.{IsLeft, IsBegun}
use Rattle.pass_keep.specs.Keepers.{GoesOn}
use Rattle.pass_log.specs.declared.fault.LogFault.{LogFault}
use Rattle.pass_log.specs.declared.fault.LogFault.TheVariants as log
use Rattle.pass_log.specs.LogImage.{held_in}
use Rattle.pass_log.specs.Records.{Held, image_of, frame_length}
use Rattle.pass_outside.specs.Areas.{Image}
use Rattle.pass_outside.specs.Moments.{Moment, IsAtEnd}
use Rattle.pass_plain.specs.declared.start.StartFile.{StartFile}
use Rattle.pass_plain.specs.Legal.{session_of}
use Rattle.pass_plain.specs.Sessions.{Session, opened_file, opened_app, opening_version}
use Rattle.pass_plain.specs.Ceilings.{most_objects}
use Rattle.pass_plain.specs.Sound.{IsSound}
use Rattle.pass_plain.specs.WellLogged.{current_of, first_flaw}
use Rattle.pass_book.specs.Tokens.{BookId, VaultState}
use Rattle.pass_recover.specs.declared.fault.OpenFault.{OpenFault}
use Rattle.pass_recover.specs.declared.fault.OpenFault.TheVariants as store
use Rattle.pass_recover.specs.Faults.{LogHas, IsCauseOf}
use Rattle.pass_recover.specs.Syncs.{LeavesRead}
use Rattle.pass_vault.specs.Pooled.{Blocks}
use Rattle.pass_vault.specs.Vaulted.{Vaulted}
use Rattle.pass_vault.specs.Vaulted as vaults
use Rattle.pass_vault.specs.Vaults.{begun_with}
use Rattle.pass_session.specs.declared.ground.Ground.{Ground}
use Rattle.pass_session.specs.declared.opening.Found.{Found}
use Rattle.pass_session.specs.Judgements.{last_end, image_fault, end_fault, fault_or, session_fault, IsOfStore}
use Rattle.pass_session.specs.Lawful.{CeilingLaw}
use Rattle.pass_session.specs.Openings.{IsOpening, IsLater, IsLeftAlone, IsUntouched, story_of}
use Rattle.pass_session.specs.Sessions.{OpenedView, HasSession, HasRefused, IsFound, IsGround, IsReady}

-- Which fault it is

beyond : (n : ℕ) → last_end < n → nat_lt last_end n ≡ true
beyond n high = grind (arith, nat_tests)

within : (n : ℕ) → n ≤ last_end → nat_lt last_end n ≡ false
within n low = grind (arith, nat_tests)

-- an image without flaws has the fault of its end alone
ended : (bytes : List ℕ) (held : Held) → image_of bytes ≡ Ok held → first_flaw held.list ≡ None → (b : Bool) → nat_lt last_end held.end ≡ b
    → session_fault bytes ≡ (if b then Some (store.BadFrame held.end) else None)
ended bytes held image logged b is =
    ap (λ (r : Result Held LogFault). fault_or (image_fault r) (end_fault r)) image
    ∙ ap (λ (o : Option (ℕ × FlawReason)). fault_or (option_map (λ flaw. store.Flaw flaw.0 flaw.1) o) (end_fault (Ok held))) logged
    ∙ ap (λ (b : Bool). if b then Some (store.BadFrame held.end) else None) is

-- a store that doesn't open is judged by its fault
pub judged_fault : (old new : Moment) (fault : OpenFault) → IsCauseOf old new fault → IsOfStore fault → LogHas old (λ bytes. session_fault bytes ≡ Some fault)
judged_fault old new store.DiskFault cause of_store = absurd of_store
judged_fault old new store.NoMemory cause of_store = absurd of_store
judged_fault old new (store.BadFrame at) (bytes, read, image) of_store =
    (bytes, read, ap (λ (r : Result Held LogFault). fault_or (image_fault r) (end_fault r)) image)
judged_fault old new (store.BadRecord place why) (bytes, read, image) of_store =
    (bytes, read, ap (λ (r : Result Held LogFault). fault_or (image_fault r) (end_fault r)) image)
judged_fault old new (store.Flaw place reason) (bytes, read, (held, image, flaw)) of_store = (
  bytes,
  read,
  ap (λ (r : Result Held LogFault). fault_or (image_fault r) (end_fault r)) image
      ∙ ap (λ (o : Option (ℕ × FlawReason)). fault_or (option_map (λ flaw. store.Flaw flaw.0 flaw.1) o) (end_fault (Ok held))) flaw,
)

disk_cause : (old new : Moment) (fault : OpenFault) → IsCauseOf old new fault → fault ≡ store.DiskFault → (old.faults < new.faults) ⊎ IsAtEnd new
disk_cause old new fault cause is = subst (IsCauseOf old new) is cause

-- the store didn't open
pub refused : {D : Type 0} (view : D → Moment) (old : Moment) (disk : D) (objects : ℕ) (fault : OpenFault) → IsCauseOf old (view disk) fault
    → ((fault ≡ store.DiskFault → ⊥) → (view disk).faults ≡ old.faults) → ((fault ≡ store.DiskFault → ⊥) → (view disk).seen ≡ old.seen)
    → IsLeftAlone old (view disk) → LeavesRead old (view disk) → IsLater old (view disk) → HasRefused view old objects (fault, disk)
refused view old disk objects fault cause healthy reads alone since later = record {
  disk_fault = disk_cause old (view disk) fault cause;
  healthy = λ of_store. healthy (λ is. subst IsOfStore is of_store);
  judged = judged_fault old (view disk) fault cause;
  bad_store = λ of_store. record { alone = alone; since = since; reads = reads };
  left = inl (record { alone = alone; since = since; reads = reads });
  later = later;
}

-- an object opens with its version in the records before, or with 1
opened_low : (before : List Record) (session : Session) → Continues before session → (most : ℕ) → 1 ≤ most → ((object : ℕ) → current_of before object ≤ most) → (object : ℕ)
    → opening_version session.start object ≤ most
opened_low before session all most some low object = by_files (opened_file session.start object) (opened_app session.start object) (λ is. (all.opens.current object is).1)
  where
    by_files : (f : Option StartFile) (n : Option Node)
        → (is_some f || is_some n ≡ true → option_map_or (λ (f : StartFile). f.node.version) f (option_map_or (λ (n : Node). n.version) n 1) ≡ current_of before object)
        → option_map_or (λ (f : StartFile). f.node.version) f (option_map_or (λ (n : Node). n.version) n 1) ≤ most
    by_files (Some f) n is = let same = is refl in let z = low object in omega (arith, same, z)
    by_files None (Some n) is = let same = is refl in let z = low object in omega (arith, same, z)
    by_files None None is = some

abbrev pub opened_with : {D : Type 0} → Vaulted D → ℕ → OpenedView D
opened_with v places = record { vault = v; places = places }

module _ {D : Type 0} (view : D → Moment) (old : Moment) (disk : D) (f : Found D) (found : IsFound old (view disk) f) (objects : ℕ) where
  later : IsLater old (view disk)
  later = record { tells = found.tells; faults = omega (arith, found.healthy); calls = omega (arith, found.counted, found.earlier) }

  untouched : (fault : OpenFault) → IsUntouched old (view disk) fault
  untouched fault = record {
    alone = found.alone;
    since = λ _ c left. found.since c (subst (λ (n : ℕ). (view disk).left_since n c) (sym found.counted) left) ∙ found.seen;
    reads = λ _. found.seen;
  }

  pub no_memory : HasRefused view old objects (store.NoMemory, disk)
  no_memory = record {
    disk_fault = λ is. absurd (cc);
    healthy = λ of_store. absurd of_store;
    judged = λ of_store. absurd of_store;
    bad_store = λ of_store. absurd of_store;
    left = inl (untouched store.NoMemory);
    later = later;
  }

  -- the log's image ends too late
  pub too_late : last_end < f.image.end → HasRefused view old objects (store.BadFrame f.image.end, disk)
  too_late high =
      let (bytes, read, image) = found.heard in
      record {
        disk_fault = λ is. absurd (cc);
        healthy = λ of_store. found.healthy;
        judged = λ of_store. (bytes, read, ended bytes (held_in f.image) image.holds found.logged true (beyond f.image.end high));
        bad_store = λ of_store. untouched (store.BadFrame f.image.end);
        left = inl (untouched (store.BadFrame f.image.end));
        later = later;
      }

  module _ (some : 1 ≤ objects) (few : objects ≤ most_objects) (short : f.image.end ≤ last_end) where
    pub is_opening : IsOpening old f.image.list.items f.start
    is_opening =
        let (bytes, read, image) = found.heard in
        record {
          logged = (bytes, read, record { held = held_in f.image; image = image.holds; list_is = refl; unfaulted = ended bytes (held_in f.image) image.holds found.logged false (within f.image.end short) });
          told = found.told;
          files = found.files;
          bytes = found.bytes;
        }

    -- The ceiling wasn't written for certain.
    pub stopped : (seat : VaultState) (ceiling : ℕ) (fault : LogFault) (after : D) (answer : OpenFault) → ceiling ≡ f.start.ceiling + objects → seat.book.session ≡ session_of f.start objects → seat.seen ≡ []
        → IsBegun (begun_with f.image.list.items (view disk).seen.store ceiling seat f.since) (view after) → GoesOn (view disk) (view after)
        → ((fault ≡ log.DiskFault) × (((view disk).faults < (view after).faults) ⊎ IsAtEnd (view after))) ⊎ (fault ≡ log.NoMemory)
        → (fault ≡ log.DiskFault → answer ≡ store.DiskFault) → (fault ≡ log.NoMemory → answer ≡ store.NoMemory) → HasRefused view old objects (answer, after)
    stopped seat ceiling fault after answer high session unseen begun goes failed disk_is memory_is =
        let same : begun_with f.image.list.items (view disk).seen.store ceiling seat f.since ≡ story_of old f.image.list.items f.start objects =
        λ i. record { before = f.image.list.items; ceiling = high i; session = session i; history = unseen i; start = found.counted i; store = (found.seen i).store } in
        let of_store : IsOfStore answer → ⊥ = ⊎_elim
        (λ (d : (fault ≡ log.DiskFault) × (((view disk).faults < (view after).faults) ⊎ IsAtEnd (view after))). λ is. subst IsOfStore (disk_is d.0) is)
        (λ (n : fault ≡ log.NoMemory). λ is. subst IsOfStore (memory_is n) is) failed in
        record {
          disk_fault = λ is. ⊎_elim
              (λ (d : (fault ≡ log.DiskFault) × (((view disk).faults < (view after).faults) ⊎ IsAtEnd (view after))).
              ⊎_elim (λ (rose : (view disk).faults < (view after).faults). inl (omega (arith, rose, found.healthy))) (λ (end : IsAtEnd (view after)). inr end) d.1)
              (λ (n : fault ≡ log.NoMemory). absurd (let z : store.NoMemory ≡ store.DiskFault = sym (memory_is n) ∙ is in cc)) failed;
          healthy = λ is. absurd (of_store is);
          judged = λ is. absurd (of_store is);
          bad_store = λ is. absurd (of_store is);
          left = inr (record { list = f.image.list.items; start = f.start; opening = is_opening; begun = subst (λ s. IsBegun s (view after)) same begun });
          later = record { tells = goes.0 ∙ found.tells; faults = omega (arith, found.healthy, goes.1); calls = omega (arith, found.counted, found.earlier, goes.2) };
        }

    module _ (law : OpenedLaw) where
      bounds : (f.start.ceiling + most_objects < 2 ^ 48) × ((pnode : ℕ) → current_of f.image.list.items pnode ≤ 2 ^ 35)
      bounds =
          let (bytes, read, image) = found.heard in
          let (room, low) = law bytes (held_in f.image) image.holds short found.logged in
          let same = found.told.ceiling in
          ((omega (arith, room, same)), low)

      pub fits : f.start.ceiling + objects < 2 ^ 48
      fits = let room = bounds.0 in omega (arith, room, few)

      pub is_sound : IsSound (session_of f.start objects)
      is_sound = found.sound objects some fits

      pub continues : Continues f.image.list.items (session_of f.start objects)
      continues = found.continues objects some fits

      pub low : (object : ℕ) → opening_version f.start object ≤ 2 ^ 35
      low = opened_low f.image.list.items (session_of f.start objects) continues (2 ^ 35) (omega arith) bounds.1

      -- The vault is open.
      module _ (entries : ℕ) (g : Ground) (session_is : g.book.book.session ≡ session_of f.start objects) (places_are : g.book.places ≡ entries) (ground : IsGround g) (seat : VaultState) (taken : seat ≡ record { book = g.book.book; seen = []; syncs = [] })
          (ceiling : ℕ) (high : ceiling ≡ f.start.ceiling + objects) (raised : List Record) (pool : Blocks) (v : Vaulted D)
          (is : v ≡ record {
            book = seat.book;
            seen = seat.seen;
            syncs = [];
            disk = v.disk;
            before = f.image.list.items;
            store = (view disk).seen.store;
            ceiling = ceiling;
            since = f.since;
            ready = (view v.disk).calls;
            opened = (view disk).faults;
            place = f.image.end + frame_length raised;
            pool = pool;
            unsynced = false;
          })
          (healthy : (view v.disk).faults ≡ (view disk).faults) (goes : GoesOn (view disk) (view v.disk)) where
        of_book : v.book ≡ g.book.book
        of_book = ap (λ (v : Vaulted D). v.book) is ∙ ap (λ (s : VaultState). s.book) taken

        of_session : v.book.session ≡ session_of f.start objects
        of_session = ap (λ (b : BookId). b.session) of_book ∙ session_is

        unseen : v.seen ≡ []
        unseen = ap (λ (v : Vaulted D). v.seen) is ∙ ap (λ (s : VaultState). s.seen) taken

        before : v.before ≡ f.image.list.items
        before = ap (λ (v : Vaulted D). v.before) is

        opened : v.opened ≡ old.faults
        opened = ap (λ (v : Vaulted D). v.opened) is ∙ found.healthy

        pub ready : (few_places : (66 ≤ entries) × (entries ≤ 16777216)) (count : ℕ) → count ≡ (view disk).faults → IsReady view g v f.start f.image.list.items count
        ready few_places count counted = record {
          ground = ground;
          start_is = sym (ap (λ (s : Session). s.start) session_is);
          few = (omega (arith, few_places.0, places_are), omega (arith, few_places.1, places_are));
          sound = subst IsSound (sym session_is) is_sound;
          of_book = of_book;
          fresh = (unseen, ap (λ (v : Vaulted D). v.syncs) is);
          healthy = healthy ∙ sym (ap (λ (v : Vaulted D). v.opened) is);
          low = subst (λ (s : Session). (object : ℕ) → opening_version s.start object ≤ 2 ^ 35) (sym session_is) low;
          list_is = sym before;
          count = counted ∙ sym (ap (λ (v : Vaulted D). v.opened) is);
        }

        pub begun : CeilingLaw → IsBegun (vaults.story_of v) (view v.disk) → (IsTrue (view v.disk).tells → (c : Image) → (view v.disk).left_since v.ready c → IsLeft (vaults.story_of v) 0 (λ _. 0) c)
            → HasSession view old objects entries (record { vault = v; places = entries })
        begun raised crash now = record {
          vault = λ i. record {
            book = v.book;
            seen = unseen i;
            syncs = ap (λ (v : Vaulted D). v.syncs) is i;
            disk = v.disk;
            before = v.before;
            store = (ap (λ (v : Vaulted D). v.store) is ∙ ap (λ (c : Image). c.store) found.seen) i;
            ceiling = (ap (λ (v : Vaulted D). v.ceiling) is ∙ high ∙ sym (ap (λ (s : Session). s.start.ceiling + objects) of_session)) i;
            since = (ap (λ (v : Vaulted D). v.since) is ∙ found.counted) i;
            ready = ap (λ (v : Vaulted D). v.ready) is i;
            opened = opened i;
            place = v.place;
            pool = v.pool;
            unsynced = ap (λ (v : Vaulted D). v.unsynced) is i;
          };
          objects_are = ap (λ (s : Session). s.objects) of_session;
          places = refl;
          opening = subst (λ (l : List Record). IsOpening old l v.book.session.start) (sym before) (subst (λ (s : Session). IsOpening old f.image.list.items s.start) (sym of_session) is_opening);
          sound = subst IsSound (sym of_session) is_sound;
          continues = subst (λ (l : List Record). Continues l v.book.session) (sym before) (subst (λ (s : Session). Continues f.image.list.items s) (sym of_session) continues);
          begun = crash;
          ceiling = λ told c left. raised (vaults.story_of v) 0 (λ _. 0) c (now told c left);
          healthy = healthy ∙ found.healthy;
          later = record { tells = goes.0 ∙ found.tells; faults = omega (arith, found.healthy, goes.1); calls = omega (arith, found.counted, found.earlier, goes.2) };
        }

-- the moment is that of the disk as it was handed in
pub of_disk : {D : Type 0} (view : D → Moment) (first disk : D) (now : Moment) (f : Found D) → first ≡ disk → IsFound (view disk) now f → IsFound (view first) now f
of_disk view first disk now f same found = subst (λ d. IsFound (view d) now f) (sym same) found

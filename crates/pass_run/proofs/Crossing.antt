-- What workers share of a store may go to other threads.
use denote.RattleType.{RattleType}
use denote.Ref.{NamedLft}
use denote.Param.Send.{IsSend, IsSync, sendable}
use Rattle.std.proofs.Crossing.{crosses}
use Rattle.std.proofs.MapsCrossing.{crosses as maps}
use Rattle.pass_entry.proofs.record.Record.TheSendSync as record_type
use Rattle.pass_plain.proofs.start.Start.TheSendSync as start_type
use Rattle.pass_book.proofs.vault.VaultSeat.TheSendSync as seat_type
use Rattle.pass_keep.proofs.keeper.Keeper.TheSendSync as keeper_type
use Rattle.pass_pool.proofs.pool.Pool.TheSendSync as pool_type
use Rattle.pass_file.proofs.desk.FileDesk.TheSendSync as file_type
use Rattle.pass_pipe.proofs.desk.PipeDesk.TheSendSync as pipe_type
use Rattle.pass_flow.proofs.app.AppDesk.TheSendSync as app_type
use Rattle.pass_registry.proofs.desk.RegistryDesk.TheSendSync as registry_type
use Rattle.pass_hold.proofs.blank.Blank.TheSendSync as blank_type
use Rattle.pass_proc.proofs.ended.Living.TheSendSync as living_type
use Rattle.pass_proc.proofs.ended.Ended.TheSendSync as ended_type
use Rattle.pass_hold.proofs.shelf.Shelf.TheSendSync as shelf_type
use Rattle.pass_hold.specs.declared.whose.Whose as whose
use Rattle.pass_outside.specs.declared.disk.Disk as disk
use Rattle.pass_safe.specs.declared.ground.Opening as opening
use Rattle.pass_store.specs.contracts.store.Store as Store
use Rattle.pass_vault.specs.contracts.vault.Vault as Vault
use Rattle.pass_safe.specs.contracts.safe.Safe as Safe
use Rattle.pass_run.specs.contracts.serving.Served as Served

-- those of its parts that may
ruleset known = (
  record_type.the_send,
  record_type.the_sync,
  start_type.the_sync,
  seat_type.the_send,
  keeper_type.the_send,
  pool_type.the_send,
  file_type.the_send,
  pipe_type.the_send,
  app_type.the_send,
  registry_type.the_send,
  blank_type.the_send,
  living_type.the_send,
  ended_type.the_send,
  shelf_type.the_send,
  crosses,
  maps,
  sendable,
)

module _ (D : RattleType) (d : disk.Ghosts D.Denot) (sd : IsSend D) where
  vault_send : IsSend (Vault.the_row D d)
  vault_send = search known depth 60 fits 5000

module _ (J D : RattleType) (o : opening.Ghosts J.Denot) (w : whose.Ghosts J.Denot) (d : disk.Ghosts D.Denot) (sj : IsSend J) (sd : IsSend D) where
  safe_send : IsSend (Safe.the_row J D o w d)
  safe_send = let v = vault_send D d sd in search known depth 60 fits 5000

module _ (b : NamedLft) (J D G : RattleType) (o : opening.Ghosts J.Denot) (w : whose.Ghosts J.Denot) (d : disk.Ghosts D.Denot) (sj : IsSend J) (sd : IsSend D) (yg : IsSync G) where
  store_sync : IsSync (Store.the_row b J D G o w d)
  store_sync = let v = safe_send J D o w d sj sd in search known depth 60 fits 5000

module _ (a b : NamedLft) (R J D G : RattleType) (o : opening.Ghosts J.Denot) (w : whose.Ghosts J.Denot) (d : disk.Ghosts D.Denot) (yr : IsSync R) (sj : IsSend J) (sd : IsSend D) (yg : IsSync G) where
  pub served_sync : IsSync (Served.the_row a b R J D G o w d)
  served_sync = let s = store_sync b J D G o w d sj sd yg in search known depth 60 fits 5000

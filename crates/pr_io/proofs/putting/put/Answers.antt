use Rattle.std.proofs.lemmas.Result.{IfOk-from_err}
use Rattle.pr_io.proofs.Spanning.{failed_write, write_left, sync_left, then_sync, has_bytes, now_failed, now_synced}
use Rattle.pr_io.proofs.putting.put.Goals as goal

pub returns-in_err-write_at-clause-puts : goal.returns-in_err-write_at-clause-puts
returns-in_err-write_at-clause-puts g c = record {
  goes = failed_write _ _ _ _ _ c.write_at.ensures.writes;
  left = write_left _ _ _ _ _ c.write_at.ensures.writes (g.met.D.Disk.since c.write_at.new.self);
  done = IfOk-from_err c.from_residual.result _ c.from_residual.ensures.0;
  now = now_failed c.write_at.result c.from_residual.result _ _ _ _ c.from_residual.ensures.0 c.write_at.ensures.writes.now;
}

pub returns-clause-puts : goal.returns-clause-puts
returns-clause-puts g c = record {
  goes = then_sync _ _ _ _ _ (failed_write _ _ _ _ _ c.write_at.ensures.writes) c.sync.ensures.syncs;
  left = λ e a. write_left _ _ _ _ _ c.write_at.ensures.writes (g.met.D.Disk.since c.write_at.new.self) e (sync_left _ _ _ c.sync.ensures.syncs (g.met.D.Disk.since c.sync.new.self) e a);
  now = now_synced c.write_at.result _ c.sync.result _ _ _ _ _ c.in_ok-write_at.was c.write_at.ensures.writes.now c.sync.ensures.syncs.stays.now;
  done = has_bytes _ _ _ _ _ _ _ _ c.in_ok-write_at.was c.write_at.ensures.writes c.sync.ensures.syncs;
}

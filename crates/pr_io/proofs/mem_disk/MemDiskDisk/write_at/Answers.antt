use Rattle.std.proofs.Common.{Err, inr, refl}
use Rattle.pr_io.proofs.Recording.{noted_write, struck_write, nothing_written, noted_pending}
use Rattle.pr_io.proofs.mem_disk.MemDiskDisk.write_at.Goals as goal

pub returns-in_err-note-clause-writes : goal.returns-in_err-note-clause-writes
returns-in_err-note-clause-writes c = nothing_written c.from_residual.result _ _ _ _ _ c.from_residual.ensures.0 c.in_err-note.ensures.err

pub returns-then-fails-clause-writes : goal.returns-then-fails-clause-writes
returns-then-fails-clause-writes c = struck_write (Err c.raise-then-fails.result) _ _ _ _ _ _ refl c.in_ok-note.ensures.ok c.in-Ok.ensures.length c.in-Ok.ensures.stood

pub returns-clause-writes : goal.returns-clause-writes
returns-clause-writes c = noted_write _ _ _ _ _ _ _ _ c.in_ok-note.ensures.ok c.in-Ok.ensures.length c.in-Ok.ensures.stood c.overwrite.ensures.written

pub returns-in_default-clause-writes : goal.returns-in_default-clause-writes
returns-in_default-clause-writes c = nothing_written (Err c.raise.result) _ _ _ _ _ refl refl

pub returns-then-fails-clause-pending : goal.returns-then-fails-clause-pending
returns-then-fails-clause-pending c = inr (noted_pending _ _ _ _ _ _ _ c.in_ok-note.ensures.ok c.in-Ok.ensures.length (λ i out. refl))

pub returns-clause-pending : goal.returns-clause-pending
returns-clause-pending c = inr (noted_pending _ _ _ _ _ _ _ c.in_ok-note.ensures.ok c.in-Ok.ensures.length c.overwrite.ensures.written.1)

use Rattle.std.proofs.Common.{Err, refl}
use Rattle.pr_io.proofs.Recording.{noted_other, not_noted, staying, synced_or_not, noted_goes_on, unnoted_goes_on, sync_goes_on}
use Rattle.pr_io.proofs.Sent.{always_err}
use Rattle.pr_io.proofs.mem_disk.MemDiskDisk.sync.Goals as goal

pub returns-in_err-note-clause-syncs : goal.returns-in_err-note-clause-syncs
returns-in_err-note-clause-syncs c = staying c.from_residual.result _ _ c.from_residual.ensures.0 (not_noted _ _ _ c.in_err-note.ensures.err)

pub returns-then-next_fails-clause-syncs : goal.returns-then-next_fails-clause-syncs
returns-then-next_fails-clause-syncs c = staying (Err c.raise.result) _ _ refl (noted_other _ _ _ c.in_ok-note.ensures.ok)

pub returns-clause-syncs : goal.returns-clause-syncs
returns-clause-syncs c = synced_or_not _ _ _ _ c.note-2.ensures.ok c.note-2.ensures.err

pub returns-in_err-note-clause-pending : goal.returns-in_err-note-clause-pending
returns-in_err-note-clause-pending c = always_err c.from_residual.result (unnoted_goes_on _ _ _ c.in_err-note.ensures.err)

pub returns-then-next_fails-clause-pending : goal.returns-then-next_fails-clause-pending
returns-then-next_fails-clause-pending c = noted_goes_on _ _ _ c.in_ok-note.ensures.ok

pub returns-clause-pending : goal.returns-clause-pending
returns-clause-pending c = sync_goes_on _ _ _ _ c.note-2.ensures.err

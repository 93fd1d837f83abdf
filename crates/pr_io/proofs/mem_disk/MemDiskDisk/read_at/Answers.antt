use Rattle.pr_io.proofs.Recording.{noted_other, not_noted, noted_goes_on, unnoted_goes_on}
use Rattle.pr_io.proofs.mem_disk.MemDiskDisk.read_at.Goals as goal

pub returns-in_err-note-clause-stays : goal.returns-in_err-note-clause-stays
returns-in_err-note-clause-stays c = not_noted _ _ _ c.in_err-note.ensures.err

pub returns-then-fails-clause-stays : goal.returns-then-fails-clause-stays
returns-then-fails-clause-stays c = noted_other _ _ _ c.in_ok-note.ensures.ok

pub returns-clause-stays : goal.returns-clause-stays
returns-clause-stays c = noted_other _ _ _ c.in_ok-note.ensures.ok

pub returns-in_err-note-clause-pending : goal.returns-in_err-note-clause-pending
returns-in_err-note-clause-pending c = unnoted_goes_on _ _ _ c.in_err-note.ensures.err

pub returns-then-fails-clause-pending : goal.returns-then-fails-clause-pending
returns-then-fails-clause-pending c = noted_goes_on _ _ _ c.in_ok-note.ensures.ok

pub returns-clause-pending : goal.returns-clause-pending
returns-clause-pending c = noted_goes_on _ _ _ c.in_ok-note.ensures.ok

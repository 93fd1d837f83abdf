-- The worked examples compute.
use Rattle.std.proofs.Common.{refl}
use Rattle.pr_model.specs.Examples.{Transfers, Conflicts, Marks, Steps, Replies}

pub transfers : Transfers
transfers = record { too_many = refl; protected = refl; beyond = refl; none_at_the_end = refl; far_beyond = refl; without_data = refl; begins = refl }

pub conflicts : Conflicts
conflicts = record { stranger_reads = refl; stranger_inquires = refl; registered_writes = refl; registered_flushes = refl; registered_reads = refl; holder_writes = refl }

pub marks : Marks
marks = record { abort = refl; preempt = refl }

pub steps : Steps
steps = record { wrote = refl; others = refl; next = refl; failed = refl }

pub replies : Replies
replies = record { gathers = refl; done = refl; aborted = refl }

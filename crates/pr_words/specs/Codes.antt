-- Status bytes (SAM-5, status codes).
use Rattle.std.specs.Prelude.{ℕ}
use Rattle.pr_words.specs.declared.code.Status.{Status}
use Rattle.pr_words.specs.declared.code.Status.TheVariants.{Good, CheckCondition, ReservationConflict, TaskAborted}

abbrev pub status_code : Status → ℕ
status_code Good = 0x00
status_code CheckCondition = 0x02
status_code ReservationConflict = 0x18
status_code TaskAborted = 0x40

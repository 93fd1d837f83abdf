-- The service actions of PERSISTENT RESERVE IN and of PERSISTENT RESERVE OUT, and their numbers
-- (SPC-4, PERSISTENT RESERVE IN service actions, PERSISTENT RESERVE OUT service actions).
use Rattle.std.specs.Prelude.{ℕ, Option, Some, None, ◌==◌, if◌then◌else◌}
use Rattle.pr_words.specs.declared.service.InService.{InService}
use Rattle.pr_words.specs.declared.service.InService.TheVariants.{ReadKeys, ReadReservation, ReportCapabilities, ReadFullStatus}
use Rattle.pr_words.specs.declared.service.OutService.{OutService}
use Rattle.pr_words.specs.declared.service.OutService.TheVariants.{Register, Reserve, Release, Clear, Preempt, PreemptAndAbort, RegisterAndIgnoreExistingKey}

-- the service action of PERSISTENT RESERVE IN with a number
abbrev pub in_service_at : ℕ → Option InService
in_service_at n =
    if n == 0 then Some ReadKeys else
    if n == 1 then Some ReadReservation else
    if n == 2 then Some ReportCapabilities else
    if n == 3 then Some ReadFullStatus else None

-- its number
abbrev pub in_service_code : InService → ℕ
in_service_code ReadKeys = 0
in_service_code ReadReservation = 1
in_service_code ReportCapabilities = 2
in_service_code ReadFullStatus = 3

-- the service action of PERSISTENT RESERVE OUT with a number
abbrev pub out_service_at : ℕ → Option OutService
out_service_at n =
    if n == 0 then Some Register else
    if n == 1 then Some Reserve else
    if n == 2 then Some Release else
    if n == 3 then Some Clear else
    if n == 4 then Some Preempt else
    if n == 5 then Some PreemptAndAbort else
    if n == 6 then Some RegisterAndIgnoreExistingKey else None

-- its number
abbrev pub out_service_code : OutService → ℕ
out_service_code Register = 0
out_service_code Reserve = 1
out_service_code Release = 2
out_service_code Clear = 3
out_service_code Preempt = 4
out_service_code PreemptAndAbort = 5
out_service_code RegisterAndIgnoreExistingKey = 6

-- Which histories are legal, and the world after each.
use Rattle.std.specs.Prelude.{◌≡◌, ℕ, ◌+◌, ◌==◌, ◌&&◌, nat_lt, not, false, List, [], ◌∷◌, ◌++◌, length, Option, Some, None, is_some, if◌then◌else◌}
use Rattle.pr_words.specs.declared.nexus.Nexus.{Nexus}
use Rattle.pr_words.specs.declared.limits.TheConstants.{KNOWN}
pub use Rattle.pr_grammar.specs.Standings.{is_port}
use Rattle.pr_model.specs.Worlds.{Blocks, World, opened, set_at, is_known}
use Rattle.pr_model.specs.Entries.{Act, Login, Command, Step, Logout, Power, Out, Login_code, Left, Restored, Fault, Entry, History}
use Rattle.pr_model.specs.Commands.{answered}
use Rattle.pr_model.specs.Saving.{settled, tells_failure, MayAnswer, MayRestore}
use Rattle.pr_model.specs.Steps.{MayStepIn, stepped_in}

-- the first refusal of a login that applies: 4 version, 2 port, 1 in use, 3 full; or 0, accepted
abbrev pub login_code : World → ℕ → Nexus → ℕ
login_code w version n =
    if not (version == 1) then 4 else
    if not (is_port n.port) then 2 else
    if is_some (w.owner n) then 1 else
    if not (is_known w.known n) && not (nat_lt (length w.known) KNOWN) then 3 else 0

abbrev pub with_known : List Nexus → Nexus → List Nexus
with_known known n = if is_known known n then known else known ++ n ∷ []

abbrev pub logged_in : World → ℕ → Nexus → World
logged_in w who n = record w { known = with_known w.known n; owner = set_at w.owner n (Some who) }

-- a task ends with its login
abbrev pub logged_out : World → Nexus → World
logged_out w n = record w { owner = set_at w.owner n None; task = set_at w.task n None }

-- the world after an act with its outcome
abbrev pub moved_by : World → ℕ → Nexus → Act → Out → World
moved_by w who n (Login version) out = if login_code w version n == 0 then logged_in w who n else w
moved_by w who n (Command lun cdb data_out) out = settled w (answered w n lun cdb data_out) out
moved_by w who n (Step block) out = stepped_in w n (w.task n) block out
moved_by w who n Logout out = logged_out w n
moved_by w who n Power (Restored value) = opened w.medium w.file_tells value
moved_by w who n Power _ = w

abbrev pub moved : World → Entry → World
moved w e = moved_by w e.who e.nexus e.act e.out

-- this number has the nexus logged in
abbrev pub Has : World → ℕ → Nexus → Type 0
Has w who n = w.owner n ≡ Some who

-- which outcomes an act may have
abbrev pub MayEnd : World → ℕ → Nexus → Act → Out → Type 0
MayEnd w who n (Login version) out = out ≡ Login_code (login_code w version n)
MayEnd w who n (Command lun cdb data_out) out =
    Has w who n × (w.task n ≡ None) × MayAnswer w (answered w n lun cdb data_out) out
MayEnd w who n (Step block) out = Has w who n × MayStepIn w.medium (w.task n) block out
MayEnd w who n Logout out = Has w who n × (out ≡ Left)
MayEnd w who n Power out = MayRestore w out

abbrev pub MayFollow : World → Entry → Type 0
MayFollow w e = MayEnd w e.who e.nexus e.act e.out

abbrev pub after : World → History → World
after w [] = w
after w (e ∷ es) = after (moved w e) es

abbrev pub IsLegalFrom : World → History → Type 0
IsLegalFrom w [] = Unit {0}
IsLegalFrom w (e ∷ es) = MayFollow w e × IsLegalFrom (moved w e) es

-- what stands on a medium is what it tells of its blocks, wherever that is known; of one that tells nothing a read may give anything
abbrev pub AreBlocksOf : Option (ℕ → List ℕ) → Blocks → Type 0
AreBlocksOf None m = m.tells ≡ false
AreBlocksOf (Some held) m = (lba : ℕ) (bytes : List ℕ) → m.at lba ≡ Some bytes → held lba ≡ bytes

-- how many of the entries are faults of the medium
abbrev pub faults_by : Out → ℕ
faults_by (Fault code) = 1
faults_by _ = 0

abbrev pub faults_in : History → ℕ
faults_in [] = 0
faults_in (e ∷ es) = faults_by e.out + faults_in es

-- and how many are commands whose save failed
abbrev pub failures_by : Out → ℕ
failures_by out = if tells_failure out then 1 else 0

abbrev pub failures_in : History → ℕ
failures_in [] = 0
failures_in (e ∷ es) = failures_by e.out + failures_in es

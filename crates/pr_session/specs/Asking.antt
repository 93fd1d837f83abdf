-- A turn that waits for the outcome of its act.
use Rattle.std.specs.Prelude.{ℕ, List, [], take, Option, Some, None}
use Rattle.pr_words.specs.declared.nexus.Nexus.{Nexus}
use Rattle.pr_grammar.specs.Bodies.{login_reply, command_reply}
use Rattle.pr_model.specs.Entries.{Out, Login_code, Ended, Started}
use Rattle.pr_model.specs.Lanes.{Turned, turned, lane, dead, In, Busy, phase_after_login, replied, rejected, after_step, after_logout}
use Rattle.pr_link.specs.declared.frame.Frame.{Frame}
use Rattle.pr_link.specs.Streams.{frame_of}
use Rattle.pr_session.specs.declared.act.Act.{Act}
use Rattle.pr_session.specs.declared.act.Act.TheVariants as act
use Rattle.pr_session.specs.declared.act.Want.{Want}
use Rattle.pr_session.specs.declared.act.Want.TheVariants as want
use Rattle.pr_session.specs.declared.state.Rejection.{Rejection}
use Rattle.pr_session.specs.declared.asked.Asked.{Asked}
use Rattle.pr_session.specs.declared.asked.Asked.TheVariants.{Login, Command, Step, Logout, Reject}
use Rattle.pr_session.specs.Jobs.{job_of, begun_by}
use Rattle.pr_session.specs.Places.{data_in}

abbrev pub nexus_in : Asked → Nexus
nexus_in (Login head n version) = n
nexus_in (Command head n cdb sent) = n
nexus_in (Step n j) = n
nexus_in (Logout head n) = n
nexus_in (Reject n r) = n

abbrev pub act_in : Asked → Act
act_in (Login head n version) = act.Login version
act_in (Command head n cdb sent) = act.Command head.lun cdb sent
act_in (Step n j) = act.Step
act_in (Logout head n) = act.Logout
act_in (Reject n r) = act.Logout

abbrev pub want_of : Asked → Want
want_of a = want.Act (nexus_in a) (act_in a)

-- the head of a reply repeats that of the request
abbrev pub reply_to : Frame → ℕ → List ℕ → List ℕ
reply_to head kind body = replied (frame_of head []) kind body

-- what the turn makes of an outcome, with these bytes in the work buffer, where those are held from this place on
abbrev pub next_by : Asked → List ℕ → List ℕ → ℕ → Out → Turned
next_by (Login head n version) work held place (Login_code code) =
    turned (lane held (phase_after_login n code) place) (reply_to head 0x81 (login_reply code))
next_by (Command head n cdb sent) work held place (Ended status sense bytes) =
    turned (lane held (In n) place) (reply_to head 0x82 (command_reply status sense bytes))
next_by (Command head n cdb sent) work held place (Started way) =
    turned (lane held (Busy n (begun_by head way (take sent (data_in work)))) place) []
next_by (Step n j) work held place out = after_step n (job_of j work) held place out
next_by (Logout head n) work held place out = after_logout (frame_of head [])
next_by (Reject n r) work held place out = rejected r.reason r.place
next_by _ work held place out = turned dead []

-- the Reject that a turn ends with
abbrev pub rejection_by : Asked → Option Rejection
rejection_by (Reject n r) = Some r
rejection_by _ = None

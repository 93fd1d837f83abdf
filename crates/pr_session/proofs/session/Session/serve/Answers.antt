use Rattle.std.proofs.Common.{◌≡◌, ℕ, List, take, length, refl, sym, ap, ◌∙◌, subst, arith, ◌≤◌, inl, inr}
use Rattle.std.proofs.lemmas.List.{length-drop, length-take}
use Rattle.pr_words.specs.declared.nexus.Nexus.{Nexus}
use Rattle.pr_words.specs.declared.limits.TheConstants.{DATA, COMMAND_HEAD}
use Rattle.pr_grammar.specs.Bodies.{command_data}
use Rattle.pr_model.specs.Entries as entries
use Rattle.pr_model.specs.Lanes.{Phase, Fresh, In, Turn, Asks, asked, broken, after_login, after_command}
use Rattle.pr_link.specs.declared.request.Request.TheVariants.{Login, Command, Logout}
use Rattle.pr_link.specs.Streams.{frame_of}
use Rattle.pr_link.specs.Deframer.{held_of, place_of}
use Rattle.pr_link.specs.Requests.{request_of}
use Rattle.pr_session.specs.declared.asked.Asked.TheVariants as what
use Rattle.pr_session.specs.Asking.{next_by}
use Rattle.pr_session.specs.Places.{data_in}
use Rattle.pr_session.specs.States.{phase_in}
use Rattle.pr_session.specs.Works.{bytes_of}
use Rattle.pr_session.specs.Sessions.{work_of}
use Rattle.pr_session.specs.Turning.{Begins, IsAsked}
use Rattle.pr_session.proofs.Parts.{data_out}
use Rattle.pr_session.proofs.Askings.{serves, asks, left, login_next, login_read, command_next, command_read}
use Rattle.pr_session.proofs.session.Session.serve.Goals as goal

pub returns-in-Command : goal.returns-in-Command
returns-in-Command c l same =
    let body : List ℕ = take c.args.head.body (work_of c.args.self.now) in
    let held : List ℕ = held_of c.args.self.now.deframer in
    let from : phase_in c.args.logged_in ≡ Fresh = ap phase_in c.in-None.is in
    let read : request_of c.args.head.kind body ≡ c.read-request.result = sym (c.read-request.ensures ∙ ap (request_of c.args.head.kind) c.front.ensures) in
    let refused : Begins l (broken Fresh c.args.place 5) c.refuse.result c.refuse.new.self = c.refuse.ensures l (same ∙ from) in
    let turn : asked (phase_in c.args.logged_in) c.args.place (frame_of c.args.head body) held ≡ broken Fresh c.args.place 5 =
    elim c.in-Command.is [
      | inl (cdb, sent, is) ↦ serves _ Fresh c.args.place c.args.head body held (Command cdb sent) from c.requires.formed.2 (read ∙ is)
      | inr is ↦ serves _ Fresh c.args.place c.args.head body held Logout from c.requires.formed.2 (read ∙ is)
    ] in
    subst (λ (t : Turn). Begins l t c.refuse.result c.refuse.new.self) (sym turn) refused

pub returns-in-Command-request : goal.returns-in-Command-request
returns-in-Command-request c l same =
    let work : List ℕ = work_of c.args.self.now in
    let body : List ℕ = take c.args.head.body work in
    let held : List ℕ = held_of c.args.self.now.deframer in
    let place : ℕ = place_of c.args.self.now.deframer in
    let n : Nexus = c.in-Some.nexus in
    let lun : ℕ = c.args.head.lun in
    let cdb : List ℕ = c.in-Command-request.cdb in
    let sent : ℕ = c.in-Command-request.data_out in
    let after = c.ask-in-Command-request in
    let from : phase_in c.args.logged_in ≡ In n = ap phase_in c.in-Some.is in
    let read : request_of c.args.head.kind body ≡ Command cdb sent = sym (c.read-request.ensures ∙ ap (request_of c.args.head.kind) c.front.ensures) ∙ c.in-Command-request.is in
    let counted : sent ≡ length (command_data body) = command_read c.args.head.kind body cdb sent read in
    let turn = serves _ (In n) c.args.place c.args.head body held (Command cdb sent) from c.requires.formed.2 read
    ∙ ap (λ (p : ℕ). Asks n (entries.Command lun cdb (command_data body)) (after_command n (frame_of c.args.head body) held p)) (sym c.requires.placed) in
    let within : c.args.head.body ≤ length work = omega (arith, c.requires.formed.0, c.args.self.now.work.room) in
    let short : sent ≤ DATA = omega (arith, counted, length-drop COMMAND_HEAD body, length-take c.args.head.body work, c.requires.formed.0) in
    let sent_is : take sent (data_in (work_of after.new.self)) ≡ command_data body = ap (λ w. take sent (data_in (bytes_of w))) after.ensures.work ∙ data_out work c.args.head.body sent within counted in
    let next = λ (out : entries.Out). ap (λ d. next_by (what.Command c.args.head n cdb sent) (work_of after.new.self) (held_of d) (place_of d) out) after.ensures.stream ∙ command_next c.args.head body n cdb sent (work_of after.new.self) held place sent_is out in
    let wanted = asks (In n) n (entries.Command lun cdb (command_data body)) (after_command n (frame_of c.args.head body) held place) after.result after.new.self (what.Command c.args.head n cdb sent) after.ensures.state after.ensures.want refl (ap (entries.Command lun cdb) sent_is) (refl, short) next in
    subst (λ (t : Turn). Begins l t after.result after.new.self) (sym turn) (subst (λ (p : Phase). IsAsked p n (entries.Command lun cdb (command_data body)) (after_command n (frame_of c.args.head body) held place) after.result after.new.self) (sym (same ∙ from)) wanted)

pub returns-in-Login-request : goal.returns-in-Login-request
returns-in-Login-request c l same =
    let body : List ℕ = take c.args.head.body (work_of c.args.self.now) in
    let held : List ℕ = held_of c.args.self.now.deframer in
    let n : Nexus = c.in-Some.nexus in
    let from : phase_in c.args.logged_in ≡ In n = ap phase_in c.in-Some.is in
    let read : request_of c.args.head.kind body ≡ Login c.in-Login-request.version c.in-Login-request.nexus = sym (c.read-request.ensures ∙ ap (request_of c.args.head.kind) c.front.ensures) ∙ c.in-Login-request.is in
    let turn = serves _ (In n) c.args.place c.args.head body held (Login c.in-Login-request.version c.in-Login-request.nexus) from c.requires.formed.2 read in
    subst (λ (t : Turn). Begins l t c.refuse-in-Login-request.result c.refuse-in-Login-request.new.self) (sym turn) (c.refuse-in-Login-request.ensures l (same ∙ from))

pub returns-in-Login : goal.returns-in-Login
returns-in-Login c l same =
    let body : List ℕ = take c.args.head.body (work_of c.args.self.now) in
    let held : List ℕ = held_of c.args.self.now.deframer in
    let place : ℕ = place_of c.args.self.now.deframer in
    let version : ℕ = c.in-Login.version in
    let n : Nexus = c.in-Login.nexus in
    let from : phase_in c.args.logged_in ≡ Fresh = ap phase_in c.in-None.is in
    let read : request_of c.args.head.kind body ≡ Login version n = sym (c.read-request.ensures ∙ ap (request_of c.args.head.kind) c.front.ensures) ∙ c.in-Login.is in
    let turn = serves _ Fresh c.args.place c.args.head body held (Login version n) from c.requires.formed.2 read
    ∙ ap (λ (p : ℕ). Asks n (entries.Login version) (after_login (frame_of c.args.head body) held p)) (sym c.requires.placed) in
    let next = λ (out : entries.Out). ap (λ d. next_by (what.Login c.args.head n version) (work_of c.ask.new.self) (held_of d) (place_of d) out) c.ask.ensures.stream
    ∙ login_next c.args.head body n version (work_of c.ask.new.self) held place (login_read c.args.head.kind body version n read) out in
    let wanted = asks Fresh n (entries.Login version) (after_login (frame_of c.args.head body) held place) c.ask.result c.ask.new.self (what.Login c.args.head n version) c.ask.ensures.state c.ask.ensures.want refl refl tt next in
    subst (λ (t : Turn). Begins l t c.ask.result c.ask.new.self) (sym turn) (subst (λ (p : Phase). IsAsked p n (entries.Login version) (after_login (frame_of c.args.head body) held place) c.ask.result c.ask.new.self) (sym (same ∙ from)) wanted)

pub returns-in-Logout : goal.returns-in-Logout
returns-in-Logout c l same =
    let body : List ℕ = take c.args.head.body (work_of c.args.self.now) in
    let held : List ℕ = held_of c.args.self.now.deframer in
    let n : Nexus = c.in-Some.nexus in
    let after = c.ask-in-Logout in
    let from : phase_in c.args.logged_in ≡ In n = ap phase_in c.in-Some.is in
    let read : request_of c.args.head.kind body ≡ Logout = sym (c.read-request.ensures ∙ ap (request_of c.args.head.kind) c.front.ensures) ∙ c.in-Logout.is in
    let turn = serves _ (In n) c.args.place c.args.head body held Logout from c.requires.formed.2 read in
    subst (λ (t : Turn). Begins l t after.result after.new.self) (sym turn) (left l n c.args.head body after.result after.new.self (same ∙ from) after.ensures.state after.ensures.want)

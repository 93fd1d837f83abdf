use Rattle.std.proofs.Common.{◌≡◌, sym, ap, subst, ◌∙◌}
use Rattle.pr_words.specs.declared.nexus.Side.TheVariants.{Target}
use Rattle.pr_grammar.specs.Frames.{front}
use Rattle.pr_model.specs.Lanes.{Phase, Turn, turn_by}
use Rattle.pr_link.specs.Deframer.{stream_of}
use Rattle.pr_session.specs.States.{phase_of, phase_in}
use Rattle.pr_session.specs.Sessions.{lane_of, work_of}
use Rattle.pr_session.specs.Turning.{Begins}
use Rattle.pr_session.proofs.Turns.{turn_bad, turn_frame, turn_in_front, living_in}
use Rattle.pr_session.proofs.session.Session.begin.Goals as goal

pub returns-in-Bad : goal.returns-in-Bad
returns-in-Bad c =
    let old = stream_of c.args.self.now.deframer in
    let from = phase_in c.args.logged_in in
    let is : phase_of c.args.self.now.state (work_of c.args.self.now) ≡ from = living_in c.args.self.now.state c.args.logged_in (work_of c.args.self.now) c.requires.lives in
    let turn = ap (λ (p : Phase). turn_by p old.held old.place) is ∙ turn_in_front c.args.logged_in old.held old.place
    ∙ turn_bad from (front Target old.held) old _ c.in-Bad.place c.in-Bad.reason _ c.in-Bad.ensures.goes in
    subst (λ (t : Turn). Begins (lane_of c.args.self.now) t c.refuse.result c.refuse.new.self) (sym turn) (c.refuse.ensures (lane_of c.args.self.now) is)

pub returns-in-Frame : goal.returns-in-Frame
returns-in-Frame c =
    let old = stream_of c.args.self.now.deframer in
    let from = phase_in c.args.logged_in in
    let is : phase_of c.args.self.now.state (work_of c.args.self.now) ≡ from = living_in c.args.self.now.state c.args.logged_in (work_of c.args.self.now) c.requires.lives in
    let turn = ap (λ (p : Phase). turn_by p old.held old.place) is ∙ turn_in_front c.args.logged_in old.held old.place
    ∙ turn_frame from (front Target old.held) old _ c.in-Frame.head c.place-place.result _ c.place-place.ensures c.in-Frame.ensures.goes in
    subst (λ (t : Turn). Begins (lane_of c.args.self.now) t c.serve.result c.serve.new.self) (sym turn) (c.serve.ensures (lane_of c.args.self.now) is)

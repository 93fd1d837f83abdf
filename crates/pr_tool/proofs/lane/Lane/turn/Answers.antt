use Rattle.std.proofs.Common.{◌≡◌, sym, subst}
use Rattle.pr_model.specs.Lanes.{Lane, turn}
use Rattle.pr_io.proofs.Sent.{on_err, on_ok}
use Rattle.pr_session.specs.Driving.{Follows, LeavesLess}
use Rattle.pr_session.specs.Sessions.{lane_of, reply_of}
use Rattle.pr_tool.proofs.Running.{turn_ran, turn_cut, turn_room}
use Rattle.pr_tool.proofs.lane.Lane.turn.Goals as goal

pub returns-clause-all : goal.returns-clause-all
returns-clause-all g c =
    let old = lane_of c.args.self.now.session in
    let kept : lane_of c.write_reply.new.session ≡ lane_of c.drive.new.session = c.write_reply.ensures.keeps.1 in
    let follows = subst (λ (m : Lane). Follows c.args.who c.args.core.now old (turn old) c.drive.new.core m (reply_of c.drive.new.session)) (sym kept) c.drive.ensures.follows in
    on_ok c.write_reply.result (turn_ran c.args.who c.args.core.now c.drive.new.core _ _ old _ _ follows) c.write_reply.ensures.all

pub returns-clause-some : goal.returns-clause-some
returns-clause-some g c =
    let old = lane_of c.args.self.now.session in
    let kept : lane_of c.write_reply.new.session ≡ lane_of c.drive.new.session = c.write_reply.ensures.keeps.1 in
    let follows = subst (λ (m : Lane). Follows c.args.who c.args.core.now old (turn old) c.drive.new.core m (reply_of c.drive.new.session)) (sym kept) c.drive.ensures.follows in
    on_err c.write_reply.result (turn_cut c.args.who c.args.core.now c.drive.new.core _ _ old _ _ follows) c.write_reply.ensures.some

pub returns-clause-room : goal.returns-clause-room
returns-clause-room g c full alive =
    let old = lane_of c.args.self.now.session in
    let kept : lane_of c.write_reply.new.session ≡ lane_of c.drive.new.session = c.write_reply.ensures.keeps.1 in
    let follows = subst (λ (m : Lane). Follows c.args.who c.args.core.now old (turn old) c.drive.new.core m (reply_of c.drive.new.session)) (sym kept) c.drive.ensures.follows in
    turn_room c.args.who c.args.core.now c.drive.new.core old _ _ follows full alive (subst (λ (m : Lane). LeavesLess old.phase m.phase) (sym kept) c.drive.ensures.onward)

use Rattle.std.proofs.Common.{rules, ℕ, refl, sym, ap, ◌∙◌, subst}
use Rattle.pr_model.specs.Lanes.{Lane, turn}
use Rattle.pr_gate.specs.Passes.{number_of, seen_of, own_of, ground_of}
use Rattle.pr_session.specs.Sessions.{lane_of}
use Rattle.pr_session.specs.Sharing.{WillAgree}
use Rattle.pr_session.proofs.Sharings.{later_ready, wants_asked, published_fits, shares, shares_calm, agrees_later, goes_onward, calm_agrees, idle_where, idle_stays, ends_act}
use Rattle.pr_session.proofs.Drivings.{calm}
use Rattle.pr_session.proofs.sharing.drive_shared.Goals as goal

pub publish-requires-clause-ready : goal.publish-requires-clause-ready
publish-requires-clause-ready g c =
    later_ready (number_of c.args.pass.now) (ground_of c.args.pass.now) (seen_of c.args.pass.now) (lane_of c.args.session.now) (turn (lane_of c.args.session.now)) _ _ c.want.new.self (rw c.in-Act.is at (c.want.ensures.begins c.requires.settled)) c.requires.agrees

pub publish-requires-clause-wants : goal.publish-requires-clause-wants
publish-requires-clause-wants g c = wants_asked (lane_of c.args.session.now) (turn (lane_of c.args.session.now)) _ _ c.want.new.self (rw c.in-Act.is at (c.want.ensures.begins c.requires.settled))

pub answer-requires : goal.answer-requires
answer-requires g c =
    published_fits (number_of c.args.pass.now) (ground_of c.publish.new.pass) (own_of c.args.pass.now) (own_of c.publish.new.pass) (seen_of c.publish.new.pass) (lane_of c.args.session.now) (turn (lane_of c.args.session.now)) _ _ c.want.new.self c.publish.new.session c.in_ok-out-in-Act.out
    (rw c.in-Act.is at (c.want.ensures.begins c.requires.settled)) c.in_ok-out-in-Act.ensures.publishes c.publish.ensures.keeps.0

pub returns-in-Need : goal.returns-in-Need
returns-in-Need g c =
    let b = c.want.ensures.begins c.requires.settled in
    record {
      same = search rules;
      seen = search rules;
      right = λ k is right. right;
      shares = shares_calm (number_of c.args.pass.now) (own_of c.args.pass.now) (lane_of c.args.session.now) (turn (lane_of c.args.session.now)) c.want.result c.want.new.self b (search rules);
      made = idle_where (lane_of c.args.session.now) (turn (lane_of c.args.session.now)) _ c.want.new.self (rw c.in-Need.is at b);
      ends = λ dead. absurd (c.requires.lives (ap (λ (m : Lane). m.phase) (sym (idle_stays (lane_of c.args.session.now) (turn (lane_of c.args.session.now)) _ c.want.new.self (rw c.in-Need.is at b))) ∙ dead));
      settled = search rules;
      agrees = calm_agrees (number_of c.args.pass.now) (ground_of c.args.pass.now) (seen_of c.args.pass.now) (lane_of c.args.session.now) (turn (lane_of c.args.session.now)) c.want.result c.want.new.self refl b (search rules) c.requires.agrees;
      onward = calm (lane_of c.args.session.now) c.want.result c.want.new.self _ b (search rules);
      spent = tt;
    }

pub returns-in_ok-out-in-Act-clause-shares : goal.returns-in_ok-out-in-Act-clause-shares
returns-in_ok-out-in-Act-clause-shares g c =
    shares (number_of c.args.pass.now) (ground_of c.publish.new.pass) (own_of c.args.pass.now) (own_of c.publish.new.pass) (seen_of c.publish.new.pass) (lane_of c.args.session.now) (turn (lane_of c.args.session.now)) _ _ c.want.new.self c.publish.new.session c.answer.new.self c.in_ok-out-in-Act.out
    (rw c.in-Act.is at (c.want.ensures.begins c.requires.settled)) c.in_ok-out-in-Act.ensures.publishes c.publish.ensures.keeps.0 c.publish.ensures.keeps.1 c.answer.ensures.turned

pub returns-in_ok-out-in-Act-clause-agrees : goal.returns-in_ok-out-in-Act-clause-agrees
returns-in_ok-out-in-Act-clause-agrees g c =
    subst (λ (who : ℕ). WillAgree g.M.Medium g.D.Disk (lane_of c.answer.new.self).phase (ground_of c.publish.new.pass) who (seen_of c.publish.new.pass)) (sym c.publish.ensures.same.0.1)
    (agrees_later (number_of c.args.pass.now) (ground_of c.publish.new.pass) (own_of c.args.pass.now) (own_of c.publish.new.pass) (seen_of c.publish.new.pass) (lane_of c.args.session.now) (turn (lane_of c.args.session.now)) _ _ c.want.new.self c.publish.new.session c.answer.new.self c.in_ok-out-in-Act.out
    (rw c.in-Act.is at (c.want.ensures.begins c.requires.settled)) c.in_ok-out-in-Act.ensures.publishes c.publish.ensures.keeps.0 c.publish.ensures.keeps.1 c.answer.ensures.turned)

pub returns-in_ok-out-in-Act-clause-onward : goal.returns-in_ok-out-in-Act-clause-onward
returns-in_ok-out-in-Act-clause-onward g c =
    goes_onward (number_of c.args.pass.now) (ground_of c.publish.new.pass) (own_of c.args.pass.now) (own_of c.publish.new.pass) (seen_of c.publish.new.pass) (lane_of c.args.session.now) (turn (lane_of c.args.session.now)) _ _ c.want.new.self c.publish.new.session c.answer.new.self c.in_ok-out-in-Act.out
    (rw c.in-Act.is at (c.want.ensures.begins c.requires.settled)) c.in_ok-out-in-Act.ensures.publishes c.publish.ensures.keeps.0 c.publish.ensures.keeps.1 c.answer.ensures.turned

pub returns-in_ok-out-in-Act-clause-ends : goal.returns-in_ok-out-in-Act-clause-ends
returns-in_ok-out-in-Act-clause-ends g c dead =
    ends_act (number_of c.args.pass.now) (ground_of c.publish.new.pass) (own_of c.args.pass.now) (own_of c.publish.new.pass) (seen_of c.publish.new.pass) (lane_of c.args.session.now) (turn (lane_of c.args.session.now)) _ _ c.want.new.self c.publish.new.session c.answer.new.self c.in_ok-out-in-Act.out
    (rw c.in-Act.is at (c.want.ensures.begins c.requires.settled)) c.in_ok-out-in-Act.ensures.publishes c.publish.ensures.keeps.0 c.publish.ensures.keeps.1 c.answer.ensures.turned c.answer.ensures.rejection dead

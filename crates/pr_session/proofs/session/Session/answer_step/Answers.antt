use Rattle.std.proofs.Common.{◌≡◌, length, subst, arith}
use Rattle.pr_words.specs.declared.limits.TheConstants.{HELD}
use Rattle.pr_link.specs.Deframer.{held_of, place_of}
use Rattle.pr_session.specs.Jobs.{FitsStep}
use Rattle.pr_session.specs.Sessions.{work_of}
use Rattle.pr_session.proofs.Stepping.{wrote_turn, read_turn}
use Rattle.pr_session.proofs.session.Session.answer_step.Goals as goal

pub returns-in-Wrote-clause-turned : goal.returns-in-Wrote-clause-turned
returns-in-Wrote-clause-turned c =
    let s = c.args.self.now in
    wrote_turn c.args.nexus c.args.job c.after_write.result (work_of s) (held_of s.deframer) (place_of s.deframer) c.args.out c.in-Wrote.lba c.go_on.new.self c.in-Wrote.is (subst (FitsStep c.args.job) c.in-Wrote.is c.requires) c.after_write.ensures.head c.after_write.ensures.bytes c.go_on.ensures.turned

pub returns-in-Read-clause-turned : goal.returns-in-Read-clause-turned
returns-in-Read-clause-turned c =
    let s = c.args.self.now in
    let size : length (work_of s) ≡ HELD = omega (arith, s.work.room) in
    read_turn c.args.nexus c.args.job c.after_read.result (work_of s) (held_of s.deframer) (place_of s.deframer) c.args.out c.in-Read.lba c.go_on-in-Read.new.self size c.in-Read.is (subst (FitsStep c.args.job) c.in-Read.is c.requires) c.after_read.ensures.head c.after_read.ensures.bytes c.go_on-in-Read.ensures.turned

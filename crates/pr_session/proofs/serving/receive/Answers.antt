use Rattle.std.proofs.Common.{rules, ◌-◌, length, ℕ, Ok, sym, subst}
use Rattle.pr_session.specs.declared.session_end.SessionEnd.{SessionEnd}
use Rattle.pr_session.specs.Sessions.{lane_of}
use Rattle.pr_io.specs.Streams.{HasEnded}
use Rattle.pr_words.specs.declared.limits.TheConstants.{HELD}
use Rattle.pr_session.specs.Feeding.{Takes}
use Rattle.pr_session.specs.Ends.{Over, IsCaused, ComesOfEnd}
use Rattle.pr_session.proofs.Servings.{since_taken, over_taken, over_failed, end_caused, end_comes, no_more}
use Rattle.pr_session.proofs.serving.receive.Goals as goal

pub returns-in-Ok-eq0-clause-over : goal.returns-in-Ok-eq0-clause-over
returns-in-Ok-eq0-clause-over g c who rest written written_now own own_now since =
    let s = c.args.session.now in
    let t = c.take_from.new.self in
    let before = g.S.Source.rest c.args.source.now in
    let after = g.S.Source.rest c.take_from.new.source in
    let takes : Takes before after (lane_of s) (lane_of t) (Ok 0) = subst (λ (n : ℕ). Takes before after (lane_of s) (lane_of t) (Ok n)) (search rules) c.in-Ok-eq0.ensures.takes in
    subst (λ (e : SessionEnd). Over e who rest after written written_now own own_now (lane_of t)) (sym c.end_of.ensures)
    (over_taken who rest written own before after written_now own_now s t since takes c.requires.awaits c.requires.idle c.requires.replied c.take_from.ensures.keeps.1)

pub returns-in-Ok-clause-since : goal.returns-in-Ok-clause-since
returns-in-Ok-clause-since g c who rest written written_now own own_now since =
    since_taken who rest written own (g.S.Source.rest c.args.source.now) (g.S.Source.rest c.take_from.new.source) written_now own_now c.args.session.now c.take_from.new.self c.in-Ok.field-0 since c.in-Ok.ensures.takes c.requires.awaits c.requires.replied c.take_from.ensures.keeps.1

pub returns-in-Err-clause-over : goal.returns-in-Err-clause-over
returns-in-Err-clause-over g c who rest written written_now own own_now since =
    over_failed who rest written own (g.S.Source.rest c.args.source.now) (g.S.Source.rest c.take_from.new.source) written_now own_now c.args.session.now c.take_from.new.self c.in-Err.field-0 since c.in-Err.ensures.takes c.requires.awaits c.requires.idle c.requires.replied

pub returns-in-Ok-eq0-clause-cause : goal.returns-in-Ok-eq0-clause-cause
returns-in-Ok-eq0-clause-cause g c a b =
    let before = g.S.Source.faults c.args.source.now in
    let after = g.S.Source.faults c.take_from.new.source in
    subst (λ (e : SessionEnd). IsCaused e before after a b) (sym c.end_of.ensures) (end_caused (lane_of c.take_from.new.self) before after a b)

pub returns-in-Ok-eq0-clause-ended : goal.returns-in-Ok-eq0-clause-ended
returns-in-Ok-eq0-clause-ended g c =
    let s = c.args.session.now in
    let t = c.take_from.new.self in
    let after = g.S.Source.rest c.take_from.new.source in
    let ended : HasEnded after 0 (HELD - length (lane_of s).bytes) = subst (λ (n : ℕ). HasEnded after n (HELD - length (lane_of s).bytes)) (search rules) c.in-Ok-eq0.ensures.end in
    subst (λ (e : SessionEnd). ComesOfEnd e (lane_of t) after) (sym c.end_of.ensures) (end_comes (lane_of t) after (no_more after (lane_of s) c.requires.awaits c.requires.idle ended))

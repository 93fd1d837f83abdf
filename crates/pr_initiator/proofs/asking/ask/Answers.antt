use Rattle.std.proofs.Common.{◌≡◌, ℕ, ◌+◌, ◌-◌, List, true, take, drop, sym, ap, ◌∙◌, subst, arith}
use Rattle.pr_words.specs.declared.nexus.Side.TheVariants.{Initiator}
use Rattle.pr_grammar.specs.Frames.{is_body}
use Rattle.pr_link.specs.Streams.{frame_of}
use Rattle.pr_link.specs.Fronts.{body_in}
use Rattle.pr_initiator.specs.Judging.{judged}
use Rattle.pr_initiator.proofs.Judgings.{IsJudged, is_judged, fails}
use Rattle.pr_initiator.proofs.asking.ask.Goals as goal

pub judge-judged-requires : goal.judge-judged-requires
judge-judged-requires g c =
    let size : 12 + c.in-Ok.frame.body - 12 ≡ c.in-Ok.frame.body = omega arith in
    subst (λ (n : ℕ). is_body Initiator c.in-Ok.frame.kind (take n (drop 12 c.speak.new.work)) ≡ true) (sym size) c.in-Ok.ensures.speaks.3

pub returns-in-Ok-judged-clause-asks : goal.returns-in-Ok-judged-clause-asks
returns-in-Ok-judged-clause-asks g c =
    let work : List ℕ = c.speak.new.work in
    let size : 12 + c.in-Ok.frame.body - 12 ≡ c.in-Ok.frame.body = omega arith in
    let said = ap (λ (n : ℕ). judged c.args.asked c.args.tag c.args.place (frame_of c.in-Ok.frame (take n (drop 12 work)))) (sym size) ∙ sym c.judge-judged.ensures ∙ c.in-Ok-judged.is in
    (c.in-Ok.ensures.speaks.0, frame_of c.in-Ok.frame (body_in c.in-Ok.frame.body work), c.in-Ok.ensures.speaks.1, said)

pub returns-in-Err-clause-asks : goal.returns-in-Err-clause-asks
returns-in-Err-clause-asks g c =
    let work : List ℕ = c.speak.new.work in
    let size : 12 + c.in-Ok.frame.body - 12 ≡ c.in-Ok.frame.body = omega arith in
    let said = ap (λ (n : ℕ). judged c.args.asked c.args.tag c.args.place (frame_of c.in-Ok.frame (take n (drop 12 work)))) (sym size) ∙ sym c.judge-judged.ensures ∙ c.in-Err.is in
    fails c.args.asked c.args.tag c.args.place _ _ _ (take (12 + c.in-Ok.frame.body) work) (frame_of c.in-Ok.frame (body_in c.in-Ok.frame.body work)) c.in-Err.fault c.in-Ok.ensures.speaks.0 c.in-Ok.ensures.speaks.1 said

pub returns-in-Err-clause-down : goal.returns-in-Err-clause-down
returns-in-Err-clause-down g c down =
    let work : List ℕ = c.speak.new.work in
    let size : 12 + c.in-Ok.frame.body - 12 ≡ c.in-Ok.frame.body = omega arith in
    let said = ap (λ (n : ℕ). judged c.args.asked c.args.tag c.args.place (frame_of c.in-Ok.frame (take n (drop 12 work)))) (sym size) ∙ sym c.judge-judged.ensures ∙ c.in-Err.is in
    absurd (subst IsJudged down (is_judged c.args.asked c.args.tag c.args.place (frame_of c.in-Ok.frame (body_in c.in-Ok.frame.body work)) c.in-Err.fault said))

use Rattle.pr_tool.specs.Asking.{AsksReplay}
use Rattle.pr_tool.proofs.replay.replay_main.Goals as goal

pub replay_within-requires : goal.replay_within-requires
replay_within-requires g c =
    let asks : AsksReplay c.args.words.now c.in-Some.lanes = (c.lanes_asked.ensures c.in-Some.lanes).0 c.in-Some.is in
    (asks.0, asks.1)

pub returns-in-Some-clause-words : goal.returns-in-Some-clause-words
returns-in-Some-clause-words g c =
    let asks : AsksReplay c.args.words.now c.in-Some.lanes = (c.lanes_asked.ensures c.in-Some.lanes).0 c.in-Some.is in
    (λ is. absurd (c.replay_within.ensures.begun is), λ other. absurd (other (c.in-Some.lanes, asks)))

pub returns-in-Some-clause-unasked : goal.returns-in-Some-clause-unasked
returns-in-Some-clause-unasked g c words = absurd (c.replay_within.ensures.begun words)

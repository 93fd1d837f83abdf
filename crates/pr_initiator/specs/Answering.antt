-- What a request is answered (this project's own).
use Rattle.std.specs.Prelude.{◌≡◌, ◌⊎◌, ℕ, List, [], ◌++◌, take, Option, Result, Ok, Err}
use Rattle.pr_words.specs.declared.nexus.Side.TheVariants.{Initiator}
use Rattle.pr_grammar.specs.Frames.{Frame, front, Lacking, Broken, Whole}
use Rattle.pr_io.specs.Talks.{Talk}
use Rattle.pr_initiator.specs.declared.asking.Heard.{Heard}
use Rattle.pr_initiator.specs.declared.link_fault.LinkFault.{LinkFault}
use Rattle.pr_initiator.specs.declared.link_fault.LinkFault.TheVariants.{Down, Ended, BadReply}
use Rattle.pr_initiator.specs.Goings.{Goes, WasEnded}
use Rattle.pr_initiator.specs.Judging.{judged}

-- a reply at a place breaks a rule of its grammar, or the frame that it is was judged so
abbrev pub IsBadReply : ℕ → ℕ → ℕ → List ℕ → ℕ → ℕ → Type 0
IsBadReply asked tag place heard at reason =
    ((front Initiator heard ≡ Broken reason) × (at ≡ place))
    ⊎ ((f : Frame) × (front Initiator heard ≡ Whole f []) × (judged asked tag place f ≡ Err (BadReply at reason)))

-- no answer counts: the wire failed, maybe after a front of the request alone was sent; or the connection ended before a reply was whole; or just what was heard after the
-- request was sent is the cause
abbrev pub FailsToAsk : ℕ → ℕ → ℕ → Option Talk → Option Talk → List ℕ → LinkFault → Type 0
FailsToAsk asked tag place before now sent Down = (said : List ℕ) × (unsaid : List ℕ) × (heard : List ℕ) × (sent ≡ said ++ unsaid) × Goes before now said heard
FailsToAsk asked tag place before now sent (Ended at) =
    (heard : List ℕ) × (lacks : ℕ) × Goes before now sent heard × (front Initiator heard ≡ Lacking lacks) × WasEnded now × (at ≡ place)
FailsToAsk asked tag place before now sent (BadReply at reason) =
    (heard : List ℕ) × Goes before now sent heard × IsBadReply asked tag place heard at reason
FailsToAsk asked tag place before now sent fault =
    (heard : List ℕ) × Goes before now sent heard × (f : Frame) × (front Initiator heard ≡ Whole f []) × (judged asked tag place f ≡ Err fault)

-- the request was sent, just one frame was heard, and the answer is what it says
abbrev pub Asks : ℕ → ℕ → ℕ → Option Talk → Option Talk → List ℕ → Result Heard LinkFault → List ℕ → Type 0
Asks asked tag place before now sent (Ok h) work =
    Goes before now sent (take h.size work) × (f : Frame) × (front Initiator (take h.size work) ≡ Whole f []) × (judged asked tag place f ≡ Ok h.reply)
Asks asked tag place before now sent (Err fault) work = FailsToAsk asked tag place before now sent fault

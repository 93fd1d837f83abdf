-- What comes of a request that is sent on a wire (this project's own).
use Rattle.std.specs.Prelude.{◌≡◌, ℕ, ◌+◌, ◌≤◌, true, List, [], ◌++◌, take, Option, Result, Ok, Err}
use Rattle.pr_words.specs.declared.limits.TheConstants.{BODY, FRAME_HEAD}
use Rattle.pr_words.specs.declared.nexus.Side.TheVariants.{Initiator}
use Rattle.pr_grammar.specs.Frames.{front, is_body, Lacking, Broken, Whole}
use Rattle.pr_io.specs.Talks.{Talk}
use Rattle.pr_link.specs.declared.frame.Frame.{Frame}
use Rattle.pr_link.specs.Streams.{frame_of}
use Rattle.pr_link.specs.Fronts.{body_in}
use Rattle.pr_initiator.specs.declared.receiving.Unheard.{Unheard}
use Rattle.pr_initiator.specs.declared.receiving.Unheard.TheVariants.{Down, Ended, Bad}
use Rattle.pr_initiator.specs.Goings.{Goes, WasEnded}

-- the request was sent, and no reply was heard; where the wire failed, that may be after a front of it
abbrev pub SpeaksInVain : Option Talk → Option Talk → List ℕ → Unheard → Type 0
SpeaksInVain before now sent Down = (said : List ℕ) × (unsaid : List ℕ) × (heard : List ℕ) × (sent ≡ said ++ unsaid) × Goes before now said heard
SpeaksInVain before now sent Ended = (heard : List ℕ) × (lacks : ℕ) × Goes before now sent heard × (front Initiator heard ≡ Lacking lacks) × WasEnded now
SpeaksInVain before now sent (Bad rule) = (heard : List ℕ) × Goes before now sent heard × (front Initiator heard ≡ Broken rule)

-- the request was sent and just a frame was heard, which stands at the front of the buffer; or none
abbrev pub Speaks : Option Talk → Option Talk → List ℕ → Result Frame Unheard → List ℕ → Type 0
Speaks before now sent (Ok g) work =
    Goes before now sent (take (FRAME_HEAD + g.body) work) × (front Initiator (take (FRAME_HEAD + g.body) work) ≡ Whole (frame_of g (body_in g.body work)) []) × (g.body ≤ BODY) × (is_body Initiator g.kind (body_in g.body work) ≡ true)
Speaks before now sent (Err e) work = SpeaksInVain before now sent e

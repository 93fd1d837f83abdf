-- What comes of waiting for a reply (this project's own).
use Rattle.std.specs.Prelude.{◌≡◌, ℕ, ◌+◌, ◌≤◌, true, List, [], take, Option, Result, Ok, Err}
use Rattle.pr_words.specs.declared.limits.TheConstants.{BODY, FRAME_HEAD}
use Rattle.pr_words.specs.declared.nexus.Side.TheVariants.{Initiator}
use Rattle.pr_grammar.specs.Frames.{front, is_body, Lacking, Broken, Whole}
use Rattle.pr_io.specs.Talks.{Talk}
use Rattle.pr_link.specs.declared.frame.Frame.{Frame}
use Rattle.pr_link.specs.Streams.{frame_of}
use Rattle.pr_link.specs.Fronts.{body_in}
use Rattle.pr_initiator.specs.declared.receiving.Unheard.{Unheard}
use Rattle.pr_initiator.specs.declared.receiving.Unheard.TheVariants.{Down, Ended, Bad}
use Rattle.pr_initiator.specs.Goings.{Goes, WasEnded}

-- no reply was heard: the wire failed, or the connection ended before a frame was whole, or what came breaks a rule
abbrev pub HearsNot : Option Talk → Option Talk → Unheard → Type 0
HearsNot before now Down = (heard : List ℕ) × Goes before now [] heard
HearsNot before now Ended = (heard : List ℕ) × (lacks : ℕ) × Goes before now [] heard × (front Initiator heard ≡ Lacking lacks) × WasEnded now
HearsNot before now (Bad rule) = (heard : List ℕ) × Goes before now [] heard × (front Initiator heard ≡ Broken rule)

-- just a frame was heard, which stands at the front of the buffer; or none
abbrev pub Hears : Option Talk → Option Talk → Result Frame Unheard → List ℕ → Type 0
Hears before now (Ok g) work =
    Goes before now [] (take (FRAME_HEAD + g.body) work) × (front Initiator (take (FRAME_HEAD + g.body) work) ≡ Whole (frame_of g (body_in g.body work)) []) × (g.body ≤ BODY) × (is_body Initiator g.kind (body_in g.body work) ≡ true)
Hears before now (Err e) work = HearsNot before now e

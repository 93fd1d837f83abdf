-- The bytes of a connection as a session takes them.
use Rattle.std.specs.Prelude.{◌≡◌, ℕ, ◌+◌, ◌%◌, ◌^◌, List, [], take, None}
use Rattle.pr_words.specs.declared.nexus.Side.TheVariants.{Target}
use Rattle.pr_grammar.specs.Frames.{Front, Lacking, Broken, Whole, frame_size}
use Rattle.pr_link.specs.Streams.{Stream, IsFormed, frame_of}
use Rattle.pr_link.specs.declared.frame.Got.{Got}
use Rattle.pr_link.specs.declared.frame.Got.TheVariants as got

-- a deframer of the target's side that has met no broken rule
pub record IsIntact (s : Stream) : Type 0 where
  pub side : s.side ≡ Target
  pub unbroken : s.broken ≡ None

-- the next frame, with which a session goes on; after a broken rule the stream begins anew
abbrev pub Receives : Front → Stream → Got → Stream → List ℕ → Type 0
Receives (Lacking k) old (got.Need n) new buf = (n ≡ k) × (new ≡ old)
Receives (Broken r) old (got.Bad place reason) new buf = (place ≡ old.place) × (reason ≡ r) × (new ≡ record old { place = 0; held = []; broken = None })
Receives (Whole f rest) old (got.Frame g) new buf =
    (f ≡ frame_of g (take g.body buf)) × (new ≡ record old { place = (old.place + frame_size f) % 2 ^ 64; held = rest }) × IsFormed old.side g buf
Receives _ old _ new buf = ⊥

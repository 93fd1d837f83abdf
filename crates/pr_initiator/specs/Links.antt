-- An initiator as its contracts see it, and what a request does to it (this project's own).
use Rattle.std.specs.Prelude.{◌≡◌, ℕ, ◌+◌, ◌%◌, ◌^◌, ◌≤◌, List, [], length, drop, slice_range, Option, Result, Ok, IfOk, IfErr}
use Rattle.std.specs.Borrow.{GName}
use Rattle.pr_words.specs.declared.nexus.Side.TheVariants as side
use Rattle.pr_grammar.specs.declared.sense.SenseFault.{SenseFault}
use Rattle.pr_grammar.specs.Frames.{Frame, front, Whole}
use Rattle.pr_io.specs.Causes.{Rose}
use Rattle.pr_io.specs.Talks.{Talk}
use Rattle.pr_io.specs.declared.wire.Wire as wires
use Rattle.pr_link.specs.declared.reply.Reply.{Reply}
use Rattle.pr_link.specs.declared.reply.Reply.TheVariants as reply
use Rattle.pr_initiator.specs.declared.initiator.Initiator.{Initiator}
use Rattle.pr_initiator.specs.declared.link_fault.LinkFault.{LinkFault}
use Rattle.pr_initiator.specs.declared.link_fault.LinkFault.TheVariants as fault
use Rattle.pr_initiator.specs.Calls.{Answers}
use Rattle.pr_initiator.specs.Goings.{Goes}
use Rattle.pr_initiator.specs.Judging.{judged}

-- what its wire tells, and which reference it is, where it is one; the tag of the next request, the place at which the next reply begins, and the data-in of the last
-- answer
pub record Link : Type 0 where
  pub talk : Option Talk
  pub reference : Option GName
  pub faults : ℕ
  pub tag : ℕ
  pub place : ℕ
  pub received : List ℕ

abbrev pub link_of : {W : Type 0} {of : wires.Ghosts W} → Initiator W of → Link
link_of {W} {of} i = record {
  talk = of.talk i.wire;
  reference = of.reference i.wire;
  faults = of.faults i.wire;
  tag = i.tag;
  place = i.place;
  received = slice_range i.work.items 16 (16 + i.len);
}

-- the wire is the same one, and comes from the one before
abbrev pub Comes : {W : Type 0} {of : wires.Ghosts W} → Initiator W of → Initiator W of → Type 0
Comes {W} {of} old new = (of.reference new.wire ≡ of.reference old.wire) × of.comes old.wire new.wire

abbrev pub next_tag : ℕ → ℕ
next_tag tag = (tag + 1) % 2 ^ 32

-- where what is behind so many bytes begins
abbrev pub place_behind : ℕ → ℕ → ℕ
place_behind place size = (place + size) % 2 ^ 64

-- the data-in of a reply, by its body
abbrev pub data_in_by : Result Reply SenseFault → List ℕ → List ℕ
data_in_by (Ok (reply.Good n)) body = drop 4 body
data_in_by _ body = []

-- just this was sent, and just one frame was heard, which is this reply; the next reply begins behind it
pub record HasReplied (asked : ℕ) (old new : Link) (sent : List ℕ) (said : Result Reply SenseFault) : Type 0 where
  pub heard : List ℕ
  pub frame : Frame
  pub goes : Goes old.talk new.talk sent heard
  pub whole : front side.Initiator heard ≡ Whole frame []
  pub judged : judged asked old.tag old.place frame ≡ Ok said
  pub place : new.place ≡ place_behind old.place (length heard)
  pub received : new.received ≡ data_in_by said frame.body

-- a value is what such a reply says
abbrev pub Yields : {T : Type 0} → (Result Reply SenseFault → Result T LinkFault) → ℕ → Link → Link → List ℕ → T → Type 0
Yields says asked old new sent value = (said : Result Reply SenseFault) × HasReplied asked old new sent said × (says said ≡ Ok value)

-- what a request does: just it is sent, and its result is what the reply says that is heard
pub record HasCalled {T : Type 0} (says : Result Reply SenseFault → Result T LinkFault) (asked : ℕ) (old new : Link) (sent : List ℕ) (result : Result T LinkFault) : Type 0 where
  pub answers : (work : List ℕ) × Answers says asked old.tag old.place old.talk new.talk sent result work
  pub yields : IfOk result (Yields says asked old new sent)
  pub tag : new.tag ≡ next_tag old.tag
  pub reference : new.reference ≡ old.reference
  pub later : old.faults ≤ new.faults
  pub down : IfErr result (λ e. e ≡ fault.Down → Rose old.faults new.faults)

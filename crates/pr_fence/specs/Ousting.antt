-- What off has done where it ends well (this project's own; the commands are SPC-4's).
use Rattle.std.specs.Prelude.{◌≡◌, ℕ, Bool, false, List, [], ◌∷◌, Ok}
use Rattle.pr_words.specs.declared.nexus.Key.{Key}
use Rattle.pr_words.specs.declared.nexus.Nexus.{Nexus}
use Rattle.pr_words.specs.declared.service.InService.TheVariants as ins
use Rattle.pr_initiator.specs.Commands.{reserve_in}
use Rattle.pr_initiator.specs.Links.{Link}
use Rattle.pr_fence.specs.declared.asked.Asked.TheVariants as ask
use Rattle.pr_fence.specs.declared.seeing.Sight.{Sight}
use Rattle.pr_fence.specs.Seeing.{listed_in}
use Rattle.pr_fence.specs.Steps.{Unless, Where, Orders, Opens, Closes, Looks, Registers, Holds, Removes}
use Rattle.pr_fence.specs.Words.{Wanted}
use Rattle.pr_fence.specs.Whole.{ToldWire, wire_of}

-- on one device: READ FULL STATUS came first; where the victim's key was in it, PREEMPT AND ABORT of the key was sent after
-- that and answered GOOD; and the last command was READ KEYS, whose reply doesn't have the key
pub record HasOusted (address : List ℕ) (nexus : Nexus) (own victim : Key) (aptpl : Bool) (old new : Link) (was : Bool) : Type 0 where
  pub entered : Link
  pub looked : Link
  pub joined : Link
  pub held : Link
  pub removed : Link
  pub checked : Link
  pub sight : Sight
  pub opens : Opens address nexus old entered (Ok tt)
  pub looks : Looks nexus own victim entered looked (Ok sight)
  pub joins : Unless sight.own (Registers own aptpl) looked joined (Ok tt)
  pub holds : Holds own joined held (Ok tt)
  pub removes : Where sight.victim (Removes own victim) held removed (Ok tt)
  pub lists : Orders ask.Keys (reserve_in ins.ReadKeys) removed checked (Ok tt)
  pub gone : Ok false ≡ listed_in victim checked.received
  pub closes : Closes checked new (Ok tt)
  pub found : was ≡ sight.victim

-- on one device after another
abbrev pub HaveOusted : Wanted → Key → List (List ℕ) → Link → Link → Type 0
HaveOusted w victim [] old new = new ≡ old
HaveOusted w victim (address ∷ rest) old new =
    (mid : Link) × (was : Bool) × HasOusted address w.nexus w.own victim w.aptpl old mid was × HaveOusted w victim rest mid new

-- on every device, by an initiator on this wire
pub record OustsAll (w : Wanted) (victim : Key) (old new : ToldWire) : Type 0 where
  pub first : Link
  pub last : Link
  pub ousted : HaveOusted w victim w.addresses first last
  pub before : wire_of first ≡ old
  pub after : wire_of last ≡ new

-- What is printed (this project's own).
use Rattle.std.specs.Prelude.{ℕ, Bool, List, [], ◌∷◌, ◌++◌, codes, if◌then◌else◌, Result, OnOk, OnErr}
use Rattle.pr_io.specs.Causes.{HasCause}
use Rattle.pr_io.specs.Streams.{Put, PutSome}
use Rattle.pr_io.specs.Told.{ToldSink}
use Rattle.pr_io.specs.declared.outside.Failed.{Failed}
use Rattle.pr_fence.specs.declared.plan.Errand.{Errand}
use Rattle.pr_fence.specs.declared.plan.Errand.TheVariants.{On, Off, Status}

-- all of a text was put, or the sink failed in it
pub record HasPrinted (old new : ToldSink) (text : List ℕ) (result : Result Unit Failed) : Type 0 where
  pub all : OnOk result (Put old.written new.written text)
  pub some : OnErr result (PutSome old.written new.written text)
  pub cause : HasCause old.faults new.faults result

abbrev pub line_end : List ℕ
line_end = 0x0A ∷ []

abbrev pub before_address : Errand → List ℕ
before_address On = codes "on "
before_address (Off victim) = codes "off "
before_address (Status key) = codes "status "

-- what was found on the device
abbrev pub behind_address : Errand → Bool → List ℕ
behind_address On found = line_end
behind_address (Off victim) found = if found then codes " removed" ++ line_end else codes " absent" ++ line_end
behind_address (Status key) found = if found then codes " present" ++ line_end else codes " absent" ++ line_end

-- the line of an address
abbrev pub line_of : Errand → List ℕ → Bool → List ℕ
line_of errand address found = before_address errand ++ (address ++ behind_address errand found)

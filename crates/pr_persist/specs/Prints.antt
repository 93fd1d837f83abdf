-- Text that is put into a sink, or a front of it (this project's own).
use Rattle.std.specs.Prelude.{ℕ, List, drop, Result, OnOk, OnErr}
use Rattle.pr_io.specs.declared.outside.Failed.{Failed}
use Rattle.pr_io.specs.Causes.{HasCause}
use Rattle.pr_io.specs.Streams.{Put, PutSome}
use Rattle.pr_io.specs.Told.{ToldSink}
use Rattle.pr_persist.specs.declared.digits.Hex.{Hex}

-- all of a text was put, or the sink failed in it
pub record HasPrinted (old new : ToldSink) (text : List ℕ) (result : Result Unit Failed) : Type 0 where
  pub all : OnOk result (Put old.written new.written text)
  pub some : OnErr result (PutSome old.written new.written text)
  pub cause : HasCause old.faults new.faults result

abbrev pub word_of : Hex → List ℕ
word_of h = drop h.start h.digits

-- What was read of the words, as definitions see it (this project's own).
use Rattle.std.specs.Prelude.{ℕ, List, map}
use Rattle.std.specs.Borrow.{Bor}
use Rattle.pr_serve.specs.declared.words.ServeWords.{ServeWords}
use Rattle.pr_serve.specs.Words as spec

abbrev pub texts_of : List (Bor (List ℕ)) → List (List ℕ)
texts_of words = map (λ (w : Bor (List ℕ)). w.now) words

abbrev pub asked_of : ServeWords → spec.Asked
asked_of s = record { address = s.address.now; registrations = s.registrations.now; blocks = s.blocks.now; accept = s.accept }

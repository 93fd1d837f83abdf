-- What was read of the words, as definitions see it (this project's own).
use Rattle.std.specs.Prelude.{ℕ, Bool, List, map}
use Rattle.std.specs.Borrow.{Bor}
use Rattle.pr_fence.specs.declared.plan.Plan.{Plan}
use Rattle.pr_fence.specs.declared.words.Start.{Start}
use Rattle.pr_fence.specs.declared.words.Task.{Task}
use Rattle.pr_fence.specs.Words as spec

abbrev pub texts_of : List (Bor (List ℕ)) → List (List ℕ)
texts_of words = map (λ (w : Bor (List ℕ)). w.now) words

abbrev pub valued_of : Bor (List ℕ) × Bor (List (Bor (List ℕ))) → List ℕ × List (List ℕ)
valued_of p = (p.0.now, texts_of p.1.now)

abbrev pub start_of : Start → spec.Start
start_of s = record { verb = s.verb; cluster = s.cluster.now; node = s.node; name = s.name; rest = texts_of s.rest.now }

abbrev pub tasked_of : Task × Bor (List (Bor (List ℕ))) → Task × List (List ℕ)
tasked_of p = (p.0, texts_of p.1.now)

abbrev pub ended_of : Bool × Bor (List (Bor (List ℕ))) → Bool × List (List ℕ)
ended_of p = (p.0, texts_of p.1.now)

abbrev pub planned_of : Plan → spec.Wanted
planned_of p = record { errand = p.errand; nexus = p.nexus; own = p.own; aptpl = p.aptpl; addresses = texts_of p.addresses.now }

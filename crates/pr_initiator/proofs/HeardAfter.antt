-- A reply that is heard after a request was sent.
use Rattle.std.proofs.Common.{ℕ, ◌+◌, List, [], take, Option, sym, subst}
use Rattle.std.specs.Prelude.{Result, Ok, Err}
use Rattle.std.proofs.lemmas.List.{append-nil}
use Rattle.pr_io.specs.Talks.{Talk}
use Rattle.pr_link.specs.declared.frame.Frame.{Frame}
use Rattle.pr_initiator.specs.declared.receiving.Unheard.{Unheard}
use Rattle.pr_initiator.specs.declared.receiving.Unheard.TheVariants.{Down, Ended, Bad}
use Rattle.pr_initiator.specs.Goings.{Goes}
use Rattle.pr_initiator.specs.Hearing.{Hears}
use Rattle.pr_initiator.specs.Asking.{Speaks}
use Rattle.pr_initiator.proofs.Going.{more}

after : (a b c : Option Talk) (said heard : List ℕ) → Goes a b said [] → Goes b c [] heard → Goes a c said heard
after a b c said heard p q = subst (λ (w : List ℕ). Goes a c w heard) (append-nil said) (more a b c said [] [] heard p q)

pub heard_after : (a b c : Option Talk) (said : List ℕ) (r : Result Frame Unheard) (work : List ℕ) → Goes a b said [] → Hears b c r work → Speaks a c said r work
heard_after a b c said (Ok g) work p q = (after a b c said (take (12 + g.body) work) p q.0, q.1, q.2, q.3)
heard_after a b c said (Err Down) work p q = (said, [], q.0, sym (append-nil said), after a b c said q.0 p q.1)
heard_after a b c said (Err Ended) work p q = (q.0, q.1, after a b c said q.0 p q.2, q.3, q.4)
heard_after a b c said (Err (Bad rule)) work p q = (q.0, after a b c said q.0 p q.1, q.2)

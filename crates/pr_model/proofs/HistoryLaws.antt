-- Histories that go on.
use Rattle.std.proofs.Common.{◌≡◌, ◌+◌, [], ◌∷◌, ◌++◌, refl, arith}
use Rattle.pr_model.specs.Worlds.{World}
use Rattle.pr_model.specs.Entries.{History}
use Rattle.pr_model.specs.Histories.{moved, after, IsLegalFrom, faults_in, failures_in}

pub after-append : (w : World) (h k : History) → after w (h ++ k) ≡ after (after w h) k
after-append w [] k = refl
after-append w (e ∷ h) k = after-append (moved w e) h k

pub legal-append : (w : World) (h k : History) → IsLegalFrom w h → IsLegalFrom (after w h) k → IsLegalFrom w (h ++ k)
legal-append w [] k first second = second
legal-append w (e ∷ h) k first second = (first.0, legal-append (moved w e) h k first.1 second)

pub faults-append : (h k : History) → faults_in (h ++ k) ≡ faults_in h + faults_in k
faults-append [] k = omega arith
faults-append (e ∷ h) k = omega (arith, faults-append h k)

pub failures-append : (h k : History) → failures_in (h ++ k) ≡ failures_in h + failures_in k
failures-append [] k = omega arith
failures-append (e ∷ h) k = omega (arith, failures-append h k)

-- The order of nexuses is total.
use Rattle.std.proofs.Common.{◌≡◌, true, false, arith}
use Rattle.std.proofs.lemmas.Bool.{and_parts, eqb-true}
use Rattle.std.proofs.lemmas.Grind.{common_steps}
use Rattle.pr_words.specs.declared.nexus.Nexus.{Nexus}
use Rattle.pr_words.specs.Orders.{same_nexus, comes_before}

pub same_is : (a b : Nexus) → same_nexus a b ≡ true → a ≡ b
same_is a b e = grind (arith, common_steps, and_parts, eqb-true)

pub before_not_same : (a b : Nexus) → comes_before a b ≡ true → same_nexus a b ≡ false
before_not_same a b e = grind (arith, common_steps)

pub before_not_after : (a b : Nexus) → comes_before a b ≡ true → comes_before b a ≡ false
before_not_after a b e = grind (arith, common_steps)

pub after_not_same : (a b : Nexus) → comes_before a b ≡ true → same_nexus b a ≡ false
after_not_same a b e = grind (arith, common_steps)

pub neither : (a b : Nexus) → comes_before a b ≡ false → same_nexus a b ≡ false → comes_before b a ≡ true
neither a b e f = grind (arith, common_steps)

pub before_through : (a b c : Nexus) → comes_before a b ≡ true → comes_before b c ≡ true → comes_before a c ≡ true
before_through a b c e f = grind (arith, common_steps)

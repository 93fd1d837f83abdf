-- A wire that was lent comes back.
use Rattle.std.proofs.Common.{◌≡◌}
use Rattle.std.specs.Prelude.{Some}

pub same_name : {X : Type 0} (a b : X) → Some a ≡ Some b → a ≡ b
same_name a b is = cc

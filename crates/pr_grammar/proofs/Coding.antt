-- The table of operation codes has each byte once, and the lengths of the group codes.
use Rattle.std.proofs.Common.{◌≡◌, ℕ, ◌/◌, ◌==◌, Bool, true, false, cond, List, [], ◌∷◌, Option, Some, None, refl, sym, ap, ◌∙◌}
use Rattle.std.specs.List.{find}
use Rattle.std.proofs.lemmas.Bool.{eqb-true}
use Rattle.pr_grammar.specs.declared.operation.OperationCode.{OperationCode}
use Rattle.pr_grammar.specs.declared.operation.OperationCode.TheVariants as operations
use Rattle.pr_grammar.specs.Operations.{row_of, every_operation, operation_at, group_length, length_in, length_of}

-- what is found of some items passes the test
found_passes : {X : Type 0} (test : X → Bool) (xs : List X) (y : X) → find test xs ≡ Some y → test y ≡ true
found_passes test [] y is = absurd cc
found_passes test (x ∷ xs) y is = by (test x) refl is (found_passes test xs y)
  where
    by : (b : Bool) → test x ≡ b → cond b (Some x) (find test xs) ≡ Some y → (find test xs ≡ Some y → test y ≡ true) → test y ≡ true
    by true passes here behind = let same : x ≡ y = cc in ap test (sym same) ∙ passes
    by false passes there behind = behind there

pub found_has_its_byte : (op : ℕ) (o : OperationCode) → operation_at op ≡ Some o → (row_of o).byte ≡ op
found_has_its_byte op o is = eqb-true (row_of o).byte op (found_passes (λ p. (row_of p).byte == op) every_operation o is)

pub found_by_its_byte : (o : OperationCode) → operation_at (row_of o).byte ≡ Some o
found_by_its_byte operations.TestUnitReady = refl
found_by_its_byte operations.RequestSense = refl
found_by_its_byte operations.Inquiry = refl
found_by_its_byte operations.ReadCapacity10 = refl
found_by_its_byte operations.Read10 = refl
found_by_its_byte operations.Write10 = refl
found_by_its_byte operations.SynchronizeCache10 = refl
found_by_its_byte operations.ReserveIn = refl
found_by_its_byte operations.ReserveOut = refl
found_by_its_byte operations.Read16 = refl
found_by_its_byte operations.Write16 = refl
found_by_its_byte operations.ReadCapacity16 = refl
found_by_its_byte operations.ReportLuns = refl

row_of_its_group : (o : OperationCode) → (row_of o).size ≡ group_length ((row_of o).byte / 32)
row_of_its_group operations.TestUnitReady = refl
row_of_its_group operations.RequestSense = refl
row_of_its_group operations.Inquiry = refl
row_of_its_group operations.ReadCapacity10 = refl
row_of_its_group operations.Read10 = refl
row_of_its_group operations.Write10 = refl
row_of_its_group operations.SynchronizeCache10 = refl
row_of_its_group operations.ReserveIn = refl
row_of_its_group operations.ReserveOut = refl
row_of_its_group operations.Read16 = refl
row_of_its_group operations.Write16 = refl
row_of_its_group operations.ReadCapacity16 = refl
row_of_its_group operations.ReportLuns = refl

length_by : (op : ℕ) (found : Option OperationCode) → operation_at op ≡ found → length_in found op ≡ group_length (op / 32)
length_by op None is = refl
length_by op (Some o) is = row_of_its_group o ∙ ap (λ n. group_length (n / 32)) (found_has_its_byte op o is)

pub length_of_its_group : (op : ℕ) → length_of op ≡ group_length (op / 32)
length_of_its_group op = length_by op (operation_at op) refl

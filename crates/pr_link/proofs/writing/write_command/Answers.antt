use Rattle.std.proofs.Common.{◌≡◌, ℕ, ◌+◌, ◌-◌, List, ◌∷◌, ◌++◌, length, drop, ap, arith}
use Rattle.std.proofs.Math.ListN.{replicate}
use Rattle.std.proofs.lemmas.List.{drop-replicate}
use Rattle.pr_link.proofs.writing.write_command.Goals as goal

behind : (written cdb : List ℕ) → written ≡ cdb → written ++ drop (4 + length cdb - 4) (replicate 16 0) ≡ cdb ++ replicate (16 - length cdb) 0
behind written cdb same =
    let count : 4 + length cdb - 4 ≡ length cdb = omega arith in
    rw (same, count) (ap (λ (w : List ℕ). cdb ++ w) (drop-replicate (length cdb) 16 0))

pub returns : goal.returns
returns c = ap (λ (w : List ℕ). length c.args.cdb.now ∷ 0 ∷ 0 ∷ 0 ∷ w) (behind _ c.args.cdb.now c.copy_from_slice.ensures.after)

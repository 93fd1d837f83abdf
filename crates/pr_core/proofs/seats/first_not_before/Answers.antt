use Rattle.std.proofs.Common.{rules}
use Rattle.std.proofs.lemmas.List.Sorted.{IsPartitionPoint-from_clause}
use Rattle.pr_core.specs.Places.{is_earlier}
use Rattle.pr_core.proofs.SeatLaws.{parted}
use Rattle.pr_core.proofs.seats.first_not_before.Goals as goal

pub returns : goal.returns
returns c =
    let point = IsPartitionPoint-from_clause (is_earlier c.args.nexus) _ _ c.partition_point.ensures.partitioned (parted c.args.seats.now c.args.nexus c.requires) (λ a r q k. search rules) in
    record { within = c.partition_point.ensures.bound; below = point.0; above = point.1 }

use Rattle.pr_io.specs.declared.read_ahead.TheConstants.{PLACES}
use Rattle.pr_io.proofs.Following.{nothing_is_true, places_of}
use Rattle.pr_io.proofs.read_ahead.ReadAhead.new.Goals as goal

pub invariant_of-result : goal.invariant_of-result
invariant_of-result g c =
    record {
      room = c.in_ok-room_ahead.ensures;
      places = places_of PLACES c.in_ok-nothing_kept.field-0.items c.in_ok-nothing_kept.ensures;
      alike = nothing_is_true (g.M.Medium.contents c.args.medium) (g.M.Medium.count c.args.medium) PLACES c.in_ok-nothing_kept.field-0.items c.in_ok-room_ahead.field-0.bytes.items c.in_ok-nothing_kept.ensures;
    }

use Rattle.std.proofs.Common.{ℕ, sym, subst}
use Rattle.pr_io.specs.BlocksAhead.{IsTrueTo}
use Rattle.pr_io.proofs.read_ahead.ReadAheadMedium.write_block.Goals as goal

pub invariant_of-self : goal.invariant_of-self
invariant_of-self g c =
    record {
      room = c.follow.ensures.room;
      places = c.follow.ensures.places;
      alike = subst (λ (n : ℕ). IsTrueTo (g.M.Medium.contents c.write_block-written.new.self) n c.follow.new.pieces.items c.follow.new.ahead.bytes.items) (sym c.write_block-written.ensures.count)
          (c.follow.ensures.alike (g.M.Medium.contents c.args.self.now.medium) (g.M.Medium.contents c.write_block-written.new.self) (g.M.Medium.count c.args.self.now.medium) c.write_block-written.ensures.contents c.args.self.now.alike);
    }

pub invariant_of-self-in-Err : goal.invariant_of-self-in-Err
invariant_of-self-in-Err g c =
    record {
      room = c.follow.ensures.room;
      places = c.follow.ensures.places;
      alike = subst (λ (n : ℕ). IsTrueTo (g.M.Medium.contents c.write_block-written.new.self) n c.follow.new.pieces.items c.follow.new.ahead.bytes.items) (sym c.write_block-written.ensures.count)
          (c.follow.ensures.alike (g.M.Medium.contents c.args.self.now.medium) (g.M.Medium.contents c.write_block-written.new.self) (g.M.Medium.count c.args.self.now.medium) c.write_block-written.ensures.contents c.args.self.now.alike);
    }

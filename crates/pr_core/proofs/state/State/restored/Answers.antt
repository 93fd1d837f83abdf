use Rattle.std.proofs.Common.{◌≡◌, sym, subst}
use Rattle.pr_words.specs.declared.limits.TheConstants.{LIMIT}
use Rattle.pr_grammar.specs.Standings.{Standing}
use Rattle.pr_model.specs.Registrants.{IsWellFormed}
use Rattle.pr_model.specs.Worlds.{restored}
use Rattle.pr_table.specs.Tables.{standing_of}
use Rattle.pr_aptpl.specs.Doubts.{HavePorts}
use Rattle.pr_core.specs.Seats.{seat_of}
use Rattle.pr_core.proofs.Restoring.{restored_depicts, restored_seated, restored_fits, restored_owned, restored_ports}
use Rattle.pr_core.proofs.state.State.restored.Goals as goal

pub invariant_of-result : goal.invariant_of-result
invariant_of-result c =
    let f = seat_of c.in_ok-seats.seats in
    let ps = (standing_of c.in_ok-table.table).pairs in
    let standing : standing_of c.in_ok-table.table ≡ restored c.args.kept.now = c.in_ok-table.ensures.1 in
    let formed : IsWellFormed LIMIT (standing_of c.in_ok-table.table) = subst (IsWellFormed LIMIT) (sym standing) c.requires.keepable.formed in
    record {
      limit = c.in_ok-table.ensures.0;
      same_limit = c.in_ok-spare.ensures.0;
      within = formed.within;
      ascending = formed.ascending;
      keys = formed.keys;
      sound = formed.sound;
      seated = restored_seated f ps c.in_ok-seats.ensures.seat;
      ports = restored_ports f ps c.in_ok-seats.ensures.seat (subst (λ (s : Standing). HavePorts s.pairs) (sym standing) c.requires.keepable.ports);
      fits = restored_fits f ps c.in_ok-seats.ensures.seat c.args.blocks;
      owned = restored_owned f ps c.in_ok-seats.ensures.seat;
      some = c.requires.some;
      most = c.requires.most;
    }

pub returns-clause-depicts : goal.returns-clause-depicts
returns-clause-depicts c m tells count = restored_depicts _ c.args.kept.now m tells count c.in_ok-table.ensures.1 c.in_ok-seats.ensures.seat c.in_ok-seats.ensures.count

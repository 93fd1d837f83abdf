use Rattle.std.proofs.Common.{◌≡◌, ◌≤◌, length, vec_len}
use Rattle.pr_io.specs.Told.{told_streams}
use Rattle.pr_words.specs.declared.limits.TheConstants.{PIECE}
use Rattle.pr_session.specs.Driving.{AllAgree}
use Rattle.pr_tool.specs.Exits.{GoesOn}
use Rattle.pr_tool.specs.Lanes.{lanes_of}
use Rattle.pr_tool.proofs.Standing.{CarriesTold}
use Rattle.pr_tool.proofs.replay.run.Given as goal

abbrev pub invariant-records : goal.invariant-records
invariant-records g l =
    record {
      goes : GoesOn (length l.initial.lanes) l.budget l.left l.fn.opened l.core (told_streams g.S.Source g.K.Sink l.initial.source l.initial.sink) (told_streams g.S.Source g.K.Sink l.source l.sink) (lanes_of l.lanes);
      carries : CarriesTold (length l.initial.lanes) l.budget l.left (g.S.Source.rest l.initial.source) (g.S.Source.rest l.source);
      within : l.left ≤ l.budget;
      agree : AllAgree (lanes_of l.lanes) l.core;
      count : length l.lanes ≡ length l.initial.lanes;
      room : vec_len l.body ≡ PIECE;
    }

abbrev pub decreases-records : goal.decreases-records
decreases-records g l = l.left

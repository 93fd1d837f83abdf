use Rattle.std.proofs.Common.{◌≡◌, ◌≤◌, ◌<◌, ◌-◌, length, drop}
use Rattle.pr_model.specs.Lanes.{Dead, arrived}
use Rattle.pr_core.specs.View.{KeepsOthers}
use Rattle.pr_io.specs.Told.{told_sink}
use Rattle.pr_words.specs.declared.limits.TheConstants.{HELD}
use Rattle.pr_session.specs.Driving.{Agrees, left_of}
use Rattle.pr_tool.specs.Exits.{Ran}
use Rattle.pr_tool.specs.Lanes.{lane_of}
use Rattle.pr_tool.proofs.Running.{Makes_room, to_do}
use Rattle.pr_tool.proofs.replay.arrive.Given as goal

abbrev pub invariant-loop-at : goal.invariant-loop-at
invariant-loop-at g l =
    record {
      within : l.at ≤ length l.bytes;
      ran : Ran (Makes_room l.who l.bytes) (told_sink g.K.Sink l.initial.sink) (told_sink g.K.Sink l.sink) l.initial.core (lane_of l.fn.lane) l.core (arrived (lane_of l.lane) (drop l.at l.bytes));
      agrees : Agrees (lane_of l.lane).phase l.who l.core;
      others : KeepsOthers l.who l.initial.core l.core;
      full : l.at < length l.bytes → (length (lane_of l.lane).bytes ≡ HELD) × ((lane_of l.lane).phase ≡ Dead → ⊥);
      bound : length (lane_of l.lane).bytes ≤ HELD;
      calm : g.K.Sink.faults l.sink ≡ g.K.Sink.faults l.initial.sink;
    }

abbrev pub decreases-loop-at : goal.decreases-loop-at
decreases-loop-at g l = to_do (length l.bytes - l.at) (left_of (lane_of l.lane).phase)

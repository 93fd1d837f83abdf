-- The lanes of a schedule, as the definitions have them.
use Rattle.std.specs.Prelude.{ℕ, ◌<◌, ◌⊎◌, List, length, map}
use Rattle.pr_model.specs.Lanes as lanes
use Rattle.pr_session.specs.Sessions as sessions
use Rattle.pr_session.specs.Feeding.{fed}
use Rattle.pr_session.specs.Driving.{left_of}
use Rattle.pr_tool.specs.declared.lane.Lane.{Lane}

abbrev pub lane_of : Lane → lanes.Lane
lane_of l = sessions.lane_of l.session

abbrev pub lanes_of : List Lane → List lanes.Lane
lanes_of ls = map lane_of ls

-- there is room for more bytes, or less is left of the lane's task
abbrev pub Advances : lanes.Lane → lanes.Lane → Type 0
Advances l m = ((more : List ℕ) → 0 < length more → 0 < fed m more) ⊎ (left_of m.phase < left_of l.phase)

-- Turns of a session with a core, one after another.
use Rattle.std.specs.Prelude.{◌≡◌, ◌+◌, ◌*◌, ◌<◌, ℕ, List, ◌++◌, length}
use Rattle.pr_model.specs.Entries.{History}
use Rattle.pr_model.specs.Lanes.{Lane}
use Rattle.pr_model.specs.Sessions.{AreTurns}
use Rattle.pr_io.specs.declared.outside.Medium as media
use Rattle.pr_io.specs.declared.outside.Disk as disks
use Rattle.pr_words.specs.declared.limits.TheConstants.{DATA}
use Rattle.pr_core.specs.declared.target.Core.{Core}
use Rattle.pr_core.specs.View.{Extends}
use Rattle.pr_core.specs.Shared.{ArePowered}
use Rattle.pr_session.specs.declared.session.Session.{Session}
use Rattle.pr_session.specs.Sessions.{lane_of, reply_of}
use Rattle.pr_session.specs.Driving.{left_of}

-- what a lane has yet to do: its bytes, each of which counts more than the longest task, and the rest of its task
abbrev pub work_left : Lane → ℕ
work_left l = length l.bytes * (DATA + 2) + left_of l.phase

abbrev pub HasLessLeft : Lane → Lane → Type 0
HasLessLeft l m = work_left m < work_left l

-- some turns of a session were made under a number, by entries of the core; their replies wait behind the one that waited
pub record TakesTurns {M D : Type 0} {gm : media.Ghosts M} {gd : disks.Ghosts D} (who : ℕ) (old : Core M D gm gd) (s : Session) (new : Core M D gm gd) (t : Session) : Type 0 where
  pub turns : ℕ
  pub entries : History
  pub replies : List ℕ
  pub taken : AreTurns turns who (lane_of s) entries replies (lane_of t)
  pub said : reply_of t ≡ reply_of s ++ replies
  pub extends : Extends old new entries
  pub powered : ArePowered entries

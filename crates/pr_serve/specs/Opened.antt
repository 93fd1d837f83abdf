-- What a run of a target that serves did, from its opening on (this project's own).
use Rattle.std.specs.Prelude.{◌≡◌, ℕ, ◌+◌, List, [], length, Option, Some}
use Rattle.pr_grammar.specs.Files.{Keeps, file_head, file_layout, file_restores}
use Rattle.pr_io.specs.Images.{Image, Story}
use Rattle.pr_io.specs.Told.{ToldStreams, ToldSink}
use Rattle.pr_io.specs.declared.outside.Medium as media
use Rattle.pr_io.specs.declared.outside.Disk as disks
use Rattle.pr_model.specs.Entries.{Entry, History}
use Rattle.pr_gate.specs.Entries.{NamesBelow}
use Rattle.pr_aptpl.specs.Opens.{FailsAt, IsFaultOf}
use Rattle.pr_core.specs.declared.ground.Ground.{Ground}
use Rattle.pr_core.specs.Shared.{IsRightOn}
use Rattle.pr_session.specs.declared.session_end.SessionEnd.{SessionEnd}
use Rattle.pr_serve.specs.declared.exit.ServeExit.{ServeExit}
use Rattle.pr_serve.specs.declared.exit.ServeExit.TheVariants.{OpenFault}
use Rattle.pr_serve.specs.Connections.{AreServed, entries_of}
use Rattle.pr_serve.specs.Accepting.{ToldDoor, Took, EndsSo}

-- a target over a medium of so many blocks was opened, with what the disk's content restores, where a read is known to give that, and served just these connections, which ended so: its one history is right from its opening, and the entries of each number from 1 on are just those that the connection of that number asked for
pub record Served {M D : Type 0} (gm : media.Ghosts M) (gd : disks.Ghosts D) (content : Option Image) (blocks : ℕ) (before after : ToldDoor) (cs : List ToldStreams) (ends : List SessionEnd) (h : History) : Type 0 where
  pub ground : Ground
  pub over : ground.blocks ≡ blocks
  pub kept : (image : Image) → content ≡ Some image → file_restores image ≡ Keeps ground.kept
  pub right : IsRightOn gm gd ground h
  pub took : Took before after cs
  pub served : AreServed 1 cs ends h
  pub numbers : NamesBelow (λ (e : Entry). e.who) (1 + length cs) h
  pub none : entries_of 0 h ≡ []

-- a run ended so, by what door and sink tell before and afterwards. Where the target wasn't opened, that has its cause, by what the disk told and how often it had failed
abbrev pub Ran : {M D : Type 0} → media.Ghosts M → disks.Ghosts D → ServeExit → ℕ → Story → ℕ → ℕ → ToldDoor → ToldDoor → ℕ → ℕ → ToldSink → ToldSink → Type 0
Ran gm gd (OpenFault fault) many disk disk_faults blocks before after faults faults_now sink sink_now =
    (after ≡ before) × (sink_now ≡ sink) × FailsAt file_head file_layout fault disk × ((now : ℕ) × IsFaultOf fault disk_faults now)
Ran gm gd exit many disk disk_faults blocks before after faults faults_now sink sink_now =
    (cs : List ToldStreams) × (ends : List SessionEnd) × (h : History) × Served gm gd disk.now blocks before after cs ends h × EndsSo exit many (length cs) ends faults faults_now sink sink_now (length h)

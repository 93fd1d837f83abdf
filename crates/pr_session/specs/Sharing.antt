-- A session with a target that other threads use too (this project's own). It has the target for a turn at a time.
use Rattle.std.specs.Prelude.{◌≡◌, ℕ, List, [], ◌∷◌, ◌++◌, Option, Some}
use Rattle.pr_words.specs.declared.limits.TheConstants.{COMMAND_HEAD}
use Rattle.pr_model.specs.Entries.{History, entry}
use Rattle.pr_model.specs.Lanes.{Lane, Phase, Turn}
use Rattle.pr_model.specs.Runs.{Makes}
use Rattle.pr_io.specs.declared.outside.Medium as media
use Rattle.pr_io.specs.declared.outside.Disk as disks
use Rattle.pr_core.specs.declared.target.Core.{Core}
use Rattle.pr_core.specs.declared.ground.Ground.{Ground}
use Rattle.pr_core.specs.Shared.{Stands, AreOthers, ground_in}
use Rattle.pr_session.specs.declared.act.Out.{Out}
use Rattle.pr_session.specs.declared.asked.Asked.{Asked}
use Rattle.pr_session.specs.declared.asked.Asked.TheVariants.{Login, Command, Step, Logout, Reject}
use Rattle.pr_session.specs.declared.session.Session.{Session}
use Rattle.pr_session.specs.Acts.{act_by, outcome_by}
use Rattle.pr_session.specs.Asking.{nexus_in}
use Rattle.pr_session.specs.Coming.{Agrees}
use Rattle.pr_session.specs.Driving.{Does, IsReadyIn}

-- where in the work buffer the bytes stand that an act carries
abbrev pub sent_place : Asked → ℕ
sent_place (Login head n version) = 0
sent_place (Command head n cdb sent) = COMMAND_HEAD
sent_place (Step n j) = j.start
sent_place (Logout head n) = 0
sent_place (Reject n r) = 0

module _ {M D : Type 0} (gm : media.Ghosts M) (gd : disks.Ghosts D) where
  -- of each target with this ground that stands for these entries and others behind them, which other numbers made
  abbrev pub OnLater : Option Ground → ℕ → History → (Core M D gm gd → Type 0) → Type 0
  OnLater ground who seen Holds = (c : Core M D gm gd) (since : History) → ground ≡ Some (ground_in c) → Stands c (seen ++ since) → AreOthers who since → Holds c

  -- it will have what a lane has reached
  abbrev pub WillAgree : Phase → Option Ground → ℕ → History → Type 0
  WillAgree p ground who seen = OnLater ground who seen (Agrees p who)

  -- and what the act needs that is wanted
  abbrev pub WillBeReady : Session → Option Ground → ℕ → History → Type 0
  WillBeReady s ground who seen = OnLater ground who seen (λ c. IsReadyIn s c who)

  -- an act that was asked for was done in one turn, by just its entry, which was published: the target then stands for all that was seen
  pub record Publishes (a : Asked) (who : ℕ) (work : List ℕ) (out : Out) (left : List ℕ) (ground : Option Ground) (own own_now seen_now : History) : Type 0 where
    pub old : Core M D gm gd
    pub new : Core M D gm gd
    pub does : Does a who old work out new left
    pub ground_is : ground ≡ Some (ground_in new)
    pub stands : Stands new seen_now
    pub published : own_now ≡ own ++ entry who (nexus_in a) (act_by a work) (outcome_by a out left) ∷ []

-- a turn of a lane was made, and its entries were published
pub record Shares (who : ℕ) (own : History) (l : Lane) (t : Turn) (own_now : History) (m : Lane) (reply : List ℕ) : Type 0 where
  pub entries : History
  pub makes : Makes who l t entries reply m
  pub published : own_now ≡ own ++ entries

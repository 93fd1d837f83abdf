-- The known nexuses as the core holds them.
use Rattle.std.specs.Prelude.{◌≡◌, ℕ, List, [], ◌∷◌, length, Option, Some, None, is_some, drop, vec_len}
use Rattle.pr_words.specs.declared.nexus.Nexus.{Nexus}
use Rattle.pr_words.specs.declared.code.Code.{Code}
use Rattle.pr_words.specs.declared.code.TheConstants.Code.{POWER_ON}
use Rattle.pr_model.specs.Worlds.{Task, is_known}
use Rattle.pr_core.specs.declared.seats.Seat.{Seat}
use Rattle.pr_core.specs.declared.seats.Seats.{Seats}
use Rattle.pr_core.specs.Places.{seat_in}

-- crates above, and the core, cite these words and don't look into them

abbrev pub seat_of : Seats → Nexus → Option Seat
seat_of seats n = seat_in seats.items.items n

-- how many nexuses are known
abbrev pub count_of : Seats → ℕ
count_of seats = vec_len seats.items

-- a nexus that isn't known has the attention of the power-up
abbrev pub attentions_in : Option Seat → List Code
attentions_in None = POWER_ON ∷ []
attentions_in (Some s) = s.attentions

abbrev pub owner_in : Option Seat → Option ℕ
owner_in None = None
owner_in (Some s) = s.owner

abbrev pub task_in : Option Seat → Option Task
task_in None = None
task_in (Some s) = s.task

-- the seat of a nexus that the power-up made known
abbrev pub new_seat : Nexus → Seat
new_seat n = record { nexus = n; owner = None; attentions = POWER_ON ∷ []; task = None }

-- the seat after a login, a logout, and where its first attention was taken

abbrev pub logged_in : ℕ → Nexus → Option Seat → Seat
logged_in who n None = record { nexus = n; owner = Some who; attentions = POWER_ON ∷ []; task = None }
logged_in who n (Some s) = record { nexus = s.nexus; owner = Some who; attentions = s.attentions; task = s.task }

abbrev pub logged_out : Seat → Seat
logged_out s = record { nexus = s.nexus; owner = None; attentions = s.attentions; task = None }

abbrev pub told_first : Seat → Seat
told_first s = record { nexus = s.nexus; owner = s.owner; attentions = drop 1 s.attentions; task = s.task }

-- the list has the nexuses that have a seat, each once
pub record Lists (known : List Nexus) (seats : Seats) : Type 0 where
  pub count : length known ≡ count_of seats
  pub same : (n : Nexus) → is_known known n ≡ is_some (seat_of seats n)

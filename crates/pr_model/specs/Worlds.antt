-- The whole logical state of the target.
use Rattle.std.specs.Prelude.{ℕ, Bool, true, false, List, [], ◌∷◌, map, Option, None, if◌then◌else◌}
use Rattle.std.specs.List.{list_any}
use Rattle.pr_words.specs.declared.nexus.Nexus.{Nexus}
use Rattle.pr_words.specs.declared.nexus.Pair.{Pair}
use Rattle.pr_words.specs.declared.code.Code.{Code}
use Rattle.pr_words.specs.declared.task.Way.{Way}
use Rattle.pr_words.specs.declared.reservation.Reservation.TheVariants.{Free}
use Rattle.pr_words.specs.Orders.{same_nexus}
use Rattle.pr_words.specs.declared.code.TheConstants.Code.{POWER_ON}
use Rattle.pr_grammar.specs.Standings.{Standing}
use Rattle.pr_model.specs.Keeping.{Kept, Nothing, Some_kept}

-- what stands on the medium: how many logical blocks it has, whether a read is known to give what stands in a block, and the 512 bytes of each; None where nothing is known of them (SBC-3, logical blocks)
pub record Blocks : Type 0 where
  pub count : ℕ
  pub tells : Bool
  pub at : ℕ → Option (List ℕ)

-- a READ or WRITE under way: its first block, its number of blocks, and how many of them were moved
pub record Task : Type 0 where
  pub way : Way
  pub lba : ℕ
  pub count : ℕ
  pub done : ℕ
  pub aborted : Bool

-- the medium's blocks; whether a read of the registrations' file is known to give what it holds; the registrations and the reservation; the known nexuses in the order in which they became known; an owner is the number of the lane or pass that has a nexus logged in; doubts are what the file may hold instead of what is kept
pub record World : Type 0 where
  pub medium : Blocks
  pub file_tells : Bool
  pub standing : Standing
  pub known : List Nexus
  pub attentions : Nexus → List Code
  pub owner : Nexus → Option ℕ
  pub task : Nexus → Option Task
  pub doubts : List Kept

-- a map with another value at one nexus
abbrev pub set_at : {A : Type 0} → (Nexus → A) → Nexus → A → Nexus → A
set_at f n v = λ m. if same_nexus m n then v else f m

abbrev pub is_known : List Nexus → Nexus → Bool
is_known known n = list_any (same_nexus n) known

-- registrations and reservation after a power-up: what was kept, and generation 0 (SPC-4, preserving persistent reservations)
abbrev pub restored : Kept → Standing
restored Nothing = record { pairs = []; reservation = Free; generation = 0; preserve = false }
restored (Some_kept pairs reservation) = record { pairs = pairs; reservation = reservation; generation = 0; preserve = true }

-- the world after a power-up, over a medium and a file: nobody is logged in, and each nexus has the attention of the power-up (SAM-5, power on)
abbrev pub opened : Blocks → Bool → Kept → World
opened medium file_tells kept =
    record {
      medium = medium;
      file_tells = file_tells;
      standing = restored kept;
      known = map (λ (p : Pair). p.nexus) (restored kept).pairs;
      attentions = λ _. POWER_ON ∷ [];
      owner = λ _. None;
      task = λ _. None;
      doubts = [];
    }

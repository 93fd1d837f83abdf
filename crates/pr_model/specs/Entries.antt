-- Entries of a history: who did what under which nexus, and what came of it.
use Rattle.std.specs.Prelude.{ℕ, List, Option}
use Rattle.pr_words.specs.declared.nexus.Nexus.{Nexus}
use Rattle.pr_words.specs.declared.code.Code.{Code}
use Rattle.pr_words.specs.declared.code.Sense.{Sense}
use Rattle.pr_words.specs.declared.code.Status.{Status}
use Rattle.pr_words.specs.declared.task.Way.{Way}
use Rattle.pr_model.specs.Keeping.{Kept}

pub data Act : Type 0 where
  Login : (version : ℕ) → Act
  Command : (lun : ℕ) → (cdb data_out : List ℕ) → Act
  Step : (block : List ℕ) → Act
  Logout : Act
  Power : Act

pub data Out : Type 0 where
  Login_code : (code : ℕ) → Out
  Ended : (status : Status) → (sense : Option Sense) → (data_in : List ℕ) → Out
  Started : (way : Way) → Out
  Wrote : Out
  Read : (block : List ℕ) → Out
  Done : Out
  Aborted : Out
  Fault : (code : Code) → Out
  Left : Out
  Restored : (value : Kept) → Out

-- the number of the lane or pass that made it, the nexus, the act and its outcome
pub record Entry : Type 0 where
  pub who : ℕ
  pub nexus : Nexus
  pub act : Act
  pub out : Out

abbrev pub entry : ℕ → Nexus → Act → Out → Entry
entry who n act out = record { who = who; nexus = n; act = act; out = out }

-- power that was lost and has come back, with what was restored; it names no nexus
abbrev pub power_up : Kept → Entry
power_up value = entry 0 (record { name = 0; port = 0 }) Power (Restored value)

-- oldest first
abbrev pub History : Type 0
History = List Entry

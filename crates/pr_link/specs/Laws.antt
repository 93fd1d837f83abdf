-- Laws of the link's grammar (this project's own): frames have one spelling, which is read back, and what is written for
-- the other side keeps the rules that it checks.
use Rattle.std.specs.Prelude.{◌≡◌, ℕ, ◌<◌, ◌≤◌, ◌^◌, ◌++◌, true, Option, List, [], length, All}
use Rattle.pr_words.specs.declared.limits.TheConstants.{BODY, DATA}
use Rattle.pr_words.specs.declared.nexus.Nexus.{Nexus}
use Rattle.pr_words.specs.declared.nexus.Side.{Side}
use Rattle.pr_words.specs.declared.nexus.Side.TheVariants.{Target, Initiator}
use Rattle.pr_words.specs.declared.code.Sense.{Sense}
use Rattle.pr_words.specs.declared.code.Status.{Status}
use Rattle.pr_grammar.specs.Bodies.{login_body, login_version, login_nexus, command_head, command_cdb, command_data, login_reply, command_reply, reject, IsProperReply}
use Rattle.pr_grammar.specs.Frames.{Frame, Whole, frame, front, is_kind, is_body, spelled}

-- a frame that keeps the rules is found where it is spelled, whatever is behind it
abbrev pub WrittenIsRead : Type 0
WrittenIsRead =
    (side : Side) (f : Frame) (rest : List ℕ) → is_kind side f.kind ≡ true → is_body side f.kind f.body ≡ true → f.lun < 2 ^ 16 → f.tag < 2 ^ 32
    → length f.body ≤ BODY → front side (spelled f ++ rest) ≡ Whole f rest

-- bytes at whose front a frame is found are its spelling, and then what is behind it
abbrev pub ReadIsWritten : Type 0
ReadIsWritten =
    (side : Side) (bytes : List ℕ) (f : Frame) (rest : List ℕ) → All (λ b. b < 256) bytes → front side bytes ≡ Whole f rest → bytes ≡ spelled f ++ rest

-- frames with this body are found where they are spelled, with any LUN and tag, whatever is behind them
abbrev pub IsFound : Side → ℕ → List ℕ → Type 0
IsFound side kind body =
    (lun tag : ℕ) (rest : List ℕ) → lun < 2 ^ 16 → tag < 2 ^ 32
    → front side (spelled (frame kind lun tag body) ++ rest) ≡ Whole (frame kind lun tag body) rest

-- a body keeps the rules of the side that receives it
abbrev pub Keeps : Side → ℕ → List ℕ → Type 0
Keeps side kind body = (is_body side kind body ≡ true) × IsFound side kind body

-- what spells a Login keeps the target's rules, and its version and nexus are read back
abbrev pub LoginIsReadBack : Type 0
LoginIsReadBack =
    (version : ℕ) (n : Nexus) → n.port < 2 ^ 16 → n.name < 2 ^ 64
    → Keeps Target 0x01 (login_body version n) × (login_version (login_body version n) ≡ version) × (login_nexus (login_body version n) ≡ n)

-- what spells a Command keeps the target's rules, and its CDB and data-out are read back
abbrev pub CommandIsReadBack : Type 0
CommandIsReadBack =
    (cdb sent : List ℕ) → 1 ≤ length cdb → length cdb ≤ 16 → length sent ≤ DATA
    → Keeps Target 0x02 (command_head cdb ++ sent) × (command_cdb (command_head cdb ++ sent) ≡ cdb) × (command_data (command_head cdb ++ sent) ≡ sent)

-- what a target writes keeps the initiator's rules, by the four kinds: replies to Login, Command and Logout, and Reject
pub record RepliesKeepTheRules : Type 0 where
  pub logins : (code : ℕ) → Keeps Initiator 0x81 (login_reply code)
  pub commands : (s : Status) (sense : Option Sense) (data_in : List ℕ) → IsProperReply s sense data_in → Keeps Initiator 0x82 (command_reply s sense data_in)
  pub logouts : Keeps Initiator 0x83 []
  pub rejects : (reason place : ℕ) → Keeps Initiator 0xFF (reject reason place)

-- The work on one device (this project's own; the commands are SPC-4's).
use Rattle.std.specs.Prelude.{ℕ, Bool, List}
use Rattle.pr_words.specs.declared.nexus.Key.{Key}
use Rattle.pr_words.specs.declared.nexus.Nexus.{Nexus}
use Rattle.pr_fence.specs.declared.seeing.Sight.{Sight}
use Rattle.pr_fence.specs.Steps.{Work, Then, Unless, Where, Opens, Closes, Finds, Looks, Registers, Holds, Removes, Checks, Leaves}

-- on: its key is registered, and a reservation is held

abbrev pub HoldsAndCloses : Key → Work Unit
HoldsAndCloses own = Then (Holds own) (λ u. Closes)

abbrev pub Joins : Key → Bool → Work Unit
Joins own aptpl = Then (Registers own aptpl) (λ u. HoldsAndCloses own)

abbrev pub TurnsOn : List ℕ → Nexus → Key → Bool → Work Unit
TurnsOn address nexus own aptpl = Then (Opens address nexus) (λ u. Joins own aptpl)

-- off: what the victim's key has registered is removed, where it is there, and then it isn't there any more. The result is
-- whether it was

abbrev pub ChecksAndLeaves : Key → Bool → Work Bool
ChecksAndLeaves victim was = Then (Checks victim) (λ u. Leaves was)

abbrev pub Ousts : Key → Key → Bool → Work Bool
Ousts own victim was = Then (Where was (Removes own victim)) (λ u. ChecksAndLeaves victim was)

abbrev pub HoldsAndOusts : Key → Key → Bool → Work Bool
HoldsAndOusts own victim was = Then (Holds own) (λ u. Ousts own victim was)

abbrev pub JoinsAndOusts : Key → Key → Bool → Sight → Work Bool
JoinsAndOusts own victim aptpl sight = Then (Unless sight.own (Registers own aptpl)) (λ u. HoldsAndOusts own victim sight.victim)

abbrev pub LooksAndOusts : Nexus → Key → Key → Bool → Work Bool
LooksAndOusts nexus own victim aptpl = Then (Looks nexus own victim) (JoinsAndOusts own victim aptpl)

abbrev pub TurnsOff : List ℕ → Nexus → Key → Key → Bool → Work Bool
TurnsOff address nexus own victim aptpl = Then (Opens address nexus) (λ u. LooksAndOusts nexus own victim aptpl)

-- status: whether a key is registered

abbrev pub FindsAndLeaves : Key → Work Bool
FindsAndLeaves key = Then (Finds key) Leaves

abbrev pub TellsStatus : List ℕ → Nexus → Key → Work Bool
TellsStatus address nexus key = Then (Opens address nexus) (λ u. FindsAndLeaves key)

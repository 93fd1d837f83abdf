-- What a power loss may restore, and the save that comes before a command is answered (SPC-4, preserving persistent reservations; the save is this project's own).
use Rattle.std.specs.Prelude.{◌≡◌, ◌⊎◌, ◌&&◌, not, Bool, true, false, List, [], ◌∷◌, ◌++◌, Some, if◌then◌else◌}
use Rattle.pr_words.specs.declared.code.Status.TheVariants as status
use Rattle.pr_words.specs.declared.code.TheConstants.Code.{INTERNAL_TARGET_FAILURE}
use Rattle.pr_words.specs.declared.limits.TheConstants.{LIMIT}
use Rattle.pr_model.specs.Keeping.{Kept, kept, same_kepts, IsIn}
use Rattle.pr_model.specs.Attentions.{same_code}
use Rattle.pr_model.specs.Registrants.{IsWellFormed}
use Rattle.pr_model.specs.Worlds.{World, restored}
use Rattle.pr_model.specs.Entries.{Out, Ended, Restored}
use Rattle.pr_model.specs.Commands.{Answer, checking}

-- what a power loss may restore: what is kept, or one of the doubts
abbrev pub restorable : World → List Kept
restorable w = kept w.standing ∷ w.doubts

-- a power-up restores what a file may hold: well formed registrants; and one of these, where a read of the file is known to give what it holds
abbrev pub MayRestore : World → Out → Type 0
MayRestore w (Restored value) = IsWellFormed LIMIT (restored value) × (w.file_tells ≡ true → IsIn (restorable w) value)
MayRestore w _ = ⊥

-- a command asks for a save where it changes what may be restored: what is kept, or that there are doubts, which the save ends
abbrev pub asks_to_save : World → Answer → Bool
asks_to_save w a = not (same_kepts (restorable w) (restorable a.world))

abbrev pub tells_failure : Out → Bool
tells_failure (Ended status.CheckCondition (Some sense) data_in) = same_code sense.code INTERNAL_TARGET_FAILURE
tells_failure _ = false

-- the save that a command asked for has failed
abbrev pub is_unsaved : World → Answer → Out → Bool
is_unsaved w a out = tells_failure out && asks_to_save w a

-- then the command has changed nothing, but what it would have kept may be restored
abbrev pub doubted : World → Answer → World
doubted w a = record w { doubts = w.doubts ++ kept a.world.standing ∷ [] }

-- the world after a command, whose outcome tells whether its save failed
abbrev pub settled : World → Answer → Out → World
settled w a out = if is_unsaved w a out then doubted w a else a.world

-- a command ends as it is answered, or with a save that failed
abbrev pub MayAnswer : World → Answer → Out → Type 0
MayAnswer w a out = (out ≡ a.out) ⊎ ((asks_to_save w a ≡ true) × (out ≡ checking INTERNAL_TARGET_FAILURE))

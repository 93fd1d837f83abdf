-- Power that is lost at any moment, and what it then restores (SPC-4, preserving persistent reservations; this project's own).
use Rattle.std.specs.Prelude.{◌≡◌, ◌⊎◌, ℕ, ◌≤◌, List, [], ◌∷◌, Option, Some}
use Rattle.pr_grammar.specs.Files.{Restoration, Keeps, Bad, file_restores}
use Rattle.pr_model.specs.Keeping.{Kept, kept, IsIn}
use Rattle.pr_model.specs.Worlds.{World}
use Rattle.pr_model.specs.Entries.{History}
use Rattle.pr_model.specs.Saving.{restorable}
use Rattle.pr_model.specs.Histories.{moved, after}

-- a file's bytes, by their places
abbrev pub Bytes : Type 0
Bytes = ℕ → ℕ

-- a kept value, which is one of these
abbrev pub IsOneOf : List Kept → Restoration → Type 0
IsOneOf ks (Keeps k) = IsIn ks k
IsOneOf ks (Bad place) = ⊥

-- the bytes restore what may be restored in a world
abbrev pub Restores : World → Bytes → Type 0
Restores w bytes = IsOneOf (restorable w) (file_restores bytes)

-- the bytes restore what is kept in a world, and nothing else
abbrev pub RestoresKept : World → Bytes → Type 0
RestoresKept w bytes = file_restores bytes ≡ Keeps (kept w.standing)

-- so it is in a world, or after some of the entries that follow it
abbrev pub OnSome : (World → Bytes → Type 0) → World → History → Bytes → Type 0
OnSome Holds w [] bytes = Holds w bytes
OnSome Holds w (e ∷ es) bytes = Holds w bytes ⊎ OnSome Holds (moved w e) es bytes

-- each entry has a moment, none before the one of an earlier entry, from which on it is acknowledged: of whatever a power loss leaves since then it is so after the entry, or after later ones
abbrev pub AcknowledgedBy : (World → Bytes → Type 0) → (ℕ → Bytes → Type 0) → ℕ → ℕ → World → History → List ℕ → Type 0
AcknowledgedBy Holds may start end w [] [] = start ≤ end
AcknowledgedBy Holds may start end w (e ∷ es) (t ∷ ts) =
    (start ≤ t) × ((bytes : Bytes) → may t bytes → OnSome Holds (moved w e) es bytes) × AcknowledgedBy Holds may t end (moved w e) es ts
AcknowledgedBy Holds may start end w _ _ = ⊥

-- the moments of a history's entries, of a disk that tells what a read gives at its end and what a power loss at some moment since another may leave
pub record StampedBy (Holds : World → Bytes → Type 0) (now : Option Bytes) (may : ℕ → Bytes → Type 0) (start end : ℕ) (w : World) (h : History) (stamps : List ℕ) : Type 0 where
  pub since_start : (bytes : Bytes) → may start bytes → OnSome Holds w h bytes
  pub acknowledged : AcknowledgedBy Holds may start end w h stamps
  pub at_end : (bytes : Bytes) → may end bytes → Holds (after w h) bytes
  pub read : (bytes : Bytes) → now ≡ Some bytes → Holds (after w h) bytes

-- the same of what may be restored
abbrev pub RestoresSome : World → History → Bytes → Type 0
RestoresSome = OnSome Restores

abbrev pub AreAcknowledged : (ℕ → Bytes → Type 0) → ℕ → ℕ → World → History → List ℕ → Type 0
AreAcknowledged = AcknowledgedBy Restores

abbrev pub AreStamps : Option Bytes → (ℕ → Bytes → Type 0) → ℕ → ℕ → World → History → List ℕ → Type 0
AreStamps = StampedBy Restores

-- and of what is kept
abbrev pub KeepsSome : World → History → Bytes → Type 0
KeepsSome = OnSome RestoresKept

abbrev pub AreStampsOfKept : Option Bytes → (ℕ → Bytes → Type 0) → ℕ → ℕ → World → History → List ℕ → Type 0
AreStampsOfKept = StampedBy RestoresKept

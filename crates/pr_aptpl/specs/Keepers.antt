-- What a keeper stands for (this project's own).
use Rattle.std.specs.Prelude.{Bool, List, [], ◌∷◌, ◌++◌, is_some, Result, Ok, Err}
use Rattle.pr_grammar.specs.Standings.{Kept}
use Rattle.pr_grammar.specs.Files.{file_head, file_layout, file_restores}
use Rattle.pr_io.specs.Images.{Image, Story, Stays}
use Rattle.pr_io.specs.Spans.{Admits, Goes}
use Rattle.pr_io.specs.declared.outside.Disk as disks
use Rattle.pr_model.specs.Stamps.{IsOneOf}
use Rattle.pr_aptpl.specs.Slots.{Stands}
use Rattle.pr_aptpl.specs.Opens.{OpensAt}
use Rattle.pr_aptpl.specs.declared.keeper.Keeper.{Keeper}

-- what may be restored after a save: the new value alone, or after a failure also those before it
abbrev pub left_by : {T E : Type 0} → Result T E → List Kept → Kept → List Kept
left_by (Ok x) ks k = k ∷ []
left_by (Err e) ks k = ks ++ k ∷ []

module _ {D : Type 0} {of_disk : disks.Ghosts D} where
  abbrev pub disk_of : Keeper D of_disk → D
  disk_of k = k.disk

  abbrev pub story_of : Keeper D of_disk → Story
  story_of k = of_disk.story k.disk

  -- whether what a read of its disk gives is told
  abbrev pub is_told : Keeper D of_disk → Bool
  is_told k = is_some (story_of k).now

  -- the last save since the opening failed
  abbrev pub is_in_doubt : Keeper D of_disk → Bool
  is_in_doubt k = k.in_doubt

  -- all that the disk may hold restores one of these kept values, also whatever a save does to it next
  abbrev pub StandsFor : Keeper D of_disk → List Kept → Type 0
  StandsFor k ks = Stands file_head file_layout k.aim.target k.aim.turn k.aim.may_be_open (story_of k) ks

  -- a keeper over a disk that stood so, and changes nothing of it
  pub record Opens (old : Story) (k : Keeper D of_disk) (kept : Kept) : Type 0 where
    pub at : OpensAt file_head file_layout old (story_of k) k.aim kept
    pub stays : Stays old (story_of k)

  -- a save: at each moment one of those before it or the new one; in the end the new one alone, or after a failure any of them
  pub record Saves {T E : Type 0} (old new : Keeper D of_disk) (ks : List Kept) (k : Kept) (result : Result T E) : Type 0 where
    pub moments : Goes (story_of old) (story_of new) (λ c. IsOneOf (ks ++ k ∷ []) (file_restores c))
    pub at_end : (c : Image) → Admits (story_of new) c → IsOneOf (left_by result ks k) (file_restores c)
    pub stands : StandsFor new (left_by result ks k)

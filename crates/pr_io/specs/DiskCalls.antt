-- What a record of its calls tells of a disk in memory (this project's own).
use Rattle.std.specs.Prelude.{◌≡◌, ℕ, ◌+◌, ◌-◌, ◌≤◌, nat_le, nat_lt, Bool, true, false, not, ◌&&◌, ◌||◌, if◌then◌else◌, IsTrue, List, [], ◌∷◌, length, take, drop, slice_index, Some, refl}
use Rattle.std.specs.List.{list_any, list_all}
use Rattle.std.proofs.Common.{ap, sym, ◌∙◌}
use Rattle.std.proofs.Math.Nat.{le_refl, le_trans}
use Rattle.pr_io.specs.Blocks.{disk_size}
use Rattle.pr_io.specs.Images.{Image, Story, image_of}
use Rattle.pr_io.specs.declared.disk_call.DiskCall.{DiskCall}
use Rattle.pr_io.specs.declared.disk_call.DiskCall.TheVariants.{Write, Sync}

-- a sync that succeeded
abbrev pub is_sync : DiskCall → Bool
is_sync Sync = true
is_sync _ = false

-- a write to this place
abbrev pub covers : DiskCall → ℕ → Bool
covers (Write at was) i = nat_le at i && nat_lt i (at + length was.items)
covers _ i = false

-- there is a write to this place with no sync after it that succeeded
abbrev pub is_pending : List DiskCall → ℕ → Bool
is_pending [] i = false
is_pending (c ∷ cs) i = is_pending cs i || (covers c i && not (list_any is_sync cs))

-- what stood there before the call
abbrev pub undone : DiskCall → Image → Image
undone (Write at was) image = λ i. if covers (Write at was) i then slice_index was.items (i - at) else image i
undone _ image = image

abbrev pub before_all : List DiskCall → Image → Image
before_all [] image = image
before_all (c ∷ cs) image = undone c (before_all cs image)

-- what a power loss may leave after the first k calls, from what stands there after all of them
abbrev pub IsLeft : List DiskCall → Image → ℕ → Image → Type 0
IsLeft calls now k c = (i : ℕ) → is_pending (take k calls) i ≡ false → c i ≡ before_all (drop k calls) now i

-- and at some moment since this one
abbrev pub MayLeave : List DiskCall → Image → ℕ → Image → Type 0
MayLeave calls now t c = (k : ℕ) × (t ≤ k) × (k ≤ length calls) × IsLeft calls now k c

-- a moment is a number of calls
abbrev pub recorded : List ℕ → List DiskCall → Story
recorded bytes calls = record { now = Some (image_of bytes); moment = length calls; may = MayLeave calls (image_of bytes) }

-- the call's range lies on the disk
abbrev pub is_inside : DiskCall → Bool
is_inside (Write at was) = nat_le (at + length was.items) disk_size
is_inside _ = true

abbrev pub AreInside : List DiskCall → Type 0
AreInside calls = IsTrue (list_all is_inside calls)

pub since_before : (bytes : List ℕ) (calls : List DiskCall) (t u : ℕ) (c : Image) → t ≤ u → (recorded bytes calls).may u c → (recorded bytes calls).may t c
since_before bytes calls t u c le may = (may.0, le_trans le may.1, may.2, may.3)

drop_whole : (calls : List DiskCall) → drop (length calls) calls ≡ []
drop_whole [] = refl
drop_whole (c ∷ cs) = drop_whole cs

some_same : (a b : Image) → Some a ≡ Some b → b ≡ a
some_same a b e = cc

pub read_is_one : (bytes : List ℕ) (calls : List DiskCall) (c : Image) → (recorded bytes calls).now ≡ Some c → (recorded bytes calls).may (length calls) c
read_is_one bytes calls c now =
    let same : c ≡ image_of bytes = some_same (image_of bytes) c now in
    (length calls, le_refl (length calls), le_refl (length calls), λ i no. ap (λ (f : Image). f i) same ∙ ap (λ (l : List DiskCall). before_all l (image_of bytes) i) (sym (drop_whole calls)))

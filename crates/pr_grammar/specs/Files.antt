-- The registrations' file, version 1 (this project's own): a head, and two slots apart from it and from each other.
--
-- A slot has a gate (A5 is open, all else is closed), a turn (0 to 2), whether anything is kept (0 or 1), the type of the
-- reservation (0 where none is held), the number of registrations in two bytes, the holder's place among them in two bytes
-- (FFFF where not one nexus holds it), eight bytes that aren't looked at, and the registrations, of 18 bytes each: the
-- initiator's name in eight, the target port in two, the reservation key in eight. Numbers have the most significant byte first.
use Rattle.std.specs.Prelude.{ℕ, zero, suc, ◌+◌, ◌*◌, ◌==◌, nat_lt, ◌&&◌, ◌||◌, not, Bool, true, false, List, [], ◌∷◌, ◌++◌, length, drop, slice_index, Option, Some, None, is_some, if◌then◌else◌, get_or}
use Rattle.std.specs.Int.{w16, w64, to_be_bytes}
use Rattle.std.specs.List.{flat_map}
use Rattle.pr_words.specs.Fields.{number16_at, number64_at}
use Rattle.pr_words.specs.Kinds.{kind_at, kind_code}
use Rattle.pr_words.specs.Orders.{comes_before, same_nexus}
use Rattle.pr_words.specs.declared.nexus.Nexus.{Nexus}
use Rattle.pr_words.specs.declared.nexus.Pair.{Pair}
use Rattle.pr_words.specs.declared.reservation.Kind.{Kind}
use Rattle.pr_words.specs.declared.reservation.Reservation.{Reservation}
use Rattle.pr_words.specs.declared.reservation.Reservation.TheVariants.{Free, OfOne, OfAll}
use Rattle.pr_grammar.specs.Standings.{Kept, Nothing, Some_kept, is_all, is_port, kind_of, holder_of}
use Rattle.pr_grammar.specs.declared.file.FileLayout.{FileLayout}
use Rattle.pr_grammar.specs.declared.file.TheConstants.{FILE_LAYOUT}

-- ASCII PRKEEPER, and the version
abbrev pub file_head : List ℕ
file_head = 0x50 ∷ 0x52 ∷ 0x4B ∷ 0x45 ∷ 0x45 ∷ 0x50 ∷ 0x45 ∷ 0x52 ∷ 0x01 ∷ []

abbrev pub file_layout : FileLayout
file_layout = FILE_LAYOUT

-- the bytes of a slot with room for so many registrations: the gate, 15 more, and theirs
abbrev pub slot_size : ℕ → ℕ
slot_size limit = suc (15 + 18 * limit)

-- so many bytes of an image from a place on
unfoldable pub cut : (ℕ → ℕ) → ℕ → ℕ → List ℕ
cut image at zero = []
cut image at (suc n) = image at ∷ cut image (at + 1) n

-- the first of these bytes that doesn't stand where it has to, by its place
abbrev pub first_wrong : List ℕ → ℕ → (ℕ → ℕ) → Option ℕ
first_wrong [] at image = None
first_wrong (b ∷ bs) at image = if image at == b then first_wrong bs (at + 1) image else Some at

-- registrations, or the place of the first field that is wrong
pub data Listed : Type 0 where
  Good : (pairs : List Pair) → Listed
  Wrong : (place : ℕ) → Listed

abbrev pub put_first : Pair → Listed → Listed
put_first p (Good ps) = Good (p ∷ ps)
put_first p (Wrong place) = Wrong place

-- by ascending nexus
abbrev pub is_after : Option Nexus → Nexus → Bool
is_after None n = true
is_after (Some m) n = comes_before m n

-- the registration at the front of these bytes
abbrev pub first_pair : List ℕ → Pair
first_pair bytes = record { nexus = record { name = number64_at bytes 0; port = number16_at bytes 8 }; key = record { 0 = number64_at bytes 10 } }

-- a registration that stands at this place, before others: its port, its key, and that it stands in order
abbrev pub checked : Option Nexus → ℕ → Pair → Listed → Listed
checked before at p rest =
    if not (is_port p.nexus.port) then Wrong (at + 8) else
    if p.key.0 == 0 then Wrong (at + 10) else
    if not (is_after before p.nexus) then Wrong at else
    put_first p rest

-- so many registrations, the first of which stands at this place
abbrev pub listed : ℕ → Option Nexus → ℕ → List ℕ → Listed
listed zero before at bytes = Good []
listed (suc n) before at bytes = checked before at (first_pair bytes) (listed n (Some (first_pair bytes).nexus) (at + 18) (drop 18 bytes))

-- what a slot holds
pub data Slot : Type 0 where
  Closed : Slot
  Open : (turn : ℕ) → (kept : Kept) → Slot
  Broken : (place : ℕ) → Slot

abbrev pub nobody : Nexus
nobody = record { name = 0; port = 0 }

abbrev pub nexus_at : List Pair → ℕ → Nexus
nexus_at ps i = (get_or ps i (record { nexus = nobody; key = record { 0 = 0 } })).nexus

-- the reservation of a type, by the holder's place
abbrev pub reservation_at : Option Kind → ℕ → List Pair → Reservation
reservation_at None holder ps = Free
reservation_at (Some kind) holder ps = if is_all kind then OfAll kind else OfOne kind (nexus_at ps holder)

abbrev pub is_type : ℕ → Bool
is_type kind = kind == 0 || is_some (kind_at kind)

-- nothing kept has no registration, and each reservation has one
abbrev pub is_count : ℕ → Bool → ℕ → ℕ → Bool
is_count limit is_kept kind n = not (nat_lt limit n) && (is_kept || n == 0) && (kind == 0 || nat_lt 0 n)

-- a type that one nexus holds has the place of a registration
abbrev pub is_holder_place : Option Kind → ℕ → ℕ → Bool
is_holder_place None n holder = holder == 0xFFFF
is_holder_place (Some kind) n holder = if is_all kind then holder == 0xFFFF else nat_lt holder n

-- the first field of an open slot that is wrong, by its place in the slot: the rules in their order
abbrev pub field_fault : ℕ → ℕ → ℕ → ℕ → ℕ → ℕ → Option ℕ
field_fault limit turn is_kept kind n holder =
    if nat_lt 2 turn then Some 1 else
    if nat_lt 1 is_kept then Some 2 else
    if not (is_type kind && (is_kept == 1 || kind == 0)) then Some 3 else
    if not (is_count limit (is_kept == 1) kind n) then Some 4 else
    if not (is_holder_place (kind_at kind) n holder) then Some 6 else
    None

abbrev pub filled : ℕ → Bool → ℕ → ℕ → Listed → Slot
filled turn is_kept kind holder (Wrong place) = Broken place
filled turn is_kept kind holder (Good ps) = Open turn (if is_kept then Some_kept ps (reservation_at (kind_at kind) holder ps) else Nothing)

abbrev pub unless_broken : Option ℕ → ℕ → Slot → Slot
unless_broken (Some place) at s = Broken (at + place)
unless_broken None at s = s

-- an open slot by its fields, and the bytes behind them
abbrev pub by_fields : ℕ → ℕ → ℕ → ℕ → ℕ → ℕ → ℕ → List ℕ → Slot
by_fields limit at turn is_kept kind n holder rest =
    unless_broken (field_fault limit turn is_kept kind n holder) at (filled turn (is_kept == 1) kind holder (listed n None (at + 16) rest))

abbrev pub opened : ℕ → ℕ → List ℕ → Slot
opened limit at bytes =
    by_fields limit at (slice_index bytes 1) (slice_index bytes 2) (slice_index bytes 3) (number16_at bytes 4) (number16_at bytes 6) (drop 16 bytes)

-- the slot with these bytes, with room for so many registrations, at this place
unfoldable pub slot : ℕ → ℕ → List ℕ → Slot
slot limit at bytes = if slice_index bytes 0 == 0xA5 then opened limit at bytes else Closed

-- what an image restores: what was kept, or the place at which it first breaks the grammar
pub data Restoration : Type 0 where
  Keeps : (kept : Kept) → Restoration
  Bad : (place : ℕ) → Restoration

-- the turn that is one more, modulo 3
abbrev pub next_turn : ℕ → ℕ
next_turn zero = 1
next_turn (suc zero) = 2
next_turn (suc (suc n)) = 0

-- of two open slots the one with the next turn is current; the place is that of equal turns
abbrev pub both : ℕ → Slot → Slot → Restoration
both place (Broken p) s = Bad p
both place r (Broken p) = Bad p
both place Closed Closed = Keeps Nothing
both place (Open t k) Closed = Keeps k
both place Closed (Open u l) = Keeps l
both place (Open t k) (Open u l) = if t == u then Bad place else if next_turn u == t then Keeps k else Keeps l

abbrev pub place_of : FileLayout → Bool → ℕ
place_of l second = if second then l.slot1 else l.slot0

abbrev pub slot_at : FileLayout → Bool → (ℕ → ℕ) → Slot
slot_at l second image = slot l.limit (place_of l second) (cut image (place_of l second) (slot_size l.limit))

-- what the two slots restore
abbrev pub part : FileLayout → (ℕ → ℕ) → Restoration
part l image = both (l.slot1 + 1) (slot_at l false image) (slot_at l true image)

abbrev pub after_head : Option ℕ → Restoration → Restoration
after_head None r = r
after_head (Some place) r = Bad place

-- the head is looked at byte by byte, and then the slots
abbrev pub restores : List ℕ → FileLayout → (ℕ → ℕ) → Restoration
restores head l image = after_head (first_wrong head 0 image) (part l image)

abbrev pub file_restores : (ℕ → ℕ) → Restoration
file_restores image = restores file_head file_layout image

-- the spelling of a registration
abbrev pub spelled_pair : Pair → List ℕ
spelled_pair p = to_be_bytes w64 p.nexus.name ++ to_be_bytes w16 p.nexus.port ++ to_be_bytes w64 p.key.0

-- the first 16 bytes of an open slot
abbrev pub spelled_fields : ℕ → ℕ → ℕ → ℕ → ℕ → List ℕ
spelled_fields turn is_kept kind n holder =
    0xA5 ∷ turn ∷ is_kept ∷ kind ∷ (to_be_bytes w16 n ++ to_be_bytes w16 holder ++ (0 ∷ 0 ∷ 0 ∷ 0 ∷ 0 ∷ 0 ∷ 0 ∷ 0 ∷ []))

-- the number of the held type, 0 where none is held
abbrev pub type_code : Option Kind → ℕ
type_code None = 0
type_code (Some kind) = kind_code kind

-- a nexus's place among registrations; their number where it isn't registered
abbrev pub place_in : List Pair → Nexus → ℕ
place_in [] n = 0
place_in (p ∷ ps) n = if same_nexus p.nexus n then 0 else suc (place_in ps n)

-- the place of the one nexus that holds
abbrev pub holder_place : Option Nexus → List Pair → ℕ
holder_place None ps = 0xFFFF
holder_place (Some holder) ps = place_in ps holder

-- the spelling of an open slot
abbrev pub spelled_slot : ℕ → Kept → List ℕ
spelled_slot turn Nothing = spelled_fields turn 0 0 0 0xFFFF
spelled_slot turn (Some_kept ps r) = spelled_fields turn 1 (type_code (kind_of r)) (length ps) (holder_place (holder_of r) ps) ++ flat_map spelled_pair ps

-- The data of PERSISTENT RESERVE IN (SPC-4).
use Rattle.std.specs.Prelude.{ℕ, zero, suc, ◌+◌, ◌*◌, ◌/◌, ◌%◌, ◌==◌, ◌^◌, ◌<◌, ◌≤◌, nat_lt, not, Bool, true, false, List, [], ◌∷◌, ◌++◌, length, drop, slice_index, map, All, Option, Some, None, Result, Ok, Err, if◌then◌else◌}
use Rattle.std.specs.List.{flat_map}
use Rattle.std.specs.Int.{w16, w32, w64, to_be_bytes}
use Rattle.pr_words.specs.Fields.{number16_at, number32_at, number64_at}
use Rattle.pr_words.specs.Kinds.{kind_code}
use Rattle.pr_words.specs.Orders.{same_nexus}
use Rattle.pr_words.specs.declared.nexus.Nexus.{Nexus}
use Rattle.pr_words.specs.declared.nexus.Key.{Key}
use Rattle.pr_words.specs.declared.nexus.Pair.{Pair}
use Rattle.pr_words.specs.declared.reservation.Kind.{Kind}
use Rattle.pr_words.specs.declared.limits.TheConstants.{REPORTABLE}
use Rattle.pr_grammar.specs.Standings.{Standing, kind_of, holder_of}
use Rattle.pr_grammar.specs.Cdbs.{bit}
use Rattle.pr_grammar.specs.declared.param.ReplyFault.{ReplyFault}
use Rattle.pr_grammar.specs.declared.param.ReplyFault.TheVariants.{BadLength, Cut}
use Rattle.pr_grammar.specs.declared.param.Held.{Held}
use Rattle.pr_grammar.specs.declared.param.Capabilities.{Capabilities}
use Rattle.pr_grammar.specs.declared.param.FullEntry.{FullEntry}

-- READ KEYS (SPC-4)

abbrev pub key_bytes : Pair → List ℕ
key_bytes p = to_be_bytes w64 p.key.0

-- READ KEYS: PRGENERATION, ADDITIONAL LENGTH, and a key for each registration
abbrev pub keys_reply : Standing → List ℕ
keys_reply s = to_be_bytes w32 s.generation ++ to_be_bytes w32 (8 * length s.pairs) ++ flat_map key_bytes s.pairs

-- READ RESERVATION (SPC-4)

-- the key of a nexus, zero where it isn't registered
abbrev pub key_at : List Pair → Nexus → ℕ
key_at [] n = 0
key_at (p ∷ ps) n = if same_nexus p.nexus n then p.key.0 else key_at ps n

-- ADDITIONAL LENGTH, the holder's key, obsolete and reserved zeros, and the type in the scope of the logical unit
abbrev pub held_bytes : ℕ → Kind → List ℕ
held_bytes key kind =
    to_be_bytes w32 16 ++ to_be_bytes w64 key ++ (0 ∷ 0 ∷ 0 ∷ 0 ∷ 0 ∷ kind_code kind ∷ 0 ∷ 0 ∷ [])

-- what stands behind PRGENERATION, by the type that is held and its one holder; where all registrants hold, the key is zero
abbrev pub reservation_part : List Pair → Option Kind → Option Nexus → List ℕ
reservation_part pairs None holder = to_be_bytes w32 0
reservation_part pairs (Some kind) None = held_bytes 0 kind
reservation_part pairs (Some kind) (Some holder) = held_bytes (key_at pairs holder) kind

abbrev pub reservation_reply : Standing → List ℕ
reservation_reply s =
    to_be_bytes w32 s.generation ++ reservation_part s.pairs (kind_of s.reservation) (holder_of s.reservation)

-- REPORT CAPABILITIES (SPC-4): length 8; PTPL_C; TMV, and PTPL_A as the preserve flag; the mask of the six types

abbrev pub capabilities_reply : Standing → List ℕ
capabilities_reply s = 0 ∷ 8 ∷ 0x01 ∷ (0x80 + bit s.preserve) ∷ 0xEA ∷ 0x01 ∷ 0 ∷ 0 ∷ []

-- READ FULL STATUS (SPC-4)

-- whether a registered nexus holds, by the type that is held and its one holder
abbrev pub holds : Option Kind → Option Nexus → Nexus → Bool
holds None holder n = false
holds (Some kind) None n = true
holds (Some kind) (Some holder) n = same_nexus holder n

-- the type in the scope of the logical unit where the nexus holds, else zero (this project's own)
abbrev pub type_byte : Option Kind → Option Nexus → Nexus → ℕ
type_byte None holder n = 0
type_byte (Some kind) None n = kind_code kind
type_byte (Some kind) (Some holder) n = if same_nexus holder n then kind_code kind else 0

-- key, R_HOLDER, type, RELATIVE TARGET PORT IDENTIFIER, ADDITIONAL DESCRIPTOR LENGTH, and the name as the SAS
-- TransportID has it (this project's own choice of a protocol)
abbrev pub descriptor : Option Kind → Option Nexus → Pair → List ℕ
descriptor kind holder p =
    to_be_bytes w64 p.key.0
    ++ (0 ∷ 0 ∷ 0 ∷ 0 ∷ bit (holds kind holder p.nexus) ∷ type_byte kind holder p.nexus ∷ 0 ∷ 0 ∷ 0 ∷ 0 ∷ [])
    ++ to_be_bytes w16 p.nexus.port ++ (0 ∷ 0 ∷ 0 ∷ 24 ∷ 6 ∷ 0 ∷ 0 ∷ 0 ∷ []) ++ to_be_bytes w64 p.nexus.name
    ++ (0 ∷ 0 ∷ 0 ∷ 0 ∷ 0 ∷ 0 ∷ 0 ∷ 0 ∷ 0 ∷ 0 ∷ 0 ∷ 0 ∷ [])

-- PRGENERATION, ADDITIONAL LENGTH, and a descriptor for each registration
abbrev pub full_reply : Standing → List ℕ
full_reply s =
    to_be_bytes w32 s.generation ++ to_be_bytes w32 (48 * length s.pairs)
    ++ flat_map (descriptor (kind_of s.reservation) (holder_of s.reservation)) s.pairs

-- Reading replies that weren't truncated: reserved and obsolete bytes, and bytes behind the reply, are ignored

-- what READ KEYS tells
pub record KeyList : Type 0 where
  pub generation : ℕ
  pub keys : List Key

-- so many keys from the front of the bytes
abbrev pub keys_from : ℕ → List ℕ → List Key
keys_from zero bytes = []
keys_from (suc n) bytes = record { 0 = number64_at bytes 0 } ∷ keys_from n (drop 8 bytes)

-- by ADDITIONAL LENGTH, which is a multiple of 8
abbrev pub keys_sized : ℕ → List ℕ → Result KeyList ReplyFault
keys_sized n bytes =
    if not (n % 8 == 0) then Err (BadLength 4 n) else
    if nat_lt (length bytes) (8 + n) then Err (Cut (length bytes)) else
    Ok (record { generation = number32_at bytes 0; keys = keys_from (n / 8) (drop 8 bytes) })

abbrev pub read_keys : List ℕ → Result KeyList ReplyFault
read_keys bytes =
    if nat_lt (length bytes) 8 then Err (Cut (length bytes)) else keys_sized (number32_at bytes 4) bytes

-- by ADDITIONAL LENGTH, which is 0 where none is held, else 10h
abbrev pub reservation_sized : ℕ → List ℕ → Result Held ReplyFault
reservation_sized n bytes =
    if n == 0 then Ok (record { generation = number32_at bytes 0; held = None }) else
    if not (n == 16) then Err (BadLength 4 n) else
    if nat_lt (length bytes) 24 then Err (Cut (length bytes)) else
    Ok (record {
      generation = number32_at bytes 0;
      held = Some (record { 0 = number64_at bytes 8 }, slice_index bytes 21);
    })

abbrev pub read_reservation : List ℕ → Result Held ReplyFault
read_reservation bytes =
    if nat_lt (length bytes) 8 then Err (Cut (length bytes)) else reservation_sized (number32_at bytes 4) bytes

-- the length in the first two bytes is 8
abbrev pub read_capabilities : List ℕ → Result Capabilities ReplyFault
read_capabilities bytes =
    if nat_lt (length bytes) 2 then Err (Cut (length bytes)) else
    if not (number16_at bytes 0 == 8) then Err (BadLength 0 (number16_at bytes 0)) else
    if nat_lt (length bytes) 8 then Err (Cut (length bytes)) else
    Ok (record { flags = slice_index bytes 2; more = slice_index bytes 3; mask = number16_at bytes 4 })

-- what READ FULL STATUS tells
pub record FullList : Type 0 where
  pub generation : ℕ
  pub entries : List FullEntry

-- the descriptor at the front of the bytes
abbrev pub entry_of : List ℕ → FullEntry
entry_of bytes = record {
  key = record { 0 = number64_at bytes 0 };
  holder = slice_index bytes 12 % 2 == 1;
  kind = slice_index bytes 13;
  nexus = record { name = number64_at bytes 28; port = number16_at bytes 18 };
}

-- so many descriptors from the front of the bytes
abbrev pub entries_from : ℕ → List ℕ → List FullEntry
entries_from zero bytes = []
entries_from (suc n) bytes = entry_of bytes ∷ entries_from n (drop 48 bytes)

-- the first of the descriptors from a place on whose ADDITIONAL DESCRIPTOR LENGTH is there and isn't 24
abbrev pub first_odd : ℕ → ℕ → List ℕ → Option ReplyFault
first_odd zero place bytes = None
first_odd (suc n) place bytes =
    if nat_lt (length bytes) (place + 24) then None else
    if number32_at bytes (place + 20) == 24 then first_odd n (place + 48) bytes else
    Some (BadLength (place + 20) (number32_at bytes (place + 20)))

-- the descriptors are looked at once ADDITIONAL LENGTH is right
abbrev pub entries_sized : Option ReplyFault → ℕ → List ℕ → Result FullList ReplyFault
entries_sized (Some fault) n bytes = Err fault
entries_sized None n bytes =
    if nat_lt (length bytes) (8 + n) then Err (Cut (length bytes)) else
    Ok (record { generation = number32_at bytes 0; entries = entries_from (n / 48) (drop 8 bytes) })

-- by ADDITIONAL LENGTH, which is a multiple of 48; each ADDITIONAL DESCRIPTOR LENGTH is 24 (this project's own profile)
abbrev pub full_sized : ℕ → List ℕ → Result FullList ReplyFault
full_sized n bytes =
    if not (n % 48 == 0) then Err (BadLength 4 n) else entries_sized (first_odd (n / 48) 8 bytes) n bytes

abbrev pub read_full : List ℕ → Result FullList ReplyFault
read_full bytes =
    if nat_lt (length bytes) 8 then Err (Cut (length bytes)) else full_sized (number32_at bytes 4) bytes

-- What a reader finds in a reply of a standing

-- each number of a standing fits its field
abbrev pub FitsPair : Pair → Type 0
FitsPair p = (p.key.0 < 2 ^ 64) × (p.nexus.name < 2 ^ 64) × (p.nexus.port < 2 ^ 16)

abbrev pub FitsReplies : Standing → Type 0
FitsReplies s = (s.generation < 2 ^ 32) × (length s.pairs ≤ REPORTABLE) × All FitsPair s.pairs

abbrev pub listed_keys : Standing → KeyList
listed_keys s = record { generation = s.generation; keys = map (λ (p : Pair). p.key) s.pairs }

abbrev pub told_held : List Pair → Option Kind → Option Nexus → Option (Key × ℕ)
told_held pairs None holder = None
told_held pairs (Some kind) None = Some (record { 0 = 0 }, kind_code kind)
told_held pairs (Some kind) (Some holder) = Some (record { 0 = key_at pairs holder }, kind_code kind)

abbrev pub told_reservation : Standing → Held
told_reservation s =
    record { generation = s.generation; held = told_held s.pairs (kind_of s.reservation) (holder_of s.reservation) }

abbrev pub told_capabilities : Standing → Capabilities
told_capabilities s = record { flags = 0x01; more = 0x80 + bit s.preserve; mask = 0xEA01 }

abbrev pub told_entry : Option Kind → Option Nexus → Pair → FullEntry
told_entry kind holder p =
    record { key = p.key; holder = holds kind holder p.nexus; kind = type_byte kind holder p.nexus; nexus = p.nexus }

abbrev pub listed_entries : Standing → FullList
listed_entries s = record {
  generation = s.generation;
  entries = map (told_entry (kind_of s.reservation) (holder_of s.reservation)) s.pairs;
}

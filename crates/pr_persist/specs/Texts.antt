-- What is printed (after sg_persist; the lines are this project's own).
use Rattle.std.specs.Prelude.{ℕ, ◌/◌, ◌%◌, ◌==◌, ◌&&◌, nat_le, Bool, List, [], ◌∷◌, ◌++◌, length, map, slice_range, Option, Some, None, codes, decimal, if◌then◌else◌}
use Rattle.std.specs.List.{concat, flat_map}
use Rattle.std.specs.Int.{w16, w64, to_be_bytes}
use Rattle.hex.specs.Hex.{encode_lower}
use Rattle.pr_words.specs.declared.nexus.Key.{Key}
use Rattle.pr_grammar.specs.declared.param.Capabilities.{Capabilities}
use Rattle.pr_grammar.specs.declared.param.FullEntry.{FullEntry}
use Rattle.pr_grammar.specs.declared.param.Held.{Held}
use Rattle.pr_grammar.specs.InReplies.{KeyList, FullList}

abbrev pub line_end : List ℕ
line_end = 0x0A ∷ []

-- lower-case digits with no zero in front, unless it is the only one
abbrev pub without_zeros : List ℕ → List ℕ
without_zeros [] = []
without_zeros (d ∷ []) = d ∷ []
without_zeros (d ∷ e ∷ rest) = if d == 48 then without_zeros (e ∷ rest) else d ∷ e ∷ rest

unfoldable pub hex_word : ℕ → List ℕ
hex_word n = without_zeros (encode_lower (to_be_bytes w64 n))

-- a number in hexadecimal, between two texts
abbrev pub numbered : List ℕ → ℕ → List ℕ → List ℕ
numbered before number behind = concat (before ∷ hex_word number ∷ behind ∷ [])

-- READ KEYS

abbrev pub keys_head : ℕ → ℕ → List ℕ
keys_head generation count =
    if count == 0 then numbered (codes "  PR generation=0x") generation (codes ", there are NO registered reservation keys" ++ line_end) else
    if count == 1 then numbered (codes "  PR generation=0x") generation (codes ", 1 registered reservation key follows:" ++ line_end) else
    concat (codes "  PR generation=0x" ∷ hex_word generation ∷ codes ", " ∷ decimal count ∷ (codes " registered reservation keys follow:" ++ line_end) ∷ [])

abbrev pub key_line : Key → List ℕ
key_line key = numbered (codes "    0x") key.0 line_end

abbrev pub keys_text : KeyList → List ℕ
keys_text l = keys_head l.generation (length l.keys) ++ flat_map key_line l.keys

-- READ RESERVATION

-- the names of the types (SPC-4)
abbrev pub kind_name : ℕ → Option (List ℕ)
kind_name kind =
    if kind == 1 then Some (codes "Write Exclusive") else
    if kind == 3 then Some (codes "Exclusive Access") else
    if kind == 5 then Some (codes "Write Exclusive, registrants only") else
    if kind == 6 then Some (codes "Exclusive Access, registrants only") else
    if kind == 7 then Some (codes "Write Exclusive, all registrants") else
    if kind == 8 then Some (codes "Exclusive Access, all registrants") else
    None

abbrev pub scope_with : ℕ → ℕ → Option (List ℕ) → List ℕ
scope_with scope kind (Some name) = concat (codes "    scope: " ∷ decimal scope ∷ codes ", type: " ∷ name ∷ line_end ∷ [])
scope_with scope kind None = concat (codes "    scope: " ∷ decimal scope ∷ codes ", type: unknown " ∷ hex_word kind ∷ line_end ∷ [])

abbrev pub scope_line : ℕ → ℕ → List ℕ
scope_line scope kind = scope_with scope kind (kind_name kind)

abbrev pub holding_lines : Key → ℕ → List ℕ
holding_lines key byte = numbered (codes "    Key=0x") key.0 line_end ++ scope_line (byte / 16) (byte % 16)

abbrev pub held_by : ℕ → Option (Key × ℕ) → List ℕ
held_by generation None = numbered (codes "  PR generation=0x") generation (codes ", there is NO reservation held" ++ line_end)
held_by generation (Some held) =
    numbered (codes "  PR generation=0x") generation (codes ", Reservation follows:" ++ line_end) ++ holding_lines held.0 held.1

abbrev pub held_text : Held → List ℕ
held_text h = held_by h.generation h.held

-- REPORT CAPABILITIES

abbrev pub capabilities_text : Capabilities → List ℕ
capabilities_text c =
    concat (codes "  Capabilities: 0x" ∷ encode_lower (c.flags ∷ []) ∷ codes " 0x" ∷ encode_lower (c.more ∷ []) ∷ codes ", type mask 0x" ∷ encode_lower (to_be_bytes w16 c.mask) ∷ line_end ∷ [])

-- READ FULL STATUS

abbrev pub full_head : ℕ → ℕ → List ℕ
full_head generation count = concat (codes "  PR generation=0x" ∷ hex_word generation ∷ codes ", " ∷ decimal count ∷ (codes " registrations" ++ line_end) ∷ [])

abbrev pub nexus_part : FullEntry → List ℕ
nexus_part e =
    concat (codes "    Key=0x" ∷ hex_word e.key.0 ∷ codes " name=" ∷ encode_lower (to_be_bytes w64 e.nexus.name) ∷ codes " port=" ∷ decimal e.nexus.port ∷ [])

-- the type stands where the nexus holds the reservation
abbrev pub holder_part : Bool → ℕ → List ℕ
holder_part holder kind = if holder then numbered (codes " holder type=") (kind % 16) line_end else concat (line_end ∷ [])

abbrev pub full_line : FullEntry → List ℕ
full_line e = nexus_part e ++ holder_part e.holder e.kind

abbrev pub full_text : FullList → List ℕ
full_text l = full_head l.generation (length l.entries) ++ flat_map full_line l.entries

-- the standard data of INQUIRY: vendor, product and revision, in 28 bytes from the ninth on (SPC-4)

abbrev pub shown_byte : ℕ → ℕ
shown_byte b = if nat_le 0x20 b && nat_le b 0x7E then b else 0x2E

abbrev pub columns_of : List ℕ → List ℕ
columns_of bytes = map shown_byte (slice_range bytes 8 36)

abbrev pub columns_line : List ℕ → List ℕ
columns_line columns = concat (codes "  " ∷ slice_range columns 0 8 ∷ codes "  " ∷ slice_range columns 8 24 ∷ codes "  " ∷ slice_range columns 24 28 ∷ line_end ∷ [])

abbrev pub inquiry_line : List ℕ → List ℕ
inquiry_line bytes = columns_line (columns_of bytes)

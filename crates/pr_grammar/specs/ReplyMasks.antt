-- Which bits of which byte of the data of PERSISTENT RESERVE IN a reader looks at, and the spelling of what it finds (SPC-4).
use Rattle.std.specs.Prelude.{◌≡◌, ℕ, ◌*◌, ◌<◌, List, [], ◌∷◌, ◌++◌, length, replicate, All, Option, Some, None, Result, Ok}
use Rattle.std.specs.List.{flat_map}
use Rattle.std.specs.Int.{w16, w32, w64, to_be_bytes}
use Rattle.pr_words.specs.declared.nexus.Key.{Key}
use Rattle.pr_grammar.specs.declared.param.ReplyFault.{ReplyFault}
use Rattle.pr_grammar.specs.declared.param.Held.{Held}
use Rattle.pr_grammar.specs.declared.param.Capabilities.{Capabilities}
use Rattle.pr_grammar.specs.declared.param.FullEntry.{FullEntry}
use Rattle.pr_grammar.specs.Cdbs.{bit}
use Rattle.pr_grammar.specs.InReplies.{KeyList, FullList}
use Rattle.pr_grammar.specs.Masks.{masked}

-- a reply that is read, with its ignored places zeroed, is the spelling of what was read
abbrev pub IsSpelled : {A : Type 0} → (List ℕ → Result A ReplyFault) → (A → List ℕ) → (A → List ℕ) → Type 0
IsSpelled {A = A} read mask spelled =
    (bytes : List ℕ) (told : A) → All (λ b. b < 256) bytes → read bytes ≡ Ok told → masked (mask told) bytes ≡ spelled told

-- READ KEYS: no place is ignored
abbrev pub key_mask : Key → List ℕ
key_mask key = replicate 8 0xFF

abbrev pub keys_mask : KeyList → List ℕ
keys_mask told = replicate 8 0xFF ++ flat_map key_mask told.keys

abbrev pub spelled_key : Key → List ℕ
spelled_key key = to_be_bytes w64 key.0

abbrev pub spelled_keys : KeyList → List ℕ
spelled_keys told =
    to_be_bytes w32 told.generation ++ to_be_bytes w32 (8 * length told.keys) ++ flat_map spelled_key told.keys

-- READ RESERVATION: where one is held, its key, and scope and type
abbrev pub held_mask : Option (Key × ℕ) → List ℕ
held_mask None = replicate 8 0xFF
held_mask (Some held) = replicate 16 0xFF ++ (0 ∷ 0 ∷ 0 ∷ 0 ∷ 0 ∷ 0xFF ∷ 0 ∷ 0 ∷ [])

abbrev pub reservation_mask : Held → List ℕ
reservation_mask told = held_mask told.held

abbrev pub spelled_held : Option (Key × ℕ) → List ℕ
spelled_held None = to_be_bytes w32 0
spelled_held (Some held) =
    to_be_bytes w32 16 ++ to_be_bytes w64 held.0.0 ++ (0 ∷ 0 ∷ 0 ∷ 0 ∷ 0 ∷ held.1 ∷ 0 ∷ 0 ∷ [])

abbrev pub spelled_reservation : Held → List ℕ
spelled_reservation told = to_be_bytes w32 told.generation ++ spelled_held told.held

-- REPORT CAPABILITIES: all but the two reserved bytes at the end, and each bit of the others as it stands
abbrev pub capabilities_mask : Capabilities → List ℕ
capabilities_mask told = 0xFF ∷ 0xFF ∷ 0xFF ∷ 0xFF ∷ 0xFF ∷ 0xFF ∷ 0 ∷ 0 ∷ []

abbrev pub spelled_capabilities : Capabilities → List ℕ
spelled_capabilities told =
    to_be_bytes w16 8 ++ (told.flags ∷ told.more ∷ []) ++ to_be_bytes w16 told.mask ++ (0 ∷ 0 ∷ [])

-- a descriptor of READ FULL STATUS: key; R_HOLDER; scope and type; RELATIVE TARGET PORT IDENTIFIER and
-- ADDITIONAL DESCRIPTOR LENGTH; of the TransportID the name in the SAS layout
abbrev pub entry_mask : FullEntry → List ℕ
entry_mask entry =
    replicate 8 0xFF ++ (0 ∷ 0 ∷ 0 ∷ 0 ∷ 0x01 ∷ 0xFF ∷ 0 ∷ 0 ∷ 0 ∷ 0 ∷ []) ++ replicate 6 0xFF ++ replicate 4 0
    ++ replicate 8 0xFF ++ replicate 12 0

abbrev pub full_mask : FullList → List ℕ
full_mask told = replicate 8 0xFF ++ flat_map entry_mask told.entries

-- zeros where a reader ignores what stands there, a TransportID's protocol identifier among it
abbrev pub spelled_entry : FullEntry → List ℕ
spelled_entry entry =
    to_be_bytes w64 entry.key.0 ++ (0 ∷ 0 ∷ 0 ∷ 0 ∷ bit entry.holder ∷ entry.kind ∷ 0 ∷ 0 ∷ 0 ∷ 0 ∷ [])
    ++ to_be_bytes w16 entry.nexus.port ++ to_be_bytes w32 24 ++ replicate 4 0 ++ to_be_bytes w64 entry.nexus.name
    ++ replicate 12 0

abbrev pub spelled_full : FullList → List ℕ
spelled_full told =
    to_be_bytes w32 told.generation ++ to_be_bytes w32 (48 * length told.entries) ++ flat_map spelled_entry told.entries

-- What a reply tells is what is read from it.
use Rattle.std.proofs.Common.{◌≡◌, ℕ, suc, ◌+◌, ◌*◌, ◌/◌, ◌%◌, ◌==◌, ◌<◌, ◌≤◌, ◌^◌, List, [], ◌∷◌, ◌++◌, length, drop, take, map, refl, ap, sym, ◌∙◌, Bool, true, false, arith, rules, append_assoc, get_or, subst, lit<}
use Rattle.std.specs.Prelude.{Option, Some, None, Ok, All, slice_get}
use Rattle.std.specs.List.{flat_map}
use Rattle.std.specs.Int.{w16, w32, w64, to_be_bytes}
use Rattle.std.proofs.lemmas.List.{length-append, length-take-le, take_all, take_at, take_more}
use Rattle.std.proofs.lemmas.Option.{get_or_from_slice_get, slice_get_within}
use Rattle.std.proofs.lemmas.List.Elements.{All-head, All-tail, All-cons, All-append}
use Rattle.std.proofs.lemmas.Nat.{from_be_bytes-to_be_bytes_2, from_be_bytes-to_be_bytes_4, from_be_bytes-to_be_bytes_8}
use Rattle.std.proofs.Math.Nat.{mul-div_cancel_left, mul-mod_right}
use Rattle.pr_words.specs.Fields.{number16_at, number32_at, number64_at}
use Rattle.pr_words.specs.declared.nexus.Pair.{Pair}
use Rattle.pr_words.specs.declared.nexus.Nexus.{Nexus}
use Rattle.pr_words.specs.declared.nexus.Key.{Key}
use Rattle.pr_words.specs.declared.reservation.Kind.{Kind}
use Rattle.pr_grammar.specs.Standings.{Standing}
use Rattle.pr_words.specs.Kinds.{kind_code}
use Rattle.pr_words.specs.declared.limits.TheConstants.{REPORTABLE}
use Rattle.pr_grammar.specs.Cdbs.{bit}
use Rattle.pr_grammar.specs.declared.param.Held.{Held}
use Rattle.pr_grammar.specs.declared.param.FullEntry.{FullEntry}
use Rattle.pr_grammar.specs.InReplies.{key_at, told_held, reservation_part, reservation_reply, read_reservation, told_reservation, capabilities_reply, read_capabilities, told_capabilities, holds, type_byte, KeyList, FullList, key_bytes, keys_reply, full_reply, descriptor, keys_from, keys_sized, read_keys, entries_from, entry_of, first_odd, full_sized, read_full, FitsPair, listed_keys, listed_entries, told_entry}
use Rattle.pr_grammar.specs.Standings.{kind_of, holder_of}
use Rattle.std.proofs.Math.Seq.{drop-append-add}
use Rattle.pr_param.specs.Fits.{FitsKey, FitKeys, FitsHeld, FitFields}
use Rattle.pr_param.proofs.Pieces.{length_pieces}
use Rattle.pr_param.proofs.Readings.{odd_past}

-- the front of a buffer that was filled with a whole reply
pub whole_front : (n : ℕ) (reply out written : List ℕ) → n ≡ length reply → n ≤ length out → written ≡ take (length (take n out)) reply → take n (written ++ drop n out) ≡ reply
whole_front n reply out written e le we =
    let k : length (take n out) ≡ n = length-take-le n out le in
    let all : written ≡ reply = we ∙ ap (λ m. take m reply) k ∙ take_all n reply (omega (arith, e)) in
    ap (λ ys. take n (ys ++ drop n out)) all ∙ take_at reply (drop n out) n (sym e)

-- READ KEYS

abbrev listed : ℕ → List Key → KeyList
listed generation keys = record { generation = generation; keys = keys }

abbrev key : ℕ → Key
key n = record { 0 = n }

pub keys_spelled : (pairs : List Pair) → All FitsKey pairs → keys_from (length pairs) (flat_map key_bytes pairs) ≡ map (λ (p : Pair). p.key) pairs
keys_spelled [] fits = refl
keys_spelled (p ∷ ps) fits =
    let here : number64_at (key_bytes p) 0 ≡ p.key.0 = from_be_bytes-to_be_bytes_8 p.key.0 (All-head FitsKey p ps fits) in
    ap (λ n. key n ∷ keys_from (length ps) (flat_map key_bytes ps)) here ∙ ap (λ ks. p.key ∷ ks) (keys_spelled ps (All-tail FitsKey p ps fits))

pub keys_whole : (n : ℕ) (bytes : List ℕ) → 8 + 8 * n ≤ length bytes → keys_sized (8 * n) bytes ≡ Ok (record { generation = number32_at bytes 0; keys = keys_from n (drop 8 bytes) })
keys_whole n bytes le =
    let m : 8 * n % 8 ≡ 0 = mul-mod_right 8 n in
    let d : 8 * n / 8 ≡ n = mul-div_cancel_left n (lit< tt) in
    rw m (rw d (search (rules, le)))

pub keys_long : (bytes : List ℕ) → 8 ≤ length bytes → read_keys bytes ≡ keys_sized (number32_at bytes 4) bytes
keys_long bytes le = search (rules, le)

pub keys_read_back : (s : Standing) → length s.pairs ≤ REPORTABLE → FitKeys s → read_keys (keys_reply s) ≡ Ok (listed_keys s)
keys_read_back s few fits =
    let bytes = keys_reply s in
    let n : number32_at bytes 4 ≡ 8 * length s.pairs = from_be_bytes-to_be_bytes_4 (8 * length s.pairs) (omega (arith, few)) in
    let g : number32_at bytes 0 ≡ s.generation = from_be_bytes-to_be_bytes_4 s.generation fits.0 in
    let le : 8 + 8 * length s.pairs ≤ length bytes = let h = length_pieces key_bytes 8 (λ p. refl) s.pairs in omega (arith, h) in
    keys_long bytes (omega (arith, le)) ∙ ap (λ m. keys_sized m bytes) n ∙ keys_whole (length s.pairs) bytes le
    ∙ ap (λ m. Ok (listed m (keys_from (length s.pairs) (drop 8 bytes)))) g ∙ ap (λ ks. Ok (listed s.generation ks)) (keys_spelled s.pairs fits.1)

-- READ RESERVATION

abbrev of_one : ℕ → ℕ → Kind → Held
of_one generation k kind = record { generation = generation; held = Some (key k, kind_code kind) }

abbrev of_none : ℕ → Held
of_none generation = record { generation = generation; held = None }

pub part_read_back : (g : ℕ) (pairs : List Pair) (kind : Option Kind) (holder : Option Nexus) → g < 2 ^ 32 → ((k : Kind) (n : Nexus) → kind ≡ Some k → holder ≡ Some n → key_at pairs n < 2 ^ 64) → read_reservation (to_be_bytes w32 g ++ reservation_part pairs kind holder) ≡ Ok (record { generation = g; held = told_held pairs kind holder })
part_read_back g pairs None holder gf fits = ap (λ n. Ok (of_none n)) (from_be_bytes-to_be_bytes_4 g gf)
part_read_back g pairs (Some kind) None gf fits = ap (λ n. Ok (of_one n 0 kind)) (from_be_bytes-to_be_bytes_4 g gf)
part_read_back g pairs (Some kind) (Some holder) gf fits =
    ap (λ n. Ok (of_one n (number64_at (to_be_bytes w64 (key_at pairs holder)) 0) kind)) (from_be_bytes-to_be_bytes_4 g gf)
    ∙ ap (λ k. Ok (of_one g k kind)) (from_be_bytes-to_be_bytes_8 (key_at pairs holder) (fits kind holder refl refl))

pub reservation_read_back : (s : Standing) → FitsHeld s → read_reservation (reservation_reply s) ≡ Ok (told_reservation s)
reservation_read_back s fits = part_read_back s.generation s.pairs (kind_of s.reservation) (holder_of s.reservation) fits.0 fits.1

-- REPORT CAPABILITIES

pub capabilities_read_back : (s : Standing) → read_capabilities (capabilities_reply s) ≡ Ok (told_capabilities s)
capabilities_read_back s = refl

-- READ FULL STATUS

abbrev entry : ℕ → Bool → ℕ → ℕ → ℕ → FullEntry
entry k holder code name port = record { key = key k; holder = holder; kind = code; nexus = record { name = name; port = port } }

pub bit_read : (b : Bool) → (bit b % 2 == 1) ≡ b
bit_read true = refl
bit_read false = refl

pub entry_spelled : (kind : Option Kind) (holder : Option Nexus) (p : Pair) (rest : List ℕ) → FitsPair p → entry_of (descriptor kind holder p ++ rest) ≡ told_entry kind holder p
entry_spelled kind holder p rest fits =
    let k : number64_at (to_be_bytes w64 p.key.0) 0 ≡ p.key.0 = from_be_bytes-to_be_bytes_8 p.key.0 fits.0 in
    let n : number64_at (to_be_bytes w64 p.nexus.name) 0 ≡ p.nexus.name = from_be_bytes-to_be_bytes_8 p.nexus.name fits.1 in
    let o : number16_at (to_be_bytes w16 p.nexus.port) 0 ≡ p.nexus.port = from_be_bytes-to_be_bytes_2 p.nexus.port fits.2 in
    let b = holds kind holder p.nexus in
    let code = type_byte kind holder p.nexus in
    ap (λ m. entry m (bit b % 2 == 1) code (number64_at (to_be_bytes w64 p.nexus.name) 0) (number16_at (to_be_bytes w16 p.nexus.port) 0)) k
    ∙ ap (λ h. entry p.key.0 h code (number64_at (to_be_bytes w64 p.nexus.name) 0) (number16_at (to_be_bytes w16 p.nexus.port) 0)) (bit_read b)
    ∙ ap (λ m. entry p.key.0 b code m (number16_at (to_be_bytes w16 p.nexus.port) 0)) n
    ∙ ap (λ m. entry p.key.0 b code p.nexus.name m) o

pub entries_spelled : (kind : Option Kind) (holder : Option Nexus) (pairs : List Pair) → All FitsPair pairs → entries_from (length pairs) (flat_map (descriptor kind holder) pairs) ≡ map (told_entry kind holder) pairs
entries_spelled kind holder [] fits = refl
entries_spelled kind holder (p ∷ ps) fits =
    ap (λ e. e ∷ entries_from (length ps) (flat_map (descriptor kind holder) ps)) (entry_spelled kind holder p (flat_map (descriptor kind holder) ps) (All-head FitsPair p ps fits))
    ∙ ap (λ es. told_entry kind holder p ∷ es) (entries_spelled kind holder ps (All-tail FitsPair p ps fits))

-- each descriptor has its length
pub none_odd : (kind : Option Kind) (holder : Option Nexus) (pairs : List Pair) (front : List ℕ) (place : ℕ) → length front ≡ place → first_odd (length pairs) place (front ++ flat_map (descriptor kind holder) pairs) ≡ None
none_odd kind holder [] front place e = refl
none_odd kind holder (p ∷ ps) front place e =
    let rest = flat_map (descriptor kind holder) ps in
    let bytes = front ++ (descriptor kind holder p ++ rest) in
    let long : place + 24 ≤ length bytes = omega (arith, length-append front (descriptor kind holder p ++ rest), e) in
    let behind : drop (place + 20) bytes ≡ drop 20 (descriptor kind holder p ++ rest) = ap (λ n. drop (n + 20) bytes) (sym e) ∙ drop-append-add front (descriptor kind holder p ++ rest) 20 in
    let same : number32_at bytes (place + 20) ≡ 24 = ap (λ ys. number32_at ys 0) behind in
    let joined : bytes ≡ (front ++ descriptor kind holder p) ++ rest = sym (append_assoc front (descriptor kind holder p) rest) in
    let more : length (front ++ descriptor kind holder p) ≡ place + 48 = length-append front (descriptor kind holder p) ∙ ap (λ n. n + 48) e in
    odd_past (suc (length ps)) (length ps) place bytes refl long same
    ∙ ap (λ ys. first_odd (length ps) (place + 48) ys) joined
    ∙ none_odd kind holder ps (front ++ descriptor kind holder p) (place + 48) more

abbrev full_list : ℕ → List FullEntry → FullList
full_list generation entries = record { generation = generation; entries = entries }

pub full_whole : (n : ℕ) (bytes : List ℕ) → 8 + 48 * n ≤ length bytes → first_odd n 8 bytes ≡ None → full_sized (48 * n) bytes ≡ Ok (full_list (number32_at bytes 0) (entries_from n (drop 8 bytes)))
full_whole n bytes le none =
    let m : 48 * n % 48 ≡ 0 = mul-mod_right 48 n in
    let d : 48 * n / 48 ≡ n = mul-div_cancel_left n (lit< tt) in
    rw m (rw d (rw none (search (rules, le))))

pub full_long : (bytes : List ℕ) → 8 ≤ length bytes → read_full bytes ≡ full_sized (number32_at bytes 4) bytes
full_long bytes le = search (rules, le)

pub full_read_back : (s : Standing) → length s.pairs ≤ REPORTABLE → FitFields s → read_full (full_reply s) ≡ Ok (listed_entries s)
full_read_back s few fits =
    let bytes = full_reply s in
    let kind = kind_of s.reservation in
    let holder = holder_of s.reservation in
    let n : number32_at bytes 4 ≡ 48 * length s.pairs = from_be_bytes-to_be_bytes_4 (48 * length s.pairs) (omega (arith, few)) in
    let g : number32_at bytes 0 ≡ s.generation = from_be_bytes-to_be_bytes_4 s.generation fits.0 in
    let le : 8 + 48 * length s.pairs ≤ length bytes = let h = length_pieces (descriptor kind holder) 48 (λ p. refl) s.pairs in omega (arith, h) in
    let none : first_odd (length s.pairs) 8 bytes ≡ None = none_odd kind holder s.pairs (to_be_bytes w32 s.generation ++ to_be_bytes w32 (48 * length s.pairs)) 8 refl in
    full_long bytes (omega (arith, le)) ∙ ap (λ m. full_sized m bytes) n ∙ full_whole (length s.pairs) bytes le none
    ∙ ap (λ m. Ok (full_list m (entries_from (length s.pairs) (drop 8 bytes)))) g ∙ ap (λ es. Ok (full_list s.generation es)) (entries_spelled kind holder s.pairs fits.1)

-- what holds of each element before a place and of that one
pub all_more : {X : Type 0} (P : X → Type 0) (xs : List X) (i : ℕ) (x : X) → slice_get xs i ≡ Some x → P x → All P (take i xs) → All P (take (i + 1) xs)
all_more {X = X} P xs i x e here before =
    let there : get_or xs i x ≡ x = get_or_from_slice_get xs i x x e in
    let more : take (i + 1) xs ≡ take i xs ++ x ∷ [] = take_more xs i x (slice_get_within xs i x e) ∙ ap (λ y. take i xs ++ y ∷ []) there in
    subst (λ (ys : List X). All P ys) (sym more) (All-append P (take i xs) (x ∷ []) before (All-cons P x [] here (λ k d lt. absurd (omega arith))))

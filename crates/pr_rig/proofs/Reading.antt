-- What the replies of PERSISTENT RESERVE IN tell of registrants whose numbers fit their fields (SPC-4).
use Rattle.std.proofs.Common.{◌≡◌, ℕ, ◌==◌, ◌≤◌, ◌&&◌, ◌||◌, Bool, true, false, List, [], ◌∷◌, ◌++◌, length, map, take, Option, refl, ap, ◌∙◌, arith}
use Rattle.std.specs.Prelude.{Ok, All}
use Rattle.std.specs.List.{list_any}
use Rattle.std.proofs.lemmas.List.{take_all}
use Rattle.std.specs.Int.{w32, to_be_bytes}
use Rattle.pr_words.specs.Orders.{same_nexus}
use Rattle.pr_words.specs.declared.limits.TheConstants.{LIMIT}
use Rattle.pr_words.specs.declared.nexus.Key.{Key}
use Rattle.pr_words.specs.declared.nexus.Nexus.{Nexus}
use Rattle.pr_words.specs.declared.nexus.Pair.{Pair}
use Rattle.pr_words.specs.declared.reservation.Kind.{Kind}
use Rattle.pr_words.specs.declared.reservation.Reservation.{Reservation}
use Rattle.pr_words.specs.declared.reservation.Reservation.TheVariants.{Free, OfOne, OfAll}
use Rattle.pr_grammar.specs.InReplies.{FitsPair, KeyList, descriptor, full_reply, keys_reply, listed_entries, reservation_part, reservation_reply, told_entry}
use Rattle.pr_grammar.specs.Standings.{Standing, holder_of, kind_of}
use Rattle.pr_model.specs.Registrants.{has_key}
use Rattle.pr_param.specs.Fits.{FitFields, FitsKey}
use Rattle.pr_param.proofs.Pieces.{length_pieces}
use Rattle.pr_param.proofs.RoundTrips.{full_read_back, keys_read_back}
use Rattle.pr_fence.specs.declared.asked.Asked.TheVariants as ask
use Rattle.pr_fence.specs.Seeing.{held_in, is_key, is_own, is_some, listed_in, seen_in, sight_of, told_by}
use Rattle.pr_fence.specs.Seeing as seeing
use Rattle.pr_rig.proofs.Answered.{keys_length}
use Rattle.pr_rig.proofs.Holding.{reply_length}

-- READ FULL STATUS

full_length : (s : Standing) → length s.pairs ≤ LIMIT → length (full_reply s) ≤ 65535
full_length s few = let h = length_pieces (descriptor (kind_of s.reservation) (holder_of s.reservation)) 48 (λ p. refl) s.pairs in omega (arith, h, few)

-- the nexus's own registration with a key
abbrev pub is_own_pair : Nexus → ℕ → Pair → Bool
is_own_pair n own p = same_nexus n p.nexus && p.key.0 == own

any_own : (n : Nexus) (own : Key) (kind : Option Kind) (holder : Option Nexus) (ps : List Pair) → list_any (is_own n own) (map (told_entry kind holder) ps) ≡ list_any (is_own_pair n own.0) ps
any_own n own kind holder [] = refl
any_own n own kind holder (p ∷ ps) = ap (λ (b : Bool). is_own_pair n own.0 p || b) (any_own n own kind holder ps)

any_victim : (key : Key) (kind : Option Kind) (holder : Option Nexus) (ps : List Pair) → list_any (seeing.has_key key) (map (told_entry kind holder) ps) ≡ list_any (has_key key.0) ps
any_victim key kind holder [] = refl
any_victim key kind holder (p ∷ ps) = ap (λ (b : Bool). (p.key.0 == key.0) || b) (any_victim key kind holder ps)

-- what is seen of a standing
pub full_told : (n : Nexus) (own victim : Key) (s : Standing) → length s.pairs ≤ LIMIT → FitFields s → seen_in n own victim (take 65535 (full_reply s)) ≡ Ok (sight_of n own victim (listed_entries s))
full_told n own victim s few fits =
    ap (seen_in n own victim) (take_all 65535 (full_reply s) (full_length s few)) ∙ ap (told_by ask.FullStatus (sight_of n own victim)) (full_read_back s (omega (arith, few)) fits)

pub own_seen : (n : Nexus) (own victim : Key) (s : Standing) → (sight_of n own victim (listed_entries s)).own ≡ list_any (is_own_pair n own.0) s.pairs
own_seen n own victim s = any_own n own (kind_of s.reservation) (holder_of s.reservation) s.pairs

pub victim_seen : (n : Nexus) (own victim : Key) (s : Standing) → (sight_of n own victim (listed_entries s)).victim ≡ list_any (has_key victim.0) s.pairs
victim_seen n own victim s = any_victim victim (kind_of s.reservation) (holder_of s.reservation) s.pairs

-- READ KEYS

keys_fit : (ps : List Pair) → All FitsPair ps → All FitsKey ps
keys_fit ps all = λ k p at. (all k p at).0

any_key : (key : Key) (ps : List Pair) → list_any (is_key key) (map (λ (p : Pair). p.key) ps) ≡ list_any (has_key key.0) ps
any_key key [] = refl
any_key key (p ∷ ps) = ap (λ (b : Bool). (p.key.0 == key.0) || b) (any_key key ps)

pub keys_told : (key : Key) (s : Standing) → length s.pairs ≤ LIMIT → FitFields s → listed_in key (take 65535 (keys_reply s)) ≡ Ok (list_any (has_key key.0) s.pairs)
keys_told key s few fits =
    ap (listed_in key) (take_all 65535 (keys_reply s) (keys_length s few))
    ∙ ap (told_by ask.Keys (λ (l : KeyList). list_any (is_key key) l.keys)) (keys_read_back s (omega (arith, few)) (fits.0, keys_fit s.pairs fits.1))
    ∙ ap (λ (b : Bool). Ok b) (any_key key s.pairs)

-- READ RESERVATION

abbrev pub stands : Reservation → Bool
stands Free = false
stands (OfOne kind holder) = true
stands (OfAll kind) = true

part_told : (generation : ℕ) (pairs : List Pair) (r : Reservation) → held_in (to_be_bytes w32 generation ++ reservation_part pairs (kind_of r) (holder_of r)) ≡ Ok (stands r)
part_told generation pairs Free = refl
part_told generation pairs (OfOne kind holder) = refl
part_told generation pairs (OfAll kind) = refl

pub held_told : (s : Standing) → held_in (take 65535 (reservation_reply s)) ≡ Ok (stands s.reservation)
held_told s = ap held_in (take_all 65535 (reservation_reply s) (reply_length s)) ∙ part_told s.generation s.pairs s.reservation

pub is_free : (r : Reservation) → stands r ≡ false → r ≡ Free
is_free Free none = refl
is_free (OfOne kind holder) none = absurd cc
is_free (OfAll kind) none = absurd cc

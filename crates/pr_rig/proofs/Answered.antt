-- What an answer that is GOOD tells of the world, and of the world after it.
use Rattle.std.proofs.Common.{◌≡◌, ℕ, ◌+◌, ◌*◌, ◌^◌, ◌==◌, ◌<◌, ◌≤◌, ⊎_elim, Bool, true, false, ◌||◌, List, [], ◌∷◌, length, take, refl, sym, ap, ◌∙◌, subst, arith, eq-eqb}
use Rattle.std.specs.Prelude.{Ok}
use Rattle.std.specs.List.{flat_map, list_any}
use Rattle.std.proofs.lemmas.Bool.{eqb-true, false≢true}
use Rattle.std.proofs.lemmas.List.{take_all}
use Rattle.std.proofs.lemmas.Nat.{from_be_bytes-to_be_bytes_4, from_be_bytes-to_be_bytes_8}
use Rattle.pr_words.specs.Fields.{number32_at, number64_at}
use Rattle.pr_words.specs.declared.nexus.Key.{Key}
use Rattle.pr_words.specs.declared.nexus.Nexus.{Nexus}
use Rattle.pr_words.specs.declared.nexus.Pair.{Pair}
use Rattle.pr_grammar.specs.declared.cdb.Command.TheVariants.{ReserveIn}
use Rattle.pr_grammar.specs.Cdbs.{operation_code, command_of, spelled_cdb}
use Rattle.pr_grammar.specs.InReplies.{KeyList, key_bytes, keys_reply, keys_from, keys_sized, read_keys}
use Rattle.pr_grammar.specs.Standings.{Standing}
use Rattle.pr_model.specs.Commands.{Answer, good, served, answered}
use Rattle.pr_model.specs.Entries.{Out, Ended, Login_code, Started, Wrote, Read, Done, Aborted, Fault, Left, Restored, Command, entry}
use Rattle.pr_model.specs.Histories.{MayFollow, moved}
use Rattle.pr_words.specs.declared.limits.TheConstants.{LIMIT}
use Rattle.pr_model.specs.Registrants.{has_key}
use Rattle.pr_model.specs.Worlds.{World}
use Rattle.pr_param.proofs.Pieces.{length_pieces}
use Rattle.pr_param.proofs.RoundTrips.{keys_long, keys_whole}
use Rattle.pr_initiator.specs.Commands.{plain_cdb}
use Rattle.pr_fence.specs.declared.asked.Asked.TheVariants as ask
use Rattle.pr_fence.specs.Seeing.{is_key, listed_in, told_by}
use Rattle.pr_model.proofs.Checked.{answer_fits, reported}

-- the command was served, and left this world
pub record IsServed (w : World) (n : Nexus) (lun : ℕ) (cdb sent told : List ℕ) (next : World) : Type 0 where
  pub out : (served w n lun (command_of (operation_code cdb) cdb) sent).out ≡ good told
  pub world : next ≡ (served w n lun (command_of (operation_code cdb) cdb) sent).world

good_serves : (w : World) (n : Nexus) (lun : ℕ) (cdb sent told : List ℕ) → (answered w n lun cdb sent).out ≡ good told → IsServed w n lun cdb sent told (answered w n lun cdb sent).world
good_serves w n lun cdb sent told =
    answer_fits P w (λ c is. absurd cc) n lun cdb sent (λ is. absurd cc) (λ a at. reported w n (operation_code cdb) (w.attentions n) P (λ c rest is. absurd cc) a at) (λ free is. record { out = is; world = refl })
  where
    P : Answer → Type 0
    P a = a.out ≡ good told → IsServed w n lun cdb sent told a.world

pub served_by : (w : World) (who : ℕ) (n : Nexus) (lun : ℕ) (cdb sent told : List ℕ) → MayFollow w (entry who n (Command lun cdb sent) (good told)) → IsServed w n lun cdb sent told (moved w (entry who n (Command lun cdb sent) (good told)))
served_by w who n lun cdb sent told may = ⊎_elim (λ same. good_serves w n lun cdb sent told (sym same)) (λ unsaved. absurd (let never = unsaved.1 in cc)) may.2

-- an answer with what the world has leaves it
pub same_told : (s told : List ℕ) → good s ≡ good told → s ≡ told
same_told s told is = ap in_of is
  where
    in_of : Out → List ℕ
    in_of (Ended st sense d) = d
    in_of (Login_code c) = []
    in_of (Started way) = []
    in_of Wrote = []
    in_of (Read b) = []
    in_of Done = []
    in_of Aborted = []
    in_of (Fault c) = []
    in_of Left = []
    in_of (Restored v) = []

-- what READ KEYS finds is what is registered
abbrev pub keys_cdb : List ℕ
keys_cdb = spelled_cdb (plain_cdb (ReserveIn 0 65535))

pub keys_length : (s : Standing) → length s.pairs ≤ LIMIT → length (keys_reply s) ≤ 65535
keys_length s few = let h = length_pieces key_bytes 8 (λ p. refl) s.pairs in omega (arith, h, few)

-- a reply is read, whatever its numbers are
keys_read : (s : Standing) → length s.pairs ≤ LIMIT → read_keys (keys_reply s) ≡ Ok (record { generation = number32_at (keys_reply s) 0; keys = keys_from (length s.pairs) (flat_map key_bytes s.pairs) })
keys_read s few =
    let bytes = keys_reply s in
    let n : number32_at bytes 4 ≡ 8 * length s.pairs = from_be_bytes-to_be_bytes_4 (8 * length s.pairs) (omega (arith, few)) in
    let le : 8 + 8 * length s.pairs ≤ length bytes = let h = length_pieces key_bytes 8 (λ p. refl) s.pairs in omega (arith, h) in
    keys_long bytes (omega (arith, le)) ∙ ap (λ m. keys_sized m bytes) n ∙ keys_whole (length s.pairs) bytes le

-- a key that fits its field is read back as it is
key_read : (key : Key) (p : Pair) → key.0 < 2 ^ 64 → (p.key.0 == key.0) ≡ true → (number64_at (key_bytes p) 0 == key.0) ≡ true
key_read key p fits is =
    let own : p.key.0 ≡ key.0 = eqb-true p.key.0 key.0 is in
    let here : number64_at (key_bytes p) 0 ≡ p.key.0 = from_be_bytes-to_be_bytes_8 p.key.0 (subst (λ (n : ℕ). n < 2 ^ 64) (sym own) fits) in
    eq-eqb (number64_at (key_bytes p) 0) key.0 (here ∙ own)

none_read : (key : Key) (ps : List Pair) → key.0 < 2 ^ 64 → list_any (is_key key) (keys_from (length ps) (flat_map key_bytes ps)) ≡ false → list_any (has_key key.0) ps ≡ false
none_read key [] fits none = refl
none_read key (p ∷ ps) fits none =
    by (p.key.0 == key.0) (number64_at (key_bytes p) 0 == key.0) (list_any (is_key key) (keys_from (length ps) (flat_map key_bytes ps))) (key_read key p fits) (none_read key ps fits) none
  where
    by : (own read rest : Bool) → (own ≡ true → read ≡ true) → (rest ≡ false → list_any (has_key key.0) ps ≡ false) → (read || rest) ≡ false → (own || list_any (has_key key.0) ps) ≡ false
    by true true rest reads later gone = absurd cc
    by true false rest reads later gone = absurd (false≢true (reads refl))
    by false true rest reads later gone = absurd cc
    by false false rest reads later gone = later gone

told_keys : (key : Key) (s : Standing) (told : List ℕ) → length s.pairs ≤ LIMIT → key.0 < 2 ^ 64 → good (take 65535 (keys_reply s)) ≡ good told → Ok false ≡ listed_in key told → list_any (has_key key.0) s.pairs ≡ false
told_keys key s told few fits is gone =
    let whole : keys_reply s ≡ told = sym (take_all 65535 (keys_reply s) (keys_length s few)) ∙ same_told (take 65535 (keys_reply s)) told is in
    let read : read_keys told ≡ Ok (record { generation = number32_at (keys_reply s) 0; keys = keys_from (length s.pairs) (flat_map key_bytes s.pairs) }) = ap read_keys (sym whole) ∙ keys_read s few in
    let found : Ok false ≡ Ok (list_any (is_key key) (keys_from (length s.pairs) (flat_map key_bytes s.pairs))) = gone ∙ ap (told_by ask.Keys (λ (l : KeyList). list_any (is_key key) l.keys)) read in
    let none : false ≡ list_any (is_key key) (keys_from (length s.pairs) (flat_map key_bytes s.pairs)) = cc in
    none_read key s.pairs fits (sym none)

-- where READ KEYS is answered GOOD, with data in which a key isn't, nobody is registered with the key, and the world stays
pub keys_tell : (w : World) (who : ℕ) (n : Nexus) (lun : ℕ) (sent told : List ℕ) (key : Key) → length w.standing.pairs ≤ LIMIT → key.0 < 2 ^ 64 → MayFollow w (entry who n (Command lun keys_cdb sent) (good told)) → Ok false ≡ listed_in key told
    → (moved w (entry who n (Command lun keys_cdb sent) (good told)) ≡ w) × (list_any (has_key key.0) w.standing.pairs ≡ false)
keys_tell w who n lun sent told key few fits may gone =
    let served = served_by w who n lun keys_cdb sent told may in
    (served.world, told_keys key w.standing told few fits served.out gone)

-- What spells a request is a body of its kind, and is read back.
use Rattle.std.proofs.Common.{◌≡◌, ℕ, zero, suc, lit≤, ◌+◌, ◌-◌, ◌≤◌, Bool, true, false, ltb, ◌&&◌, not, List, ◌++◌, length, take, drop, slice_range, refl, sym, ap, ◌∙◌, arith, append_assoc, replicate}
use Rattle.std.specs.List.{list_all}
use Rattle.std.proofs.lemmas.Bool.{le-ltb, lt-ltb}
use Rattle.std.proofs.lemmas.List.{take_at, drop_at, drop-drop, length-append, length-replicate}
use Rattle.std.proofs.lemmas.Nat.{from_be_bytes-to_be_bytes_2, from_be_bytes-to_be_bytes_8}
use Rattle.pr_words.specs.declared.limits.TheConstants.{BODY}
use Rattle.pr_words.specs.declared.nexus.Side.{Side}
use Rattle.pr_words.specs.declared.nexus.Side.TheVariants.{Target}
use Rattle.pr_grammar.specs.Bodies.{is_zero, login_body, command_head, command_cdb, command_data, is_command_body}
use Rattle.pr_grammar.specs.Frames.{is_kind, is_body, frame}
use Rattle.pr_grammar.proofs.Spellings.{read_back}
use Rattle.pr_link.specs.Laws.{Keeps, LoginIsReadBack, CommandIsReadBack}

-- a body of its kind is found in its frame
pub kept : (side : Side) (kind : ℕ) (body : List ℕ) → is_kind side kind ≡ true → is_body side kind body ≡ true → length body ≤ BODY → Keeps side kind body
kept side kind body received formed bound = (formed, λ lun tag rest lun_fits tag_fits. read_back side (frame kind lun tag body) rest received formed lun_fits tag_fits bound)

pub login_back : LoginIsReadBack
login_back version n port name =
    let same_port = from_be_bytes-to_be_bytes_2 n.port port in
    let same_name = from_be_bytes-to_be_bytes_8 n.name name in
    (kept Target 0x01 (login_body version n) refl refl (lit≤ tt), refl, rw (same_port, same_name) refl)

zeros_all : (k : ℕ) → list_all is_zero (replicate k 0) ≡ true
zeros_all zero = refl
zeros_all (suc k) = zeros_all k

formed : (a b c d e : Bool) → a ≡ false → b ≡ true → c ≡ true → d ≡ true → e ≡ true → (not a && b && c && d && e) ≡ true
formed a b c d e is_a is_b is_c is_d is_e = rw (is_a, is_b, is_c, is_d, is_e) refl

pub command_back : CommandIsReadBack
command_back cdb bytes some few fits =
    let n : ℕ = length cdb in
    let zeros : List ℕ = replicate (16 - n) 0 in
    let body : List ℕ = command_head cdb ++ bytes in
    let pad : length zeros ≡ 16 - n = length-replicate (16 - n) 0 in
    let size : length (cdb ++ zeros) ≡ 16 = omega (arith, length-append cdb zeros, pad, few) in
    let all : length body ≡ 20 + length bytes = omega (arith, length-append (cdb ++ zeros) bytes, size) in
    let parts : cdb ++ zeros ++ bytes ≡ cdb ++ (zeros ++ bytes) = append_assoc cdb zeros bytes in
    let behind : drop n (cdb ++ zeros ++ bytes) ≡ zeros ++ bytes = ap (drop n) parts ∙ drop_at cdb (zeros ++ bytes) n refl in
    let count : 20 - (4 + n) ≡ 16 - n = omega arith in
    let rest_of : slice_range body (4 + n) 20 ≡ zeros =
    ap (take (20 - (4 + n))) (sym (drop-drop n 4 body)) ∙ ap (λ (k : ℕ). take k (drop n (cdb ++ zeros ++ bytes))) count ∙ ap (take (16 - n)) behind ∙ take_at zeros bytes (16 - n) pad in
    let padded : list_all is_zero (slice_range body (4 + n) 20) ≡ true = ap (list_all is_zero) rest_of ∙ zeros_all (16 - n) in
    let long : ltb (length body) 20 ≡ false = le-ltb _ _ (omega (arith, all)) in
    let right : is_command_body body ≡ true = formed _ _ _ _ _ long (lt-ltb 0 n some) (lt-ltb n 17 (omega (arith, few))) refl padded in
    let four : 4 + n - 4 ≡ n = omega arith in
    let same_cdb : command_cdb body ≡ cdb =
    ap (λ (k : ℕ). take k (cdb ++ zeros ++ bytes)) four ∙ ap (take n) parts ∙ take_at cdb (zeros ++ bytes) n refl in
    let same_data : command_data body ≡ bytes = drop_at (cdb ++ zeros) bytes 16 size in
    (kept Target 0x02 body refl right (omega (arith, all, fits)), same_cdb, same_data)

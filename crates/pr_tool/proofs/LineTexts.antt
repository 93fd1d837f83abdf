-- The text of lines, piece by piece.
use Rattle.std.proofs.Common.{◌≡◌, ℕ, ◌/◌, ◌%◌, ◌==◌, ◌≤◌, Bool, true, false, List, [], ◌∷◌, ◌++◌, length, refl, ap, ◌∙◌, append_assoc, arith}
use Rattle.std.specs.Prelude.{codes, decimal, slice_index_or, if◌then◌else◌}
use Rattle.std.specs.Int.{w64, to_be_bytes}
use Rattle.hex.specs.Hex.{encode_lower, encode_with}
use Rattle.pr_words.specs.declared.nexus.Nexus.{Nexus}
use Rattle.pr_grammar.specs.Bodies.{login_version, login_nexus, command_cdb, command_data}
use Rattle.pr_grammar.specs.Cdbs.{operation_code}
use Rattle.pr_grammar.specs.Frames.{Frame}
use Rattle.pr_grammar.specs.Shows.{hex_text, hex_digit, login_line, command_line, logout_line, line_of, line_feed}
use Rattle.pr_link.specs.declared.request.Request.{Request}
use Rattle.pr_link.specs.declared.request.Request.TheVariants as requests
use Rattle.pr_link.specs.Requests.{request_of}

-- the digits that the crate `hex` writes
pub hex_is_text : (bytes : List ℕ) → encode_lower bytes ≡ hex_text bytes
unfolding encode_with
hex_is_text [] = refl
hex_is_text (b ∷ rest) = ap (λ (w : List ℕ). hex_digit (b / 16) ∷ hex_digit (b % 16) ∷ w) (hex_is_text rest)

three_fields : (a b c d e f g h i t0 t1 t2 t3 t4 t5 t6 : List ℕ) → t1 ≡ t0 ++ (a ++ b) → t2 ≡ t1 ++ (c ++ d) → t3 ≡ t2 ++ (e ++ f) → t4 ≡ t3 ++ g → t5 ≡ t4 ++ h → t6 ≡ t5 ++ i
    → t6 ≡ t0 ++ (a ++ b ++ c ++ d ++ e ++ f ++ g ++ h ++ i)
three_fields a b c d e f g h i t0 t1 t2 t3 t4 t5 t6 one two three four five six = rw (six, five, four, three, two, one) (simp append_assoc)

two_and_one : (a b c d e f g h i t0 t1 t2 t3 t4 t5 t6 : List ℕ) → t1 ≡ t0 ++ (a ++ b) → t2 ≡ t1 ++ (c ++ d) → t3 ≡ t2 ++ e → t4 ≡ t3 ++ f → t5 ≡ t4 ++ (g ++ h) → t6 ≡ t5 ++ i
    → t6 ≡ t0 ++ (a ++ b ++ c ++ d ++ e ++ f ++ g ++ h ++ i)
two_and_one a b c d e f g h i t0 t1 t2 t3 t4 t5 t6 one two three four five six = rw (six, five, four, three, two, one) (simp append_assoc)

pub login_joined : (tag version : ℕ) (n : Nexus) (a b p q : ℕ) (t0 t1 t2 t3 t4 t5 t6 : List ℕ) → a ≡ tag → b ≡ version → p ≡ n.port → q ≡ n.name
    → t1 ≡ t0 ++ (codes "login tag=" ++ decimal a) → t2 ≡ t1 ++ (codes " version=" ++ decimal b) → t3 ≡ t2 ++ (codes " port=" ++ decimal p) → t4 ≡ t3 ++ codes " name="
    → t5 ≡ t4 ++ hex_text (to_be_bytes w64 q) → t6 ≡ t5 ++ line_feed → t6 ≡ t0 ++ login_line tag version n
login_joined tag version n a b p q t0 t1 t2 t3 t4 t5 t6 is_tag is_version is_port is_name one two three four five six =
    three_fields (codes "login tag=") (decimal a) (codes " version=") (decimal b) (codes " port=") (decimal p) (codes " name=") (hex_text (to_be_bytes w64 q)) line_feed t0 t1 t2 t3 t4 t5 t6 one two three four five six
    ∙ ap (λ (x : ℕ). t0 ++ login_line x b (record { name = q; port = p })) is_tag
    ∙ ap (λ (x : ℕ). t0 ++ login_line tag x (record { name = q; port = p })) is_version
    ∙ ap (λ (x : ℕ). t0 ++ login_line tag version (record { name = q; port = x })) is_port
    ∙ ap (λ (x : ℕ). t0 ++ login_line tag version (record { name = x; port = n.port })) is_name

pub command_joined : (tag lun op out a l o s : ℕ) (t0 t1 t2 t3 t4 t5 t6 : List ℕ) → a ≡ tag → l ≡ lun → o ≡ op → s ≡ out
    → t1 ≡ t0 ++ (codes "command tag=" ++ decimal a) → t2 ≡ t1 ++ (codes " lun=" ++ decimal l) → t3 ≡ t2 ++ codes " op=" → t4 ≡ t3 ++ hex_text (o ∷ [])
    → t5 ≡ t4 ++ (codes " out=" ++ decimal s) → t6 ≡ t5 ++ line_feed → t6 ≡ t0 ++ command_line tag lun op out
command_joined tag lun op out a l o s t0 t1 t2 t3 t4 t5 t6 is_tag is_lun is_op is_out one two three four five six =
    two_and_one (codes "command tag=") (decimal a) (codes " lun=") (decimal l) (codes " op=") (hex_text (o ∷ [])) (codes " out=") (decimal s) line_feed t0 t1 t2 t3 t4 t5 t6 one two three four five six
    ∙ ap (λ (x : ℕ). t0 ++ command_line x l o s) is_tag
    ∙ ap (λ (x : ℕ). t0 ++ command_line tag x o s) is_lun
    ∙ ap (λ (x : ℕ). t0 ++ command_line tag lun x s) is_op
    ∙ ap (λ (x : ℕ). t0 ++ command_line tag lun op x) is_out

first_or : (cdb : List ℕ) → 1 ≤ length cdb → slice_index_or cdb 0 0 ≡ operation_code cdb
first_or [] some = absurd (omega arith)
first_or (x ∷ xs) some = refl

-- the first byte of a CDB is its operation code
pub first_byte : (cdb bytes : List ℕ) → bytes ≡ cdb → 1 ≤ length bytes → slice_index_or bytes 0 0 ≡ operation_code cdb
first_byte cdb bytes is some = first_or bytes some ∙ ap operation_code is

-- a frame's line by the request that it carries
abbrev pub line_by : Frame → Request → List ℕ
line_by f (requests.Login version n) = login_line f.tag version n
line_by f (requests.Command cdb out) = command_line f.tag f.lun (operation_code cdb) out
line_by f requests.Logout = logout_line f.tag

line_if : (f : Frame) (a b : Bool)
    → (if a then login_line f.tag (login_version f.body) (login_nexus f.body) else if b then command_line f.tag f.lun (operation_code (command_cdb f.body)) (length (command_data f.body)) else logout_line f.tag)
    ≡ line_by f (if a then requests.Login (login_version f.body) (login_nexus f.body) else if b then requests.Command (command_cdb f.body) (length (command_data f.body)) else requests.Logout)
line_if f true b = refl
line_if f false true = refl
line_if f false false = refl

pub line_is : (f : Frame) → line_of f ≡ line_by f (request_of f.kind f.body)
line_is f = line_if f (f.kind == 1) (f.kind == 2)

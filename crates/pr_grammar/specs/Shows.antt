-- What `show` prints of the bytes that a target receives (this project's own).
use Rattle.std.specs.Prelude.{◌≡◌, ℕ, ◌<◌, ◌/◌, ◌%◌, ◌==◌, List, [], ◌∷◌, ◌++◌, length, slice_index, codes, decimal, if◌then◌else◌}
use Rattle.std.specs.List.{flat_map, sum_by}
use Rattle.std.specs.Int.{w64, to_be_bytes}
use Rattle.pr_words.specs.declared.nexus.Side.{Side}
use Rattle.pr_words.specs.declared.nexus.Side.TheVariants.{Target}
use Rattle.pr_words.specs.declared.nexus.Nexus.{Nexus}
use Rattle.pr_grammar.specs.Cdbs.{operation_code}
use Rattle.pr_grammar.specs.Bodies.{login_version, login_nexus, command_cdb, command_data}
use Rattle.pr_grammar.specs.Frames.{Frame, Front, Broken, Whole, front, frame_size}

-- Streams

-- at the front of the bytes stands the first of these frames, behind it the next, and behind the last the tail
abbrev pub AreFrames : Side → List ℕ → List Frame → List ℕ → Type 0
AreFrames side bytes [] tail = bytes ≡ tail
AreFrames side bytes (f ∷ more) tail = (rest : List ℕ) × (front side bytes ≡ Whole f rest) × AreFrames side rest more tail

abbrev pub IsNoFrame : Front → Type 0
IsNoFrame (Whole first rest) = ⊥
IsNoFrame _ = Unit {0}

-- bytes are whole frames, and then a tail at whose front no whole frame stands
pub record Framed (side : Side) (bytes : List ℕ) (frames : List Frame) (tail : List ℕ) : Type 0 where
  pub parts : AreFrames side bytes frames tail
  pub unfinished : IsNoFrame (front side tail)

-- behind whole frames stands one that breaks a rule
abbrev pub HasBroken : Side → List ℕ → Type 0
HasBroken side bytes = (frames : List Frame) × (tail : List ℕ) × (reason : ℕ) × AreFrames side bytes frames tail × (front side tail ≡ Broken reason)

-- the last of the bytes shows a frame that breaks a rule: no front of them that is shorter has one
pub record JustBroken (side : Side) (bytes : List ℕ) : Type 0 where
  pub broken : HasBroken side bytes
  pub last : (before after : List ℕ) → bytes ≡ before ++ after → 0 < length after → HasBroken side before → ⊥

-- how many bytes frames take
abbrev pub size_of_all : List Frame → ℕ
size_of_all frames = sum_by frame_size frames

-- Text

abbrev pub line_feed : List ℕ
line_feed = 0x0A ∷ []

abbrev pub hex_digit : ℕ → ℕ
hex_digit n = slice_index (codes "0123456789abcdef") n

-- two hexadecimal digits for each byte
abbrev pub hex_text : List ℕ → List ℕ
hex_text bytes = flat_map (λ b. hex_digit (b / 16) ∷ hex_digit (b % 16) ∷ []) bytes

abbrev pub login_line : ℕ → ℕ → Nexus → List ℕ
login_line tag version n =
    codes "login tag=" ++ decimal tag ++ codes " version=" ++ decimal version ++ codes " port=" ++ decimal n.port ++ codes " name=" ++ hex_text (to_be_bytes w64 n.name) ++ line_feed

abbrev pub command_line : ℕ → ℕ → ℕ → ℕ → List ℕ
command_line tag lun op out =
    codes "command tag=" ++ decimal tag ++ codes " lun=" ++ decimal lun ++ codes " op=" ++ hex_text (op ∷ []) ++ codes " out=" ++ decimal out ++ line_feed

abbrev pub logout_line : ℕ → List ℕ
logout_line tag = codes "logout tag=" ++ decimal tag ++ line_feed

-- the line of a frame that a target receives: of a Login, a Command or a Logout
abbrev pub line_of : Frame → List ℕ
line_of f =
    if f.kind == 0x01 then login_line f.tag (login_version f.body) (login_nexus f.body) else
    if f.kind == 0x02 then command_line f.tag f.lun (operation_code (command_cdb f.body)) (length (command_data f.body)) else
    logout_line f.tag

-- the last line: the frame behind the whole ones breaks a rule; or the bytes end behind them, or inside the next
abbrev pub last_line : List Frame → List ℕ → Front → List ℕ
last_line frames tail (Broken reason) = codes "bad place=" ++ decimal (size_of_all frames) ++ codes " reason=" ++ decimal reason ++ line_feed
last_line frames [] _ = codes "end frames=" ++ decimal (length frames) ++ line_feed
last_line frames tail _ = codes "cut place=" ++ decimal (size_of_all frames) ++ line_feed

abbrev pub text_of : List Frame → List ℕ → List ℕ
text_of frames tail = flat_map line_of frames ++ last_line frames tail (front Target tail)

-- Frames of the link (this project's own): length of what follows in 4 bytes, kind, flags, LUN in 2 bytes, tag in 4, body.
use Rattle.std.specs.Prelude.{ℕ, ◌+◌, ◌-◌, ◌==◌, ◌||◌, nat_lt, not, Bool, List, [], ◌∷◌, ◌++◌, length, take, drop, slice_index, if◌then◌else◌}
use Rattle.std.specs.Int.{w16, w32, to_be_bytes}
use Rattle.pr_words.specs.Fields.{number16_at, number32_at}
use Rattle.pr_words.specs.declared.nexus.Side.{Side}
use Rattle.pr_words.specs.declared.nexus.Side.TheVariants.{Target, Initiator}
use Rattle.pr_words.specs.declared.limits.TheConstants.{FRAME_LENGTH, FRAME_HEAD}
use Rattle.pr_grammar.specs.Bodies.{is_login_body, is_command_body, is_login_reply, is_command_reply, is_reject}

pub record Frame : Type 0 where
  pub kind : ℕ
  pub lun : ℕ
  pub tag : ℕ
  pub body : List ℕ

abbrev pub frame : ℕ → ℕ → ℕ → List ℕ → Frame
frame kind lun tag body = record { kind = kind; lun = lun; tag = tag; body = body }

-- the one spelling of a frame
abbrev pub spelled : Frame → List ℕ
spelled f = to_be_bytes w32 (8 + length f.body) ++ (f.kind ∷ 0 ∷ []) ++ to_be_bytes w16 f.lun ++ to_be_bytes w32 f.tag ++ f.body

-- how many bytes a frame takes in its stream
abbrev pub frame_size : Frame → ℕ
frame_size f = FRAME_HEAD + length f.body

-- what stands at the front of a stream: so many bytes lack, or this rule is broken, or a frame and what is behind it
pub data Front : Type 0 where
  Lacking : (lacks : ℕ) → Front
  Broken : (reason : ℕ) → Front
  Whole : (first : Frame) → (rest : List ℕ) → Front

-- the kinds that a side receives: Login, Command, Logout; their replies and Reject
abbrev pub is_kind : Side → ℕ → Bool
is_kind Target kind = kind == 0x01 || kind == 0x02 || kind == 0x03
is_kind Initiator kind = kind == 0x81 || kind == 0x82 || kind == 0x83 || kind == 0xFF

-- whether a body is one of its kind
abbrev pub is_body : Side → ℕ → List ℕ → Bool
is_body Target kind body =
    if kind == 0x01 then is_login_body body else if kind == 0x02 then is_command_body body else length body == 0
is_body Initiator kind body =
    if kind == 0x81 then is_login_reply body else if kind == 0x82 then is_command_reply body else
    if kind == 0x83 then length body == 0 else is_reject body

-- the rules of a frame that is whole, in order: 2 the kind, 3 the flags, 4 the body
abbrev pub checked : Side → List ℕ → List ℕ → Front
checked side content rest =
    if not (is_kind side (slice_index content 0)) then Broken 2 else
    if not (slice_index content 1 == 0) then Broken 3 else
    if not (is_body side (slice_index content 0) (drop 8 content)) then Broken 4 else
    Whole (frame (slice_index content 0) (number16_at content 2) (number32_at content 4) (drop 8 content)) rest

-- rule 1, the length, is looked at once its four bytes are there, and all else once the frame is whole
abbrev pub sized : Side → ℕ → List ℕ → Front
sized side len bytes =
    if nat_lt len 8 || nat_lt FRAME_LENGTH len then Broken 1 else
    if nat_lt (length bytes) (4 + len) then Lacking (4 + len - length bytes) else
    checked side (take len (drop 4 bytes)) (drop (4 + len) bytes)

unfoldable pub front : Side → List ℕ → Front
front side bytes = if nat_lt (length bytes) 4 then Lacking (4 - length bytes) else sized side (number32_at bytes 0) bytes

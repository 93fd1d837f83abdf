-- A Login and a TEST UNIT READY, and what is shown of them.
use Rattle.std.proofs.Common.{◌≡◌, ℕ, List, [], ◌∷◌, ◌++◌, replicate, refl}
use Rattle.std.specs.Prelude.{codes}
use Rattle.std.specs.Fmt.{digits}
use Rattle.pr_words.specs.declared.nexus.Side.TheVariants.{Target}
use Rattle.pr_grammar.specs.Frames.{Frame, front, frame}
use Rattle.pr_grammar.specs.Shows.{line_feed, line_of, text_of, Framed}

login_bytes : List ℕ
login_bytes = 0 ∷ 0 ∷ 0 ∷ 0x14 ∷ 1 ∷ 0 ∷ 0 ∷ 0 ∷ 0 ∷ 0 ∷ 0 ∷ 1 ∷ 1 ∷ 0 ∷ 0 ∷ 1 ∷ 0 ∷ 0 ∷ 0 ∷ 0 ∷ 0 ∷ 0 ∷ 0 ∷ 0x11 ∷ []

login_frame : Frame
login_frame = frame 1 0 1 (1 ∷ 0 ∷ 0 ∷ 1 ∷ 0 ∷ 0 ∷ 0 ∷ 0 ∷ 0 ∷ 0 ∷ 0 ∷ 0x11 ∷ [])

ready_bytes : List ℕ
ready_bytes = (0 ∷ 0 ∷ 0 ∷ 0x1C ∷ 2 ∷ 0 ∷ 0 ∷ 0 ∷ 0 ∷ 0 ∷ 0 ∷ 2 ∷ 6 ∷ []) ++ replicate 19 0

ready_frame : Frame
ready_frame = frame 2 0 2 (6 ∷ replicate 19 0)

both : Framed Target (login_bytes ++ ready_bytes) (login_frame ∷ ready_frame ∷ []) []
unfolding front login_bytes login_frame ready_bytes ready_frame
both = record { parts = (ready_bytes, refl, ([], refl, refl)); unfinished = tt }

their_text : text_of (login_frame ∷ ready_frame ∷ []) [] ≡ codes "login tag=1 version=1 port=1 name=0000000000000011" ++ line_feed ++ codes "command tag=2 lun=0 op=00 out=0" ++ line_feed ++ codes "end frames=2" ++ line_feed
unfolding front digits login_frame ready_frame
their_text = refl

cut_text : text_of (login_frame ∷ []) (0 ∷ 0 ∷ 0 ∷ []) ≡ codes "login tag=1 version=1 port=1 name=0000000000000011" ++ line_feed ++ codes "cut place=24" ++ line_feed
unfolding front digits login_frame
cut_text = refl

bad_text : text_of (login_frame ∷ []) (0 ∷ 0 ∷ 0 ∷ 7 ∷ []) ≡ codes "login tag=1 version=1 port=1 name=0000000000000011" ++ line_feed ++ codes "bad place=24 reason=1" ++ line_feed
unfolding front digits login_frame
bad_text = refl

-- a name in lower case with all its zeros, and the greatest numbers
long_text : line_of (frame 1 0 4294967295 (255 ∷ 0 ∷ 255 ∷ 255 ∷ 0x0A ∷ 0xBC ∷ 0xDE ∷ 0xF0 ∷ 0x12 ∷ 0x34 ∷ 0x56 ∷ 0x78 ∷ [])) ≡ codes "login tag=4294967295 version=255 port=65535 name=0abcdef012345678" ++ line_feed
unfolding digits
long_text = refl

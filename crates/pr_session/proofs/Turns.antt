-- Which turn a deframer's answer means.
use Rattle.std.proofs.Common.{◌≡◌, ℕ, ◌∙◌, List, Option, Some, None, take, refl, ap, sym}
use Rattle.pr_words.specs.declared.nexus.Nexus.{Nexus}
use Rattle.pr_words.specs.declared.nexus.Side.TheVariants.{Target}
use Rattle.pr_link.specs.declared.frame.Frame.{Frame}
use Rattle.pr_link.specs.declared.frame.Got.TheVariants as got
use Rattle.pr_link.specs.Streams.{Stream, frame_of}
use Rattle.pr_grammar.specs.Frames.{Front, Lacking, Broken, Whole, front}
use Rattle.pr_grammar.specs.Frames as frames
use Rattle.pr_model.specs.Lanes.{Phase, Dead, Idle, broken, asked, turn_at, turn_by}
use Rattle.pr_session.specs.declared.state.State.{State}
use Rattle.pr_session.specs.States.{phase_of, phase_in, living}
use Rattle.pr_session.specs.Streams.{Receives}

pub dead_idle : (place : ℕ) (f : Front) → turn_at Dead place f ≡ Idle
dead_idle place (Lacking k) = refl
dead_idle place (Broken r) = refl
dead_idle place (Whole f rest) = refl

pub turn_bad : (phase : Phase) (f : Front) (old new : Stream) (place reason : ℕ) (buf : List ℕ) → Receives f old (got.Bad place reason) new buf → turn_at phase old.place f ≡ broken phase place reason
turn_bad phase (Lacking k) old new place reason buf g = absurd g
turn_bad phase (Broken r) old new place reason buf g = ap (λ (p : ℕ). broken phase p r) (sym g.0) ∙ ap (broken phase place) (sym g.1)
turn_bad phase (Whole f rest) old new place reason buf g = absurd g

pub turn_frame : (phase : Phase) (f : Front) (old new : Stream) (g : Frame) (place : ℕ) (buf : List ℕ) → place ≡ old.place → Receives f old (got.Frame g) new buf → turn_at phase old.place f ≡ asked phase place (frame_of g (take g.body buf)) new.held
turn_frame phase (Lacking k) old new g place buf at h = absurd h
turn_frame phase (Broken r) old new g place buf at h = absurd h
turn_frame phase (Whole f rest) old new g place buf at h =
    ap (λ (x : frames.Frame). asked phase old.place x rest) h.0 ∙ ap (λ (p : ℕ). asked phase p (frame_of g (take g.body buf)) rest) (sym at) ∙ ap (λ (s : Stream). asked phase place (frame_of g (take g.body buf)) s.held) (sym h.1)

-- the turn of a session that lives is that of the frame in front
pub turn_in_front : (logged_in : Option Nexus) (bytes : List ℕ) (place : ℕ) → turn_by (phase_in logged_in) bytes place ≡ turn_at (phase_in logged_in) place (front Target bytes)
turn_in_front None bytes place = refl
turn_in_front (Some n) bytes place = refl

-- a session that lives has reached the phase in which it looks at its frame
pub living_in : (s : State) (logged_in : Option Nexus) (work : List ℕ) → s ≡ living logged_in → phase_of s work ≡ phase_in logged_in
living_in s None work is = ap (λ (t : State). phase_of t work) is
living_in s (Some n) work is = ap (λ (t : State). phase_of t work) is

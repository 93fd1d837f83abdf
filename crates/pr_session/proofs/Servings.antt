-- How far a connection was served, call by call.
use Rattle.std.proofs.Common.{◌≡◌, inl, inr, ℕ, ◌<◌, Bool, true, false, cond, eqb, eqb-true, arith, List, [], ◌∷◌, ◌++◌, length, Option, Some, None, Result, Ok, Err, IfOk, IfErr, refl, sym, ap, ◌∙◌, subst, append_assoc, ◌-◌}
use Rattle.std.proofs.lemmas.List.{append-nil}
use Rattle.std.proofs.lemmas.Bool.{true≢false, cases_lt}
use Rattle.pr_words.specs.declared.nexus.Nexus.{Nexus}
use Rattle.pr_words.specs.declared.nexus.Side.TheVariants.{Target}
use Rattle.pr_words.specs.declared.limits.TheConstants.{HELD}
use Rattle.pr_grammar.specs.Frames.{Front, Lacking, Broken, Whole, front}
use Rattle.pr_grammar.proofs.Fronts.{full_front}
use Rattle.pr_io.specs.Streams.{Took, Put, PutSome, HasEnded}
use Rattle.pr_io.proofs.Pieces.{put_nothing, took_nothing, put_more, took_more}
use Rattle.pr_model.specs.Entries.{Act, Logout, Out, History}
use Rattle.pr_model.specs.Lanes.{Phase, Fresh, In, Busy, Dead, AwaitsFrame, Lane, turned, Idle, turn, arrived, arrived_at, fresh, Turned, Silent, Asks, turn_at, turn_by}
use Rattle.pr_model.specs.Sessions.{AsksFor}
use Rattle.pr_session.specs.declared.state.Rejection.{Rejection}
use Rattle.pr_session.specs.declared.session.Session.{Session}
use Rattle.pr_session.specs.declared.session_end.SessionEnd.{SessionEnd}
use Rattle.pr_session.specs.declared.session_end.SessionEnd.TheVariants.{Closed, Cut, Rejected, ReadFault, WriteFault, SpentTicket}
use Rattle.pr_session.specs.States.{rejection_at}
use Rattle.pr_session.specs.Sessions.{HasTurned, IsKept, lane_of, reply_of, rejection_of}
use Rattle.pr_io.specs.declared.outside.Failed.{Failed}
use Rattle.pr_model.proofs.Overflow.{arrived-nil}
use Rattle.pr_session.specs.Feeding.{Takes}
use Rattle.pr_session.specs.Sharing.{Shares}
use Rattle.pr_session.specs.Ends.{IsMade, EndsTurn, EndsBy, Serves, RestsAt, Row, Since, Over, IsCaused, HasNoMore, ComesOfEnd, end_at, end_after}
use Rattle.pr_session.proofs.Growing.{serves_none, serves_read, serves_turn, serves_asks}

no_reply : (sent reply : List ℕ) → reply ≡ [] → sent ++ reply ≡ sent
no_reply sent reply none = ap (λ (w : List ℕ). sent ++ w) none ∙ append-nil sent

fresh_lives : Fresh ≡ Dead → ⊥
fresh_lives is = absurd cc

arrived_lives : (p : Phase) (l : Lane) (piece : List ℕ) → l.phase ≡ p → AwaitsFrame p → (arrived_at p l piece).phase ≡ Dead → ⊥
arrived_lives Dead l piece is awaits dead = awaits
arrived_lives (Busy n j) l piece is awaits dead = awaits
arrived_lives Fresh l piece is awaits dead = fresh_lives (sym is ∙ dead)
arrived_lives (In n) l piece is awaits dead = let same : In n ≡ Dead = sym is ∙ dead in absurd cc

arrived_phase : (p : Phase) (l : Lane) (piece : List ℕ) → (arrived_at p l piece).phase ≡ l.phase
arrived_phase Dead l piece = refl
arrived_phase (Busy n j) l piece = refl
arrived_phase Fresh l piece = refl
arrived_phase (In n) l piece = refl

pub taken_phase : (before now : Option (List ℕ)) (l m : Lane) (r : Result ℕ Failed) → AwaitsFrame l.phase → Takes before now l m r → m.phase ≡ l.phase
taken_phase before now l m (Ok n) awaits takes = ap (λ (x : Lane). x.phase) takes.3 ∙ arrived_phase l.phase l takes.0
taken_phase before now l m (Err e) awaits takes = ap (λ (x : Lane). x.phase) takes.1

not_silent : (next : Turned) → Silent next ≡ Idle → ⊥
not_silent next is = absurd cc

not_asks : (n : Nexus) (a : Act) (next : Out → Turned) → Asks n a next ≡ Idle → ⊥
not_asks n a next is = absurd cc

fresh_acts : (b : Bool) (n : Nexus) (a : Act) (next : Out → Turned) (last : Turned) → cond b (Asks n a next) (Silent last) ≡ Idle → ⊥
fresh_acts true n a next last is = not_asks n a next is
fresh_acts false n a next last is = not_silent last is

in_acts : (a b : Bool) (n : Nexus) (one two three : Act) (x y z : Out → Turned) → cond a (Asks n one x) (cond b (Asks n two y) (Asks n three z)) ≡ Idle → ⊥
in_acts true b n one two three x y z is = not_asks n one x is
in_acts false true n one two three x y z is = not_asks n two y is
in_acts false false n one two three x y z is = not_asks n three z is

-- a session that wants more bytes has a frame in front that isn't whole
idle_lacks : (p : Phase) (place : ℕ) (f : Front) → AwaitsFrame p → turn_at p place f ≡ Idle → (k : ℕ) × (f ≡ Lacking k)
idle_lacks p place (Lacking k) awaits is = (k, refl)
idle_lacks Dead place (Broken r) awaits is = absurd awaits
idle_lacks Dead place (Whole f rest) awaits is = absurd awaits
idle_lacks (Busy n j) place (Broken r) awaits is = absurd awaits
idle_lacks (Busy n j) place (Whole f rest) awaits is = absurd awaits
idle_lacks Fresh place (Broken r) awaits is = absurd (not_silent _ is)
idle_lacks (In n) place (Broken r) awaits is = absurd (not_asks n Logout _ is)
idle_lacks Fresh place (Whole f rest) awaits is = absurd (fresh_acts (eqb f.kind 1) _ _ _ _ is)
idle_lacks (In n) place (Whole f rest) awaits is = absurd (in_acts (eqb f.kind 2) (eqb f.kind 3) n _ _ _ _ _ _ is)

room_by : (bytes : List ℕ) (k : ℕ) → front Target bytes ≡ Lacking k → length bytes < HELD
room_by bytes k is = elim (cases_lt (length bytes) HELD) [ inl less ↦ less | inr full ↦ absurd (full_front Target bytes full k is) ]

room_at : (p : Phase) (bytes : List ℕ) (place : ℕ) → AwaitsFrame p → turn_by p bytes place ≡ Idle → length bytes < HELD
room_at Dead bytes place awaits is = absurd awaits
room_at (Busy n j) bytes place awaits is = absurd awaits
room_at Fresh bytes place awaits is = let lacks = idle_lacks Fresh place (front Target bytes) awaits is in room_by bytes lacks.0 lacks.1
room_at (In n) bytes place awaits is = let lacks = idle_lacks (In n) place (front Target bytes) awaits is in room_by bytes lacks.0 lacks.1

-- a source that gave nothing to a session that wants more bytes has ended
pub no_more : (rest : Option (List ℕ)) (l : Lane) → AwaitsFrame l.phase → turn l ≡ Idle → HasEnded rest 0 (HELD - length l.bytes) → HasNoMore rest
no_more None l awaits idle ended = tt
no_more (Some rest) l awaits idle ended = let room = room_at l.phase l.bytes l.place awaits idle in ended (omega (arith, room)) refl

pub end_comes : (l : Lane) (rest : Option (List ℕ)) → HasNoMore rest → ComesOfEnd (end_at l) l rest
end_comes l rest none = by (eqb (length l.bytes) 0)
  where
    by : (b : Bool) → ComesOfEnd (cond b Closed (Cut l.place)) l rest
    by true = λ lives. none
    by false = none

-- a session that has ended by itself wants no end of its source
pub after_comes : (r : Option Rejection) (l : Lane) (rest : Option (List ℕ)) → l.phase ≡ Dead → ComesOfEnd (end_after r) l rest
after_comes None l rest dead = λ lives. absurd (lives dead)
after_comes (Some r) l rest dead = tt

-- where the source has ended no fault is the cause
pub end_caused : (l : Lane) (source source_now sink sink_now : ℕ) → IsCaused (end_at l) source source_now sink sink_now
end_caused l source source_now sink sink_now = by (eqb (length l.bytes) 0)
  where
    by : (b : Bool) → IsCaused (cond b Closed (Cut l.place)) source source_now sink sink_now
    by true = tt
    by false = tt

pub after_caused : (r : Option Rejection) (source source_now sink sink_now : ℕ) → IsCaused (end_after r) source source_now sink sink_now
after_caused None source source_now sink sink_now = tt
after_caused (Some r) source source_now sink sink_now = tt

nothing_came : (piece : List ℕ) → length piece ≡ 0 → piece ≡ []
nothing_came [] e = refl
nothing_came (x ∷ xs) e = absurd (omega arith)

-- what follows of a result that is Ok, or an Err
pub on_ok : {T E : Type 0} {P Q : T → Type 0} (r : Result T E) → ((x : T) → P x → Q x) → IfOk r P → IfOk r Q
on_ok (Ok x) goes is = goes x is
on_ok (Err e) goes is = tt

pub on_err : {T E : Type 0} {P Q : E → Type 0} (r : Result T E) → ((e : E) → P e → Q e) → IfErr r P → IfErr r Q
on_err (Ok x) goes is = tt
on_err (Err e) goes is = goes e is

module _ (who : ℕ) (rest written : Option (List ℕ)) (own : History) where
  -- a new connection
  pub since_new : (s : Session) → HasTurned s (turned fresh []) → Since who rest rest written written own own s
  since_new s new =
      record {
        read = [];
        asked = [];
        sent = [];
        took = took_nothing rest;
        put = put_nothing written;
        published = sym (append-nil own);
        serves = subst (λ (w : List ℕ). Serves who [] [] w (lane_of s)) (sym new.reply) (subst (λ (l : Lane). Serves who [] [] [] l) (sym new.lane) (serves_none who));
        ended = λ dead. absurd (fresh_lives (ap (λ (l : Lane). l.phase) (sym new.lane) ∙ dead));
      }

  -- one more turn was made
  pub since_turn : (rest_now written_now : Option (List ℕ)) (own_now own_then : History) (s t : Session) → Since who rest rest_now written written_now own own_now s → reply_of s ≡ [] → IsMade (turn (lane_of s))
      → Shares who own_now (lane_of s) (turn (lane_of s)) own_then (lane_of t) (reply_of t) → ((lane_of t).phase ≡ Dead → EndsTurn (rejection_of t) (turn (lane_of s))) → Since who rest rest_now written written_now own own_then t
  since_turn rest_now written_now own_now own_then s t since replied made shares ends =
      let served : Serves who since.read since.asked since.sent (lane_of s) = subst (λ (w : List ℕ). Serves who since.read since.asked w (lane_of s)) (no_reply since.sent (reply_of s) replied) since.serves in
      record {
        read = since.read;
        asked = since.asked ++ shares.entries;
        sent = since.sent;
        took = since.took;
        put = since.put;
        published = shares.published ∙ ap (λ (h : History). h ++ shares.entries) since.published ∙ append_assoc own since.asked shares.entries;
        serves = serves_turn who since.read since.asked shares.entries since.sent (reply_of t) (lane_of s) (lane_of t) made served shares.makes;
        ended = λ dead. record {
          before = lane_of s;
          earlier = since.asked;
          answers = since.sent;
          asks = serves_asks who since.read since.asked since.sent (lane_of s) served;
          entries = shares.entries;
          reply = reply_of t;
          makes = shares.makes;
          last = ends dead;
          all = refl;
          said = refl;
        };
      }

  -- more bytes were read
  pub since_take : (rest_now rest_then written_now : Option (List ℕ)) (own_now : History) (s t : Session) (piece : List ℕ) → Since who rest rest_now written written_now own own_now s → Took rest_now rest_then piece
      → lane_of t ≡ arrived (lane_of s) piece → reply_of t ≡ reply_of s → ((lane_of t).phase ≡ Dead → ⊥) → Since who rest rest_then written written_now own own_now t
  since_take rest_now rest_then written_now own_now s t piece since took lane_is reply_is lives =
      record {
        read = since.read ++ piece;
        asked = since.asked;
        sent = since.sent;
        took = took_more rest rest_now rest_then since.read piece since.took took;
        put = since.put;
        published = since.published;
        serves = subst (λ (w : List ℕ). Serves who (since.read ++ piece) since.asked (since.sent ++ w) (lane_of t)) (sym reply_is)
            (subst (λ (l : Lane). Serves who (since.read ++ piece) since.asked (since.sent ++ reply_of s) l) (sym lane_is) (serves_read who since.read piece since.asked (since.sent ++ reply_of s) (lane_of s) since.serves));
        ended = λ dead. absurd (lives dead);
      }

  -- the reply that waited was sent
  pub since_sent : (rest_now written_now written_then : Option (List ℕ)) (own_now : History) (s t : Session) → Since who rest rest_now written written_now own own_now s → Put written_now written_then (reply_of s)
      → IsKept s t → reply_of t ≡ [] → Since who rest rest_now written written_then own own_now t
  since_sent rest_now written_now written_then own_now s t since put kept none =
      let all : since.sent ++ reply_of s ≡ (since.sent ++ reply_of s) ++ reply_of t = sym (no_reply (since.sent ++ reply_of s) (reply_of t) none) in
      record {
        read = since.read;
        asked = since.asked;
        sent = since.sent ++ reply_of s;
        took = since.took;
        put = put_more written written_now written_then since.sent (reply_of s) since.put put;
        published = since.published;
        serves = subst (λ (w : List ℕ). Serves who since.read since.asked w (lane_of t)) all (subst (λ (l : Lane). Serves who since.read since.asked (since.sent ++ reply_of s) l) (sym kept.1) since.serves);
        ended = λ dead.
            subst (λ (w : List ℕ). EndsBy (EndsTurn (rejection_of t)) who since.read since.asked w (lane_of t)) all
            (subst (λ (l : Lane). EndsBy (EndsTurn (rejection_of t)) who since.read since.asked (since.sent ++ reply_of s) l) (sym kept.1)
            (subst (λ (r : Option Rejection). EndsBy (EndsTurn r) who since.read since.asked (since.sent ++ reply_of s) (lane_of s)) (ap rejection_at (sym kept.0)) (since.ended (ap (λ (l : Lane). l.phase) (sym kept.1) ∙ dead))));
      }

  asks_now : (rest_now written_now : Option (List ℕ)) (own_now : History) (s : Session) (since : Since who rest rest_now written written_now own own_now s) → reply_of s ≡ [] → AsksFor who since.read since.asked since.sent (lane_of s)
  asks_now rest_now written_now own_now s since replied =
      subst (λ (w : List ℕ). AsksFor who since.read since.asked w (lane_of s)) (no_reply since.sent (reply_of s) replied) (serves_asks who since.read since.asked (since.sent ++ reply_of s) (lane_of s) since.serves)

  -- an end where all replies were sent
  pub over_by : (end : SessionEnd) (rest_now written_now : Option (List ℕ)) (own_now : History) (s : Session) (since : Since who rest rest_now written written_now own own_now s) → Row end who since.read since.asked since.sent (lane_of s)
      → Over end who rest rest_now written written_now own own_now (lane_of s)
  over_by end rest_now written_now own_now s since row = record { read = since.read; asked = since.asked; sent = since.sent; took = since.took; put = since.put; published = since.published; row = row }

  rests : (rest_now written_now : Option (List ℕ)) (own_now : History) (s : Session) (since : Since who rest rest_now written written_now own own_now s) → reply_of s ≡ [] → turn (lane_of s) ≡ Idle → AwaitsFrame (lane_of s).phase
      → RestsAt who since.read since.asked since.sent (lane_of s)
  rests rest_now written_now own_now s since replied idle awaits = record { asks = asks_now rest_now written_now own_now s since replied; idle = idle; awaits = awaits }

  pub over_read : (rest_now written_now : Option (List ℕ)) (own_now : History) (s : Session) → Since who rest rest_now written written_now own own_now s → reply_of s ≡ [] → turn (lane_of s) ≡ Idle → AwaitsFrame (lane_of s).phase
      → Over ReadFault who rest rest_now written written_now own own_now (lane_of s)
  over_read rest_now written_now own_now s since replied idle awaits = over_by ReadFault rest_now written_now own_now s since (rests rest_now written_now own_now s since replied idle awaits)

  pub over_edge : (rest_now written_now : Option (List ℕ)) (own_now : History) (s : Session) → Since who rest rest_now written written_now own own_now s → reply_of s ≡ [] → turn (lane_of s) ≡ Idle → AwaitsFrame (lane_of s).phase → (lane_of s).bytes ≡ []
      → Over Closed who rest rest_now written written_now own own_now (lane_of s)
  over_edge rest_now written_now own_now s since replied idle awaits none = over_by Closed rest_now written_now own_now s since (inr (rests rest_now written_now own_now s since replied idle awaits, none))

  pub over_cut : (rest_now written_now : Option (List ℕ)) (own_now : History) (s : Session) (place : ℕ) → Since who rest rest_now written written_now own own_now s → reply_of s ≡ [] → turn (lane_of s) ≡ Idle → AwaitsFrame (lane_of s).phase → 0 < length (lane_of s).bytes → (lane_of s).place ≡ place
      → Over (Cut place) who rest rest_now written written_now own own_now (lane_of s)
  over_cut rest_now written_now own_now s place since replied idle awaits some at = over_by (Cut place) rest_now written_now own_now s since (rests rest_now written_now own_now s since replied idle awaits, some, at)

  pub over_spent : (ticket : ℕ) (rest_now written_now : Option (List ℕ)) (own_now : History) (s : Session) (m : Lane) → Since who rest rest_now written written_now own own_now s → reply_of s ≡ [] → Over (SpentTicket ticket) who rest rest_now written written_now own own_now m
  over_spent ticket rest_now written_now own_now s m since replied =
      record { read = since.read; asked = since.asked; sent = since.sent; took = since.took; put = since.put; published = since.published; row = (lane_of s, inl (asks_now rest_now written_now own_now s since replied)) }

  -- the session ended
  ends_now : (rest_now written_now : Option (List ℕ)) (own_now : History) (s : Session) (r : Option Rejection) (since : Since who rest rest_now written written_now own own_now s) → reply_of s ≡ [] → (lane_of s).phase ≡ Dead → rejection_of s ≡ r
      → EndsBy (EndsTurn r) who since.read since.asked since.sent (lane_of s)
  ends_now rest_now written_now own_now s r since replied dead is =
      subst (λ (x : Option Rejection). EndsBy (EndsTurn x) who since.read since.asked since.sent (lane_of s)) is
      (subst (λ (w : List ℕ). EndsBy (EndsTurn (rejection_of s)) who since.read since.asked w (lane_of s)) (no_reply since.sent (reply_of s) replied) (since.ended dead))

  pub over_left : (rest_now written_now : Option (List ℕ)) (own_now : History) (s : Session) → Since who rest rest_now written written_now own own_now s → reply_of s ≡ [] → (lane_of s).phase ≡ Dead → rejection_of s ≡ None
      → Over Closed who rest rest_now written written_now own own_now (lane_of s)
  over_left rest_now written_now own_now s since replied dead is = over_by Closed rest_now written_now own_now s since (inl (ends_now rest_now written_now own_now s None since replied dead is))

  pub over_rejected : (rest_now written_now : Option (List ℕ)) (own_now : History) (s : Session) (r : Rejection) → Since who rest rest_now written written_now own own_now s → reply_of s ≡ [] → (lane_of s).phase ≡ Dead → rejection_of s ≡ Some r
      → Over (Rejected r.place r.reason) who rest rest_now written written_now own own_now (lane_of s)
  over_rejected rest_now written_now own_now s r since replied dead is = over_by (Rejected r.place r.reason) rest_now written_now own_now s since (ends_now rest_now written_now own_now s (Some r) since replied dead is)

  -- a front of the last reply was sent
  pub over_lost : (rest_now written_now written_then : Option (List ℕ)) (own_now : History) (s : Session) → Since who rest rest_now written written_now own own_now s → PutSome written_now written_then (reply_of s)
      → Over WriteFault who rest rest_now written written_then own own_now (lane_of s)
  over_lost rest_now written_now written_then own_now s since some =
      record {
        read = since.read;
        asked = since.asked;
        sent = since.sent ++ some.0;
        took = since.took;
        put = put_more written written_now written_then since.sent some.0 since.put some.3;
        published = since.published;
        row = (
          some.1,
          subst (λ (w : List ℕ). AsksFor who since.read since.asked w (lane_of s)) (ap (λ (w : List ℕ). since.sent ++ w) some.2 ∙ sym (append_assoc since.sent some.0 some.1))
              (serves_asks who since.read since.asked (since.sent ++ reply_of s) (lane_of s) since.serves),
          some.4,
        );
      }

  pub over_dead : (rest_now written_now : Option (List ℕ)) (own_now : History) (s : Session) (r : Option Rejection) → Since who rest rest_now written written_now own own_now s → reply_of s ≡ [] → (lane_of s).phase ≡ Dead → rejection_of s ≡ r
      → Over (end_after r) who rest rest_now written written_now own own_now (lane_of s)
  over_dead rest_now written_now own_now s None since replied dead is = over_left rest_now written_now own_now s since replied dead is
  over_dead rest_now written_now own_now s (Some r) since replied dead is = over_rejected rest_now written_now own_now s r since replied dead is

  pub over_idle : (rest_now written_now : Option (List ℕ)) (own_now : History) (s : Session) → Since who rest rest_now written written_now own own_now s → reply_of s ≡ [] → turn (lane_of s) ≡ Idle → AwaitsFrame (lane_of s).phase
      → Over (end_at (lane_of s)) who rest rest_now written written_now own own_now (lane_of s)
  over_idle rest_now written_now own_now s since replied idle awaits = by (eqb (length (lane_of s).bytes) 0) refl
    where
      empty : (xs : List ℕ) → length xs ≡ 0 → xs ≡ []
      empty [] e = refl
      empty (x ∷ xs) e = absurd (omega arith)

      by : (b : Bool) → eqb (length (lane_of s).bytes) 0 ≡ b → Over (cond b Closed (Cut (lane_of s).place)) who rest rest_now written written_now own own_now (lane_of s)
      by true none = over_edge rest_now written_now own_now s since replied idle awaits (empty (lane_of s).bytes (eqb-true _ _ none))
      by false some = over_cut rest_now written_now own_now s (lane_of s).place since replied idle awaits (more (lane_of s).bytes some) refl
        where
          more : (xs : List ℕ) → eqb (length xs) 0 ≡ false → 0 < length xs
          more [] e = absurd (true≢false e)
          more (x ∷ xs) e = omega arith

  -- a call of the source
  pub since_taken : (rest_now rest_then written_now : Option (List ℕ)) (own_now : History) (s t : Session) (n : ℕ) → Since who rest rest_now written written_now own own_now s → Takes rest_now rest_then (lane_of s) (lane_of t) (Ok n)
      → AwaitsFrame (lane_of s).phase → reply_of s ≡ [] → reply_of t ≡ [] → Since who rest rest_then written written_now own own_now t
  since_taken rest_now rest_then written_now own_now s t n since takes awaits none still =
      since_take rest_now rest_then written_now own_now s t takes.0 since takes.2 takes.3 (still ∙ sym none)
      (λ dead. arrived_lives (lane_of s).phase (lane_of s) takes.0 refl awaits (ap (λ (l : Lane). l.phase) (sym takes.3) ∙ dead))

  pub over_taken : (rest_now rest_then written_now : Option (List ℕ)) (own_now : History) (s t : Session) → Since who rest rest_now written written_now own own_now s → Takes rest_now rest_then (lane_of s) (lane_of t) (Ok 0)
      → AwaitsFrame (lane_of s).phase → turn (lane_of s) ≡ Idle → reply_of s ≡ [] → reply_of t ≡ [] → Over (end_at (lane_of t)) who rest rest_then written written_now own own_now (lane_of t)
  over_taken rest_now rest_then written_now own_now s t since takes awaits idle none still =
      let same : lane_of t ≡ lane_of s = takes.3 ∙ ap (arrived (lane_of s)) (nothing_came takes.0 takes.1) ∙ arrived-nil (lane_of s) in
      over_idle rest_then written_now own_now t (since_taken rest_now rest_then written_now own_now s t 0 since takes awaits none still) still
      (ap turn same ∙ idle) (subst (λ (l : Lane). AwaitsFrame l.phase) (sym same) awaits)

  pub over_failed : (rest_now rest_then written_now : Option (List ℕ)) (own_now : History) (s t : Session) (e : Failed) → Since who rest rest_now written written_now own own_now s → Takes rest_now rest_then (lane_of s) (lane_of t) (Err e)
      → AwaitsFrame (lane_of s).phase → turn (lane_of s) ≡ Idle → reply_of s ≡ [] → Over ReadFault who rest rest_then written written_now own own_now (lane_of t)
  over_failed rest_now rest_then written_now own_now s t e since takes awaits idle none =
      subst (λ (l : Lane). Over ReadFault who rest rest_then written written_now own own_now l) (sym takes.1)
      (subst (λ (r : Option (List ℕ)). Over ReadFault who rest r written written_now own own_now (lane_of s)) (sym takes.0) (over_read rest_now written_now own_now s since none idle awaits))

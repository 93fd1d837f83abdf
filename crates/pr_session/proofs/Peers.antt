-- What a peer has heard and said, call by call.
use Rattle.std.proofs.Common.{◌≡◌, ◌≤◌, ◌<◌, ◌-◌, ◌^◌, ◌==◌, ◌&&◌, not, ℕ, zero, suc, Bool, true, false, min, List, [], ◌∷◌, ◌++◌, length, take, drop, refl, sym, ap, ◌∙◌, subst, append_assoc, arith}
use Rattle.std.proofs.lemmas.Bool.{false≢true, eqb-true, eqb-false, and_parts}
use Rattle.std.proofs.lemmas.List.{append-nil, take-append-drop, take_all}
use Rattle.pr_model.specs.Entries.{History}
use Rattle.pr_model.specs.Histories.{failures_in}
use Rattle.pr_model.specs.Lanes.{Phase, Fresh, In, Busy, Dead, Lane, Idle, turn, arrived, fresh, turned}
use Rattle.pr_model.specs.Runs.{closing}
use Rattle.pr_model.specs.Sessions.{AsksFor, IsCutShort}
use Rattle.pr_io.specs.Causes.{next_fault}
use Rattle.pr_io.specs.Lines.{Exchange, Line, new_line, hearing, saying, hung_up}
use Rattle.pr_io.specs.declared.outside.Medium as media
use Rattle.pr_io.specs.declared.outside.Disk as disks
use Rattle.pr_core.specs.declared.target.Core.{Core}
use Rattle.pr_core.specs.View.{Extends, disk_of, faults_after}
use Rattle.pr_core.specs.Shared.{ArePowered, Stands}
use Rattle.pr_core.proofs.Entering.{extends_none, extends_append}
use Rattle.pr_core.proofs.SharedLaws.{extends_stands, powered-append}
use Rattle.pr_session.specs.declared.session.Session.{Session}
use Rattle.pr_session.specs.declared.lane_peer.LanePeer.{LanePeer}
use Rattle.pr_session.specs.Sessions.{HasTurned, lane_of, reply_of}
use Rattle.pr_session.specs.Driving.{Follows}
use Rattle.pr_session.specs.Feeding.{fed_at, fed}
use Rattle.pr_session.specs.Answering.{TakesTurns}
use Rattle.pr_session.specs.Peers.{room_at, room_of, AskedInTurn, IsAnswered, HasMade, AsksBehind, Comes}
use Rattle.pr_session.proofs.LaterBytes.{asks_grow, asks_more}
use Rattle.pr_session.proofs.Shrinking.{powered_made, powered_closing}
use Rattle.pr_model.proofs.SessionLaws.{turns_join}

nothing_waits : (said reply : List ℕ) → reply ≡ [] → said ++ reply ≡ said
nothing_waits said reply none = ap (λ (w : List ℕ). said ++ w) none ∙ append-nil said

-- what there is room for is heard whole
pub all_fed : (p : Phase) (held bytes : List ℕ) → length bytes ≤ room_at p held → fed_at p held bytes ≡ length bytes
all_fed Dead held bytes fits = refl
all_fed Fresh held bytes fits = omega (arith, fits)
all_fed (In n) held bytes fits = omega (arith, fits)
all_fed (Busy n j) held bytes fits = omega (arith, fits)

pub heard_lane : (l m : Lane) (bytes : List ℕ) (n : ℕ) → n ≡ fed l bytes → length bytes ≤ room_of l → m ≡ arrived l (take n bytes) → m ≡ arrived l bytes
heard_lane l m bytes n count fits goes = goes ∙ ap (arrived l) (ap (λ (k : ℕ). take k bytes) (count ∙ all_fed l.phase l.bytes bytes fits) ∙ take_all (length bytes) bytes (omega arith))

-- bytes that came change nothing of what was reached
pub arrived_phase : (l : Lane) (bytes : List ℕ) → (arrived l bytes).phase ≡ l.phase
arrived_phase l bytes = by l.phase refl
  where
    by : (p : Phase) → l.phase ≡ p → (arrived (record { bytes = l.bytes; phase = p; place = l.place }) bytes).phase ≡ p
    by Fresh is = refl
    by (In n) is = refl
    by (Busy n j) is = refl
    by Dead is = refl

-- one more connection was hung up
asked_more : (xs : List Exchange) (x : Exchange) (es first : History) (lost : List ℕ) → AskedInTurn xs es → IsCutShort 0 x.heard first (x.said ++ lost) → (x.quiet ≡ true → lost ≡ []) → AskedInTurn (xs ++ x ∷ []) (es ++ first)
asked_more [] x es first lost none cut quiet = (first, [], lost, cut, quiet, refl, ap (λ (h : History). h ++ first) none ∙ sym (append-nil first))
asked_more (y ∷ xs) x es first lost (one, rest, missed, was, none, others, all) cut quiet =
    (one, rest ++ first, missed, was, none, asked_more xs x rest first lost others cut quiet, ap (λ (h : History). h ++ first) all ∙ append_assoc one rest first)

-- a count of faults doesn't fall
not_fallen : (k count : ℕ) → min count (2 ^ 64 - 1) ≤ faults_after k count
not_fallen zero count = omega arith
not_fallen (suc k) count = let more = not_fallen k (next_fault count) in omega (arith, more)

module _ {M D : Type 0} {gm : media.Ghosts M} {gd : disks.Ghosts D} where
  -- a turn was made
  pub takes_one : (who : ℕ) (old new : Core M D gm gd) (s t : Session) → reply_of s ≡ [] → Follows who old (lane_of s) (turn (lane_of s)) new (lane_of t) (reply_of t) → TakesTurns who old s new t
  takes_one who old new s t none follows =
      record {
        turns = 1;
        entries = follows.entries;
        replies = reply_of t;
        taken = (follows.entries, reply_of t, lane_of t, [], [], follows.makes, (refl, refl, refl), sym (append-nil follows.entries), sym (append-nil (reply_of t)));
        said = sym (ap (λ (w : List ℕ). w ++ reply_of t) none);
        extends = follows.extends;
        powered = powered_made who (lane_of s) (lane_of t) follows.entries (reply_of t) follows.makes;
      }

  pub takes_none : (who : ℕ) (c : Core M D gm gd) (s : Session) → TakesTurns who c s c s
  takes_none who c s = record { turns = 0; entries = []; replies = []; taken = (refl, refl, refl); said = sym (append-nil (reply_of s)); extends = extends_none c; powered = tt }

  -- turns and more turns
  pub takes_more : (who : ℕ) (a b c : Core M D gm gd) (s t u : Session) → TakesTurns who a s b t → TakesTurns who b t c u → TakesTurns who a s c u
  takes_more who a b c s t u first second =
      let all = turns_join first.turns second.turns who (lane_of s) (lane_of t) (lane_of u) first.entries second.entries first.replies second.replies first.taken second.taken in
      record {
        turns = all.0;
        entries = first.entries ++ second.entries;
        replies = first.replies ++ second.replies;
        taken = all.1;
        said = second.said ∙ ap (λ (w : List ℕ). w ++ second.replies) first.said ∙ append_assoc (reply_of s) first.replies second.replies;
        extends = extends_append a b c first.entries second.entries first.extends second.extends;
        powered = powered-append first.entries second.entries first.powered second.powered;
      }

  -- what all connections asked for is what those asked for that come behind none
  asks_behind_none : (p : LanePeer M D gm gd) (l : Line) (h : History) → HasMade p l h → AsksBehind [] p l h
  asks_behind_none p l h made = record { others = l.past; earlier = made.earlier; asked = made.asked; line = refl; all = made.all; past = made.past; asks = made.asks; quiet = made.quiet }

  made_by : (p : LanePeer M D gm gd) (l : Line) (h : History) → AsksBehind [] p l h → Stands p.core h → HasMade p l h
  made_by p l h asks stands =
      record {
        earlier = asks.earlier;
        asked = asks.asked;
        all = asks.all;
        past = subst (λ (xs : List Exchange). AskedInTurn xs asks.earlier) (sym asks.line) asks.past;
        asks = asks.asks;
        quiet = asks.quiet;
        stands = stands;
      }

  -- the connections behind any have asked for these entries too
  abbrev AsksOn : (p : LanePeer M D gm gd) → Line → LanePeer M D gm gd → Line → History → Type 0
  AsksOn p l q m es = (first : List Exchange) (k : History) → AsksBehind first p l k → AsksBehind first q m (k ++ es)

  -- a peer has gone on
  made_more : (p q : LanePeer M D gm gd) (l m : Line) (es h : History) → Extends p.core q.core es → ArePowered es → AsksOn p l q m es → HasMade p l h → HasMade q m (h ++ es)
  made_more p q l m es h extends powered later made = made_by q m (h ++ es) (later [] h (asks_behind_none p l h made)) (extends_stands p.core q.core h es extends powered made.stands)

  stands_more : (p q : LanePeer M D gm gd) (l m : Line) (es : History) → Extends p.core q.core es → ArePowered es → AsksOn p l q m es → (h : History) × HasMade p l h → (h : History) × HasMade q m h
  stands_more p q l m es extends powered later was = (was.0 ++ es, made_more p q l m es was.0 extends powered later was.1)

  comes_by : (p q : LanePeer M D gm gd) (l m : Line) (es : History) → Extends p.core q.core es → ArePowered es → AsksOn p l q m es → Comes p l q m
  comes_by p q l m es extends powered later =
      record {
        ground = λ i. record { kept = extends.opening i; blocks = extends.blocks i };
        count = subst (λ (k : ℕ). min (gd.faults (disk_of p.core)) (2 ^ 64 - 1) ≤ k) (sym extends.saved) (not_fallen (failures_in es) (gd.faults (disk_of p.core)));
        goes = λ h was. record { since = es; made = made_more p q l m es h extends powered later was; failed = extends.saved; later = later };
      }

  -- a new one
  pub made_none : (p : LanePeer M D gm gd) → HasTurned p.session (turned fresh []) → Stands p.core [] → HasMade p new_line []
  made_none p new stands =
      record { earlier = []; asked = []; all = refl; past = refl; asks = record { turns = 0; taken = (refl, new.reply, new.lane) }; quiet = λ e. absurd (false≢true e); stands = stands }

  -- bytes were heard
  heard_later : (p q : LanePeer M D gm gd) (l : Line) (bytes : List ℕ) → lane_of q.session ≡ arrived (lane_of p.session) bytes → reply_of q.session ≡ reply_of p.session → AsksOn p l q (hearing l bytes) []
  heard_later p q l bytes lane reply first k was =
      let heard : List ℕ = l.last.heard ++ bytes in
      record {
        others = was.others;
        earlier = was.earlier;
        asked = was.asked;
        line = was.line;
        all = append-nil k ∙ was.all;
        past = was.past;
        asks =
            subst (λ (x : Lane). AsksFor 0 heard was.asked (l.last.said ++ reply_of q.session) x) (sym lane)
            (subst (λ (w : List ℕ). AsksFor 0 heard was.asked (l.last.said ++ w) (arrived (lane_of p.session) bytes)) (sym reply)
            (asks_grow 0 l.last.heard bytes (l.last.said ++ reply_of p.session) was.asked (lane_of p.session) was.asks));
        quiet = λ e. absurd (false≢true e);
      }

  same_extends : (a b : Core M D gm gd) → b ≡ a → Extends a b []
  same_extends a b same = subst (λ (c : Core M D gm gd). Extends a c []) (sym same) (extends_none a)

  pub heard_stands : (p q : LanePeer M D gm gd) (l : Line) (bytes : List ℕ) → q.core ≡ p.core → lane_of q.session ≡ arrived (lane_of p.session) bytes → reply_of q.session ≡ reply_of p.session → (h : History) × HasMade p l h → (h : History) × HasMade q (hearing l bytes) h
  heard_stands p q l bytes core lane reply = stands_more p q l (hearing l bytes) [] (same_extends p.core q.core core) tt (heard_later p q l bytes lane reply)

  pub heard_comes : (p q : LanePeer M D gm gd) (l : Line) (bytes : List ℕ) → q.core ≡ p.core → lane_of q.session ≡ arrived (lane_of p.session) bytes → reply_of q.session ≡ reply_of p.session → Comes p l q (hearing l bytes)
  heard_comes p q l bytes core lane reply = comes_by p q l (hearing l bytes) [] (same_extends p.core q.core core) tt (heard_later p q l bytes lane reply)

  -- so much of the reply that waited was said, which is all of it or fills the buffer; where none waited, no turn was left
  abbrev pub SaysSome : Session → LanePeer M D gm gd → ℕ → ℕ → List ℕ → Type 0
  SaysSome s q n size buf = record {
    bytes : take n buf ≡ take n (reply_of s);
    left : reply_of q.session ≡ drop n (reply_of s);
    lane : lane_of q.session ≡ lane_of s;
    count : n ≡ min (length (reply_of s)) size;
    rests : reply_of s ≡ [] → turn (lane_of s) ≡ Idle;
  }

  -- nothing was said into a buffer with room
  silent : (s : Session) (q : LanePeer M D gm gd) (n size : ℕ) (buf : List ℕ) → SaysSome s q n size buf → n ≡ 0 → 0 < size → (reply_of q.session ≡ []) × (turn (lane_of q.session) ≡ Idle)
  silent s q n size buf some zero_is room =
      let none : reply_of s ≡ [] = empty (reply_of s) (no_more (length (reply_of s)) size n some.count zero_is room) in
      (some.left ∙ ap (λ (k : ℕ). drop k (reply_of s)) zero_is ∙ none, ap turn some.lane ∙ some.rests none)
    where
      no_more : (a b n : ℕ) → n ≡ min a b → n ≡ 0 → 0 < b → a ≡ 0
      no_more a b n is none some = omega (arith, is, none, some)

      empty : (xs : List ℕ) → length xs ≡ 0 → xs ≡ []
      empty [] is = refl
      empty (x ∷ xs) is = absurd (omega (arith, is))

  is_quiet : (s : Session) (q : LanePeer M D gm gd) (n size : ℕ) (buf : List ℕ) → SaysSome s q n size buf → (n == 0 && not (size == 0)) ≡ true → (reply_of q.session ≡ []) × (turn (lane_of q.session) ≡ Idle)
  is_quiet s q n size buf some quiet =
      let parts = and_parts (n == 0) (not (size == 0)) quiet in
      silent s q n size buf some (eqb-true n 0 parts.0) (above size (eqb-false size 0 (not_true (size == 0) parts.1)))
    where
      above : (k : ℕ) → (k ≡ 0 → ⊥) → 0 < k
      above zero nonzero = absurd (nonzero refl)
      above (suc k) nonzero = omega arith

      not_true : (b : Bool) → not b ≡ true → b ≡ false
      not_true true is = absurd (false≢true is)
      not_true false is = refl

  -- turns were taken, and some of the reply that then waited was said
  said_later : (p q : LanePeer M D gm gd) (l : Line) (s : Session) (n size : ℕ) (buf : List ℕ) (t : TakesTurns 0 p.core p.session q.core s) → SaysSome s q n size buf → AsksOn p l q (saying l n size buf) t.entries
  said_later p q l s n size buf t some first k was =
      let bytes : List ℕ = take n buf in
      let words : (l.last.said ++ reply_of p.session) ++ t.replies ≡ (l.last.said ++ bytes) ++ reply_of q.session =
      append_assoc l.last.said (reply_of p.session) t.replies ∙ ap (λ (w : List ℕ). l.last.said ++ w) (sym t.said ∙ sym (take-append-drop n (reply_of s)) ∙ ap (λ (w : List ℕ). w ++ drop n (reply_of s)) (sym some.bytes) ∙ ap (λ (w : List ℕ). bytes ++ w) (sym some.left))
      ∙ sym (append_assoc l.last.said bytes (reply_of q.session)) in
      record {
        others = was.others;
        earlier = was.earlier;
        asked = was.asked ++ t.entries;
        line = was.line;
        all = ap (λ (x : History). x ++ t.entries) was.all ∙ append_assoc was.earlier was.asked t.entries;
        past = was.past;
        asks =
            subst (λ (x : Lane). AsksFor 0 l.last.heard (was.asked ++ t.entries) ((l.last.said ++ bytes) ++ reply_of q.session) x) (sym some.lane)
            (subst (λ (w : List ℕ). AsksFor 0 l.last.heard (was.asked ++ t.entries) w (lane_of s)) words
            (asks_more t.turns 0 l.last.heard (l.last.said ++ reply_of p.session) t.replies was.asked t.entries (lane_of p.session) (lane_of s) was.asks t.taken));
        quiet = is_quiet s q n size buf some;
      }

  pub said_stands : (p q : LanePeer M D gm gd) (l : Line) (s : Session) (n size : ℕ) (buf : List ℕ) → TakesTurns 0 p.core p.session q.core s → SaysSome s q n size buf → (h : History) × HasMade p l h → (h : History) × HasMade q (saying l n size buf) h
  said_stands p q l s n size buf t some = stands_more p q l (saying l n size buf) t.entries t.extends t.powered (said_later p q l s n size buf t some)

  pub said_comes : (p q : LanePeer M D gm gd) (l : Line) (s : Session) (n size : ℕ) (buf : List ℕ) → TakesTurns 0 p.core p.session q.core s → SaysSome s q n size buf → Comes p l q (saying l n size buf)
  said_comes p q l s n size buf t some = comes_by p q l (saying l n size buf) t.entries t.extends t.powered (said_later p q l s n size buf t some)

  -- no reply waits, and no turn is left: all that was heard was answered
  all_answered : (q : LanePeer M D gm gd) (l : Line) (h : History) → (reply_of q.session ≡ []) × (turn (lane_of q.session) ≡ Idle) → HasMade q l h → IsAnswered l h
  all_answered q l h (silent, idle) made =
      record {
        earlier = made.earlier;
        asked = made.asked;
        all = made.all;
        past = made.past;
        last = record {
          last = lane_of q.session;
          asks = subst (λ (w : List ℕ). AsksFor 0 l.last.heard made.asked w (lane_of q.session)) (nothing_waits l.last.said (reply_of q.session) silent) made.asks;
          idle = idle;
        };
      }

  pub quiet_answered : (q : LanePeer M D gm gd) (l : Line) (h : History) → HasMade q l h → l.last.quiet ≡ true → IsAnswered l h
  quiet_answered q l h made quiet = all_answered q l h (made.quiet quiet) made

  pub answered : (q : LanePeer M D gm gd) (l : Line) (s : Session) (n size : ℕ) (buf : List ℕ) (h : History) → SaysSome s q n size buf → n ≡ 0 → 0 < size → HasMade q l h → IsAnswered l h
  answered q l s n size buf h some none room made = all_answered q l h (silent s q n size buf some none room) made

  -- the connection was hung up
  hung_later : (p q : LanePeer M D gm gd) (l : Line) → HasTurned q.session (turned fresh []) → AsksOn p l q (hung_up l) (closing 0 (lane_of p.session).phase)
  hung_later p q l new first k was =
      let ends : History = closing 0 (lane_of p.session).phase in
      record {
        others = was.others ++ l.last ∷ [];
        earlier = k ++ ends;
        asked = [];
        line = ap (λ (xs : List Exchange). xs ++ l.last ∷ []) was.line ∙ append_assoc first was.others (l.last ∷ []);
        all = sym (append-nil (k ++ ends));
        past =
            subst (AskedInTurn (was.others ++ l.last ∷ [])) (sym (append_assoc was.earlier was.asked ends) ∙ ap (λ (x : History). x ++ ends) (sym was.all))
            (asked_more was.others l.last was.earlier (was.asked ++ ends) (reply_of p.session) was.past (record { asked = was.asked; last = lane_of p.session; asks = was.asks; ends = refl }) (λ e. (was.quiet e).0));
        asks = record { turns = 0; taken = (refl, new.reply, new.lane) };
        quiet = λ e. absurd (false≢true e);
      }

  pub hung_stands : (p q : LanePeer M D gm gd) (l : Line) → Extends p.core q.core (closing 0 (lane_of p.session).phase) → HasTurned q.session (turned fresh []) → (h : History) × HasMade p l h → (h : History) × HasMade q (hung_up l) h
  hung_stands p q l extends new =
      stands_more p q l (hung_up l) (closing 0 (lane_of p.session).phase) extends (powered_closing 0 (lane_of p.session).phase) (hung_later p q l new)

  pub hung_comes : (p q : LanePeer M D gm gd) (l : Line) → Extends p.core q.core (closing 0 (lane_of p.session).phase) → HasTurned q.session (turned fresh []) → Comes p l q (hung_up l)
  hung_comes p q l extends new =
      comes_by p q l (hung_up l) (closing 0 (lane_of p.session).phase) extends (powered_closing 0 (lane_of p.session).phase) (hung_later p q l new)

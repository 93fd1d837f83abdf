-- The Logout that nobody asked for, over a gate; and how serving has then ended.
use Rattle.std.proofs.Common.{◌≡◌, inl, inr, ℕ, ◌+◌, ◌<◌, ◌^◌, Bool, true, List, [], ◌∷◌, ◌++◌, Option, Some, None, refl, sym, ap, ◌∙◌, subst, arith, append_assoc}
use Rattle.std.proofs.lemmas.List.{append-nil}
use Rattle.pr_words.specs.declared.nexus.Nexus.{Nexus}
use Rattle.pr_model.specs.Entries as entries
use Rattle.pr_model.specs.Entries.{Entry, History, entry}
use Rattle.pr_model.specs.Lanes.{Lane}
use Rattle.pr_model.specs.Runs.{closing}
use Rattle.pr_model.specs.Sessions.{AreTurns, AsksFor, connection}
use Rattle.pr_model.proofs.SessionLaws.{turns_join}
use Rattle.pr_io.specs.declared.outside.Medium as media
use Rattle.pr_io.specs.declared.outside.Disk as disks
use Rattle.pr_core.specs.declared.target.Core.{Core}
use Rattle.pr_core.specs.View.{Extends, owner_of}
use Rattle.pr_core.specs.Shared.{Stands, ground_in}
use Rattle.pr_core.proofs.SharedLaws.{extends_stands}
use Rattle.pr_session.specs.declared.session_end.SessionEnd.{SessionEnd}
use Rattle.pr_session.specs.declared.session_end.SessionEnd.TheVariants.{Closed, Cut, Rejected, ReadFault, WriteFault, SpentFrames, SpentTicket, NoMemory}
use Rattle.pr_session.specs.declared.session_end.TheConstants.{FRAMES}
use Rattle.pr_session.specs.declared.state.State.{State}
use Rattle.pr_session.specs.declared.state.State.TheVariants as states
use Rattle.pr_session.specs.Coming.{Agrees}
use Rattle.pr_session.specs.States.{IsSettledIn, nexus_at, phase_of}
use Rattle.pr_session.specs.Ends.{Row, Over, Served, EndsBy, IsWithin, ComesOfEnd, MakesLast, closing_at, replies_in, frames_if}
use Rattle.pr_session.specs.Ends.{IsLogout, IsReject}
use Rattle.pr_model.specs.Lanes.{Turn}
use Rattle.pr_session.proofs.Counting.{replies-append}

-- what is logged out, by what a session has reached
pub closes_one : (who : ℕ) (s : State) (work : List ℕ) (n : Nexus) → IsSettledIn s → nexus_at s ≡ Some n → entry who n entries.Logout entries.Left ∷ [] ≡ closing who (phase_of s work)
closes_one who states.Fresh work n settled is = absurd cc
closes_one who (states.In m) work n settled is = let same : n ≡ m = cc in ap (λ (k : Nexus). entry who k entries.Logout entries.Left ∷ []) same
closes_one who (states.Busy m j) work n settled is = let same : n ≡ m = cc in ap (λ (k : Nexus). entry who k entries.Logout entries.Left ∷ []) same
closes_one who (states.Dead r) work n settled is = absurd cc
closes_one who (states.Asking a) work n settled is = absurd cc

pub closes_none : (who : ℕ) (s : State) (work : List ℕ) → nexus_at s ≡ None → [] ≡ closing who (phase_of s work)
closes_none who states.Fresh work none = refl
closes_none who (states.In n) work none = absurd cc
closes_none who (states.Busy n j) work none = absurd cc
closes_none who (states.Dead r) work none = refl
closes_none who (states.Asking a) work none = refl

module _ {M D : Type 0} {gm : media.Ghosts M} {gd : disks.Ghosts D} where
  -- a target that has what a session has reached knows its nexus by the number
  pub owner_by : (who : ℕ) (c : Core M D gm gd) (s : State) (work : List ℕ) (n : Nexus) → IsSettledIn s → nexus_at s ≡ Some n → Agrees (phase_of s work) who c → owner_of c n ≡ Some who
  owner_by who c states.Fresh work n settled is agrees = absurd cc
  owner_by who c (states.In m) work n settled is agrees = let same : n ≡ m = cc in ap (owner_of c) same ∙ agrees.0
  owner_by who c (states.Busy m j) work n settled is agrees = let same : n ≡ m = cc in ap (owner_of c) same ∙ agrees.owner
  owner_by who c (states.Dead r) work n settled is agrees = absurd cc
  owner_by who c (states.Asking a) work n settled is agrees = absurd cc

  -- it then stands for the Logout too
  pub out_stands : (who : ℕ) (n : Nexus) (old new given : Core M D gm gd) (seen : History) (made : Entry) → Extends old new (entry who n entries.Logout entries.Left ∷ []) → made ≡ entry who n entries.Logout entries.Left → old ≡ given → Stands given seen → Stands new (seen ++ made ∷ [])
  out_stands who n old new given seen made extends is same stands =
      subst (λ (e : Entry). Stands new (seen ++ e ∷ [])) (sym is)
      (extends_stands old new seen (entry who n entries.Logout entries.Left ∷ []) extends (tt, tt) (subst (λ (k : Core M D gm gd). Stands k seen) (sym same) stands))

  pub out_ground : (old new given : Core M D gm gd) (es : History) → Extends old new es → old ≡ given → ground_in given ≡ ground_in new
  out_ground old new given es extends same = ap (λ (k : Core M D gm gd). ground_in k) (sym same) ∙ sym (ground extends)
    where
      ground : Extends old new es → ground_in new ≡ ground_in old
      ground e i = record { kept = e.opening i; blocks = e.blocks i }

-- an end by a turn comes of what was asked for
ends_asks : (Last : Turn → Type 0) (who : ℕ) (read : List ℕ) (es : History) (replies : List ℕ) (m : Lane) → EndsBy Last who read es replies m → AsksFor who read es replies m
ends_asks Last who read es replies m ends =
    let one : AreTurns 1 who ends.before ends.entries ends.reply m =
    (ends.entries, ends.reply, m, [], [], ends.makes, (refl, refl, refl), sym (append-nil ends.entries), sym (append-nil ends.reply)) in
    let all = turns_join ends.asks.turns 1 who (connection read) ends.before m ends.earlier ends.entries ends.answers ends.reply ends.asks.taken one in
    subst (λ (h : History). AsksFor who read h replies m) (sym ends.all)
    (subst (λ (w : List ℕ). AsksFor who read (ends.earlier ++ ends.entries) w m) (sym ends.said) (record { turns = all.0; taken = all.1 }))

-- where the gate then gives no more turns, that is the end
pub row_spent : (end : SessionEnd) (ticket who : ℕ) (read : List ℕ) (es : History) (sent : List ℕ) (m : Lane) → Row end who read es sent m → Row (SpentTicket ticket) who read es sent m
row_spent Closed ticket who read es sent m row = elim row [ inl ends ↦ (m, inl (ends_asks IsLogout who read es sent m ends)) | inr rests ↦ (m, inl rests.0.asks) ]
row_spent (Cut place) ticket who read es sent m row = (m, inl row.0.asks)
row_spent (Rejected place reason) ticket who read es sent m row = (m, inl (ends_asks (IsReject place reason) who read es sent m row))
row_spent ReadFault ticket who read es sent m row = (m, inl row.asks)
row_spent WriteFault ticket who read es sent m row = (m, inr row)
row_spent SpentFrames ticket who read es sent m row = (m, inl row)
row_spent (SpentTicket other) ticket who read es sent m row = row
row_spent NoMemory ticket who read es sent m row = absurd row

within_spent : (end : SessionEnd) (ticket : ℕ) (l : Lane) (n : ℕ) → IsWithin end l n → IsWithin (SpentTicket ticket) l n
within_spent Closed ticket l n is = is.0
within_spent (Cut place) ticket l n is = omega (arith, is)
within_spent (Rejected place reason) ticket l n is = is
within_spent ReadFault ticket l n is = omega (arith, is)
within_spent WriteFault ticket l n is = is
within_spent SpentFrames ticket l n is = omega (arith, is)
within_spent (SpentTicket other) ticket l n is = is
within_spent NoMemory ticket l n is = is

module _ (who : ℕ) (rest rest_now written written_now : Option (List ℕ)) (own own_now : History) (m : Lane) where
  asked_within : (end : SessionEnd) (o : Over end who rest rest_now written written_now own own_now m) → ((n : ℕ) → replies_in own_now ≡ n + replies_in own → IsWithin end m n) → IsWithin end m (replies_in o.asked)
  asked_within end o within =
      let all : replies_in own_now ≡ replies_in own + replies_in o.asked = ap replies_in o.published ∙ replies-append own o.asked in
      within (replies_in o.asked) (omega (arith, all))

  closed_by : (own_then : History) (end : SessionEnd) (o : Over end who rest rest_now written written_now own own_now m) → ((n : ℕ) → replies_in own_now ≡ n + replies_in own → IsWithin end m n) → ComesOfEnd end m rest_now
      → own_then ≡ own_now ++ closing_at end who m → Served end who rest rest_now written written_now own own_then
  closed_by own_then end o within comes closes =
      record {
        read = o.read;
        asked = o.asked;
        sent = o.sent;
        last = m;
        took = o.took;
        put = o.put;
        row = o.row;
        within = asked_within end o within;
        comes = comes;
        published = closes ∙ ap (λ (h : History). h ++ closing_at end who m) o.published ∙ append_assoc own o.asked (closing_at end who m);
      }

  -- and a nexus that was logged in was logged out
  pub served_out : (own_then : History) (end : SessionEnd) → Over end who rest rest_now written written_now own own_now m → ((n : ℕ) → replies_in own_now ≡ n + replies_in own → IsWithin end m n) → ComesOfEnd end m rest_now → ((ticket : ℕ) → end ≡ SpentTicket ticket → ⊥)
      → own_then ≡ own_now ++ closing who m.phase → Served end who rest rest_now written written_now own own_then
  served_out own_then Closed o within comes unspent closes = closed_by own_then Closed o within comes closes
  served_out own_then (Cut place) o within comes unspent closes = closed_by own_then (Cut place) o within comes closes
  served_out own_then (Rejected place reason) o within comes unspent closes = closed_by own_then (Rejected place reason) o within comes closes
  served_out own_then ReadFault o within comes unspent closes = closed_by own_then ReadFault o within comes closes
  served_out own_then WriteFault o within comes unspent closes = closed_by own_then WriteFault o within comes closes
  served_out own_then SpentFrames o within comes unspent closes = closed_by own_then SpentFrames o within comes closes
  served_out own_then (SpentTicket ticket) o within comes unspent closes = absurd (unspent ticket refl)
  served_out own_then NoMemory o within comes unspent closes = absurd o.row

  -- or there was no turn for that
  pub served_spent : (own_then : History) (end : SessionEnd) (ticket : ℕ) → Over end who rest rest_now written written_now own own_now m → ((n : ℕ) → replies_in own_now ≡ n + replies_in own → IsWithin end m n)
      → own_then ≡ own_now → Served (SpentTicket ticket) who rest rest_now written written_now own own_then
  served_spent own_then end ticket o within same =
      record {
        read = o.read;
        asked = o.asked;
        sent = o.sent;
        last = m;
        took = o.took;
        put = o.put;
        row = row_spent end ticket who o.read o.asked o.sent m o.row;
        within = within_spent end ticket m (replies_in o.asked) (asked_within end o within);
        comes = tt;
        published = same ∙ o.published ∙ ap (λ (h : History). own ++ h) (sym (append-nil o.asked));
      }

  -- or the gate had given no turn before
  pub served_ticket : (end : SessionEnd) (ticket : ℕ) → end ≡ SpentTicket ticket → Over end who rest rest_now written written_now own own_now m → ((n : ℕ) → replies_in own_now ≡ n + replies_in own → IsWithin end m n) → Served end who rest rest_now written written_now own own_now
  served_ticket end ticket is o within =
      subst (λ (e : SessionEnd). Served e who rest rest_now written written_now own own_now) (sym is)
      (served_spent own_now end ticket o within refl)

-- how many frames were replied to, where a turn was the last
pub within_last : (end : SessionEnd) (l : Lane) (before now own n done : ℕ) → MakesLast end l before now → done < 2 ^ 32 → before ≡ done + own → now ≡ n + own → IsWithin end l n
within_last Closed l before now own n done made less was is = (omega (arith, made.0, less, was, is), λ lives. omega (arith, made.1 lives, less, was, is))
within_last (Cut place) l before now own n done made less was is = omega (arith, made, less, was, is)
within_last (Rejected place reason) l before now own n done made less was is = omega (arith, made, less, was, is)
within_last ReadFault l before now own n done made less was is = omega (arith, made, less, was, is)
within_last WriteFault l before now own n done made less was is = omega (arith, made, less, was, is)
within_last SpentFrames l before now own n done made less was is = absurd made
within_last (SpentTicket ticket) l before now own n done made less was is = omega (arith, made, less, was, is)
within_last NoMemory l before now own n done made less was is = omega (arith, made, less, was, is)

pub within_all : (b : Bool) (before now own n done : ℕ) → b ≡ true → now ≡ frames_if b + before → before ≡ done + own → done + 1 ≡ FRAMES → now ≡ n + own → n ≡ 2 ^ 32
within_all b before now own n done is made was all so =
    let here : done + 1 ≡ 2 ^ 32 = all in
    omega (arith, made ∙ ap (λ (x : Bool). frames_if x + before) is, was, here, so)

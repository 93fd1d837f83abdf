-- A peer that is a session with a target of its own: what it has heard and said, and the entries that its target has made (this project's own).
use Rattle.std.proofs.Common.{◌≡◌, ◌≤◌, ◌-◌, ◌^◌, ℕ, true, min, List, [], ◌∷◌, ◌++◌, length, refl, sym, ap, ◌∙◌, subst, append_assoc, arith}
use Rattle.std.proofs.lemmas.List.{append-nil}
use Rattle.pr_words.specs.declared.limits.TheConstants.{HELD}
use Rattle.pr_model.specs.Entries.{History}
use Rattle.pr_model.specs.Histories.{failures_in}
use Rattle.pr_model.specs.Lanes.{Lane, Phase, Dead, Idle, turn}
use Rattle.pr_model.specs.Sessions.{AsksFor, IsAsked, IsCutShort}
use Rattle.pr_io.specs.Lines.{Exchange, Line}
use Rattle.pr_io.specs.declared.outside.Medium as media
use Rattle.pr_io.specs.declared.outside.Disk as disks
use Rattle.pr_model.proofs.HistoryLaws.{failures-append}
use Rattle.pr_core.specs.View.{disk_of, faults_after}
use Rattle.pr_core.proofs.Entering.{faults_more}
use Rattle.pr_core.specs.Shared.{Stands, ground_in}
use Rattle.pr_session.specs.Sessions.{lane_of, reply_of}
use Rattle.pr_session.specs.declared.lane_peer.LanePeer.{LanePeer}

-- the number of a peer's session
abbrev pub peer_number : ℕ
peer_number = 0

-- how many bytes a lane has room to hear: a dead one drops them all
abbrev pub room_at : Phase → List ℕ → ℕ
room_at Dead held = HELD
room_at _ held = HELD - length held

abbrev pub room_of : Lane → ℕ
room_of l = room_at l.phase l.bytes

-- connections that were hung up asked for these entries, one connection after another; of the replies of each so much was said, and the rest is lost, which is nothing where there was nothing more to say
abbrev pub AskedInTurn : List Exchange → History → Type 0
AskedInTurn [] h = h ≡ []
AskedInTurn (x ∷ xs) h =
    (first : History) × (rest : History) × (lost : List ℕ) × IsCutShort peer_number x.heard first (x.said ++ lost) × (x.quiet ≡ true → lost ≡ []) × AskedInTurn xs rest × (h ≡ first ++ rest)

-- all that was heard was answered: the last connection asked for the last entries, and all replies to it were said
pub record IsAnswered (l : Line) (h : History) : Type 0 where
  pub earlier : History
  pub asked : History
  pub all : h ≡ earlier ++ asked
  pub past : AskedInTurn l.past earlier
  pub last : IsAsked peer_number l.last.heard asked l.last.said

module _ {M D : Type 0} {gm : media.Ghosts M} {gd : disks.Ghosts D} where
  -- the peer has heard and said this, and its target stands for these entries: those for which the connections asked that were hung up, and then those for which the last one has asked so far, whose replies were said but for the one that waits. Where there was nothing more to say, none waits, and all that was heard was looked at
  pub record HasMade (p : LanePeer M D gm gd) (l : Line) (h : History) : Type 0 where
    pub earlier : History
    pub asked : History
    pub all : h ≡ earlier ++ asked
    pub past : AskedInTurn l.past earlier
    pub asks : AsksFor peer_number l.last.heard asked (l.last.said ++ reply_of p.session) (lane_of p.session)
    pub quiet : l.last.quiet ≡ true → (reply_of p.session ≡ []) × (turn (lane_of p.session) ≡ Idle)
    pub stands : Stands p.core h

  -- behind these connections, which were hung up, the others asked for these entries, those of the last one so far among them; where there was nothing more to say, none waits
  pub record AsksBehind (first : List Exchange) (p : LanePeer M D gm gd) (l : Line) (k : History) : Type 0 where
    pub others : List Exchange
    pub earlier : History
    pub asked : History
    pub line : l.past ≡ first ++ others
    pub all : k ≡ earlier ++ asked
    pub past : AskedInTurn others earlier
    pub asks : AsksFor peer_number l.last.heard asked (l.last.said ++ reply_of p.session) (lane_of p.session)
    pub quiet : l.last.quiet ≡ true → (reply_of p.session ≡ []) × (turn (lane_of p.session) ≡ Idle)

  -- it has made entries that go on from these; since then its disk has failed once for each save that failed among the new ones
  pub record GoesOnFrom (p : LanePeer M D gm gd) (l : Line) (q : LanePeer M D gm gd) (m : Line) (h : History) : Type 0 where
    pub since : History
    pub made : HasMade q m (h ++ since)
    pub failed : gd.faults (disk_of q.core) ≡ faults_after (failures_in since) (gd.faults (disk_of p.core))
    -- whatever the connections behind some had asked for, they have asked for the new entries too
    pub later : (first : List Exchange) (k : History) → AsksBehind first p l k → AsksBehind first q m (k ++ since)

  -- the second peer, which has heard and said so much, comes from the first: its target was opened with the same, its disk's count hasn't fallen, and whatever entries the first has made, it has gone on from them
  pub record Comes (p : LanePeer M D gm gd) (l : Line) (q : LanePeer M D gm gd) (m : Line) : Type 0 where
    pub ground : ground_in q.core ≡ ground_in p.core
    pub count : min (gd.faults (disk_of p.core)) (2 ^ 64 - 1) ≤ gd.faults (disk_of q.core)
    pub goes : (h : History) → HasMade p l h → GoesOnFrom p l q m h

  -- coming from has no gap
  pub comes_at_once : (p : LanePeer M D gm gd) (l : Line) → Comes p l p l
  comes_at_once p l =
      record {
        ground = refl;
        count = least (gd.faults (disk_of p.core)) (2 ^ 64 - 1);
        goes = λ h made. record {
          since = [];
          made = subst (HasMade p l) (sym (append-nil h)) made;
          failed = refl;
          later = λ first k asks. subst (AsksBehind first p l) (sym (append-nil k)) asks;
        };
      }
    where
      least : (a limit : ℕ) → min a limit ≤ a
      least a limit = omega arith

  pub comes_later : (p q r : LanePeer M D gm gd) (l m n : Line) → Comes p l q m → Comes q m r n → Comes p l r n
  comes_later p q r l m n first second =
      record {
        ground = second.ground ∙ first.ground;
        count = later (gd.faults (disk_of p.core)) (gd.faults (disk_of q.core)) (gd.faults (disk_of r.core)) (2 ^ 64 - 1) first.count second.count;
        goes = λ h made. go_on h (first.goes h made);
      }
    where
      later : (a b c limit : ℕ) → min a limit ≤ b → min b limit ≤ c → min a limit ≤ c
      later a b c limit one two = omega (arith, one, two)

      join : (h : History) (one : GoesOnFrom p l q m h) → GoesOnFrom q m r n (h ++ one.since) → GoesOnFrom p l r n h
      join h one two =
          record {
            since = one.since ++ two.since;
            made = subst (HasMade r n) (append_assoc h one.since two.since) two.made;
            failed =
                two.failed ∙ ap (faults_after (failures_in two.since)) one.failed ∙ sym (faults_more (failures_in one.since) (failures_in two.since) (gd.faults (disk_of p.core)))
                ∙ ap (λ (k : ℕ). faults_after k (gd.faults (disk_of p.core))) (sym (failures-append one.since two.since));
            later = λ start k asks. subst (AsksBehind start r n) (append_assoc k one.since two.since) (two.later start (k ++ one.since) (one.later start k asks));
          }

      go_on : (h : History) → GoesOnFrom p l q m h → GoesOnFrom p l r n h
      go_on h one = join h one (second.goes (h ++ one.since) one.made)

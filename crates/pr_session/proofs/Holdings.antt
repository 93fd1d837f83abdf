-- A connection that is served turn by turn, from its beginning on.
use Rattle.std.proofs.Common.{◌≡◌, ℕ, List, [], ◌++◌, Option, sym, ap, ◌∙◌, subst, append_assoc}
use mathlib.Core.List.{IsPrefix}
use Rattle.std.proofs.lemmas.List.{append-nil}
use Rattle.pr_io.specs.declared.outside.Medium as media
use Rattle.pr_io.specs.declared.outside.Disk as disks
use Rattle.pr_core.specs.declared.ground.Ground.{Ground}
use Rattle.pr_model.specs.Entries.{History}
use Rattle.pr_model.specs.Lanes.{Lane, Phase, Fresh, Dead, fresh, turned}
use Rattle.pr_model.specs.Sessions.{AsksFor}
use Rattle.pr_session.specs.declared.session.Session.{Session}
use Rattle.pr_session.specs.declared.session_end.SessionEnd.TheVariants.{SpentFrames}
use Rattle.pr_session.specs.Sessions.{HasTurned, lane_of, reply_of}
use Rattle.pr_session.specs.Sharing.{WillAgree}
use Rattle.pr_session.specs.Ends.{Since, Over}
use Rattle.pr_session.proofs.Growing.{serves_asks}

fresh_lives : Fresh ≡ Dead → ⊥
fresh_lives is = absurd cc

pub new_lives : (s : Session) → HasTurned s (turned fresh []) → (lane_of s).phase ≡ Dead → ⊥
new_lives s new dead = fresh_lives (ap (λ (l : Lane). l.phase) (sym new.lane) ∙ dead)

pub new_agrees : {M D : Type 0} (gm : media.Ghosts M) (gd : disks.Ghosts D) (s : Session) (ground : Option Ground) (who : ℕ) (seen : History) → HasTurned s (turned fresh []) → WillAgree gm gd (lane_of s).phase ground who seen
new_agrees gm gd s ground who seen new = subst (λ (p : Phase). WillAgree gm gd p ground who seen) (ap (λ (l : Lane). l.phase) (sym new.lane)) (λ c since same stands others. tt)

-- one step more, by the number under which it is made
pub since_goes : (who w : ℕ) (rest r1 r2 written w1 w2 : Option (List ℕ)) (own o1 o2 : History) (s t : Session) → w ≡ who → (Since w rest r1 written w1 own o1 s → Since w rest r2 written w2 own o2 t) → Since who rest r1 written w1 own o1 s → Since who rest r2 written w2 own o2 t
since_goes who w rest r1 r2 written w1 w2 own o1 o2 s t same goes since =
    subst (λ (n : ℕ). Since n rest r2 written w2 own o2 t) same (goes (subst (λ (n : ℕ). Since n rest r1 written w1 own o1 s) (sym same) since))

-- as many frames as may be were replied to
pub over_frames : (who : ℕ) (rest r1 written w1 : Option (List ℕ)) (own o1 : History) (s : Session) → Since who rest r1 written w1 own o1 s → reply_of s ≡ [] → Over SpentFrames who rest r1 written w1 own o1 (lane_of s)
over_frames who rest r1 written w1 own o1 s since replied =
    record {
      read = since.read;
      asked = since.asked;
      sent = since.sent;
      took = since.took;
      put = since.put;
      published = since.published;
      row = subst (λ (w : List ℕ). AsksFor who since.read since.asked w (lane_of s)) (ap (λ (w : List ℕ). since.sent ++ w) replied ∙ append-nil since.sent)
          (serves_asks who since.read since.asked (since.sent ++ reply_of s) (lane_of s) since.serves);
    }

pub prefix_trans : (xs ys zs : History) → IsPrefix xs ys → IsPrefix ys zs → IsPrefix xs zs
prefix_trans xs ys zs one two = (one.0 ++ two.0, sym (append_assoc xs one.0 two.0) ∙ ap (λ (h : History). h ++ two.0) one.1 ∙ two.1)

-- What a session has reached, said as one fact and with its parts.
use Rattle.std.proofs.Common.{◌≡◌, ℕ, Option, Some, None, refl, sym, subst}
use Rattle.pr_words.specs.declared.task.Way.{Way}
use Rattle.pr_words.specs.declared.task.Way.TheVariants as ways
use Rattle.pr_model.specs.Lanes.{Phase, Fresh, In, Busy, Dead}
use Rattle.pr_io.specs.declared.outside.Medium as media
use Rattle.pr_io.specs.declared.outside.Disk as disks
use Rattle.pr_core.specs.declared.target.Core.{Core}
use Rattle.pr_core.specs.States.{Progress}
use Rattle.pr_core.specs.View.{progress_of}
use Rattle.pr_session.specs.Coming.{Agrees, RunsTask}
use Rattle.pr_session.specs.Reached.{IsAtRest, IsSameWay, HasComeTo, HasReached}

one_way : (a : Way) → IsSameWay a a
one_way ways.Read = tt
one_way ways.Write = tt

way_is : (a b : Way) → IsSameWay a b → a ≡ b
way_is ways.Read ways.Read same = refl
way_is ways.Read ways.Write same = absurd same
way_is ways.Write ways.Read same = absurd same
way_is ways.Write ways.Write same = refl

rests : (o : Option Progress) → IsAtRest o → o ≡ None
rests None rest = refl
rests (Some p) rest = absurd rest

module _ {M D : Type 0} {gm : media.Ghosts M} {gd : disks.Ghosts D} where
  pub reached_by : (p : Phase) (who : ℕ) (c : Core M D gm gd) → Agrees p who c → HasReached p who c
  reached_by Fresh who c agrees = tt
  reached_by (In n) who c agrees = (agrees.0, subst IsAtRest (sym agrees.1) tt)
  reached_by (Busy n j) who c agrees =
      (agrees.owner, subst (λ (o : Option Progress). HasComeTo o j) (sym agrees.runs) (subst (IsSameWay agrees.progress.way) agrees.way (one_way agrees.progress.way), agrees.come, agrees.few))
  reached_by Dead who c agrees = tt

  pub agrees_by : (p : Phase) (who : ℕ) (c : Core M D gm gd) → HasReached p who c → Agrees p who c
  agrees_by Fresh who c reached = tt
  agrees_by (In n) who c reached = (reached.0, rests (progress_of c n) reached.1)
  agrees_by (Busy n j) who c reached = by (progress_of c n) refl reached.1
    where
      by : (o : Option Progress) → progress_of c n ≡ o → HasComeTo o j → RunsTask c who n j
      by None is come = absurd come
      by (Some p) is come = record { owner = reached.0; progress = p; runs = is; way = way_is p.way j.way come.0; come = come.1; few = come.2 }
  agrees_by Dead who c reached = tt

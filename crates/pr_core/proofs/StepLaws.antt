-- A step of a task moves the worlds.
use Rattle.std.proofs.Common.{◌≡◌, ℕ, ◌==◌, ◌<◌, Bool, true, false, cond, List, length, Option, Some, None, Result, Ok, Err, IfSome, is_some, inl, inr, refl, sym, ap, ◌∙◌, subst, arith, lit<}
use Rattle.std.proofs.lemmas.Bool.{true≢false, eqb-true, eqb-false}
use Rattle.pr_words.specs.declared.nexus.Nexus.{Nexus}
use Rattle.pr_words.specs.declared.code.Code.{Code}
use Rattle.pr_words.specs.declared.task.Way.{Way}
use Rattle.pr_words.specs.declared.task.Way.TheVariants as ways
use Rattle.pr_model.specs.Worlds.{Blocks, World, Task, set_at}
use Rattle.pr_model.specs.Tasks.{next_block, advanced, medium_error}
use Rattle.pr_model.specs.Steps.{MayGive, MayStep, with_block, failed_block, stepped}
use Rattle.pr_model.specs.Histories.{AreBlocksOf}
use Rattle.pr_io.specs.Contents.{ReadsBlock, WritesBlock}
use Rattle.pr_tasks.specs.declared.step_out.StepOut.{StepOut}
use Rattle.pr_tasks.specs.declared.step_out.StepOut.TheVariants as steps
use Rattle.pr_tasks.specs.Steps.{Steps}
use Rattle.pr_core.specs.declared.seats.Seat.{Seat}
use Rattle.pr_core.specs.Seats.{task_in}
use Rattle.pr_core.specs.States.{progress_in}
use Rattle.pr_core.specs.Fitting.{Fits}
use Rattle.pr_core.specs.Stepping.{Did, HasWithin, task_after}
use Rattle.pr_core.specs.Outs.{step_out, IsCarried, Progresses}

-- what holds of a task holds of the one that there is
pub the_task : (P Q : Task → Type 0) (o : Option Task) → is_some (progress_in o) ≡ true → IfSome o P → IfSome o Q → (t : Task) × (o ≡ Some t) × P t × Q t
the_task P Q None is p q = absurd cc
the_task P Q (Some t) is p q = (t, refl, p, q)

pub seat_there : (o : Option Seat) (t : Task) → task_in o ≡ Some t → is_some o ≡ true
seat_there None t is = absurd cc
seat_there (Some s) t is = refl

pub fits_after : (blocks : ℕ) (out : StepOut) (t u : Task) → Fits blocks t → task_after out t ≡ Some u → Fits blocks u
fits_after blocks (steps.Wrote lba) t u fit is = let same : advanced t ≡ u = cc in subst (Fits blocks) same (record { within = fit.within; few = fit.few })
fits_after blocks (steps.Read lba) t u fit is = let same : advanced t ≡ u = cc in subst (Fits blocks) same (record { within = fit.within; few = fit.few })
fits_after blocks (steps.Fault code) t u fit is = absurd cc
fits_after blocks steps.Done t u fit is = absurd cc
fits_after blocks steps.Aborted t u fit is = absurd cc

error_key : (way : Way) → (medium_error way).key < 16
error_key ways.Read = lit< tt
error_key ways.Write = lit< tt

pub progresses : (out : StepOut) (t now : Task) → Steps t out now → Progresses out (progress_in (Some t)) (progress_in (task_after out t))
progresses (steps.Wrote lba) t now s = (s.1, s.0.more, refl)
progresses (steps.Read lba) t now s = (s.1, s.0.more, refl)
progresses (steps.Fault code) t now s = (subst (λ (c : Code). c.key < 16) (sym s.1) (error_key t.way), refl)
progresses steps.Done t now s = (s.1, refl)
progresses steps.Aborted t now s = refl

abbrev wrote : Result (Unit {0}) Code
wrote = Ok tt

abbrev faulted : Code → Result (Unit {0}) Code
faulted code = Err code

-- a medium that holds what is known goes on to, after a write, a read and a write that failed

blocks_written : (before after : Option (ℕ → List ℕ)) (m : Blocks) (lba : ℕ) (given sent : List ℕ) → WritesBlock before after lba wrote given → sent ≡ given → AreBlocksOf before m → AreBlocksOf after (with_block m lba (Some sent))
blocks_written None after m lba given sent writes carried holds = subst (λ (o : Option (ℕ → List ℕ)). AreBlocksOf o (with_block m lba (Some sent))) (sym writes) holds
blocks_written (Some b) None m lba given sent writes carried holds = absurd writes
blocks_written (Some b) (Some a) m lba given sent writes carried holds = λ other bytes. by other bytes (other == lba) refl
  where
    by : (other : ℕ) (bytes : List ℕ) (k : Bool) → (other == lba) ≡ k → cond k (Some sent) (m.at other) ≡ Some bytes → a other ≡ bytes
    by other bytes true e is = let same : sent ≡ bytes = cc in ap a (eqb-true other lba e) ∙ writes.0 ∙ sym carried ∙ same
    by other bytes false e is = writes.1 other (eqb-false other lba e) ∙ holds other bytes is

blocks_read : (held : Option (ℕ → List ℕ)) (m : Blocks) (lba : ℕ) (left : List ℕ) → ReadsBlock held lba wrote left → AreBlocksOf held m → AreBlocksOf held (with_block m lba (Some left))
blocks_read None m lba left reads holds = holds
blocks_read (Some h) m lba left reads holds = λ other bytes. by other bytes (other == lba) refl
  where
    by : (other : ℕ) (bytes : List ℕ) (k : Bool) → (other == lba) ≡ k → cond k (Some left) (m.at other) ≡ Some bytes → h other ≡ bytes
    by other bytes true e is = let same : left ≡ bytes = cc in ap h (eqb-true other lba e) ∙ sym reads ∙ same
    by other bytes false e is = holds other bytes is

blocks_given : (held : Option (ℕ → List ℕ)) (m : Blocks) (lba : ℕ) (left : List ℕ) → ReadsBlock held lba wrote left → AreBlocksOf held m → MayGive m lba left
blocks_given None m lba left reads holds tells known is = absurd (true≢false (sym tells ∙ holds))
blocks_given (Some h) m lba left reads holds tells known is = reads ∙ holds lba known is

blocks_failed : (before after : Option (ℕ → List ℕ)) (m : Blocks) (lba : ℕ) (code : Code) (given : List ℕ) → WritesBlock before after lba (faulted code) given → AreBlocksOf before m → AreBlocksOf after (with_block m lba None)
blocks_failed None after m lba code given writes holds = subst (λ (o : Option (ℕ → List ℕ)). AreBlocksOf o (with_block m lba None)) (sym writes) holds
blocks_failed (Some b) None m lba code given writes holds = absurd writes
blocks_failed (Some b) (Some a) m lba code given writes holds = λ other bytes. by other bytes (other == lba) refl
  where
    by : (other : ℕ) (bytes : List ℕ) (k : Bool) → (other == lba) ≡ k → cond k None (m.at other) ≡ Some bytes → a other ≡ bytes
    by other bytes true e is = absurd cc
    by other bytes false e is = writes.1 other (eqb-false other lba e) ∙ holds other bytes is

same_blocks : (before after : Option (ℕ → List ℕ)) (m : Blocks) → after ≡ before → AreBlocksOf before m → AreBlocksOf after m
same_blocks before after m same holds = subst (λ (o : Option (ℕ → List ℕ)). AreBlocksOf o m) (sym same) holds

pub has_within : (count blocks : ℕ) (o : Option Task) → is_some (progress_in o) ≡ true → ((t : Task) → o ≡ Some t → Fits blocks t) → count ≡ blocks → HasWithin count o
has_within count blocks None is fit same = absurd cc
has_within count blocks (Some t) is fit same = omega (arith, (fit t refl).within, same)

-- the world after a step: another medium of as many blocks, and the task as it was left
pub record Moves (w : World) (n : Nexus) (t : Task) (sent : List ℕ) (out : StepOut) (after : Option (ℕ → List ℕ)) (left : List ℕ) : Type 0 where
  pub may : MayStep w.medium t sent (step_out out left)
  pub medium : Blocks
  pub count : medium.count ≡ w.medium.count
  pub holds : AreBlocksOf after medium
  pub world : stepped w n t sent (step_out out left) ≡ record w { medium = medium; task = set_at w.task n (task_after out t) }

pub moves : (w : World) (n : Nexus) (t : Task) (sent : List ℕ) (out : StepOut) (before after : Option (ℕ → List ℕ)) (given left : List ℕ) → Did t out before after given left → IsCarried out sent given → AreBlocksOf before w.medium
    → Moves w n t sent out after left
moves w n t sent (steps.Wrote lba) before after given left did carried holds =
    let s = did.steps in
    record {
      may = (s.0, s.1, ap length carried ∙ did.given_long);
      medium = with_block w.medium (next_block t) (Some sent);
      count = refl;
      holds = blocks_written before after w.medium (next_block t) given sent (did.writes s.0 s.1) carried holds;
      world = refl;
    }
moves w n t sent (steps.Read lba) before after given left did carried holds =
    let s = did.steps in
    record {
      may = (s.0, s.1, did.left_long, blocks_given before w.medium (next_block t) left (did.reads s.0 s.1) holds);
      medium = with_block w.medium (next_block t) (Some left);
      count = refl;
      holds = same_blocks before after (with_block w.medium (next_block t) (Some left)) (did.held s.1) (blocks_read before w.medium (next_block t) left (did.reads s.0 s.1) holds);
      world = refl;
    }
moves w n t sent (steps.Fault code) before after given left did carried holds =
    let s = did.steps in
    record {
      may = (s.0, s.1);
      medium = failed_block t.way w.medium (next_block t);
      count = same_count t.way;
      holds = by t.way refl;
      world = refl;
    }
  where
    same_count : (way : Way) → (failed_block way w.medium (next_block t)).count ≡ w.medium.count
    same_count ways.Read = refl
    same_count ways.Write = refl

    by : (way : Way) → t.way ≡ way → AreBlocksOf after (failed_block way w.medium (next_block t))
    by ways.Read is = same_blocks before after w.medium (did.held is) holds
    by ways.Write is = blocks_failed before after w.medium (next_block t) code given (did.writes did.steps.0 is) holds
moves w n t sent steps.Done before after given left did carried holds =
    let s = did.steps in record { may = (s.0, s.1); medium = w.medium; count = refl; holds = same_blocks before after w.medium (did.idle (inr s.1)) holds; world = refl }
moves w n t sent steps.Aborted before after given left did carried holds =
    let s = did.steps in record { may = s.0; medium = w.medium; count = refl; holds = same_blocks before after w.medium (did.idle (inl s.0)) holds; world = refl }

-- A core that threads share goes on standing for their history.
use Rattle.std.proofs.Common.{◌≡◌, ℕ, zero, suc, ◌+◌, ◌-◌, ◌^◌, ◌<◌, Bool, true, false, List, [], ◌∷◌, ◌++◌, Option, Some, None, is_some, refl, sym, ap, ◌∙◌, subst, arith}
use Rattle.std.proofs.lemmas.Bool.{false≢true}
use Rattle.pr_words.specs.declared.nexus.Nexus.{Nexus}
use Rattle.pr_words.specs.declared.limits.TheConstants.{LIMIT}
use Rattle.pr_model.specs.Worlds.{Blocks, World, opened}
use Rattle.pr_model.specs.Registrants.{IsWellFormed}
use Rattle.pr_model.specs.Entries.{History}
use Rattle.pr_model.specs.Histories.{moved, after, IsLegalFrom, AreBlocksOf, faults_in, failures_in}
use Rattle.pr_model.proofs.HistoryLaws.{after-append, legal-append, faults-append, failures-append}
use Rattle.pr_model.proofs.Walk.{legal_is_fenced}
use Rattle.pr_io.specs.Causes.{next_fault}
use Rattle.pr_io.specs.declared.outside.Medium as media
use Rattle.pr_io.specs.declared.outside.Disk as disks
use Rattle.pr_core.specs.declared.target.Core.{Core}
use Rattle.pr_core.specs.declared.ground.Ground.{Ground}
use Rattle.pr_core.specs.View.{StandsFor, Extends, medium_of, disk_of, blocks_of, opening_of, owner_of, progress_of, faults_after}
use Rattle.pr_core.specs.States.{progress_in}
use Rattle.pr_grammar.specs.Standings.{Standing}
use Rattle.pr_core.specs.Shared.{unknown, opened_on, MayTell, OnOpening, ArePowered, AreOthers, IsRightOn, ground_in, Stands}
use Rattle.pr_core.proofs.Entering.{faults_rose}
use Rattle.pr_core.proofs.Others.{others_leave}
use Rattle.pr_core.proofs.Restoring.{formed_of}

pub powered-append : (h k : History) → ArePowered h → ArePowered k → ArePowered (h ++ k)
powered-append [] k first second = second
powered-append (e ∷ h) k first second = (first.0, powered-append h k first.1 second)

pub powered-rest : (h k : History) → ArePowered (h ++ k) → ArePowered k
powered-rest [] k all = all
powered-rest (e ∷ h) k all = powered-rest h k all.1

legal-rest : (w : World) (h k : History) → IsLegalFrom w (h ++ k) → IsLegalFrom (after w h) k
legal-rest w [] k legal = legal
legal-rest w (e ∷ h) k legal = legal-rest (moved w e) h k legal.1

after-faults : (a b count : ℕ) → faults_after b (faults_after a count) ≡ faults_after (a + b) count
after-faults zero b count = let same : b ≡ 0 + b = omega arith in ap (λ (k : ℕ). faults_after k count) same
after-faults (suc a) b count = let same : suc (a + b) ≡ suc a + b = omega arith in after-faults a b (next_fault count) ∙ ap (λ (k : ℕ). faults_after k count) same

-- a count that is zero has never risen
none-failed : (k since : ℕ) → faults_after k since ≡ 0 → k ≡ 0
none-failed k since none =
    let less : faults_after k since < 2 ^ 64 - 1 = omega (arith, none) in
    let all : faults_after k since ≡ since + k = faults_rose k since less in
    omega (arith, none, all)

not_told : {M : Type 0} (gm : media.Ghosts M) → MayTell gm false
not_told gm is = absurd (false≢true is)

module _ {M D : Type 0} {gm : media.Ghosts M} {gd : disks.Ghosts D} where
  -- one that was just opened
  pub opened_stands : (c : Core M D gm gd) (told : Bool)
      → ((m : Blocks) (tells : Bool) → m.count ≡ blocks_of c → AreBlocksOf (gm.contents (medium_of c)) m → (tells ≡ true → told ≡ true) → StandsFor c (opened m tells (opening_of c))) → Stands c []
  opened_stands c told stands =
      record {
        formed = λ tells may. formed (opened_on (ground_in c) tells) (opens tells may);
        legal = λ tells may. tt;
        stands = opens;
        powered = tt;
        faults = (gm.faults (medium_of c), refl);
        failures = (gd.faults (disk_of c), refl);
      }
    where
      formed : (w : World) → StandsFor c w → IsWellFormed LIMIT w.standing
      formed w is = subst (λ (s : Standing). IsWellFormed LIMIT s) (sym (ap (λ (v : World). v.standing) is.0.world)) (formed_of c.state)

      blocks : (o : Option (ℕ → List ℕ)) → gm.contents (medium_of c) ≡ o → (tells : Bool) → MayTell gm tells → AreBlocksOf o (unknown (blocks_of c) tells)
      blocks (Some held) is tells may = λ lba bytes at. absurd cc
      blocks None is false may = refl
      blocks None is true may = absurd (false≢true (ap is_some (sym is) ∙ may refl (medium_of c)))

      opens : OnOpening gm (ground_in c) (λ w. StandsFor c w)
      opens tells may = stands (unknown (blocks_of c) tells) false refl (blocks (gm.contents (medium_of c)) refl tells may) (λ is. absurd (false≢true is))

  same_ground : (old new : Core M D gm gd) → blocks_of new ≡ blocks_of old → opening_of new ≡ opening_of old → ground_in new ≡ ground_in old
  same_ground old new blocks opening i = record { kept = opening i; blocks = blocks i }

  -- one that has made entries
  pub extends_stands : (old new : Core M D gm gd) (h es : History) → Extends old new es → ArePowered es → Stands old h → Stands new (h ++ es)
  extends_stands old new h es extends powered stands =
      let same : ground_in new ≡ ground_in old = same_ground old new extends.blocks extends.opening in
      record {
        formed = subst (λ (g : Ground). OnOpening gm g (λ w. IsWellFormed LIMIT w.standing)) (sym same) stands.formed;
        legal = subst (λ (g : Ground). OnOpening gm g (λ w. IsLegalFrom w (h ++ es))) (sym same) (λ tells may.
            let w : World = opened_on (ground_in old) tells in legal-append w h es (stands.legal tells may) (extends.legal (after w h) (stands.stands tells may)));
        stands = subst (λ (g : Ground). OnOpening gm g (λ w. StandsFor new (after w (h ++ es)))) (sym same) (λ tells may.
            let w : World = opened_on (ground_in old) tells in subst (StandsFor new) (sym (after-append w h es)) (extends.leads (after w h) (stands.stands tells may)));
        powered = powered-append h es stands.powered powered;
        faults = (stands.faults.0, extends.counted ∙ ap (faults_after (faults_in es)) stands.faults.1 ∙ after-faults (faults_in h) (faults_in es) stands.faults.0 ∙ ap (λ k. faults_after k stands.faults.0) (sym (faults-append h es)));
        failures = (stands.failures.0, extends.saved ∙ ap (faults_after (failures_in es)) stands.failures.1 ∙ after-faults (failures_in h) (failures_in es) stands.failures.0 ∙ ap (λ k. faults_after k stands.failures.0) (sym (failures-append h es)));
      }

  -- and what it stands for is right
  pub stands_right : (c : Core M D gm gd) (h : History) → Stands c h → IsRightOn gm gd (ground_in c) h
  stands_right c h stands =
      record {
        formed = stands.formed;
        legal = stands.legal;
        fenced = λ tells may. legal_is_fenced (opened_on (ground_in c) tells) h (stands.formed tells may).sound (stands.legal tells may);
        powered = stands.powered;
        faults = λ never. none-failed (faults_in h) stands.faults.0 (sym stands.faults.1 ∙ never (medium_of c));
        failures = λ never. none-failed (failures_in h) stands.failures.0 (sym stands.failures.1 ∙ never (disk_of c));
      }

  owner_is : (c : Core M D gm gd) (w : World) (n : Nexus) → StandsFor c w → w.owner n ≡ owner_of c n
  owner_is c w n is = ap (λ (v : World). v.owner n) is.0.world

  progress_is : (c : Core M D gm gd) (w : World) (n : Nexus) → StandsFor c w → progress_in (w.task n) ≡ progress_of c n
  progress_is c w n is = ap (λ (v : World). progress_in (v.task n)) is.0.world

  -- what a number has logged in stays so while others make entries, and its task as far as it had come
  pub others_stay : (c d : Core M D gm gd) (h since : History) (who : ℕ) (n : Nexus) → ground_in d ≡ ground_in c → Stands c h → Stands d (h ++ since) → AreOthers who since → owner_of c n ≡ Some who
      → (owner_of d n ≡ Some who) × (progress_of d n ≡ progress_of c n)
  others_stay c d h since who n same before now others owns =
      let w : World = opened_on (ground_in c) false in
      let legal : IsLegalFrom w (h ++ since) = subst (λ (g : Ground). IsLegalFrom (opened_on g false) (h ++ since)) same (now.legal false (not_told gm)) in
      let is_now : StandsFor d (after (after w h) since) = subst (StandsFor d) (after-append w h since) (subst (λ (g : Ground). StandsFor d (after (opened_on g false) (h ++ since))) same (now.stands false (not_told gm))) in
      let was : StandsFor c (after w h) = before.stands false (not_told gm) in
      let left = others_leave (after w h) since who n (legal-rest w h since legal) (powered-rest h since now.powered) others (owner_is c (after w h) n was ∙ owns) in
      (sym (owner_is d (after (after w h) since) n is_now) ∙ left.0, sym (progress_is d (after (after w h) since) n is_now) ∙ left.1 ∙ progress_is c (after w h) n was)

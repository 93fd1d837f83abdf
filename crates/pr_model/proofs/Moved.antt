-- What stands in a block after a history.
use Rattle.std.proofs.Common.{◌≡◌, ℕ, ◌==◌, Bool, true, false, cond, List, [], ◌∷◌, Option, Some, None, refl, sym, ap, ◌∙◌, subst}
use Rattle.std.proofs.lemmas.Bool.{eqb-true, eq-eqb}
use Rattle.pr_words.specs.declared.nexus.Nexus.{Nexus}
use Rattle.pr_words.specs.declared.task.Way.{Way}
use Rattle.pr_words.specs.declared.task.Way.TheVariants as ways
use Rattle.pr_model.specs.Worlds.{Blocks, World, Task}
use Rattle.pr_model.specs.Tasks.{next_block}
use Rattle.pr_model.specs.Entries as entries
use Rattle.pr_model.specs.Entries.{Act, Out, Entry, History, Login, Command, Step, Logout, Power, Started, Ended}
use Rattle.pr_model.specs.Steps.{with_block, failed_block, stepped_in}
use Rattle.pr_model.specs.Histories.{moved, moved_by, after}
use Rattle.pr_model.specs.BlockLaws.{Leaves, ActLeaves, Touches, SparedStay, LastDecides}
use Rattle.pr_model.specs.Laws.{OnlyStepsMove}
use Rattle.pr_model.proofs.Sizes.{IsStep, others_keep}
use Rattle.pr_model.proofs.HistoryLaws.{after-append}

pub only_steps_move : OnlyStepsMove
only_steps_move w who n act out other = (others_keep w who n act out (no_step act other)).0
  where
    no_step : (act : Act) → ((sent : List ℕ) → act ≡ Step sent → ⊥) → IsStep act → ⊥
    no_step (Login version) other s = s
    no_step (Command lun cdb sent) other s = s
    no_step (Step sent) other s = other sent refl
    no_step Logout other s = s
    no_step Power other s = s

-- the block that is written, and each other

put_here : (m : Blocks) (at lba : ℕ) (v : Option (List ℕ)) → at ≡ lba → (with_block m at v).at lba ≡ v
put_here m at lba v e = rw (eq-eqb lba at (sym e)) refl

put_elsewhere : (m : Blocks) (at lba : ℕ) (v : Option (List ℕ)) → (at ≡ lba → ⊥) → (with_block m at v).at lba ≡ m.at lba
put_elsewhere m at lba v other = by (lba == at) refl
  where
    by : (b : Bool) → (lba == at) ≡ b → cond b v (m.at lba) ≡ m.at lba
    by true e = absurd (other (sym (eqb-true lba at e)))
    by false e = refl

failed_here : (way : Way) (m : Blocks) (lba : ℕ) (sent : List ℕ) (code : _) (now : Option (List ℕ)) (at : ℕ) → at ≡ lba → Leaves way sent (entries.Fault code) now → (failed_block way m at).at lba ≡ now
failed_here ways.Write m lba sent code now at here leaves = put_here m at lba None here ∙ sym leaves
failed_here ways.Read m lba sent code now at here leaves = absurd leaves

failed_elsewhere : (way : Way) (m : Blocks) (lba : ℕ) (sent : List ℕ) (code : _) (at : ℕ) → ((now : Option (List ℕ)) → at ≡ lba → Leaves way sent (entries.Fault code) now → ⊥) → (failed_block way m at).at lba ≡ m.at lba
failed_elsewhere ways.Write m lba sent code at other = put_elsewhere m at lba None (λ here. other None here refl)
failed_elsewhere ways.Read m lba sent code at other = refl

step_here : (w : World) (n : Nexus) (o : Option Task) (t : Task) (sent : List ℕ) (out : Out) (lba : ℕ) (now : Option (List ℕ)) → o ≡ Some t → next_block t ≡ lba → Leaves t.way sent out now → (stepped_in w n o sent out).medium.at lba ≡ now
step_here w n None t sent out lba now is here leaves = absurd cc
step_here w n (Some u) t sent out lba now is here leaves =
    let same : u ≡ t = cc in
    by out (subst (λ (x : Task). next_block x ≡ lba) (sym same) here) (subst (λ (x : Task). Leaves x.way sent out now) (sym same) leaves)
  where
    by : (out : Out) → next_block u ≡ lba → Leaves u.way sent out now → (stepped_in w n (Some u) sent out).medium.at lba ≡ now
    by entries.Wrote here leaves = put_here w.medium (next_block u) lba (Some sent) here ∙ sym leaves
    by (entries.Read bytes) here leaves = put_here w.medium (next_block u) lba (Some bytes) here ∙ sym leaves
    by (entries.Fault code) here leaves = failed_here u.way w.medium lba sent code now (next_block u) here leaves
    by entries.Done here leaves = absurd leaves
    by entries.Aborted here leaves = absurd leaves
    by (entries.Login_code code) here leaves = absurd leaves
    by (Ended status sense data_in) here leaves = absurd leaves
    by (Started way) here leaves = absurd leaves
    by entries.Left here leaves = absurd leaves
    by (entries.Restored value) here leaves = absurd leaves

step_elsewhere : (w : World) (n : Nexus) (o : Option Task) (sent : List ℕ) (out : Out) (lba : ℕ) → ((t : Task) (now : Option (List ℕ)) → o ≡ Some t → next_block t ≡ lba → Leaves t.way sent out now → ⊥)
    → (stepped_in w n o sent out).medium.at lba ≡ w.medium.at lba
step_elsewhere w n None sent out lba other = refl
step_elsewhere w n (Some t) sent entries.Wrote lba other = put_elsewhere w.medium (next_block t) lba (Some sent) (λ here. other t (Some sent) refl here refl)
step_elsewhere w n (Some t) sent (entries.Read bytes) lba other = put_elsewhere w.medium (next_block t) lba (Some bytes) (λ here. other t (Some bytes) refl here refl)
step_elsewhere w n (Some t) sent (entries.Fault code) lba other = failed_elsewhere t.way w.medium lba sent code (next_block t) (λ now here leaves. other t now refl here leaves)
step_elsewhere w n (Some t) sent entries.Done lba other = refl
step_elsewhere w n (Some t) sent entries.Aborted lba other = refl
step_elsewhere w n (Some t) sent (entries.Login_code code) lba other = refl
step_elsewhere w n (Some t) sent (Ended status sense data_in) lba other = refl
step_elsewhere w n (Some t) sent (Started way) lba other = refl
step_elsewhere w n (Some t) sent entries.Left lba other = refl
step_elsewhere w n (Some t) sent (entries.Restored value) lba other = refl

touched : (w : World) (e : Entry) (lba : ℕ) (now : Option (List ℕ)) → Touches w e lba now → (moved w e).medium.at lba ≡ now
touched w e lba now t = by e.who e.nexus e.act e.out t.runs t.leaves
  where
    by : (who : ℕ) (n : Nexus) (act : Act) (out : Out) → w.task n ≡ Some t.task → ActLeaves t.task.way act out now → (moved_by w who n act out).medium.at lba ≡ now
    by who n (Step sent) out runs leaves = step_here w n (w.task n) t.task sent out lba now runs t.here leaves
    by who n (Login version) out runs leaves = absurd leaves
    by who n (Command lun cdb sent) out runs leaves = absurd leaves
    by who n Logout out runs leaves = absurd leaves
    by who n Power out runs leaves = absurd leaves

spared : (w : World) (e : Entry) (lba : ℕ) → ((now : Option (List ℕ)) → Touches w e lba now → ⊥) → (moved w e).medium.at lba ≡ w.medium.at lba
spared w e lba none = by e.who e.nexus e.act e.out (λ t now runs here leaves. none now (record { task = t; runs = runs; here = here; leaves = leaves }))
  where
    by : (who : ℕ) (n : Nexus) (act : Act) (out : Out) → ((t : Task) (now : Option (List ℕ)) → w.task n ≡ Some t → next_block t ≡ lba → ActLeaves t.way act out now → ⊥) → (moved_by w who n act out).medium.at lba ≡ w.medium.at lba
    by who n (Step sent) out other = step_elsewhere w n (w.task n) sent out lba other
    by who n (Login version) out other = ap (λ (m : Blocks). m.at lba) (others_keep w who n (Login version) out (λ x. x)).0
    by who n (Command lun cdb sent) out other = ap (λ (m : Blocks). m.at lba) (others_keep w who n (Command lun cdb sent) out (λ x. x)).0
    by who n Logout out other = refl
    by who n Power out other = ap (λ (m : Blocks). m.at lba) (others_keep w who n Power out (λ x. x)).0

pub spared_stay : SparedStay
spared_stay w [] lba none = refl
spared_stay w (e ∷ es) lba none = spared_stay (moved w e) es lba none.1 ∙ spared w e lba none.0

pub last_decides : LastDecides
last_decides w before e behind lba now t none =
    ap (λ (v : World). v.medium.at lba) (after-append w before (e ∷ behind)) ∙ spared_stay (moved (after w before) e) behind lba none ∙ touched (after w before) e lba now t

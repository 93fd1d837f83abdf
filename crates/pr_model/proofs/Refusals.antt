-- A refused act changes nothing.
use Rattle.std.proofs.Common.{◌≡◌, [], Option, Some, None, ◌==◌, if◌then◌else◌, not, ◌&&◌, Bool, ℕ, refl, subst}
use Rattle.pr_words.specs.declared.nexus.Nexus.{Nexus}
use Rattle.pr_words.specs.declared.nexus.Pair.{Pair}
use Rattle.pr_words.specs.declared.reservation.Kind.{Kind}
use Rattle.pr_words.specs.Kinds.{kind_at}
use Rattle.pr_grammar.specs.Standings.{Standing, is_at}
use Rattle.pr_model.specs.Registrants.{has_key}
use Rattle.pr_model.specs.Acts.{Acted, ReserveOut, Good, taken, acted}
use Rattle.pr_model.specs.Cases.{Case, Unnamed, AllTaken, HolderTaken, KeyRemoved, NobodysKey, effect}
use Rattle.pr_model.specs.Effects.{Rule, Misnamed, Idle, Leaves, Overflows, Registers, Stranger, Reserves, NoSuchKind, HoldsAlready, HeldOtherwise, HoldsNothing, Releases, OtherKind, Clears, Preempts_by, effect_of}
use Rattle.pr_model.proofs.Rules.{rule_of, rule_effect}

-- it is GOOD, or what was there stays, and nobody was removed
abbrev pub StaysOr : Standing → Acted → Type 0
StaysOr s a = (a.verdict ≡ Good → ⊥) → (a.standing ≡ s) × (a.removed ≡ [])

taken_stays : (s : Standing) (n : Nexus) (kind : ℕ) (goes : Pair → Bool) (k : Option Kind) → StaysOr s (taken s n kind goes k)
taken_stays s n kind goes None bad = (refl, refl)
taken_stays s n kind goes (Some k) bad = absurd (bad refl)

case_stays : (s : Standing) (n : Nexus) (scope kind key : ℕ) (how : Case) → StaysOr s (effect s n scope kind key how)
case_stays s n scope kind key Unnamed bad = (refl, refl)
case_stays s n scope kind key AllTaken bad = taken_stays s n kind (λ p. not (is_at n p)) (if scope == 0 then kind_at kind else None) bad
case_stays s n scope kind key HolderTaken bad = taken_stays s n kind (λ p. has_key key p && not (is_at n p)) (if scope == 0 then kind_at kind else None) bad
case_stays s n scope kind key KeyRemoved bad = absurd (bad refl)
case_stays s n scope kind key NobodysKey bad = (refl, refl)

rule_stays : (s : Standing) (n : Nexus) (o : ReserveOut) (r : Rule) → StaysOr s (effect_of s n o r)
rule_stays s n o Misnamed bad = (refl, refl)
rule_stays s n o Idle bad = (refl, refl)
rule_stays s n o Leaves bad = absurd (bad refl)
rule_stays s n o Overflows bad = (refl, refl)
rule_stays s n o Registers bad = absurd (bad refl)
rule_stays s n o Stranger bad = (refl, refl)
rule_stays s n o (Reserves kind) bad = absurd (bad refl)
rule_stays s n o NoSuchKind bad = (refl, refl)
rule_stays s n o HoldsAlready bad = (refl, refl)
rule_stays s n o HeldOtherwise bad = (refl, refl)
rule_stays s n o HoldsNothing bad = (refl, refl)
rule_stays s n o (Releases kind) bad = absurd (bad refl)
rule_stays s n o OtherKind bad = (refl, refl)
rule_stays s n o Clears bad = absurd (bad refl)
rule_stays s n o (Preempts_by how) bad = case_stays s n o.scope o.kind o.action_key how bad

pub refused_stays : (limit : ℕ) (s : Standing) (n : Nexus) (o : ReserveOut) → StaysOr s (acted limit s n o)
refused_stays limit s n o = subst (λ (a : Acted). StaysOr s a) (rule_effect limit s n o) (rule_stays s n o (rule_of limit s n o))

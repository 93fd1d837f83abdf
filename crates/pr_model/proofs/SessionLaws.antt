-- Turns of a session, joined.
use Rattle.std.proofs.Common.{ℕ, zero, suc, List, ◌++◌, sym, ap, ◌∙◌, subst, append_assoc}
use Rattle.pr_model.specs.Entries.{History}
use Rattle.pr_model.specs.Lanes.{Lane}
use Rattle.pr_model.specs.Sessions.{AreTurns, TurnsJoin}

pub turns_join : TurnsJoin
turns_join zero m who l mid last es fs a b (no_entries, no_replies, same) then_on =
    (m, subst (λ (x : Lane). AreTurns m who x (es ++ fs) (a ++ b) last) same (subst (λ (h : History). AreTurns m who mid h (a ++ b) last) (sym (ap (λ (h : History). h ++ fs) no_entries)) (subst (λ (w : List ℕ). AreTurns m who mid fs w last) (sym (ap (λ (w : List ℕ). w ++ b) no_replies)) then_on)))
turns_join (suc n) m who l mid last es fs a b (first, reply, next, rest, others, made, more, all, said) then_on =
    let joined = turns_join n m who next mid last rest fs others b more then_on in (
      suc joined.0,
      (
        first,
        reply,
        next,
        rest ++ fs,
        others ++ b,
        made,
        joined.1,
        ap (λ (h : History). h ++ fs) all ∙ append_assoc first rest fs,
        ap (λ (w : List ℕ). w ++ b) said ∙ append_assoc reply others b,
      ),
    )

-- Turns with more bytes behind them: what a connection's first bytes ask for, those bytes and more ask for too.
use Rattle.std.proofs.Common.{◌≡◌, ℕ, zero, suc, List, ◌++◌, refl, sym, ap, ◌∙◌, subst}
use Rattle.pr_model.specs.Entries.{History}
use Rattle.pr_model.specs.Lanes.{Lane, Turn, Idle, Silent, Asks, turn, arrived}
use Rattle.pr_model.specs.Runs.{Makes}
use Rattle.pr_model.specs.Sessions.{AreTurns, AsksFor, connection}
use Rattle.pr_model.proofs.SessionLaws.{turns_join}
use Rattle.pr_session.specs.Ends.{IsMade}
use Rattle.pr_session.proofs.Growing.{makes_grows}

-- one turn in front of others: an idle one is left out
one_grows : (k who : ℕ) (l mid m : Lane) (first rest es : History) (reply others replies ys : List ℕ) → Makes who l (turn l) first reply mid → AreTurns k who (arrived mid ys) rest others (arrived m ys) → es ≡ first ++ rest → replies ≡ reply ++ others
    → (n : ℕ) × AreTurns n who (arrived l ys) es replies (arrived m ys)
one_grows k who l mid m first rest es reply others replies ys made more all said = by (turn l) refl made
  where
    taken : IsMade (turn l) → (n : ℕ) × AreTurns n who (arrived l ys) es replies (arrived m ys)
    taken some = (suc k, (first, reply, arrived mid ys, rest, others, makes_grows who l mid first reply ys some made, more, all, said))

    by : (t : Turn) → turn l ≡ t → Makes who l t first reply mid → (n : ℕ) × AreTurns n who (arrived l ys) es replies (arrived m ys)
    by Idle is idle = (
      k,
      subst (λ (x : Lane). AreTurns k who (arrived x ys) es replies (arrived m ys)) idle.2
          (subst (λ (h : History). AreTurns k who (arrived mid ys) h replies (arrived m ys)) (sym (all ∙ ap (λ (h : History). h ++ rest) idle.0))
          (subst (λ (w : List ℕ). AreTurns k who (arrived mid ys) rest w (arrived m ys)) (sym (said ∙ ap (λ (w : List ℕ). w ++ others) idle.1)) more)),
    )
    by (Silent next) is makes = taken (subst IsMade (sym is) tt)
    by (Asks n act next) is makes = taken (subst IsMade (sym is) tt)

turns_grow : (n who : ℕ) (l m : Lane) (es : History) (replies ys : List ℕ) → AreTurns n who l es replies m → (k : ℕ) × AreTurns k who (arrived l ys) es replies (arrived m ys)
turns_grow zero who l m es replies ys (none, silent, same) = (0, (none, silent, ap (λ (x : Lane). arrived x ys) same))
turns_grow (suc n) who l m es replies ys (first, reply, mid, rest, others, made, more, all, said) =
    let later = turns_grow n who mid m rest others ys more in one_grows later.0 who l mid m first rest es reply others replies ys made later.1 all said

-- more bytes came
pub asks_grow : (who : ℕ) (bytes ys replies : List ℕ) (es : History) (last : Lane) → AsksFor who bytes es replies last → AsksFor who (bytes ++ ys) es replies (arrived last ys)
asks_grow who bytes ys replies es last asks = let more = turns_grow asks.turns who (connection bytes) last es replies ys asks.taken in record { turns = more.0; taken = more.1 }

-- more turns were made
pub asks_more : (n who : ℕ) (bytes replies others : List ℕ) (es fs : History) (mid last : Lane) → AsksFor who bytes es replies mid → AreTurns n who mid fs others last → AsksFor who bytes (es ++ fs) (replies ++ others) last
asks_more n who bytes replies others es fs mid last asks more =
    let all = turns_join asks.turns n who (connection bytes) mid last es fs replies others asks.taken more in record { turns = all.0; taken = all.1 }

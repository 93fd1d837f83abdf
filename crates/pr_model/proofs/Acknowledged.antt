-- Moments of entries, and of others that follow them.
use Rattle.std.proofs.Common.{◌≡◌, ◌⊎◌, inl, inr, ℕ, ◌≤◌, ◌==◌, Bool, true, false, cond, List, [], ◌∷◌, ◌++◌, Option, Some, None, refl, arith}
use Rattle.pr_words.specs.declared.nexus.Nexus.{Nexus}
use Rattle.pr_model.specs.Worlds.{World, Task}
use Rattle.pr_model.specs.Entries as entries
use Rattle.pr_model.specs.Entries.{entry, History, Out, Login, Step, Logout, Ended, Started, Wrote, Read, Done, Aborted, Fault, Left, Restored}
use Rattle.pr_model.specs.Steps.{stepped_in}
use Rattle.pr_model.specs.Saving.{restorable}
use Rattle.pr_model.specs.Histories.{moved, after, login_code, logged_in}
use Rattle.pr_model.specs.Stamps.{Bytes, Restores, RestoresSome, AreAcknowledged}

pub some_here : (w : World) (es : History) (bytes : Bytes) → Restores w bytes → RestoresSome w es bytes
some_here w [] bytes is = is
some_here w (e ∷ es) bytes is = inl is

pub some_first : (w : World) (xs ys : History) (bytes : Bytes) → RestoresSome w xs bytes → RestoresSome w (xs ++ ys) bytes
some_first w [] ys bytes is = some_here w ys bytes is
some_first w (e ∷ xs) ys bytes (inl is) = inl is
some_first w (e ∷ xs) ys bytes (inr later) = inr (some_first (moved w e) xs ys bytes later)

pub some_last : (w : World) (xs ys : History) (bytes : Bytes) → RestoresSome (after w xs) ys bytes → RestoresSome w (xs ++ ys) bytes
some_last w [] ys bytes is = is
some_last w (e ∷ xs) ys bytes is = inr (some_last (moved w e) xs ys bytes is)

-- the moments rise
pub acknowledged_within : (may : ℕ → Bytes → Type 0) (start end : ℕ) (w : World) (es : History) (ts : List ℕ) → AreAcknowledged may start end w es ts → start ≤ end
acknowledged_within may start end w [] [] is = is
acknowledged_within may start end w [] (t ∷ ts) is = absurd is
acknowledged_within may start end w (e ∷ es) [] is = absurd is
acknowledged_within may start end w (e ∷ es) (t ∷ ts) is =
    let later = acknowledged_within may t end (moved w e) es ts is.2 in omega (arith, is.0, later)

pub acknowledged_earlier : (may : ℕ → Bytes → Type 0) (early start end : ℕ) (w : World) (es : History) (ts : List ℕ) → early ≤ start → AreAcknowledged may start end w es ts → AreAcknowledged may early end w es ts
acknowledged_earlier may early start end w [] [] le is = omega (arith, le, is)
acknowledged_earlier may early start end w [] (t ∷ ts) le is = absurd is
acknowledged_earlier may early start end w (e ∷ es) [] le is = absurd is
acknowledged_earlier may early start end w (e ∷ es) (t ∷ ts) le is = (omega (arith, le, is.0), is.1, is.2)

-- what a power loss may leave now, it might leave before, or it restores what others that followed left
pub acknowledged_append : (old may : ℕ → Bytes → Type 0) (start mid end : ℕ) (w : World) (xs ys : History) (ts us : List ℕ)
    → ((t : ℕ) (bytes : Bytes) → t ≤ mid → may t bytes → old t bytes ⊎ RestoresSome (after w xs) ys bytes)
    → AreAcknowledged old start mid w xs ts → AreAcknowledged may mid end (after w xs) ys us → AreAcknowledged may start end w (xs ++ ys) (ts ++ us)
acknowledged_append old may start mid end w [] ys [] us since first second = acknowledged_earlier may start mid end w ys us first second
acknowledged_append old may start mid end w [] ys (t ∷ ts) us since first second = absurd first
acknowledged_append old may start mid end w (e ∷ xs) ys [] us since first second = absurd first
acknowledged_append old may start mid end w (e ∷ xs) ys (t ∷ ts) us since first second = (
  first.0,
  λ bytes left. here bytes (since t bytes (acknowledged_within old t mid (moved w e) xs ts first.2) left),
  acknowledged_append old may t mid end (moved w e) xs ys ts us since first.2 second,
)
  where
    here : (bytes : Bytes) → old t bytes ⊎ RestoresSome (after (moved w e) xs) ys bytes → RestoresSome (moved w e) (xs ++ ys) bytes
    here bytes (inl before) = some_first (moved w e) xs ys bytes (first.1 bytes before)
    here bytes (inr later) = some_last (moved w e) xs ys bytes later

-- logins, steps and logouts change nothing of what may be restored

pub login_keeps : (w : World) (who : ℕ) (n : Nexus) (version : ℕ) (out : Out) → restorable (moved w (entry who n (Login version) out)) ≡ restorable w
login_keeps w who n version out = by (login_code w version n == 0)
  where
    by : (b : Bool) → restorable (cond b (logged_in w who n) w) ≡ restorable w
    by true = refl
    by false = refl

pub logout_keeps : (w : World) (who : ℕ) (n : Nexus) (out : Out) → restorable (moved w (entry who n Logout out)) ≡ restorable w
logout_keeps w who n out = refl

pub step_keeps : (w : World) (who : ℕ) (n : Nexus) (sent : List ℕ) (out : Out) → restorable (moved w (entry who n (Step sent) out)) ≡ restorable w
step_keeps w who n sent out = by (w.task n) out
  where
    by : (t : Option Task) (out : Out) → restorable (stepped_in w n t sent out) ≡ restorable w
    by None out = refl
    by (Some t) Wrote = refl
    by (Some t) (Read bytes) = refl
    by (Some t) (Fault code) = refl
    by (Some t) Done = refl
    by (Some t) Aborted = refl
    by (Some t) (entries.Login_code code) = refl
    by (Some t) (Ended status sense data_in) = refl
    by (Some t) (Started way) = refl
    by (Some t) Left = refl
    by (Some t) (Restored value) = refl

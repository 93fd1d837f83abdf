-- How the sessions of a target stand (this project's own).
use Rattle.std.specs.Prelude.{◌≡◌, ◌⊎◌, ℕ, ◌+◌, List, [], ◌∷◌, Option, Some, IfSome}
use Rattle.std.specs.List.{AllByRecursion}
use mathlib.Core.List.{IsPrefix}
use Rattle.pr_io.specs.Told.{ToldStreams}
use Rattle.pr_model.specs.Entries.{Entry, History}
use Rattle.pr_gate.specs.declared.pass.Pass.{Pass}
use Rattle.pr_gate.specs.declared.pass.Retired.{Retired}
use Rattle.pr_gate.specs.Passes.{number_of, seen_of, retired_number, retired_seen, retired_own}
use Rattle.pr_core.specs.declared.ground.Ground.{Ground}
use Rattle.pr_session.specs.declared.session_end.SessionEnd.{SessionEnd}
use Rattle.pr_session.specs.declared.session_end.SessionEnd.TheVariants.{SpentTicket}
use Rattle.pr_serve.specs.Connections.{IsServed, AreOfOne, entries_of}

-- one of the list is like this
abbrev pub Has : {A : Type 0} → (A → Type 0) → List A → Type 0
Has Is [] = ⊥
Has Is (x ∷ xs) = Is x ⊎ Has Is xs

-- one of these connections, the first under this number and each further one under the next, is like this
abbrev pub HasOne : (ℕ → ToldStreams → Type 0) → ℕ → List ToldStreams → Type 0
HasOne Is who [] = ⊥
HasOne Is who (c ∷ cs) = Is who c ⊎ HasOne Is (who + 1) cs

module _ {T : Type 0} {g : _} where
  -- all that a retired pass of the gate had seen was seen by this one
  abbrev pub IsPast : Pass T Entry Ground g → Retired T Entry Ground g → Type 0
  IsPast main r = (r.seat.table_id ≡ main.seat.table_id) × IsPrefix (retired_seen r) (seen_of main)

  -- a connection was served under a number and ended so, by just what the retired pass of it made
  abbrev pub HasEnded : SessionEnd → ℕ → ToldStreams → Retired T Entry Ground g → Type 0
  HasEnded end who c r = (retired_number r ≡ Some who) × IsServed c who end (retired_own r)

  -- and ended in one way or another
  abbrev pub HasServed : ℕ → ToldStreams → Retired T Entry Ground g → Type 0
  HasServed who c r = (end : SessionEnd) × HasEnded end who c r

  -- of a history that has all that a retired pass had seen, just the entries that it made name its number
  abbrev pub IsSettled : History → Retired T Entry Ground g → Type 0
  IsSettled h r = (who : ℕ) → retired_number r ≡ Some who → entries_of who h ≡ retired_own r

  module _ {A : Type 0} (pass : A → Pass T Entry Ground g) (told : A → ToldStreams) where
    -- a thread serves a connection under a number
    abbrev pub Serves : ℕ → ToldStreams → A → Type 0
    Serves who c a = (number_of (pass a) ≡ who) × (told a ≡ c)

    -- each of these connections, the first under this number and each further one under the next, is being served or was
    abbrev pub Covers : ℕ → List ToldStreams → List A → List (Retired T Entry Ground g) → Type 0
    Covers who [] running retired = Unit {0}
    Covers who (c ∷ cs) running retired = (Has (Serves who c) running ⊎ Has (HasServed who c) retired) × Covers (who + 1) cs running retired

    -- so stand the threads that serve connections and the passes that have served some, with the pass that has seen all that these had, and with the ticket that the gate didn't give, where a session found that
    pub record Stand (first : ℕ) (cs : List ToldStreams) (main : Pass T Entry Ground g) (running : List A) (retired : List (Retired T Entry Ground g)) (spent : Option ℕ) : Type 0 where
      pub threads : AllByRecursion (λ (a : A). AreOfOne main (pass a)) running
      pub each : AllByRecursion (λ (a : A). HasOne (λ who c. Serves who c a) first cs) running
      pub past : AllByRecursion (IsPast main) retired
      pub all : Covers first cs running retired
      pub found : IfSome spent (λ ticket. HasOne (λ who c. Has (HasEnded (SpentTicket ticket) who c) retired) first cs)

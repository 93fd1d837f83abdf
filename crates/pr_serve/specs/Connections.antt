-- What became of one connection (this project's own).
use Rattle.std.specs.Prelude.{◌≡◌, ℕ, ◌+◌, List, [], ◌∷◌, Option, Some}
use mathlib.Core.List.{IsPrefix}
use Rattle.pr_io.specs.Told.{ToldStreams}
use Rattle.pr_io.specs.declared.outside.Medium as media
use Rattle.pr_io.specs.declared.outside.Disk as disks
use Rattle.pr_model.specs.Entries.{Entry, History}
use Rattle.pr_gate.specs.Entries.{own}
use Rattle.pr_gate.specs.declared.pass.Pass.{Pass}
use Rattle.pr_gate.specs.Passes.{IsSamePass, IsFree, number_of, seen_of, own_of, ground_of, spare_of}
use Rattle.pr_core.specs.declared.ground.Ground.{Ground}
use Rattle.pr_core.specs.Shared.{IsRightOn}
use Rattle.pr_session.specs.declared.session_end.SessionEnd.{SessionEnd}
use Rattle.pr_session.specs.Ends.{Served, IsCaused}

-- a connection of which this was told was served under a number and ended so, by just these entries: they are what its bytes asked for, as the end's row says, and the end has its cause
pub record IsServed (c : ToldStreams) (who : ℕ) (end : SessionEnd) (es : History) : Type 0 where
  pub rest_now : Option (List ℕ)
  pub written_now : Option (List ℕ)
  pub source_faults : ℕ
  pub sink_faults : ℕ
  pub served : Served end who c.source.rest rest_now c.sink.written written_now [] es
  pub cause : IsCaused end c.source.faults source_faults c.sink.faults sink_faults

module _ {M D T : Type 0} {g : _} where
  -- what a pass has seen is right from what its target was opened with
  abbrev pub IsRightPass : media.Ghosts M → disks.Ghosts D → Pass T Entry Ground g → Type 0
  IsRightPass gm gd p = (ground : Ground) → ground_of p ≡ Some ground → IsRightOn gm gd ground (seen_of p)

  -- a connection of which this was told was served by a pass, and ended so: q is what became of the pass p
  pub record ServedBy (gm : media.Ghosts M) (gd : disks.Ghosts D) (c : ToldStreams) (p q : Pass T Entry Ground g) (end : SessionEnd) : Type 0 where
    pub same : IsSamePass p q
    pub free : IsFree q
    pub right : IsRightPass gm gd q
    pub served : IsServed c (number_of p) end (own_of q)

module _ {T : Type 0} {g : _} where
  -- both passes came from one gate
  abbrev pub AreOfOne : Pass T Entry Ground g → Pass T Entry Ground g → Type 0
  AreOfOne p q = (q.seat.table_id ≡ p.seat.table_id) × (ground_of q ≡ ground_of p)

  -- q is what became of the pass p, which may have seen more since and made this many passes, but no entry
  pub record Goes (made : ℕ) (p q : Pass T Entry Ground g) : Type 0 where
    pub of_one : AreOfOne p q
    pub number : number_of q ≡ number_of p
    pub spare : spare_of q + made ≡ spare_of p
    pub seen : IsPrefix (seen_of p) (seen_of q)
    pub own : own_of q ≡ own_of p
    pub free : IsFree p → IsFree q

-- the entries of a history that name this number
abbrev pub entries_of : ℕ → History → History
entries_of who h = own (λ (e : Entry). e.who) who h

-- these connections were served and ended so, the first under this number and each further one under the next: the entries of its number are just those that it asked for
abbrev pub AreServed : ℕ → List ToldStreams → List SessionEnd → History → Type 0
AreServed who [] [] h = Unit {0}
AreServed who [] (end ∷ ends) h = ⊥
AreServed who (c ∷ cs) [] h = ⊥
AreServed who (c ∷ cs) (end ∷ ends) h = IsServed c who end (entries_of who h) × AreServed (who + 1) cs ends h

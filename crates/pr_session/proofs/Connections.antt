-- A connection over a session of its own.
use Rattle.std.proofs.Common.{◌≡◌, ℕ, ◌<◌, ◌^◌, List, [], ◌++◌, length, Option, None, Some, Result, Ok, Err, OnOk, OnErr, refl, sym, ap, ◌∙◌, subst, arith}
use Rattle.std.proofs.lemmas.List.{append-nil}
use Rattle.pr_io.specs.Streams.{Put, PutSome, Took}
use Rattle.pr_io.specs.declared.outside.Failed.{Failed}
use Rattle.pr_model.specs.Entries.{History}
use Rattle.pr_session.specs.declared.session_end.SessionEnd.{SessionEnd}
use Rattle.pr_session.specs.declared.session_end.SessionEnd.TheVariants.{Closed, Cut, Rejected, ReadFault, WriteFault, SpentFrames, SpentTicket, NoMemory}
use Rattle.pr_session.specs.Ends.{Row, RestsAt, HasNoMore, IsCaused, Completes, Served, Answered, Refuses, refusal}

module _ (who : ℕ) (rest rest_now written written_now : Option (List ℕ)) (own own_now : History) where
  -- one that was served wasn't refused
  pub served_some : (end : SessionEnd) → Served end who rest rest_now written written_now own own_now → end ≡ NoMemory → ⊥
  served_some end s is = subst (λ (e : SessionEnd). Row e who s.read s.asked s.sent s.last) is s.row

  pub answered : (end : SessionEnd) → Served end who rest rest_now written written_now own own_now → Answered end who rest rest_now written written_now own own_now
  answered Closed s = s
  answered (Cut place) s = s
  answered (Rejected place reason) s = s
  answered ReadFault s = s
  answered WriteFault s = s
  answered SpentFrames s = s
  answered (SpentTicket ticket) s = s
  answered NoMemory s = absurd s.row

-- all of the refusal was sent, or a front of it
pub refuses : (T : Type 0) (written written_now : Option (List ℕ)) (piece : List ℕ) (own : History) (r : Result T Failed) → piece ≡ refusal → OnOk r (Put written written_now piece) → OnErr r (PutSome written written_now piece) → Refuses written written_now own own
refuses T written written_now piece own (Ok x) is all some = record { sent = piece; lost = []; all = sym is ∙ sym (append-nil piece); put = all; none = refl }
refuses T written written_now piece own (Err e) is all some = record { sent = some.0; lost = some.1; all = sym is ∙ some.2; put = some.3; none = refl }

-- what was read is a front of the bytes that were there
front_of : (bytes : List ℕ) (now : Option (List ℕ)) (read : List ℕ) → Took (Some bytes) now read → (more : List ℕ) × (bytes ≡ read ++ more)
front_of bytes None read took = absurd took
front_of bytes (Some more) read took = (more, took)

-- and all of them, where nothing is left
all_of : (bytes : List ℕ) (now : Option (List ℕ)) (read : List ℕ) → Took (Some bytes) now read → HasNoMore now → read ≡ bytes
all_of bytes None read took none = absurd took
all_of bytes (Some more) read took none = sym (took ∙ ap (λ (m : List ℕ). read ++ m) none ∙ append-nil read)

not_empty : (bytes : List ℕ) → bytes ≡ [] → 0 < length bytes → ⊥
not_empty bytes none some = let zero : length bytes ≡ 0 = ap length none in absurd (omega (arith, zero, some))

few_frames : (n : ℕ) → n < 2 ^ 32 → n ≡ 2 ^ 32 → ⊥
few_frames n few all = absurd (omega (arith, few, all))

-- no end but these is left to a connection whose bytes keep the rules
pub completes : (end : SessionEnd) (who : ℕ) (rest rest_now written written_now : Option (List ℕ)) (own own_now : History) (source source_now sink sink_now : ℕ)
    → Answered end who rest rest_now written written_now own own_now → IsCaused end source source_now sink sink_now → Completes end who rest source source_now sink sink_now
completes Closed who rest rest_now written written_now own own_now source source_now sink sink_now s cause bytes told keeps calm still = tt
completes (Cut place) who rest rest_now written written_now own own_now source source_now sink sink_now s cause bytes told keeps calm still =
    let read : s.read ≡ bytes = all_of bytes rest_now s.read (subst (λ (r : Option (List ℕ)). Took r rest_now s.read) told s.took) s.comes in
    let rests : RestsAt who bytes s.asked s.sent s.last = subst (λ (r : List ℕ). RestsAt who r s.asked s.sent s.last) read s.row.0 in
    not_empty s.last.bytes (keeps.whole s.asked s.sent s.last rests) s.row.1
completes (Rejected place reason) who rest rest_now written written_now own own_now source source_now sink sink_now s cause bytes told keeps calm still =
    let more = front_of bytes rest_now s.read (subst (λ (r : Option (List ℕ)). Took r rest_now s.read) told s.took) in
    keeps.right s.read more.0 s.asked s.sent s.last place reason more.1 s.row
completes ReadFault who rest rest_now written written_now own own_now source source_now sink sink_now s cause bytes told keeps calm still = calm cause
completes WriteFault who rest rest_now written written_now own own_now source source_now sink sink_now s cause bytes told keeps calm still = still cause
completes SpentFrames who rest rest_now written written_now own own_now source source_now sink sink_now s cause bytes told keeps calm still =
    let more = front_of bytes rest_now s.read (subst (λ (r : Option (List ℕ)). Took r rest_now s.read) told s.took) in
    few_frames _ (keeps.few s.read more.0 s.asked s.sent s.last more.1 s.row) s.within
completes (SpentTicket ticket) who rest rest_now written written_now own own_now source source_now sink sink_now s cause bytes told keeps calm still = tt
completes NoMemory who rest rest_now written written_now own own_now source source_now sink sink_now s cause bytes told keeps calm still = tt

-- How the sessions of a target stand after a step.
use Rattle.std.proofs.Common.{◌≡◌, ◌⊎◌, inl, inr, ℕ, ◌+◌, List, [], ◌∷◌, ◌++◌, length, sym, ap, ◌∙◌, subst, arith, slice_index_or, Option, Some, None, IfSome, refl, ◌<◌}
use Rattle.std.specs.Prelude.{remove}
use mathlib.Core.List.{IsPrefix}
use Rattle.pr_io.specs.Told.{ToldStreams}
use Rattle.pr_model.specs.Entries.{Entry}
use Rattle.pr_gate.specs.declared.pass.Pass.{Pass}
use Rattle.pr_gate.specs.declared.pass.Retired.{Retired}
use Rattle.pr_gate.specs.Passes.{number_of, seen_of, retired_number, retired_own}
use Rattle.pr_core.specs.declared.ground.Ground.{Ground}
use Rattle.pr_session.specs.declared.session_end.SessionEnd.{SessionEnd}
use Rattle.pr_serve.specs.Connections.{IsServed, AreOfOne}
use Rattle.pr_session.specs.declared.session_end.SessionEnd.TheVariants.{Closed, Cut, Rejected, ReadFault, WriteFault, SpentFrames, SpentTicket, NoMemory}
use Rattle.pr_serve.specs.Crowds.{spent_after}
use Rattle.pr_serve.specs.Standing.{Has, HasOne, IsPast, HasEnded, HasServed, Serves, Covers, Stand}
use Rattle.pr_session.proofs.Holdings.{prefix_trans}
use Rattle.pr_serve.proofs.Lists.{one-map, one-front, one-last, has-front, has-last, has-removed, all-map, all-last, all-at, all-removed}

found-map : (P Q : ℕ → Type 0) → ((ticket : ℕ) → P ticket → Q ticket) → (spent : Option ℕ) → IfSome spent P → IfSome spent Q
found-map P Q f None h = tt
found-map P Q f (Some ticket) h = f ticket h

-- what is so of the ticket that was known, and of the one that this end names, is so of the one that is known afterwards
found-after : (P Q : ℕ → Type 0) → ((ticket : ℕ) → P ticket → Q ticket) → (end : SessionEnd) → ((ticket : ℕ) → end ≡ SpentTicket ticket → Q ticket) → (spent : Option ℕ) → IfSome spent P → IfSome (spent_after end spent) Q
found-after P Q f (SpentTicket ticket) new spent h = new ticket refl
found-after P Q f Closed new spent h = found-map P Q f spent h
found-after P Q f (Cut place) new spent h = found-map P Q f spent h
found-after P Q f (Rejected place reason) new spent h = found-map P Q f spent h
found-after P Q f ReadFault new spent h = found-map P Q f spent h
found-after P Q f WriteFault new spent h = found-map P Q f spent h
found-after P Q f SpentFrames new spent h = found-map P Q f spent h
found-after P Q f NoMemory new spent h = found-map P Q f spent h

module _ {T : Type 0} {g : _} where
  module _ {A : Type 0} (pass : A → Pass T Entry Ground g) (told : A → ToldStreams) where
    abbrev R : Type 0
    R = Retired T Entry Ground g

    -- a connection more, behind all others
    covers-more : (who : ℕ) (cs : List ToldStreams) (c : ToldStreams) (xs ys : List A) (rs ss : List R)
        → ((n : ℕ) (d : ToldStreams) → Has (Serves pass told n d) xs ⊎ Has (HasServed n d) rs → Has (Serves pass told n d) ys ⊎ Has (HasServed n d) ss)
        → Has (Serves pass told (who + length cs) c) ys ⊎ Has (HasServed (who + length cs) c) ss
        → Covers pass told who cs xs rs → Covers pass told who (cs ++ c ∷ []) ys ss
    covers-more who [] c xs ys rs ss keep new all = (subst (λ n. Has (Serves pass told n c) ys ⊎ Has (HasServed n c) ss) (omega arith) new, tt)
    covers-more who (d ∷ cs) c xs ys rs ss keep new (this, all) =
        (keep who d this, covers-more (who + 1) cs c xs ys rs ss keep (subst (λ n. Has (Serves pass told n c) ys ⊎ Has (HasServed n c) ss) (omega arith) new) all)

    covers-map : (who : ℕ) (cs : List ToldStreams) (xs ys : List A) (rs ss : List R)
        → ((n : ℕ) (d : ToldStreams) → Has (Serves pass told n d) xs ⊎ Has (HasServed n d) rs → Has (Serves pass told n d) ys ⊎ Has (HasServed n d) ss)
        → Covers pass told who cs xs rs → Covers pass told who cs ys ss
    covers-map who [] xs ys rs ss keep all = tt
    covers-map who (c ∷ cs) xs ys rs ss keep (this, all) = (keep who c this, covers-map (who + 1) cs xs ys rs ss keep all)

    -- the pass has seen more
    pub stand-goes : (first : ℕ) (cs : List ToldStreams) (p q : Pass T Entry Ground g) (xs : List A) (rs : List R) (spent : Option ℕ)
        → AreOfOne p q → IsPrefix (seen_of p) (seen_of q) → Stand pass told first cs p xs rs spent → Stand pass told first cs q xs rs spent
    stand-goes first cs p q xs rs spent one seen s = record {
      threads = all-map _ _ (λ a o. (o.0 ∙ sym one.0, o.1 ∙ sym one.1)) xs s.threads;
      each = s.each;
      past = all-map _ _ (λ r o. (o.0 ∙ sym one.0, prefix_trans _ _ _ o.1 seen)) rs s.past;
      all = s.all;
      found = s.found;
    }

    -- a thread serves a connection more
    pub stand-begins : (first : ℕ) (cs : List ToldStreams) (c : ToldStreams) (p : Pass T Entry Ground g) (xs : List A) (a : A) (rs : List R) (spent : Option ℕ)
        → AreOfOne p (pass a) → number_of (pass a) ≡ first + length cs → told a ≡ c
        → Stand pass told first cs p xs rs spent → Stand pass told first (cs ++ c ∷ []) p (xs ++ a ∷ []) rs spent
    stand-begins first cs c p xs a rs spent one number same s = record {
      threads = all-last _ xs a s.threads one;
      each = all-last _ xs a (all-map _ _ (λ b h. one-front _ first cs c h) xs s.each) (one-last _ first cs c (number, same));
      past = s.past;
      all = covers-more first cs c xs (xs ++ a ∷ []) rs rs (λ n d h. front n d h) (inl (has-last _ xs a (number, same))) s.all;
      found = found-map _ _ (λ ticket h. one-front _ first cs c h) spent s.found;
    }
      where
        front : (n : ℕ) (d : ToldStreams) → Has (Serves pass told n d) xs ⊎ Has (HasServed n d) rs → Has (Serves pass told n d) (xs ++ a ∷ []) ⊎ Has (HasServed n d) rs
        front n d (inl h) = inl (has-front _ xs a h)
        front n d (inr h) = inr h

    -- a connection more was served, by a pass that is retired now
    pub stand-served : (first : ℕ) (cs : List ToldStreams) (c : ToldStreams) (end : SessionEnd) (p : Pass T Entry Ground g) (xs : List A) (rs : List R) (r : R) (spent : Option ℕ)
        → IsPast p r → retired_number r ≡ Some (first + length cs) → IsServed c (first + length cs) end (retired_own r)
        → Stand pass told first cs p xs rs spent → Stand pass told first (cs ++ c ∷ []) p xs (rs ++ r ∷ []) (spent_after end spent)
    stand-served first cs c end p xs rs r spent past number served s = record {
      threads = s.threads;
      each = all-map _ _ (λ b h. one-front _ first cs c h) xs s.each;
      past = all-last _ rs r s.past past;
      all = covers-more first cs c xs xs rs (rs ++ r ∷ []) (λ n d h. front n d h) (inr (has-last _ rs r (end, (number, served)))) s.all;
      found = found-after _ _ (λ ticket h. one-front _ first cs c (later ticket h)) end (λ ticket is. one-last _ first cs c (has-last _ rs r (number, subst (λ e. IsServed c (first + length cs) e (retired_own r)) is served))) spent s.found;
    }
      where
        later : (ticket : ℕ) → HasOne (λ n d. Has (HasEnded (SpentTicket ticket) n d) rs) first cs → HasOne (λ n d. Has (HasEnded (SpentTicket ticket) n d) (rs ++ r ∷ [])) first cs
        later ticket h = one-map _ _ (λ n d o. has-front _ rs r o) first cs h

        front : (n : ℕ) (d : ToldStreams) → Has (Serves pass told n d) xs ⊎ Has (HasServed n d) rs → Has (Serves pass told n d) xs ⊎ Has (HasServed n d) (rs ++ r ∷ [])
        front n d (inl h) = inl h
        front n d (inr h) = inr (has-front _ rs r h)

    -- a thread has served its connection, and its pass is retired now
    pub stand-ends : (first : ℕ) (cs : List ToldStreams) (end : SessionEnd) (p : Pass T Entry Ground g) (xs : List A) (k : ℕ) (a : A) (rs : List R) (r : R) (spent : Option ℕ)
        → slice_index_or xs k a ≡ a → k < length xs → IsPast p r → retired_number r ≡ Some (number_of (pass a)) → IsServed (told a) (number_of (pass a)) end (retired_own r)
        → Stand pass told first cs p xs rs spent → Stand pass told first cs p (remove xs k) (rs ++ r ∷ []) (spent_after end spent)
    stand-ends first cs end p xs k a rs r spent at within past number served s = record {
      threads = all-removed _ xs k s.threads;
      each = all-removed _ xs k s.each;
      past = all-last _ rs r s.past past;
      all = covers-map first cs xs (remove xs k) rs (rs ++ r ∷ []) (λ n d h. keep n d h) s.all;
      found = found-after _ _ (λ ticket h. one-map _ _ (λ n d o. has-front _ rs r o) first cs h) end (λ ticket is. new ticket is) spent s.found;
    }
      where
        ended : (n : ℕ) (d : ToldStreams) → Serves pass told n d a → HasEnded end n d r
        ended n d (is, same) = (number ∙ ap Some is, subst (λ m. IsServed d m end (retired_own r)) is (subst (λ t. IsServed t (number_of (pass a)) end (retired_own r)) same served))

        new : (ticket : ℕ) → end ≡ SpentTicket ticket → HasOne (λ n d. Has (HasEnded (SpentTicket ticket) n d) (rs ++ r ∷ [])) first cs
        new ticket is = one-map _ _ (λ n d o. has-last _ rs r (subst (λ e. HasEnded e n d r) is (ended n d o))) first cs (all-at _ xs k a at within s.each)

        moved : (n : ℕ) (d : ToldStreams) → Serves pass told n d a ⊎ Has (Serves pass told n d) (remove xs k) → Has (Serves pass told n d) (remove xs k) ⊎ Has (HasServed n d) (rs ++ r ∷ [])
        moved n d (inl h) = inr (has-last _ rs r (end, ended n d h))
        moved n d (inr h) = inl h

        keep : (n : ℕ) (d : ToldStreams) → Has (Serves pass told n d) xs ⊎ Has (HasServed n d) rs → Has (Serves pass told n d) (remove xs k) ⊎ Has (HasServed n d) (rs ++ r ∷ [])
        keep n d (inl h) = moved n d (has-removed _ xs k a at h)
        keep n d (inr h) = inr (has-front _ rs r h)

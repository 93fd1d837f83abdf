-- How the sessions of a target stand after one more began, and after some were taken in.
use Rattle.std.proofs.Common.{◌≡◌, ◌⊎◌, inl, inr, ℕ, ◌+◌, List, [], ◌∷◌, ◌++◌, length, refl, sym, ap, ◌∙◌, subst, arith, ◌<◌, Option, Some, None, IfSome, IsSome, slice_index_or, append_assoc}
use Rattle.std.specs.Prelude.{remove}
use Rattle.std.specs.List.{AllByRecursion, Contains}
use Rattle.pr_io.specs.Told.{ToldStreams}
use Rattle.pr_io.specs.declared.outside.Source as sources
use Rattle.pr_io.specs.declared.outside.Sink as sinks
use Rattle.pr_io.specs.declared.outside.Medium as media
use Rattle.pr_io.specs.declared.outside.Disk as disks
use Rattle.pr_model.specs.Entries.{Entry, History}
use Rattle.pr_gate.specs.declared.pass.Pass.{Pass}
use Rattle.pr_gate.specs.declared.stands.Stands as gates
use Rattle.pr_gate.specs.declared.pass.Retired.{Retired}
use Rattle.pr_gate.specs.Passes.{IsUnchanged, number_of, seen_of, retired_number, retired_own}
use Rattle.pr_gate.proofs.Lists.{prefix-refl}
use Rattle.pr_core.specs.declared.ground.Ground.{Ground}
use Rattle.pr_session.specs.declared.session_end.SessionEnd.{SessionEnd}
use Rattle.pr_session.specs.declared.session_end.SessionEnd.TheVariants.{Closed, Cut, Rejected, ReadFault, WriteFault, SpentFrames, SpentTicket, NoMemory}
use Rattle.pr_session.proofs.Holdings.{prefix_trans}
use Rattle.pr_serve.specs.declared.connection.Begun.{Begun}
use Rattle.pr_serve.specs.declared.sessions.Sessions.{Sessions}
use mathlib.Core.List.{IsPrefix}
use Rattle.pr_gate.specs.declared.view.Stage.TheVariants.{Idle}
use Rattle.pr_core.specs.Shared.{IsRightOn}
use Rattle.pr_serve.specs.Connections.{IsRightPass, IsServed, ServedBy, AreOfOne, Goes, AreServed, entries_of}
use Rattle.pr_serve.specs.Standing.{Has, HasOne, IsPast, IsSettled, HasEnded, HasServed, Serves, Covers, Stand}
use Rattle.pr_serve.specs.Crowds.{pass_in, told_in, Stands, Starts, Retires, IsAsBefore, TakesIn, used_of, most_of, spent_after}
use Rattle.pr_serve.specs.Accepting.{Found}
use Rattle.pr_serve.specs.declared.sessions.Running.{Running}
use Rattle.pr_serve.proofs.Lists.{contains-front, contains-first, all-front}
use Rattle.pr_serve.proofs.Standings.{stand-goes, stand-begins, stand-served, stand-ends}

-- a ticket stays known
spent-stays : (end : SessionEnd) (spent : Option ℕ) → IsSome spent → IsSome (spent_after end spent)
spent-stays (SpentTicket ticket) spent is = refl
spent-stays Closed spent is = is
spent-stays (Cut place) spent is = is
spent-stays (Rejected place reason) spent is = is
spent-stays ReadFault spent is = is
spent-stays WriteFault spent is = is
spent-stays SpentFrames spent is = is
spent-stays NoMemory spent is = is

module _ {T : Type 0} {g : _} where
  pub goes-none : (p : Pass T Entry Ground g) → Goes 0 p p
  goes-none p = record { of_one = (refl, refl); number = refl; spare = omega arith; seen = prefix-refl (seen_of p); own = refl; free = λ f. f }

  pub goes-more : (m n : ℕ) (p q r : Pass T Entry Ground g) → Goes m p q → Goes n q r → Goes (m + n) p r
  goes-more m n p q r a b = record {
    of_one = (b.of_one.0 ∙ a.of_one.0, b.of_one.1 ∙ a.of_one.1);
    number = b.number ∙ a.number;
    spare = let x = a.spare in let y = b.spare in omega arith;
    seen = prefix_trans _ _ _ a.seen b.seen;
    own = b.own ∙ a.own;
    free = λ f. b.free (a.free f);
  }

  pub goes-same : (p q : Pass T Entry Ground g) → IsUnchanged p q → Goes 0 p q
  goes-same p q u = record {
    of_one = (u.0.0.0, u.0.4);
    number = u.0.1;
    spare = let x = u.0.3 in omega arith;
    seen = subst (IsPrefix (seen_of p)) (sym (ap (λ me. me.0.seen) u.1)) (prefix-refl (seen_of p));
    own = ap (λ me. me.0.mine) u.1;
    free = λ f. subst (λ me. (me.0.stage ≡ Idle) × (me.1 ≡ []) × IsSome me.0.number) (sym u.1) f;
  }

  pub right-same : {M D : Type 0} (gm : media.Ghosts M) (gd : disks.Ghosts D) (p q : Pass T Entry Ground g) → IsUnchanged p q → IsRightPass gm gd p → IsRightPass gm gd q
  right-same gm gd p q u right ground is = subst (λ h. IsRightOn gm gd ground h) (sym (ap (λ me. me.0.seen) u.1)) (right ground (sym u.0.4 ∙ is))

  -- what became of a pass of the gate is one of it still
  pub served-one : {M D : Type 0} (gm : media.Ghosts M) (gd : disks.Ghosts D) (c : ToldStreams) (main p q : Pass T Entry Ground g) (end : SessionEnd) → AreOfOne main p → ServedBy gm gd c p q end → AreOfOne main q
  served-one gm gd c main p q end one s = (s.same.0.0 ∙ one.0, s.same.4 ∙ one.1)

  -- one retired pass more is settled
  pub settles-one : (p q r : Pass T Entry Ground g) (all before rest : List (Retired T Entry Ground g)) (one : Retired T Entry Ground g)
      → IsUnchanged p q × AllByRecursion (IsPast p) before × ((done : List (Retired T Entry Ground g)) × (all ≡ before ++ done) × AllByRecursion (IsSettled (seen_of p)) done)
      → before ≡ rest ++ one ∷ [] → IsUnchanged q r → ((who : ℕ) → retired_number one ≡ Some who → entries_of who (seen_of r) ≡ retired_own one)
      → IsUnchanged p r × AllByRecursion (IsPast p) rest × ((done : List (Retired T Entry Ground g)) × (all ≡ rest ++ done) × AllByRecursion (IsSettled (seen_of p)) done)
  settles-one p q r all before rest one (same, past, (done, is, settled)) last now own = (
    (
      (
        (now.0.0.0 ∙ same.0.0.0, now.0.0.1 ∙ same.0.0.1),
        now.0.1 ∙ same.0.1,
        now.0.2 ∙ same.0.2,
        now.0.3 ∙ same.0.3,
        now.0.4 ∙ same.0.4,
      ),
      now.1 ∙ same.1,
    ),
    all-front (IsPast p) rest one (subst (AllByRecursion (IsPast p)) last past),
    (
      one ∷ done,
      is ∙ (ap (λ l. l ++ done) last ∙ append_assoc rest (one ∷ []) done),
      (λ who number. subst (λ h. entries_of who h ≡ retired_own one) (ap (λ me. me.0.seen) (now.1 ∙ same.1)) (own who number), settled),
    ),
  )

  -- a connection was served by a pass that is retired and settled, and so by the entries of its number
  served-once : (who : ℕ) (c : ToldStreams) (h : History) (end : SessionEnd) (rs : List (Retired T Entry Ground g)) → AllByRecursion (IsSettled h) rs → Has (HasEnded end who c) rs → IsServed c who end (entries_of who h)
  served-once who c h end [] all is = absurd is
  served-once who c h end (r ∷ rs) (settled, all) (inl (number, served)) = subst (λ es. IsServed c who end es) (sym (settled who number)) served
  served-once who c h end (r ∷ rs) (settled, all) (inr more) = served-once who c h end rs all more

module _ {S K T X : Type 0} {g : gates.Ghosts T Entry Ground} (gs : sources.Ghosts S) (gk : sinks.Ghosts K) where
  stands-goes : (first : ℕ) (cs : List ToldStreams) (n : ℕ) (p q : Pass T Entry Ground g) (s : Sessions X (Begun S K T Entry Ground g) T Entry Ground g) → Goes n p q → Stands gs gk first cs p s → Stands gs gk first cs q s
  stands-goes first cs n p q s a = stand-goes (pass_in gs gk) (told_in gs gk) first cs p q s.running.items s.retired.items s.spent a.of_one a.seen

  -- so sessions stand that have these threads, retired passes and ticket
  stands-with : (first : ℕ) (cs : List ToldStreams) (p : Pass T Entry Ground g) (xs : List (Running X (Begun S K T Entry Ground g))) (rs : List (Retired T Entry Ground g)) (spent : Option ℕ) (s : Sessions X (Begun S K T Entry Ground g) T Entry Ground g)
      → s.running.items ≡ xs → s.retired.items ≡ rs → s.spent ≡ spent → Stand (pass_in gs gk) (told_in gs gk) first cs p xs rs spent → Stands gs gk first cs p s
  stands-with first cs p xs rs spent s running retired is old =
      subst (λ o. Stand (pass_in gs gk) (told_in gs gk) first cs p s.running.items s.retired.items o) (sym is)
      (subst (λ qs. Stand (pass_in gs gk) (told_in gs gk) first cs p s.running.items qs spent) (sym retired)
      (subst (λ ys. Stand (pass_in gs gk) (told_in gs gk) first cs p ys rs spent) (sym running) old))

  -- a thread serves one connection more
  pub stands-begins : (first : ℕ) (cs : List ToldStreams) (c : ToldStreams) (n : ℕ) (p q pass : Pass T Entry Ground g) (s t : Sessions X (Begun S K T Entry Ground g) T Entry Ground g)
      → Goes n p q → AreOfOne q pass → number_of pass ≡ first + length cs → Starts gs gk c pass s t
      → Stands gs gk first cs p s → Stands gs gk first (cs ++ c ∷ []) q t
  stands-begins first cs c n p q pass s t a one number b old =
      stands-with first (cs ++ c ∷ []) q _ _ _ t b.running (ap (λ r. r.items) b.retired) b.spent
      (stand-begins (pass_in gs gk) (told_in gs gk) first cs c q s.running.items b.last s.retired.items s.spent
      (subst (AreOfOne q) (sym b.pass) one) (ap number_of b.pass ∙ number) b.told (stands-goes first cs n p q s a old))

  -- a connection more was served, by a pass that is retired now
  pub stands-served : {M D : Type 0} (gm : media.Ghosts M) (gd : disks.Ghosts D) (first : ℕ) (cs : List ToldStreams) (c : ToldStreams) (n : ℕ) (p q pass ended : Pass T Entry Ground g) (end : SessionEnd) (s t u : Sessions X (Begun S K T Entry Ground g) T Entry Ground g)
      → Goes n p q → number_of pass ≡ first + length cs → ServedBy gm gd c pass ended end → IsAsBefore s t → Retires q ended t.running.items t.retired.items (used_of t) (most_of t) u → u.spent ≡ spent_after end t.spent
      → Stands gs gk first cs p s → Stands gs gk first (cs ++ c ∷ []) q u
  stands-served gm gd first cs c n p q pass ended end s t u a number served same r spent old =
      stands-with first (cs ++ c ∷ []) q _ _ _ u (r.running_now ∙ same.0) (r.retired_now ∙ ap (λ v. v.items ++ r.last ∷ []) same.1) (spent ∙ ap (spent_after end) same.2)
      (stand-served (pass_in gs gk) (told_in gs gk) first cs c end q s.running.items s.retired.items r.last s.spent r.past
      (r.number ∙ ap Some (served.same.1 ∙ number))
      (subst (λ m. IsServed c m end (retired_own r.last)) number (subst (λ es. IsServed c (number_of pass) end es) (sym r.own) served.served))
      (stands-goes first cs n p q s a old))

  -- no connections yet
  pub stands-new : (first : ℕ) (p : Pass T Entry Ground g) (s : Sessions X (Begun S K T Entry Ground g) T Entry Ground g) → s.running.items ≡ [] → s.retired.items ≡ [] → s.spent ≡ None → Stands gs gk first [] p s
  stands-new first p s none past spent =
      stands-with first [] p [] [] None s none past spent (record { threads = tt; each = tt; past = tt; all = tt; found = tt })

  pub takes-none : (p : Pass T Entry Ground g) (s : Sessions X (Begun S K T Entry Ground g) T Entry Ground g) → TakesIn gs gk p p s s
  takes-none p s = record { goes = goes-none p; used = refl; most = refl; spent = λ is. is; stands = λ first cs o. o }

  pub takes-more : (p q r : Pass T Entry Ground g) (s t u : Sessions X (Begun S K T Entry Ground g) T Entry Ground g) → TakesIn gs gk p q s t → TakesIn gs gk q r t u → TakesIn gs gk p r s u
  takes-more p q r s t u a b = record {
    goes = goes-more 0 0 p q r a.goes b.goes;
    used = b.used ∙ a.used;
    most = b.most ∙ a.most;
    spent = λ is. b.spent (a.spent is);
    stands = λ first cs o. b.stands first cs (a.stands first cs o);
  }

  -- nobody is served any more: a connection that is or was has ended
  ended-once : (who : ℕ) (c : ToldStreams) (xs : List (Running X (Begun S K T Entry Ground g))) (rs : List (Retired T Entry Ground g)) → xs ≡ [] → Has (Serves (pass_in gs gk) (told_in gs gk) who c) xs ⊎ Has (HasServed who c) rs → (end : SessionEnd) × Has (HasEnded end who c) rs
  ended-once who c xs rs none (inl there) = absurd (subst (Has (Serves (pass_in gs gk) (told_in gs gk) who c)) none there)
  ended-once who c xs rs none (inr here) = among rs here
    where
      among : (qs : List (Retired T Entry Ground g)) → Has (HasServed who c) qs → (end : SessionEnd) × Has (HasEnded end who c) qs
      among [] h = absurd h
      among (q ∷ qs) (inl (end, ended)) = (end, inl ended)
      among (q ∷ qs) (inr more) = let m = among qs more in (m.0, inr m.1)

  -- and so each was served, by the entries of its number
  served-all : (who : ℕ) (cs : List ToldStreams) (xs : List _) (rs : List (Retired T Entry Ground g)) (h : History) → xs ≡ [] → AllByRecursion (IsSettled h) rs → Covers (pass_in gs gk {X = X}) (told_in gs gk) who cs xs rs → (ends : List SessionEnd) × AreServed who cs ends h
  served-all who [] xs rs h none all covers = ([], tt)
  served-all who (c ∷ cs) xs rs h none all (this, covers) =
      let e = ended-once who c xs rs none this in let more = served-all (who + 1) cs xs rs h none all covers in
      (e.0 ∷ more.0, (served-once who c h e.0 rs all e.1, more.1))

  -- one of them with this end
  served-with : (end : SessionEnd) (who : ℕ) (cs : List ToldStreams) (xs : List _) (rs : List (Retired T Entry Ground g)) (h : History) → xs ≡ [] → AllByRecursion (IsSettled h) rs → Covers (pass_in gs gk {X = X}) (told_in gs gk) who cs xs rs
      → HasOne (λ n c. Has (HasEnded end n c) rs) who cs → (ends : List SessionEnd) × AreServed who cs ends h × Contains ends end
  served-with end who [] xs rs h none all covers one = absurd one
  served-with end who (c ∷ cs) xs rs h none all (this, covers) (inl ended) =
      let more = served-all (who + 1) cs xs rs h none all covers in
      (end ∷ more.0, (served-once who c h end rs all ended, more.1), contains-first end more.0)
  served-with end who (c ∷ cs) xs rs h none all (this, covers) (inr one) =
      let e = ended-once who c xs rs none this in let more = served-with end (who + 1) cs xs rs h none all covers one in
      (e.0 ∷ more.0, (served-once who c h e.0 rs all e.1, more.1), contains-front end e.0 more.0 more.2)

  pub stands-settle : (first : ℕ) (cs : List ToldStreams) (p : Pass T Entry Ground g) (s : Sessions X (Begun S K T Entry Ground g) T Entry Ground g) (h : History) → s.running.items ≡ [] → AllByRecursion (IsSettled h) s.retired.items → Stands gs gk first cs p s
      → (ends : List SessionEnd) × AreServed first cs ends h × IfSome s.spent (Found ends)
  stands-settle first cs p s h none all old = by s.spent old.found
    where
      by : (spent : Option ℕ) → IfSome spent (λ ticket. HasOne (λ n c. Has (HasEnded (SpentTicket ticket) n c) s.retired.items) first cs) → (ends : List SessionEnd) × AreServed first cs ends h × IfSome spent (Found ends)
      by None found = let made = served-all first cs s.running.items s.retired.items h none all old.all in (made.0, made.1, tt)
      by (Some ticket) found = served-with (SpentTicket ticket) first cs s.running.items s.retired.items h none all old.all found

  -- a thread has ended and is taken in
  pub takes-one : {M D : Type 0} (gm : media.Ghosts M) (gd : disks.Ghosts D) (p q ended : Pass T Entry Ground g) (end : SessionEnd) (s u : Sessions X (Begun S K T Entry Ground g) T Entry Ground g) (one : Running X (Begun S K T Entry Ground g)) (k n : ℕ) (xs : List (Running X (Begun S K T Entry Ground g)))
      → one ≡ slice_index_or s.running.items k one → k < length s.running.items → xs ≡ remove s.running.items k → n + 1 ≡ used_of s
      → ServedBy gm gd (told_in gs gk one) (pass_in gs gk one) ended end → Goes 0 p q → Retires q ended xs s.retired.items n (most_of s) u → u.spent ≡ spent_after end s.spent
      → TakesIn gs gk p q s u
  takes-one gm gd p q ended end s u one k n xs at within removed used served goes r spent = record {
    goes = goes;
    used = let a = r.used_now in omega arith;
    most = r.most_now;
    spent = λ is. subst IsSome (sym spent) (spent-stays end s.spent is);
    stands = λ first cs old.
        stands-with first cs q _ _ _ u (r.running_now ∙ removed) r.retired_now spent
        (stand-ends (pass_in gs gk) (told_in gs gk) first cs end q s.running.items k one s.retired.items r.last s.spent (sym at) within r.past
        (r.number ∙ ap Some served.same.1)
        (subst (λ es. IsServed (told_in gs gk one) (number_of (pass_in gs gk one)) end es) (sym r.own) served.served)
        (stands-goes first cs 0 p q s goes old));
  }

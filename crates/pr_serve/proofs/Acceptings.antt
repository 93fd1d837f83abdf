-- Connections taken one after another.
use Rattle.std.proofs.Common.{◌≡◌, ℕ, ◌+◌, ◌^◌, ◌≤◌, List, [], ◌∷◌, ◌++◌, Option, Some, None, Result, Ok, Err, OnOk, IfErr, IfSome, IsOk, length, length-append, append-nil, append_assoc, refl, sym, ap, ◌∙◌, subst, arith}
use Rattle.std.proofs.lemmas.Bool.{false≢true}
use Rattle.pr_io.specs.Told.{ToldStreams}
use Rattle.pr_io.specs.Doors.{Takes, Counts}
use Rattle.pr_io.specs.declared.outside.Source as sources
use Rattle.pr_io.specs.declared.outside.Sink as sinks
use Rattle.pr_model.specs.Entries.{Entry}
use Rattle.pr_gate.specs.declared.pass.Pass.{Pass}
use Rattle.pr_gate.specs.declared.stands.Stands as gates
use Rattle.pr_gate.specs.Passes.{seen_of, spare_of}
use Rattle.pr_core.specs.declared.ground.Ground.{Ground}
use Rattle.pr_session.specs.declared.session_end.SessionEnd.{SessionEnd}
use Rattle.pr_serve.specs.declared.connection.Begun.{Begun}
use Rattle.pr_serve.specs.declared.sessions.Sessions.{Sessions}
use Rattle.pr_serve.specs.Connections.{Goes, AreServed}
use Rattle.pr_serve.specs.Crowds.{Stands, TakesIn, used_of, most_of}
use Rattle.pr_serve.specs.declared.stop.Stop.{Stop}
use Rattle.pr_serve.specs.declared.stop.Stop.TheVariants.{Door, Spent}
use Rattle.pr_serve.specs.Accepting.{IsCause, ToldDoor, told_door, AreFirst, Took, Accepts, Serves}
use Rattle.pr_serve.proofs.Crowding.{goes-more}

first-none : (a : Option (List ToldStreams)) → AreFirst a a []
first-none None = refl
first-none (Some cs) = refl

first-more : (a b c : Option (List ToldStreams)) (ms ns : List ToldStreams) → AreFirst a b ms → AreFirst b c ns → AreFirst a c (ms ++ ns)
first-more None None c ms ns f h = h
first-more None (Some b) c ms ns f h = absurd (subst (λ o. lost o) f tt)
  where
    lost : Option (List ToldStreams) → Type 0
    lost None = ⊥
    lost (Some cs) = Unit {0}
first-more (Some a) None c ms ns f h = absurd f
first-more (Some a) (Some b) None ms ns f h = absurd h
first-more (Some a) (Some b) (Some c) ms ns f h = f ∙ (ap (λ l. ms ++ l) h ∙ sym (append_assoc ms ns c))

pub took-one : {C E : Type 0} (w v : Option (List ToldStreams)) (m n : ℕ) (c : C) (tells : C → ToldStreams) → Takes {C = C} {E = E} w v (Ok c) tells → Counts {C = C} {E = E} m n (Ok c) → Took (told_door w m) (told_door v n) (tells c ∷ [])
took-one None v m n c tells t k = record { first = t; taken = let x = k.taken in omega arith }
took-one (Some w) None m n c tells t k = absurd t
took-one (Some w) (Some v) m n c tells t k = record { first = t; taken = let x = k.taken in omega arith }

pub took-failed : {C E : Type 0} (w v : Option (List ToldStreams)) (m n : ℕ) (e : E) (tells : C → ToldStreams) → Takes {C = C} {E = E} w v (Err e) tells → Counts {C = C} {E = E} m n (Err e) → Took (told_door w m) (told_door v n) []
took-failed None v m n e tells t k = record { first = t; taken = let x = k.none in omega arith }
took-failed (Some w) None m n e tells t k = absurd t
took-failed (Some w) (Some v) m n e tells t k = record { first = sym t; taken = let x = k.none in omega arith }

pub took-none : (a : ToldDoor) → Took a a []
took-none a = record { first = first-none a.waiting; taken = omega arith }

took-more : (a b c : ToldDoor) (ms ns : List ToldStreams) → Took a b ms → Took b c ns → Took a c (ms ++ ns)
took-more a b c ms ns f h = record {
  first = first-more a.waiting b.waiting c.waiting ms ns f.first h.first;
  taken = let x = f.taken in let y = h.taken in omega (arith, length-append ms ns);
}

module _ {S K T X : Type 0} {g : gates.Ghosts T Entry Ground} (gs : sources.Ghosts S) (gk : sinks.Ghosts K) where
  -- none was taken, but some may have been taken in
  pub accepts-none : (a b : ToldDoor) (p q : Pass T Entry Ground g) (s t : Sessions X (Begun S K T Entry Ground g) T Entry Ground g) → Took a b [] → TakesIn gs gk p q s t → Accepts gs gk a b [] p q s t
  accepts-none a b p q s t took o = record {
    took = took;
    goes = o.goes;
    used = let x = o.used in omega arith;
    most = o.most;
    stands = λ first cs n old. subst (λ l. Stands gs gk first l q t) (sym (append-nil cs)) (o.stands first cs old);
  }

  -- some were taken in, and one was taken
  pub accepts-one : (a b : ToldDoor) (c : ToldStreams) (p q r : Pass T Entry Ground g) (s t u : Sessions X (Begun S K T Entry Ground g) T Entry Ground g)
      → Took a b (c ∷ []) → TakesIn gs gk p q s t → Goes 1 q r → used_of u ≡ used_of t + 1 → most_of u ≡ most_of t
      → ((first : ℕ) (cs : List ToldStreams) → first + length cs + spare_of q ≡ 2 ^ 62 + 1 → Stands gs gk first cs q t → Stands gs gk first (cs ++ c ∷ []) r u)
      → Accepts gs gk a b (c ∷ []) p r s u
  accepts-one a b c p q r s t u took o goes used most stands = record {
    took = took;
    goes = goes-more 0 1 p q r o.goes goes;
    used = let x = o.used in omega arith;
    most = most ∙ o.most;
    stands = λ first cs is old. stands first cs (let x = o.goes.spare in omega arith) (o.stands first cs old);
  }

  pub accepts-more : (a b c : ToldDoor) (ms ns : List ToldStreams) (p q r : Pass T Entry Ground g) (s t u : Sessions X (Begun S K T Entry Ground g) T Entry Ground g)
      → Accepts gs gk a b ms p q s t → Accepts gs gk b c ns q r t u → Accepts gs gk a c (ms ++ ns) p r s u
  accepts-more a b c ms ns p q r s t u o n = record {
    took = took-more a b c ms ns o.took n.took;
    goes = subst (λ k. Goes k p r) (sym (length-append ms ns)) (goes-more (length ms) (length ns) p q r o.goes n.goes);
    used = let x = o.used in let y = n.used in omega (arith, length-append ms ns);
    most = n.most ∙ o.most;
    stands = λ first cs is old. subst (λ l. Stands gs gk first l r u) (append_assoc cs ms ns)
        (n.stands first (cs ++ ms) (let x = o.goes.spare in omega (arith, length-append cs ms)) (o.stands first cs is old));
  }

  -- all were taken in, and what each session made is known
  pub serves-all : (a b : ToldDoor) (cs : List ToldStreams) (p q r z : Pass T Entry Ground g) (s t u : Sessions X (Begun S K T Entry Ground g) T Entry Ground g)
      → Accepts gs gk a b cs p q s t → TakesIn gs gk q r t u → Goes 0 r z
      → (first : ℕ) → first + spare_of p ≡ 2 ^ 62 + 1 → (ends : List SessionEnd) → AreServed first cs ends (seen_of z)
      → Serves a b p z cs ends
  serves-all a b cs p q r z s t u o i last n at ends all = record {
    took = o.took;
    goes = subst (λ k. Goes k p z) (omega arith) (goes-more (length cs) 0 p r z (subst (λ k. Goes k p r) (omega arith) (goes-more (length cs) 0 p q r o.goes i.goes)) last);
    served = λ first is. subst (λ m. AreServed m cs ends (seen_of z)) (omega (arith, at, is)) all;
  }

-- a cause since a later count is one since an earlier count
pub cause-since : (stop : Stop) (IsFound : ℕ → Type 0) (a b c : ℕ) → a ≤ b → IsCause stop IsFound b c → IsCause stop IsFound a c
cause-since Door IsFound a b c le rose = omega (arith, rose)
cause-since (Spent ticket) IsFound a b c le is = is

-- what is so of the ticket that is known is so of that for which no more are taken
pub cause-of : (stopped : Result (Unit {0}) Stop) (spent : Option ℕ) (IsFound : ℕ → Type 0) (a b : ℕ) → IfSome spent IsFound
    → IfErr stopped (λ stop. IsCause stop (λ ticket. spent ≡ Some ticket) a b) → IfErr stopped (λ stop. IsCause stop IsFound a b)
cause-of (Ok u) spent IsFound a b found is = tt
cause-of (Err Door) spent IsFound a b found is = is
cause-of (Err (Spent ticket)) spent IsFound a b found (large, is) = (large, subst (λ o. IfSome o IsFound) is found)

-- what holds where all were taken holds where that is said
pub on-all : {X Y E F : Type 0} (r : Result X E) (t : Result Y F) (P : Type 0) → OnOk r (IsOk t) → OnOk t P → OnOk r P
on-all (Ok x) (Ok y) P is p = p
on-all (Ok x) (Err e) P is p = absurd (false≢true is)
on-all (Err e) t P is p = tt

-- A whole run of off, connection by connection: each is one whose device has lost the victim's key.
use Rattle.std.proofs.Common.{◌≡◌, ℕ, ◌<◌, ◌^◌, List, [], ◌∷◌, ◌++◌, map, Option, Some, None, refl, sym, ap, ◌∙◌, subst, append_assoc}
use Rattle.std.specs.List.{AllByRecursion}
use Rattle.std.proofs.lemmas.List.{append-nil}
use Rattle.pr_words.specs.declared.nexus.Key.{Key}
use Rattle.pr_model.specs.Sessions.{connection}
use Rattle.pr_model.specs.Worlds.{World}
use Rattle.pr_io.specs.Talks as talks
use Rattle.pr_io.specs.Talks.{Begins, Connection, Talk, connections, dialled}
use Rattle.pr_initiator.specs.Goings.{CurrentGoes, Goes}
use Rattle.pr_initiator.specs.Links.{Link}
use Rattle.pr_fence.specs.Ousting.{HaveOusted}
use Rattle.pr_fence.specs.Words.{Wanted}
use Rattle.pr_rig.proofs.Ousting.{Converses, Ousts, conversed}
use Rattle.pr_rig.proofs.Passing.{Formed}
use Rattle.pr_rig.proofs.Turning.{Leads}

-- whatever device answered a connection like this is one from which the victim's key is gone
abbrev pub Convinces : Key → Connection → Type 0
Convinces victim c = (w : World) (lost : List ℕ) → Formed w → Leads (Ousts victim) w (connection c.sent) (c.received ++ lost)

-- one connection more
pub record OneMore (victim : Key) (address : List ℕ) (t : Talk) (now : Option Talk) : Type 0 where
  pub talk : Talk
  pub is : now ≡ Some talk
  pub last : Connection
  pub all : connections talk ≡ connections t ++ last ∷ []
  pub named : last.address ≡ address
  pub convinces : Convinces victim last

current_more : (victim : Key) (address : List ℕ) (t u : Talk) (d : Option Connection) (sent heard : List ℕ) → u.current ≡ d → u.earlier ≡ connections t → CurrentGoes (Some (talks.connection address)) d sent heard
    → ((w : World) (lost : List ℕ) → Formed w → Leads (Ousts victim) w (connection sent) (heard ++ lost)) → OneMore victim address t (Some u)
current_more victim address t u None sent heard is before goes leads = absurd goes
current_more victim address t u (Some d) sent heard is before goes leads =
    record {
      talk = u;
      is = refl;
      last = d;
      all = ap (λ (c : Option Connection). talks.one_more u.earlier c) is ∙ ap (λ (cs : List Connection). cs ++ d ∷ []) before;
      named = goes.0;
      convinces = λ w lost formed.
          subst (λ (x : List ℕ). Leads (Ousts victim) w (connection x) (d.received ++ lost)) (sym goes.1)
          (subst (λ (x : List ℕ). Leads (Ousts victim) w (connection sent) (x ++ lost)) (sym goes.2) (leads w lost formed));
    }

talk_more : (victim : Key) (address : List ℕ) (t : Talk) (old mid now : Option Talk) (sent heard : List ℕ) → old ≡ Some t → Begins old mid address → Goes mid now sent heard
    → ((w : World) (lost : List ℕ) → Formed w → Leads (Ousts victim) w (connection sent) (heard ++ lost)) → OneMore victim address t now
talk_more victim address t None mid now sent heard is begins goes leads = absurd cc
talk_more victim address t (Some o) None now sent heard is begins goes leads = absurd begins
talk_more victim address t (Some o) (Some m) None sent heard is begins goes leads = absurd goes
talk_more victim address t (Some o) (Some m) (Some u) sent heard is begins goes leads =
    let same : o ≡ t = cc in
    let from : m ≡ dialled t address = begins ∙ ap (λ (x : Talk). dialled x address) same in
    current_more victim address t u u.current sent heard refl (goes.0 ∙ ap (λ (x : Talk). x.earlier) from)
    (subst (λ (x : Talk). CurrentGoes x.current u.current sent heard) from goes.1) leads

pub one_more : (victim : Key) (address : List ℕ) (t : Talk) (old new : Link) → old.talk ≡ Some t → Converses victim address old new → OneMore victim address t new.talk
one_more victim address t old new is c = talk_more victim address t old.talk c.dialled.talk new.talk c.sent c.heard is c.begins c.goes c.leads

-- so many connections more
pub record SomeMore (victim : Key) (addresses : List (List ℕ)) (t : Talk) (now : Option Talk) : Type 0 where
  pub talk : Talk
  pub is : now ≡ Some talk
  pub more : List Connection
  pub all : connections talk ≡ connections t ++ more
  pub named : map (λ (c : Connection). c.address) more ≡ addresses
  pub convince : AllByRecursion (Convinces victim) more

pub all_more : (w : Wanted) (victim : Key) (addresses : List (List ℕ)) (t : Talk) (old new : Link) → w.own.0 < 2 ^ 64 → victim.0 < 2 ^ 64 → (w.own.0 ≡ victim.0 → ⊥) → old.talk ≡ Some t → HaveOusted w victim addresses old new
    → SomeMore victim addresses t new.talk
all_more w victim [] t old new own_fits victim_fits differ is ousted =
    record { talk = t; is = ap (λ (l : Link). l.talk) ousted ∙ is; more = []; all = sym (append-nil (connections t)); named = refl; convince = tt }
all_more w victim (address ∷ rest) t old new own_fits victim_fits differ is (mid, was, first, others) =
    let one : OneMore victim address t mid.talk = one_more victim address t old mid is (conversed w.own victim own_fits victim_fits differ address w.nexus w.aptpl was old mid first) in
    let on : SomeMore victim rest one.talk new.talk = all_more w victim rest one.talk mid new own_fits victim_fits differ one.is others in
    record {
      talk = on.talk;
      is = on.is;
      more = one.last ∷ on.more;
      all = on.all ∙ ap (λ (cs : List Connection). cs ++ on.more) one.all ∙ append_assoc (connections t) (one.last ∷ []) on.more;
      named = ap (λ (a : List ℕ). a ∷ map (λ (c : Connection). c.address) on.more) one.named ∙ ap (λ (names : List (List ℕ)). address ∷ names) on.named;
      convince = (one.convinces, on.convince);
    }

-- What off that ends well has done, step by step.
use Rattle.std.proofs.Common.{◌≡◌, ◌∙◌, ◌+◌, ◌||◌, ℕ, Bool, true, false, List, [], ◌∷◌, refl, sym, ap, subst}
use Rattle.std.specs.Prelude.{Result, Ok, Err, IfOk}
use Rattle.pr_words.specs.declared.nexus.Key.{Key}
use Rattle.pr_words.specs.declared.nexus.Nexus.{Nexus}
use Rattle.pr_words.specs.declared.service.InService.TheVariants as ins
use Rattle.pr_initiator.specs.Commands.{reserve_in}
use Rattle.pr_initiator.specs.Links.{Link}
use Rattle.pr_io.specs.declared.outside.Failed.{Failed}
use Rattle.pr_fence.specs.declared.asked.Asked.TheVariants as ask
use Rattle.pr_fence.specs.declared.exit.FenceExit.{FenceExit}
use Rattle.pr_fence.specs.declared.exit.FenceExit.TheVariants as exit
use Rattle.pr_fence.specs.declared.fence_fault.FenceFault.{FenceFault}
use Rattle.pr_fence.specs.declared.fence_fault.FenceFault.TheVariants as fault
use Rattle.pr_fence.specs.declared.plan.Errand.{Errand}
use Rattle.pr_fence.specs.declared.plan.Errand.TheVariants.{Off}
use Rattle.pr_fence.specs.Devices.{ChecksAndLeaves, Ousts, HoldsAndOusts, JoinsAndOusts, LooksAndOusts, TurnsOff}
use Rattle.pr_fence.specs.Exits.{exit_at}
use Rattle.pr_fence.specs.Ousting.{HasOusted, HaveOusted}
use Rattle.pr_fence.specs.Seeing.{listed_in}
use Rattle.pr_fence.specs.Steps.{Step, Then, GoesOn, Gives, Unless, Where, Opens, Closes, Finds, Looks, Registers, Holds, Removes, Checks, Leaves, Orders, Reads, gone_by}
use Rattle.pr_fence.specs.Whole.{At, Works, Serves, Tells, Visits, VisitsAll, result_at, written_by}
use Rattle.pr_fence.specs.Words.{Wanted}

-- both steps went well
pub record Parts {S E T U : Type 0} (first : Step S E T) (next : T → Step S E U) (old new : S) (u : U) : Type 0 where
  pub mid : S
  pub value : T
  pub one : first old mid (Ok value)
  pub more : next value mid new (Ok u)

parts_by : {S E T U : Type 0} (first : Step S E T) (next : T → Step S E U) (old mid new : S) (r : Result T E) (u : U) → first old mid r → GoesOn next r mid new (Ok u) → Parts first next old new u
parts_by first next old mid new (Ok v) u one more = record { mid = mid; value = v; one = one; more = more }
parts_by first next old mid new (Err e) u one (same, is) = absurd (let never : Ok u ≡ Err e = is in cc)

pub parts : {S E T U : Type 0} (first : Step S E T) (next : T → Step S E U) (old new : S) (u : U) → Then first next old new (Ok u) → Parts first next old new u
parts first next old new u (mid, r, one, more) = parts_by first next old mid new r u one more

still_by : (there : Bool) → Ok tt ≡ gone_by there → there ≡ false
still_by true is = absurd (let never : Ok tt ≡ gone_by true = is in cc)
still_by false is = refl

-- what was done on one device
pub ousted : (address : List ℕ) (nexus : Nexus) (own victim : Key) (aptpl : Bool) (old new : Link) (was : Bool) → TurnsOff address nexus own victim aptpl old new (Ok was) → HasOusted address nexus own victim aptpl old new was
ousted address nexus own victim aptpl old new was is =
    let a = parts (Opens address nexus) (λ u. LooksAndOusts nexus own victim aptpl) old new was is in
    let b = parts (Looks nexus own victim) (JoinsAndOusts own victim aptpl) a.mid new was a.more in
    let c = parts (Unless b.value.own (Registers own aptpl)) (λ u. HoldsAndOusts own victim b.value.victim) b.mid new was b.more in
    let d = parts (Holds own) (λ u. Ousts own victim b.value.victim) c.mid new was c.more in
    let e = parts (Where b.value.victim (Removes own victim)) (λ u. ChecksAndLeaves victim b.value.victim) d.mid new was d.more in
    let f = parts (Checks victim) (λ u. Leaves b.value.victim) e.mid new was e.more in
    let h = parts (Finds victim) (λ there. Gives (gone_by there)) e.mid f.mid tt f.one in
    let k = parts (Orders ask.Keys (reserve_in ins.ReadKeys)) (λ u. Reads (listed_in victim)) e.mid h.mid h.value h.one in
    let m = parts Closes (λ u. Gives (Ok b.value.victim)) f.mid new was f.more in
    let same : f.mid ≡ k.mid = h.more.0 ∙ k.more.0 in
    let found : Ok was ≡ Ok b.value.victim = m.more.1 in
    record {
      entered = a.mid;
      looked = b.mid;
      joined = c.mid;
      held = d.mid;
      removed = e.mid;
      checked = k.mid;
      sight = b.value;
      opens = a.one;
      looks = b.one;
      joins = c.one;
      holds = d.one;
      removes = e.one;
      lists = k.one;
      gone = subst (λ (x : Bool). Ok x ≡ listed_in victim k.mid.received) (still_by h.value h.more.1) k.more.1;
      closes = subst (λ (x : Link). Closes x new (Ok tt)) same (subst (λ (x : Link). Closes f.mid x (Ok tt)) (sym m.more.0) m.one);
      found = cc;
    }

pub ousted_if : (address : List ℕ) (nexus : Nexus) (own victim : Key) (aptpl : Bool) (old new : Link) (r : Result Bool FenceFault) → TurnsOff address nexus own victim aptpl old new r → IfOk r (HasOusted address nexus own victim aptpl old new)
ousted_if address nexus own victim aptpl old new (Ok was) is = ousted address nexus own victim aptpl old new was is
ousted_if address nexus own victim aptpl old new (Err e) is = tt

-- a fault of a device
well_by : (i : ℕ) (r : Result Bool FenceFault) (v : Bool) → Ok v ≡ result_at i r → r ≡ Ok v
well_by i (Ok u) v is = let same : Ok v ≡ Ok u = is in cc
well_by i (Err f) v is = absurd (let never : Ok v ≡ result_at i (Err f) = is in cc)

record Visited (w : Wanted) (victim : Key) (address : List ℕ) (old new : Link) : Type 0 where
  pub was : Bool
  pub ousted : HasOusted address w.nexus w.own victim w.aptpl old new was

visit : (w : Wanted) (victim : Key) (i : ℕ) (address : List ℕ) (old new : At) (here : Bool) → w.errand ≡ Off victim → Visits w i address old new (Ok here) → Visited w victim address old.link new.link
visit w victim i address old new here off is =
    let p = parts (Serves w i address) (Tells w.errand address) old new here is in
    let works = subst (λ (r : Result Bool FenceFault). Works w w.errand address old.link p.mid.link r) (well_by i p.one.0 p.value p.one.3) p.one.1 in
    let turns = subst (λ (e : Errand). Works w e address old.link p.mid.link (Ok p.value)) off works in
    let goes = subst (λ (x : Link). TurnsOff address w.nexus w.own victim w.aptpl old.link x (Ok p.value)) (sym p.more.0) turns in
    record { was = p.value; ousted = ousted address w.nexus w.own victim w.aptpl old.link new.link p.value goes }

-- what was done on all of them
pub all_ousted : (w : Wanted) (victim : Key) (ws : List (List ℕ)) (i : ℕ) (found v : Bool) (old new : At) → w.errand ≡ Off victim → VisitsAll w i found ws old new (Ok v) → HaveOusted w victim ws old.link new.link
all_ousted w victim [] i found v old new off is = ap (λ (a : At). a.link) is.0
all_ousted w victim (address ∷ rest) i found v old new off is =
    let p = parts (Visits w i address) (λ here. VisitsAll w (i + 1) (found || here) rest) old new v is in
    let one = visit w victim i address old p.mid p.value off p.one in
    (p.mid.link, one.was, one.ousted, all_ousted w victim rest (i + 1) (found || p.value) v p.mid new off p.more)

-- the exits of a run that ends early
abbrev pub IsEarly : FenceExit → Type 0
IsEarly exit.Done = ⊥
IsEarly exit.Present = ⊥
IsEarly exit.Absent = ⊥
IsEarly exit.BadWords = ⊥
IsEarly exit.SelfFence = ⊥
IsEarly exit.NoMemory = ⊥
IsEarly _ = Unit {0}

early_at : (i : ℕ) (f : FenceFault) → IsEarly (exit_at i f)
early_at i (fault.Link asked f) = tt
early_at i (fault.Conflict asked) = tt
early_at i (fault.Check asked code) = tt
early_at i (fault.OddStatus asked status) = tt
early_at i (fault.BadData asked place) = tt
early_at i fault.StillThere = tt

early_by : (i : ℕ) (r : Result Bool FenceFault) (e : FenceExit) → Err e ≡ result_at i r → IsEarly e
early_by i (Ok v) e is = absurd (let never : Err e ≡ result_at i (Ok v) = is in cc)
early_by i (Err f) e is = let same : exit_at i f ≡ e = (let both : Err e ≡ Err (exit_at i f) = is in cc) in subst IsEarly same (early_at i f)

early_put : (found : Bool) (p : Result Unit Failed) (e : FenceExit) → Err e ≡ written_by found p → IsEarly e
early_put found (Ok u) e is = absurd (let never : Err e ≡ written_by found (Ok u) = is in cc)
early_put found (Err x) e is = let same : exit.WriteFault ≡ e = (let both : Err e ≡ Err exit.WriteFault = is in cc) in subst IsEarly same tt

early_visit : (w : Wanted) (i : ℕ) (address : List ℕ) (old new : At) (e : FenceExit) → Visits w i address old new (Err e) → IsEarly e
early_visit w i address old new e (mid, Ok found, one, more) = early_put found more.1 e more.3
early_visit w i address old new e (mid, Err x, one, more) = let same : x ≡ e = (let both : Err e ≡ Err x = more.1 in cc) in subst IsEarly same (early_by i one.0 x one.3)

pub early : (w : Wanted) (ws : List (List ℕ)) (i : ℕ) (found : Bool) (old new : At) (e : FenceExit) → VisitsAll w i found ws old new (Err e) → IsEarly e
early w [] i found old new e is = absurd (let never : Err e ≡ Ok found = is.1 in cc)
early w (address ∷ rest) i found old new e (mid, Ok here, one, more) = early w rest (i + 1) (found || here) mid new e more
early w (address ∷ rest) i found old new e (mid, Err x, one, more) = let same : x ≡ e = (let both : Err e ≡ Err x = more.1 in cc) in subst IsEarly same (early_visit w i address old mid x one)

-- A connection that goes on, call by call.
use Rattle.std.proofs.Common.{◌≡◌, ◌≤◌, ◌<◌, ℕ, ◌+◌, ◌-◌, true, List, ◌++◌, [], length, take, drop, Option, Some, None, refl, sym, ap, ◌∙◌, append_assoc, arith, subst}
use Rattle.std.specs.Prelude.{Result, Ok, Err, OnOk, OnErr}
use Rattle.std.proofs.lemmas.Bool.{eq-eqb, ne_eqb}
use Rattle.std.proofs.lemmas.List.{append-nil}
use borrow.Rule.Slice.PartMut.{put_mid}
use Rattle.pr_io.specs.declared.outside.Failed.{Failed}
use Rattle.pr_io.specs.Talks.{Connection, Talk, Receives, Sends, received_on, sent_on}
use Rattle.pr_io.proofs.Pieces.{took_next}
use Rattle.pr_initiator.specs.Goings.{Goes, CurrentGoes, WasEnded, EndedAt}

pub current_stays : (c : Option Connection) → CurrentGoes c c [] []
current_stays None = (refl, refl)
current_stays (Some c) = (refl, sym (append-nil c.sent), sym (append-nil c.received))

pub stays : (t : Option Talk) → Goes t t [] []
stays None = refl
stays (Some t) = (refl, current_stays t.current)

current_more : (a b c : Option Connection) (s t h k : List ℕ) → CurrentGoes a b s h → CurrentGoes b c t k → CurrentGoes a c (s ++ t) (h ++ k)
current_more None None None s t h k p q = (ap (λ (w : List ℕ). w ++ t) p.0 ∙ q.0, ap (λ (w : List ℕ). w ++ k) p.1 ∙ q.1)
current_more (Some a) (Some b) (Some c) s t h k p q =
    (q.0 ∙ p.0, q.1 ∙ ap (λ (w : List ℕ). w ++ t) p.1 ∙ append_assoc a.sent s t, q.2 ∙ ap (λ (w : List ℕ). w ++ k) p.2 ∙ append_assoc a.received h k)
current_more None None (Some c) s t h k p q = absurd q
current_more None (Some b) c s t h k p q = absurd p
current_more (Some a) None c s t h k p q = absurd p
current_more (Some a) (Some b) None s t h k p q = absurd q

pub more : (a b c : Option Talk) (s t h k : List ℕ) → Goes a b s h → Goes b c t k → Goes a c (s ++ t) (h ++ k)
more None None c s t h k p q = q
more None (Some b) c s t h k p q = absurd cc
more (Some a) None c s t h k p q = absurd p
more (Some a) (Some b) None s t h k p q = absurd q
more (Some a) (Some b) (Some c) s t h k p q = (q.0 ∙ p.0, current_more a.current b.current c.current s t h k p.1 q.1)

-- the connection that stands goes on
goes_by : (a b : Talk) (c d : Connection) (s h : List ℕ) → a.current ≡ Some c → b ≡ record { earlier = a.earlier; current = Some d } → CurrentGoes (Some c) (Some d) s h → Goes (Some a) (Some b) s h
goes_by a b c d s h is same goes =
    let current : b.current ≡ Some d = ap (λ (t : Talk). t.current) same in
    (ap (λ (t : Talk). t.earlier) same, subst (λ (x : Option Connection). CurrentGoes x b.current s h) (sym is) (subst (λ (y : Option Connection). CurrentGoes (Some c) y s h) (sym current) goes))

-- bytes were received, or none
pub received : (a b : Option Talk) (n : ℕ) (buf : List ℕ) → Receives a b (Ok n) buf → Goes a b [] (take n buf)
received None b n buf p = p
received (Some a) None n buf p = absurd p
received (Some a) (Some b) n buf p =
    goes_by a b p.0 (received_on p.0 n (length buf) buf) [] (take n buf) p.1 p.2 (refl, sym (append-nil p.0.sent), refl)

ended_in : (c : Connection) (n room : ℕ) (buf : List ℕ) → n ≡ 0 → 0 < room → (received_on c n room buf).ended ≡ true
ended_in c n room buf none some = rw (eq-eqb n 0 none, ne_eqb room 0 (λ e. absurd (omega (arith, e, some)))) refl

ended_after : (b : Talk) (earlier : List Connection) (d : Connection) → b ≡ record { earlier = earlier; current = Some d } → d.ended ≡ true → EndedAt b.current
ended_after b earlier d same ended = subst (λ (x : Option Connection). EndedAt x) (sym (ap (λ (t : Talk). t.current) same)) ended

-- none into a buffer with room: the other side has ended
pub ended_by : (a b : Option Talk) (n : ℕ) (buf : List ℕ) → Receives a b (Ok n) buf → n ≡ 0 → 0 < length buf → WasEnded b
ended_by None None n buf p none some = tt
ended_by None (Some b) n buf p none some = absurd cc
ended_by (Some a) None n buf p none some = absurd p
ended_by (Some a) (Some b) n buf p none some = ended_after b a.earlier (received_on p.0 n (length buf) buf) p.2 (ended_in p.0 n (length buf) buf none some)

pub sent : (a b : Option Talk) (bytes : List ℕ) → Sends a b (Ok tt) bytes → Goes a b bytes []
sent None b bytes p = p
sent (Some a) None bytes p = absurd p
sent (Some a) (Some b) bytes p = goes_by a b p.0 (sent_on p.0 bytes) bytes [] p.1 p.2 (refl, refl, sym (append-nil p.0.received))

-- bytes behind others
pub next_in : (a b c : Option Talk) (xs ys : List ℕ) (at n : ℕ) → Goes a b [] (take at xs) → Goes b c [] (take n ys) → at ≤ length xs
    → n ≤ length (take (length xs - at) (drop at xs)) → length ys ≡ length (take (length xs - at) (drop at xs))
    → record { within : at + n ≤ length (put_mid at (length xs - at) xs ys); goes : Goes a c [] (take (at + n) (put_mid at (length xs - at) xs ys)) }
next_in a b c xs ys at n p q le count same =
    let both = took_next (Some (take at xs ++ take n ys)) (Some (take n ys)) (Some []) xs ys at n refl (sym (append-nil (take n ys))) le count same in
    let parts : take at xs ++ take n ys ≡ take (at + n) (put_mid at (length xs - at) xs ys) = both.took ∙ append-nil (take (at + n) (put_mid at (length xs - at) xs ys)) in
    record { within = both.within; goes = subst (λ (w : List ℕ). Goes a c [] w) parts (more a b c [] [] (take at xs) (take n ys) p q) }

-- a call that failed
pub nothing : (a b : Option Talk) → b ≡ a → Goes a b [] []
nothing a b same = subst (λ (t : Option Talk). Goes a t [] []) (sym same) (stays a)

-- a request of a head and its data
pub both_sent : (a b c : Option Talk) (x y : List ℕ) → Sends a b (Ok tt) x → Sends b c (Ok tt) y → Goes a c (x ++ y) []
both_sent a b c x y p q = more a b c x y [] [] (sent a b x p) (sent b c y q)

pub sent_whole : (r : Result Unit Failed) (a b c : Option Talk) (x y whole : List ℕ) → Sends a b (Ok tt) x → Sends b c r y → x ++ y ≡ whole → OnOk r (Goes a c whole [])
sent_whole (Ok u) a b c x y whole p q is = subst (λ (w : List ℕ). Goes a c w []) is (both_sent a b c x y p q)
sent_whole (Err e) a b c x y whole p q is = tt

pub sent_part : (r : Result Unit Failed) (a b c : Option Talk) (x y whole : List ℕ) → Sends a b (Ok tt) x → Sends b c r y → x ++ y ≡ whole → OnErr r ((said : List ℕ) × (unsaid : List ℕ) × (whole ≡ said ++ unsaid) × Goes a c said [])
sent_part (Ok u) a b c x y whole p q is = tt
sent_part (Err e) a b c x y whole p q is = (x, y, sym is, subst (λ (t : Option Talk). Goes a t x []) (sym q) (sent a b x p))

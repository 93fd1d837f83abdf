-- The last connection of a device, and the last entries that it made.
use Rattle.std.proofs.Common.{◌≡◌, ◌⊎◌, inl, inr, ℕ, zero, suc, Bool, true, false, List, [], ◌∷◌, ◌++◌, refl, sym, ap, ◌∙◌, subst, append_assoc, append-nil}
use Rattle.std.specs.List.{AllByRecursion, filter}
use Rattle.std.proofs.lemmas.List.Elements.{filter-append}
use Rattle.pr_words.specs.declared.limits.TheConstants.{LIMIT}
use Rattle.pr_words.specs.declared.nexus.Key.{Key}
use Rattle.pr_words.specs.declared.nexus.Side.TheVariants.{Target}
use Rattle.pr_grammar.specs.Frames.{Front, Lacking, Broken, Whole, front}
use Rattle.pr_model.specs.Entries.{History}
use Rattle.pr_model.specs.Histories.{IsLegalFrom, after, moved}
use Rattle.pr_model.specs.Lanes.{Busy, Dead, Fresh, Idle, In, Lane, Phase, Turn, turn_at}
use Rattle.pr_model.specs.Runs.{Makes, closing}
use Rattle.pr_model.specs.Sessions.{AreTurns, AsksFor, IsCutShort, connection}
use Rattle.pr_model.specs.Worlds.{World}
use Rattle.pr_model.proofs.HistoryLaws.{after-append}
use Rattle.pr_model.proofs.Walk.{history_keeps, legal_behind}
use Rattle.pr_model.proofs.WellFormed.{well_formed}
use Rattle.pr_model.specs.Registrants.{IsWellFormed}
use Rattle.pr_io.specs.Lines.{Exchange, Line}
use Rattle.pr_session.specs.Peers.{AskedInTurn, peer_number}
use Rattle.pr_rig.proofs.Ousting.{Ousted, Ousts}
use Rattle.pr_rig.proofs.Passing.{Formed}
use Rattle.pr_rig.proofs.Turning.{AllFollow, Leads}

-- Entries

pub formed_after : (w : World) (h k : History) → IsLegalFrom w (h ++ k) → Formed w → Formed (after w h)
formed_after w h k legal formed = history_keeps (IsWellFormed LIMIT) (well_formed LIMIT) (λ s well. well) w h k legal formed

-- the last of the connections that were hung up
record LastAsked (x : Exchange) (h : History) : Type 0 where
  before : History
  first : History
  lost : List ℕ
  all : h ≡ before ++ first
  cut : IsCutShort peer_number x.heard first (x.said ++ lost)

last_asked : (ys : List Exchange) (x : Exchange) (h : History) → AskedInTurn (ys ++ x ∷ []) h → LastAsked x h
last_asked [] x h (first, rest, lost, cut, quiet, none, all) = record { before = []; first = first; lost = lost; all = all ∙ ap (λ (r : History). first ++ r) none ∙ append-nil first; cut = cut }
last_asked (y ∷ ys) x h (first, rest, lost, cut, quiet, others, all) =
    let last : LastAsked x rest = last_asked ys x rest others in
    record { before = first ++ last.before; first = last.first; lost = last.lost; all = all ∙ ap (λ (r : History). first ++ r) last.all ∙ sym (append_assoc first last.before last.first); cut = last.cut }

-- a connection of which nothing came asks for nothing
idle_fresh : (k : Front) → k ≡ Lacking 4 → turn_at Fresh 0 k ≡ Idle
idle_fresh (Lacking n) is = refl
idle_fresh (Broken r) is = absurd cc
idle_fresh (Whole f rest) is = absurd cc

nothing_there : front Target [] ≡ Lacking 4
unfolding front
nothing_there = refl

pub nothing_asked : (k : ℕ) (es : History) (replies : List ℕ) (m : Lane) → AreTurns k peer_number (connection []) es replies m → es ≡ []
nothing_asked zero es replies m turns = turns.0
nothing_asked (suc k) es replies m (first, reply, mid, rest, others, made, more, all, said) =
    let makes : Makes peer_number (connection []) Idle first reply mid = subst (λ (t : Turn). Makes peer_number (connection []) t first reply mid) (idle_fresh (front Target []) nothing_there) made in
    let on : AreTurns k peer_number (connection []) rest others m = subst (λ (x : Lane). AreTurns k peer_number x rest others m) makes.2 more in
    all ∙ ap (λ (h : History). h ++ rest) makes.0 ∙ nothing_asked k rest others m on

legal_first : (w : World) (xs ys : History) → IsLegalFrom w (xs ++ ys) → IsLegalFrom w xs
legal_first w [] ys legal = tt
legal_first w (e ∷ xs) ys legal = (legal.0, legal_first (moved w e) xs ys legal.1)

-- a Logout that nobody asked for leaves the registrants
closed : (victim : Key) (w : World) (p : Phase) → Ousted victim w → Ousted victim (after w (closing peer_number p))
closed victim w Fresh ousted = ousted
closed victim w (In n) ousted = ousted
closed victim w (Busy n j) ousted = ousted
closed victim w Dead ousted = ousted

-- from a world on, a connection that was answered so asked for these entries
abbrev pub Convinced : Key → List ℕ → List ℕ → Type 0
Convinced victim sent received = (w : World) (lost : List ℕ) → Formed w → Leads (Ousts victim) w (connection sent) (received ++ lost)

-- legal entries follow one another
all_may : (victim : Key) (w : World) (h : History) → IsLegalFrom w h → AllFollow (Ousts victim) w h
all_may victim w [] legal = tt
all_may victim w (e ∷ h) legal = (legal.0, all_may victim (moved w e) h legal.1)

-- the connection that stands is one that convinces
pub by_current : (victim : Key) (w : World) (l : Line) (earlier asked : History) (more : List ℕ) (last : Lane) → Convinced victim l.last.heard l.last.said → Formed w → IsLegalFrom w (earlier ++ asked)
    → AsksFor peer_number l.last.heard asked (l.last.said ++ more) last → Ousted victim (after w (earlier ++ asked))
by_current victim w l earlier asked more last convinced formed legal asks =
    subst (λ (v : World). Ousted victim v) (sym (after-append w earlier asked))
    (convinced (after w earlier) more (formed_after w earlier asked legal formed) asks.turns asked last asks.taken (all_may victim (after w earlier) asked (legal_behind w earlier asked legal)))

-- the last that was hung up is one that convinces, and on the next one nothing was heard
pub by_past : (victim : Key) (w : World) (ys : List Exchange) (x : Exchange) (earlier asked : History) (replies : List ℕ) (last : Lane) → Convinced victim x.heard x.said → Formed w → IsLegalFrom w (earlier ++ asked)
    → AskedInTurn (ys ++ x ∷ []) earlier → AsksFor peer_number [] asked replies last → Ousted victim (after w (earlier ++ asked))
by_past victim w ys x earlier asked replies last convinced formed legal past asks =
    let none : asked ≡ [] = nothing_asked asks.turns asked replies last asks.taken in
    let la : LastAsked x earlier = last_asked ys x earlier past in
    let cut : earlier ++ asked ≡ la.before ++ (la.cut.asked ++ closing peer_number la.cut.last.phase) =
    ap (λ (h : History). earlier ++ h) none ∙ append-nil earlier ∙ la.all ∙ ap (λ (h : History). la.before ++ h) la.cut.ends in
    let right : IsLegalFrom w (la.before ++ (la.cut.asked ++ closing peer_number la.cut.last.phase)) = subst (λ (h : History). IsLegalFrom w h) cut legal in
    let v : World = after w la.before in
    let behind : IsLegalFrom v (la.cut.asked ++ closing peer_number la.cut.last.phase) = legal_behind w la.before (la.cut.asked ++ closing peer_number la.cut.last.phase) right in
    let gone : Ousted victim (after v la.cut.asked) =
    convinced v la.lost (formed_after w la.before (la.cut.asked ++ closing peer_number la.cut.last.phase) right formed) la.cut.asks.turns la.cut.asked la.cut.last la.cut.asks.taken
    (all_may victim v la.cut.asked (legal_first v la.cut.asked (closing peer_number la.cut.last.phase) behind)) in
    let shut : Ousted victim (after v (la.cut.asked ++ closing peer_number la.cut.last.phase)) =
    subst (λ (u : World). Ousted victim u) (sym (after-append v la.cut.asked (closing peer_number la.cut.last.phase))) (closed victim (after v la.cut.asked) la.cut.last.phase gone) in
    subst (λ (u : World). Ousted victim u) (sym (ap (after w) cut ∙ after-append w la.before (la.cut.asked ++ closing peer_number la.cut.last.phase))) shut

-- Lists

-- the last of those that pass, where the first of them does and all have a property
pub record LastOf {A : Type 0} (Q : A → Type 0) (xs : List A) : Type 0 where
  pub before : List A
  pub last : A
  pub all : xs ≡ before ++ last ∷ []
  pub has : Q last

none_or_last : {A : Type 0} (Q : A → Type 0) (goes : A → Bool) (xs : List A) → AllByRecursion Q xs → (filter goes xs ≡ []) ⊎ LastOf Q (filter goes xs)
none_or_last {A} Q goes [] all = inl refl
none_or_last {A} Q goes (x ∷ xs) all = by (goes x) refl (none_or_last Q goes xs all.1)
  where
    by : (b : Bool) → goes x ≡ b → (filter goes xs ≡ []) ⊎ LastOf Q (filter goes xs) → (filter goes (x ∷ xs) ≡ []) ⊎ LastOf Q (filter goes (x ∷ xs))
    by true is (inl none) = inr (record { before = []; last = x; all = rw is (ap (λ (l : List A). x ∷ l) none); has = all.0 })
    by false is (inl none) = inl (rw is none)
    by true is (inr l) = inr (record { before = x ∷ l.before; last = l.last; all = rw is (ap (λ (k : List A). x ∷ k) l.all); has = l.has })
    by false is (inr l) = inr (record { before = l.before; last = l.last; all = rw is l.all; has = l.has })

pub last_found : {A : Type 0} (Q : A → Type 0) (goes : A → Bool) (front_part : List A) (x : A) (xs : List A) → AllByRecursion Q (x ∷ xs) → goes x ≡ true → LastOf Q (filter goes (front_part ++ x ∷ xs))
last_found {A} Q goes front_part x xs all is = by (none_or_last Q goes xs all.1)
  where
    whole : filter goes (front_part ++ x ∷ xs) ≡ filter goes front_part ++ x ∷ filter goes xs
    whole = filter-append goes front_part (x ∷ xs) ∙ ap (λ (l : List A). filter goes front_part ++ l) (rw is refl)

    by : (filter goes xs ≡ []) ⊎ LastOf Q (filter goes xs) → LastOf Q (filter goes (front_part ++ x ∷ xs))
    by (inl none) = record { before = filter goes front_part; last = x; all = whole ∙ ap (λ (l : List A). filter goes front_part ++ x ∷ l) none; has = all.0 }
    by (inr l) =
        record {
          before = filter goes front_part ++ x ∷ l.before;
          last = l.last;
          all = whole ∙ ap (λ (k : List A). filter goes front_part ++ x ∷ k) l.all ∙ sym (append_assoc (filter goes front_part) (x ∷ l.before) (l.last ∷ []));
          has = l.has;
        }

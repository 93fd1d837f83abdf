-- One device of several moves on, and its line with it.
use Rattle.std.proofs.Common.{◌≡◌, ℕ, zero, suc, ◌<◌, List, [], ◌∷◌, length, refl, sym, ap, ◌∙◌, arith, subst}
use Rattle.std.specs.Prelude.{slice_set, slice_index_or}
use Rattle.std.proofs.lemmas.Bool.{eq-eqb, ne_eqb}
use Rattle.pr_io.specs.Lines.{Line}
use Rattle.std.specs.declared.string.String.{String}
use Rattle.std.specs.String.{string_bytes}
use Rattle.pr_io.specs.Recordings.{addresses_of}
use Rattle.pr_io.specs.Devices.{AllStand, AllCome, changed_at}

-- the line of the place is changed, and the others are as they were
pub at_place : (i : ℕ) (change : Line → Line) (lines : ℕ → Line) → changed_at i change lines i ≡ change (lines i)
at_place i change lines = rw (eq-eqb i i refl) refl

pub elsewhere : (i : ℕ) (change : Line → Line) (lines : ℕ → Line) (j : ℕ) → (j ≡ i → ⊥) → changed_at i change lines j ≡ lines j
elsewhere i change lines j not = rw (ne_eqb j i not) refl

pub stand_alike : {X : Type 0} (stands : X → Line → Type 0) (ds : List X) (l m : ℕ → Line) → ((j : ℕ) → m j ≡ l j) → AllStand stands ds l → AllStand stands ds m
stand_alike stands [] l m same all = tt
stand_alike stands (d ∷ ds) l m same all =
    (subst (λ (w : Line). stands d w) (sym (same 0)) all.0, stand_alike stands ds (λ j. l (suc j)) (λ j. m (suc j)) (λ j. same (suc j)) all.1)

pub stand_set : {X : Type 0} (stands : X → Line → Type 0) (ds : List X) (l m : ℕ → Line) (i : ℕ) (d x : X) (change : Line → Line) → i < length ds → d ≡ slice_index_or ds i d
    → ((w : Line) → stands d w → stands x (change w)) → m i ≡ change (l i) → ((j : ℕ) → (j ≡ i → ⊥) → m j ≡ l j) → AllStand stands ds l → AllStand stands (slice_set ds i x) m
stand_set stands [] l m i d x change within is step at others all = absurd (omega (arith, within))
stand_set stands (e ∷ ds) l m zero d x change within is step at others all = (
  subst (λ (w : Line). stands x w) (sym at) (step (l 0) (subst (λ y. stands y (l 0)) (sym is) all.0)),
  stand_alike stands ds (λ j. l (suc j)) (λ j. m (suc j)) (λ j. others (suc j) (λ e. absurd (omega (arith, e)))) all.1,
)
stand_set stands (e ∷ ds) l m (suc i) d x change within is step at others all = (
  subst (λ (w : Line). stands e w) (sym (others 0 (λ e. absurd (omega (arith, e))))) all.0,
  stand_set stands ds (λ j. l (suc j)) (λ j. m (suc j)) i d x change (omega (arith, within)) is step at (λ j not. others (suc j) (λ e. not (omega (arith, e)))) all.1,
)

pub come_alike : {X : Type 0} (comes : X → Line → X → Line → Type 0) → ((d : X) (w : Line) → comes d w d w) → (ds : List X) (l m : ℕ → Line) → ((j : ℕ) → m j ≡ l j) → AllCome comes ds l ds m
come_alike comes once [] l m same = tt
come_alike comes once (d ∷ ds) l m same =
    (subst (λ (w : Line). comes d (l 0) d w) (sym (same 0)) (once d (l 0)), come_alike comes once ds (λ j. l (suc j)) (λ j. m (suc j)) (λ j. same (suc j)))

pub come_set : {X : Type 0} (stands : X → Line → Type 0) (comes : X → Line → X → Line → Type 0) → ((d : X) (w : Line) → comes d w d w)
    → (ds : List X) (l m : ℕ → Line) (i : ℕ) (d x : X) (change : Line → Line) → i < length ds → d ≡ slice_index_or ds i d
    → ((w : Line) → stands d w → comes d w x (change w)) → m i ≡ change (l i) → ((j : ℕ) → (j ≡ i → ⊥) → m j ≡ l j) → AllStand stands ds l → AllCome comes ds l (slice_set ds i x) m
come_set stands comes once [] l m i d x change within is step at others all = absurd (omega (arith, within))
come_set stands comes once (e ∷ ds) l m zero d x change within is step at others all = (
  subst (λ (w : Line). comes e (l 0) x w) (sym at) (subst (λ y. comes y (l 0) x (change (l 0))) is (step (l 0) (subst (λ y. stands y (l 0)) (sym is) all.0))),
  come_alike comes once ds (λ j. l (suc j)) (λ j. m (suc j)) (λ j. others (suc j) (λ e. absurd (omega (arith, e)))),
)
come_set stands comes once (e ∷ ds) l m (suc i) d x change within is step at others all = (
  subst (λ (w : Line). comes e (l 0) e w) (sym (others 0 (λ e. absurd (omega (arith, e))))) (once e (l 0)),
  come_set stands comes once ds (λ j. l (suc j)) (λ j. m (suc j)) i d x change (omega (arith, within)) is step at (λ j not. others (suc j) (λ e. not (omega (arith, e)))) all.1,
)

pub come_to : {X : Type 0} (comes : X → Line → X → Line → Type 0) (ds es : List X) (l m n : ℕ → Line) → ((j : ℕ) → n j ≡ m j) → AllCome comes ds l es m → AllCome comes ds l es n
come_to comes [] [] l m n same all = tt
come_to comes (d ∷ ds) (e ∷ es) l m n same all =
    (subst (λ (w : Line). comes d (l 0) e w) (sym (same 0)) all.0, come_to comes ds es (λ j. l (suc j)) (λ j. m (suc j)) (λ j. n (suc j)) (λ j. same (suc j)) all.1)
come_to comes [] (e ∷ es) l m n same all = absurd all
come_to comes (d ∷ ds) [] l m n same all = absurd all

-- the device of one place changes, but for its address
pub addresses_set : {Z P : Type 0} (ds : List (String Z × P)) (i : ℕ) (d x : String Z × P) → i < length ds → d ≡ slice_index_or ds i d → string_bytes x.0 ≡ string_bytes d.0
    → addresses_of (slice_set ds i x) ≡ addresses_of ds
addresses_set [] i d x within is same = absurd (omega (arith, within))
addresses_set (e ∷ ds) zero d x within is same = ap (λ (a : List ℕ). a ∷ addresses_of ds) (same ∙ ap (λ y. string_bytes y.0) is)
addresses_set (e ∷ ds) (suc i) d x within is same = ap (λ (l : List (List ℕ)). string_bytes e.0 ∷ l) (addresses_set ds i d x (omega (arith, within)) is same)

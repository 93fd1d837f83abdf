-- Devices in memory, each with what it has heard and said (this project's own).
use Rattle.std.specs.Prelude.{◌≡◌, ℕ, suc, ◌==◌, List, [], ◌∷◌, if◌then◌else◌}
use Rattle.pr_io.specs.Lines.{Line}

-- each device stands for the line of its place (this project's own)
abbrev pub AllStand : {X : Type 0} → (X → Line → Type 0) → List X → (ℕ → Line) → Type 0
AllStand stands [] lines = Unit {0}
AllStand stands (d ∷ ds) lines = stands d (lines 0) × AllStand stands ds (λ j. lines (suc j))

-- each device, with its line, comes from the one of its place, with that one's line (this project's own)
abbrev pub AllCome : {X : Type 0} → (X → Line → X → Line → Type 0) → List X → (ℕ → Line) → List X → (ℕ → Line) → Type 0
AllCome comes [] lines [] new = Unit {0}
AllCome comes (d ∷ ds) lines (e ∷ es) new = comes d (lines 0) e (new 0) × AllCome comes ds (λ j. lines (suc j)) es (λ j. new (suc j))
AllCome comes _ lines _ new = ⊥

-- the line of one place changes (this project's own)
abbrev pub changed_at : ℕ → (Line → Line) → (ℕ → Line) → ℕ → Line
changed_at i change lines j = if j == i then change (lines j) else lines j

-- coming from has no gap (this project's own)
pub all_come_at_once : {X : Type 0} (comes : X → Line → X → Line → Type 0) → ((d : X) (l : Line) → comes d l d l) → (ds : List X) (lines : ℕ → Line) → AllCome comes ds lines ds lines
all_come_at_once comes once [] lines = tt
all_come_at_once comes once (d ∷ ds) lines = (once d (lines 0), all_come_at_once comes once ds (λ j. lines (suc j)))

pub all_come_later : {X : Type 0} (comes : X → Line → X → Line → Type 0) → ((d e f : X) (l m n : Line) → comes d l e m → comes e m f n → comes d l f n)
    → (ds es fs : List X) (l m n : ℕ → Line) → AllCome comes ds l es m → AllCome comes es m fs n → AllCome comes ds l fs n
all_come_later comes later [] [] [] l m n first second = tt
all_come_later comes later (d ∷ ds) (e ∷ es) (f ∷ fs) l m n first second =
    (later d e f (l 0) (m 0) (n 0) first.0 second.0, all_come_later comes later ds es fs (λ j. l (suc j)) (λ j. m (suc j)) (λ j. n (suc j)) first.1 second.1)
all_come_later comes later [] [] (f ∷ fs) l m n first second = absurd second
all_come_later comes later [] (e ∷ es) fs l m n first second = absurd first
all_come_later comes later (d ∷ ds) [] fs l m n first second = absurd first
all_come_later comes later (d ∷ ds) (e ∷ es) [] l m n first second = absurd second

-- a device is an address and a peer: the address stays, and the peer comes from the earlier one (this project's own)
abbrev pub DeviceComes : {N P : Type 0} → (P → Line → P → Line → Type 0) → N × P → Line → N × P → Line → Type 0
DeviceComes comes d l e m = (e.0 ≡ d.0) × comes d.1 l e.1 m

abbrev pub DeviceStands : {N P : Type 0} → (P → Line → Type 0) → N × P → Line → Type 0
DeviceStands stands d l = stands d.1 l

-- devices that stand for their lines stand for the later ones too, and come from them (this project's own)
abbrev pub AllGoOn : {X : Type 0} → (X → Line → Type 0) → (X → Line → X → Line → Type 0) → List X → (ℕ → Line) → List X → (ℕ → Line) → Type 0
AllGoOn stands comes ds lines es new = AllStand stands ds lines → AllStand stands es new × AllCome comes ds lines es new

pub all_go_on_at_once : {X : Type 0} (stands : X → Line → Type 0) (comes : X → Line → X → Line → Type 0) → ((d : X) (l : Line) → comes d l d l) → (ds : List X) (lines : ℕ → Line)
    → AllGoOn stands comes ds lines ds lines
all_go_on_at_once stands comes once ds lines all = (all, all_come_at_once comes once ds lines)

pub all_go_on_later : {X : Type 0} (stands : X → Line → Type 0) (comes : X → Line → X → Line → Type 0) → ((d e f : X) (l m n : Line) → comes d l e m → comes e m f n → comes d l f n)
    → (ds es fs : List X) (l m n : ℕ → Line) → AllGoOn stands comes ds l es m → AllGoOn stands comes es m fs n → AllGoOn stands comes ds l fs n
all_go_on_later stands comes later ds es fs l m n first second all =
    let one = first all in
    let two = second one.0 in
    (two.0, all_come_later comes later ds es fs l m n one.1 two.1)

-- Devices and their lines that stay as they are.
use Rattle.std.proofs.Common.{◌≡◌, ℕ, Bool, true, false, ◌==◌, List, refl, sym, ap, ◌∙◌, subst, Some, None, if◌then◌else◌}
use Rattle.std.specs.Prelude.{Option}
use Rattle.pr_io.specs.declared.recorded.Recorded.{Recorded}
use Rattle.pr_io.specs.Lines.{Exchange, Line, nothing_said}
use Rattle.pr_io.specs.Talks.{Connection, Continues, connection}
use Rattle.pr_io.specs.Recordings.{line_of, exchange_of, told_of, told_current, talk_of, IsLater}
use Rattle.pr_io.specs.Devices.{AllGoOn, DeviceStands, DeviceComes}
use Rattle.pr_io.proofs.Settings.{stand_alike, come_alike}
use Rattle.pr_io.proofs.LineLaws.{go_on}

pub remains : {N P : Type 0} (stands : P → Line → Type 0) (comes : P → Line → P → Line → Type 0) → ((p : P) (l : Line) → comes p l p l) → (ds es : List (N × P)) (l m : ℕ → Line)
    → es ≡ ds → ((j : ℕ) → m j ≡ l j) → AllGoOn (DeviceStands stands) (DeviceComes comes) ds l es m
remains stands comes once ds es l m same alike =
    subst (λ xs. AllGoOn (DeviceStands stands) (DeviceComes comes) ds l xs m) (sym same)
    (λ all. (stand_alike (DeviceStands stands) ds l m alike all, come_alike (DeviceComes comes) (λ d w. (refl, once d.1 w)) ds l m alike))

-- the lines by the device, and what it heard and said
abbrev lined : List Recorded → ℕ → ℕ → Exchange → Line
lined earlier j device x = record { past = (line_of earlier None j).past; last = if device == j then x else nothing_said }

pub line_kept : (earlier : List Recorded) (r s : Recorded) → IsLater (λ c. c) r s → (j : ℕ) → line_of earlier (Some s) j ≡ line_of earlier (Some r) j
line_kept earlier r s later j =
    ap (λ (n : ℕ). lined earlier j n (exchange_of s)) later.0
    ∙ ap (λ (c : Connection). lined earlier j r.device (record { heard = c.sent; said = c.received; quiet = c.ended })) later.1

nothing_either : (b : Bool) → (if b then nothing_said else nothing_said) ≡ nothing_said
nothing_either true = refl
nothing_either false = refl

pub line_begun : (earlier : List Recorded) (r : Recorded) (address : List ℕ) → told_of r ≡ connection address → (j : ℕ) → line_of earlier (Some r) j ≡ line_of earlier None j
line_begun earlier r address told j =
    ap (λ (c : Connection). lined earlier j r.device (record { heard = c.sent; said = c.received; quiet = c.ended })) told
    ∙ ap (λ (x : Exchange). record { past = (line_of earlier None j).past; last = x }) (nothing_either (r.device == j))

-- the connection that stands goes on
pub continues : (earlier : List Recorded) (current : Option Recorded) (r s : Recorded) (change : Connection → Connection) → current ≡ Some r → IsLater change r s
    → Continues (talk_of earlier current) (talk_of earlier (Some s)) change
continues earlier current r s change is later =
    (told_of r, ap told_current is, ap (λ (c : Connection). record { earlier = (talk_of earlier None).earlier; current = Some c }) later.1)

-- devices go on to the same lines, said otherwise
pub goes_on_to : {X : Type 0} (stands : X → Line → Type 0) (comes : X → Line → X → Line → Type 0) (ds es : List X) (l m n : ℕ → Line) → ((j : ℕ) → n j ≡ m j)
    → AllGoOn stands comes ds l es m → AllGoOn stands comes ds l es n
goes_on_to stands comes ds es l m n same go = go_on stands comes ds es l m n same (λ all. (go all).0) (λ all. (go all).1)

-- The lines of devices, as a connection goes on.
use Rattle.std.proofs.Common.{◌≡◌, ℕ, Bool, true, false, ◌==◌, List, refl, sym, ap, ◌∙◌, Some, None}
use Rattle.std.proofs.lemmas.Bool.{eq-eqb, eqb-true, eqb-false, ne_eqb}
use Rattle.pr_io.specs.declared.recorded.Recorded.{Recorded}
use Rattle.pr_io.specs.Lines.{Exchange, Line}
use Rattle.pr_io.specs.Recordings.{line_of, exchange_of}
use Rattle.pr_io.specs.Devices.{AllStand, AllCome, AllGoOn, changed_at}
use Rattle.pr_io.proofs.Settings.{stand_alike, come_to}

-- what changes the last connection of a line
abbrev pub lasting : (Exchange → Exchange) → Line → Line
lasting change l = record { past = l.past; last = change l.last }

line_at : (e : Bool) (earlier : List Recorded) (r s : Recorded) (change : Exchange → Exchange) (j : ℕ) → (s.device == j) ≡ e → (r.device == j) ≡ e → (j == r.device) ≡ e
    → exchange_of s ≡ change (exchange_of r) → line_of earlier (Some s) j ≡ changed_at r.device (lasting change) (line_of earlier (Some r)) j
line_at true earlier r s change j a b c is = rw (a, b, c) (ap (λ x. record { past = (line_of earlier None j).past; last = x }) is)
line_at false earlier r s change j a b c is = rw (a, b, c) refl

same_by : (a b : ℕ) (e : Bool) → (a == b) ≡ e → (a == b) ≡ (b == a)
same_by a b true is = is ∙ sym (eq-eqb b a (sym (eqb-true a b is)))
same_by a b false is = is ∙ sym (ne_eqb b a (λ e. eqb-false a b is (sym e)))

same_test : (a b : ℕ) → (a == b) ≡ (b == a)
same_test a b = same_by a b (a == b) refl

-- the connection goes on, and the line of its device with it
pub line_later : (earlier : List Recorded) (r s : Recorded) (change : Exchange → Exchange) → s.device ≡ r.device → exchange_of s ≡ change (exchange_of r) → (j : ℕ)
    → line_of earlier (Some s) j ≡ changed_at r.device (lasting change) (line_of earlier (Some r)) j
line_later earlier r s change same is j = line_at (r.device == j) earlier r s change j (ap (λ (n : ℕ). n == j) same) refl (same_test j r.device) is

-- devices that stand for changed lines stand for the same lines, said otherwise
pub go_on : {X : Type 0} (stands : X → Line → Type 0) (comes : X → Line → X → Line → Type 0) (ds es : List X) (l m n : ℕ → Line) → ((j : ℕ) → n j ≡ m j)
    → (AllStand stands ds l → AllStand stands es m) → (AllStand stands ds l → AllCome comes ds l es m) → AllGoOn stands comes ds l es n
go_on stands comes ds es l m n same stand come all = (stand_alike stands es m n same (stand all), come_to comes ds es l m n same (come all))

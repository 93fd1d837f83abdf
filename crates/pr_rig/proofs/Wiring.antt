-- A wire in memory: its connections, and the devices to which they lead.
use Rattle.std.proofs.Common.{◌≡◌, ℕ, zero, suc, List, [], ◌∷◌, ◌++◌, map, Option, Some, None, refl, sym, ap, ◌∙◌, subst}
use Rattle.std.specs.Prelude.{slice_get}
use Rattle.std.specs.List.{AllByRecursion}
use Rattle.std.specs.String.{string_bytes}
use Rattle.std.specs.declared.string.String.{String}
use Rattle.std.proofs.lemmas.List.{append-nil, map-append}
use Rattle.pr_io.specs.declared.recorded.Recorded.{Recorded}
use Rattle.pr_io.specs.Devices.{AllStand}
use Rattle.pr_io.specs.Lines.{Line}
use Rattle.pr_io.specs.Recordings.{AreNamed, address_at, addresses_of, own_address, standing, talk_of, told_of}
use Rattle.pr_io.specs.Talks.{Connection, connections}

-- all connections as they are told
pub connections_told : (earlier : List Recorded) (current : Option Recorded) → connections (talk_of earlier current) ≡ map told_of (earlier ++ standing current)
connections_told earlier None = sym (ap (map told_of) (append-nil earlier))
connections_told earlier (Some r) = sym (map-append told_of earlier (r ∷ []))

pub all_named : (addresses : List (List ℕ)) (earlier others : List Recorded) → AreNamed addresses earlier → AreNamed addresses others → AreNamed addresses (earlier ++ others)
all_named addresses earlier others one two =
    map-append (address_at addresses) earlier others ∙ ap (λ (l : List (Option (List ℕ))). l ++ map (address_at addresses) others) one ∙ ap (λ (l : List (Option (List ℕ))). map own_address earlier ++ l) two
    ∙ sym (map-append own_address earlier others)

-- one of them
pub named_at : (addresses : List (List ℕ)) (before : List Recorded) (r : Recorded) (behind : List Recorded) → AreNamed addresses (before ++ r ∷ behind) → address_at addresses r ≡ own_address r
named_at addresses [] r behind named = cc
named_at addresses (b ∷ before) r behind named = named_at addresses before r behind cc

-- where a list is spelled as two, it is two
pub record Split (rs : List Recorded) (cs ds : List Connection) : Type 0 where
  pub before : List Recorded
  pub behind : List Recorded
  pub all : rs ≡ before ++ behind
  pub first : map told_of before ≡ cs
  pub told : map told_of behind ≡ ds

pub split : (rs : List Recorded) (cs ds : List Connection) → map told_of rs ≡ cs ++ ds → Split rs cs ds
split rs [] ds is = record { before = []; behind = rs; all = refl; first = refl; told = is }
split [] (c ∷ cs) ds is = absurd cc
split (r ∷ rs) (c ∷ cs) ds is =
    let head : told_of r ≡ c = cc in
    let rest : Split rs cs ds = split rs cs ds (cc) in
    let all : r ∷ rs ≡ r ∷ (rest.before ++ rest.behind) = ap (λ (l : List Recorded). r ∷ l) rest.all in
    record { before = r ∷ rest.before; behind = rest.behind; all = all; first = ap (λ (d : Connection). d ∷ map told_of rest.before) head ∙ ap (λ (l : List Connection). c ∷ l) rest.first; told = rest.told }

-- a property of what is told of each
pub each_told : (Q : Connection → Type 0) (rs : List Recorded) (ds : List Connection) → map told_of rs ≡ ds → AllByRecursion Q ds → AllByRecursion (λ (r : Recorded). Q (told_of r)) rs
each_told Q [] ds is all = tt
each_told Q (r ∷ rs) [] is all = absurd cc
each_told Q (r ∷ rs) (d ∷ ds) is all =
    let head : told_of r ≡ d = cc in
    (subst Q (sym head) all.0, each_told Q rs ds (cc) all.1)

-- the last of a list has a property that all behind some place have
last_has : {A : Type 0} (Q : A → Type 0) (xs : List A) (x : A) → AllByRecursion Q (xs ++ x ∷ []) → Q x
last_has Q [] x all = all.0
last_has Q (y ∷ ys) x all = last_has Q ys x all.1

pub ends_with : {A : Type 0} (Q : A → Type 0) (xs before : List A) (x y : A) (behind : List A) → xs ++ x ∷ [] ≡ before ++ y ∷ behind → AllByRecursion Q (y ∷ behind) → Q x
ends_with Q xs [] x y behind same all = last_has Q xs x (subst (AllByRecursion Q) (sym same) all)
ends_with Q [] (b ∷ []) x y behind same all = absurd cc
ends_with Q [] (b ∷ (c ∷ cs)) x y behind same all = absurd cc
ends_with Q (z ∷ zs) (b ∷ bs) x y behind same all = ends_with Q zs bs x y behind (cc) all

-- the device of a place
pub stands_at : {X : Type 0} (stands : X → Line → Type 0) (ds : List X) (lines : ℕ → Line) (i : ℕ) (d : X) → slice_get ds i ≡ Some d → AllStand stands ds lines → stands d (lines i)
stands_at stands [] lines i d is all = absurd cc
stands_at stands (e ∷ es) lines zero d is all = let same : e ≡ d = cc in subst (λ x. stands x (lines 0)) same all.0
stands_at stands (e ∷ es) lines (suc i) d is all = stands_at stands es (λ j. lines (suc j)) i d is all.1

-- a place whose address is told has a device
pub record DeviceAt {Z P : Type 0} (ds : List (String Z × P)) (i : ℕ) (address : List ℕ) : Type 0 where
  pub device : String Z × P
  pub there : slice_get ds i ≡ Some device
  pub named : string_bytes device.0 ≡ address

pub device_at : {Z P : Type 0} (ds : List (String Z × P)) (i : ℕ) (address : List ℕ) → slice_get (addresses_of ds) i ≡ Some address → DeviceAt ds i address
device_at [] i address is = absurd cc
device_at (d ∷ ds) zero address is = record { device = d; there = refl; named = cc }
device_at (d ∷ ds) (suc i) address is = let rest = device_at ds i address is in record { device = rest.device; there = rest.there; named = rest.named }

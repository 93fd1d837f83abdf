-- Targets in memory that a fence agent can reach (this project's own).
use Rattle.std.specs.Prelude.{◌≡◌, ◌<◌, ℕ, false, List, ◌∷◌, length, None, Some, slice_get}
use Rattle.std.specs.List.{AllByRecursion, list_any}
use Rattle.std.specs.String.{string_bytes}
use Rattle.std.specs.declared.string.String.{String}
use Rattle.pr_words.specs.declared.limits.TheConstants.{KNOWN, LIMIT}
use Rattle.pr_words.specs.declared.nexus.Key.{Key}
use Rattle.pr_words.specs.declared.nexus.Nexus.{Nexus}
use Rattle.pr_words.specs.declared.reservation.Reservation.TheVariants.{Free}
use Rattle.pr_grammar.specs.Standings.{Standing, key_of}
use Rattle.pr_model.specs.Entries.{History}
use Rattle.pr_model.specs.Registrants.{has_key}
use Rattle.pr_model.specs.Worlds.{World}
use Rattle.pr_param.specs.Fits.{FitFields}
use Rattle.pr_io.specs.declared.mem_wire.MemWire.{MemWire}
use Rattle.pr_io.specs.declared.outside.Medium as media
use Rattle.pr_io.specs.declared.outside.Disk as disks
use Rattle.pr_io.specs.declared.peer.Peer as peers
use Rattle.pr_io.specs.Devices.{AllStand, DeviceStands}
use Rattle.pr_io.specs.Causes.{Rose}
use Rattle.pr_io.specs.Recordings.{addresses_of, line_of}
use Rattle.pr_core.specs.Shared.{Stands}
use Rattle.pr_core.specs.View.{StandsFor, disk_of}
use Rattle.pr_session.specs.declared.lane_peer.LanePeer.{LanePeer}
use Rattle.pr_session.specs.Peers.{HasMade}

-- each target has made the entries that its connections on this wire asked for
abbrev pub AllHaveMade : {M D : Type 0} {gm : media.Ghosts M} {gd : disks.Ghosts D} {of : peers.Ghosts (LanePeer M D gm gd)} → MemWire (LanePeer M D gm gd) of → Type 0
AllHaveMade {M} {D} {gm} {gd} w = AllStand (DeviceStands (λ (p : LanePeer M D gm gd) l. (h : History) × HasMade p l h)) w.devices.items (line_of w.earlier.items w.current)

-- a reservation stands
abbrev pub IsReserved : Standing → Type 0
IsReserved s = s.reservation ≡ Free → ⊥

-- nobody is registered with the victim's key, and a reservation stands
abbrev pub IsOusted : Key → Standing → Type 0
IsOusted victim s = (list_any (has_key victim.0) s.pairs ≡ false) × IsReserved s

-- a device of the wire has this address, and in each world for which its target stands, behind all that it has done, the victim's
-- key is gone
pub record IsFencedAt {M D : Type 0} {gm : media.Ghosts M} {gd : disks.Ghosts D} {of : peers.Ghosts (LanePeer M D gm gd)} (w : MemWire (LanePeer M D gm gd) of) (victim : Key) (address : List ℕ) : Type 0 where
  pub place : ℕ
  pub device : String _ × LanePeer M D gm gd
  pub there : slice_get w.devices.items place ≡ Some device
  pub named : string_bytes device.0 ≡ address
  pub history : History
  pub stands : Stands device.1.core history
  pub ousted : (world : World) → StandsFor device.1.core world → IsOusted victim world.standing

-- and that at each of these addresses
abbrev pub AreFencedAt : {M D : Type 0} {gm : media.Ghosts M} {gd : disks.Ghosts D} {of : peers.Ghosts (LanePeer M D gm gd)} → MemWire (LanePeer M D gm gd) of → Key → List (List ℕ) → Type 0
AreFencedAt w victim addresses = AllByRecursion (IsFencedAt w victim) addresses

-- Where off must end well

-- a target that serves an agent: nobody is logged in, there is room for one more registration and for one more known nexus, the
-- agent's nexus isn't registered with the victim's key, and the numbers of all registrants fit their fields
pub record IsOpen (nexus : Nexus) (victim : Key) (w : World) : Type 0 where
  pub nobody : (n : Nexus) → w.owner n ≡ None
  pub few : length w.standing.pairs < LIMIT
  pub fewer : length w.known < KNOWN
  pub other : key_of w.standing.pairs nexus ≡ Some victim.0 → ⊥
  pub fits : FitFields w.standing

-- a wire on which no connection stands, and whose devices have addresses of their own
pub record IsReady {P : Type 0} {of : peers.Ghosts P} (w : MemWire P of) : Type 0 where
  pub alone : w.current ≡ None
  pub apart : (i j : ℕ) (address : List ℕ) → slice_get (addresses_of w.devices.items) i ≡ Some address → slice_get (addresses_of w.devices.items) j ≡ Some address → i ≡ j

-- each of its targets serves an agent
abbrev pub AreOpen : {M D : Type 0} {gm : media.Ghosts M} {gd : disks.Ghosts D} {of : peers.Ghosts (LanePeer M D gm gd)} → MemWire (LanePeer M D gm gd) of → Nexus → Key → Type 0
AreOpen w nexus victim = AllByRecursion (λ d. (world : World) → StandsFor d.1.core world → IsOpen nexus victim world) w.devices.items

-- what holds of the first ones, pair by pair
abbrev pub AllPairs : {X : Type 0} → (X → X → Type 0) → List X → List X → Type 0
AllPairs holds (d ∷ ds) (e ∷ es) = holds d e × AllPairs holds ds es
AllPairs holds _ _ = Unit {0}

-- no disk's count of faults rose between the first targets and the second ones
abbrev pub NoDiskFails : {Z M D : Type 0} {gm : media.Ghosts M} {gd : disks.Ghosts D} → List (Z × LanePeer M D gm gd) → List (Z × LanePeer M D gm gd) → Type 0
NoDiskFails {gd = gd} ds es = AllPairs (λ d e. Rose (gd.faults (disk_of d.1.core)) (gd.faults (disk_of e.1.core)) → ⊥) ds es

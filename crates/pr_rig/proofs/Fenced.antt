-- Behind a run of off that is Done, the victim's key is gone from each device that was named.
use Rattle.std.proofs.Common.{◌≡◌, ℕ, ◌<◌, ◌^◌, ◌==◌, Bool, true, false, List, [], ◌∷◌, ◌++◌, map, Option, Some, None, refl, sym, ap, ◌∙◌, subst, append_assoc, append-nil}
use Rattle.std.specs.Prelude.{if◌then◌else◌}
use Rattle.std.specs.List.{AllByRecursion, filter}
use Rattle.std.specs.String.{string_bytes}
use Rattle.std.proofs.lemmas.Bool.{eq-eqb}
use Rattle.std.proofs.lemmas.List.{map-append}
use Rattle.std.proofs.lemmas.List.Elements.{filter-append}
use Rattle.pr_words.specs.declared.nexus.Key.{Key}
use Rattle.pr_model.specs.Entries.{History}
use Rattle.pr_model.specs.Histories.{IsLegalFrom, after}
use Rattle.pr_model.specs.Sessions.{AsksFor}
use Rattle.pr_model.specs.Worlds.{World}
use Rattle.pr_io.specs.declared.mem_wire.MemWire.{MemWire}
use Rattle.pr_io.specs.declared.outside.Medium as media
use Rattle.pr_io.specs.declared.outside.Disk as disks
use Rattle.pr_io.specs.declared.peer.Peer as peers
use Rattle.pr_io.specs.declared.recorded.Recorded.{Recorded}
use Rattle.pr_io.specs.Devices.{DeviceStands}
use Rattle.pr_io.specs.Lines.{Exchange, nothing_said}
use Rattle.pr_io.specs.Recordings.{AreNamed, addresses_of, exchange_of, last_of, line_of, standing, talk_of, told_of}
use Rattle.pr_io.specs.Talks.{Connection, Talk, connections}
use Rattle.pr_core.specs.declared.target.Core.{Core}
use Rattle.pr_core.specs.Shared.{MayTell, Stands, ground_in, opened_on}
use Rattle.pr_core.specs.View.{StandsFor}
use Rattle.pr_session.specs.declared.lane_peer.LanePeer.{LanePeer}
use Rattle.pr_session.specs.Sessions.{lane_of, reply_of}
use Rattle.pr_session.specs.Peers.{AskedInTurn, HasMade, peer_number}
use Rattle.pr_fence.specs.Ousting.{OustsAll}
use Rattle.pr_fence.specs.Whole.{ToldWire}
use Rattle.pr_fence.specs.Words.{Wanted}
use Rattle.pr_rig.specs.Rig.{AllHaveMade, AreFencedAt, IsFencedAt, IsOusted}
use Rattle.pr_rig.proofs.Lasting.{Convinced, LastOf, by_current, by_past, last_found}
use Rattle.pr_rig.proofs.Ousting.{Ousted}
use Rattle.pr_rig.proofs.Passing.{Formed}
use Rattle.pr_rig.proofs.Telling.{Convinces, SomeMore, all_more}
use Rattle.pr_rig.proofs.Wiring.{Split, all_named, connections_told, device_at, each_told, ends_with, named_at, split, stands_at}

module _ {M D : Type 0} {gm : media.Ghosts M} {gd : disks.Ghosts D} where
  -- a core stands for worlds with the same registrants
  same_standing : (c : Core M D gm gd) (v w : World) → StandsFor c v → StandsFor c w → w.standing ≡ v.standing
  same_standing c v w one two = ap (λ (x : World). x.standing) two.0.world ∙ sym (ap (λ (x : World). x.standing) one.0.world)

  -- what holds behind its history holds in each world for which it stands
  in_each : (victim : Key) (c : Core M D gm gd) (h : History) → Stands c h → ((tells : Bool) → MayTell gm tells → Ousted victim (after (opened_on (ground_in c) tells) h)) → (w : World) → StandsFor c w → IsOusted victim w.standing
  in_each victim c h stands gone w is =
      let may : MayTell gm false = λ yes. absurd cc in
      subst (IsOusted victim) (sym (same_standing c (after (opened_on (ground_in c) false) h) w (stands.stands false may) is)) (gone false may)

  -- the last connection to a device is one that convinces
  module _ (victim : Key) (p : LanePeer M D gm gd) (earlier : List Recorded) (current : Option Recorded) (i : ℕ) (h : History) (made : HasMade p (line_of earlier current i) h) where
    abbrev Shows : Type 0
    Shows = (w : World) → Formed w → IsLegalFrom w h → Ousted victim (after w h)

    shown : ((w : World) → Formed w → IsLegalFrom w (made.earlier ++ made.asked) → Ousted victim (after w (made.earlier ++ made.asked))) → Shows
    shown each w formed legal =
        subst (λ (x : History). Ousted victim (after w x)) (sym made.all) (each w formed (subst (λ (x : History). IsLegalFrom w x) made.all legal))

    -- it was given up
    by_hung_up : LastOf (λ (r : Recorded). Convinces victim (told_of r)) (filter (λ (r : Recorded). r.device == i) earlier) → last_of i current ≡ nothing_said → Shows
    by_hung_up l none =
        let past = subst (λ (xs : List Exchange). AskedInTurn xs made.earlier) (ap (map exchange_of) l.all ∙ map-append exchange_of l.before (l.last ∷ [])) made.past in
        let asks = subst (λ (x : Exchange). AsksFor peer_number x.heard made.asked (x.said ++ reply_of p.session) (lane_of p.session)) none made.asks in
        shown (λ w formed legal. by_past victim w (map exchange_of l.before) (exchange_of l.last) made.earlier made.asked (reply_of p.session) (lane_of p.session) l.has formed legal past asks)

    -- it stands
    by_standing : (c : Recorded) → last_of i current ≡ exchange_of c → Convinces victim (told_of c) → Shows
    by_standing c same convinces =
        shown
        (λ w formed legal.
        by_current victim w (line_of earlier current i) made.earlier made.asked (reply_of p.session) (lane_of p.session) (subst (λ (x : Exchange). Convinced victim x.heard x.said) (sym same) convinces) formed legal made.asks)

  -- a connection to the device of its place, and all behind it, convince
  shows : (victim : Key) (p : LanePeer M D gm gd) (earlier : List Recorded) (current : Option Recorded) (before : List Recorded) (r : Recorded) (behind : List Recorded) (h : History) (made : HasMade p (line_of earlier current r.device) h)
      → earlier ++ standing current ≡ before ++ r ∷ behind → AllByRecursion (λ (x : Recorded). Convinces victim (told_of x)) (r ∷ behind) → Shows victim p earlier current r.device h made
  shows victim p earlier None before r behind h made same all =
      let last = last_found (λ (x : Recorded). Convinces victim (told_of x)) (λ (x : Recorded). x.device == r.device) before r behind all (eq-eqb r.device r.device refl) in
      by_hung_up victim p earlier None r.device h made (subst (λ (l : List Recorded). LastOf (λ (x : Recorded). Convinces victim (told_of x)) (filter (λ (x : Recorded). x.device == r.device) l)) (sym same ∙ append-nil earlier) last) refl
  shows victim p earlier (Some c) before r behind h made same all = by (c.device == r.device) refl
    where
      by : (b : Bool) → (c.device == r.device) ≡ b → Shows victim p earlier (Some c) r.device h made
      by true is =
          by_standing victim p earlier (Some c) r.device h made c (ap (λ (b : Bool). if b then exchange_of c else nothing_said) is) (ends_with (λ (x : Recorded). Convinces victim (told_of x)) earlier before c r behind same all)
      by false is =
          let last = last_found (λ (x : Recorded). Convinces victim (told_of x)) (λ (x : Recorded). x.device == r.device) before r behind all (eq-eqb r.device r.device refl) in
          let rest : filter (λ (x : Recorded). x.device == r.device) (c ∷ []) ≡ [] = rw is refl in
          let whole : filter (λ (x : Recorded). x.device == r.device) (before ++ r ∷ behind) ≡ filter (λ (x : Recorded). x.device == r.device) earlier =
          ap (filter (λ (x : Recorded). x.device == r.device)) (sym same) ∙ filter-append (λ (x : Recorded). x.device == r.device) earlier (c ∷ [])
          ∙ ap (λ (l : List Recorded). filter (λ (x : Recorded). x.device == r.device) earlier ++ l) rest ∙ append-nil (filter (λ (x : Recorded). x.device == r.device) earlier) in
          by_hung_up victim p earlier (Some c) r.device h made (subst (λ (l : List Recorded). LastOf (λ (x : Recorded). Convinces victim (told_of x)) l) whole last) (ap (λ (b : Bool). if b then exchange_of c else nothing_said) is)

  module _ {of : peers.Ghosts (LanePeer M D gm gd)} (w : MemWire (LanePeer M D gm gd) of) (victim : Key) (all_made : AllHaveMade w) where
    fenced_at : (before : List Recorded) (r : Recorded) (behind : List Recorded) → w.earlier.items ++ standing w.current ≡ before ++ r ∷ behind → AllByRecursion (λ (x : Recorded). Convinces victim (told_of x)) (r ∷ behind)
        → IsFencedAt w victim (string_bytes r.address)
    fenced_at before r behind same all =
        let names : AreNamed (addresses_of w.devices.items) (w.earlier.items ++ standing w.current) = all_named (addresses_of w.devices.items) w.earlier.items (standing w.current) w.past w.named in
        let d = device_at w.devices.items r.device (string_bytes r.address) (named_at (addresses_of w.devices.items) before r behind (subst (AreNamed (addresses_of w.devices.items)) same names)) in
        let stands = stands_at (DeviceStands (λ (p : LanePeer M D gm gd) l. (h : History) × HasMade p l h)) w.devices.items (line_of w.earlier.items w.current) r.device d.device d.there all_made in
        let shown = shows victim d.device.1 w.earlier.items w.current before r behind stands.0 stands.1 same all in
        record {
          place = r.device;
          device = d.device;
          there = d.there;
          named = d.named;
          history = stands.0;
          stands = stands.1.stands;
          ousted = in_each victim d.device.1.core stands.0 stands.1.stands (λ tells may. shown (opened_on (ground_in d.device.1.core) tells) (stands.1.stands.formed tells may) (stands.1.stands.legal tells may));
        }

    pub fenced_all : (addresses : List (List ℕ)) (before behind : List Recorded) → w.earlier.items ++ standing w.current ≡ before ++ behind → AllByRecursion (λ (x : Recorded). Convinces victim (told_of x)) behind
        → map (λ (r : Recorded). string_bytes r.address) behind ≡ addresses → AreFencedAt w victim addresses
    fenced_all [] before behind same all named = tt
    fenced_all (a ∷ rest) before [] same all named = absurd cc
    fenced_all (a ∷ rest) before (r ∷ behind) same all named =
        let here : string_bytes r.address ≡ a = cc in (
          subst (IsFencedAt w victim) here (fenced_at before r behind same all),
          fenced_all rest (before ++ r ∷ []) behind (same ∙ sym (append_assoc before (r ∷ []) behind)) all.1 (cc),
        )

    -- a run that ousted the victim everywhere, on this wire
    pub run_fences : (wanted : Wanted) (t : Talk) (old new : ToldWire) → wanted.own.0 < 2 ^ 64 → victim.0 < 2 ^ 64 → (wanted.own.0 ≡ victim.0 → ⊥) → old.talk ≡ Some t → new.talk ≡ Some (talk_of w.earlier.items w.current)
        → OustsAll wanted victim old new → AreFencedAt w victim wanted.addresses
    run_fences wanted t old new own_fits victim_fits differ first last run =
        let some : SomeMore victim wanted.addresses t run.last.talk = all_more wanted victim wanted.addresses t run.first run.last own_fits victim_fits differ (ap (λ (x : ToldWire). x.talk) run.before ∙ first) run.ousted in
        let whole : Some some.talk ≡ Some (talk_of w.earlier.items w.current) = sym some.is ∙ ap (λ (x : ToldWire). x.talk) run.after ∙ last in
        let same : some.talk ≡ talk_of w.earlier.items w.current = cc in
        let is : connections (talk_of w.earlier.items w.current) ≡ connections t ++ some.more = ap connections (sym same) ∙ some.all in
        let told : map told_of (w.earlier.items ++ standing w.current) ≡ connections t ++ some.more = sym (connections_told w.earlier.items w.current) ∙ is in
        let cut : Split (w.earlier.items ++ standing w.current) (connections t) some.more = split (w.earlier.items ++ standing w.current) (connections t) some.more told in
        fenced_all wanted.addresses cut.before cut.behind cut.all (each_told (Convinces victim) cut.behind some.more cut.told some.convince) (names cut.behind some.more cut.told ∙ some.named)
      where
        names : (rs : List Recorded) (ds : List Connection) → map told_of rs ≡ ds → map (λ (r : Recorded). string_bytes r.address) rs ≡ map (λ (d : Connection). d.address) ds
        names [] [] is = refl
        names [] (d ∷ ds) is = absurd cc
        names (r ∷ rs) [] is = absurd cc
        names (r ∷ rs) (d ∷ ds) is =
            let head : told_of r ≡ d = cc in
            let tail : map (λ (x : Recorded). string_bytes x.address) rs ≡ map (λ (x : Connection). x.address) ds = names rs ds (cc) in
            ap (λ (a : List ℕ). a ∷ map (λ (x : Recorded). string_bytes x.address) rs) (ap (λ (x : Connection). x.address) head) ∙ ap (λ (l : List (List ℕ)). d.address ∷ l) tail

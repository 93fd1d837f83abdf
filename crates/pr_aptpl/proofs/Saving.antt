-- The three parts of a save together, where each of them may fail.
use Rattle.std.proofs.Common.{◌≡◌, inl, ℕ, ◌+◌, ◌*◌, ◌^◌, ◌<◌, ◌≤◌, Bool, true, false, not, List, [], ◌∷◌, ◌++◌, length, Option, Some, is_some, Result, Ok, Err, IsErr, refl, sym, subst, arith}
use Rattle.std.proofs.lemmas.Result.{IfOk-at_ok}
use Rattle.pr_grammar.specs.Standings.{Standing, Kept}
use Rattle.pr_grammar.specs.Files.{restores, place_of, spelled_slot}
use Rattle.pr_grammar.specs.declared.file.FileLayout.{FileLayout}
use Rattle.pr_io.specs.Images.{Image, Story}
use Rattle.pr_io.specs.Spans.{Goes, Admits, Puts}
use Rattle.pr_model.specs.Keeping.{kept}
use Rattle.pr_model.specs.Registrants.{IsWellFormed}
use Rattle.pr_model.specs.Stamps.{IsOneOf}
use Rattle.pr_aptpl.specs.Doubts.{HavePorts, AreInFields}
use Rattle.pr_aptpl.specs.Gates.{Closes}
use Rattle.pr_aptpl.specs.Slots.{turn_after, SlotFacts, IsApart, IsFilled, Stands}
use Rattle.pr_aptpl.specs.Keepers.{left_by}
use Rattle.pr_aptpl.proofs.Slots.{in_first}
use Rattle.pr_aptpl.proofs.Guarding.{goes_as, goes_on, guards_restores, guards_more, closing, closed, filling, opening}
use Rattle.pr_aptpl.proofs.SlotParts.{is_in, covers_slot, gate_covered, facts_stay, closed_restores, facts_more, filled_ready, swapped}
use Rattle.pr_aptpl.proofs.Spelled.{body_filled}

left_err : {T E : Type 0} (q : Result T E) (ks : List Kept) (k : Kept) → IsErr q → left_by q ks k ≡ ks ++ k ∷ []
left_err (Ok x) ks k is = cc
left_err (Err e) ks k is = refl

module _ (head : List ℕ) (l : FileLayout) (apart : IsApart head l) where
  abbrev Restores : List Kept → Image → Type 0
  Restores ks c = IsOneOf ks (restores head l c)

  -- what a save says of a disk
  abbrev pub Ends : {T E : Type 0} → Result T E → Bool → Option ℕ → Bool → Story → Story → List Kept → Kept → Type 0
  Ends q t turn o s0 s1 ks k = Goes s0 s1 (Restores (ks ++ k ∷ [])) × ((c : Image) → Admits s1 c → Restores (left_by q ks k) c) × Stands head l t turn o s1 (left_by q ks k)

  pub restores_of : (t : Bool) (turn : Option ℕ) (o : Bool) (s : Story) (ks : List Kept) → Stands head l t turn o s ks → (c : Image) → Admits s c → Restores ks c
  restores_of t turn o s ks stands c admitted =
      guards_restores (restores head l) (place_of l t) (is_in l t) (SlotFacts head l t turn) (gate_covered head l apart t) (facts_stay head l apart t turn) (closed_restores head l apart t turn) (facts_more head l apart t turn) o ks c (stands c admitted)

  -- a save that failed
  failed : {T E : Type 0} (q : Result T E) (t : Bool) (turn : Option ℕ) (o : Bool) (s0 s1 : Story) (ks : List Kept) (k : Kept) → IsErr q
      → Stands head l t turn o s1 (ks ++ k ∷ []) → Goes s0 s1 (Restores (ks ++ k ∷ [])) → Ends q t turn o s0 s1 ks k
  failed q t turn o s0 s1 ks k err stands goes =
      let same = sym (left_err q ks k err) in
      (goes, λ c admitted. subst (λ (list : List Kept). Restores list c) same (restores_of t turn o s1 (ks ++ k ∷ []) stands c admitted), subst (Stands head l t turn o s1) same stands)

  -- a save that failed before its gate was opened
  failed_early : {T E : Type 0} (q : Result T E) (t : Bool) (turn : Option ℕ) (o : Bool) (s0 s1 : Story) (ks : List Kept) (k : Kept) → IsErr q
      → Stands head l t turn o s1 ks → Goes s0 s1 (Restores ks) → Ends q t turn o s0 s1 ks k
  failed_early q t turn o s0 s1 ks k err stands goes =
      failed q t turn o s0 s1 ks k err
      (λ c admitted. guards_more (restores head l) (place_of l t) (is_in l t) (SlotFacts head l t turn) (gate_covered head l apart t) (facts_stay head l apart t turn) (closed_restores head l apart t turn) (facts_more head l apart t turn) o ks k c (stands c admitted))
      (goes_as s0 s1 _ _ goes (λ c one. in_first ks k (restores head l c) one))

  module _ (t : Bool) (turn : Option ℕ) (gate : ℕ) (at : gate ≡ place_of l t) (ks : List Kept) (s0 s1 : Story) {Ta Ea : Type 0} (r1 : Result Ta Ea) (was now : Bool) (closes : Closes r1 gate was now s0 s1)
      (stands0 : Stands head l t turn was s0 ks) where
    closes_at : Closes r1 (place_of l t) was now s0 s1
    closes_at = subst (λ (n : ℕ). Closes r1 n was now s0 s1) at closes

    one : Stands head l t turn was s1 ks × Goes s0 s1 (Restores ks)
    one = closing (restores head l) (place_of l t) (is_in l t) (SlotFacts head l t turn) (gate_covered head l apart t) (facts_stay head l apart t turn) (closed_restores head l apart t turn) (facts_more head l apart t turn) s0 s1 ks r1 was now closes_at stands0

    -- the first part failed
    pub after_one : {T E : Type 0} (q : Result T E) (k : Kept) → IsErr q → now ≡ was → Ends q t turn now s0 s1 ks k
    after_one q k err same = failed_early q t turn now s0 s1 ks k err (subst (λ (o : Bool). Stands head l t turn o s1 ks) (sym same) one.0) one.1

    module _ (x1 : Ta) (ok1 : r1 ≡ Ok x1) (s2 : Story) {Tb Eb : Type 0} (r2 : Result Tb Eb) (body : List ℕ) (small : length body ≤ 15 + 18 * l.limit) (puts : Puts r2 (gate + 1) body s1 s2) where
      stands1 : Stands head l t turn false s1 ks
      stands1 = closed (restores head l) (place_of l t) (is_in l t) (SlotFacts head l t turn) (gate_covered head l apart t) (facts_stay head l apart t turn) (closed_restores head l apart t turn) (facts_more head l apart t turn) s0 s1 ks r1 x1 was now ok1 closes_at stands0

      puts_at : Puts r2 (place_of l t + 1) body s1 s2
      puts_at = subst (λ (n : ℕ). Puts r2 (n + 1) body s1 s2) at puts

      two : Stands head l t turn false s2 ks × Goes s1 s2 (Restores ks)
      two = filling (restores head l) (place_of l t) (is_in l t) (SlotFacts head l t turn) (gate_covered head l apart t) (facts_stay head l apart t turn) (closed_restores head l apart t turn) (facts_more head l apart t turn) s1 s2 ks
          r2 (place_of l t + 1) body (covers_slot l t (place_of l t + 1) (length body) (omega arith) (omega (arith, small))) (inl (omega arith)) puts_at stands1

      -- the second part failed
      pub after_two : {T E : Type 0} (q : Result T E) (k : Kept) → IsErr q → now ≡ false → Ends q t turn now s0 s2 ks k
      after_two q k err same = failed_early q t turn now s0 s2 ks k err (subst (λ (o : Bool). Stands head l t turn o s2 ks) (sym same) two.0) (goes_on s0 s1 s2 _ one.1 two.1)

      module _ (x2 : Tb) (ok2 : r2 ≡ Ok x2) (s : Standing) (formed : IsWellFormed l.limit s) (ports : HavePorts s.pairs) (fits : s.preserve ≡ true → AreInFields s.pairs) (few : l.limit < 2 ^ 16)
          (spelled : 0xA5 ∷ body ≡ spelled_slot (turn_after turn) (kept s)) (s3 : Story) {Tc Ec : Type 0} (r3 : Result Tc Ec) (opens : Puts r3 gate (0xA5 ∷ []) s2 s3) where
        filled : (c : Image) → Admits s2 c → IsFilled l t turn (kept s) c
        filled c admitted =
            let has = IfOk-at_ok _ ok2 puts_at.done in
            body_filled l t turn s body c formed ports fits few spelled small (has c admitted).2.0

        opens_at : Puts r3 (place_of l t) (0xA5 ∷ []) s2 s3
        opens_at = subst (λ (n : ℕ). Puts r3 n (0xA5 ∷ []) s2 s3) at opens

        three : Stands head l t turn true s3 (ks ++ kept s ∷ []) × Goes s2 s3 (Restores (ks ++ kept s ∷ []))
        three = opening (restores head l) (place_of l t) (is_in l t) (SlotFacts head l t turn) (gate_covered head l apart t) (facts_stay head l apart t turn) (closed_restores head l apart t turn) (facts_more head l apart t turn) s2 s3 ks
            r3 (kept s) opens_at two.0 (λ c admitted. filled_ready head l apart t turn ks (kept s) c (two.0 c admitted).facts (filled c admitted))

        moments : Goes s0 s3 (Restores (ks ++ kept s ∷ []))
        moments = goes_on s0 s2 s3 _ (goes_as s0 s2 _ _ (goes_on s0 s1 s2 _ one.1 two.1) (λ c one_of. in_first ks (kept s) (restores head l c) one_of)) three.1

        -- the third part failed
        pub after_three : {T E : Type 0} (q : Result T E) → IsErr q → Ends q t turn true s0 s3 ks (kept s)
        after_three q err = failed q t turn true s0 s3 ks (kept s) err three.0 moments

        -- none failed
        pub after_all : {T : Type 0} (E : Type 0) (x3 : Tc) → r3 ≡ Ok x3 → (x : T) (v : ℕ) → v ≡ turn_after turn → Ends {T = T} {E = E} (Ok x) (not t) (Some v) (is_some turn) s0 s3 ks (kept s)
        after_all E x3 ok3 x v next =
            let stands = subst (λ (n : ℕ). Stands head l (not t) (Some n) (is_some turn) s3 (kept s ∷ [])) (sym next) (swapped head l apart t turn ks (kept s) s2 s3 r3 x3 ok3 opens_at two.0 filled) in
            (moments, restores_of (not t) (Some v) (is_some turn) s3 (kept s ∷ []) stands, stands)

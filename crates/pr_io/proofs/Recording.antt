-- One call more joins the record.
use Rattle.std.proofs.Common.{◌≡◌, ◌⊎◌, inl, inr, ⊎_elim, ℕ, ◌+◌, ◌-◌, ◌<◌, ◌≤◌, nat_le, nat_lt, Bool, true, false, not, ◌&&◌, ◌||◌, if◌then◌else◌, List, [], ◌∷◌, ◌++◌, length, take, drop, slice_index, Vec, Some, Result, Ok, Err, OnOk, OnErr, IsErr, refl, sym, ◌∙◌, ap, subst, arith}
use Rattle.std.proofs.Math.Path.{fun_ext}
use Rattle.std.proofs.Math.Nat.{le_refl}
use Rattle.std.specs.List.{list_any}
use Rattle.std.proofs.lemmas.List.{take-append-le, drop-append-le, take_all, drop_all, length_push}
use Rattle.std.proofs.lemmas.List.Folds.{list_any-append}
use Rattle.std.proofs.lemmas.Bool.{false≢true, cases_Bool, or_parts, or_from, and_cases, and_left, and_right, and_parts, or_left, not_from_true, cases_lt, leb-true, ltb-true, lt-leb, le-ltb, leb-false, ltb-false}
use Rattle.std.specs.declared.alloc.Global.{Global}
use Rattle.pr_io.specs.Images.{Image, Story, Holds, Within, image_of, Stays, Wrote, Writes, Syncs, GoesOn, IsPending}
use Rattle.pr_io.specs.DiskCalls.{is_sync, covers, is_pending, undone, before_all, IsLeft, MayLeave, recorded, since_before}
use Rattle.pr_io.proofs.Spanning.{wrote_within}
use Rattle.std.proofs.lemmas.Result.{IfOk-from_err, MatchResult-from_err}
use Rattle.pr_io.specs.declared.disk_call.DiskCall.{DiskCall}
use Rattle.pr_io.specs.declared.disk_call.DiskCall.TheVariants.{Other, Write, Sync}

before-push : (cs : List DiskCall) (w : DiskCall) (g : Image) → before_all (cs ++ w ∷ []) g ≡ before_all cs (undone w g)
before-push [] w g = refl
before-push (c ∷ cs) w g = ap (undone c) (before-push cs w g)

-- what isn't pending stays so but in the call's range
still_covered : (b s t : Bool) → (b && not s) ≡ false → (s ≡ true → t ≡ true) → (b && not t) ≡ false
still_covered b s t was more = ⊎_elim (λ no. and_left b (not t) no) (λ yes. and_right b (not t) (not_from_true t (more (sync s yes)))) (and_cases b (not s) was)
  where
    sync : (x : Bool) → not x ≡ false → x ≡ true
    sync true e = refl
    sync false e = cc

pending_push : (cs : List DiskCall) (w : DiskCall) (i : ℕ) → is_pending cs i ≡ false → covers w i ≡ false → is_pending (cs ++ w ∷ []) i ≡ false
pending_push [] w i was out = or_from false (covers w i && true) refl (and_left (covers w i) true out)
pending_push (c ∷ cs) w i was out =
    let parts = or_parts (is_pending cs i) (covers c i && not (list_any is_sync cs)) was in
    or_from _ _ (pending_push cs w i parts.0 out)
    (still_covered (covers c i) (list_any is_sync cs) (list_any is_sync (cs ++ w ∷ [])) parts.1 (λ yes. list_any-append is_sync cs (w ∷ []) ∙ or_left (list_any is_sync cs) _ yes))

-- after a sync nothing is pending
pending_sync : (cs : List DiskCall) (i : ℕ) → is_pending (cs ++ Sync ∷ []) i ≡ false
pending_sync [] i = refl
pending_sync (c ∷ cs) i =
    or_from _ _ (pending_sync cs i)
    (and_right (covers c i) _ (not_from_true _ (list_any-append is_sync cs (Sync ∷ []) ∙ last (list_any is_sync cs))))
  where
    last : (b : Bool) → (b || true) ≡ true
    last true = refl
    last false = refl

module _ (calls : List DiskCall) (w : DiskCall) (f g : Image) (undoes : undone w g ≡ f) where
  -- after the calls that were made before it nothing new is left
  earlier : (k : ℕ) (c : Image) → k ≤ length calls → IsLeft (calls ++ w ∷ []) g k c → IsLeft calls f k c
  earlier k c le left i clean =
      let same : take k (calls ++ w ∷ []) ≡ take k calls = take-append-le k calls (w ∷ []) le in
      let rest : drop k (calls ++ w ∷ []) ≡ drop k calls ++ w ∷ [] = drop-append-le k calls (w ∷ []) le in
      left i (ap (λ (l : List DiskCall). is_pending l i) same ∙ clean)
      ∙ ap (λ (l : List DiskCall). before_all l g i) rest
      ∙ ap (λ (h : Image). h i) (before-push (drop k calls) w g ∙ ap (before_all (drop k calls)) undoes)

  last_left : (k : ℕ) (c : Image) → length calls + 1 ≤ k → IsLeft (calls ++ w ∷ []) g k c → (i : ℕ) → is_pending (calls ++ w ∷ []) i ≡ false → c i ≡ g i
  last_left k c le left i clean =
      let whole : take k (calls ++ w ∷ []) ≡ calls ++ w ∷ [] = take_all k (calls ++ w ∷ []) (omega (arith, length_push calls w)) in
      let none : drop k (calls ++ w ∷ []) ≡ [] = drop_all k (calls ++ w ∷ []) (omega (arith, length_push calls w)) in
      left i (ap (λ (l : List DiskCall). is_pending l i) whole ∙ clean) ∙ ap (λ (l : List DiskCall). before_all l g i) none

  -- what is left after it: something that was left before it, but for the call's range
  torn : (c : Image) → ((i : ℕ) → covers w i ≡ false → g i ≡ f i) → ((i : ℕ) → is_pending (calls ++ w ∷ []) i ≡ false → c i ≡ g i)
      → (d : Image) × MayLeave calls f (length calls) d × ((i : ℕ) → covers w i ≡ false → c i ≡ d i)
  torn c outside left = (d, (length calls, omega arith, omega arith, d_left), agree)
    where
      d : Image
      d = λ i. if covers w i then f i else c i

      agree : (i : ℕ) → covers w i ≡ false → c i ≡ d i
      agree i out = ap (λ (b : Bool). if b then f i else c i) (sym out)

      d_left : IsLeft calls f (length calls) d
      d_left i clean =
          let whole : take (length calls) calls ≡ calls = take_all (length calls) calls (omega arith) in
          let none : drop (length calls) calls ≡ [] = drop_all (length calls) calls (omega arith) in
          let clear : is_pending calls i ≡ false = ap (λ (l : List DiskCall). is_pending l i) (sym whole) ∙ clean in
          here clear ∙ ap (λ (l : List DiskCall). before_all l f i) (sym none)
        where
          here : is_pending calls i ≡ false → d i ≡ f i
          here clear = ⊎_elim
              (λ yes. ap (λ (b : Bool). if b then f i else c i) yes)
              (λ out. ap (λ (b : Bool). if b then f i else c i) out ∙ left i (pending_push calls w i clear out) ∙ outside i out)
              (cases_Bool (covers w i))

  -- since a moment before it: what might have been left, or something left just before it but for the call's range
  pub pushed : ((i : ℕ) → covers w i ≡ false → g i ≡ f i) → (t : ℕ) (c : Image) → MayLeave (calls ++ w ∷ []) g t c
      → MayLeave calls f t c ⊎ ((d : Image) × MayLeave calls f (length calls) d × ((i : ℕ) → covers w i ≡ false → c i ≡ d i))
  pushed outside t c may = ⊎_elim
      (λ late. inr (torn c outside (last_left may.0 c (omega (arith, late)) may.3)))
      (λ soon. inl (may.0, may.1, soon, earlier may.0 c soon may.3))
      (cases_lt (length calls) may.0)

  -- and each is one that was, or one since the call's start
  pub since_call : (t : ℕ) (c : Image) → MayLeave (calls ++ w ∷ []) g t c → MayLeave calls f t c ⊎ MayLeave (calls ++ w ∷ []) g (length calls) c
  since_call t c may = ⊎_elim
      (λ late. inr (may.0, omega (arith, late), may.2, may.3))
      (λ soon. inl (may.0, may.1, soon, earlier may.0 c soon may.3))
      (cases_lt (length calls) may.0)

-- a call that writes nothing
pub noted_other : (bytes : List ℕ) (calls later : List DiskCall) → later ≡ calls ++ Other ∷ [] → Stays (recorded bytes calls) (recorded bytes later)
noted_other bytes calls later is = subst (λ (l : List DiskCall). Stays (recorded bytes calls) (recorded bytes l)) (sym is) (record {
  now = refl;
  later = omega (arith, length_push calls Other);
  may = λ t c le may. ⊎_elim (λ was. was) (λ same. subst (MayLeave calls (image_of bytes) t) (sym (fun_ext (λ i. same.2 i refl))) (since_before bytes calls t (length calls) same.0 le same.1))
      (pushed calls Other (image_of bytes) (image_of bytes) refl (λ i out. refl) t c may);
})

-- a sync that succeeds
pub noted_sync : {T E : Type 0} (r : Result T E) (bytes : List ℕ) (calls later : List DiskCall) → later ≡ calls ++ Sync ∷ [] → Syncs r (recorded bytes calls) (recorded bytes later)
noted_sync r bytes calls later is = subst (λ (l : List DiskCall). Syncs r (recorded bytes calls) (recorded bytes l)) (sym is) (record {
  stays = record {
    now = refl;
    later = omega (arith, length_push calls Sync);
    may = λ t c le may. ⊎_elim (λ was. was) (λ same. subst (MayLeave calls (image_of bytes) t) (sym (fun_ext (λ i. same.2 i refl))) (since_before bytes calls t (length calls) same.0 le same.1))
        (pushed calls Sync (image_of bytes) (image_of bytes) refl (λ i out. refl) t c may);
  };
  kept = on_ok r (λ c may. ap (λ (f : Image). Some f) (sym (fun_ext (λ i. last_left calls Sync (image_of bytes) (image_of bytes) refl may.0 c (omega (arith, may.1, length_push calls Sync)) may.3 i (pending_sync calls i)))));
})
  where
    on_ok : {T E P : Type 0} (r : Result T E) → P → OnOk r P
    on_ok (Ok x) p = p
    on_ok (Err e) p = tt

pub outside_of : (at n i : ℕ) → (nat_le at i && nat_lt i (at + n)) ≡ false → (i < at) ⊎ (at + n ≤ i)
outside_of at n i out = ⊎_elim (λ below. inl (leb-false at i below)) (λ above. inr (ltb-false i (at + n) above)) (and_cases (nat_le at i) (nat_lt i (at + n)) out)

-- a write, whether it succeeded or not
pub noted_write : {T E : Type 0} (r : Result T E) (at : ℕ) (piece old new : List ℕ) (was : Vec ℕ Global) (calls later : List DiskCall) → later ≡ calls ++ Write at was ∷ []
    → length was.items ≡ length piece → Holds at was.items (image_of old) → Wrote r at piece (image_of old) (image_of new) → Writes r at piece (recorded old calls) (recorded new later)
noted_write r at piece old new was calls later is len stood wrote = subst (λ (l : List DiskCall). Writes r at piece (recorded old calls) (recorded new l)) (sym is) (record {
  now = wrote;
  later = omega (arith, length_push calls (Write at was));
  before = λ t c le may. since_call calls (Write at was) (image_of old) (image_of new) (fun_ext undoes) t c may;
  torn = λ c may. ⊎_elim (λ before. (c, before, λ i out. refl)) (λ torn. (torn.0, torn.1, λ i out. torn.2 i (clear i out)))
      (pushed calls (Write at was) (image_of old) (image_of new) (fun_ext undoes) (λ i out. within i (subst (λ n. (i < at) ⊎ (at + n ≤ i)) len (outside_of at (length was.items) i out))) (length calls) c may);
})
  where
    within : Within at (length piece) (image_of old) (image_of new)
    within = wrote_within r at piece (image_of old) (image_of new) wrote

    clear : (i : ℕ) → (i < at) ⊎ (at + length piece ≤ i) → covers (Write at was) i ≡ false
    clear i (inl below) = and_left _ _ (lt-leb at i below)
    clear i (inr above) = and_right (nat_le at i) _ (le-ltb i (at + length was.items) (omega (arith, above, len)))

    undoes : (i : ℕ) → undone (Write at was) (image_of new) i ≡ image_of old i
    undoes i = ⊎_elim here elsewhere (cases_Bool (covers (Write at was) i))
      where
        here : covers (Write at was) i ≡ true → undone (Write at was) (image_of new) i ≡ image_of old i
        here covered =
            let parts = and_parts (nat_le at i) (nat_lt i (at + length was.items)) covered in
            let low : at ≤ i = leb-true at i parts.0 in
            let high : i < at + length was.items = ltb-true i (at + length was.items) parts.1 in
            let place : at + (i - at) ≡ i = omega arith in
            ap (λ (b : Bool). if b then slice_index was.items (i - at) else image_of new i) covered ∙ sym (stood (i - at) (omega arith)) ∙ ap (image_of old) place

        elsewhere : covers (Write at was) i ≡ false → undone (Write at was) (image_of new) i ≡ image_of old i
        elsewhere out = ap (λ (b : Bool). if b then slice_index was.items (i - at) else image_of new i) out ∙ within i (subst (λ n. (i < at) ⊎ (at + n ≤ i)) len (outside_of at (length was.items) i out))

-- without memory nothing was noted
pub not_noted : (bytes : List ℕ) (calls later : List DiskCall) → later ≡ calls → Stays (recorded bytes calls) (recorded bytes later)
not_noted bytes calls later is = subst (λ (l : List DiskCall). Stays (recorded bytes calls) (recorded bytes l)) (sym is) (record { now = refl; later = omega arith; may = λ t c le may. may })

pub staying : {T E : Type 0} (r : Result T E) (old new : Story) → IsErr r → Stays old new → Syncs r old new
staying r old new err stays = record { stays = stays; kept = IfOk-from_err r _ err }

pub nothing_written : {T E : Type 0} (r : Result T E) (at : ℕ) (piece bytes : List ℕ) (calls later : List DiskCall) → IsErr r → later ≡ calls → Writes r at piece (recorded bytes calls) (recorded bytes later)
nothing_written r at piece bytes calls later err is = subst (λ (l : List DiskCall). Writes r at piece (recorded bytes calls) (recorded bytes l)) (sym is) (record {
  now = MatchResult-from_err r _ _ err (λ e i out. refl);
  later = omega arith;
  before = λ t c le may. inl may;
  torn = λ c may. (c, may, λ i out. refl);
})

pub synced_or_not : {T E : Type 0} (r : Result T E) (bytes : List ℕ) (calls later : List DiskCall) → OnOk r (later ≡ calls ++ Sync ∷ []) → OnErr r (later ≡ calls) → Syncs r (recorded bytes calls) (recorded bytes later)
synced_or_not (Ok x) bytes calls later ok err = noted_sync (Ok x) bytes calls later ok
synced_or_not (Err e) bytes calls later ok err = staying (Err e) _ _ refl (not_noted bytes calls later err)

pub struck_write : {T E : Type 0} (r : Result T E) (at : ℕ) (piece bytes : List ℕ) (was : Vec ℕ Global) (calls later : List DiskCall) → IsErr r → later ≡ calls ++ Write at was ∷ []
    → length was.items ≡ length piece → Holds at was.items (image_of bytes) → Writes r at piece (recorded bytes calls) (recorded bytes later)
struck_write r at piece bytes was calls later err is len stood = noted_write r at piece bytes bytes was calls later is len stood (MatchResult-from_err r _ _ err (λ e i out. refl))

-- what isn't pending after one call more wasn't before it, and isn't in the call's range
pending_pop : (cs : List DiskCall) (w : DiskCall) (i : ℕ) → is_sync w ≡ false → is_pending (cs ++ w ∷ []) i ≡ false → (is_pending cs i ≡ false) × (covers w i ≡ false)
pending_pop [] w i plain clean = (refl, ⊎_elim (λ out. out) (λ (never : true ≡ false). absurd (false≢true (sym never))) (and_cases (covers w i) true clean))
pending_pop (c ∷ cs) w i plain clean =
    let parts = or_parts (is_pending (cs ++ w ∷ []) i) _ clean in
    let before = pending_pop cs w i plain parts.0 in
    let same : list_any is_sync (cs ++ w ∷ []) ≡ list_any is_sync cs =
    list_any-append is_sync cs (w ∷ []) ∙ ap (λ (b : Bool). list_any is_sync cs || (b || false)) plain ∙ or_false (list_any is_sync cs) in
    (or_from _ _ before.0 (ap (λ (b : Bool). covers c i && not b) (sym same) ∙ parts.1), before.1)
  where
    or_false : (b : Bool) → (b || (false || false)) ≡ b
    or_false true = refl
    or_false false = refl

-- what might be left just before a call that is no sync, with any bytes in its range, may be left after it
pub more_left : (calls : List DiskCall) (w : DiskCall) (f g : Image) → is_sync w ≡ false → ((i : ℕ) → covers w i ≡ false → g i ≡ f i)
    → (d c : Image) → MayLeave calls f (length calls) d → ((i : ℕ) → covers w i ≡ false → c i ≡ d i) → MayLeave (calls ++ w ∷ []) g (length (calls ++ w ∷ [])) c
more_left calls w f g plain outside d c may agree = (length (calls ++ w ∷ []), le_refl (length (calls ++ w ∷ [])), le_refl (length (calls ++ w ∷ [])), left)
  where
    left : IsLeft (calls ++ w ∷ []) g (length (calls ++ w ∷ [])) c
    left i clean =
        let whole : take (length (calls ++ w ∷ [])) (calls ++ w ∷ []) ≡ calls ++ w ∷ [] = take_all (length (calls ++ w ∷ [])) (calls ++ w ∷ []) (omega arith) in
        let none : drop (length (calls ++ w ∷ [])) (calls ++ w ∷ []) ≡ [] = drop_all (length (calls ++ w ∷ [])) (calls ++ w ∷ []) (omega arith) in
        let first : take may.0 calls ≡ calls = take_all may.0 calls (omega (arith, may.1)) in
        let last : drop may.0 calls ≡ [] = drop_all may.0 calls (omega (arith, may.1)) in
        let was = pending_pop calls w i plain (ap (λ (l : List DiskCall). is_pending l i) (sym whole) ∙ clean) in
        agree i was.1 ∙ may.3 i (ap (λ (l : List DiskCall). is_pending l i) first ∙ was.0) ∙ ap (λ (l : List DiskCall). before_all l f i) last
        ∙ sym (outside i was.1) ∙ ap (λ (l : List DiskCall). before_all l g i) (sym none)

pub noted_goes_on : (bytes : List ℕ) (calls later : List DiskCall) → later ≡ calls ++ Other ∷ [] → GoesOn (recorded bytes calls) (recorded bytes later)
noted_goes_on bytes calls later is = subst (λ (l : List DiskCall). GoesOn (recorded bytes calls) (recorded bytes l)) (sym is)
    (λ c may. more_left calls Other (image_of bytes) (image_of bytes) refl (λ i out. refl) c c may (λ i out. refl))

pub unnoted_goes_on : (bytes : List ℕ) (calls later : List DiskCall) → later ≡ calls → GoesOn (recorded bytes calls) (recorded bytes later)
unnoted_goes_on bytes calls later is = subst (λ (l : List DiskCall). GoesOn (recorded bytes calls) (recorded bytes l)) (sym is) (λ c may. may)

pub noted_pending : (at n : ℕ) (old new : List ℕ) (was : Vec ℕ Global) (calls later : List DiskCall) → later ≡ calls ++ Write at was ∷ [] → length was.items ≡ n
    → Within at n (image_of old) (image_of new) → IsPending at n (recorded old calls) (recorded new later)
noted_pending at n old new was calls later is len within = subst (λ (l : List DiskCall). IsPending at n (recorded old calls) (recorded new l)) (sym is)
    (λ d c may torn. more_left calls (Write at was) (image_of old) (image_of new) refl (λ i out. within i (range i out)) d c may (λ i out. torn i (range i out)))
  where
    range : (i : ℕ) → covers (Write at was) i ≡ false → (i < at) ⊎ (at + n ≤ i)
    range i out = subst (λ m. (i < at) ⊎ (at + m ≤ i)) len (outside_of at (length was.items) i out)

pub sync_goes_on : {T E : Type 0} (r : Result T E) (bytes : List ℕ) (calls later : List DiskCall) → OnErr r (later ≡ calls) → OnErr r (GoesOn (recorded bytes calls) (recorded bytes later))
sync_goes_on (Ok x) bytes calls later err = tt
sync_goes_on (Err e) bytes calls later err = unnoted_goes_on bytes calls later err

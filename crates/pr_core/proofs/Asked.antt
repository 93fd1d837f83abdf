-- A save that is asked for, and one that isn't.
use Rattle.std.proofs.Common.{◌≡◌, ◌⊎◌, inl, inr, ◌↔◌, ◌&&◌, Bool, true, false, not, List, [], ◌∷◌, ◌++◌, Result, Ok, Err, IsErr, IsTrue, refl, sym, ap, ◌∙◌, subst}
use Rattle.pr_grammar.specs.Files.{Restoration, Keeps, Bad, file_restores}
use Rattle.pr_io.specs.Images.{Image}
use Rattle.pr_io.specs.declared.outside.Disk as disks
use Rattle.pr_model.specs.Keeping.{Kept, kept, same_kept, same_kepts, is_empty, IsIn}
use Rattle.pr_model.specs.Worlds.{World}
use Rattle.pr_model.specs.Commands.{answer, good}
use Rattle.pr_model.specs.Saving.{restorable, asks_to_save}
use Rattle.pr_model.specs.Stamps.{IsOneOf, Restores}
use Rattle.pr_model.proofs.SameKept.{same_kept_is}
use Rattle.pr_model.proofs.Settling.{none_left}
use Rattle.pr_aptpl.specs.declared.keeper.Keeper.{Keeper}
use Rattle.pr_aptpl.specs.Keepers.{StandsFor, Saves, story_of, is_in_doubt}
use Rattle.pr_aptpl.proofs.Guarding.{goes_as}
use Rattle.pr_core.specs.Saves.{Holds, Leads, SavesTo}
use Rattle.pr_core.proofs.Settled.{leads_still, some_doubt}

not_false : (b : Bool) → not b ≡ false → b ≡ true
not_false true is = refl
not_false false is = absurd cc

empty_is : (ks : List Kept) → is_empty ks ≡ true → ks ≡ []
empty_is [] is = refl
empty_is (k ∷ ks) is = absurd cc

-- one of the values before, or the last
one_split : (ks : List Kept) (k : Kept) (r : Restoration) → IsOneOf (ks ++ k ∷ []) r → IsOneOf ks r ⊎ IsOneOf (k ∷ []) r
one_split ks k (Bad place) is = absurd is
one_split ks k (Keeps x) is = by ks is
  where
    by : (ks : List Kept) → IsIn (ks ++ k ∷ []) x → IsIn ks x ⊎ IsIn (k ∷ []) x
    by [] is = inr is
    by (y ∷ ys) (inl here) = inl (inl here)
    by (y ∷ ys) (inr there) = more (by ys there)
      where
        more : IsIn ys x ⊎ IsIn (k ∷ []) x → IsIn (y ∷ ys) x ⊎ IsIn (k ∷ []) x
        more (inl a) = inl (inr a)
        more (inr b) = inr b

calm_is : (b : Bool) → (b ≡ true → false ≡ true) → b ≡ false
calm_is true is = sym (is refl)
calm_is false is = refl

-- what asks for a save
asks_is : (w v : World) → v.doubts ≡ [] → (not (same_kept (kept w.standing) (kept v.standing)) ≡ true) ⊎ (not (is_empty w.doubts) ≡ true) → asks_to_save w (answer v (good [])) ≡ true
asks_is w v none asks =
    ap (λ (ds : List Kept). not (same_kept (kept w.standing) (kept v.standing) && same_kepts w.doubts ds)) none
    ∙ ap (λ (b : Bool). not (same_kept (kept w.standing) (kept v.standing) && b)) (none_left w.doubts)
    ∙ by (same_kept (kept w.standing) (kept v.standing)) (is_empty w.doubts) asks
  where
    by : (a b : Bool) → (not a ≡ true) ⊎ (not b ≡ true) → not (a && b) ≡ true
    by true true (inl is) = absurd cc
    by true true (inr is) = absurd cc
    by true false is = refl
    by false b is = refl

module _ {D : Type 0} {gd : disks.Ghosts D} where
  pub unasked : (k : Keeper D gd) (w v : World) → Holds k w → v.doubts ≡ [] → false ≡ not (same_kept (kept w.standing) (kept v.standing)) → is_in_doubt k ≡ false → Leads k k w v
  unasked k w v holds none keeps calm =
      let same : kept w.standing ≡ kept v.standing = same_kept_is (kept w.standing) (kept v.standing) (not_false _ (sym keeps)) in
      let empty : w.doubts ≡ [] = empty_is w.doubts (not_false _ (sym holds.doubt ∙ calm)) in
      leads_still k w v (ap (λ (x : Kept). x ∷ v.doubts) (sym same) ∙ ap (λ (ds : List Kept). kept w.standing ∷ ds) (none ∙ sym empty)) holds

  pub asked : {T E : Type 0} (before now : Keeper D gd) (w v : World) (t : Kept) (r : Result T E) → Holds before w → kept v.standing ≡ t → v.doubts ≡ []
      → (asks : Bool) → asks ≡ not (same_kept (kept w.standing) (kept v.standing)) → (asks ≡ true) ⊎ (is_in_doubt before ≡ true)
      → ((ks : List Kept) → StandsFor before ks → Saves before now ks t r) → IsTrue (is_in_doubt now) ↔ IsErr r → SavesTo before now w v r
  asked before now w v t (Ok x) holds keeps none wants is asks saves doubt =
      let s = saves (restorable w) holds.stands in
      let left : restorable v ≡ t ∷ [] = ap (λ (k : Kept). k ∷ v.doubts) keeps ∙ ap (λ (ds : List Kept). t ∷ ds) none in
      record {
        holds = record {
          stands = subst (StandsFor now) (sym left) s.stands;
          doubt = calm_is (is_in_doubt now) doubt.0 ∙ ap (λ (ds : List Kept). not (is_empty ds)) (sym none);
        };
        goes = goes_as (story_of before) (story_of now) _ _ s.moments (λ (c : Image) one. split c (one_split (restorable w) t (file_restores c) one));
      }
    where
      split : (c : Image) → IsOneOf (restorable w) (file_restores c) ⊎ IsOneOf (t ∷ []) (file_restores c) → Restores w c ⊎ Restores v c
      split c (inl a) = inl a
      split c (inr b) = inr (subst (λ (ks : List Kept). IsOneOf ks (file_restores c)) (sym (ap (λ (k : Kept). k ∷ v.doubts) keeps ∙ ap (λ (ds : List Kept). t ∷ ds) none)) b)
  asked before now w v t (Err e) holds keeps none wants is asks saves doubt =
      let s = saves (restorable w) holds.stands in
      let left : restorable w ++ kept v.standing ∷ [] ≡ restorable w ++ t ∷ [] = ap (λ (k : Kept). restorable w ++ k ∷ []) keeps in (
        record {
          holds = record {
            stands = subst (StandsFor now) (sym left) s.stands;
            doubt = doubt.1 refl ∙ ap not (sym (some_doubt w.doubts (kept v.standing)));
          };
          goes = goes_as (story_of before) (story_of now) _ _ s.moments (λ (c : Image) one. inr (subst (λ (ks : List Kept). IsOneOf ks (file_restores c)) (sym left) one));
        },
        asks_is w v none (asks_world asks),
      )
    where
      asks_world : (wants ≡ true) ⊎ (is_in_doubt before ≡ true) → (not (same_kept (kept w.standing) (kept v.standing)) ≡ true) ⊎ (not (is_empty w.doubts) ≡ true)
      asks_world (inl a) = inl (sym is ∙ a)
      asks_world (inr b) = inr (sym holds.doubt ∙ b)

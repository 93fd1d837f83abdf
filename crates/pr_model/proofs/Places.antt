-- Where a nexus stands among pairs in order.
use Rattle.std.proofs.Common.{◌≡◌, ℕ, zero, suc, ◌+◌, ◌<◌, ◌≤◌, true, false, not, List, [], ◌∷◌, ◌++◌, length, take, drop, get_or, set, Some, None, refl, ap, sym, ◌∙◌, subst, arith}
use Rattle.std.specs.List.{filter, All, AllWithin}
use Rattle.std.proofs.Math.Seq.{drop-cons}
use Rattle.std.proofs.lemmas.List.{get_or_default, take-set, drop-set-lt, length-set, get_or-set_same, take-append-drop, get_or-drop, length-drop, append-nil}
use Rattle.std.proofs.Common.{add-zero, inl, inr, ◌⊎◌}
use Rattle.std.specs.List.Sorted.{IsPartitionedBy}
use Rattle.std.proofs.lemmas.List.Elements.{All-head, All-tail, All-weaker, filter-append}
use Rattle.std.proofs.lemmas.List.Folds.{list_any_none, list_any-append}
use Rattle.std.proofs.lemmas.Grind.{common_steps}
use Rattle.std.proofs.lemmas.Bool.{cases_eq}
use Rattle.pr_words.specs.declared.nexus.Nexus.{Nexus}
use Rattle.pr_words.specs.declared.nexus.Pair.{Pair}
use Rattle.pr_words.specs.Orders.{same_nexus, comes_before}
use Rattle.pr_grammar.specs.Standings.{is_at, is_registered, key_of}
use Rattle.pr_model.specs.Registrants.{with_pair, pair, IsAscending, is_earlier, is_later, but_those}
use Rattle.pr_model.specs.Places.{StandsAt, LacksAt, Divides}
use Rattle.pr_model.proofs.Orders.{same_is, before_not_same, before_not_after, after_not_same, neither, before_through}
use Rattle.pr_model.proofs.Filters.{filter_all, filter_none, all_take}

-- three parts of a list: those before a nexus, those at it, those after it
pub record Parts (n : Nexus) (xs ys : List Pair) : Type 0 where
  pub before : All (λ p. is_earlier n p ≡ true) xs
  pub after : All (λ p. is_later n p ≡ true) ys

key_behind : (n : Nexus) (xs ys : List Pair) → All (λ p. is_at n p ≡ false) xs → key_of (xs ++ ys) n ≡ key_of ys n
key_behind n [] ys a = refl
key_behind n (x ∷ xs) ys a = rw (All-head (λ p. is_at n p ≡ false) x xs a) (key_behind n xs ys (All-tail (λ p. is_at n p ≡ false) x xs a))

key_none : (n : Nexus) (xs : List Pair) → All (λ p. is_at n p ≡ false) xs → key_of xs n ≡ None
key_none n [] a = refl
key_none n (x ∷ xs) a = rw (All-head (λ p. is_at n p ≡ false) x xs a) (key_none n xs (All-tail (λ p. is_at n p ≡ false) x xs a))

module _ (n : Nexus) (xs ys : List Pair) (parts : Parts n xs ys) where
  before_not_at : All (λ p. is_at n p ≡ false) xs
  before_not_at = All-weaker _ _ (λ p e. before_not_same p.nexus n e) xs parts.before

  after_not_at : All (λ p. is_at n p ≡ false) ys
  after_not_at = All-weaker _ _ (λ p e. after_not_same n p.nexus e) ys parts.after

  before_not_later : All (λ p. is_later n p ≡ false) xs
  before_not_later = All-weaker _ _ (λ p e. before_not_after p.nexus n e) xs parts.before

  after_not_earlier : All (λ p. is_earlier n p ≡ false) ys
  after_not_earlier = All-weaker _ _ (λ p e. before_not_after n p.nexus e) ys parts.after

  before_others : All (λ p. not (is_at n p) ≡ true) xs
  before_others k d lt = ap not (before_not_at k d lt)

  after_others : All (λ p. not (is_at n p) ≡ true) ys
  after_others k d lt = ap not (after_not_at k d lt)

  pub none_earlier : filter (is_earlier n) (xs ++ ys) ≡ xs
  none_earlier = filter-append (is_earlier n) xs ys ∙ rw (filter_all (is_earlier n) xs parts.before, filter_none (is_earlier n) ys after_not_earlier) (append-nil xs)

  pub none_later : filter (is_later n) (xs ++ ys) ≡ ys
  none_later = filter-append (is_later n) xs ys ∙ rw (filter_none (is_later n) xs before_not_later, filter_all (is_later n) ys parts.after) refl

  pub none_others : but_those (is_at n) (xs ++ ys) ≡ xs ++ ys
  none_others = filter-append (λ p. not (is_at n p)) xs ys ∙ rw (filter_all (λ p. not (is_at n p)) xs before_others, filter_all (λ p. not (is_at n p)) ys after_others) refl

  pub none_registered : is_registered (xs ++ ys) n ≡ false
  none_registered = list_any-append (is_at n) xs ys ∙ rw (list_any_none (is_at n) xs before_not_at) (list_any_none (is_at n) ys after_not_at)

  pub none_key : key_of (xs ++ ys) n ≡ None
  none_key = key_behind n xs ys before_not_at ∙ key_none n ys after_not_at

  pub some_earlier : (x : Pair) → is_at n x ≡ true → is_earlier n x ≡ false → filter (is_earlier n) (xs ++ x ∷ ys) ≡ xs
  some_earlier x e f = filter-append (is_earlier n) xs (x ∷ ys) ∙ rw (filter_all (is_earlier n) xs parts.before, f, filter_none (is_earlier n) ys after_not_earlier) (append-nil xs)

  pub some_later : (x : Pair) → is_at n x ≡ true → is_later n x ≡ false → filter (is_later n) (xs ++ x ∷ ys) ≡ ys
  some_later x e f = filter-append (is_later n) xs (x ∷ ys) ∙ rw (filter_none (is_later n) xs before_not_later, f, filter_all (is_later n) ys parts.after) refl

  pub some_others : (x : Pair) → is_at n x ≡ true → but_those (is_at n) (xs ++ x ∷ ys) ≡ xs ++ ys
  some_others x e = filter-append (λ p. not (is_at n p)) xs (x ∷ ys) ∙ rw (filter_all (λ p. not (is_at n p)) xs before_others, e, filter_all (λ p. not (is_at n p)) ys after_others) refl

  pub some_registered : (x : Pair) → is_at n x ≡ true → is_registered (xs ++ x ∷ ys) n ≡ true
  some_registered x e = list_any-append (is_at n) xs (x ∷ ys) ∙ rw (list_any_none (is_at n) xs before_not_at, e) refl

  pub some_key : (x : Pair) → is_at n x ≡ true → key_of (xs ++ x ∷ ys) n ≡ Some x.key.0
  some_key x e = key_behind n xs (x ∷ ys) before_not_at ∙ rw e refl

later_behind : (ps : List Pair) (n : Nexus) (i : ℕ) → IsAscending ps → i < length ps → ((d : Pair) → (get_or ps i d).nexus ≡ n) → All (λ p. is_later n p ≡ true) (drop (suc i) ps)
later_behind ps n i up lt at k d small =
    rw (get_or-drop (suc i) ps k d) (subst (λ m. comes_before m (get_or ps (suc i + k) d).nexus ≡ true) (at d) (up i (suc i + k) d (omega arith) (omega (arith, length-drop (suc i) ps))))

cut_at : (ps : List Pair) (i : ℕ) (d : Pair) → i < length ps → ps ≡ take i ps ++ get_or ps i d ∷ drop (suc i) ps
cut_at ps i d lt = sym (take-append-drop i ps) ∙ ap (λ zs. take i ps ++ zs) (drop-cons ps i d lt)

pub stands_at : (ps : List Pair) (n : Nexus) (i : ℕ) (x : Pair) → IsAscending ps → AllWithin (λ p. is_earlier n p ≡ true) ps 0 i → i < length ps
    → ((d : Pair) → get_or ps i d ≡ x) → same_nexus x.nexus n ≡ true → StandsAt ps n i
stands_at ps n i x up early lt at same =
    let is : x.nexus ≡ n = same_is x.nexus n same in
    let behind = later_behind ps n i up lt (λ d. ap (λ (p : Pair). p.nexus) (at d) ∙ is) in
    let parts : Parts n (take i ps) (drop (suc i) ps) = record { before = all_take (λ p. is_earlier n p ≡ true) ps i early; after = behind } in
    let cut : ps ≡ take i ps ++ x ∷ drop (suc i) ps = cut_at ps i x lt ∙ ap (λ y. take i ps ++ y ∷ drop (suc i) ps) (at x) in
    let not_early : is_earlier n x ≡ false = grind (arith, common_steps, before_not_same) in
    let not_late : is_later n x ≡ false = grind (arith, common_steps, after_not_same) in
    record {
      within = lt;
      earlier = ap (filter (is_earlier n)) cut ∙ some_earlier n _ _ parts x same not_early;
      later = ap (filter (is_later n)) cut ∙ some_later n _ _ parts x same not_late;
      others = ap (but_those (is_at n)) cut ∙ some_others n _ _ parts x same;
      registered = ap (λ qs. is_registered qs n) cut ∙ some_registered n _ _ parts x same;
      key = λ d. ap (λ qs. key_of qs n) cut ∙ some_key n _ _ parts x same ∙ ap (λ (p : Pair). Some p.key.0) (sym (at d));
    }

-- what isn't earlier, with a first that isn't at the nexus, is later
rest_later : (ps : List Pair) (n : Nexus) (i : ℕ) → IsAscending ps → AllWithin (λ p. is_earlier n p ≡ false) ps i (length ps)
    → ((d : Pair) → i < length ps → same_nexus (get_or ps i d).nexus n ≡ false) → All (λ p. is_later n p ≡ true) (drop i ps)
rest_later ps n i up behind not_at zero d small =
    let lt : i < length ps = omega (arith, length-drop i ps) in
    rw (get_or-drop i ps zero d, add-zero i) (neither (get_or ps i d).nexus n (behind i d (omega arith) lt) (not_at d lt))
rest_later ps n i up behind not_at (suc k) d small =
    let lt : i + suc k < length ps = omega (arith, length-drop i ps) in
    let first : i < length ps = omega arith in
    let here = neither (get_or ps i d).nexus n (behind i d (omega arith) first) (not_at d first) in
    rw (get_or-drop i ps (suc k) d) (before_through n (get_or ps i d).nexus (get_or ps (i + suc k) d).nexus here (up i (i + suc k) d (omega arith) lt))

pub lacks_at : (ps : List Pair) (n : Nexus) (i : ℕ) → IsAscending ps → AllWithin (λ p. is_earlier n p ≡ true) ps 0 i → AllWithin (λ p. is_earlier n p ≡ false) ps i (length ps) → i ≤ length ps
    → ((d : Pair) → i < length ps → same_nexus (get_or ps i d).nexus n ≡ false) → LacksAt ps n i
lacks_at ps n i up early behind le not_at =
    let parts : Parts n (take i ps) (drop i ps) = record { before = all_take (λ p. is_earlier n p ≡ true) ps i early; after = rest_later ps n i up behind not_at } in
    let cut : ps ≡ take i ps ++ drop i ps = sym (take-append-drop i ps) in
    record {
      within = le;
      earlier = ap (filter (is_earlier n)) cut ∙ none_earlier n _ _ parts;
      later = ap (filter (is_later n)) cut ∙ none_later n _ _ parts;
      others = ap (but_those (is_at n)) cut ∙ none_others n _ _ parts ∙ sym cut;
      registered = ap (λ qs. is_registered qs n) cut ∙ none_registered n _ _ parts;
      key = ap (λ qs. key_of qs n) cut ∙ none_key n _ _ parts;
    }

pub parted : (ps : List Pair) (n : Nexus) → IsAscending ps → IsPartitionedBy (is_earlier n) ps
parted ps n up i j d le lt e = by (cases_eq i j)
  where
    by : (i ≡ j) ⊎ (i ≡ j → ⊥) → is_earlier n (get_or ps i d) ≡ true
    by (inl same) = rw same e
    by (inr other) = before_through (get_or ps i d).nexus (get_or ps j d).nexus n (up i j d (omega (arith, other)) lt) e

pub found_from : (ps : List Pair) (n : Nexus) (i : ℕ) (d : Pair) → IsAscending ps → Divides ps n i → i < length ps → same_nexus (get_or ps i d).nexus n ≡ true → StandsAt ps n i
found_from ps n i d up cut lt same = stands_at ps n i (get_or ps i d) up cut.below lt (λ e. get_or_default ps i e d lt) same

pub lacking_from : (ps : List Pair) (n : Nexus) (i : ℕ) (d : Pair) → IsAscending ps → Divides ps n i → i < length ps → same_nexus (get_or ps i d).nexus n ≡ false → LacksAt ps n i
lacking_from ps n i d up cut lt other =
    lacks_at ps n i up cut.below cut.above cut.within (λ e small. ap (λ (p : Pair). same_nexus p.nexus n) (get_or_default ps i e d lt) ∙ other)

pub lacking_behind : (ps : List Pair) (n : Nexus) (i : ℕ) → IsAscending ps → Divides ps n i → length ps ≤ i → LacksAt ps n i
lacking_behind ps n i up cut le = lacks_at ps n i up cut.below cut.above cut.within (λ e small. absurd (omega arith))

pub ruleset places = (found_from, lacking_from, lacking_behind)

-- a write at its place, and an insertion there, put the pair in
pub set_is_with : (ps : List Pair) (n : Nexus) (i k : ℕ) → StandsAt ps n i → set ps i (pair n k) ≡ with_pair ps (pair n k)
set_is_with ps n i k at =
    cut_at (set ps i (pair n k)) i (pair n k) (omega (arith, at.within, length-set ps i (pair n k)))
    ∙ rw (take-set ps i (pair n k), get_or-set_same ps i (pair n k) (pair n k) at.within, drop-set-lt (suc i) ps i (pair n k) (omega arith), at.earlier, at.later) refl

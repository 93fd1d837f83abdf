-- Text that was printed, or a front of it.
use Rattle.std.proofs.Common.{◌≡◌, ◌∙◌, ◌++◌, ◌+◌, ◌≤◌, ◌<◌, ℕ, List, [], ◌∷◌, length, take, sym, subst, refl, arith}
use Rattle.std.specs.Prelude.{Result, Ok, Err, OnOk, OnErr, Some, codes, decimal}
use Rattle.std.specs.List.{concat, flat_map, slice_get}
use Rattle.std.proofs.lemmas.Bool.{ne_eqb}
use Rattle.std.proofs.lemmas.Option.{get_or_from_slice_get}
use Rattle.pr_io.specs.declared.outside.Failed.{Failed}
use Rattle.pr_io.specs.Causes.{HasCause}
use Rattle.pr_io.specs.Streams.{Put, PutSome}
use Rattle.pr_io.specs.Told.{ToldSink}
use Rattle.pr_io.proofs.Pieces.{put_more}
use Rattle.pr_io.proofs.Sent.{some_first, some_second}
use Rattle.pr_persist.specs.Prints.{HasPrinted}
use Rattle.pr_persist.specs.Texts.{hex_word, keys_head, line_end}
use Rattle.pr_persist.proofs.Putting.{next_put, next_failed, all_put}

pub printed : (old new : ToldSink) (t u : List ℕ) (r : Result Unit Failed) → t ≡ u → OnOk r (Put old.written new.written t) → OnErr r (PutSome old.written new.written t) → HasCause old.faults new.faults r → HasPrinted old new u r
printed old new t u r is all some cause =
    subst (λ (w : List ℕ). HasPrinted old new w r) is (record { all = all; some = some; cause = cause })

-- one text, and then another
pub then_printed : (a b c : ToldSink) (x y : List ℕ) (r : Result Unit Failed) → HasPrinted a b x (Ok tt) → HasPrinted b c y r → HasPrinted a c (x ++ y) r
then_printed a b c x y (Ok u) p q =
    record {
      all = put_more a.written b.written c.written x y p.all q.all;
      some = tt;
      cause = record { later = omega (arith, p.cause.later, q.cause.later); failed = tt; calm = q.cause.calm ∙ p.cause.calm; once = tt };
    }
then_printed a b c x y (Err e) p q =
    record {
      all = tt;
      some = some_second a.written b.written c.written x y p.all q.some;
      cause = subst (λ (n : ℕ). HasCause {T = Unit} {E = Failed} n c.faults (Err e)) p.cause.calm q.cause;
    }

-- the sink failed in the first of two
pub first_failed : (a b : ToldSink) (x y : List ℕ) (e : Failed) → HasPrinted a b x (Err e) → HasPrinted a b (x ++ y) (Err e)
first_failed a b x y e p = record { all = tt; some = some_first a.written b.written x y p.some; cause = p.cause }

-- the head of several keys
pub several : (generation n : ℕ) → (n ≡ 0 → ⊥) → (n ≡ 1 → ⊥)
    → concat (codes "  PR generation=0x" ∷ hex_word generation ∷ codes ", " ∷ decimal n ∷ (codes " registered reservation keys follow:" ++ line_end) ∷ []) ≡ keys_head generation n
several generation n some more = rw (ne_eqb n 0 some, ne_eqb n 1 more) refl

-- so many lines of a list were put
pub record Lines {A : Type 0} (f : A → List ℕ) (a b : ToldSink) (xs : List A) (i : ℕ) : Type 0 where
  pub put : Put a.written b.written (flat_map f (take i xs))
  pub calm : b.faults ≡ a.faults

pub lines_went : {A : Type 0} (f : A → List ℕ) (a b c : ToldSink) (xs : List A) (i : ℕ) (x : A) → i < length xs → slice_get xs i ≡ Some x → Lines f a b xs i → HasPrinted b c (f x) (Ok tt) → Lines f a c xs (i + 1)
lines_went f a b c xs i x less at before line =
    record {
      put = next_put f a.written b.written c.written xs i x less before.put (subst (λ (y : _). Put b.written c.written (f y)) (sym (get_or_from_slice_get xs i x x at)) line.all);
      calm = line.cause.calm ∙ before.calm;
    }

pub lines_failed : {A : Type 0} (f : A → List ℕ) (a b c : ToldSink) (xs : List A) (i : ℕ) (x : A) (e : Failed) → i < length xs → slice_get xs i ≡ Some x → Lines f a b xs i → HasPrinted b c (f x) (Err e) → HasPrinted a c (flat_map f xs) (Err e)
lines_failed f a b c xs i x e less at before line =
    record {
      all = tt;
      some = next_failed f a.written b.written c.written xs i x less before.put (subst (λ (y : _). PutSome b.written c.written (f y)) (sym (get_or_from_slice_get xs i x x at)) line.some);
      cause = subst (λ (n : ℕ). HasCause {T = Unit} {E = Failed} n c.faults (Err e)) before.calm line.cause;
    }

pub lines_done : {A : Type 0} (f : A → List ℕ) (a b : ToldSink) (xs : List A) (i : ℕ) → length xs ≤ i → Lines f a b xs i → HasPrinted a b (flat_map f xs) (Ok tt)
lines_done f a b xs i most before =
    record {
      all = all_put f a.written b.written xs i most before.put;
      some = tt;
      cause = record { later = omega (arith, before.calm); failed = tt; calm = before.calm; once = tt };
    }

-- the same text, by its other spelling and the result that it had
pub at_result : (a b : ToldSink) (x y : List ℕ) (r s : Result Unit Failed) → x ≡ y → r ≡ s → HasPrinted a b x r → HasPrinted a b y s
at_result a b x y r s text result p = subst (λ (w : List ℕ). HasPrinted a b w s) text (subst (HasPrinted a b x) result p)

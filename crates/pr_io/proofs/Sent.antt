-- What was put where a sink fails between two pieces, and facts under a result.
use Rattle.std.proofs.Common.{ℕ, List, ◌++◌, Option, Result, Ok, Err, sym, ap, ◌∙◌, append_assoc, arith}
use Rattle.std.proofs.lemmas.List.{length-append}
use Rattle.std.specs.Prelude.{OnErr, OnOk}
use Rattle.pr_io.specs.Streams.{Put, PutSome}
use Rattle.pr_io.proofs.Pieces.{put_more}

pub on_err : {T E : Type 0} {P Q : Type 0} (r : Result T E) → (P → Q) → OnErr r P → OnErr r Q
on_err (Ok x) f p = tt
on_err (Err e) f p = f p

pub on_ok : {T E : Type 0} {P Q : Type 0} (r : Result T E) → (P → Q) → OnOk r P → OnOk r Q
on_ok (Ok x) f p = f p
on_ok (Err e) f p = tt

-- a fact that holds always holds after a failure
pub always_err : {T E : Type 0} {P : Type 0} (r : Result T E) → P → OnErr r P
always_err (Ok x) p = tt
always_err (Err e) p = p

-- the sink failed within the first of two pieces
pub some_first : (a b : Option (List ℕ)) (xs ys : List ℕ) → PutSome a b xs → PutSome a b (xs ++ ys)
some_first a b xs ys p = (p.0, p.1 ++ ys, ap (λ (w : List ℕ). w ++ ys) p.2 ∙ append_assoc p.0 p.1 ys, p.3, omega (arith, length-append p.1 ys, p.4))

-- the sink failed within the second of two pieces
pub some_second : (a b c : Option (List ℕ)) (xs ys : List ℕ) → Put a b xs → PutSome b c ys → PutSome a c (xs ++ ys)
some_second a b c xs ys p q =
    (xs ++ q.0, q.1, ap (λ (w : List ℕ). xs ++ w) q.2 ∙ sym (append_assoc xs q.0 q.1), put_more a b c xs q.0 p q.3, q.4)

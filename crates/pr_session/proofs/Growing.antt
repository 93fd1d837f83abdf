-- Turns with more bytes behind them: what a session makes of the bytes that came is a beginning of what it makes of all.
use Rattle.std.proofs.Common.{◌≡◌, ℕ, ◌+◌, ◌≤◌, ◌||◌, Bool, true, false, ltb, List, [], ◌++◌, length, take, drop, refl, sym, ap, ◌∙◌, subst, arith, append_assoc}
use Rattle.std.specs.Int.{w32, from_be_bytes}
use Rattle.std.proofs.lemmas.Bool.{le-ltb, ltb-false}
use Rattle.std.proofs.lemmas.List.{append-nil, length-append, length-drop, drop-append-le, take-append-le}
use std.Path.{fun_ext}
use Rattle.pr_words.specs.declared.nexus.Nexus.{Nexus}
use Rattle.pr_words.specs.declared.nexus.Side.{Side}
use Rattle.pr_words.specs.declared.nexus.Side.TheVariants.{Target}
use Rattle.pr_words.specs.Fields.{number32_at}
use Rattle.pr_words.specs.declared.limits.TheConstants.{FRAME_LENGTH}
use Rattle.pr_grammar.specs.Frames.{Front, Lacking, Broken, Whole, front, sized}
use Rattle.pr_grammar.proofs.Fronts.{grown, checked_more, IsThere}
use Rattle.pr_model.specs.Entries.{History, Step}
use Rattle.pr_model.specs.Lanes.{Phase, Fresh, In, Busy, Dead, Lane, lane, Turn, Asks, turn, turn_at, carried, arrived, fresh}
use Rattle.pr_model.specs.Runs.{Makes}
use Rattle.pr_model.specs.Sessions.{AreTurns, AsksFor, connection}
use Rattle.pr_model.proofs.Overflow.{arrived-append, arrived-nil, grown_turn, turn_at_more, makes_more, after_step_more}
use Rattle.pr_model.proofs.SessionLaws.{turns_join}
use Rattle.pr_session.specs.Ends.{IsMade, Serves}

sized_grows : (side : Side) (a b : Bool) (xs ys : List ℕ) (len : ℕ) → (ltb len 8 || ltb FRAME_LENGTH len) ≡ a → ltb (length xs) (4 + len) ≡ b → IsThere (sized side len xs) → sized side len (xs ++ ys) ≡ grown (sized side len xs) ys
sized_grows side true b xs ys len is short there = rw is refl
sized_grows side false true xs ys len is short there = absurd (rw (is, short) at there)
sized_grows side false false xs ys len is short there =
    let long : 4 + len ≤ length xs = ltb-false _ _ short in
    let two : ltb (length (xs ++ ys)) (4 + len) ≡ false = le-ltb _ _ (omega (arith, length-append xs ys)) in
    let content : take len (drop 4 (xs ++ ys)) ≡ take len (drop 4 xs) = ap (take len) (drop-append-le 4 xs ys (omega arith)) ∙ take-append-le len (drop 4 xs) ys (omega (arith, length-drop 4 xs)) in
    let rest : drop (4 + len) (xs ++ ys) ≡ drop (4 + len) xs ++ ys = drop-append-le (4 + len) xs ys (omega arith) in
    rw (is, short, two, content, rest) (checked_more side (take len (drop 4 xs)) (drop (4 + len) xs) ys)

front_by : (side : Side) (b : Bool) (xs ys : List ℕ) → ltb (length xs) 4 ≡ b → IsThere (front side xs) → front side (xs ++ ys) ≡ grown (front side xs) ys
unfolding front
front_by side true xs ys short there = absurd (rw short at there)
front_by side false xs ys short there =
    let long : 4 ≤ length xs = ltb-false _ _ short in
    let two : ltb (length (xs ++ ys)) 4 ≡ false = le-ltb _ _ (omega (arith, length-append xs ys)) in
    let number : number32_at (xs ++ ys) 0 ≡ number32_at xs 0 = ap (from_be_bytes w32) (take-append-le 4 xs ys (omega arith)) in
    rw (short, two, number) (sized_grows side _ _ xs ys (number32_at xs 0) refl refl (rw short at there))

front_grows : (side : Side) (xs ys : List ℕ) → IsThere (front side xs) → front side (xs ++ ys) ≡ grown (front side xs) ys
front_grows side xs ys there = front_by side _ xs ys refl there

dead_idle : (place : ℕ) (f : Front) → IsMade (turn_at Dead place f) → ⊥
dead_idle place (Lacking k) made = made
dead_idle place (Broken r) made = made
dead_idle place (Whole f rest) made = made

fresh_there : (place : ℕ) (f : Front) → IsMade (turn_at Fresh place f) → IsThere f
fresh_there place (Lacking k) made = made
fresh_there place (Broken r) made = tt
fresh_there place (Whole f rest) made = tt

in_there : (n : Nexus) (place : ℕ) (f : Front) → IsMade (turn_at (In n) place f) → IsThere f
in_there n place (Lacking k) made = made
in_there n place (Broken r) made = tt
in_there n place (Whole f rest) made = tt

grows_at : (p : Phase) (bytes ys : List ℕ) (place : ℕ) → IsMade (turn (lane bytes p place)) → turn (arrived (lane bytes p place) ys) ≡ grown_turn (turn (lane bytes p place)) ys
grows_at Dead bytes ys place made = absurd (dead_idle place (front Target bytes) made)
grows_at Fresh bytes ys place made = ap (turn_at Fresh place) (front_grows Target bytes ys (fresh_there place (front Target bytes) made)) ∙ turn_at_more Fresh place (front Target bytes) ys
grows_at (In n) bytes ys place made = ap (turn_at (In n) place) (front_grows Target bytes ys (in_there n place (front Target bytes) made)) ∙ turn_at_more (In n) place (front Target bytes) ys
grows_at (Busy n j) bytes ys place made = ap (Asks n (Step (carried j))) (fun_ext (after_step_more n j bytes ys place))

pub makes_grows : (who : ℕ) (l m : Lane) (es : History) (reply ys : List ℕ) → IsMade (turn l) → Makes who l (turn l) es reply m → Makes who (arrived l ys) (turn (arrived l ys)) es reply (arrived m ys)
makes_grows who l m es reply ys made makes = subst (λ (t : Turn). Makes who (arrived l ys) t es reply (arrived m ys)) (sym (grows_at l.phase l.bytes ys l.place made)) (makes_more who l m (turn l) es reply ys makes)

-- nothing was read yet
pub serves_none : (who : ℕ) → Serves who [] [] [] fresh
serves_none who = record { turns_with = λ more. (0, (refl, refl, refl)) }

-- more bytes were read
pub serves_read : (who : ℕ) (read piece : List ℕ) (es : History) (replies : List ℕ) (l : Lane) → Serves who read es replies l → Serves who (read ++ piece) es replies (arrived l piece)
serves_read who read piece es replies l serves = record { turns_with = by }
  where
    by : (more : List ℕ) → (turns : ℕ) × AreTurns turns who (connection ((read ++ piece) ++ more)) es replies (arrived (arrived l piece) more)
    by more =
        let s = serves.turns_with (piece ++ more) in (
          s.0,
          subst (λ (x : List ℕ). AreTurns s.0 who (connection x) es replies (arrived (arrived l piece) more)) (sym (append_assoc read piece more))
              (subst (λ (m : Lane). AreTurns s.0 who (connection (read ++ (piece ++ more))) es replies m) (sym (arrived-append l piece more)) s.1),
        )

-- one more turn was made
pub serves_turn : (who : ℕ) (read : List ℕ) (es more_es : History) (replies reply : List ℕ) (l m : Lane) → IsMade (turn l) → Serves who read es replies l → Makes who l (turn l) more_es reply m → Serves who read (es ++ more_es) (replies ++ reply) m
serves_turn who read es more_es replies reply l m made serves makes = record { turns_with = by }
  where
    by : (more : List ℕ) → (turns : ℕ) × AreTurns turns who (connection (read ++ more)) (es ++ more_es) (replies ++ reply) (arrived m more)
    by more =
        let s = serves.turns_with more in
        let one : AreTurns 1 who (arrived l more) more_es reply (arrived m more) =
        (more_es, reply, arrived m more, [], [], makes_grows who l m more_es reply more made makes, (refl, refl, refl), sym (append-nil more_es), sym (append-nil reply)) in
        turns_join s.0 1 who (connection (read ++ more)) (arrived l more) (arrived m more) es more_es replies reply s.1 one

-- what the bytes asked for that were read
pub serves_asks : (who : ℕ) (read : List ℕ) (es : History) (replies : List ℕ) (l : Lane) → Serves who read es replies l → AsksFor who read es replies l
serves_asks who read es replies l serves =
    let s = serves.turns_with [] in
    record {
      turns = s.0;
      taken = subst (λ (m : Lane). AreTurns s.0 who (connection read) es replies m) (arrived-nil l)
          (subst (λ (x : List ℕ). AreTurns s.0 who (connection x) es replies (arrived l [])) (append-nil read) s.1);
    }

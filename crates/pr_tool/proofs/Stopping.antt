-- Where the reading of a record stops, and what was taken by then.
use Rattle.std.proofs.Common.{◌≡◌, ℕ, ◌-◌, ◌≤◌, ◌<◌, true, false, ltb, List, [], ◌∷◌, ◌++◌, length, take, Option, Some, None, Result, Ok, Err, refl, sym, ap, ◌∙◌, arith, inl, inr, subst, append_assoc}
use Rattle.std.proofs.lemmas.Bool.{lt-ltb, ltb-true, ltb-false}
use Rattle.std.proofs.lemmas.List.{append-nil, take_all, take_at, length-take, length-append}
use Rattle.std.specs.Result.{IsErrAnd}
use Rattle.pr_words.specs.Fields.{number16_at}
use Rattle.pr_io.specs.Streams.{Took, EndedShort}
use Rattle.pr_io.proofs.Pieces.{took_more}
use Rattle.pr_grammar.specs.Schedules.{Partial, Faulty, can_begin, record_front}
use Rattle.pr_grammar.proofs.Records.{front_faulty, front_partial, short_partial, short_unfinished}
use Rattle.pr_tool.specs.Reading.{IsAtEnd, Stops, Reads, Cuts, Ends, end_at}
use Rattle.pr_tool.specs.declared.schedule.Record.{Record as Found}
use Rattle.pr_tool.specs.declared.schedule.End.{End}
use Rattle.pr_tool.specs.declared.schedule.End.TheVariants.{Done, ReadFault, Broken, TooLong}

pub at_end : (rest : Option (List ℕ)) (n room : ℕ) → EndedShort rest n room → n < room → IsAtEnd rest
at_end None n room ended less = tt
at_end (Some rest) n room ended less = ended less

took_last : (a b c : Option (List ℕ)) (xs : List ℕ) → Took a b xs → Took b c [] → Took a c xs
took_last a b c xs first last = subst (λ (w : List ℕ). Took a c w) (append-nil xs) (took_more a b c xs [] first last)

-- a read that filled its part of a buffer
pub all_read : (old buf rest : List ℕ) (got len : ℕ) → got ≤ length (take len old) → length buf ≡ length (take len old) → len ≤ got → take got buf ≡ take len (buf ++ rest)
all_read old buf rest got len count size enough =
    let less : length (take len old) ≤ len = omega (arith, length-take len old) in
    take_all got buf (omega arith) ∙ sym (take_at buf rest len (omega arith))

-- the source ended within a record's head
pub stops_ended : (lanes left : ℕ) (end : End) (a b : Option (List ℕ)) (tail : List ℕ) → Took a b tail → length tail < 4 → length tail ≤ left → IsAtEnd b → end ≡ end_at (ltb 0 (length tail)) → Stops lanes left end a b
stops_ended lanes left end a b [] took short fits ended is = subst (λ (e : End). Stops lanes left e a b) (sym is) (took, ended)
stops_ended lanes left end a b (x ∷ xs) took short fits ended is =
    let some : ltb 0 (length (x ∷ xs)) ≡ true = lt-ltb _ _ (omega arith) in
    subst (λ (e : End). Stops lanes left e a b) (sym (is ∙ ap end_at some)) (x ∷ xs, took, short_unfinished lanes (x ∷ xs) short, fits, inr (omega arith, ended))

-- a head can't become a record
pub stops_faulty : (lanes left : ℕ) (a b : Option (List ℕ)) (tail : List ℕ) → Took a b tail → length tail ≤ left → can_begin lanes tail ≡ false → Stops lanes left Broken a b
stops_faulty lanes left a b tail took fits not_begun =
    let front : record_front lanes tail ≡ Faulty = front_faulty lanes tail not_begun in
    (tail, took, rw front tt, fits, inl front)

none_there : (xs : List ℕ) → length xs ≡ 0 → xs ≡ []
none_there [] is = refl
none_there (x ∷ xs) is = absurd (omega arith)

-- what is looked at ends within a record's head
pub stops_behind : (lanes left : ℕ) (end : End) (a b c : Option (List ℕ)) (tail : List ℕ) → Took a b tail → can_begin lanes tail ≡ true → length tail < 4 → length tail ≡ left → Ends (ltb 0 (length tail)) end b c → Stops lanes left end a c
stops_behind lanes left Done a b c tail took begun short all ends =
    let none : tail ≡ [] = none_there tail (omega (arith, ltb-false 0 (length tail) ends.0)) in
    (subst (λ (w : List ℕ). Took a c w) none (took_last a b c tail took ends.1), ends.2)
stops_behind lanes left ReadFault a b c tail took begun short all ends = (tail, took_last a b c tail took ends, short_unfinished lanes tail short, omega arith)
stops_behind lanes left Broken a b c tail took begun short all ends =
    (tail, took_last a b c tail took ends.1, short_unfinished lanes tail short, omega arith, inr (ltb-true 0 (length tail) ends.0, ends.2))
stops_behind lanes left TooLong a b c tail took begun short all ends =
    (tail, ends.0, took_more a b c tail ends.0 took ends.1, short_partial lanes tail begun short, all, ends.2)

-- what is looked at ends within the bytes of an arrival
pub cuts_behind : (size left : ℕ) (end : End) (a b c : Option (List ℕ)) (piece : List ℕ) → Took a b piece → length piece < size → length piece ≡ left → Ends true end b c → Cuts size left end a c
cuts_behind size left Done a b c piece took less all ends = absurd (let no : true ≡ false = ends.0 in cc)
cuts_behind size left ReadFault a b c piece took less all ends = (piece, took_last a b c piece took ends, less, omega arith)
cuts_behind size left Broken a b c piece took less all ends = (piece, took_last a b c piece took ends.1, less, omega arith, ends.2)
cuts_behind size left TooLong a b c piece took less all ends = (piece, ends.0, took_more a b c piece ends.0 took ends.1, less, all, ends.2)

begun_partial : (lanes : ℕ) (head piece : List ℕ) → can_begin lanes head ≡ true → length head ≡ 4 → length piece < number16_at head 2 → record_front lanes (head ++ piece) ≡ Partial
begun_partial lanes (p ∷ q ∷ r ∷ s ∷ []) piece begun four less = front_partial lanes (p ∷ q ∷ r ∷ s ∷ piece) begun (omega (arith, less))
begun_partial lanes _ piece begun four less = absurd (omega arith)

-- the bytes of an arrival weren't all read, behind its head
pub stops_in_body : (lanes left size : ℕ) (end : End) (a b c : Option (List ℕ)) (head : List ℕ) → Took a b head → can_begin lanes head ≡ true → length head ≡ 4 → 4 ≤ left → size ≡ number16_at head 2 → Cuts size (left - 4) end b c
    → Stops lanes left end a c
stops_in_body lanes left size Done a b c head took begun four room is cuts = absurd cuts
stops_in_body lanes left size ReadFault a b c head took begun four room is cuts =
    let partial : record_front lanes (head ++ cuts.0) ≡ Partial = begun_partial lanes head cuts.0 begun four (omega (arith, is, cuts.2)) in
    (head ++ cuts.0, took_more a b c head cuts.0 took cuts.1, rw partial tt, omega (arith, length-append head cuts.0, four, cuts.3))
stops_in_body lanes left size Broken a b c head took begun four room is cuts =
    let partial : record_front lanes (head ++ cuts.0) ≡ Partial = begun_partial lanes head cuts.0 begun four (omega (arith, is, cuts.2)) in
    (head ++ cuts.0, took_more a b c head cuts.0 took cuts.1, rw partial tt, omega (arith, length-append head cuts.0, four, cuts.3), inr (omega (arith, length-append head cuts.0, four), cuts.4))
stops_in_body lanes left size TooLong a b c head took begun four room is cuts =
    let partial : record_front lanes (head ++ cuts.0) ≡ Partial = begun_partial lanes head cuts.0 begun four (omega (arith, is, cuts.3)) in
    (head ++ cuts.0, cuts.1, subst (λ (w : List ℕ). Took a c w) (sym (append_assoc head cuts.0 cuts.1)) (took_more a b c head (cuts.0 ++ cuts.1) took cuts.2), partial, omega (arith, length-append head cuts.0, four, cuts.4), cuts.5)

-- where a record's reading stops is what the reading answers
pub stops_read : (lanes left : ℕ) (result : Result Found End) (end : End) (before now : Option (List ℕ)) (body : List ℕ) → IsErrAnd result (λ e. e ≡ end) → Stops lanes left end before now → Reads lanes left result before now body
stops_read lanes left (Ok found) end before now body is stops = absurd is
stops_read lanes left (Err e) end before now body is stops = subst (λ (x : End). Stops lanes left x before now) (sym is) stops

-- Why no record was read, of a schedule whose bytes are told.
use Rattle.std.proofs.Common.{◌≡◌, ℕ, ◌+◌, ◌-◌, ◌≤◌, List, [], ◌++◌, length, take, Option, Some, None, Ok, refl, ap, ◌∙◌, subst, arith, inl, inr, append_assoc}
use Rattle.std.proofs.lemmas.List.{append-nil, take_all, take_at, length-append}
use Rattle.std.proofs.lemmas.List.Elements.{All-nil}
use Rattle.std.proofs.Math.Seq.{take-append-add}
use Rattle.pr_grammar.specs.Schedules.{Record, spelled_record, IsRecord, Faulty, record_front, IsUnfinished, AreRecords, IsWhole, IsBrokenAt, IsLong}
use Rattle.pr_grammar.proofs.Records.{nothing_unfinished, faulty_more, StandsFirst, whole_more, broken_more, long_more}
use Rattle.pr_tool.specs.Reading.{Stops, Reads, record_of}
use Rattle.pr_tool.specs.declared.schedule.Record.{Record as Found}
use Rattle.pr_tool.specs.declared.schedule.End.TheVariants.{Done, Broken, TooLong}

-- bytes at whose front no whole record stands are cut into none
cut_none : (lanes : ℕ) (bytes tail : List ℕ) → bytes ≡ tail → IsUnfinished (record_front lanes tail) → AreRecords lanes bytes [] tail
cut_none lanes bytes tail is unfinished = record { spelling = is; valid = All-nil (IsRecord lanes); unfinished = unfinished }

-- the schedule has ended where a record may begin
pub done_whole : (lanes left : ℕ) (all : List ℕ) (now : Option (List ℕ)) → Stops lanes left Done (Some all) now → IsWhole lanes left all
done_whole lanes left all None stops = absurd stops.0
done_whole lanes left all (Some rest) stops =
    let none : all ≡ [] = stops.0 ∙ stops.1 in
    (omega (arith, ap length none), ([], cut_none lanes all [] none (nothing_unfinished lanes)))

-- the schedule breaks its grammar, or ends inside a record
pub broken_broken : (lanes left : ℕ) (all : List ℕ) (now : Option (List ℕ)) → Stops lanes left Broken (Some all) now → IsBrokenAt lanes left all 0
broken_broken lanes left all None stops = absurd stops.1
broken_broken lanes left all (Some rest) stops =
    let tail : List ℕ = stops.0 in
    elim stops.4 [
      | inl fault ↦ (
          let more : List ℕ = take (left - length tail) rest in
          let parts : left ≡ length tail + (left - length tail) = omega (arith, stops.3) in
          let looked : take left all ≡ tail ++ more = ap (take left) stops.1 ∙ ap (λ (n : ℕ). take n (tail ++ rest)) parts ∙ take-append-add tail rest (left - length tail) in
          let front : record_front lanes (tail ++ more) ≡ Faulty = faulty_more lanes tail more fault in
          ([], tail ++ more, cut_none lanes (take left all) (tail ++ more) looked (rw front tt), refl, inl front)
          )
      | inr short ↦ (
          let is : all ≡ tail = stops.1 ∙ ap (λ (w : List ℕ). tail ++ w) short.1 ∙ append-nil tail in
          let size : length all ≤ left = omega (arith, ap length is, stops.3) in
          ([], tail, cut_none lanes (take left all) tail (take_all left all size ∙ is) stops.2, refl, inr (size, short.0))
          )
    ]

-- the schedule goes on behind the last byte that is looked at
pub too_long_long : (lanes left : ℕ) (all : List ℕ) (now : Option (List ℕ)) → Stops lanes left TooLong (Some all) now → IsLong lanes left all
too_long_long lanes left all None stops = absurd stops.2
too_long_long lanes left all (Some rest) stops =
    let tail : List ℕ = stops.0 in
    let is : all ≡ tail ++ (stops.1 ++ rest) = stops.2 ∙ append_assoc tail stops.1 rest in
    let looked : take left all ≡ tail = ap (take left) is ∙ take_at tail (stops.1 ++ rest) left stops.4 in
    (omega (arith, ap length is, length-append tail (stops.1 ++ rest), length-append stops.1 rest, stops.4, stops.5), ([], tail, cut_none lanes (take left all) tail looked (rw stops.3 tt), stops.3))

-- a record that was read stands first in what was left
pub read_first : (lanes left : ℕ) (found : Found) (before now body : List ℕ) → Reads lanes left (Ok found) (Some before) (Some now) body → StandsFirst lanes left (record_of found body) now before
read_first lanes left found before now body reads = record { spelling = reads.0; valid = reads.1; fits = reads.2 }

pub at_place : (lanes budget : ℕ) (all : List ℕ) (place other : ℕ) → place ≡ other → IsBrokenAt lanes budget all place → IsBrokenAt lanes budget all other
at_place lanes budget all place other is broken = subst (IsBrokenAt lanes budget all) is broken

-- as what is left of a schedule ends, so does all of it, behind what is gone of the budget
pub record Carries (lanes budget left : ℕ) (all rest : List ℕ) : Type 0 where
  pub within : left ≤ budget
  pub whole : IsWhole lanes left rest → IsWhole lanes budget all
  pub broken : (place : ℕ) → IsBrokenAt lanes left rest place → IsBrokenAt lanes budget all (budget - left + place)
  pub long : IsLong lanes left rest → IsLong lanes budget all

pub carries_all : (lanes budget : ℕ) (all : List ℕ) → Carries lanes budget budget all all
carries_all lanes budget all =
    record {
      within = omega arith;
      whole = λ w. w;
      broken = λ place b. at_place lanes budget all place (budget - budget + place) (omega arith) b;
      long = λ l. l;
    }

pub carries_more : (lanes budget left : ℕ) (r : Record) (all rest later : List ℕ) → StandsFirst lanes left r later rest → Carries lanes budget left all rest
    → Carries lanes budget (left - length (spelled_record r)) all later
carries_more lanes budget left r all rest later first carries =
    let size : ℕ = length (spelled_record r) in
    let fits : size ≤ left = first.fits in
    let within : left ≤ budget = carries.within in
    record {
      within = omega (arith, within);
      whole = λ w. carries.whole (whole_more lanes left r later rest first w);
      broken = λ place b. at_place lanes budget all (budget - left + (size + place)) (budget - (left - size) + place) (omega (arith, fits, within)) (carries.broken (size + place) (broken_more lanes left place r later rest first b));
      long = λ l. carries.long (long_more lanes left r later rest first l);
    }

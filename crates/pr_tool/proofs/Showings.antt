-- A stream that is shown, frame by frame.
use Rattle.std.proofs.Common.{◌≡◌, ℕ, ◌+◌, ◌-◌, ◌%◌, ◌≤◌, ◌<◌, ◌^◌, List, [], ◌∷◌, ◌++◌, length, take, Option, Some, None, refl, sym, ap, ◌∙◌, append_assoc, subst, arith, ◌⊎◌, inl, inr}
use Rattle.std.specs.List.{flat_map}
use Rattle.std.specs.Prelude.{codes, decimal}
use Rattle.std.proofs.lemmas.List.{append-nil, length-append, length-take-le, take_at, take_all}
use Rattle.std.proofs.lemmas.List.Concat.{flat_map-append, flat_map-cons}
use Rattle.std.proofs.Math.Nat.{mod-eq_of_lt}
use Rattle.std.proofs.Math.Seq.{take-append-add}
use Rattle.pr_words.specs.declared.nexus.Side.{Side}
use Rattle.pr_words.specs.declared.nexus.Side.TheVariants.{Target}
use Rattle.pr_words.specs.declared.limits.TheConstants.{HELD}
use Rattle.pr_io.specs.Streams.{Took, Put, PutSome, HasEnded}
use Rattle.pr_io.specs.Causes.{next_fault}
use Rattle.pr_io.proofs.Pieces.{put_more, took_more, put_nothing, took_nothing}
use Rattle.pr_io.proofs.Sent.{some_first, some_second}
use Rattle.pr_grammar.specs.Frames.{Frame, Front, Lacking, Broken, Whole, front, frame_size}
use Rattle.pr_grammar.specs.Shows.{AreFrames, HasBroken, size_of_all, line_of, last_line, text_of, line_feed}
use Rattle.pr_grammar.proofs.Framings.{frames_more, frames_one, frames_size, size_one, none_broken, broken_behind, just_broken, whole_tight, short_some, front_none}
use Rattle.pr_link.specs.Streams.{Stream, Gives, GivesIf, GivesAt, Feeds, FeedsIf, IsFormed, frame_of}
use Rattle.pr_link.specs.declared.frame.Got.{Got}
use Rattle.pr_link.specs.declared.frame.Got.TheVariants as got
use Rattle.pr_tool.specs.Reading.{IsAtEnd}
use Rattle.pr_tool.specs.Counting.{sink_faults, CountsSource, CountsSourceBy}
use Rattle.pr_tool.specs.Showing.{HasRead, Shows, EndsWithin, RunsOver, ShowCauses, ShowDecides, Going, ViewerEnds, EndsWith, Finds}
use Rattle.pr_tool.specs.declared.exit.Exit.{Exit}
use Rattle.pr_tool.specs.declared.exit.Exit.TheVariants as exits

pub going_first : (budget left count : ℕ) (r w : Option (List ℕ)) (s : Stream) (text : List ℕ) → s.held ≡ [] → s.place ≡ 0 → text ≡ [] → count ≡ 0 → left ≡ budget → budget < 2 ^ 64
    → Going budget r r w w s text count left
going_first budget left count r w s text held place none zero all bound =
    record {
      read = [];
      frames = [];
      sent = [];
      took = took_nothing r;
      parts = sym held;
      puts = put_nothing w;
      lines = sym none;
      counted = zero;
      placed = place;
      looked = omega (arith, all);
      bound = bound;
    }

-- bytes came, and some lack still
pub going_need : (budget left later count : ℕ) (ra rb rc wa wb : Option (List ℕ)) (s t : Stream) (text piece : List ℕ) → Going budget ra rb wa wb s text count left
    → Took rb rc piece → t.held ≡ s.held ++ piece → t.place ≡ s.place → left ≡ length piece + later → Going budget ra rc wa wb t text count later
going_need budget left later count ra rb rc wa wb s t text piece g took held place less =
    record {
      read = g.read ++ piece;
      frames = g.frames;
      sent = g.sent;
      took = took_more ra rb rc g.read piece g.took took;
      parts = subst (λ (w : List ℕ). AreFrames Target (g.read ++ piece) g.frames w) (sym held) (frames_more Target g.read piece g.frames s.held g.parts);
      puts = g.puts;
      lines = g.lines;
      counted = g.counted;
      placed = place ∙ g.placed;
      looked = omega (arith, g.looked, less, length-append g.read piece);
      bound = g.bound;
    }

small_mod : (x m : ℕ) → x < m → x % m ≡ x
small_mod x m less = mod-eq_of_lt less

one_line : (fs : List Frame) (f : Frame) → flat_map line_of (fs ++ f ∷ []) ≡ flat_map line_of fs ++ line_of f
one_line fs f = flat_map-append line_of fs (f ∷ []) ∙ ap (λ (w : List ℕ). flat_map line_of fs ++ w) (flat_map-cons line_of f [] ∙ append-nil (line_of f))

-- the lines of frames, of which the last ones wait, and one more
lines_more : (fs : List Frame) (f : Frame) (sent text : List ℕ) → flat_map line_of fs ≡ sent ++ text → flat_map line_of (fs ++ f ∷ []) ≡ sent ++ (text ++ line_of f)
lines_more fs f sent text is = one_line fs f ∙ ap (λ (w : List ℕ). w ++ line_of f) is ∙ append_assoc sent text (line_of f)

-- bytes came that made a frame whole
pub going_frame : (budget left later count : ℕ) (ra rb rc wa wb wc : Option (List ℕ)) (s t : Stream) (text waits piece sent rest : List ℕ) (f : Frame) → Going budget ra rb wa wb s text count left
    → Took rb rc piece → front Target (s.held ++ piece) ≡ Whole f rest → t.held ≡ rest → t.place ≡ (s.place + frame_size f) % 2 ^ 64 → left ≡ length piece + later
    → Put wb wc sent → text ++ line_of f ≡ sent ++ waits → Going budget ra rc wa wc t waits (count + 1) later
going_frame budget left later count ra rb rc wa wb wc s t text waits piece sent rest f g took whole held place less puts lines =
    let parts : AreFrames Target (g.read ++ piece) (g.frames ++ f ∷ []) rest = frames_one Target (g.read ++ piece) g.frames (s.held ++ piece) f rest (frames_more Target g.read piece g.frames s.held g.parts) whole in
    let looked : length (g.read ++ piece) + later ≡ budget = omega (arith, g.looked, less, length-append g.read piece) in
    let size : length (g.read ++ piece) ≡ size_of_all (g.frames ++ f ∷ []) + length rest = frames_size Target (g.read ++ piece) (g.frames ++ f ∷ []) rest parts in
    let one : size_of_all (g.frames ++ f ∷ []) ≡ size_of_all g.frames + frame_size f = size_one g.frames f in
    let low : size_of_all g.frames + frame_size f < 2 ^ 64 = omega (arith, g.bound, looked, size, one) in
    record {
      read = g.read ++ piece;
      frames = g.frames ++ f ∷ [];
      sent = g.sent ++ sent;
      took = took_more ra rb rc g.read piece g.took took;
      parts = subst (λ (w : List ℕ). AreFrames Target (g.read ++ piece) (g.frames ++ f ∷ []) w) (sym held) parts;
      puts = put_more wa wb wc g.sent sent g.puts puts;
      lines = lines_more g.frames f g.sent text g.lines ∙ ap (λ (w : List ℕ). g.sent ++ w) lines ∙ sym (append_assoc g.sent sent waits);
      counted = omega (arith, g.counted, length-append g.frames (f ∷ []));
      placed = place ∙ ap (λ (n : ℕ). (n + frame_size f) % 2 ^ 64) g.placed ∙ small_mod (size_of_all g.frames + frame_size f) (2 ^ 64) low ∙ sym one;
      looked = looked;
      bound = g.bound;
    }

-- what was read so far, where bytes lack
abbrev pub read_short : (budget left count k : ℕ) (ra rb wa wb : Option (List ℕ)) (s : Stream) (text : List ℕ) → Going budget ra rb wa wb s text count left → front Target s.held ≡ Lacking k → HasRead ra rb
read_short budget left count k ra rb wa wb s text g short =
    record {
      read = g.read;
      frames = g.frames;
      tail = s.held;
      took = g.took;
      framed = record { parts = g.parts; unfinished = rw short tt };
      tight = λ bad. absurd (none_broken Target g.read g.frames s.held k g.parts short bad);
    }

-- a text was put behind what was sent, or a front of it was
text_put : (wa wb wc : Option (List ℕ)) (sent text last all : List ℕ) → Put wa wb sent → Put wb wc (text ++ last) → all ≡ sent ++ text → Put wa wc (all ++ last)
text_put wa wb wc sent text last all one two is =
    let whole : sent ++ (text ++ last) ≡ all ++ last = sym (append_assoc sent text last) ∙ ap (λ (w : List ℕ). w ++ last) (sym is) in
    subst (λ (w : List ℕ). Put wa wc w) whole (put_more wa wb wc sent (text ++ last) one two)

text_some : (wa wb wc : Option (List ℕ)) (sent text last all : List ℕ) → Put wa wb sent → PutSome wb wc (text ++ last) → all ≡ sent ++ text → PutSome wa wc (all ++ last)
text_some wa wb wc sent text last all one two is =
    let whole : sent ++ (text ++ last) ≡ all ++ last = sym (append_assoc sent text last) ∙ ap (λ (w : List ℕ). w ++ last) (sym is) in
    subst (λ (w : List ℕ). PutSome wa wc w) whole (some_second wa wb wc sent (text ++ last) one two)

-- the last line was written, or the sink failed
done_ends : (budget fa fb : ℕ) (ra rc wa wb wc : Option (List ℕ)) (result : Exit) (r : HasRead ra rc) (sent text last : List ℕ) → EndsWith exits.Done result wb wc (text ++ last) fa fb
    → Put wa wb sent → flat_map line_of r.frames ≡ sent ++ text → last ≡ last_line r.frames r.tail (front Target r.tail) → IsAtEnd rc ⊎ HasBroken Target r.read → ShowCauses exits.Done budget ra
    → ViewerEnds budget ra rc wa wc result
done_ends budget fa fb ra rc wa wb wc result r sent text last ends puts lines is why cause =
    elim ends [
      | inl done ↦
          subst (λ (e : Exit). ViewerEnds budget ra rc wa wc e) (sym done.0)
          ((r, subst (λ (w : List ℕ). Put wa wc (flat_map line_of r.frames ++ w)) is (text_put wa wb wc sent text last (flat_map line_of r.frames) puts done.1 lines), why), cause, tt)
      | inr failed ↦
          subst (λ (e : Exit). ViewerEnds budget ra rc wa wc e) (sym failed.0)
          ((r, subst (λ (w : List ℕ). PutSome wa wc (flat_map line_of r.frames ++ w)) is (text_some wa wb wc sent text last (flat_map line_of r.frames) puts failed.1 lines)), tt, tt)
    ]

took_none : (a b : Option (List ℕ)) → Took a b [] → b ≡ a
took_none None b took = took
took_none (Some xs) None took = absurd took
took_none (Some xs) (Some ys) took = ap Some (sym took)

end_cause : (budget left : ℕ) (ra rb : Option (List ℕ)) (read : List ℕ) → Took ra rb read → length read + left ≡ budget → IsAtEnd rb → ShowCauses exits.Done budget ra
end_cause budget left None rb read took looked ended = tt
end_cause budget left (Some all) None read took looked ended = absurd took
end_cause budget left (Some all) (Some rest) read took looked ended =
    let is : all ≡ read = took ∙ ap (λ (w : List ℕ). read ++ w) ended ∙ append-nil read in
    inl (omega (arith, ap length is, looked))

-- the stream ends where bytes lack
pub end_stands : (budget left count k fa fb : ℕ) (ra rb rc wa wb wc : Option (List ℕ)) (s : Stream) (text : List ℕ) (result : Exit) → (g : Going budget ra rb wa wb s text count left)
    → front Target s.held ≡ Lacking k → Took rb rc [] → IsAtEnd rc → EndsWith exits.Done result wb wc (text ++ last_line g.frames s.held (Lacking k)) fa fb → ViewerEnds budget ra rc wa wc result
end_stands budget left count k fa fb ra rb rc wa wb wc s text result g short took ended ends =
    let same : rc ≡ rb = took_none rb rc took in
    let here : HasRead ra rb = read_short budget left count k ra rb wa wb s text g short in
    let at_end : IsAtEnd rb = subst IsAtEnd same ended in
    subst (λ (x : Option (List ℕ)). ViewerEnds budget ra x wa wc result) (sym same)
    (done_ends budget fa fb ra rb wa wb wc result here g.sent text (last_line g.frames s.held (Lacking k)) ends g.puts g.lines (ap (last_line g.frames s.held) (sym short)) (inl at_end) (end_cause budget left ra rb g.read g.took g.looked at_end))

broken_cause : (budget : ℕ) (ra rb : Option (List ℕ)) (read : List ℕ) → Took ra rb read → length read ≤ budget → HasBroken Target read → ShowCauses exits.Done budget ra
broken_cause budget None rb read took looked bad = tt
broken_cause budget (Some all) None read took looked bad = absurd took
broken_cause budget (Some all) (Some rest) read took looked bad =
    let more : List ℕ = take (budget - length read) rest in
    let sum_is : budget ≡ length read + (budget - length read) = omega arith in
    let is : take budget all ≡ read ++ more = ap (take budget) took ∙ ap (λ (n : ℕ). take n (read ++ rest)) sum_is ∙ take-append-add read rest (budget - length read) in
    inr (subst (HasBroken Target) (sym is) (broken_behind Target read more bad))

-- a frame breaks a rule
pub bad_stands : (budget left count k r fa fb : ℕ) (ra rb rc wa wb wc : Option (List ℕ)) (s : Stream) (text piece : List ℕ) (result : Exit) → (g : Going budget ra rb wa wb s text count left)
    → front Target s.held ≡ Lacking k → Took rb rc piece → 0 < length piece → length piece ≤ k → length piece ≤ left → front Target (s.held ++ piece) ≡ Broken r
    → EndsWith exits.Done result wb wc (text ++ last_line g.frames (s.held ++ piece) (Broken r)) fa fb → ViewerEnds budget ra rc wa wc result
bad_stands budget left count k r fa fb ra rb rc wa wb wc s text piece result g short took some few looked broken ends =
    let read : List ℕ = g.read ++ piece in
    let tail : List ℕ = s.held ++ piece in
    let parts : AreFrames Target read g.frames tail = frames_more Target g.read piece g.frames s.held g.parts in
    let bad : HasBroken Target read = (g.frames, tail, r, parts, broken) in
    let all : Took ra rc read = took_more ra rb rc g.read piece g.took took in
    let here : HasRead ra rc =
    record {
      read = read;
      frames = g.frames;
      tail = tail;
      took = all;
      framed = record { parts = parts; unfinished = rw broken tt };
      tight = just_broken Target g.read piece g.frames s.held k g.parts short few some;
    } in
    done_ends budget fa fb ra rc wa wb wc result here g.sent text (last_line g.frames tail (Broken r)) ends g.puts g.lines (ap (last_line g.frames tail) (sym broken)) (inr bad)
    (broken_cause budget ra rc read all (omega (arith, g.looked, looked, length-append g.read piece)) bad)

fault_here : (budget left count k fa fb : ℕ) (ra rb wa wb wc : Option (List ℕ)) (s : Stream) (text : List ℕ) (result : Exit) → Going budget ra rb wa wb s text count left
    → front Target s.held ≡ Lacking k → EndsWith exits.ReadFault result wb wc text fa fb → ViewerEnds budget ra rb wa wc result
fault_here budget left count k fa fb ra rb wa wb wc s text result g short ends =
    let here : HasRead ra rb = read_short budget left count k ra rb wa wb s text g short in
    elim ends [
      | inl done ↦ subst (λ (e : Exit). ViewerEnds budget ra rb wa wc e) (sym done.0) ((here, subst (λ (w : List ℕ). Put wa wc w) (sym g.lines) (put_more wa wb wc g.sent text g.puts done.1), (k, short)), tt, tt)
      | inr failed ↦ (
          let front_of : PutSome wa wc (flat_map line_of g.frames) = subst (λ (w : List ℕ). PutSome wa wc w) (sym g.lines) (some_second wa wb wc g.sent text g.puts failed.1) in
          subst (λ (e : Exit). ViewerEnds budget ra rb wa wc e) (sym failed.0) ((here, some_first wa wc (flat_map line_of g.frames) (last_line g.frames s.held (front Target s.held)) front_of), tt, tt)
          )
    ]

-- the source failed where bytes lack
pub fault_stands : (budget left count k fa fb : ℕ) (ra rb rc wa wb wc : Option (List ℕ)) (s : Stream) (text : List ℕ) (result : Exit) → Going budget ra rb wa wb s text count left
    → front Target s.held ≡ Lacking k → rc ≡ rb → EndsWith exits.ReadFault result wb wc text fa fb → ViewerEnds budget ra rc wa wc result
fault_stands budget left count k fa fb ra rb rc wa wb wc s text result g short same ends =
    subst (λ (x : Option (List ℕ)). ViewerEnds budget ra x wa wc result) (sym same) (fault_here budget left count k fa fb ra rb wa wb wc s text result g short ends)

long_cause : (budget k : ℕ) (ra rb rc : Option (List ℕ)) (read more held : List ℕ) (fs : List Frame) → Took ra rb read → Took rb rc more → length read ≡ budget → length more ≡ 1
    → AreFrames Target read fs held → front Target held ≡ Lacking k → ShowCauses exits.TooLong budget ra
long_cause budget k None rb rc read more held fs took behind looked one parts short = tt
long_cause budget k (Some all) None rc read more held fs took behind looked one parts short = absurd took
long_cause budget k (Some all) (Some rest) None read more held fs took behind looked one parts short = absurd behind
long_cause budget k (Some all) (Some rest) (Some later) read more held fs took behind looked one parts short =
    let is : take budget all ≡ read = ap (take budget) took ∙ take_at read rest budget looked in
    (omega (arith, ap length took, length-append read rest, ap length behind, length-append more later, one, looked), λ bad. none_broken Target read fs held k parts short (subst (HasBroken Target) is bad))

-- what was read with some of the bytes that lacked, whatever they show, and what is shown of it behind a text
record ReadOn (ra rc : Option (List ℕ)) (text : List ℕ) : Type 0 where
  here : HasRead ra rc
  later : List ℕ
  is : text_of here.frames here.tail ≡ text ++ later

read_on : (x : Front) (budget left count k : ℕ) (ra rb rc wa wb : Option (List ℕ)) (s : Stream) (text piece : List ℕ) → (g : Going budget ra rb wa wb s text count left) → front Target s.held ≡ Lacking k
    → Took rb rc piece → 0 < length piece → length piece ≤ k → front Target (s.held ++ piece) ≡ x → ReadOn ra rc (flat_map line_of g.frames)
read_on (Lacking j) budget left count k ra rb rc wa wb s text piece g short took some few is =
    let parts : AreFrames Target (g.read ++ piece) g.frames (s.held ++ piece) = frames_more Target g.read piece g.frames s.held g.parts in
    record {
      here =
          record {
            read = g.read ++ piece;
            frames = g.frames;
            tail = s.held ++ piece;
            took = took_more ra rb rc g.read piece g.took took;
            framed = record { parts = parts; unfinished = rw is tt };
            tight = λ bad. absurd (none_broken Target (g.read ++ piece) g.frames (s.held ++ piece) j parts is bad);
          };
      later = last_line g.frames (s.held ++ piece) (front Target (s.held ++ piece));
      is = refl;
    }
read_on (Broken r) budget left count k ra rb rc wa wb s text piece g short took some few is =
    let parts : AreFrames Target (g.read ++ piece) g.frames (s.held ++ piece) = frames_more Target g.read piece g.frames s.held g.parts in
    record {
      here =
          record {
            read = g.read ++ piece;
            frames = g.frames;
            tail = s.held ++ piece;
            took = took_more ra rb rc g.read piece g.took took;
            framed = record { parts = parts; unfinished = rw is tt };
            tight = just_broken Target g.read piece g.frames s.held k g.parts short few some;
          };
      later = last_line g.frames (s.held ++ piece) (front Target (s.held ++ piece));
      is = refl;
    }
read_on (Whole f rest) budget left count k ra rb rc wa wb s text piece g short took some few is =
    let parts : AreFrames Target (g.read ++ piece) (g.frames ++ f ∷ []) rest = frames_one Target (g.read ++ piece) g.frames (s.held ++ piece) f rest (frames_more Target g.read piece g.frames s.held g.parts) is in
    let none : rest ≡ [] = whole_tight Target s.held piece k f rest short few is in
    let empty : front Target rest ≡ Lacking 4 = ap (front Target) none ∙ front_none Target in
    let last : List ℕ = last_line (g.frames ++ f ∷ []) rest (front Target rest) in
    record {
      here =
          record {
            read = g.read ++ piece;
            frames = g.frames ++ f ∷ [];
            tail = rest;
            took = took_more ra rb rc g.read piece g.took took;
            framed = record { parts = parts; unfinished = rw empty tt };
            tight = λ bad. absurd (none_broken Target (g.read ++ piece) (g.frames ++ f ∷ []) rest 4 parts empty bad);
          };
      later = line_of f ++ last;
      is = ap (λ (w : List ℕ). w ++ last) (one_line g.frames f) ∙ append_assoc (flat_map line_of g.frames) (line_of f) last;
    }

some_of : (a b : Option (List ℕ)) (xs later all : List ℕ) → PutSome a b xs → all ≡ xs ++ later → PutSome a b all
some_of a b xs later all some is = subst (λ (w : List ℕ). PutSome a b w) (sym is) (some_first a b xs later some)

-- the lines that waited weren't all written
lines_some : (wa wb wc : Option (List ℕ)) (sent text lines : List ℕ) → Put wa wb sent → PutSome wb wc text → lines ≡ sent ++ text → PutSome wa wc lines
lines_some wa wb wc sent text lines puts some is = subst (λ (w : List ℕ). PutSome wa wc w) (sym is) (some_second wa wb wc sent text puts some)

-- more comes where no more is looked at
pub long_stands : (budget left count k fa fb : ℕ) (ra rb rc wa wb wc : Option (List ℕ)) (s : Stream) (text more : List ℕ) (result : Exit) → Going budget ra rb wa wb s text count left
    → front Target s.held ≡ Lacking k → left ≡ 0 → Took rb rc more → length more ≡ 1 → EndsWith exits.TooLong result wb wc text fa fb → ViewerEnds budget ra rc wa wc result
long_stands budget left count k fa fb ra rb rc wa wb wc s text more result g short none behind one ends =
    let here : HasRead ra rb = read_short budget left count k ra rb wa wb s text g short in
    let some : 0 < k = short_some Target s.held k short in
    let on : ReadOn ra rc (flat_map line_of g.frames) = read_on (front Target (s.held ++ more)) budget left count k ra rb rc wa wb s text more g short behind (omega (arith, one)) (omega (arith, one, some)) refl in
    elim ends [
      | inl done ↦
          subst (λ (e : Exit). ViewerEnds budget ra rc wa wc e) (sym done.0)
          ((rb, more, here, subst (λ (w : List ℕ). Put wa wc w) (sym g.lines) (put_more wa wb wc g.sent text g.puts done.1), (k, short), behind, one), long_cause budget k ra rb rc g.read more s.held g.frames g.took behind (omega (arith, g.looked, none)) one g.parts short, tt)
      | inr failed ↦
          subst (λ (e : Exit). ViewerEnds budget ra rc wa wc e) (sym failed.0)
          ((on.here, some_of wa wc (flat_map line_of g.frames) on.later (text_of on.here.frames on.here.tail) (lines_some wa wb wc g.sent text (flat_map line_of g.frames) g.puts failed.1 g.lines) on.is), tt, tt)
    ]

-- the lines up to a frame's weren't all written
pub frame_fault : (budget left count k : ℕ) (ra rb rc wa wb wc : Option (List ℕ)) (s : Stream) (text piece rest : List ℕ) (f : Frame) → Going budget ra rb wa wb s text count left → front Target s.held ≡ Lacking k
    → Took rb rc piece → length piece ≤ k → front Target (s.held ++ piece) ≡ Whole f rest → PutSome wb wc (text ++ line_of f) → ViewerEnds budget ra rc wa wc exits.WriteFault
frame_fault budget left count k ra rb rc wa wb wc s text piece rest f g short took few whole some =
    let parts : AreFrames Target (g.read ++ piece) (g.frames ++ f ∷ []) rest = frames_one Target (g.read ++ piece) g.frames (s.held ++ piece) f rest (frames_more Target g.read piece g.frames s.held g.parts) whole in
    let none : rest ≡ [] = whole_tight Target s.held piece k f rest short few whole in
    let empty : front Target rest ≡ Lacking 4 = ap (front Target) none ∙ front_none Target in
    let here : HasRead ra rc =
    record {
      read = g.read ++ piece;
      frames = g.frames ++ f ∷ [];
      tail = rest;
      took = took_more ra rb rc g.read piece g.took took;
      framed = record { parts = parts; unfinished = rw empty tt };
      tight = λ bad. absurd (none_broken Target (g.read ++ piece) (g.frames ++ f ∷ []) rest 4 parts empty bad);
    } in
    let lines : PutSome wa wc (flat_map line_of (g.frames ++ f ∷ [])) = lines_some wa wb wc g.sent (text ++ line_of f) (flat_map line_of (g.frames ++ f ∷ [])) g.puts some (lines_more g.frames f g.sent text g.lines) in
    ((here, some_first wa wc (flat_map line_of (g.frames ++ f ∷ [])) (last_line (g.frames ++ f ∷ []) rest (front Target rest)) lines), tt, tt)

-- behind a whole frame made of no more bytes than lacked, four bytes lack
pub four_lack : (held piece rest : List ℕ) (k : ℕ) (f : Frame) → front Target held ≡ Lacking k → length piece ≤ k → front Target (held ++ piece) ≡ Whole f rest → front Target rest ≡ Lacking 4
four_lack held piece rest k f short few whole = ap (front Target) (whole_tight Target held piece k f rest short few whole) ∙ front_none Target

-- what a deframer of the target's side answers once a piece has come
finds_at : (x : Front) (old mid new : Stream) (piece buf : List ℕ) (answer : Got) → old.side ≡ Target → mid ≡ record old { held = old.held ++ piece } → front Target (old.held ++ piece) ≡ x → GivesAt mid x answer new buf → Finds old piece answer new buf
finds_at (Lacking k) old mid new piece buf (got.Need n) side is at gives = (at ∙ ap Lacking (sym gives.0), gives.1 ∙ is)
finds_at (Lacking k) old mid new piece buf (got.Bad place r) side is at gives = absurd gives
finds_at (Lacking k) old mid new piece buf (got.Frame g) side is at gives = absurd gives
finds_at (Broken r) old mid new piece buf (got.Need n) side is at gives = absurd gives
finds_at (Broken r) old mid new piece buf (got.Bad place reason) side is at gives = (at ∙ ap Broken (sym gives.1), gives.0 ∙ ap (λ (s : Stream). s.place) is)
finds_at (Broken r) old mid new piece buf (got.Frame g) side is at gives = absurd gives
finds_at (Whole f rest) old mid new piece buf (got.Need n) side is at gives = absurd gives
finds_at (Whole f rest) old mid new piece buf (got.Bad place r) side is at gives = absurd gives
finds_at (Whole f rest) old mid new piece buf (got.Frame g) side is at gives =
    let f_is : f ≡ frame_of g (take g.body buf) = gives.0 in
    let whole : front Target (old.held ++ piece) ≡ Whole (frame_of g (take g.body buf)) rest = at ∙ ap (λ (h : Frame). Whole h rest) f_is in
    let same : mid.side ≡ Target = ap (λ (s : Stream). s.side) is ∙ side in
    let next : new ≡ record old { place = (old.place + frame_size (frame_of g (take g.body buf))) % 2 ^ 64; held = rest } =
    gives.1 ∙ ap (λ (s : Stream). record s { place = (s.place + frame_size f) % 2 ^ 64; held = rest }) is ∙ ap (λ (h : Frame). record old { place = (old.place + frame_size h) % 2 ^ 64; held = rest }) f_is in
    (rest, whole, next, subst (λ (x : Side). IsFormed x g buf) same gives.2)

pub finds : (old mid new : Stream) (piece buf : List ℕ) (answer : Got) → old.side ≡ Target → old.broken ≡ None → mid ≡ record old { held = old.held ++ piece } → Gives mid answer new buf → Finds old piece answer new buf
finds old mid new piece buf answer side unbroken is gives =
    let same : front mid.side mid.held ≡ front Target (old.held ++ piece) = ap (λ (s : Stream). front s.side s.held) is ∙ ap (λ (x : Side). front x (old.held ++ piece)) side in
    let whole : mid.broken ≡ None = ap (λ (s : Stream). s.broken) is ∙ unbroken in
    let at : GivesAt mid (front mid.side mid.held) answer new buf = subst (λ (b : Option ℕ). GivesIf b mid answer new buf) whole gives in
    finds_at (front Target (old.held ++ piece)) old mid new piece buf answer side is refl (subst (λ (x : Front). GivesAt mid x answer new buf) same at)

-- bytes for which there is room are all held
pub fed_all : (s t : Stream) (piece : List ℕ) (count : ℕ) → Feeds s piece count t → s.broken ≡ None → length s.held + length piece ≤ HELD → t ≡ record s { held = s.held ++ piece }
fed_all s t piece count feeds unbroken room =
    let fed : FeedsIf None s piece count t = subst (λ (b : Option ℕ). FeedsIf b s piece count t) unbroken feeds in
    let all : take count piece ≡ piece = take_all count piece (omega (arith, fed.0, room)) in
    fed.1 ∙ ap (λ (w : List ℕ). record s { held = s.held ++ w }) all

-- the causes exclude each other
not_both : (budget : ℕ) (all : List ℕ) → EndsWithin budget all → RunsOver budget all → ⊥
not_both budget all short long = elim short [ inl few ↦ absurd (omega (arith, few, long.0)) | inr bad ↦ long.1 bad ]

pub shows_decide : (e : Exit) (budget : ℕ) (ra rb wa wb : Option (List ℕ)) → Shows e ra rb wa wb → ShowCauses e budget ra → ShowDecides e budget ra
shows_decide e budget None rb wa wb shows cause = tt
shows_decide exits.Done budget (Some all) rb wa wb shows cause = (λ s. inr refl, λ l. absurd (not_both budget all cause l))
shows_decide exits.BadWords budget (Some all) rb wa wb shows cause = absurd shows
shows_decide exits.ReadFault budget (Some all) rb wa wb shows cause = (λ s. inl tt, λ l. inl tt)
shows_decide exits.WriteFault budget (Some all) rb wa wb shows cause = (λ s. inl tt, λ l. inl tt)
shows_decide (exits.BadSchedule place) budget (Some all) rb wa wb shows cause = absurd shows
shows_decide (exits.BadFile place) budget (Some all) rb wa wb shows cause = absurd shows
shows_decide exits.DiskFault budget (Some all) rb wa wb shows cause = absurd shows
shows_decide exits.NoMemory budget (Some all) rb wa wb shows cause = (λ s. inl tt, λ l. inl tt)
shows_decide exits.TooLong budget (Some all) rb wa wb shows cause = (λ s. absurd (not_both budget all s cause), λ l. inr refl)

-- the last line of a stream that lacks bytes

pub last_end : (fs : List Frame) (held text : List ℕ) (lacks count : ℕ) → length held ≡ 0 → count ≡ length fs → text ++ (codes "end frames=" ++ decimal count ++ line_feed) ≡ text ++ last_line fs held (Lacking lacks)
last_end fs [] text lacks count none counted = ap (λ (n : ℕ). text ++ (codes "end frames=" ++ decimal n ++ line_feed)) counted
last_end fs (x ∷ xs) text lacks count none counted = absurd (omega (arith, none))

pub last_cut : (fs : List Frame) (held text : List ℕ) (lacks place : ℕ) → (length held ≡ 0 → ⊥) → place ≡ size_of_all fs → text ++ (codes "cut place=" ++ decimal place ++ line_feed) ≡ text ++ last_line fs held (Lacking lacks)
last_cut fs [] text lacks place some placed = absurd (some refl)
last_cut fs (x ∷ xs) text lacks place some placed = ap (λ (n : ℕ). text ++ (codes "cut place=" ++ decimal n ++ line_feed)) placed

pub last_bad : (fs : List Frame) (tail text : List ℕ) (place r : ℕ) → place ≡ size_of_all fs → text ++ (codes "bad place=" ++ decimal place ++ codes " reason=" ++ decimal r ++ line_feed) ≡ text ++ last_line fs tail (Broken r)
last_bad fs tail text place r placed = ap (λ (n : ℕ). text ++ (codes "bad place=" ++ decimal n ++ codes " reason=" ++ decimal r ++ line_feed)) placed

-- how a run ends

pub ends_text : (e result : Exit) (wa wb : Option (List ℕ)) (xs ys : List ℕ) (fa fb : ℕ) → EndsWith e result wa wb xs fa fb → xs ≡ ys → EndsWith e result wa wb ys fa fb
ends_text e result wa wb xs ys fa fb ends is = subst (λ (w : List ℕ). EndsWith e result wa wb w fa fb) is ends

pub ends_unread : (e result : Exit) (wa wb : Option (List ℕ)) (xs : List ℕ) (fa fb : ℕ) → EndsWith e result wa wb xs fa fb → (e ≡ exits.ReadFault → ⊥) → result ≡ exits.ReadFault → ⊥
ends_unread e result wa wb xs fa fb ends other is =
    elim ends [ inl done ↦ other (sym done.0 ∙ is) | inr failed ↦ (let no : exits.WriteFault ≡ exits.ReadFault = sym failed.0 ∙ is in cc) ]

unfailed : (e : Exit) (n : ℕ) → (e ≡ exits.WriteFault → ⊥) → sink_faults e n ≡ n
unfailed exits.Done n other = refl
unfailed exits.BadWords n other = refl
unfailed exits.ReadFault n other = refl
unfailed exits.WriteFault n other = absurd (other refl)
unfailed (exits.BadSchedule place) n other = refl
unfailed (exits.BadFile place) n other = refl
unfailed exits.NoMemory n other = refl
unfailed exits.DiskFault n other = refl
unfailed exits.TooLong n other = refl

-- how often the streams have failed by then

pub ends_counted : (e result : Exit) (wa wb : Option (List ℕ)) (xs : List ℕ) (fa fb : ℕ) → EndsWith e result wa wb xs fa fb → (e ≡ exits.WriteFault → ⊥) → fb ≡ sink_faults result fa
ends_counted e result wa wb xs fa fb ends other =
    elim ends [
      | inl done ↦ done.2 ∙ sym (ap (λ (x : Exit). sink_faults x fa) done.0 ∙ unfailed e fa other)
      | inr failed ↦ failed.2 ∙ sym (ap (λ (x : Exit). sink_faults x fa) failed.0)
    ]

pub fault_counted : (result : Exit) (wa wb : Option (List ℕ)) (xs : List ℕ) (fa fb before now : ℕ) → EndsWith exits.ReadFault result wa wb xs fa fb → now ≡ next_fault before → CountsSource result before now
fault_counted result wa wb xs fa fb before now ends is =
    elim ends [
      | inl done ↦ subst (λ (x : Exit). CountsSource x before now) (sym done.0) is
      | inr failed ↦ subst (λ (x : Exit). CountsSource x before now) (sym failed.0) (inr is)
    ]

pub calm_counted : (e : Exit) (before now : ℕ) → (e ≡ exits.ReadFault → ⊥) → now ≡ before → CountsSource e before now
calm_counted exits.Done before now other is = is
calm_counted exits.BadWords before now other is = is
calm_counted exits.ReadFault before now other is = absurd (other refl)
calm_counted exits.WriteFault before now other is = inl is
calm_counted (exits.BadSchedule place) before now other is = is
calm_counted (exits.BadFile place) before now other is = is
calm_counted exits.NoMemory before now other is = is
calm_counted exits.DiskFault before now other is = is
calm_counted exits.TooLong before now other is = is

pub calm_counted_by : (o : Option Exit) (before now : ℕ) → (o ≡ Some exits.ReadFault → ⊥) → now ≡ before → CountsSourceBy o before now
calm_counted_by None before now other is = is
calm_counted_by (Some e) before now other is = calm_counted e before now (λ r. other (ap Some r)) is

pub not_read : exits.Done ≡ exits.ReadFault → ⊥
not_read is = cc

pub not_write : exits.Done ≡ exits.WriteFault → ⊥
not_write is = cc

pub long_not_read : exits.TooLong ≡ exits.ReadFault → ⊥
long_not_read is = cc

pub long_not_write : exits.TooLong ≡ exits.WriteFault → ⊥
long_not_write is = cc

pub read_not_write : exits.ReadFault ≡ exits.WriteFault → ⊥
read_not_write is = cc

pub same_exit : (a b : Exit) → Some a ≡ Some b → a ≡ b
same_exit a b is = cc

pub ended_here : (r : Option (List ℕ)) (n room : ℕ) → HasEnded r n room → 0 < room → n ≡ 0 → IsAtEnd r
ended_here None n room ended some none = tt
ended_here (Some rest) n room ended some none = ended some none

pub took_zero : (a b : Option (List ℕ)) (buf : List ℕ) (n : ℕ) → Took a b (take n buf) → n ≡ 0 → Took a b []
took_zero a b buf n took none = subst (λ (k : ℕ). Took a b (take k buf)) none took

pub piece_size : (work : List ℕ) (n : ℕ) → n ≤ length work → length (take n work) ≡ n
piece_size work n le = length-take-le n work le

-- The frames that a stream gives don't depend on how its bytes are cut.
use Rattle.std.proofs.Common.{◌≡◌, ℕ, ◌+◌, ◌%◌, ◌^◌, List, [], ◌∷◌, ◌++◌, take, refl, sym, ap, ◌∙◌, subst, append_assoc, append-nil}
use Rattle.std.specs.Prelude.{Option, Some, None}
use Rattle.pr_words.specs.declared.nexus.Side.{Side}
use Rattle.pr_grammar.specs.Frames as grammar
use Rattle.pr_grammar.specs.Frames.{Front, Lacking, Broken, Whole, front, frame_size}
use Rattle.pr_grammar.specs.Shows.{AreFrames, IsNoFrame}
use Rattle.pr_grammar.proofs.Framings.{whole_more, broken_more}
use Rattle.pr_link.specs.declared.frame.Got.{Got}
use Rattle.pr_link.specs.declared.frame.Got.TheVariants as got
use Rattle.pr_link.specs.Streams.{Stream, FeedsIf, GivesIf, GivesAt, GivesAgain, frame_of}
use Rattle.pr_link.specs.Calls.{Call, Feed, Next, Runs, fed, given, behind, StandAt, Leaves, FramesAreAtTheFront, CutsAreAlike}

-- after a broken rule nothing is given, and the stream stays
record Stays (old : Stream) (calls : List Call) (new : Stream) : Type 0 where
  pub none : given calls ≡ []
  pub same : new ≡ old

-- what is known of the calls behind one of a stream whose rule was broken
abbrev Broken_stays : ℕ → List Call → Stream → Type 0
Broken_stays r calls new = (s : Stream) → s.broken ≡ Some r → Runs s calls new → Stays s calls new

again : (r : ℕ) (answer : Got) (buf : List ℕ) (calls : List Call) (old mid new : Stream) → Broken_stays r calls new → old.broken ≡ Some r → GivesAgain old r answer mid → Runs mid calls new → Stays old (Next answer buf ∷ calls) new
again r (got.Bad place reason) buf calls old mid new later broken gives runs =
    let more : Stays mid calls new = later mid (ap (λ (s : Stream). s.broken) gives.2 ∙ broken) runs in
    record { none = more.none; same = more.same ∙ gives.2 }
again r (got.Need n) buf calls old mid new later broken gives runs = absurd gives
again r (got.Frame g) buf calls old mid new later broken gives runs = absurd gives

stays : (r : ℕ) (calls : List Call) (old new : Stream) → old.broken ≡ Some r → Runs old calls new → Stays old calls new
stays r [] old new broken runs = record { none = refl; same = runs }
stays r (Feed bytes count ∷ calls) old new broken runs =
    let feeds : FeedsIf (Some r) old bytes count runs.0 = subst (λ (b : Option ℕ). FeedsIf b old bytes count runs.0) broken runs.1 in
    let more : Stays runs.0 calls new = stays r calls runs.0 new (ap (λ (s : Stream). s.broken) feeds.1 ∙ broken) runs.2 in
    record { none = more.none; same = more.same ∙ feeds.1 }
stays r (Next answer buf ∷ calls) old new broken runs =
    again r answer buf calls old runs.0 new (λ s b rs. stays r calls s new b rs) broken (subst (λ (b : Option ℕ). GivesIf b old answer runs.0 buf) broken runs.1) runs.2

-- a frame before those that stand at the front of what is behind it
one_more : (b : Option ℕ) (side : Side) (bytes rest : List ℕ) (f : grammar.Frame) (frames : List grammar.Frame) (held : List ℕ) → front side bytes ≡ Whole f rest → StandAt b side rest frames held
    → StandAt b side bytes (f ∷ frames) held
one_more None side bytes rest f frames held whole stand = (rest, whole, stand)
one_more (Some r) side bytes rest f frames held whole stand = (stand.0, (rest, whole, stand.1), stand.2, stand.3)

-- what is known of the calls behind one of a stream in which no rule was broken
abbrev Whole_leaves : List Call → Stream → Type 0
Whole_leaves calls new = (s : Stream) → s.broken ≡ None → Runs s calls new → Leaves s calls new

next_leaves : (at : Front) (answer : Got) (buf : List ℕ) (calls : List Call) (old mid new : Stream) → Whole_leaves calls new → old.broken ≡ None → front old.side old.held ≡ at
    → GivesAt old at answer mid buf → Runs mid calls new → Leaves old (Next answer buf ∷ calls) new
next_leaves (Lacking k) (got.Need n) buf calls old mid new later none is gives runs =
    let more : Leaves old calls new = later old none (subst (λ (s : Stream). Runs s calls new) gives.1 runs) in
    record { side = more.side; place = more.place; frames = more.frames }
next_leaves (Broken r) (got.Bad place reason) buf calls old mid new later none is gives runs =
    let now : Stream = record old { held = []; broken = Some r } in
    let over : Stays now calls new = stays r calls now new refl (subst (λ (s : Stream). Runs s calls new) gives.2 runs) in
    let tail : List ℕ = old.held ++ fed calls in
    let frames : StandAt (Some r) old.side tail [] new.held = (tail, refl, broken_more old.side old.held (fed calls) r is, ap (λ (s : Stream). s.held) over.same) in
    record {
      side = ap (λ (s : Stream). s.side) over.same;
      place = ap (λ (s : Stream). s.place) over.same ∙ ap (behind old.place) (sym over.none);
      frames =
          subst (λ (b : Option ℕ). StandAt b old.side tail (given calls) new.held) (sym (ap (λ (s : Stream). s.broken) over.same))
          (subst (λ (fs : List grammar.Frame). StandAt (Some r) old.side tail fs new.held) (sym over.none) frames);
    }
next_leaves (Whole f rest) (got.Frame g) buf calls old mid new later none is gives runs =
    let h : grammar.Frame = frame_of g (take g.body buf) in
    let now : Stream = record old { place = (old.place + frame_size f) % 2 ^ 64; held = rest } in
    let more : Leaves now calls new = later now none (subst (λ (s : Stream). Runs s calls new) gives.1 runs) in
    let whole : front old.side (old.held ++ fed calls) ≡ Whole h (rest ++ fed calls) = whole_more old.side old.held (fed calls) f rest is ∙ ap (λ (x : grammar.Frame). Whole x (rest ++ fed calls)) gives.0 in
    record {
      side = more.side;
      place = more.place ∙ ap (λ (x : grammar.Frame). behind ((old.place + frame_size x) % 2 ^ 64) (given calls)) gives.0;
      frames = one_more new.broken old.side (old.held ++ fed calls) (rest ++ fed calls) h (given calls) new.held whole more.frames;
    }
next_leaves (Lacking k) (got.Bad place reason) buf calls old mid new later none is gives runs = absurd gives
next_leaves (Lacking k) (got.Frame g) buf calls old mid new later none is gives runs = absurd gives
next_leaves (Broken r) (got.Need n) buf calls old mid new later none is gives runs = absurd gives
next_leaves (Broken r) (got.Frame g) buf calls old mid new later none is gives runs = absurd gives
next_leaves (Whole f rest) (got.Need n) buf calls old mid new later none is gives runs = absurd gives
next_leaves (Whole f rest) (got.Bad place reason) buf calls old mid new later none is gives runs = absurd gives

runs_leave : (calls : List Call) (old new : Stream) → old.broken ≡ None → Runs old calls new → Leaves old calls new
runs_leave [] old new none runs =
    let frames : StandAt None old.side (old.held ++ []) [] new.held = append-nil old.held ∙ sym (ap (λ (s : Stream). s.held) runs) in
    record {
      side = ap (λ (s : Stream). s.side) runs;
      place = ap (λ (s : Stream). s.place) runs;
      frames = subst (λ (b : Option ℕ). StandAt b old.side (old.held ++ []) [] new.held) (sym (ap (λ (s : Stream). s.broken) runs ∙ none)) frames;
    }
runs_leave (Feed bytes count ∷ calls) old new none runs =
    let feeds : FeedsIf None old bytes count runs.0 = subst (λ (b : Option ℕ). FeedsIf b old bytes count runs.0) none runs.1 in
    let now : Stream = record old { held = old.held ++ take count bytes } in
    let more : Leaves now calls new = runs_leave calls now new none (subst (λ (s : Stream). Runs s calls new) feeds.1 runs.2) in
    record {
      side = more.side;
      place = more.place;
      frames = subst (λ (w : List ℕ). StandAt new.broken old.side w (given calls) new.held) (append_assoc old.held (take count bytes) (fed calls)) more.frames;
    }
runs_leave (Next answer buf ∷ calls) old new none runs =
    next_leaves (front old.side old.held) answer buf calls old runs.0 new (λ s b rs. runs_leave calls s new b rs) none refl (subst (λ (b : Option ℕ). GivesIf b old answer runs.0 buf) none runs.1) runs.2

pub frames_are_at_the_front : FramesAreAtTheFront
frames_are_at_the_front old new calls none runs = runs_leave calls old new none runs

-- frames up to where none is whole are the only ones
only_frames : (side : Side) (bytes : List ℕ) (fs gs : List grammar.Frame) (t u : List ℕ) → AreFrames side bytes fs t → IsNoFrame (front side t) → AreFrames side bytes gs u
    → IsNoFrame (front side u) → (fs ≡ gs) × (t ≡ u)
only_frames side bytes [] [] t u one none two empty = (refl, sym one ∙ two)
only_frames side bytes [] (g ∷ gs) t u one none two empty = absurd (subst IsNoFrame (ap (front side) (sym one) ∙ two.1) none)
only_frames side bytes (f ∷ fs) [] t u one none two empty = absurd (subst IsNoFrame (ap (front side) (sym two) ∙ one.1) empty)
only_frames side bytes (f ∷ fs) (g ∷ gs) t u one none two empty =
    let same : Whole f one.0 ≡ Whole g two.0 = sym one.1 ∙ two.1 in
    let first : f ≡ g = cc in
    let left : two.0 ≡ one.0 = cc in
    let more : (fs ≡ gs) × (t ≡ u) = only_frames side one.0 fs gs t u one.2 none (subst (λ (w : List ℕ). AreFrames side w gs u) left two.2) empty in
    (ap (λ (h : grammar.Frame). h ∷ fs) first ∙ ap (λ (hs : List grammar.Frame). g ∷ hs) more.0, more.1)

-- what two ways through the same bytes have in common
record Alike (fs gs : List grammar.Frame) (b c : Option ℕ) (xs ys : List ℕ) : Type 0 where
  pub frames : fs ≡ gs
  pub broken : b ≡ c
  pub held : xs ≡ ys

alike : (side : Side) (bytes : List ℕ) (fs gs : List grammar.Frame) (b c : Option ℕ) (held kept : List ℕ) (m n : ℕ) → StandAt b side bytes fs held → StandAt c side bytes gs kept
    → front side held ≡ Lacking m → front side kept ≡ Lacking n → Alike fs gs b c held kept
alike side bytes fs gs None None held kept m n one two lacks wants =
    let same = only_frames side bytes fs gs held kept one (subst IsNoFrame (sym lacks) tt) two (subst IsNoFrame (sym wants) tt) in
    record { frames = same.0; broken = refl; held = same.1 }
alike side bytes fs gs None (Some s) held kept m n one two lacks wants =
    let same = only_frames side bytes fs gs held two.0 one (subst IsNoFrame (sym lacks) tt) two.1 (subst IsNoFrame (sym two.2) tt) in
    absurd (let never : Lacking m ≡ Broken s = sym lacks ∙ ap (front side) same.1 ∙ two.2 in cc)
alike side bytes fs gs (Some r) None held kept m n one two lacks wants =
    let same = only_frames side bytes fs gs one.0 kept one.1 (subst IsNoFrame (sym one.2) tt) two (subst IsNoFrame (sym wants) tt) in
    absurd (let never : Broken r ≡ Lacking n = sym one.2 ∙ ap (front side) same.1 ∙ wants in cc)
alike side bytes fs gs (Some r) (Some s) held kept m n one two lacks wants =
    let same = only_frames side bytes fs gs one.0 two.0 one.1 (subst IsNoFrame (sym one.2) tt) two.1 (subst IsNoFrame (sym two.2) tt) in
    let rule : Broken r ≡ Broken s = sym one.2 ∙ ap (front side) same.1 ∙ two.2 in
    let reason : r ≡ s = cc in
    record { frames = same.0; broken = ap Some reason; held = one.3 ∙ sym two.3 }

abbrev stream : Side → ℕ → List ℕ → Option ℕ → Stream
stream side place held broken = record { side = side; place = place; held = held; broken = broken }

same_stream : (x y : Stream) → x.side ≡ y.side → x.place ≡ y.place → x.held ≡ y.held → x.broken ≡ y.broken → x ≡ y
same_stream x y side place held broken =
    ap (λ (v : Side). stream v x.place x.held x.broken) side ∙ ap (λ (v : ℕ). stream y.side v x.held x.broken) place
    ∙ ap (λ (v : List ℕ). stream y.side y.place v x.broken) held ∙ ap (λ (v : Option ℕ). stream y.side y.place y.held v) broken

pub cuts_alike : CutsAreAlike
cuts_alike old x y a b none to_x to_y same asked_x asked_y =
    let one : Leaves old a x = runs_leave a old x none to_x in
    let two : Leaves old b y = runs_leave b old y none to_y in
    let frames : StandAt y.broken old.side (old.held ++ fed a) (given b) y.held =
    subst (λ (w : List ℕ). StandAt y.broken old.side (old.held ++ w) (given b) y.held) (sym same) two.frames in
    let lacks : front old.side x.held ≡ Lacking asked_x.0 = ap (λ (s : Side). front s x.held) (sym one.side) ∙ asked_x.1 in
    let wants : front old.side y.held ≡ Lacking asked_y.0 = ap (λ (s : Side). front s y.held) (sym two.side) ∙ asked_y.1 in
    let both : Alike (given a) (given b) x.broken y.broken x.held y.held =
    alike old.side (old.held ++ fed a) (given a) (given b) x.broken y.broken x.held y.held asked_x.0 asked_y.0 one.frames frames lacks wants in
    let place : x.place ≡ y.place = one.place ∙ ap (behind old.place) both.frames ∙ sym two.place in
    (both.frames, same_stream x y (one.side ∙ sym two.side) place both.held both.broken)

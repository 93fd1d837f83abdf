use Rattle.std.proofs.Common.{rules, ◌≡◌, ◌<◌, ◌≤◌, ℕ, ◌+◌, List, [], ◌++◌, length, take, drop, ◌-◌, arith, sym, ap, ◌∙◌, subst}
use Rattle.std.proofs.lemmas.List.{length-take, length-take-le, length-drop, take_all, length-append}
use borrow.Rule.Slice.PartMut.{put_mid}
use Rattle.pr_words.specs.Fields.{number32_at}
use Rattle.pr_words.specs.declared.nexus.Side.TheVariants.{Initiator}
use Rattle.pr_initiator.specs.Goings.{Goes}
use Rattle.pr_initiator.proofs.Going.{more}
use Rattle.pr_initiator.proofs.Fronting.{rest_lacks, just, bad, joined, number_same}
use Rattle.pr_initiator.proofs.receiving.hear_rest.Goals as goal

pub returns-in_default-clause-hears : goal.returns-in_default-clause-hears
returns-in_default-clause-hears g c t before =
    let went = c.in_default.ensures.went in
    (take 4 c.args.work.now ++ went.0, more t _ _ [] [] (take 4 c.args.work.now) went.0 before went.1)

pub returns-then-n-lacks-clause-hears : goal.returns-then-n-lacks-clause-hears
returns-then-n-lacks-clause-hears g c t before =
    let work : List ℕ = c.args.work.now in
    let k : ℕ = c.args.lacks in
    let front_size : length (take 4 work) ≡ 4 = length-take-le 4 work (omega (arith, c.requires.room)) in
    let heard : List ℕ = take c.in-Ok.n c.receive_up_to.new.buf in
    let few : length heard < k = omega (arith, length-take c.in-Ok.n c.receive_up_to.new.buf, c.if-n-lacks.true) in
    let room : length (take (4 + k - 4) (drop 4 work)) ≡ 4 + k - 4 = length-take-le (4 + k - 4) (drop 4 work) (omega (arith, length-drop 4 work, c.requires.room, c.requires.few)) in (
      take 4 work ++ heard,
      4 + k - length (take 4 work ++ heard),
      more t _ _ [] [] (take 4 work) heard before c.in-Ok.ensures.goes,
      rest_lacks (take 4 work) heard k front_size c.requires.lacks c.requires.number few,
      c.in-Ok.ensures.ended (omega (arith, room, c.if-n-lacks.true)),
    )

-- all bytes that lacked have come
abbrev came : (work buf : List ℕ) (k : ℕ) → List ℕ
came work buf k = put_mid 4 (4 + k - 4) work buf

all_heard : (t now : _) (work buf : List ℕ) (n k : ℕ) → 4 + k ≤ length work → length buf ≡ k → k ≤ n → Goes t now [] (take 4 work ++ take n buf) → Goes t now [] (take (4 + k) (came work buf k))
all_heard t now work buf n k room size all goes =
    let whole : take n buf ≡ buf = take_all n buf (omega (arith, size, all)) in
    subst (λ (w : List ℕ). Goes t now [] w) (ap (λ (w : List ℕ). take 4 work ++ w) whole ∙ sym (joined work buf k room size)) goes

numbered : (work buf : List ℕ) (k : ℕ) → 4 + k ≤ length work → length buf ≡ k → number32_at (take 4 work) 0 ≡ k → number32_at (take (4 + k) (came work buf k)) 0 + 4 ≡ 4 + k
numbered work buf k room size is =
    let four : length (take 4 work) ≡ 4 = length-take-le 4 work (omega (arith, room)) in
    let number : number32_at (take (4 + k) (came work buf k)) 0 ≡ k = ap (λ (w : List ℕ). number32_at w 0) (joined work buf k room size) ∙ number_same (take 4 work) buf four ∙ is in
    omega (arith, number)

pub returns-in-Whole-clause-hears : goal.returns-in-Whole-clause-hears
returns-in-Whole-clause-hears g c t before =
    let work : List ℕ = c.args.work.now in
    let buf : List ℕ = c.receive_up_to.new.buf in
    let k : ℕ = c.args.lacks in
    let room : 4 + k ≤ length work = omega (arith, c.requires.room, c.requires.few) in
    let auto : length c.receive_up_to.new.buf ≡ length (take (4 + k - 4) (drop 4 work)) = search rules in
    let size : length buf ≡ k = omega (arith, auto, length-take-le (4 + k - 4) (drop 4 work) (omega (arith, length-drop 4 work, room))) in
    let within : 4 + k ≤ length (came work buf k) =
    omega (arith, length-append (take 4 work) (buf ++ drop (4 + k - 4) (drop 4 work)), length-append buf (drop (4 + k - 4) (drop 4 work)), length-take-le 4 work (omega (arith, room)), size) in
    let one = just Initiator c.in-Whole.frame (came work buf k) (4 + k) within (numbered work buf k room size c.requires.number) c.in-Whole.ensures in
    let goes = all_heard t _ work buf c.in-Ok.n k room size c.if-n-lacks.false (more t _ _ [] [] (take 4 work) (take c.in-Ok.n buf) before c.in-Ok.ensures.goes) in
    (subst (λ (n : ℕ). Goes t (g.W.Wire.talk c.receive_up_to.new.wire) [] (take n (came work buf k))) one.size goes, one.whole, one.bound, one.formed)

pub returns-in-Bad-clause-hears : goal.returns-in-Bad-clause-hears
returns-in-Bad-clause-hears g c t before =
    let work : List ℕ = c.args.work.now in
    let buf : List ℕ = c.receive_up_to.new.buf in
    let k : ℕ = c.args.lacks in
    let room : 4 + k ≤ length work = omega (arith, c.requires.room, c.requires.few) in
    let auto : length c.receive_up_to.new.buf ≡ length (take (4 + k - 4) (drop 4 work)) = search rules in
    let size : length buf ≡ k = omega (arith, auto, length-take-le (4 + k - 4) (drop 4 work) (omega (arith, length-drop 4 work, room))) in
    let goes = all_heard t _ work buf c.in-Ok.n k room size c.if-n-lacks.false (more t _ _ [] [] (take 4 work) (take c.in-Ok.n buf) before c.in-Ok.ensures.goes) in
    (take (4 + k) (came work buf k), goes, bad Initiator c.in-Bad.rule (take (4 + k) (came work buf k)) c.in-Bad.ensures)

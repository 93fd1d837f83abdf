use Rattle.std.proofs.Common.{◌≡◌, ℕ, ◌+◌, ◌-◌, List, take, drop, ap, arith, sym}
use Rattle.pr_link.proofs.FrontLaws.{to_front}
use Rattle.pr_link.proofs.front.Front.of.Goals as goal

pub returns : goal.returns
returns c =
    let len : ℕ = c.get_u32-len.result in
    let bytes : List ℕ = c.args.bytes.now in
    let cut : 4 + len - 4 ≡ len = omega arith in
    to_front c.args.side bytes (take (4 + len - 4) (drop 4 bytes)) len c.check.result (sym c.get_u32-len.ensures.number) c.if-bytes-lt4.false c.if-len-lt8.false c.if-len-gt-FRAME_LENGTH.false c.if-bytes-len.false
    (ap (λ (n : ℕ). take n (drop 4 bytes)) cut) c.check.ensures

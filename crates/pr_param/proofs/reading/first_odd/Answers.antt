-- The next descriptor ends the bytes, has another length, or is passed.
use Rattle.std.proofs.Common.{◌+◌, ◌-◌, ◌*◌, ap, sym, ◌∙◌, arith}
use Rattle.std.specs.Prelude.{Some}
use Rattle.pr_grammar.specs.InReplies.{first_odd}
use Rattle.pr_grammar.specs.declared.param.ReplyFault.TheVariants.{BadLength}
use Rattle.pr_param.proofs.Readings.{odd_cut, odd_here, odd_past}
use Rattle.pr_param.proofs.reading.first_odd.Goals as goal

pub returns-then-bytes-place : goal.returns-then-bytes-place
returns-then-bytes-place c =
    sym (odd_cut (c.args.count - c.loop-i.i) (c.args.count - (c.loop-i.i + 1)) (8 + 48 * c.loop-i.i) c.args.bytes.now (omega (arith, c.loop-i-test.true)) c.if-bytes-place.true)
    ∙ c.loop-i.invariant

pub returns-then-value-ne24 : goal.returns-then-value-ne24
returns-then-value-ne24 c =
    ap (λ v. Some (BadLength (8 + 48 * c.loop-i.i + 20) v)) c.get_u32-value.ensures.number
    ∙ sym (odd_here (c.args.count - c.loop-i.i) (c.args.count - (c.loop-i.i + 1)) (8 + 48 * c.loop-i.i) c.args.bytes.now (omega (arith, c.loop-i-test.true)) c.if-bytes-place.false (λ e. c.if-value-ne24.true (c.get_u32-value.ensures.number ∙ e)))
    ∙ c.loop-i.invariant

pub loop-i-preserved : goal.loop-i-preserved
loop-i-preserved c =
    ap (λ p. first_odd (c.args.count - (c.loop-i.i + 1)) p c.args.bytes.now) (omega arith)
    ∙ sym (odd_past (c.args.count - c.loop-i.i) (c.args.count - (c.loop-i.i + 1)) (8 + 48 * c.loop-i.i) c.args.bytes.now (omega (arith, c.loop-i-test.true)) c.if-bytes-place.false (sym c.get_u32-value.ensures.number ∙ c.if-value-ne24.false))
    ∙ c.loop-i.invariant

use Rattle.std.proofs.Common.{◌≡◌, ◌∙◌, ◌==◌, ◌-◌, false, length, replicate, sym, ap, List, ℕ}
use Rattle.std.specs.Prelude.{Some}
use borrow.Rule.Slice.PartMut.{put_mid}
use Rattle.pr_numbers.proofs.Numbering.{hex_is, hex_not}
use Rattle.pr_numbers.specs.Numbers.{digits_of}
use Rattle.pr_numbers.proofs.numbers.hex_number.Goals as goal

pub returns-in-Ok : goal.returns-in-Ok
returns-in-Ok c =
    let digits : List ℕ = c.digits-digits.result.now in
    let is : digits ≡ digits_of c.args.text.now = c.digits-digits.ensures ∙ ap digits_of c.as_bytes.ensures.value in
    let some : (length digits == 0) ≡ false = sym c.is_empty.ensures ∙ c.if-is_empty.false in
    let laid : c.as_slice.result.now ≡ put_mid (16 - length digits) (16 - (16 - length digits)) (replicate 16 48) digits = c.as_slice.ensures ∙ ap (put_mid (16 - length digits) (16 - (16 - length digits)) (replicate 16 48)) c.copy_from_slice.ensures.after in
    ap Some c.from_be_bytes.ensures ∙ hex_is c.args.most c.args.text.now digits c.as_slice.result.now c.decode_to_slice.result c.decode_to_slice.new.out is some c.if-most-digits.false c.requires laid c.decode_to_slice.ensures.value c.in-Ok.is

pub returns-in-Err : goal.returns-in-Err
returns-in-Err c =
    let digits : List ℕ = c.digits-digits.result.now in
    let is : digits ≡ digits_of c.args.text.now = c.digits-digits.ensures ∙ ap digits_of c.as_bytes.ensures.value in
    let some : (length digits == 0) ≡ false = sym c.is_empty.ensures ∙ c.if-is_empty.false in
    let laid : c.as_slice.result.now ≡ put_mid (16 - length digits) (16 - (16 - length digits)) (replicate 16 48) digits = c.as_slice.ensures ∙ ap (put_mid (16 - length digits) (16 - (16 - length digits)) (replicate 16 48)) c.copy_from_slice.ensures.after in
    hex_not c.args.most c.args.text.now digits c.as_slice.result.now c.decode_to_slice.result c.decode_to_slice.new.out c.in-Err.field-0 is some c.if-most-digits.false c.requires laid c.decode_to_slice.ensures.value c.in-Err.is

use Rattle.std.proofs.Common.{◌≡◌, ◌<◌, length, sym, ap, ◌∙◌}
use Rattle.std.specs.Prelude.{Some}
use Rattle.std.specs.String.{string_bytes}
use Rattle.std.specs.Cmp.Lexicographic.{same_text}
use Rattle.std.proofs.lemmas.Option.{slice_get-get_or}
use Rattle.pr_io.proofs.devices.place_of.Goals as goal

pub returns-then-eq-clause-named : goal.returns-then-eq-clause-named
returns-then-eq-clause-named g c =
    let within : c.loop-i.i < length c.deref-device-items.result.now = c.loop-i-test.true in
    let found = slice_get-get_or c.deref-device-items.result.now c.loop-i.i c.device-item.result within ∙ ap Some (sym c.device-item.is) in
    let same : string_bytes c.device-item.result.0 ≡ c.args.address.now = sym c.as_str.ensures.value ∙ same_text c.as_str.result.now c.args.address.now (sym c.if-eq.true ∙ c.eq.ensures) in
    rw (← c.deref-device-items.ensures.value, found) same

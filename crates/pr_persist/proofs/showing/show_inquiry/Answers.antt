use Rattle.std.proofs.Common.{◌≡◌, false, length, refl}
use Rattle.std.specs.Prelude.{nat_lt}
use Rattle.std.proofs.lemmas.Bool.{le-ltb}
use Rattle.pr_io.specs.Told.{told_sink}
use Rattle.pr_persist.specs.Texts.{inquiry_line}
use Rattle.pr_persist.proofs.Shown.{told}
use Rattle.pr_persist.proofs.showing.show_inquiry.Goals as goal

pub returns : goal.returns
returns g c =
    let enough : nat_lt (length c.args.bytes.now) 36 ≡ false = le-ltb _ _ c.if-bytes-lt-INQUIRY_DATA.false in
    told _ _ (inquiry_line c.args.bytes.now) (told_sink g.K.Sink c.args.sink.now) (told_sink g.K.Sink c.put_inquiry.new.sink) c.put_inquiry.result c.written.result (rw enough refl) c.put_inquiry.ensures c.written.ensures

-- The whole reply is read back.
use Rattle.std.proofs.Common.{◌≡◌, length, ap, ◌∙◌, arith}
use Rattle.pr_grammar.specs.InReplies.{reservation_reply, read_reservation}
use Rattle.pr_param.proofs.RoundTrips.{whole_front, reservation_read_back}
use Rattle.pr_param.proofs.writing.write_reservation.Goals as goal

pub returns-clause-reads_back : goal.returns-clause-reads_back
returns-clause-reads_back g c all =
    let s = g.R.Registrants.standing c.args.from.now in
    let n : c.min-len.result ≡ length (reservation_reply s) = omega (arith, c.min-len.ensures, c.reservation_length.ensures, all) in
    ap read_reservation (whole_front c.min-len.result (reservation_reply s) c.args.out.now c.put_reservation.new.out n (omega (arith, n, all, c.requires.room)) c.put_reservation.ensures.front) ∙ reservation_read_back s c.put_reservation.ensures.fits

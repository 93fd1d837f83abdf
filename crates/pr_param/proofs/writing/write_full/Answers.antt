-- The whole reply is read back.
use Rattle.std.proofs.Common.{◌≡◌, ◌≤◌, length, ap, ◌∙◌, arith}
use Rattle.std.proofs.lemmas.List.{length-take-le}
use Rattle.pr_grammar.specs.InReplies.{full_reply, read_full}
use Rattle.pr_param.proofs.Holders.{holder_is}
use Rattle.pr_param.proofs.RoundTrips.{whole_front, full_read_back}
use Rattle.pr_param.proofs.writing.write_full.Goals as goal

pub returns-clause-reads_back : goal.returns-clause-reads_back
returns-clause-reads_back g c all =
    let s = g.R.Registrants.standing c.args.from.now in
    let n : c.min-len.result ≡ length (full_reply s) = omega (arith, c.min-len.ensures, c.full_length.ensures, all) in
    let le : c.min-len.result ≤ length c.args.out.now = omega (arith, n, all, c.requires.room) in
    ap read_full (whole_front c.min-len.result (full_reply s) c.args.out.now c.put_full.new.out n le c.put_full.ensures.front) ∙ full_read_back s c.requires.count (c.put_full.ensures.fits (length-take-le c.min-len.result c.args.out.now le ∙ n))

pub returns-clause-holders : goal.returns-clause-holders
returns-clause-holders g c = holder_is (g.R.Registrants.standing c.args.from.now)

-- The whole reply is read back.
use Rattle.std.proofs.Common.{◌≡◌, ◌≤◌, length, ap, ◌∙◌, arith}
use Rattle.std.proofs.lemmas.List.{length-take-le}
use Rattle.pr_grammar.specs.InReplies.{keys_reply, read_keys}
use Rattle.pr_param.proofs.RoundTrips.{whole_front, keys_read_back}
use Rattle.pr_param.proofs.writing.write_keys.Goals as goal

pub returns-clause-reads_back : goal.returns-clause-reads_back
returns-clause-reads_back g c all =
    let s = g.R.Registrants.standing c.args.from.now in
    let n : c.min-len.result ≡ length (keys_reply s) = omega (arith, c.min-len.ensures, c.keys_length.ensures, all) in
    let le : c.min-len.result ≤ length c.args.out.now = omega (arith, n, all, c.requires.room) in
    ap read_keys (whole_front c.min-len.result (keys_reply s) c.args.out.now c.put_keys.new.out n le c.put_keys.ensures.front) ∙ keys_read_back s c.requires.count (c.put_keys.ensures.fits (length-take-le c.min-len.result c.args.out.now le ∙ n))

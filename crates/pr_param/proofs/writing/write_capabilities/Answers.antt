-- The whole reply is read back.
use Rattle.std.proofs.Common.{◌≡◌, ◌+◌, [], ◌∷◌, take, length, ap, ◌∙◌, arith}
use Rattle.pr_grammar.specs.Cdbs.{bit}
use Rattle.pr_grammar.specs.InReplies.{capabilities_reply, read_capabilities}
use Rattle.pr_param.proofs.RoundTrips.{whole_front, capabilities_read_back}
use Rattle.pr_param.proofs.writing.write_capabilities.Goals as goal

pub returns-clause-reads_back : goal.returns-clause-reads_back
returns-clause-reads_back g c all =
    let s = g.R.Registrants.standing c.args.from.now in
    let n : c.min-len.result ≡ length (capabilities_reply s) = omega (arith, c.min-len.ensures, all) in
    ap read_capabilities (whole_front c.min-len.result (capabilities_reply s) c.args.out.now c.put_capabilities.new.out n (omega (arith, n, all, c.requires)) (c.put_capabilities.ensures ∙ ap (λ b. take (length (take c.min-len.result c.args.out.now)) (0 ∷ 8 ∷ 0x01 ∷ (0x80 + bit b) ∷ 0xEA ∷ 0x01 ∷ 0 ∷ 0 ∷ [])) c.preserve.ensures)) ∙ capabilities_read_back s

-- A reservation of one nexus has that nexus's key.
use Rattle.std.proofs.Common.{◌++◌, length, take, ap, sym, ◌∙◌}
use Rattle.std.specs.Int.{w32, to_be_bytes}
use Rattle.pr_grammar.specs.InReplies.{held_bytes}
use Rattle.pr_param.proofs.Holders.{part_of_one}
use Rattle.pr_param.proofs.writing.put_reservation.Goals as goal

pub returns-in-Some-Some-clause-front : goal.returns-in-Some-Some-clause-front
returns-in-Some-Some-clause-front g c =
    let s = g.R.Registrants.standing c.args.from.now in
    let part = part_of_one s.pairs _ _ _ _ _ (sym c.kind.ensures ∙ c.in-Some-Some.is-0) (sym c.holder.ensures ∙ c.in-Some-Some.is-1) c.key_at.ensures in
    c.put_held-in-Some-Some.ensures
    ∙ ap (λ n. take (length c.args.out.now) (to_be_bytes w32 n ++ held_bytes c.key_at.result c.in-Some-Some.kind)) c.generation-in-Some-Some.ensures
    ∙ ap (λ part. take (length c.args.out.now) (to_be_bytes w32 s.generation ++ part)) part

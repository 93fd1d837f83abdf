use Rattle.std.proofs.Common.{◌≡◌, ℕ, ap, ◌∙◌, subst}
use Rattle.pr_initiator.specs.Links.{link_of}
use Rattle.pr_initiator.specs.Commands.{Order, HasAnswered, reserve_out, out_list}
use Rattle.pr_initiator.proofs.Ordering.{out_order}
use Rattle.pr_initiator.proofs.initiator.Initiator.reserve_out.Goals as goal

pub returns-clause-answered : goal.returns-clause-answered
returns-clause-answered g c =
    let same : out_order c.code.result c.args.kind c.write_out_list.new.out ≡ reserve_out c.args.service c.args.kind (out_list c.args.key.0 c.args.action_key.0 c.args.aptpl) =
    ap (λ (n : ℕ). out_order n c.args.kind c.write_out_list.new.out) c.code.ensures ∙ ap (out_order _ c.args.kind) c.write_out_list.ensures.spelled in
    subst (λ (o : Order). HasAnswered (link_of c.args.self.now) (link_of c.order.new.self) o c.order.result) same c.order.ensures.answered

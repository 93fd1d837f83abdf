use Rattle.std.proofs.Common.{◌==◌, length, sym, ◌∙◌, ap, arith}
use Rattle.std.proofs.lemmas.Bool.{ne_eqb, eq-eqb}
use Rattle.std.proofs.lemmas.List.{length-drop}
use Rattle.pr_grammar.specs.Standings.{is_port}
use Rattle.pr_grammar.specs.Files.{is_after}
use Rattle.pr_words.specs.declared.nexus.Pair.{Pair}
use Rattle.pr_aptpl.proofs.Lists.{bad_port, bad_key, bad_order, good_pair_as, all_read}
use Rattle.pr_aptpl.proofs.reading.read_pairs.Goals as goal

pub returns-then-not-port_is_good : goal.returns-then-not-port_is_good
returns-then-not-port_is_good c =
    bad_port _ c.loop-left.pairs.items c.loop-left.left c.loop-left.before c.loop-left.place c.loop-left.rest.now c.loop-left-test.true c.loop-left.invariant.reads
    (ap (λ (q : Pair). is_port q.nexus.port) (sym c.get_pair-pair.ensures) ∙ sym c.port_is_good.ensures ∙ c.if-not-port_is_good.true)

pub returns-then-pair-eq0 : goal.returns-then-pair-eq0
returns-then-pair-eq0 c =
    bad_key _ c.loop-left.pairs.items c.loop-left.left c.loop-left.before c.loop-left.place c.loop-left.rest.now c.loop-left-test.true c.loop-left.invariant.reads
    (ap (λ (q : Pair). is_port q.nexus.port) (sym c.get_pair-pair.ensures) ∙ sym c.port_is_good.ensures ∙ c.if-not-port_is_good.false)
    (ap (λ (q : Pair). q.key.0 == 0) (sym c.get_pair-pair.ensures) ∙ eq-eqb c.get_pair-pair.result.key.0 0 c.if-pair-eq0.true)

pub returns-then-not-stands_after : goal.returns-then-not-stands_after
returns-then-not-stands_after c =
    bad_order _ c.loop-left.pairs.items c.loop-left.left c.loop-left.before c.loop-left.place c.loop-left.rest.now c.loop-left-test.true c.loop-left.invariant.reads
    (ap (λ (q : Pair). is_port q.nexus.port) (sym c.get_pair-pair.ensures) ∙ sym c.port_is_good.ensures ∙ c.if-not-port_is_good.false)
    (ap (λ (q : Pair). q.key.0 == 0) (sym c.get_pair-pair.ensures) ∙ ne_eqb c.get_pair-pair.result.key.0 0 c.if-pair-eq0.false)
    (ap (λ (q : Pair). is_after c.loop-left.before q.nexus) (sym c.get_pair-pair.ensures) ∙ sym c.stands_after.ensures ∙ c.if-not-stands_after.true)

pub returns : goal.returns
returns c = all_read _ c.loop-left.pairs.items c.loop-left.left c.loop-left.before c.loop-left.place c.loop-left.rest.now c.loop-left-test.false c.loop-left.invariant.reads

pub loop-left-preserved : goal.loop-left-preserved
loop-left-preserved c = record {
  room = omega (arith, ap length c.after_first-rest.ensures, length-drop 18 c.loop-left.rest.now);
  places = omega arith;
  reads = good_pair_as _ c.loop-left.pairs.items c.loop-left.left c.loop-left.before c.loop-left.place c.loop-left.rest.now c.loop-left-test.true c.loop-left.invariant.reads
      c.get_pair-pair.result _ _ c.get_pair-pair.ensures c.in_ok-push.ensures.items c.after_first-rest.ensures
      (ap (λ (q : Pair). is_port q.nexus.port) (sym c.get_pair-pair.ensures) ∙ sym c.port_is_good.ensures ∙ c.if-not-port_is_good.false)
      (ap (λ (q : Pair). q.key.0 == 0) (sym c.get_pair-pair.ensures) ∙ ne_eqb c.get_pair-pair.result.key.0 0 c.if-pair-eq0.false)
      (ap (λ (q : Pair). is_after c.loop-left.before q.nexus) (sym c.get_pair-pair.ensures) ∙ sym c.stands_after.ensures ∙ c.if-not-stands_after.false);
}

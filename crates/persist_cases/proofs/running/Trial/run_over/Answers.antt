use Rattle.persist_cases.proofs.running.Trial.run_over.Goals as goal

-- a wire keeps its own invariant
pub invariant_of-wire-in_err-to_vec-2 : goal.invariant_of-wire-in_err-to_vec-2
invariant_of-wire-in_err-to_vec-2 g c = record { within = c.persist_main-exit.new.wire.within; named = c.persist_main-exit.new.wire.named; past = c.persist_main-exit.new.wire.past }

pub invariant_of-wire-in_err-explain : goal.invariant_of-wire-in_err-explain
invariant_of-wire-in_err-explain g c = record { within = c.persist_main-exit.new.wire.within; named = c.persist_main-exit.new.wire.named; past = c.persist_main-exit.new.wire.past }

pub invariant_of-wire-2 : goal.invariant_of-wire-2
invariant_of-wire-2 g c = record { within = c.persist_main-exit.new.wire.within; named = c.persist_main-exit.new.wire.named; past = c.persist_main-exit.new.wire.past }

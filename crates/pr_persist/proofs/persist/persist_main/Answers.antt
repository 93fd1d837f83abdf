use Rattle.std.proofs.Common.{map, sym, subst, List, ℕ}
use Rattle.std.specs.Borrow.{Bor}
use Rattle.pr_io.specs.Told.{told_sink}
use Rattle.pr_persist.specs.declared.exit.PersistExit.{PersistExit}
use Rattle.pr_persist.specs.Asking.{wanted_by}
use Rattle.pr_persist.specs.Whole.{Ends, told_wire}
use Rattle.pr_persist.proofs.Keeping.{same_name}
use Rattle.pr_persist.proofs.Refusing.{refused_alone}
use Rattle.pr_persist.proofs.persist.persist_main.Goals as goal

-- the wire that is handed back is the one that was lent
pub returns-clause-ends : goal.returns-clause-ends
returns-clause-ends g c =
    let asked = wanted_by (map (λ (w : Bor (List ℕ)). w.now) c.args.words.now) in
    let left = sym (c.wire-1.given.1 (sym (same_name _ _ c.read_and_run-exit.ensures.reference))) in
    subst
    (λ (wire : g.row.W.Denot).
    Ends asked (told_wire g.W.Wire c.args.wire.now) (told_wire g.W.Wire wire) (told_sink g.K.Sink c.args.sink.now)
    (told_sink g.K.Sink c.read_and_run-exit.new.sink) c.read_and_run-exit.result.0)
    left c.read_and_run-exit.ensures.ends

pub returns-clause-words : goal.returns-clause-words
returns-clause-words g c is =
    let asked = wanted_by (map (λ (w : Bor (List ℕ)). w.now) c.args.words.now) in
    let old = told_wire g.W.Wire c.args.wire.now in
    let new = told_wire g.W.Wire c.read_and_run-exit.result.1.now in
    let sink = told_sink g.K.Sink c.args.sink.now in
    let printed = told_sink g.K.Sink c.read_and_run-exit.new.sink in
    refused_alone asked old new sink printed (subst (λ (e : PersistExit). Ends asked old new sink printed e) is c.read_and_run-exit.ensures.ends)

pub returns-clause-comes : goal.returns-clause-comes
returns-clause-comes g c =
    let left = sym (c.wire-1.given.1 (sym (same_name _ _ c.read_and_run-exit.ensures.reference))) in
    subst (g.W.Wire.comes c.args.wire.now) left c.read_and_run-exit.ensures.comes

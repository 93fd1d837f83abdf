use Rattle.std.proofs.Common.{sym, subst}
use Rattle.std.specs.Prelude.{Result, Ok}
use Rattle.pr_io.specs.Told.{told_sink}
use Rattle.pr_fence.specs.declared.exit.FenceExit.{FenceExit}
use Rattle.pr_fence.specs.declared.words.Refusal.{Refusal}
use Rattle.pr_fence.specs.declared.words.Refusal.TheVariants.{BadWords, SelfFence}
use Rattle.pr_fence.specs.Ousting.{OustsAll}
use Rattle.pr_fence.specs.Views.{texts_of}
use Rattle.pr_fence.specs.Whole.{Ends, told_wire}
use Rattle.pr_fence.specs.Words.{Wanted, wanted_by}
use Rattle.pr_fence.proofs.Ending.{refused, done}
use Rattle.pr_fence.proofs.Keeping.{same_name}
use Rattle.pr_fence.proofs.fence.fence_main.Goals as goal

-- the wire that is handed back is the one that was lent
pub returns-clause-ends : goal.returns-clause-ends
returns-clause-ends g c =
    let asked = wanted_by (texts_of c.args.words.now) in
    let left = sym (c.wire-1.given.1 (sym (same_name _ _ c.read_and_run-exit.ensures.reference))) in
    subst
    (λ (wire : g.row.W.Denot).
    Ends asked (told_wire g.W.Wire c.args.wire.now) (told_wire g.W.Wire wire) (told_sink g.K.Sink c.args.sink.now)
    (told_sink g.K.Sink c.read_and_run-exit.new.sink) c.read_and_run-exit.result.0)
    left c.read_and_run-exit.ensures.ends

pub returns-clause-comes : goal.returns-clause-comes
returns-clause-comes g c =
    let left = sym (c.wire-1.given.1 (sym (same_name _ _ c.read_and_run-exit.ensures.reference))) in
    subst (g.W.Wire.comes c.args.wire.now) left c.read_and_run-exit.ensures.comes

pub returns-clause-words : goal.returns-clause-words
returns-clause-words g c is =
    let asked = wanted_by (texts_of c.args.words.now) in
    let old = told_wire g.W.Wire c.args.wire.now in
    let new = told_wire g.W.Wire c.read_and_run-exit.result.1.now in
    let sink = told_sink g.K.Sink c.args.sink.now in
    let printed = told_sink g.K.Sink c.read_and_run-exit.new.sink in
    refused asked old new sink printed BadWords (subst (λ (e : FenceExit). Ends asked old new sink printed e) is c.read_and_run-exit.ensures.ends)

pub returns-clause-itself : goal.returns-clause-itself
returns-clause-itself g c is =
    let asked = wanted_by (texts_of c.args.words.now) in
    let old = told_wire g.W.Wire c.args.wire.now in
    let new = told_wire g.W.Wire c.read_and_run-exit.result.1.now in
    let sink = told_sink g.K.Sink c.args.sink.now in
    let printed = told_sink g.K.Sink c.read_and_run-exit.new.sink in
    refused asked old new sink printed SelfFence (subst (λ (e : FenceExit). Ends asked old new sink printed e) is c.read_and_run-exit.ensures.ends)

pub returns-clause-ousts : goal.returns-clause-ousts
returns-clause-ousts g c w victim asks off is =
    let old = told_wire g.W.Wire c.args.wire.now in
    let new = told_wire g.W.Wire c.read_and_run-exit.result.1.now in
    let sink = told_sink g.K.Sink c.args.sink.now in
    let printed = told_sink g.K.Sink c.read_and_run-exit.new.sink in
    let left = sym (c.wire-1.given.1 (sym (same_name _ _ c.read_and_run-exit.ensures.reference))) in
    let whole = subst (λ (a : Result Wanted Refusal). Ends a old new sink printed c.read_and_run-exit.result.0) asks c.read_and_run-exit.ensures.ends in
    subst (λ (wire : g.row.W.Denot). OustsAll w victim old (told_wire g.W.Wire wire)) left (done w victim old new sink printed off (subst (λ (e : FenceExit). Ends (Ok w) old new sink printed e) is whole))

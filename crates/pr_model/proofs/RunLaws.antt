-- Runs that go on.
use Rattle.std.proofs.Common.{◌≡◌, List, [], ◌∷◌, ◌++◌, refl, sym, ap, ◌∙◌, append_assoc, subst}
use Rattle.std.proofs.lemmas.List.{append-nil}
use Rattle.pr_grammar.specs.Schedules.{Record}
use Rattle.pr_model.specs.Entries.{History}
use Rattle.pr_model.specs.Lanes.{Lane}
use Rattle.pr_model.specs.Runs.{Deed, deed, nothing, joined, RunsOn, IsRun}

pub joined-nothing : (d : Deed) → joined d nothing ≡ d
joined-nothing d = ap (λ (h : History). deed h (d.output ++ [])) (append-nil d.entries) ∙ ap (deed d.entries) (append-nil d.output)

pub joined-assoc : (a b c : Deed) → joined (joined a b) c ≡ joined a (joined b c)
joined-assoc a b c =
    ap (λ (h : History). deed h ((a.output ++ b.output) ++ c.output)) (append_assoc a.entries b.entries c.entries) ∙ ap (deed (a.entries ++ (b.entries ++ c.entries))) (append_assoc a.output b.output c.output)

-- a run after one more record
pub run-append : (lanes : List Lane) (rs : List Record) (d : Deed) (mid : List Lane) (r : Record) (e : Deed) (last : List Lane)
    → IsRun lanes rs d mid → RunsOn r mid e last → IsRun lanes (rs ++ r ∷ []) (joined d e) last
run-append lanes [] d mid r e last done acts =
    let here : RunsOn r lanes e last = subst (λ (l : List Lane). RunsOn r l e last) done.1 acts in
    (e, last, nothing, here, (refl, refl), ap (λ (x : Deed). joined x e) done.0 ∙ sym (joined-nothing e))
run-append lanes (q ∷ rs) d mid r e last run acts =
    let rest = run-append run.1 rs run.2 mid r e last run.4 acts in
    (run.0, run.1, joined run.2 e, run.3, rest, ap (λ (x : Deed). joined x e) run.5 ∙ joined-assoc run.0 run.2 e)

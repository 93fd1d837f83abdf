-- What a PERSISTENT RESERVE OUT asks a table for, and what the answer tells of what was done (this project's own).
use Rattle.std.specs.Prelude.{◌≡◌, ℕ, ◌==◌, not, List, length}
use Rattle.pr_words.specs.declared.nexus.Pair.{Pair}
use Rattle.pr_grammar.specs.Standings.{Standing}
use Rattle.pr_model.specs.Acts.{ReserveOut, Acted}
use Rattle.pr_model.specs.Acts as model
use Rattle.pr_model.specs.Keeping.{same_kept, kept}
use Rattle.pr_grammar.specs.declared.param.OutList.{OutList}
use Rattle.pr_words.specs.Services.{out_service_code}
use Rattle.pr_table.specs.declared.request.OutAction.{OutAction}
use Rattle.pr_table.specs.declared.request.OutRequest.{OutRequest}
use Rattle.pr_table.specs.declared.verdict.Verdict.{Verdict}
use Rattle.pr_table.specs.declared.verdict.Verdict.TheVariants.{Good, Conflict, Bad}

-- the command by its CDB, with the service action's number or its name, and by its parameter list
abbrev pub numbered : OutAction → OutList → ReserveOut
numbered a l = record { action = a.action; scope = a.scope; kind = a.kind; key = l.key; action_key = l.action_key; aptpl = l.aptpl }

abbrev pub requested : OutRequest → OutList → ReserveOut
requested r l = record { action = out_service_code r.service; scope = r.scope; kind = r.kind; key = l.key; action_key = l.action_key; aptpl = l.aptpl }

-- the status, and whom GOOD tells of what
abbrev pub Tells : Verdict → Acted → Type 0
Tells (Good change) a = (a.verdict ≡ model.Good) × (change.removed ≡ length a.removed) × (change.removed_code ≡ a.removed_code) × (change.stay_code ≡ a.stay_code)
Tells Conflict a = a.verdict ≡ model.Conflict
Tells (Bad code) a = a.verdict ≡ model.Bad code

-- a call did this: its answer, the standing after it, and the registrations that it removed
pub record Does (a : Acted) (answer : Verdict) (now : Standing) (gone : List Pair) : Type 0 where
  pub tells : Tells answer a
  pub standing : now ≡ a.standing
  pub removed : gone ≡ a.removed

-- whether GOOD changed what is kept, and that a refusal changes nothing
abbrev pub Keeps : Verdict → Standing → Standing → Type 0
Keeps (Good change) s t = change.keeps ≡ not (same_kept (kept s) (kept t))
Keeps _ s t = s ≡ t

-- tasks are aborted by PREEMPT AND ABORT alone
abbrev pub Aborts : Verdict → ℕ → Type 0
Aborts (Good change) action = change.abort ≡ (action == 5)
Aborts _ action = Unit {0}

-- Checks that pass or refuse, group by group.
use Rattle.std.proofs.Common.{◌≡◌, ℕ, ◌==◌, ◌*◌, Result, IsErr, IsErrAnd, Bool, true, false, not, cond, List, [], ◌∷◌, ◌++◌, length, refl, sym, ap, ◌∙◌, subst, lit<, arith, Ok, Err, Option, Some, None}
use Rattle.std.proofs.lemmas.Bool.Decides.{nat_tests}
use Rattle.pr_words.specs.declared.service.OutService.{OutService}
use Rattle.pr_words.specs.Services.{out_service_code}
use Rattle.pr_words.specs.declared.code.Code.{Code}
use Rattle.pr_words.specs.declared.task.Way.TheVariants as ways
use Rattle.pr_words.specs.declared.code.TheConstants.Code.{INVALID_FIELD_IN_PARAMETER_LIST, PARAMETER_LIST_LENGTH_ERROR}
use Rattle.pr_words.specs.declared.limits.TheConstants.{BLOCK, PARAMETER_LIST}
use Rattle.pr_grammar.specs.declared.operation.OperationCode.{OperationCode}
use Rattle.pr_grammar.specs.declared.cdb.Command.{Command}
use Rattle.pr_grammar.specs.declared.cdb.Command.TheVariants.{Read, Write, ReserveOut}
use Rattle.pr_grammar.specs.Cdbs.{operation_code, command_by}
use Rattle.pr_grammar.specs.declared.param.OutList.{OutList}
use Rattle.pr_grammar.specs.declared.param.ParamFault.{ParamFault}
use Rattle.pr_grammar.specs.declared.param.ParamFault.TheVariants.{Length}
use Rattle.pr_grammar.specs.OutLists.{list_of, read_list}
use Rattle.pr_model.specs.Worlds.{World}
use Rattle.pr_model.specs.Commands.{Answer, answer, checking, refused_where, first_or, has_bad_service, has_bad_list, length_check, form_checks, command_checks}
use Rattle.pr_core.specs.declared.admitted.Admitted.TheVariants as admitted
use Rattle.pr_core.specs.declared.admitted.Admitted.{Admitted}
use Rattle.pr_core.specs.Passing.{Pass, Give, Carries, FitsIn, HasData, PassesForm, PassesCommand, PassesCdb, PassesTransfer}

-- checks, and then others
pub first-append : (xs ys : List (Option Answer)) (last : Answer) → first_or (xs ++ ys) last ≡ first_or xs (first_or ys last)
first-append [] ys last = refl
first-append (None ∷ xs) ys last = first-append xs ys last
first-append (Some a ∷ xs) ys last = refl

pub passed : (xs ys : List (Option Answer)) (last : Answer) → Pass xs → first_or (xs ++ ys) last ≡ first_or ys last
passed xs ys last pass = first-append xs ys last ∙ pass (first_or ys last)

pub given : (xs ys : List (Option Answer)) (a last : Answer) → Give xs a → first_or (xs ++ ys) last ≡ a
given xs ys a last give = first-append xs ys last ∙ give (first_or ys last)

-- what was read of a parameter list
read_parts : (b : Bool) (f : ParamFault) (l m : OutList) → cond (not b) (Err f) (Ok m) ≡ Ok l → (b ≡ true) × (l ≡ m)
read_parts true f l m is = (refl, cc)
read_parts false f l m is = absurd cc

not_refused : (b : Bool) (a : Answer) → cond (not b) (Some a) None ≡ None → b ≡ true
not_refused true a is = refl
not_refused false a is = absurd cc

same_number : (a b c : ℕ) → (a == b) ≡ true → (a == c) ≡ true → (b == c) ≡ true
same_number a b c e f = grind (arith, nat_tests)

-- a PERSISTENT RESERVE OUT whose fields and whose length are right, and whose list was read
pub record ReadsList (action scope kind len : ℕ) (sent : List ℕ) (service : OutService) (list : OutList) : Type 0 where
  pub named : out_service_code service ≡ action
  pub fit : has_bad_service (out_service_code service) scope kind ≡ false
  pub announced : (w : World) → length_check w len sent ≡ None
  pub read : read_list sent ≡ Ok list

-- the checks that are left
past_length : (action scope kind len : ℕ) (sent : List ℕ) (service : OutService) (list : OutList) (w : World) (last : Answer) → ReadsList action scope kind len sent service list
    → first_or (command_checks w (ReserveOut action scope kind len) sent) last
    ≡ first_or (refused_where (has_bad_list (out_service_code service) list) w INVALID_FIELD_IN_PARAMETER_LIST ∷ []) last
past_length action scope kind len sent service list w last r =
    let parts = read_parts (length sent == PARAMETER_LIST) (Length (length sent)) list (list_of sent) r.read in
    let long : (length sent == len) ≡ true = not_refused (length sent == len) (answer w (checking PARAMETER_LIST_LENGTH_ERROR)) (r.announced w) in
    let whole : (len == PARAMETER_LIST) ≡ true = same_number (length sent) len PARAMETER_LIST long parts.0 in
    let fit : has_bad_service action scope kind ≡ false = subst (λ (a : ℕ). has_bad_service a scope kind ≡ false) r.named r.fit in
    rw (fit, long, whole, parts.1, r.named) refl

pub list_passes : (blocks action scope kind len : ℕ) (sent : List ℕ) (service : OutService) (list : OutList) → ReadsList action scope kind len sent service list → has_bad_list (out_service_code service) list ≡ false
    → PassesCommand blocks (ReserveOut action scope kind len) sent (Ok (admitted.ReserveOut (record { service = service; scope = scope; kind = kind }) list))
list_passes blocks action scope kind len sent service list r good = (
  (len, ap (λ (a : ℕ). ReserveOut a scope kind len) (sym r.named), (read_parts (length sent == PARAMETER_LIST) (Length (length sent)) list (list_of sent) r.read).1),
  tt,
  λ w count last. past_length action scope kind len sent service list w last r ∙ (rw good refl),
  tt,
)

pub list_fails : (blocks action scope kind len : ℕ) (sent : List ℕ) (service : OutService) (list : OutList) → ReadsList action scope kind len sent service list → has_bad_list (out_service_code service) list ≡ true
    → PassesCommand blocks (ReserveOut action scope kind len) sent (Err INVALID_FIELD_IN_PARAMETER_LIST)
list_fails blocks action scope kind len sent service list r bad =
    ((lit< tt, lit< tt), λ w count last. past_length action scope kind len sent service list w last r ∙ ap (λ (b : Bool). first_or (refused_where b w INVALID_FIELD_IN_PARAMETER_LIST ∷ []) last) bad)

-- READ and WRITE
pub read_passes : (blocks : ℕ) (wide : Bool) (protect lba count : ℕ) (sent : List ℕ) (r : Result Admitted Code) → PassesTransfer blocks ways.Read protect lba count 0 sent r → PassesCommand blocks (Read wide protect lba count) sent r
read_passes blocks wide protect lba count sent (Ok a) passes =
    (subst (λ (x : Admitted). Carries (Read wide protect lba count) sent x) (sym passes.0) refl, subst (FitsIn blocks) (sym passes.0) (passes.1, refl), passes.2, subst (HasData sent) (sym passes.0) passes.3)
read_passes blocks wide protect lba count sent (Err c) fails = fails

pub write_passes : (blocks : ℕ) (wide : Bool) (protect lba count : ℕ) (sent : List ℕ) (r : Result Admitted Code) → PassesTransfer blocks ways.Write protect lba count (BLOCK * count) sent r → PassesCommand blocks (Write wide protect lba count) sent r
write_passes blocks wide protect lba count sent (Ok a) passes =
    (subst (λ (x : Admitted). Carries (Write wide protect lba count) sent x) (sym passes.0) refl, subst (FitsIn blocks) (sym passes.0) (passes.1, refl), passes.2, subst (HasData sent) (sym passes.0) passes.3)
write_passes blocks wide protect lba count sent (Err c) fails = fails

-- a CDB whose form fails, and one whose command passes or fails
pub form_fails : (blocks : ℕ) (o : OperationCode) (cdb sent : List ℕ) (c : Code) → PassesForm o cdb (Err c) → PassesCdb blocks o cdb sent (Err c)
form_fails blocks o cdb sent c fails =
    (fails.0, λ w count last. given (form_checks w (operation_code cdb) cdb) (command_checks w (command_by o cdb) sent) (answer w (checking c)) last (fails.1 w))

pub command_decides : (blocks : ℕ) (o : OperationCode) (cdb sent : List ℕ) (command : Command) (r : Result Admitted Code) → PassesForm o cdb (Ok command) → PassesCommand blocks command sent r → PassesCdb blocks o cdb sent r
command_decides blocks o cdb sent command r formed passes = by r (subst (λ (k : Command). PassesCommand blocks k sent r) formed.0 passes)
  where
    by : (r : Result Admitted Code) → PassesCommand blocks (command_by o cdb) sent r → PassesCdb blocks o cdb sent r
    by (Ok a) own = (own.0, own.1, λ w count last. passed (form_checks w (operation_code cdb) cdb) (command_checks w (command_by o cdb) sent) last (formed.1 w) ∙ own.2 w count last, own.3)
    by (Err c) own = (own.0, λ w count last. passed (form_checks w (operation_code cdb) cdb) (command_checks w (command_by o cdb) sent) last (formed.1 w) ∙ own.1 w count last)

-- a refusal that is handed on is the same
pub err_is : {T E : Type 0} (r : Result T E) (c : E) → IsErr r × IsErrAnd r (λ e. e ≡ c) → r ≡ Err c
err_is (Ok x) c is = absurd is.1
err_is (Err e) c is = ap Err is.1

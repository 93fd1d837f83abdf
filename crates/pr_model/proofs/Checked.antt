-- What a command is answered: the answer of a check, or what the command does.
use Rattle.std.proofs.Common.{◌≡◌, ℕ, Bool, true, false, cond, not, List, [], ◌∷◌, ◌++◌, Option, Some, None, is_some, refl, subst}
use Rattle.pr_words.specs.declared.nexus.Nexus.{Nexus}
use Rattle.pr_words.specs.declared.code.Code.{Code}
use Rattle.pr_words.specs.declared.code.TheConstants.Code.{INVALID_COMMAND_OPERATION_CODE, LOGICAL_UNIT_NOT_SUPPORTED}
use Rattle.pr_grammar.specs.declared.cdb.Command.{Command}
use Rattle.pr_grammar.specs.declared.cdb.Command.TheVariants as commands
use Rattle.pr_grammar.specs.Operations.{operation_at, class_of, is_unconditional}
use Rattle.pr_grammar.specs.Cdbs.{operation_code, command_of}
use Rattle.pr_model.specs.Conflicts.{is_forbidden}
use Rattle.pr_model.specs.Worlds.{World, set_at}
use Rattle.pr_model.specs.Commands.{Answer, answer, checking, conflict, refused_where, conflict_where, attention_check, form_checks, command_checks, first_or, served, answered, is_elsewhere}

-- the answer of a check of the attention is that the first attention is reported
pub reported : (w : World) (n : Nexus) (op : ℕ) (cs : List Code) (P : Answer → Type 0) → ((c : Code) (rest : List Code) → P (answer (record w { attentions = set_at w.attentions n rest }) (checking c)))
    → (a : Answer) → attention_check w n op cs ≡ Some a → P a
reported w n op [] P each a is = absurd cc
reported w n op (c ∷ rest) P each a is = by (is_unconditional op) is
  where
    by : (b : Bool) → cond b None (Some (answer (record w { attentions = set_at w.attentions n rest }) (checking c))) ≡ Some a → P a
    by true is = absurd cc
    by false is = let same : answer (record w { attentions = set_at w.attentions n rest }) (checking c) ≡ a = cc in subst P same (each c rest)

-- of a property of answers that refusals have
module _ (P : Answer → Type 0) (w : World) (refused : (c : Code) → P (answer w (checking c))) where
  abbrev Fits : Option Answer → Type 0
  Fits check = (a : Answer) → check ≡ Some a → P a

  abbrev AllFit : List (Option Answer) → Type 0
  AllFit [] = Unit {0}
  AllFit (c ∷ cs) = Fits c × AllFit cs

  plain : (b : Bool) (c : Code) → Fits (refused_where b w c)
  plain true c a is = let same : answer w (checking c) ≡ a = cc in subst P same (refused c)
  plain false c a is = absurd cc

  one_more : (check : Option Answer) (cs : List (Option Answer)) (last : Answer) → Fits check → P (first_or cs last) → P (first_or (check ∷ cs) last)
  one_more None cs last fits others = others
  one_more (Some a) cs last fits others = fits a refl

  all_more : (cs : List (Option Answer)) (last : Answer) → AllFit cs → P last → P (first_or cs last)
  all_more [] last all end = end
  all_more (c ∷ cs) last all end = one_more c cs last all.0 (all_more cs last all.1 end)

  joined : (cs ds : List (Option Answer)) → AllFit cs → AllFit ds → AllFit (cs ++ ds)
  joined [] ds left right = right
  joined (c ∷ cs) ds left right = (left.0, joined cs ds left.1 right)

  command_fits : (command : Command) (sent : List ℕ) → AllFit (command_checks w command sent)
  command_fits (commands.ReserveOut action scope kind list) sent = (plain _ _, (plain _ _, (plain _ _, (plain _ _, tt))))
  command_fits (commands.ReserveIn action allocation) sent = (plain _ _, (plain _ _, tt))
  command_fits commands.TestUnitReady sent = (plain _ _, tt)
  command_fits (commands.RequestSense descriptor allocation) sent = (plain _ _, tt)
  command_fits (commands.Inquiry vital page allocation) sent = (plain _ _, (plain _ _, tt))
  command_fits commands.ReadCapacity10 sent = (plain _ _, tt)
  command_fits (commands.ReadCapacity16 action allocation) sent = (plain _ _, (plain _ _, tt))
  command_fits (commands.ReportLuns select allocation) sent = (plain _ _, (plain _ _, tt))
  command_fits (commands.Read wide protect lba count) sent = (plain _ _, (plain _ _, (plain _ _, (plain _ _, tt))))
  command_fits (commands.Write wide protect lba count) sent = (plain _ _, (plain _ _, (plain _ _, (plain _ _, tt))))
  command_fits (commands.SynchronizeCache lba count) sent = (plain _ _, (plain _ _, tt))

  conflicted : P (answer w conflict) → (b forbidden : Bool) → forbidden ≡ b → (cs : List (Option Answer)) (last : Answer) → AllFit cs → (forbidden ≡ false → P last) → P (first_or (conflict_where b w ∷ cs) last)
  conflicted conflicts true forbidden is cs last all end = conflicts
  conflicted conflicts false forbidden is cs last all end = all_more cs last all (end is)

  -- and so have a RESERVATION CONFLICT, an attention that is reported, and what a command does that isn't forbidden
  pub answer_fits : (n : Nexus) (lun : ℕ) (cdb sent : List ℕ) → P (answer w conflict) → ((a : Answer) → attention_check w n (operation_code cdb) (w.attentions n) ≡ Some a → P a)
      → (is_forbidden w.standing n (class_of (operation_code cdb)) ≡ false → P (served w n lun (command_of (operation_code cdb) cdb) sent)) → P (answered w n lun cdb sent)
  unfolding answered
  answer_fits n lun cdb sent conflicts attends serves =
      let op : ℕ = operation_code cdb in
      let command : Command = command_of op cdb in
      let forbidden : Bool = is_forbidden w.standing n (class_of op) in
      let last : Answer = served w n lun command sent in
      let rest : List (Option Answer) = form_checks w op cdb ++ command_checks w command sent in
      let own : AllFit rest = joined (form_checks w op cdb) (command_checks w command sent) (plain _ _, (plain _ _, tt)) (command_fits command sent) in
      let third = conflict_where forbidden w ∷ rest in
      let second = refused_where (not (is_some (operation_at op))) w INVALID_COMMAND_OPERATION_CODE ∷ third in
      let first = attention_check w n op (w.attentions n) ∷ second in
      one_more (refused_where (is_elsewhere lun op) w LOGICAL_UNIT_NOT_SUPPORTED) first last (plain (is_elsewhere lun op) LOGICAL_UNIT_NOT_SUPPORTED)
      (one_more (attention_check w n op (w.attentions n)) second last attends
      (one_more (refused_where (not (is_some (operation_at op))) w INVALID_COMMAND_OPERATION_CODE) third last (plain (not (is_some (operation_at op))) INVALID_COMMAND_OPERATION_CODE)
      (conflicted conflicts forbidden forbidden refl rest last own serves)))

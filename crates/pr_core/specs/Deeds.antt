-- The acts and outcomes for which the entries of threads stand (this project's own).
use Rattle.std.specs.Prelude.{take}
use Rattle.pr_words.specs.declared.limits.TheConstants.{BLOCK}
use Rattle.pr_model.specs.Entries as entries
use Rattle.pr_model.specs.Entries.{Act, Out}
use Rattle.pr_core.specs.declared.deed.Deed.{Deed}
use Rattle.pr_core.specs.declared.deed.Deed.TheVariants.{Login, Command, Step, Logout}
use Rattle.pr_core.specs.Outs.{out_of, step_out}

abbrev pub act_of : Deed → Act
act_of (Login version code) = entries.Login version
act_of (Command lun cdb cdb_len sent sent_len out left) = entries.Command lun (take cdb_len cdb) (take sent_len sent)
act_of (Step sent sent_len out left) = entries.Step (take sent_len sent)
act_of Logout = entries.Logout

abbrev pub outcome_of : Deed → Out
outcome_of (Login version code) = entries.Login_code code
outcome_of (Command lun cdb cdb_len sent sent_len out left) = out_of out left
outcome_of (Step sent sent_len out left) = step_out out (take BLOCK left)
outcome_of Logout = entries.Left

-- Whether the RESERVATION KEY of a PERSISTENT RESERVE OUT is the caller's (SPC-4, PERSISTENT RESERVE OUT parameter list).
use Rattle.std.specs.Prelude.{ℕ, ◌==◌, Bool, true, Option}
use Rattle.pr_words.specs.declared.service.OutService.{OutService}
use Rattle.pr_words.specs.declared.service.OutService.TheVariants.{Register, RegisterAndIgnoreExistingKey}
use Rattle.pr_model.specs.Acts.{is_own, key_or_zero}

-- by the key with which it is registered; REGISTER AND IGNORE EXISTING KEY asks for none, and a REGISTER of an unregistered nexus for zero
abbrev pub names_key : OutService → Option ℕ → ℕ → Bool
names_key Register own key = key_or_zero own == key
names_key RegisterAndIgnoreExistingKey own key = true
names_key _ own key = is_own own key

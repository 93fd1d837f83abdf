-- Kept values that a file may restore (this project's own).
use Rattle.std.specs.Prelude.{◌<◌, ◌^◌, List, All, IsTrue}
use Rattle.pr_words.specs.declared.nexus.Pair.{Pair}
use Rattle.pr_words.specs.declared.limits.TheConstants.{LIMIT}
use Rattle.pr_grammar.specs.Standings.{Kept, is_port}
use Rattle.pr_model.specs.Registrants.{IsWellFormed}
use Rattle.pr_model.specs.Worlds.{restored}

-- each registration has one of the target's ports
abbrev pub HavePorts : List Pair → Type 0
HavePorts ps = All (λ p. IsTrue (is_port p.nexus.port)) ps

-- what a file may hold: at most 64 registrations, in order, with keys other than zero and ports of the target, and each reservation holder registered
pub record IsKeepable (k : Kept) : Type 0 where
  pub formed : IsWellFormed LIMIT (restored k)
  pub ports : HavePorts (restored k).pairs

-- each number fits its field of the file
abbrev pub AreInFields : List Pair → Type 0
AreInFields ps = All (λ p. (p.nexus.name < 2 ^ 64) × (p.key.0 < 2 ^ 64)) ps

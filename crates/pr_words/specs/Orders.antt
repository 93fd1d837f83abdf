-- Nexuses, and their order: by name, then by port (this project's own).
use Rattle.std.specs.Prelude.{◌==◌, ◌&&◌, ◌||◌, nat_lt, Bool}
use Rattle.pr_words.specs.declared.nexus.Nexus.{Nexus}

abbrev pub same_nexus : Nexus → Nexus → Bool
same_nexus a b = a.name == b.name && a.port == b.port

abbrev pub comes_before : Nexus → Nexus → Bool
comes_before a b = nat_lt a.name b.name || (a.name == b.name && nat_lt a.port b.port)

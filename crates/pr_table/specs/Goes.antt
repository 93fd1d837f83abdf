-- Which registrations leave (SPC-4, clearing and preempting).
use Rattle.std.specs.Prelude.{◌&&◌, not, Bool, true}
use Rattle.pr_words.specs.declared.nexus.Pair.{Pair}
use Rattle.pr_grammar.specs.Standings.{is_at}
use Rattle.pr_model.specs.Registrants.{has_key}
use Rattle.pr_table.specs.declared.leaving.Leaving.{Leaving}
use Rattle.pr_table.specs.declared.leaving.Leaving.TheVariants.{All, AllBut, Key, KeyBut}

abbrev pub goes : Leaving → Pair → Bool
goes All p = true
goes (AllBut n) p = not (is_at n p)
goes (Key k) p = has_key k.0 p
goes (KeyBut k n) p = has_key k.0 p && not (is_at n p)

-- What a nexus is told of a PERSISTENT RESERVE OUT of another.
use Rattle.std.specs.Prelude.{Bool, true, ◌&&◌, List, Option, Some, option_map, if◌then◌else◌}
use Rattle.pr_words.specs.declared.nexus.Nexus.{Nexus}
use Rattle.pr_words.specs.declared.nexus.Pair.{Pair}
use Rattle.pr_words.specs.declared.code.Code.{Code}
use Rattle.pr_grammar.specs.Standings.{is_registered}
use Rattle.pr_model.specs.Attentions.{with_code, is_other}
use Rattle.pr_model.specs.Tasks.{aborted}
use Rattle.pr_core.specs.declared.seats.Seat.{Seat}

-- a code is raised for a nexus, or not
abbrev pub raised_where : Bool → Option Code → List Code → List Code
raised_where true (Some c) cs = with_code c cs
raised_where _ _ cs = cs

-- the seat after an act of a caller that left these registrations and removed those, with the codes for both
abbrev pub told_seat : Nexus → List Pair → Option Code → List Pair → Option Code → Seat → Seat
told_seat caller stay stay_code gone removed_code s =
    record {
      nexus = s.nexus;
      owner = s.owner;
      attentions = raised_where (is_other caller stay s.nexus) stay_code (raised_where (is_other caller gone s.nexus) removed_code s.attentions);
      task = s.task;
    }

-- the seat after an act that removed these registrations and aborts their tasks, or doesn't
abbrev pub marked_seat : Bool → List Pair → Seat → Seat
marked_seat aborts gone s =
    record {
      nexus = s.nexus;
      owner = s.owner;
      attentions = s.attentions;
      task = if aborts && is_registered gone s.nexus then option_map aborted s.task else s.task;
    }

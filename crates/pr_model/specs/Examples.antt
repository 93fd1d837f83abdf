-- Worked examples, which compute: what commands are answered, what steps do, and what a session replies.
use Rattle.std.specs.Prelude.{◌≡◌, ℕ, true, false, List, [], ◌∷◌, replicate, Some, None}
use Rattle.pr_words.specs.declared.nexus.Nexus.{Nexus}
use Rattle.pr_words.specs.declared.code.Status.TheVariants as status
use Rattle.pr_words.specs.declared.task.Way.TheVariants as ways
use Rattle.pr_words.specs.declared.reservation.Kind.TheVariants.{WriteExclusive, ExclusiveRegistrants}
use Rattle.pr_words.specs.declared.reservation.Reservation.TheVariants.{OfOne}
use Rattle.pr_words.specs.declared.code.TheConstants.Code.{INVALID_FIELD_IN_CDB, LOGICAL_BLOCK_ADDRESS_OUT_OF_RANGE, PARAMETER_LIST_LENGTH_ERROR, WRITE_ERROR}
use Rattle.pr_words.specs.declared.limits.TheConstants.{LIMIT}
use Rattle.pr_grammar.specs.declared.cdb.Command.{Command}
use Rattle.pr_grammar.specs.declared.cdb.Command.TheVariants as commands
use Rattle.pr_grammar.specs.Bodies.{command_reply}
use Rattle.pr_grammar.specs.Frames.{frame, spelled}
use Rattle.pr_model.specs.Keeping.{Nothing}
use Rattle.pr_model.specs.Registrants.{pair}
use Rattle.pr_model.specs.Worlds.{Blocks, World, opened, set_at}
use Rattle.pr_model.specs.Tasks.{new_task, aborted}
use Rattle.pr_model.specs.Entries.{Started, Wrote, Read, Done, Aborted, Fault, Step, entry}
use Rattle.pr_model.specs.Commands.{Answer, answer, checking, good, conflict, conflict_checks, command_checks, first_or, served, reserve_out}
use Rattle.pr_model.specs.Acts.{acted}
use Rattle.pr_model.specs.Histories.{moved}
use Rattle.pr_model.specs.Lanes.{Job, In, Busy, lane, turned, after_step}

-- two nexuses, with keys of their own; B is registered, and so is A but where it is left out
abbrev pub a : Nexus
a = record { name = 0x11; port = 1 }

abbrev pub b : Nexus
b = record { name = 0x12; port = 1 }

abbrev pub medium : Blocks
medium = record { count = 2048; tells = true; at = λ lba. None }

abbrev pub nobody : World
nobody = opened medium true Nothing

abbrev pub both : World
both = record nobody { standing = record nobody.standing { pairs = pair a 0x90010001 ∷ pair b 0x90010002 ∷ [] } }

-- a command, by its own checks
abbrev pub asked : Command → List ℕ → Answer
asked command sent = first_or (command_checks nobody command sent) (served nobody a 0 command sent)

-- READ and WRITE of 2,048 blocks
pub record Transfers : Type 0 where
  pub too_many : asked (commands.Read false 0 0 1025) [] ≡ answer nobody (checking INVALID_FIELD_IN_CDB)
  pub protected : asked (commands.Read false 1 0 1) [] ≡ answer nobody (checking INVALID_FIELD_IN_CDB)
  pub beyond : asked (commands.Read false 0 2047 2) [] ≡ answer nobody (checking LOGICAL_BLOCK_ADDRESS_OUT_OF_RANGE)
  pub none_at_the_end : asked (commands.Read false 0 2048 0) [] ≡ answer nobody (good [])
  pub far_beyond : asked (commands.Read true 0 0xFFFFFFFFFFFFFFFF 1) [] ≡ answer nobody (checking LOGICAL_BLOCK_ADDRESS_OUT_OF_RANGE)
  pub without_data : asked (commands.Write false 0 0 1) [] ≡ answer nobody (checking PARAMETER_LIST_LENGTH_ERROR)
  pub begins : asked (commands.Read false 0 5 8) [] ≡ answer (record nobody { task = set_at nobody.task a (Some (new_task ways.Read 5 8)) }) (Started ways.Read)

-- B holds Exclusive Access, Registrants Only, and A isn't registered; B holds Write Exclusive, and A is registered
abbrev pub excluded : World
excluded = record both { standing = record both.standing { pairs = pair b 0x90010002 ∷ []; reservation = OfOne ExclusiveRegistrants b } }

abbrev pub write_excluded : World
write_excluded = record both { standing = record both.standing { reservation = OfOne WriteExclusive b } }

pub record Conflicts : Type 0 where
  pub stranger_reads : conflict_checks excluded a 0x28 ≡ Some (answer excluded conflict) ∷ []
  pub stranger_inquires : conflict_checks excluded a 0x12 ≡ None ∷ []
  pub registered_writes : conflict_checks write_excluded a 0x2A ≡ Some (answer write_excluded conflict) ∷ []
  pub registered_flushes : conflict_checks write_excluded a 0x35 ≡ Some (answer write_excluded conflict) ∷ []
  pub registered_reads : conflict_checks write_excluded a 0x28 ≡ None ∷ []
  pub holder_writes : conflict_checks write_excluded b 0x2A ≡ None ∷ []

-- a WRITE of A of 8 blocks runs, and B asks for A's key to be preempted: the world after it
abbrev pub writing : World
writing = record both { task = set_at both.task a (Some (new_task ways.Write 0 8)) }

abbrev pub preempted_by : ℕ → World
preempted_by action =
    (reserve_out writing b action (acted LIMIT writing.standing b (record { action = action; scope = 0; kind = 5; key = 0x90010002; action_key = 0x90010001; aptpl = false }))).world

-- PREEMPT AND ABORT marks A's task, PREEMPT doesn't
pub record Marks : Type 0 where
  pub abort : (preempted_by 5).task a ≡ Some (aborted (new_task ways.Write 0 8))
  pub preempt : (preempted_by 4).task a ≡ Some (new_task ways.Write 0 8)

-- steps of A's WRITE: a block is written, and the task goes on with the next; the medium fails, and the task has ended
pub record Steps : Type 0 where
  pub wrote : (moved writing (entry 0 a (Step (replicate 512 7)) Wrote)).medium.at 0 ≡ Some (replicate 512 7)
  pub others : (moved writing (entry 0 a (Step (replicate 512 7)) Wrote)).medium.at 1 ≡ None
  pub next : (moved writing (entry 0 a (Step (replicate 512 7)) Wrote)).task a ≡ Some (record (new_task ways.Write 0 8) { done = 1 })
  pub failed : (moved writing (entry 0 a (Step (replicate 512 7)) (Fault WRITE_ERROR))).task a ≡ None

-- a READ of A with tag 9, of which these bytes were read
abbrev pub job : List ℕ → Job
job bytes = record { lun = 0; tag = 9; way = ways.Read; bytes = bytes }

-- what is read is gathered in order, and goes out once the task is done; a task that is aborted is answered without it
pub record Replies : Type 0 where
  pub gathers : after_step a (job (1 ∷ 2 ∷ [])) [] 40 (Read (3 ∷ [])) ≡ turned (lane [] (Busy a (job (1 ∷ 2 ∷ 3 ∷ []))) 40) []
  pub done : after_step a (job (1 ∷ 2 ∷ [])) [] 40 Done ≡ turned (lane [] (In a) 40) (spelled (frame 0x82 0 9 (command_reply status.Good None (1 ∷ 2 ∷ []))))
  pub aborted : after_step a (job (1 ∷ 2 ∷ [])) [] 40 Aborted ≡ turned (lane [] (In a) 40) (spelled (frame 0x82 0 9 (command_reply status.TaskAborted None [])))

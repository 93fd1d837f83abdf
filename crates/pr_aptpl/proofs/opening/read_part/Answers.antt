use Rattle.std.proofs.Common.{◌∙◌, ap}
use Rattle.pr_words.specs.declared.limits.TheConstants.{LIMIT}
use Rattle.pr_grammar.specs.Files.{slot}
use Rattle.pr_aptpl.proofs.Keepable.{slot_sound}
use Rattle.pr_aptpl.proofs.ReadBack.{cut_read}
use Rattle.pr_aptpl.proofs.opening.read_part.Goals as goal
use Rattle.pr_aptpl.specs.declared.opening.TheConstants.{SLOT}

pub returns-in-Ok-read_slot-clause-slot : goal.returns-in-Ok-read_slot-clause-slot
returns-in-Ok-read_slot-clause-slot g c image now =
    c.in-Ok-read_slot.ensures ∙ ap (slot LIMIT c.args.at) (c.deref.ensures.value ∙ cut_read _ image c.args.at SLOT _ c.in-Ok.ensures.bytes now (c.read_into.ensures.room ∙ c.requires.room))

pub returns-in-Ok-read_slot-clause-sound : goal.returns-in-Ok-read_slot-clause-sound
returns-in-Ok-read_slot-clause-sound g c = slot_sound c.args.at _ _ c.in-Ok-read_slot.ensures

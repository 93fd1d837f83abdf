-- Whether something else is kept is told by the flags, the reservation, the number of registrations and the key in the caller's place.
use Rattle.std.proofs.Common.{ap, sym, ◌∙◌, arith}
use Rattle.pr_model.specs.Keeping.{keeps_by, same_reservation}
use Rattle.pr_model.proofs.Puts.{acted_keeps}
use Rattle.pr_model.proofs.Refusals.{refused_stays}
use Rattle.pr_table.specs.Tables.{standing_of, limit_of}
use Rattle.pr_table.specs.Told.{requested}
use Rattle.pr_table.proofs.Staying.{still_same}
use Rattle.pr_table.proofs.table.Table.serve.Goals as goal

pub returns-in-Good-clause-keeps : goal.returns-in-Good-clause-keeps
returns-in-Good-clause-keeps c =
    let s = standing_of c.args.self.now in
    let t = standing_of c.decide-verdict.new.self in
    let o = requested c.args.request.now c.args.list.now in
    let notes = c.note-note.ensures.notes in
    c.keeps-keeps.ensures.keeps s c.args.nexus notes
    ∙ ap (λ b. keeps_by s.preserve t.preserve b (same_reservation s.reservation t.reservation)) (still_same (limit_of c.args.self.now) s c.args.nexus o t c.note-note.result.place notes.place c.decide-verdict.ensures.does.standing)
    ∙ sym (acted_keeps (limit_of c.args.self.now) s c.args.nexus o t c.note-note.ensures.order c.decide-verdict.ensures.does.standing)

pub returns-in-Conflict-clause-keeps : goal.returns-in-Conflict-clause-keeps
returns-in-Conflict-clause-keeps c =
    sym (c.decide-verdict.ensures.does.standing ∙ (refused_stays (limit_of c.args.self.now) (standing_of c.args.self.now) c.args.nexus (requested c.args.request.now c.args.list.now) (λ good. absurd (grind (arith, good, c.in-Conflict.ensures.does.tells)))).0)

pub returns-in-Bad-clause-keeps : goal.returns-in-Bad-clause-keeps
returns-in-Bad-clause-keeps c =
    sym (c.decide-verdict.ensures.does.standing ∙ (refused_stays (limit_of c.args.self.now) (standing_of c.args.self.now) c.args.nexus (requested c.args.request.now c.args.list.now) (λ good. absurd (grind (arith, good, c.in-Bad.ensures.does.tells)))).0)

use Rattle.std.proofs.Common.{◌≡◌, ◌∙◌, ℕ, [], ◌∷◌, take, sym, subst, lit<}
use Rattle.pr_grammar.specs.Files.{file_head, file_layout, spelled_slot}
use Rattle.pr_io.specs.declared.outside.Failed.{Failed}
use Rattle.pr_words.specs.declared.limits.TheConstants.{LIMIT}
use Rattle.pr_model.specs.Keeping.{kept}
use Rattle.pr_table.specs.Tables.{standing_of}
use Rattle.pr_aptpl.specs.Slots.{Stands}
use Rattle.pr_aptpl.specs.declared.aim.Aim.{Aim}
use Rattle.pr_aptpl.proofs.Apart.{apart}
use Rattle.pr_aptpl.proofs.Saving.{after_one, after_two, after_three, after_all}
use Rattle.pr_aptpl.proofs.Spelled.{body_spelled, body_small}
use Rattle.pr_aptpl.proofs.Telling.{puts_told, closes_told}
use Rattle.pr_aptpl.proofs.keeper.Keeper.save.Goals as goal

pub returns-in_err-close-clause-saves : goal.returns-in_err-close-clause-saves
returns-in_err-close-clause-saves g c ks st =
    let e = after_one file_head file_layout apart c.args.self.now.aim.target c.args.self.now.aim.turn _ c.gate-gate.ensures ks _ _ c.close.result _ _ c.close.ensures.closes st c.from_residual.result (kept (standing_of c.args.table.now))
    c.from_residual.ensures.0 c.in_err-close.ensures.closes.stays in
    record { moments = e.0; at_end = e.1; stands = e.2 }

pub returns-in_err-fill-clause-saves : goal.returns-in_err-fill-clause-saves
returns-in_err-fill-clause-saves g c ks st =
    let e = after_two file_head file_layout apart c.args.self.now.aim.target c.args.self.now.aim.turn _ c.gate-gate.ensures ks _ _ c.close.result _ _ c.close.ensures.closes st _ c.in_ok-close.was _ c.fill.result _
    (body_small c.spell_into-len.result LIMIT c.deref.result.now c.spell_into-len.new.buffer.items c.deref.ensures.value c.spell_into-len.ensures.room c.spell_into-len.ensures.most) c.fill.ensures.puts
    c.from_residual-in_err-fill.result (kept (standing_of c.args.table.now)) c.from_residual-in_err-fill.ensures.0 c.in_ok-close.ensures.closes.closed in
    record { moments = e.0; at_end = e.1; stands = e.2 }

pub returns-in_err-open_gate-clause-saves : goal.returns-in_err-open_gate-clause-saves
returns-in_err-open_gate-clause-saves g c ks st =
    let e = after_three file_head file_layout apart c.args.self.now.aim.target c.args.self.now.aim.turn _ c.gate-gate.ensures ks _ _ c.close.result _ _ c.close.ensures.closes st _ c.in_ok-close.was _ c.fill.result _
    (body_small c.spell_into-len.result LIMIT c.deref.result.now c.spell_into-len.new.buffer.items c.deref.ensures.value c.spell_into-len.ensures.room c.spell_into-len.ensures.most) c.fill.ensures.puts
    _ c.in_ok-fill.was (standing_of c.args.table.now) c.requires.formed c.requires.ports c.spell_into-len.ensures.fits (lit< tt)
    (body_spelled c.spell_into-len.result _ (kept (standing_of c.args.table.now)) c.deref.result.now c.spell_into-len.new.buffer.items c.deref.ensures.value
    (subst (λ (t : ℕ). take c.spell_into-len.result c.spell_into-len.new.buffer.items ≡ spelled_slot t (kept (standing_of c.args.table.now))) c.next_turn-turn.ensures.turn c.spell_into-len.ensures.bytes))
    _ c.open_gate.result c.open_gate.ensures.puts
    c.from_residual-in_err-open_gate.result c.from_residual-in_err-open_gate.ensures.0 in
    record { moments = e.0; at_end = e.1; stands = e.2 }

pub returns-clause-saves : goal.returns-clause-saves
returns-clause-saves g c ks st =
    let e = after_all file_head file_layout apart c.args.self.now.aim.target c.args.self.now.aim.turn _ c.gate-gate.ensures ks _ _ c.close.result _ _ c.close.ensures.closes st _ c.in_ok-close.was _ c.fill.result _
    (body_small c.spell_into-len.result LIMIT c.deref.result.now c.spell_into-len.new.buffer.items c.deref.ensures.value c.spell_into-len.ensures.room c.spell_into-len.ensures.most) c.fill.ensures.puts
    _ c.in_ok-fill.was (standing_of c.args.table.now) c.requires.formed c.requires.ports c.spell_into-len.ensures.fits (lit< tt)
    (body_spelled c.spell_into-len.result _ (kept (standing_of c.args.table.now)) c.deref.result.now c.spell_into-len.new.buffer.items c.deref.ensures.value
    (subst (λ (t : ℕ). take c.spell_into-len.result c.spell_into-len.new.buffer.items ≡ spelled_slot t (kept (standing_of c.args.table.now))) c.next_turn-turn.ensures.turn c.spell_into-len.ensures.bytes))
    _ c.open_gate.result c.open_gate.ensures.puts
    Failed _ c.in_ok-open_gate.was (tt {0}) _ c.next_turn-turn.ensures.turn in
    record {
      moments = e.0;
      at_end = e.1;
      stands = subst (λ (a : Aim). Stands file_head file_layout a.target a.turn a.may_be_open (g.D.Disk.story c.open_gate.new.disk) (kept (standing_of c.args.table.now) ∷ [])) (sym c.after-self.ensures) e.2;
    }

pub returns-in_err-close-clause-told : goal.returns-in_err-close-clause-told
returns-in_err-close-clause-told g c = closes_told c.close.result _ _ _ _ _ c.close.ensures.closes

pub returns-in_err-fill-clause-told : goal.returns-in_err-fill-clause-told
returns-in_err-fill-clause-told g c = puts_told c.fill.result _ _ _ _ c.fill.ensures.puts ∙ closes_told c.close.result _ _ _ _ _ c.close.ensures.closes

pub returns-in_err-open_gate-clause-told : goal.returns-in_err-open_gate-clause-told
returns-in_err-open_gate-clause-told g c = puts_told c.open_gate.result _ _ _ _ c.open_gate.ensures.puts ∙ puts_told c.fill.result _ _ _ _ c.fill.ensures.puts ∙ closes_told c.close.result _ _ _ _ _ c.close.ensures.closes

pub returns-clause-told : goal.returns-clause-told
returns-clause-told g c = puts_told c.open_gate.result _ _ _ _ c.open_gate.ensures.puts ∙ puts_told c.fill.result _ _ _ _ c.fill.ensures.puts ∙ closes_told c.close.result _ _ _ _ _ c.close.ensures.closes

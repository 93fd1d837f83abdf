use Rattle.std.proofs.Common.{◌∙◌, sym}
use Rattle.pr_link.specs.Deframer.{held_of}
use Rattle.pr_tool.specs.declared.exit.Exit.TheVariants.{Done}
use Rattle.pr_tool.proofs.Showings.{last_end, last_cut, ends_text, ends_unread, ends_counted, not_read, not_write}
use Rattle.pr_tool.proofs.show.Viewer.end.Goals as goal

pub returns-then-held-eq0-clause-ends : goal.returns-then-held-eq0-clause-ends
returns-then-held-eq0-clause-ends g c fs lacks counted placed =
    ends_text Done c.stop.result _ _ _ _ _ _ c.stop.ensures.ends
    (c.deref.ensures.value ∙ c.push_end.ensures.items ∙ last_end fs (held_of c.args.self.now.deframer) c.args.self.now.text.items lacks c.args.self.now.frames (sym c.held-held.ensures.held ∙ c.if-held-eq0.true) counted)

pub returns-clause-ends : goal.returns-clause-ends
returns-clause-ends g c fs lacks counted placed =
    ends_text Done c.stop-2.result _ _ _ _ _ _ c.stop-2.ensures.ends
    (c.deref-2.ensures.value ∙ c.push_cut.ensures.items ∙ last_cut fs (held_of c.args.self.now.deframer) c.args.self.now.text.items lacks c.place.result (λ none. c.if-held-eq0.false (c.held-held.ensures.held ∙ none)) (c.place.ensures ∙ placed))

pub returns-then-held-eq0-clause-read : goal.returns-then-held-eq0-clause-read
returns-then-held-eq0-clause-read g c = ends_unread Done c.stop.result _ _ _ _ _ c.stop.ensures.ends not_read

pub returns-then-held-eq0-clause-faults : goal.returns-then-held-eq0-clause-faults
returns-then-held-eq0-clause-faults g c = ends_counted Done c.stop.result _ _ _ _ _ c.stop.ensures.ends not_write

pub returns-clause-read : goal.returns-clause-read
returns-clause-read g c = ends_unread Done c.stop-2.result _ _ _ _ _ c.stop-2.ensures.ends not_read

pub returns-clause-faults : goal.returns-clause-faults
returns-clause-faults g c = ends_counted Done c.stop-2.result _ _ _ _ _ c.stop-2.ensures.ends not_write

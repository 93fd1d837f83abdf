-- The descriptor in a place stands behind those before it.
use Rattle.std.proofs.Common.{◌≡◌, ◌*◌, ◌<◌, length, ap, sym, ◌∙◌, arith}
use Rattle.std.specs.Prelude.{slice_get, Some}
use Rattle.std.proofs.lemmas.List.{take_rest}
use Rattle.pr_grammar.specs.InReplies.{entries_from, entry_of}
use Rattle.pr_param.proofs.Readings.{length_entries, entry_in}
use Rattle.pr_param.proofs.full.Full.at.Goals as goal

pub returns : goal.returns
returns c =
    let n = c.self.inside.count in
    let bytes = c.self.inside.descriptors.now in
    let listed : entries_from n bytes ≡ c.args.self.now.entries = ap (λ f. f.entries) c.self.view_is in
    let lt : c.args.i < n = omega (arith, c.requires, ap length listed, length_entries n bytes) in
    ap (λ es. slice_get es c.args.i) (sym listed) ∙ entry_in n c.args.i bytes lt
    ∙ ap (λ b. Some (entry_of b)) (sym (take_rest bytes (48 * c.args.i))) ∙ ap (λ e. Some e) (sym c.entry_of.ensures)

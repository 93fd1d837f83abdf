use Rattle.std.proofs.Common.{ℕ, List, sym, ◌∙◌, ap}
use Rattle.pr_grammar.specs.Files.{file_head}
use Rattle.pr_aptpl.specs.Opens.{first_diff}
use Rattle.pr_aptpl.proofs.ReadBack.{cut_read}
use Rattle.pr_aptpl.proofs.opening.read_head.Goals as goal

pub returns-in-Some-clause-says : goal.returns-in-Some-clause-says
returns-in-Some-clause-says g c image now =
    ap (λ (l : List ℕ). first_diff file_head l 0) (sym (cut_read _ image 0 9 _ c.in-Ok.ensures.bytes now c.read_at.auto.buf)) ∙ sym c.first_difference.ensures ∙ c.in-Some.is

pub returns-in-None-clause-says : goal.returns-in-None-clause-says
returns-in-None-clause-says g c image now =
    ap (λ (l : List ℕ). first_diff file_head l 0) (sym (cut_read _ image 0 9 _ c.in-Ok.ensures.bytes now c.read_at.auto.buf)) ∙ sym c.first_difference.ensures ∙ c.in-None.is

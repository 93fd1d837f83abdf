use Rattle.std.proofs.Common.{List, ℕ, [], ◌∷◌, sym, ap, ◌∙◌}
use Rattle.std.specs.Prelude.{codes}
use Rattle.pr_tool.specs.Asking.{decimal}
use Rattle.pr_tool.proofs.Words.{two_words, second_word}
use Rattle.pr_tool.proofs.asking.lanes_asked.Goals as goal

pub returns-in-replay : goal.returns-in-replay
returns-in-replay c lanes =
    let number : List ℕ = c.as_bytes.result.now in
    let two = two_words c.args.words.now _ _ (codes "replay") number c.in-replay.len_at_least c.in-replay.len_below c.in-replay.is-replay c.as_bytes.ensures.value in (
      λ is. let p = (c.lanes_in.ensures lanes).0 is in (p.0, p.1, two ∙ ap (λ (w : List ℕ). codes "replay" ∷ w ∷ []) p.2),
      λ asks. (c.lanes_in.ensures lanes).1 (asks.0, asks.1, second_word (codes "replay") number (codes "replay") (decimal lanes) (sym two ∙ asks.2)),
    )

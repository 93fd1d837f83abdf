-- The descriptors so far stand behind the head, as far as the buffer goes.
use Rattle.std.proofs.Common.{◌≡◌, ◌++◌, take, ◌*◌, ◌^◌, ◌<◌, length}
use Rattle.std.specs.Prelude.{All}
use Rattle.std.specs.List.{flat_map}
use Rattle.std.specs.Int.{w32, to_be_bytes}
use Rattle.pr_grammar.specs.InReplies.{descriptor, FitsPair}
use Rattle.pr_grammar.specs.Standings.{kind_of, holder_of}
use Rattle.pr_param.specs.Laid.{laid}
use Rattle.pr_param.proofs.writing.put_full.Given as goal

abbrev pub invariant-loop-i : goal.invariant-loop-i
invariant-loop-i g l =
    let s = g.R.Registrants.standing l.from in
    (l.out ≡ laid ((to_be_bytes w32 s.generation ++ to_be_bytes w32 (48 * length s.pairs)) ++ flat_map (descriptor (kind_of s.reservation) (holder_of s.reservation)) (take l.i s.pairs)) l.fn.out)
    × (All FitsPair (take l.i s.pairs)) × (s.generation < 2 ^ 32)

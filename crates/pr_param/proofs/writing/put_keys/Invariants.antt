-- The keys so far stand behind the head, as far as the buffer goes.
use Rattle.std.proofs.Common.{◌≡◌, ◌++◌, take, ◌*◌, ◌^◌, ◌<◌, length}
use Rattle.std.specs.Prelude.{All}
use Rattle.std.specs.List.{flat_map}
use Rattle.std.specs.Int.{w32, to_be_bytes}
use Rattle.pr_grammar.specs.InReplies.{key_bytes}
use Rattle.pr_param.specs.Fits.{FitsKey}
use Rattle.pr_param.specs.Laid.{laid}
use Rattle.pr_param.proofs.writing.put_keys.Given as goal

abbrev pub invariant-loop-i : goal.invariant-loop-i
invariant-loop-i g l =
    let s = g.R.Registrants.standing l.from in
    (l.out ≡ laid ((to_be_bytes w32 s.generation ++ to_be_bytes w32 (8 * length s.pairs)) ++ flat_map key_bytes (take l.i s.pairs)) l.fn.out)
    × (All FitsKey (take l.i s.pairs)) × (s.generation < 2 ^ 32)

use Rattle.std.proofs.Common.{◌≡◌, ◌≤◌, ◌<◌, ◌-◌, ℕ, List, take, drop, length, refl, ◌∙◌, subst, arith}
use Rattle.std.proofs.lemmas.List.{length-drop}
use Rattle.pr_model.specs.Lanes.{arrived}
use Rattle.pr_io.proofs.Sent.{always_err}
use Rattle.pr_session.specs.Feeding.{fed}
use Rattle.pr_tool.specs.Lanes.{lane_of}
use Rattle.pr_tool.proofs.Running.{room_start, room_more, room_fed, room_end, room_cut, fed_full, fed_within, agrees_still, all_behind}
use Rattle.pr_tool.proofs.Places.{keeps_more}
use Rattle.pr_tool.proofs.replay.arrive.Goals as goal

pub loop-at-init : goal.loop-at-init
loop-at-init g c =
    let l = lane_of c.args.lane.now in
    let bytes : List ℕ = c.args.bytes.now in
    record {
      within = omega (arith, c.feed-at.ensures.count, fed_within l.phase l.bytes bytes);
      ran = room_start c.args.who c.args.core.now _ l (lane_of c.feed-at.new.self) bytes c.feed-at.result c.feed-at.ensures.lane;
      others = λ other n apart is. (is, refl);
      agrees = agrees_still c.args.who c.args.core.now l (lane_of c.feed-at.new.self) (take c.feed-at.result bytes) c.feed-at.ensures.lane c.requires;
      full = λ less. fed_full l (lane_of c.feed-at.new.self) bytes c.feed-at.result c.feed-at.ensures.count c.feed-at.ensures.lane c.feed-at.ensures.bound less;
      bound = c.feed-at.ensures.bound;
      calm = refl;
    }

pub returns-in_err-turn-clause-some : goal.returns-in_err-turn-clause-some
returns-in_err-turn-clause-some g c =
    let rest : List ℕ = drop c.loop-at.at c.args.bytes.now in
    let full = c.loop-at.invariant.full c.loop-at-test.true in
    let behind : 0 < length rest = omega (arith, length-drop c.loop-at.at c.args.bytes.now, c.loop-at-test.true) in
    always_err c.from_residual.result (
      arrived (lane_of c.turn.new.self) rest,
      room_cut c.args.who c.args.core.now c.loop-at.core c.turn.new.core _ _ _ (lane_of c.args.lane.now) (lane_of c.loop-at.lane) (lane_of c.turn.new.self) c.args.bytes.now rest c.loop-at.invariant.ran full.0 full.1 behind c.in_err-turn.ensures.some,
    )

pub returns-in_err-turn-clause-others : goal.returns-in_err-turn-clause-others
returns-in_err-turn-clause-others g c = keeps_more c.args.who c.args.core.now c.loop-at.core c.turn.new.core c.loop-at.invariant.others c.turn.ensures.others

pub loop-at-preserved : goal.loop-at-preserved
loop-at-preserved g c =
    let at : ℕ = c.loop-at.at in
    let bytes : List ℕ = c.args.bytes.now in
    let rest : List ℕ = drop at bytes in
    let l = lane_of c.args.lane.now in
    let mid = lane_of c.turn.new.self in
    let next = lane_of c.feed-at-in-loop-at.new.self in
    let n : ℕ = c.feed-at-in-loop-at.result in
    let full = c.loop-at.invariant.full c.loop-at-test.true in
    let size : length rest ≡ length bytes - at = length-drop at bytes in
    let behind : 0 < length rest = omega (arith, size, c.loop-at-test.true) in
    let count : n ≡ fed mid rest = subst (λ (w : List ℕ). n ≡ fed mid w) (all_behind at bytes) c.feed-at-in-loop-at.ensures.count in
    let goes : next ≡ arrived mid (take n rest) = subst (λ (w : List ℕ). next ≡ arrived mid (take n w)) (all_behind at bytes) c.feed-at-in-loop-at.ensures.lane in
    let within : n ≤ length rest = omega (arith, count, fed_within mid.phase mid.bytes rest) in
    record {
      within = omega (arith, within, size, c.loop-at-test.true);
      ran =
          room_fed c.args.who c.args.core.now c.turn.new.core _ _ l mid next bytes at n
          (room_more c.args.who c.args.core.now c.loop-at.core c.turn.new.core _ _ _ l (lane_of c.loop-at.lane) mid bytes rest c.loop-at.invariant.ran full.0 full.1 behind c.in_ok-turn.ensures.all) goes;
      others = keeps_more c.args.who c.args.core.now c.loop-at.core c.turn.new.core c.loop-at.invariant.others c.turn.ensures.others;
      agrees = agrees_still c.args.who c.turn.new.core mid next (take n rest) goes c.turn.ensures.agrees;
      full = λ less. fed_full mid next rest n count goes c.feed-at-in-loop-at.ensures.bound (omega (arith, less, size));
      bound = c.feed-at-in-loop-at.ensures.bound;
      calm = (rw c.in_ok-turn.was at c.turn.ensures.cause.calm) ∙ c.loop-at.invariant.calm;
    }

pub returns-clause-all : goal.returns-clause-all
returns-clause-all g c = room_end c.args.who c.args.core.now c.loop-at.core _ _ (lane_of c.args.lane.now) (lane_of c.loop-at.lane) c.args.bytes.now c.loop-at.at c.loop-at-test.false c.loop-at.invariant.bound c.loop-at.invariant.ran

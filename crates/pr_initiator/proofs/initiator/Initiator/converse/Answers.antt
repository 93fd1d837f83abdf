use Rattle.std.proofs.Common.{ℕ, ◌+◌, List, take, arith, sym, ap, ◌∙◌, slice_range}
use Rattle.std.proofs.lemmas.List.{length-take-le}
use Rattle.pr_initiator.specs.Links.{place_behind}
use Rattle.pr_initiator.proofs.Replying.{brings}
use Rattle.pr_initiator.proofs.initiator.Initiator.converse.Goals as goal

pub invariant_of-self : goal.invariant_of-self
invariant_of-self g c =
    let work : List ℕ = c.ask_in-heard.new.work.items in
    let asks = c.in-Ok.ensures.asks in
    let has = brings work c.in-Ok.heard.size c.args.asked c.args.self.now.tag c.args.self.now.place asks.1 c.in-Ok.heard.reply (omega (arith, c.ask_in-heard.ensures.room)) (omega (arith, c.ask_in-heard.ensures.room, c.in-Ok.ensures.size)) asks.2 asks.3 in
    record { room = c.ask_in-heard.ensures.room; within = omega (arith, has.room, c.ask_in-heard.ensures.room, c.data_in_of-self.ensures) }

pub returns-in-Ok-clause-replied : goal.returns-in-Ok-clause-replied
returns-in-Ok-clause-replied g c =
    let work : List ℕ = c.ask_in-heard.new.work.items in
    let asks = c.in-Ok.ensures.asks in
    let size : ℕ = c.in-Ok.heard.size in
    let has = brings work size c.args.asked c.args.self.now.tag c.args.self.now.place asks.1 c.in-Ok.heard.reply (omega (arith, c.ask_in-heard.ensures.room)) (omega (arith, c.ask_in-heard.ensures.room, c.in-Ok.ensures.size)) asks.2 asks.3 in
    record {
      heard = take size work;
      frame = asks.1;
      goes = asks.0;
      whole = asks.2;
      judged = asks.3;
      place = ap (place_behind c.args.self.now.place) (sym (length-take-le size work (omega (arith, c.ask_in-heard.ensures.room, c.in-Ok.ensures.size))));
      received = ap (λ (n : ℕ). slice_range work 16 (16 + n)) c.data_in_of-self.ensures ∙ has.data_in;
    }

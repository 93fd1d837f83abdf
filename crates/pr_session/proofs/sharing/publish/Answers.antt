use Rattle.std.proofs.Common.{◌≡◌, ℕ, [], ◌∷◌, ◌++◌, Some, sym, ap, ◌∙◌, subst}
use Rattle.pr_model.specs.Entries.{Entry, History, entry}
use Rattle.pr_core.specs.declared.target.Core.{Core}
use Rattle.pr_core.specs.Shared.{Stands, ground_in}
use Rattle.pr_gate.specs.Passes.{number_of, seen_of, own_of, ground_of}
use Rattle.pr_session.specs.States.{asked_in}
use Rattle.pr_session.specs.Sessions.{work_of}
use Rattle.pr_session.specs.Acts.{act_by, outcome_by}
use Rattle.pr_session.specs.Asking.{nexus_in}
use Rattle.pr_session.specs.Driving.{Does, IsReadyIn}
use Rattle.pr_session.proofs.Sharings.{holds_now, right_seen, asked_some, stands_more, same_ground_after}
use Rattle.pr_session.proofs.sharing.publish.Goals as goal

pub sent_bytes-sent-requires : goal.sent_bytes-sent-requires
sent_bytes-sent-requires g c = c.requires.wants

pub perform-out-requires : goal.perform-out-requires
perform-out-requires g c =
    let old = c.args.pass.now in
    let new = c.enter.new.pass in
    let core = c.value.result.now in
    subst (λ (w : ℕ). IsReadyIn c.args.session.now core w) (sym c.number-who.ensures)
    (holds_now (ground_of old) (ground_of new) (number_of old) (number_of new) (seen_of old) (seen_of new) (own_of old) (own_of new) core c.in_ok-turn.turn.value.value (λ k. IsReadyIn c.args.session.now k (number_of old)) c.requires.ready
    c.in_ok-turn.ensures.begins c.enter.ensures.same.4 c.enter.ensures.same.1 old.owned new.owned c.in_ok-turn.ensures.own c.in_ok-turn.ensures.ground c.in_ok-turn.ensures.value c.value.ensures.value)

pub entry-entry-requires : goal.entry-entry-requires
entry-entry-requires g c =
    let a = asked_some (asked_in c.args.session.now.state) c.requires.wants in
    (a.0, ap asked_in c.perform-out.ensures.keeps.0 ∙ a.1, (c.perform-out.ensures.does a.0 a.1).fits)

pub leave-requires-clause-ground : goal.leave-requires-clause-ground
leave-requires-clause-ground g c κs within =
    let a = asked_some (asked_in c.args.session.now.state) c.requires.wants in
    let core = c.value.result.now in
    c.in_ok-turn.ensures.ground ∙ ap (λ (k : Core g.row.M.Denot g.row.D.Denot g.M.Medium g.D.Disk). Some (ground_in k)) (sym c.value.ensures.value)
    ∙ ap Some (sym (same_ground_after a.0 c.number-who.result core c.perform-out.new.core (work_of c.args.session.now) (work_of c.perform-out.new.self) c.perform-out.result (c.perform-out.ensures.does a.0 a.1)))

pub leave-requires-clause-number : goal.leave-requires-clause-number
leave-requires-clause-number g c κs within =
    let a = asked_some (asked_in c.args.session.now.state) c.requires.wants in
    ap (λ (e : Entry). e.who) (c.entry-entry.ensures a.0 (work_of c.args.session.now) (ap asked_in c.perform-out.ensures.keeps.0 ∙ a.1) (c.sent_bytes-sent.ensures a.0 a.1)) ∙ c.number-who.ensures ∙ sym c.enter.ensures.same.1

pub leave-requires-clause-stands : goal.leave-requires-clause-stands
leave-requires-clause-stands g c κs within =
    let a = asked_some (asked_in c.args.session.now.state) c.requires.wants in
    let core = c.value.result.now in
    let seen : History = seen_of c.enter.new.pass in
    let made = c.entry-entry.ensures a.0 (work_of c.args.session.now) (ap asked_in c.perform-out.ensures.keeps.0 ∙ a.1) (c.sent_bytes-sent.ensures a.0 a.1) in
    let before : Stands core seen = subst (λ (k : Core g.row.M.Denot g.row.D.Denot g.M.Medium g.D.Disk). Stands k seen) (sym c.value.ensures.value) c.in_ok-turn.ensures.value in
    subst (λ (e : Entry). Stands c.perform-out.new.core (seen ++ e ∷ [])) (sym made)
    (stands_more a.0 c.number-who.result core c.perform-out.new.core (work_of c.args.session.now) (work_of c.perform-out.new.self) c.perform-out.result seen (c.perform-out.ensures.does a.0 a.1) before)

pub returns-clause-right : goal.returns-clause-right
returns-clause-right g c k is right =
    let a = asked_some (asked_in c.args.session.now.state) c.requires.wants in
    let core = c.value.result.now in
    let next = c.perform-out.new.core in
    let seen : History = seen_of c.enter.new.pass in
    let does = c.perform-out.ensures.does a.0 a.1 in
    let made = c.entry-entry.ensures a.0 (work_of c.args.session.now) (ap asked_in c.perform-out.ensures.keeps.0 ∙ a.1) (c.sent_bytes-sent.ensures a.0 a.1) in
    let before : Stands core seen = subst (λ (k : Core g.row.M.Denot g.row.D.Denot g.M.Medium g.D.Disk). Stands k seen) (sym c.value.ensures.value) c.in_ok-turn.ensures.value in
    let now : Stands next (seen_of c.leave.new.pass) = subst (Stands next) (sym c.leave.ensures.seen)
    (subst (λ (e : Entry). Stands next (seen ++ e ∷ [])) (sym made) (stands_more a.0 c.number-who.result core next (work_of c.args.session.now) (work_of c.perform-out.new.self) c.perform-out.result seen does before)) in
    let held : ground_of c.args.pass.now ≡ Some (ground_in next) = sym c.enter.ensures.same.4 ∙ c.in_ok-turn.ensures.ground ∙ ap (λ (k : Core g.row.M.Denot g.row.D.Denot g.M.Medium g.D.Disk). Some (ground_in k)) (sym c.value.ensures.value)
    ∙ ap Some (sym (same_ground_after a.0 c.number-who.result core next (work_of c.args.session.now) (work_of c.perform-out.new.self) c.perform-out.result does)) in
    right_seen next k (ground_of c.args.pass.now) (seen_of c.leave.new.pass) is held now

pub returns-clause-publishes : goal.returns-clause-publishes
returns-clause-publishes g c a is =
    let core = c.value.result.now in
    let next = c.perform-out.new.core in
    let work = work_of c.args.session.now in
    let left = work_of c.perform-out.new.self in
    let out = c.perform-out.result in
    let seen : History = seen_of c.enter.new.pass in
    let does = c.perform-out.ensures.does a is in
    let made = c.entry-entry.ensures a work (ap asked_in c.perform-out.ensures.keeps.0 ∙ is) (c.sent_bytes-sent.ensures a is) in
    let before : Stands core seen = subst (λ (k : Core g.row.M.Denot g.row.D.Denot g.M.Medium g.D.Disk). Stands k seen) (sym c.value.ensures.value) c.in_ok-turn.ensures.value in
    record {
      old = core;
      new = next;
      does = subst (λ (w : ℕ). Does a w core work out next left) c.number-who.ensures does;
      ground_is = c.leave.ensures.same.4 ∙ c.in_ok-turn.ensures.ground ∙ ap (λ (k : Core g.row.M.Denot g.row.D.Denot g.M.Medium g.D.Disk). Some (ground_in k)) (sym c.value.ensures.value)
          ∙ ap Some (sym (same_ground_after a c.number-who.result core next work left out does));
      stands = subst (Stands next) (sym c.leave.ensures.seen) (subst (λ (e : Entry). Stands next (seen ++ e ∷ [])) (sym made) (stands_more a c.number-who.result core next work left out seen does before));
      published = c.leave.ensures.own ∙ ap (λ (h : History). h ++ c.entry-entry.result ∷ []) c.in_ok-turn.ensures.own ∙ ap (λ (e : Entry). own_of c.args.pass.now ++ e ∷ []) made
          ∙ ap (λ (w : ℕ). own_of c.args.pass.now ++ entry w (nexus_in a) (act_by a work) (outcome_by a out left) ∷ []) c.number-who.ensures;
    }

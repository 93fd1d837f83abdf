-- What a command of the agent is answered where no unit attention waits for its nexus (SPC-4).
use Rattle.std.proofs.Common.{◌≡◌, ℕ, Bool, true, false, List, [], ◌∷◌, take, Option, Some, None, refl}
use Rattle.pr_words.specs.declared.code.Code.{Code}
use Rattle.pr_words.specs.declared.limits.TheConstants.{LIMIT}
use Rattle.pr_words.specs.declared.nexus.Nexus.{Nexus}
use Rattle.pr_words.specs.declared.reservation.Kind.{Kind}
use Rattle.pr_words.specs.declared.reservation.Kind.TheVariants.{WriteExclusive, ExclusiveAccess, WriteRegistrants, ExclusiveRegistrants, WriteAll, ExclusiveAll}
use Rattle.pr_words.specs.declared.service.InService.TheVariants as ins
use Rattle.pr_words.specs.declared.service.OutService.TheVariants as outs
use Rattle.pr_words.specs.declared.role.Role.{Role}
use Rattle.pr_words.specs.declared.role.Role.TheVariants.{Holder, Registered, Stranger}
use Rattle.pr_grammar.specs.declared.cdb.Class.TheVariants.{Free}
use Rattle.pr_grammar.specs.Cdbs.{spelled_cdb}
use Rattle.pr_grammar.specs.Standings.{kind_of}
use Rattle.pr_grammar.specs.InReplies.{full_reply, keys_reply, reservation_reply}
use Rattle.pr_grammar.specs.OutLists.{list_of, spelled_list}
use Rattle.pr_model.specs.Acts.{acted}
use Rattle.pr_model.specs.Commands.{answer, answered, checking, good, out_request, reserve_out as reserves_out}
use Rattle.pr_model.specs.Conflicts.{conflicts_in, role_of}
use Rattle.pr_model.specs.Worlds.{World, set_at}
use Rattle.pr_initiator.specs.Commands.{Order, out_list, plain_cdb, reserve_in, reserve_out, test_unit_ready}

-- what every nexus may do, whoever holds a reservation
free : (k : Option Kind) (r : Role) → conflicts_in k r Free ≡ false
free None r = refl
free (Some k) Holder = refl
free (Some WriteExclusive) Registered = refl
free (Some ExclusiveAccess) Registered = refl
free (Some WriteRegistrants) Registered = refl
free (Some ExclusiveRegistrants) Registered = refl
free (Some WriteAll) Registered = refl
free (Some ExclusiveAll) Registered = refl
free (Some WriteExclusive) Stranger = refl
free (Some ExclusiveAccess) Stranger = refl
free (Some WriteRegistrants) Stranger = refl
free (Some ExclusiveRegistrants) Stranger = refl
free (Some WriteAll) Stranger = refl
free (Some ExclusiveAll) Stranger = refl

abbrev pub cdb_of : Order → List ℕ
cdb_of o = spelled_cdb (plain_cdb o.command)

module _ (w : World) (n : Nexus) where
  pub attended : (c : Code) (cs : List Code) → w.attentions n ≡ c ∷ cs → answered w n 0 (cdb_of test_unit_ready) [] ≡ answer (record w { attentions = set_at w.attentions n cs }) (checking c)
  unfolding answered
  attended c cs waits = rw waits refl

  module _ (quiet : w.attentions n ≡ []) where
    pub ready_granted : answered w n 0 (cdb_of test_unit_ready) [] ≡ answer w (good [])
    unfolding answered
    ready_granted = rw (quiet, free (kind_of w.standing.reservation) (role_of w.standing n)) refl

    pub keys_granted : answered w n 0 (cdb_of (reserve_in ins.ReadKeys)) [] ≡ answer w (good (take 65535 (keys_reply w.standing)))
    unfolding answered
    keys_granted = rw (quiet, free (kind_of w.standing.reservation) (role_of w.standing n)) refl

    pub reservation_granted : answered w n 0 (cdb_of (reserve_in ins.ReadReservation)) [] ≡ answer w (good (take 65535 (reservation_reply w.standing)))
    unfolding answered
    reservation_granted = rw (quiet, free (kind_of w.standing.reservation) (role_of w.standing n)) refl

    pub full_granted : answered w n 0 (cdb_of (reserve_in ins.ReadFullStatus)) [] ≡ answer w (good (take 65535 (full_reply w.standing)))
    unfolding answered
    full_granted = rw (quiet, free (kind_of w.standing.reservation) (role_of w.standing n)) refl

    pub register_granted : (own : ℕ) (aptpl : Bool) → answered w n 0 (cdb_of (reserve_out outs.RegisterAndIgnoreExistingKey 0 (out_list 0 own aptpl))) (spelled_list (out_list 0 own aptpl))
        ≡ reserves_out w n 6 (acted LIMIT w.standing n (out_request 6 0 0 (list_of (spelled_list (out_list 0 own aptpl)))))
    unfolding answered
    register_granted own true = rw (quiet, free (kind_of w.standing.reservation) (role_of w.standing n)) refl
    register_granted own false = rw (quiet, free (kind_of w.standing.reservation) (role_of w.standing n)) refl

    pub reserve_granted : (own : ℕ) → answered w n 0 (cdb_of (reserve_out outs.Reserve 5 (out_list own 0 false))) (spelled_list (out_list own 0 false))
        ≡ reserves_out w n 1 (acted LIMIT w.standing n (out_request 1 0 5 (list_of (spelled_list (out_list own 0 false)))))
    unfolding answered
    reserve_granted own = rw (quiet, free (kind_of w.standing.reservation) (role_of w.standing n)) refl

    pub preempt_granted : (own victim : ℕ) → answered w n 0 (cdb_of (reserve_out outs.PreemptAndAbort 5 (out_list own victim false))) (spelled_list (out_list own victim false))
        ≡ reserves_out w n 5 (acted LIMIT w.standing n (out_request 5 0 5 (list_of (spelled_list (out_list own victim false)))))
    unfolding answered
    preempt_granted own victim = rw (quiet, free (kind_of w.standing.reservation) (role_of w.standing n)) refl

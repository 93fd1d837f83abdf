-- Requests and replies that are written are read back as the same values.
use Rattle.std.proofs.Common.{◌≡◌, ℕ, ◌-◌, ◌<◌, ◌%◌, ◌==◌, List, [], ◌∷◌, ◌++◌, length, refl, ap, ◌∙◌, arith, lit≤}
use Rattle.std.specs.Prelude.{Option, Some, None, Ok}
use Rattle.std.proofs.Math.Nat.{mod-eq_of_lt}
use Rattle.std.proofs.lemmas.Bool.{or_parts}
use Rattle.std.proofs.lemmas.Nat.{from_be_bytes-to_be_bytes_4, from_be_bytes-to_be_bytes_8}
use Rattle.pr_words.specs.declared.nexus.Side.TheVariants.{Target, Initiator}
use Rattle.pr_words.specs.declared.code.Sense.{Sense}
use Rattle.pr_words.specs.declared.code.Status.TheVariants as status
use Rattle.pr_grammar.specs.Bodies.{command_reply, command_data, command_head, reject}
use Rattle.pr_link.specs.declared.request.Request.TheVariants as request
use Rattle.pr_link.specs.declared.reply.Reply.TheVariants as reply
use Rattle.pr_link.specs.Replies.{reply_of}
use Rattle.pr_link.specs.ValueLaws.{RequestsAreReadBack, RepliesAreReadBack, InformationFits}
use Rattle.pr_link.proofs.Requests.{kept, login_back, command_back}
use Rattle.pr_link.proofs.Replies.{reply_kept}

pub requests_back : RequestsAreReadBack
requests_back (request.Login version n) sent fits size =
    let back = login_back version n fits.0 fits.1 in
    (back.0, ap (request.Login version) back.2)
requests_back (request.Command cdb count) sent fits size =
    let back = command_back cdb sent fits.0 fits.1 (omega (arith, size, fits.2)) in
    (back.0, ap (λ (c : List ℕ). request.Command c (length (command_data (command_head cdb ++ sent)))) back.1 ∙ ap (λ (w : List ℕ). request.Command cdb (length w)) back.2 ∙ ap (request.Command cdb) size)
requests_back request.Logout sent fits size = (kept Target 0x03 [] refl refl (lit≤ tt), refl)

-- sense that is written is read back
sense_back : (s : Sense) (info : Option ℕ) → s.info ≡ info → InformationFits info → s.code.key < 16
    → reply_of 0x82 (command_reply status.CheckCondition (Some s) []) ≡ Ok (reply.CheckCondition s)
sense_back s None is fits small =
    let key : s.code.key % 16 ≡ s.code.key = mod-eq_of_lt small in
    rw (is, key) refl
sense_back s (Some n) is fits small =
    let key : s.code.key % 16 ≡ s.code.key = mod-eq_of_lt small in
    let same = from_be_bytes-to_be_bytes_4 n fits in
    rw (is, key, same) refl

pub replies_back : RepliesAreReadBack
replies_back (reply.Login code) bytes fits size = (kept Initiator 0x81 _ refl refl (lit≤ tt), refl)
replies_back (reply.Good count) bytes fits size =
    let same : length (command_reply status.Good None bytes) - 4 ≡ count = omega (arith, size) in
    (reply_kept status.Good None bytes (omega (arith, size, fits)), ap (λ (n : ℕ). Ok (reply.Good n)) same)
replies_back (reply.CheckCondition s) bytes fits size = (reply_kept status.CheckCondition (Some s) [] refl, sense_back s s.info refl fits.1 fits.0)
replies_back (reply.Other code) bytes fits size =
    let not = or_parts (code == 0x00) (code == 0x02) fits in
    (kept Initiator 0x82 (code ∷ 0 ∷ 0 ∷ 0 ∷ []) refl (rw (not.1, not.0) refl) (lit≤ tt), rw (not.0, not.1) refl)
replies_back reply.Logout bytes fits size = (kept Initiator 0x83 [] refl refl (lit≤ tt), refl)
replies_back (reply.Reject reason place) bytes fits size =
    (kept Initiator 0xFF (reject reason place) refl refl (lit≤ tt), ap (λ (n : ℕ). Ok (reply.Reject reason n)) (from_be_bytes-to_be_bytes_8 place fits))

-- What the target writes in its replies keeps the rules of the initiator's side.
use Rattle.std.proofs.Common.{◌≡◌, ℕ, ◌+◌, true, false, ltb, List, [], ◌∷◌, length, refl, arith, rules, lit≤}
use Rattle.std.specs.Prelude.{Option, Some, None}
use Rattle.std.proofs.lemmas.Bool.{le-ltb}
use Rattle.pr_words.specs.declared.nexus.Side.TheVariants.{Initiator}
use Rattle.pr_words.specs.declared.code.Sense.{Sense}
use Rattle.pr_words.specs.declared.code.Status.{Status}
use Rattle.pr_words.specs.declared.code.Status.TheVariants as status
use Rattle.pr_grammar.specs.Bodies.{IsProperReply, login_reply, command_reply, is_command_reply, reject}
use Rattle.pr_link.specs.Laws.{Keeps, RepliesKeepTheRules}
use Rattle.pr_link.proofs.Requests.{kept}

nothing_in : (xs : List ℕ) → length xs ≡ 0 → xs ≡ []
nothing_in [] e = refl
nothing_in (x ∷ xs) e = absurd (omega (arith, e))

good_right : (bytes : List ℕ) → is_command_reply (command_reply status.Good None bytes) ≡ true
good_right bytes =
    let long : ltb (4 + length bytes) 4 ≡ false = le-ltb _ _ (omega arith) in
    search rules

sensed : (s : Sense) (info : Option ℕ) → s.info ≡ info → Keeps Initiator 0x82 (command_reply status.CheckCondition (Some s) [])
sensed s None is = rw is (kept Initiator 0x82 _ refl refl (lit≤ tt))
sensed s (Some n) is = rw is (kept Initiator 0x82 _ refl refl (lit≤ tt))

pub reply_kept : (s : Status) (sense : Option Sense) (bytes : List ℕ) → IsProperReply s sense bytes → Keeps Initiator 0x82 (command_reply s sense bytes)
reply_kept status.Good None bytes fits = kept Initiator 0x82 (command_reply status.Good None bytes) refl (good_right bytes) (omega (arith, fits))
reply_kept status.CheckCondition (Some s) bytes none = rw (nothing_in bytes none) (sensed s s.info refl)
reply_kept status.ReservationConflict None bytes none = rw (nothing_in bytes none) (kept Initiator 0x82 _ refl refl (lit≤ tt))
reply_kept status.TaskAborted None bytes none = rw (nothing_in bytes none) (kept Initiator 0x82 _ refl refl (lit≤ tt))
reply_kept status.Good (Some s) bytes wrong = absurd wrong
reply_kept status.CheckCondition None bytes wrong = absurd wrong
reply_kept status.ReservationConflict (Some s) bytes wrong = absurd wrong
reply_kept status.TaskAborted (Some s) bytes wrong = absurd wrong

pub replies_kept : RepliesKeepTheRules
replies_kept =
    record {
      logins = λ code. kept Initiator 0x81 (login_reply code) refl refl (lit≤ tt);
      commands = reply_kept;
      logouts = kept Initiator 0x83 [] refl refl (lit≤ tt);
      rejects = λ reason place. kept Initiator 0xFF (reject reason place) refl refl (lit≤ tt);
    }

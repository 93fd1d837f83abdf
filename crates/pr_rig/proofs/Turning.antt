-- Turns of a lane whose replies were heard: what holds of the world after all of them.
use Rattle.std.proofs.Common.{◌≡◌, lit<, lit≤, ℕ, zero, suc, ◌≤◌, ◌<◌, ◌^◌, List, [], ◌∷◌, ◌++◌, length, Option, refl, sym, ap, ◌∙◌, subst}
use Rattle.pr_words.specs.declared.limits.TheConstants.{DATA}
use Rattle.pr_words.specs.declared.nexus.Nexus.{Nexus}
use Rattle.pr_words.specs.declared.nexus.Side.TheVariants.{Target, Initiator}
use Rattle.pr_words.specs.declared.code.Sense.{Sense}
use Rattle.pr_words.specs.declared.code.Status.{Status}
use Rattle.pr_grammar.specs.Bodies.{IsProperReply, command_data, command_head, command_reply, login_body, login_nexus, login_reply, login_version}
use Rattle.pr_grammar.specs.Frames.{Front, Frame, Lacking, Broken, Whole, frame, front, spelled}
use Rattle.pr_model.specs.Entries.{Act, Command, Ended, Entry, History, Left, Login, Login_code, Logout, Out, entry}
use Rattle.pr_model.specs.Histories.{MayFollow, after, moved}
use Rattle.pr_model.specs.Lanes.{Asks, Fresh, Dead, Idle, In, Lane, Turn, Turned, after_command, after_login, after_logout, dead, lane, phase_after_login, place_after, turn, turn_at}
use Rattle.pr_model.specs.Runs.{Makes}
use Rattle.pr_model.specs.Sessions.{AreTurns}
use Rattle.pr_model.specs.Worlds.{World}
use Rattle.pr_link.proofs.Replies.{replies_kept, reply_kept}
use Rattle.pr_link.proofs.Requests.{command_back, kept}
use Rattle.pr_rig.proofs.Hearing.{BeginsNothing, IsEnded, command_ends, same_first}

-- what is known of each entry, and what is claimed of the world after all of them and of the lane that is left
pub record Claim : Type 1 where
  pub Follows : World → Entry → Type 0
  pub may : (w : World) (e : Entry) → Follows w e → MayFollow w e
  pub Holds : World → Lane → Type 0

module _ (C : Claim) where
  abbrev pub AllFollow : World → History → Type 0
  AllFollow w [] = Unit {0}
  AllFollow w (e ∷ es) = C.Follows w e × AllFollow (moved w e) es

  -- whatever turns a lane takes from a world on that reply so, the claim holds
  abbrev pub Leads : World → Lane → List ℕ → Type 0
  Leads w l replies = (k : ℕ) (es : History) (m : Lane) → AreTurns k 0 l es replies m → AllFollow w es → C.Holds (after w es) m

  -- a turn that asks for an entry, and something is replied
  pub asks_leads : (w : World) (l : Lane) (replies : List ℕ) (n : Nexus) (act : Act) (next : Out → Turned) → turn l ≡ Asks n act next → (replies ≡ [] → C.Holds w l)
      → ((out : Out) → C.Follows w (entry 0 n act out) → (others : List ℕ) → replies ≡ (next out).reply ++ others → Leads (moved w (entry 0 n act out)) (next out).lane others) → Leads w l replies
  asks_leads w l replies n act next is some each zero es m turns legal =
      subst (λ (h : History). C.Holds (after w h) m) (sym turns.0) (subst (λ (x : Lane). C.Holds w x) (sym turns.2) (some turns.1))
  asks_leads w l replies n act next is some each (suc k) es m (first, reply, mid, rest, others, made, more, all, said) legal =
      let makes : Makes 0 l (Asks n act next) first reply mid = subst (λ (t : Turn). Makes 0 l t first reply mid) is made in
      let out : Out = makes.0 in
      let e : Entry = entry 0 n act out in
      let whole : es ≡ e ∷ rest = all ∙ ap (λ (h : History). h ++ rest) makes.1 in
      let right : AllFollow w (e ∷ rest) = subst (λ (h : History). AllFollow w h) whole legal in
      let replied : replies ≡ (next out).reply ++ others = said ∙ ap (λ (r : List ℕ). r ++ others) makes.2 in
      let on : AreTurns k 0 (next out).lane rest others m = subst (λ (x : Lane). AreTurns k 0 x rest others m) makes.3 more in
      subst (λ (h : History). C.Holds (after w h) m) (sym whole) (each out right.0 others replied k rest m on right.1)

  nothing_there : (heard : List ℕ) (f : Frame) → front Initiator heard ≡ Whole f [] → heard ≡ [] → ⊥
  unfolding front
  nothing_there heard f whole none = let empty : front Initiator [] ≡ Whole f [] = sym (ap (front Initiator) none) ∙ whole in absurd cc

  pub some_heard : (heard others : List ℕ) (f : Frame) → front Initiator heard ≡ Whole f [] → heard ++ others ≡ [] → ⊥
  some_heard [] others f whole none = nothing_there [] f whole refl
  some_heard (x ∷ xs) others f whole none = absurd cc

  -- Commands

  pub command_turn : (n : Nexus) (place tag : ℕ) (cdb sent rest : List ℕ) → 1 ≤ length cdb → length cdb ≤ 16 → length sent ≤ DATA → tag < 2 ^ 32
      → turn (lane (spelled (frame 0x02 0 tag (command_head cdb ++ sent)) ++ rest) (In n) place)
      ≡ Asks n (Command 0 cdb sent) (after_command n (frame 0x02 0 tag (command_head cdb ++ sent)) rest (place_after place (frame 0x02 0 tag (command_head cdb ++ sent))))
  command_turn n place tag cdb sent rest some few fits small =
      let f : Frame = frame 0x02 0 tag (command_head cdb ++ sent) in
      let back = command_back cdb sent some few fits in
      let found : front Target (spelled f ++ rest) ≡ Whole f rest = back.0.1 0 tag rest (lit< tt) small in
      ap (turn_at (In n) place) found
      ∙ ap (λ (c : List ℕ). Asks n (Command 0 c (command_data f.body)) (after_command n f rest (place_after place f))) back.1
      ∙ ap (λ (d : List ℕ). Asks n (Command 0 cdb d) (after_command n f rest (place_after place f))) back.2

  -- a command that begins no task, and a reply that was heard: its outcome was the reply's, and the lane goes on
  pub command_leads : (w : World) (n : Nexus) (place tag : ℕ) (cdb sent rest heard others : List ℕ) (f : Frame) → 1 ≤ length cdb → length cdb ≤ 16 → length sent ≤ DATA → tag < 2 ^ 32 → BeginsNothing cdb
      → front Initiator heard ≡ Whole f []
      → ((s : Status) (sense : Option Sense) (bytes : List ℕ) → IsProperReply s sense bytes → f ≡ frame 0x82 0 tag (command_reply s sense bytes) → C.Follows w (entry 0 n (Command 0 cdb sent) (Ended s sense bytes))
      → (there : ℕ) → Leads (moved w (entry 0 n (Command 0 cdb sent) (Ended s sense bytes))) (lane rest (In n) there) others)
      → Leads w (lane (spelled (frame 0x02 0 tag (command_head cdb ++ sent)) ++ rest) (In n) place) (heard ++ others)
  command_leads w n place tag cdb sent rest heard others f some few fits small nothing whole each =
      asks_leads w (lane (spelled g ++ rest) (In n) place) (heard ++ others) n (Command 0 cdb sent) next (command_turn n place tag cdb sent rest some few fits small) (λ none. absurd (some_heard heard others f whole none)) goes
    where
      g : Frame
      g = frame 0x02 0 tag (command_head cdb ++ sent)

      next : Out → Turned
      next = after_command n g rest (place_after place g)

      ended : (s : Status) (sense : Option Sense) (bytes later : List ℕ) → IsProperReply s sense bytes → C.Follows w (entry 0 n (Command 0 cdb sent) (Ended s sense bytes))
          → heard ++ others ≡ (next (Ended s sense bytes)).reply ++ later → Leads (moved w (entry 0 n (Command 0 cdb sent) (Ended s sense bytes))) (next (Ended s sense bytes)).lane later
      ended s sense bytes later proper may same =
          let said : front Initiator (spelled (frame 0x82 0 tag (command_reply s sense bytes)) ++ later) ≡ Whole (frame 0x82 0 tag (command_reply s sense bytes)) later = (reply_kept s sense bytes proper).1 0 tag later (lit< tt) small in
          let both = same_first heard others (spelled (frame 0x82 0 tag (command_reply s sense bytes))) later f (frame 0x82 0 tag (command_reply s sense bytes)) whole said same in
          subst (λ (r : List ℕ). Leads (moved w (entry 0 n (Command 0 cdb sent) (Ended s sense bytes))) (lane rest (In n) (place_after place g)) r) both.1
          (each s sense bytes proper both.0 may (place_after place g))

      goes : (out : Out) → C.Follows w (entry 0 n (Command 0 cdb sent) out) → (later : List ℕ) → heard ++ others ≡ (next out).reply ++ later → Leads (moved w (entry 0 n (Command 0 cdb sent) out)) (next out).lane later
      goes out may =
          let e : IsEnded out = command_ends w n 0 cdb sent out nothing (C.may w (entry 0 n (Command 0 cdb sent) out) may) in
          subst (λ (o : Out). C.Follows w (entry 0 n (Command 0 cdb sent) o) → (later : List ℕ) → heard ++ others ≡ (next o).reply ++ later → Leads (moved w (entry 0 n (Command 0 cdb sent) o)) (next o).lane later) (sym e.is) (λ right later same. ended e.status e.sense e.bytes later e.proper right same) may

  -- A Login that is the first

  pub login_turn : (place tag version : ℕ) (n : Nexus) (rest : List ℕ) → tag < 2 ^ 32
      → turn (lane (spelled (frame 0x01 0 tag (login_body version n)) ++ rest) Fresh place)
      ≡ Asks (login_nexus (login_body version n)) (Login (login_version (login_body version n))) (after_login (frame 0x01 0 tag (login_body version n)) rest (place_after place (frame 0x01 0 tag (login_body version n))))
  login_turn place tag version n rest small =
      let found : front Target (spelled (frame 0x01 0 tag (login_body version n)) ++ rest) ≡ Whole (frame 0x01 0 tag (login_body version n)) rest = (kept Target 0x01 (login_body version n) refl refl (lit≤ tt)).1 0 tag rest (lit< tt) small in
      ap (turn_at Fresh place) found

  pub login_leads : (w : World) (place tag version : ℕ) (n : Nexus) (rest heard others : List ℕ) (f : Frame) → tag < 2 ^ 32 → front Initiator heard ≡ Whole f []
      → ((code : ℕ) → f ≡ frame 0x81 0 tag (login_reply code) → C.Follows w (entry 0 (login_nexus (login_body version n)) (Login (login_version (login_body version n))) (Login_code code))
      → (there : ℕ) → Leads (moved w (entry 0 (login_nexus (login_body version n)) (Login (login_version (login_body version n))) (Login_code code))) (lane rest (phase_after_login (login_nexus (login_body version n)) code) there) others)
      → Leads w (lane (spelled (frame 0x01 0 tag (login_body version n)) ++ rest) Fresh place) (heard ++ others)
  login_leads w place tag version n rest heard others f small whole each =
      asks_leads w (lane (spelled g ++ rest) Fresh place) (heard ++ others) who act next (login_turn place tag version n rest small) (λ none. absurd (some_heard heard others f whole none)) goes
    where
      g : Frame
      g = frame 0x01 0 tag (login_body version n)

      who : Nexus
      who = login_nexus (login_body version n)

      act : Act
      act = Login (login_version (login_body version n))

      next : Out → Turned
      next = after_login g rest (place_after place g)

      coded : (code : ℕ) (later : List ℕ) → C.Follows w (entry 0 who act (Login_code code)) → heard ++ others ≡ (next (Login_code code)).reply ++ later → Leads (moved w (entry 0 who act (Login_code code))) (next (Login_code code)).lane later
      coded code later may same =
          let said : front Initiator (spelled (frame 0x81 0 tag (login_reply code)) ++ later) ≡ Whole (frame 0x81 0 tag (login_reply code)) later = (replies_kept.logins code).1 0 tag later (lit< tt) small in
          let both = same_first heard others (spelled (frame 0x81 0 tag (login_reply code))) later f (frame 0x81 0 tag (login_reply code)) whole said same in
          subst (λ (r : List ℕ). Leads (moved w (entry 0 who act (Login_code code))) (lane rest (phase_after_login who code) (place_after place g)) r) both.1 (each code both.0 may (place_after place g))

      goes : (out : Out) → C.Follows w (entry 0 who act out) → (later : List ℕ) → heard ++ others ≡ (next out).reply ++ later → Leads (moved w (entry 0 who act out)) (next out).lane later
      goes out may = subst (λ (o : Out). C.Follows w (entry 0 who act o) → (later : List ℕ) → heard ++ others ≡ (next o).reply ++ later → Leads (moved w (entry 0 who act o)) (next o).lane later) (sym (C.may w (entry 0 who act out) may)) (λ right later same. coded _ later right same) may

  -- A Logout that is the last

  idle_dead : (k : Front) → turn_at Dead 0 k ≡ Idle
  idle_dead (Lacking n) = refl
  idle_dead (Broken r) = refl
  idle_dead (Whole f rest) = refl

  dead_leads : (w : World) (replies : List ℕ) → C.Holds w dead → Leads w dead replies
  dead_leads w replies holds zero es m turns legal =
      subst (λ (h : History). C.Holds (after w h) m) (sym turns.0) (subst (λ (x : Lane). C.Holds w x) (sym turns.2) holds)
  dead_leads w replies holds (suc k) es m (first, reply, mid, rest, others, made, more, all, said) legal =
      let makes : Makes 0 dead Idle first reply mid = subst (λ (t : Turn). Makes 0 dead t first reply mid) (idle_dead (front Target [])) made in
      let whole : es ≡ rest = all ∙ ap (λ (h : History). h ++ rest) makes.0 in
      let on : AreTurns k 0 dead rest others m = subst (λ (x : Lane). AreTurns k 0 x rest others m) makes.2 more in
      subst (λ (h : History). C.Holds (after w h) m) (sym whole) (dead_leads w others holds k rest m on (subst (λ (h : History). AllFollow w h) whole legal))

  pub logout_turn : (n : Nexus) (place tag : ℕ) (rest : List ℕ) → tag < 2 ^ 32 → turn (lane (spelled (frame 0x03 0 tag []) ++ rest) (In n) place) ≡ Asks n Logout (λ _. after_logout (frame 0x03 0 tag []))
  logout_turn n place tag rest small =
      let found : front Target (spelled (frame 0x03 0 tag []) ++ rest) ≡ Whole (frame 0x03 0 tag []) rest = (kept Target 0x03 [] refl refl (lit≤ tt)).1 0 tag rest (lit< tt) small in
      ap (turn_at (In n) place) found

  pub logout_leads : (w : World) (n : Nexus) (place tag : ℕ) (rest heard others : List ℕ) (f : Frame) → tag < 2 ^ 32 → front Initiator heard ≡ Whole f []
      → (C.Follows w (entry 0 n Logout Left) → C.Holds (moved w (entry 0 n Logout Left)) dead) → Leads w (lane (spelled (frame 0x03 0 tag []) ++ rest) (In n) place) (heard ++ others)
  logout_leads w n place tag rest heard others f small whole ends =
      asks_leads w (lane (spelled (frame 0x03 0 tag []) ++ rest) (In n) place) (heard ++ others) n Logout (λ _. after_logout (frame 0x03 0 tag [])) (logout_turn n place tag rest small) (λ none. absurd (some_heard heard others f whole none))
      (λ out may later same. dead_leads (moved w (entry 0 n Logout out)) later (subst (λ (o : Out). C.Follows w (entry 0 n Logout o) → C.Holds (moved w (entry 0 n Logout o)) dead) (sym (C.may w (entry 0 n Logout out) may).1) ends may))

-- Steps of the work on a device, one after another (this project's own; the commands are SPC-4's).
use Rattle.std.specs.Prelude.{◌≡◌, ℕ, Bool, true, false, List, Result, Ok, Err}
use Rattle.pr_words.specs.declared.code.TheConstants as code
use Rattle.pr_words.specs.declared.nexus.Key.{Key}
use Rattle.pr_words.specs.declared.nexus.Nexus.{Nexus}
use Rattle.pr_words.specs.declared.service.InService.TheVariants as ins
use Rattle.pr_words.specs.declared.service.OutService.TheVariants as outs
use Rattle.pr_initiator.specs.declared.answer.Answer.{Answer}
use Rattle.pr_initiator.specs.declared.link_fault.LinkFault.{LinkFault}
use Rattle.pr_initiator.specs.Commands.{Order, HasAnswered, IsReady, out_list, reserve_in, reserve_out}
use Rattle.pr_initiator.specs.Links.{Link}
use Rattle.pr_initiator.specs.Logins.{HasDialled, HasLoggedIn, HasLoggedOut}
use Rattle.pr_fence.specs.declared.asked.Asked.{Asked}
use Rattle.pr_fence.specs.declared.asked.Asked.TheVariants as ask
use Rattle.pr_fence.specs.declared.fence_fault.FenceFault.{FenceFault}
use Rattle.pr_fence.specs.declared.fence_fault.FenceFault.TheVariants.{StillThere}
use Rattle.pr_fence.specs.declared.seeing.Sight.{Sight}
use Rattle.pr_fence.specs.Exits.{judged_by, linked_by}
use Rattle.pr_fence.specs.Seeing.{listed_in, seen_in, held_in}

-- a step: what came of it, by the state before it and after it
abbrev pub Step : Type 0 → Type 0 → Type 0 → Type 1
Step S E T = S → S → Result T E → Type 0

abbrev pub GoesOn : {S E T U : Type 0} → (T → Step S E U) → Result T E → Step S E U
GoesOn next (Ok v) mid new result = next v mid new result
GoesOn next (Err e) mid new result = (new ≡ mid) × (result ≡ Err e)

-- one step, and what follows it unless it fails
abbrev pub Then : {S E T U : Type 0} → Step S E T → (T → Step S E U) → Step S E U
Then {S} {E} {T} first next old new result = (mid : S) × (r : Result T E) × first old mid r × GoesOn next r mid new result

-- nothing is sent
abbrev pub Gives : {S E T : Type 0} → Result T E → Step S E T
Gives r old new result = (new ≡ old) × (result ≡ r)

-- the step is made unless it is needless
abbrev pub Unless : {S E : Type 0} → Bool → Step S E Unit → Step S E Unit
Unless true step = Gives (Ok tt)
Unless false step = step

-- the step is made where there is cause
abbrev pub Where : {S E : Type 0} → Bool → Step S E Unit → Step S E Unit
Where true step = step
Where false step = Gives (Ok tt)

-- a step of the work on a device
abbrev pub Work : Type 0 → Type 1
Work T = Step Link FenceFault T

-- a fault of the link ends it, and the fault says what was asked
abbrev pub Linked : Asked → (Link → Link → Result Unit LinkFault → Type 0) → Work Unit
Linked asked call old new result = (r : Result Unit LinkFault) × call old new r × (result ≡ linked_by asked r)

-- and so does an answer that isn't GOOD
abbrev pub Judged : Asked → (Link → Link → Result Answer LinkFault → Type 0) → Work Unit
Judged asked call old new result = (r : Result Answer LinkFault) × call old new r × (result ≡ judged_by asked r)

-- a command is sent, and its answer is GOOD
abbrev pub Orders : Asked → Order → Work Unit
Orders asked order = Judged asked (λ old new r. HasAnswered old new order r)

-- what the data-in of the last answer say
abbrev pub Reads : {T : Type 0} → (List ℕ → Result T FenceFault) → Work T
Reads says old new result = (new ≡ old) × (result ≡ says old.received)

-- it logs in, and asks until the target is ready
abbrev pub Enters : Nexus → Work Unit
Enters nexus = Then (Linked ask.Login (HasLoggedIn nexus)) (λ u. Judged ask.Readiness (IsReady 9 code.Code.NO_SENSE))

-- it dials before
abbrev pub Opens : List ℕ → Nexus → Work Unit
Opens address nexus = Then (Linked ask.Connection (HasDialled address)) (λ u. Enters nexus)

abbrev pub Closes : Work Unit
Closes = Linked ask.Logout HasLoggedOut

-- READ KEYS: whether the key is among those registered
abbrev pub Finds : Key → Work Bool
Finds key = Then (Orders ask.Keys (reserve_in ins.ReadKeys)) (λ u. Reads (listed_in key))

-- READ FULL STATUS: whether the nexus has its own key, and whether the victim's is registered
abbrev pub Looks : Nexus → Key → Key → Work Sight
Looks nexus own victim = Then (Orders ask.FullStatus (reserve_in ins.ReadFullStatus)) (λ u. Reads (seen_in nexus own victim))

-- REGISTER AND IGNORE EXISTING KEY
abbrev pub Registers : Key → Bool → Work Unit
Registers own aptpl = Orders ask.Registration (reserve_out outs.RegisterAndIgnoreExistingKey 0 (out_list 0 own.0 aptpl))

-- READ RESERVATION: whether one is held
abbrev pub Asks : Work Bool
Asks = Then (Orders ask.Reservation (reserve_in ins.ReadReservation)) (λ u. Reads held_in)

-- RESERVE, for registrants to write alone
abbrev pub Reserves : Key → Work Unit
Reserves own = Orders ask.Reserve (reserve_out outs.Reserve 5 (out_list own.0 0 false))

-- a reservation is held in the end
abbrev pub Holds : Key → Work Unit
Holds own = Then Asks (λ held. Unless held (Reserves own))

-- PREEMPT AND ABORT of the victim's registrations
abbrev pub Removes : Key → Key → Work Unit
Removes own victim = Orders ask.Removal (reserve_out outs.PreemptAndAbort 5 (out_list own.0 victim.0 false))

abbrev pub gone_by : Bool → Result Unit FenceFault
gone_by true = Err StillThere
gone_by false = Ok tt

-- READ KEYS: the victim's key isn't there any more
abbrev pub Checks : Key → Work Unit
Checks victim = Then (Finds victim) (λ there. Gives (gone_by there))

-- it logs out, and a value is what was found
abbrev pub Leaves : Bool → Work Bool
Leaves found = Then Closes (λ u. Gives (Ok found))

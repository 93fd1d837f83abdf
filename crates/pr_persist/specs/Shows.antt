-- What is shown of an answer's data (this project's own; the data are SPC-4's).
use Rattle.std.specs.Prelude.{◌≡◌, ℕ, nat_lt, List, length, Result, Ok, Err, if◌then◌else◌}
use Rattle.pr_words.specs.declared.service.InService.{InService}
use Rattle.pr_words.specs.declared.service.InService.TheVariants.{ReadKeys, ReadReservation, ReportCapabilities, ReadFullStatus}
use Rattle.pr_grammar.specs.declared.param.ReplyFault.{ReplyFault}
use Rattle.pr_grammar.specs.declared.param.ReplyFault.TheVariants.{BadLength, Cut}
use Rattle.pr_grammar.specs.InReplies.{read_keys, read_reservation, read_capabilities, read_full}
use Rattle.pr_io.specs.declared.outside.Failed.{Failed}
use Rattle.pr_io.specs.Told.{ToldSink}
use Rattle.pr_persist.specs.declared.asked.Asked.{Asked}
use Rattle.pr_persist.specs.declared.asked.Asked.TheVariants.{Command}
use Rattle.pr_persist.specs.declared.plan.Action.TheVariants.{In}
use Rattle.pr_persist.specs.declared.exit.PersistExit.{PersistExit}
use Rattle.pr_persist.specs.declared.exit.PersistExit.TheVariants.{WriteFault, BadData}
use Rattle.pr_persist.specs.Prints.{HasPrinted}
use Rattle.pr_persist.specs.Texts.{keys_text, held_text, capabilities_text, full_text, inquiry_line}

abbrev pub place_of : ReplyFault → ℕ
place_of (BadLength place value) = place
place_of (Cut place) = place

-- the text of what was read, or the place at which the data break their grammar
abbrev pub text_in : {T : Type 0} → (T → List ℕ) → Result T ReplyFault → Result (List ℕ) ℕ
text_in text (Ok told) = Ok (text told)
text_in text (Err fault) = Err (place_of fault)

abbrev pub reply_text : InService → List ℕ → Result (List ℕ) ℕ
reply_text ReadKeys bytes = text_in keys_text (read_keys bytes)
reply_text ReadReservation bytes = text_in held_text (read_reservation bytes)
reply_text ReportCapabilities bytes = text_in capabilities_text (read_capabilities bytes)
reply_text ReadFullStatus bytes = text_in full_text (read_full bytes)

abbrev pub inquiry_text : List ℕ → Result (List ℕ) ℕ
inquiry_text bytes = if nat_lt (length bytes) 36 then Err (length bytes) else Ok (inquiry_line bytes)

-- a sink that failed ends the run
abbrev pub written_by : Result Unit Failed → Result Unit PersistExit
written_by (Ok u) = Ok tt
written_by (Err e) = Err WriteFault

abbrev pub looking : InService → Asked
looking service = Command (In service)

-- the text was printed, or nothing was since the data break their grammar
abbrev pub HasShown : Asked → Result (List ℕ) ℕ → ToldSink → ToldSink → Result Unit PersistExit → Type 0
HasShown asked (Ok text) old new result = (p : Result Unit Failed) × HasPrinted old new text p × (result ≡ written_by p)
HasShown asked (Err place) old new result = (new ≡ old) × (result ≡ Err (BadData asked place))

-- Entries cross threads.
use denote.Param.Send.{IsSend, sendable}
use Rattle.std.proofs.Crossing.{crosses}
use Rattle.pr_core.specs.contracts.entry.Entry as shared
use Rattle.pr_core.specs.contracts.excerpt.Excerpt as excerpts
use Rattle.pr_core.specs.contracts.excerpt.Excerpt.TheInside as inside

pub inside_send : IsSend inside.the_row
inside_send = search (sendable, crosses) depth 40

pub excerpt_send : IsSend excerpts.the_row
excerpt_send = search (inside_send, sendable, crosses) depth 40

pub entry_send : IsSend shared.the_row
entry_send = search (excerpt_send, sendable, crosses) depth 60 fits 200000

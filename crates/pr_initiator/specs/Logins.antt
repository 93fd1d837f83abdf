-- How a connection and a session on it begin and end (this project's own).
use Rattle.std.specs.Prelude.{◌≡◌, ◌≤◌, ℕ, List, [], Result, OnOk, OnErr, IfErr}
use Rattle.pr_words.specs.declared.nexus.Nexus.{Nexus}
use Rattle.pr_grammar.specs.Frames.{spelled}
use Rattle.pr_io.specs.Causes.{Rose}
use Rattle.pr_io.specs.Talks.{Begins}
use Rattle.pr_link.specs.Requests.{request_frame}
use Rattle.pr_link.specs.declared.request.Request.TheVariants as request
use Rattle.pr_initiator.specs.declared.link_fault.LinkFault.{LinkFault}
use Rattle.pr_initiator.specs.declared.link_fault.LinkFault.TheVariants as fault
use Rattle.pr_initiator.specs.Calls.{login_by, logout_by}
use Rattle.pr_initiator.specs.Links.{Link, HasCalled}

-- a connection to this address begins, or nothing is added
pub record HasDialled (address : List ℕ) (old new : Link) (result : Result Unit LinkFault) : Type 0 where
  pub begins : OnOk result (Begins old.talk new.talk address)
  pub tag : OnOk result (new.tag ≡ 1)
  pub place : OnOk result (new.place ≡ 0)
  pub nothing : OnErr result (new.talk ≡ old.talk)
  pub fault : IfErr result (λ e. e ≡ fault.Down)
  pub down : OnErr result (Rose old.faults new.faults)
  pub reference : new.reference ≡ old.reference
  pub later : old.faults ≤ new.faults

-- just a Login, or a Logout, was sent, and its reply says the result
abbrev pub HasLoggedIn : Nexus → Link → Link → Result Unit LinkFault → Type 0
HasLoggedIn nexus old new result = HasCalled (login_by old.place) 0x81 old new (spelled (request_frame (request.Login 1 nexus) 0 old.tag [])) result

abbrev pub HasLoggedOut : Link → Link → Result Unit LinkFault → Type 0
HasLoggedOut old new result = HasCalled (logout_by old.place) 0x83 old new (spelled (request_frame request.Logout 0 old.tag [])) result

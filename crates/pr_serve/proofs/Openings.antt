-- A run of a target that was opened.
use Rattle.std.proofs.Common.{◌≡◌, ℕ, ◌+◌, ◌^◌, List, [], length, ◌∙◌, subst, arith, Some}
use Rattle.pr_grammar.specs.Files.{Keeps, file_restores}
use Rattle.pr_io.specs.Images.{Image, Story}
use Rattle.pr_io.specs.Told.{ToldStreams, ToldSink}
use Rattle.pr_io.specs.declared.outside.Medium as media
use Rattle.pr_io.specs.declared.outside.Disk as disks
use Rattle.pr_model.specs.Entries.{Entry, History}
use Rattle.pr_gate.specs.Entries.{NamesBelow, own}
use Rattle.pr_gate.specs.declared.pass.Pass.{Pass}
use Rattle.pr_gate.specs.Passes.{number_of, seen_of, own_of, ground_of, spare_of}
use Rattle.pr_core.specs.declared.ground.Ground.{Ground}
use Rattle.pr_session.specs.declared.session_end.SessionEnd.{SessionEnd}
use Rattle.pr_serve.specs.declared.exit.ServeExit.{ServeExit}
use Rattle.pr_serve.specs.declared.exit.ServeExit.TheVariants.{Done, DoorFault, OpenFault, WriteFault, NoMemory, Spent}
use Rattle.pr_serve.specs.Connections.{IsRightPass}
use Rattle.pr_serve.specs.Accepting.{ToldDoor, Serves, EndsSo}
use Rattle.pr_serve.specs.Opened.{Served, Ran}

ran-over : {M D : Type 0} (gm : media.Ghosts M) (gd : disks.Ghosts D) (exit : ServeExit) (many : ℕ) (disk : Story) (failed blocks : ℕ) (a b : ToldDoor) (f f' : ℕ) (k k' : ToldSink) (cs : List ToldStreams) (ends : List SessionEnd) (h : History)
    → Served gm gd disk.now blocks a b cs ends h → EndsSo exit many (length cs) ends f f' k k' (length h) → Ran gm gd exit many disk failed blocks a b f f' k k'
ran-over gm gd Done many disk failed blocks a b f f' k k' cs ends h s e = (cs, ends, h, s, e)
ran-over gm gd DoorFault many disk failed blocks a b f f' k k' cs ends h s e = (cs, ends, h, s, e)
ran-over gm gd (OpenFault fault) many disk failed blocks a b f f' k k' cs ends h s e = absurd e
ran-over gm gd WriteFault many disk failed blocks a b f f' k k' cs ends h s e = (cs, ends, h, s, e)
ran-over gm gd NoMemory many disk failed blocks a b f f' k k' cs ends h s e = (cs, ends, h, s, e)
ran-over gm gd (Spent ticket) many disk failed blocks a b f f' k k' cs ends h s e = (cs, ends, h, s, e)

-- from the first pass of a gate on, which had seen nothing
pub ran-opened : {M D T : Type 0} {g : _} (gm : media.Ghosts M) (gd : disks.Ghosts D) (exit : ServeExit) (many : ℕ) (disk : Story) (failed blocks : ℕ) (a b : ToldDoor) (f f' : ℕ) (k k' : ToldSink) (p q : Pass T Entry Ground g) (cs : List ToldStreams) (ends : List SessionEnd) (ground : Ground)
    → ground_of p ≡ Some ground → ground.blocks ≡ blocks → ((image : Image) → disk.now ≡ Some image → file_restores image ≡ Keeps ground.kept) → own_of p ≡ [] → number_of p ≡ 0 → spare_of p ≡ 2 ^ 62
    → Serves a b p q cs ends → IsRightPass gm gd q
    → NamesBelow (λ (e : Entry). e.who) q.next (seen_of q) → own (λ (e : Entry). e.who) (number_of q) (seen_of q) ≡ own_of q → q.next + spare_of q ≡ 2 ^ 62 + 1
    → EndsSo exit many (length cs) ends f f' k k' (length (seen_of q)) → Ran gm gd exit many disk failed blocks a b f f' k k'
ran-opened gm gd exit many disk failed blocks a b f f' k k' p q cs ends ground at over kept none first spare s right names owned next e =
    let made = s.goes.spare in
    ran-over gm gd exit many disk failed blocks a b f f' k k' cs ends (seen_of q)
    (record {
      ground = ground;
      over = over;
      kept = kept;
      right = right ground (s.goes.of_one.1 ∙ at);
      took = s.took;
      served = s.served 1 (omega (arith, spare));
      numbers = subst (λ n. NamesBelow (λ (x : Entry). x.who) n (seen_of q)) (omega (arith, next, made, spare)) names;
      none = subst (λ n. own (λ (x : Entry). x.who) n (seen_of q) ≡ []) (s.goes.number ∙ first) (owned ∙ (s.goes.own ∙ none));
    })
    e

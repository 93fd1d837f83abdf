use Rattle.std.proofs.Common.{◌≡◌, ℕ, ◌+◌, ◌-◌, ◌≤◌, List, [], ◌∷◌, ◌++◌, length, take, drop, sym, ap, ◌∙◌, arith, append_assoc, replicate}
use Rattle.std.proofs.lemmas.List.{take_at, drop_at, length-append, length-replicate}
use Rattle.pr_grammar.specs.Frames.{frame, spelled}
use Rattle.pr_link.proofs.request.write_command_head.Goals as goal

-- the head has 32 bytes
whole : (head cdb padded : List ℕ) → length head ≡ 16 → padded ≡ cdb ++ replicate (16 - length cdb) 0 → length cdb ≤ 16 → length (head ++ padded) ≡ 32
whole head cdb padded size is few =
    let zeros : length {A = ℕ} (replicate (16 - length cdb) 0) ≡ 16 - length cdb = length-replicate (16 - length cdb) 0 in
    let sum : length (cdb ++ replicate (16 - length cdb) 0) ≡ 16 = omega (arith, length-append cdb (replicate (16 - length cdb) 0), zeros, few) in
    let all : length padded ≡ 16 = ap length is ∙ sum in
    omega (arith, length-append head padded, size, all)

pub returns-clause-head : goal.returns-clause-head
returns-clause-head c sent size =
    let head : List ℕ = c.long_head-head.result in
    let padded : List ℕ = c.padded.result.now in
    let out : List ℕ = c.args.out.now in
    let few : length c.args.cdb.now ≤ 16 = rw c.bytes.ensures.bytes at c.bytes.ensures.few in
    let count : length (head ++ padded) ≡ 32 = whole head c.args.cdb.now padded c.long_head-head.ensures.size c.padded.ensures few in
    let behind : length padded ≡ 16 = omega (arith, length-append head padded, count, c.long_head-head.ensures.size) in
    let long : length (padded ++ sent) ≡ 16 + c.args.data_out = omega (arith, length-append padded sent, behind, size) in
    let front : take 32 c.write_both.new.out ≡ head ++ padded = ap (take 32) c.write_both.ensures ∙ take_at (head ++ padded) _ 32 count in
    ap (λ (w : List ℕ). w ++ sent) front ∙ append_assoc head padded sent ∙ c.long_head-head.ensures.frame (padded ++ sent) long
    ∙ ap (λ (w : List ℕ). spelled (frame 0x02 c.args.lun c.args.tag ((length w ∷ 0 ∷ 0 ∷ 0 ∷ []) ++ (padded ++ sent)))) c.bytes.ensures.bytes
    ∙ ap (λ (w : List ℕ). spelled (frame 0x02 c.args.lun c.args.tag ((length c.args.cdb.now ∷ 0 ∷ 0 ∷ 0 ∷ []) ++ (w ++ sent)))) c.padded.ensures

pub returns-clause-rest : goal.returns-clause-rest
returns-clause-rest c =
    let head : List ℕ = c.long_head-head.result in
    let padded : List ℕ = c.padded.result.now in
    let out : List ℕ = c.args.out.now in
    let few : length c.args.cdb.now ≤ 16 = rw c.bytes.ensures.bytes at c.bytes.ensures.few in
    let count : length (head ++ padded) ≡ 32 = whole head c.args.cdb.now padded c.long_head-head.ensures.size c.padded.ensures few in
    let size : length head + length padded ≡ 32 = sym (length-append head padded) ∙ count in
    ap (drop 32) c.write_both.ensures ∙ drop_at (head ++ padded) _ 32 count ∙ ap (λ (n : ℕ). drop n out) size

-- TEST UNIT READY, asked again and again.
use Rattle.std.proofs.Common.{◌≡◌, ◌∙◌, ap, ℕ, zero, suc, ◌+◌, ◌-◌, ◌<◌, ◌≤◌, inl, inr, refl, arith, subst}
use Rattle.std.specs.Prelude.{Result, Ok, Err, Some, None}
use Rattle.pr_words.specs.declared.code.Code.{Code}
use Rattle.pr_initiator.specs.declared.answer.Answer.{Answer}
use Rattle.pr_initiator.specs.declared.link_fault.LinkFault.{LinkFault}
use Rattle.pr_initiator.specs.declared.link_fault.LinkFault.TheVariants as fault
use Rattle.pr_initiator.specs.Links.{Link}
use Rattle.pr_initiator.specs.Commands.{HasAnswered, IsReady, attention_in, attention_of, test_unit_ready}

-- an attention, and what is asked after it
pub attended : (n i : ℕ) (last code : Code) (old mid new : Link) (a : Answer) (r : Result Answer LinkFault) → i < n → HasAnswered old mid test_unit_ready (Ok a) → attention_in a.sense ≡ Some code
    → IsReady (n - (i + 1)) code mid new r → IsReady (n - i) last old new r
unfolding IsReady
attended n i last code old mid new a r less has is rest =
    let left : suc (n - (i + 1)) ≡ n - i = omega (arith, less) in
    subst (λ (k : ℕ). IsReady k last old new r) left (inr (mid, a, code, has, is, rest))

-- a result that is no attention
pub ends : (n i : ℕ) (last : Code) (old new : Link) (r : Result Answer LinkFault) → i < n → HasAnswered old new test_unit_ready r → attention_of r ≡ None → IsReady (n - i) last old new r
unfolding IsReady
ends n i last old new r less has none =
    let left : suc (n - (i + 1)) ≡ n - i = omega (arith, less) in
    subst (λ (k : ℕ). IsReady k last old new r) left (inl (has, none))

-- none is asked any more
pub tires : (n i : ℕ) (last : Code) (old : Link) → n ≤ i → IsReady (n - i) last old old (Err (fault.Attention last))
unfolding IsReady
tires n i last old most =
    let left : 0 ≡ n - i = omega (arith, most) in
    subst (λ (k : ℕ). IsReady k last old old (Err (fault.Attention last))) left (refl, refl)

-- it keeps the wire that was lent
pub ready_keeps : (n : ℕ) (last : Code) (old new : Link) (r : Result Answer LinkFault) → IsReady n last old new r → new.reference ≡ old.reference
unfolding IsReady
ready_keeps zero last old new r is = ap (λ (l : Link). l.reference) is.0
ready_keeps (suc n) last old new r (inl is) = is.0.reference
ready_keeps (suc n) last old new r (inr (mid, a, code, has, some, rest)) = ready_keeps n code mid new r rest ∙ has.reference

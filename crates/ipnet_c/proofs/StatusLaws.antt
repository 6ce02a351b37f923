-- Statuses differ, and facts about the statuses of all calls.
use Rattle.std.proofs.Common.{◌≡◌, ◌≢◌, ℕ, ◌⊎◌, ◌↔◌, ◌==◌, Bool, true, false, IsTrue, List}
use Rattle.std.proofs.Common.{inl, inr, refl, sym, ◌∙◌, eq-eqb}
use Rattle.std.proofs.lemmas.Bool.{false≢true}
use Rattle.std.specs.Int.{from_bool}
use Rattle.ipnet.specs.Address.{Address}
use Rattle.ipnet_sets.specs.declared.set.IpSet.{IpSet}
use Rattle.ipnet_sets.specs.Images.{IsImageOf}
use Rattle.ipnet_sets.specs.Members.{IsMember}
use Rattle.ipnet_c.specs.Replies.{IsYesExactlyAt}
use Rattle.ipnet_c.specs.SetReplies.{IsAnswerAt}

-- two numbers differ if the test says so
pub differ : (m n : ℕ) → (m == n) ≡ false → m ≢ n
differ m n test e = false≢true (sym test ∙ eq-eqb m n e)

-- one of two statuses is none of the others
pub neither : (m n status other : ℕ) → (status ≡ m) ⊎ (status ≡ n) → (m == other) ≡ false → (n == other) ≡ false
    → status ≢ other
neither m n status other (inl e) first second same = differ m other first (sym e ∙ same)
neither m n status other (inr e) first second same = differ n other second (sym e ∙ same)

-- and so is one of three
pub none_of : (status other : ℕ) → (status ≡ 1) ⊎ ((status ≡ 2) ⊎ (status ≡ 3)) → (1 == other) ≡ false
    → (2 == other) ≡ false → (3 == other) ≡ false → status ≢ other
none_of status other (inl e) first second third same = differ 1 other first (sym e ∙ same)
none_of status other (inr e) first second third same = neither 2 3 status other e second third same

-- two texts that are not read have no answer
pub no_answer : (status : ℕ) → (status ≡ 1) ⊎ ((status ≡ 9) ⊎ ((status ≡ 2) ⊎ ((status ≡ 10) ⊎ (status ≡ 3))))
    → (status ≢ 0) × (status ≢ 4)
no_answer status (inl e) = (λ z. differ 1 0 refl (sym e ∙ z), λ z. differ 1 4 refl (sym e ∙ z))
no_answer status (inr (inl e)) = (λ z. differ 9 0 refl (sym e ∙ z), λ z. differ 9 4 refl (sym e ∙ z))
no_answer status (inr (inr (inl e))) = (λ z. differ 2 0 refl (sym e ∙ z), λ z. differ 2 4 refl (sym e ∙ z))
no_answer status (inr (inr (inr e))) = (neither 10 3 status 0 e refl refl, neither 10 3 status 4 e refl refl)

-- as the status of an answer that is written or too long
pub not_other : (status other : ℕ) → (status ≡ 0) ⊎ (status ≡ 4) → (0 == other) ≡ false → (4 == other) ≡ false
    → status ≢ other
not_other status other = neither 0 4 status other

-- a yes or a no is 0 or 1
pub is_bit : (answer : Bool) (shown : ℕ) → shown ≡ from_bool answer → (shown ≡ 0) ⊎ (shown ≡ 1)
is_bit true shown e = inr e
is_bit false shown e = inl e

-- the byte 1 means yes, and the byte 0 no
pub yes_exactly : (P : Type 0) (answer : Bool) (shown : ℕ) → IsTrue answer ↔ P → shown ≡ from_bool answer
    → IsYesExactlyAt P shown
yes_exactly P true shown h e = inl (e, h.0 refl)
yes_exactly P false shown h e = inr (e, λ p. false≢true (h.1 p))

-- and an answer about an address is such a byte
pub answered_at : (set : List ℕ) (x : Address) (answer : Bool) (shown : ℕ)
    → ((s : IpSet) → IsImageOf set s → IsTrue answer ↔ IsMember s x) → shown ≡ from_bool answer
    → IsAnswerAt set x shown
answered_at set x answer shown h e = record {
  exact = λ s image. yes_exactly (IsMember s x) answer shown (h s image) e;
  bit = is_bit answer shown e;
}

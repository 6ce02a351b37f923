-- A table of bytes is held against its definition by computing: at each of the 256 bytes.
use Rattle.std.proofs.Common.{◌≡◌, ℕ, zero, suc, ◌<◌, Bool, true, false, ◌&&◌, refl, arith, inl, inr}
use Rattle.std.proofs.lemmas.Bool.{cases_eq}

-- the two functions agree below n
unfoldable pub agree_below : {A : Type 0} → (A → A → Bool) → (ℕ → A) → (ℕ → A) → ℕ → Bool
agree_below same f g zero = true
agree_below same f g (suc n) = same (f n) (g n) && agree_below same f g n

both_of : (x rest : Bool) → (x && rest) ≡ true → (x ≡ true) × (rest ≡ true)
both_of true rest h = (refl, h)
both_of false rest h = cc

pub agree_at : {A : Type 0} (same : A → A → Bool) → ((a b : A) → same a b ≡ true → a ≡ b) → (f g : ℕ → A) (n : ℕ)
    → agree_below same f g n ≡ true → (b : ℕ) → b < n → f b ≡ g b
unfolding agree_below
agree_at same is f g zero h b lt = absurd (omega arith)
agree_at same is f g (suc n) h b lt =
    let (at, below) = both_of (same (f n) (g n)) (agree_below same f g n) h in
    elim (cases_eq b n) [
      | inl here ↦ rw here (is (f n) (g n) at)
      | inr other ↦ agree_at same is f g n below b (omega arith)
    ]

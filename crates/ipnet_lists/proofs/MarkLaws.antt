-- A byte order mark at the start of bytes.
use Rattle.std.proofs.Common.{◌≡◌, ◌<◌, ◌≤◌, ◌⊎◌, Bool, true, false, nat_eq, List, [], ◌∷◌, ◌++◌, length, drop, ℕ}
use Rattle.std.proofs.Common.{refl, sym, ap, ◌∙◌, arith, inl, inr, subst, append-nil, if◌then◌else◌}
use Rattle.std.specs.List.{starts_with}
use Rattle.std.proofs.lemmas.Bool.Decides.{Decides-eqb}
use Rattle.std.proofs.lemmas.Slice.Eq.{starts_is}
use Rattle.ipnet_lists.specs.Lists.{after_mark, byte_order_mark}

-- bytes that begin with a byte order mark are it and the others
pub mark_cut : (bytes : List ℕ) → true ≡ starts_with nat_eq bytes byte_order_mark
    → bytes ≡ byte_order_mark ++ drop 3 bytes
mark_cut bytes is = (starts_is Decides-eqb bytes byte_order_mark true is).0 refl

-- what follows a byte order mark
pub past_mark : (rest : List ℕ) → after_mark (byte_order_mark ++ rest) ≡ rest
past_mark rest = refl

-- bytes that do not begin with one, with others behind them if they are long enough
pub past_none : (bytes rest : List ℕ) (more : Bool) → false ≡ starts_with nat_eq bytes byte_order_mark
    → (3 ≤ length bytes) ⊎ (more ≡ false) → (more ≡ false → rest ≡ []) → after_mark (bytes ++ rest) ≡ bytes ++ rest
past_none [] rest more none (inl long) end = absurd (omega arith)
past_none (x ∷ []) rest more none (inl long) end = absurd (omega arith)
past_none (x ∷ y ∷ []) rest more none (inl long) end = absurd (omega arith)
past_none (x ∷ y ∷ z ∷ bytes) rest more none (inl long) end =
    ap (λ t. if t then bytes ++ rest else (x ∷ y ∷ z ∷ bytes ++ rest)) (sym none)
past_none bytes rest more none (inr over) end =
    subst (λ z. after_mark z ≡ z) (sym (ap (λ z. bytes ++ z) (end over) ∙ append-nil bytes))
    (ap (λ t. if t then drop 3 bytes else bytes) (sym none))

pub long_or_over : (bytes shown : List ℕ) (more : Bool) → shown ≡ bytes
    → (3 ≤ length shown) ⊎ ((length shown < 3) × (more ≡ false)) → (3 ≤ length bytes) ⊎ (more ≡ false)
long_or_over bytes shown more is (inl long) = inl (omega (arith, long, ap length is))
long_or_over bytes shown more is (inr (short, over)) = inr over

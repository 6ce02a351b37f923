-- Rows of a column: their bytes in the array, and the one address of each.
use Rattle.std.proofs.Common.{◌≡◌, ◌≢◌, ℕ, ◌+◌, ◌-◌, ◌*◌, ◌<◌, ◌≤◌, List, ◌++◌, length, take, drop, refl, sym}
use Rattle.std.proofs.Common.{ap, ◌∙◌, subst, arith, inl, inr}
use Rattle.std.proofs.lemmas.Bool.{cases_lt}
use Rattle.std.proofs.lemmas.List.{take_at, drop_at, take-take, drop-take, drop-drop, length-drop, length-take-le}
use borrow.Rule.Slice.PartMut.{put_mid, take_put, drop_put, post_of}
use Rattle.ipnet.specs.Address.{Family, IPv4, IPv6, Address}
use Rattle.ipnet.specs.Bytes.{octet_count}
use Rattle.ipnet_c.specs.SetReplies.{AreOctetsOf}
use Rattle.ipnet_c.specs.Rows.{family_byte, row_bytes, IsRowOf, IsNoFamily}
use Rattle.ipnet_c.proofs.TableReplies.{address_once}

-- ---- the address of a row

family_once : (f g : Family) → family_byte f ≡ family_byte g → f ≡ g
family_once IPv4 IPv4 e = refl
family_once IPv4 IPv6 e = absurd (omega (arith, e))
family_once IPv6 IPv4 e = absurd (omega (arith, e))
family_once IPv6 IPv6 e = refl

-- a row has one address
pub row_once : (family : ℕ) (bytes : List ℕ) (x y : Address) → IsRowOf family bytes x → IsRowOf family bytes y → x ≡ y
row_once family bytes x y a b =
    let same = family_once x.family y.family (sym a.family_is ∙ b.family_is) in
    address_once (take (octet_count x.family) bytes) x y a.octets_are
    (subst (λ f. AreOctetsOf (take (octet_count f) bytes) y) (sym same) b.octets_are)

not_of : (family : ℕ) (f : Family) → family ≡ family_byte f → IsNoFamily family → ⊥
not_of family IPv4 e none = none.0 e
not_of family IPv6 e none = none.1 e

-- and none if its family is neither 4 nor 6
pub not_both : (family : ℕ) (bytes : List ℕ) (x : Address) → IsRowOf family bytes x → IsNoFamily family → ⊥
not_both family bytes x is none = not_of family x.family is.family_is none

-- ---- the bytes of a row

one_row : (i : ℕ) → (i + 1) * 16 - i * 16 ≡ 16
one_row i = omega arith

-- the part of the array from the row's start to its end
pub row_part : (octets : List ℕ) (i : ℕ) → take ((i + 1) * 16 - i * 16) (drop (i * 16) octets) ≡ row_bytes octets i
row_part octets i = ap (λ k. take k (drop (i * 16) octets)) (one_row i)

pub row_len : (octets : List ℕ) (i : ℕ) → (i + 1) * 16 ≤ length octets → length (row_bytes octets i) ≡ 16
row_len octets i within =
    length-take-le 16 (drop (i * 16) octets) (omega (arith, within, length-drop (i * 16) octets))

-- the rows of an array in which one row was written
pub written_row : (octets bytes : List ℕ) (i : ℕ) → (i + 1) * 16 ≤ length octets → length bytes ≡ 16
    → row_bytes (put_mid (i * 16) ((i + 1) * 16 - i * 16) octets bytes) i ≡ bytes
written_row octets bytes i within len =
    ap (take 16) (drop_at (take (i * 16) octets) (bytes ++ post_of (i * 16) ((i + 1) * 16 - i * 16) octets) (i * 16)
    (length-take-le (i * 16) octets (omega (arith, within))))
    ∙ take_at bytes (post_of (i * 16) ((i + 1) * 16 - i * 16) octets) 16 len

-- a row that ends before what was written
row_before : (octets new : List ℕ) (i k : ℕ) → take k new ≡ take k octets → (i + 1) * 16 ≤ k
    → row_bytes new i ≡ row_bytes octets i
row_before octets new i k same le =
    sym (drop-take (i * 16) 16 new)
    ∙ ap (drop (i * 16)) (sym (take-take (i * 16 + 16) k new (omega (arith, le))) ∙ ap (take (i * 16 + 16)) same
    ∙ take-take (i * 16 + 16) k octets (omega (arith, le)))
    ∙ drop-take (i * 16) 16 octets

-- and one that starts after it
row_after : (octets new : List ℕ) (i k : ℕ) → drop k new ≡ drop k octets → k ≤ i * 16
    → row_bytes new i ≡ row_bytes octets i
row_after octets new i k same le =
    let parts : i * 16 ≡ k + (i * 16 - k) = omega (arith, le) in
    ap (take 16) (ap (λ z. drop z new) parts ∙ sym (drop-drop (i * 16 - k) k new) ∙ ap (drop (i * 16 - k)) same
    ∙ drop-drop (i * 16 - k) k octets ∙ ap (λ z. drop z octets) (sym parts))

pub other_row : (octets bytes : List ℕ) (index i : ℕ) → (index + 1) * 16 ≤ length octets → length bytes ≡ 16
    → i ≢ index → row_bytes (put_mid (index * 16) ((index + 1) * 16 - index * 16) octets bytes) i ≡ row_bytes octets i
other_row octets bytes index i within len other = elim (cases_lt i index) [
  | inl before ↦ row_before octets _ i (index * 16)
      (take_put (index * 16) ((index + 1) * 16 - index * 16) octets bytes (omega (arith, within)))
      (omega (arith, before))
  | inr not ↦ let after : index < i = differs_above i index other not in
      row_after octets _ i ((index + 1) * 16)
      (drop_put (index * 16) ((index + 1) * 16) octets bytes (omega arith) within (len ∙ sym (one_row index)))
      (omega (arith, after))
]
  where
    differs_above : (i index : ℕ) → i ≢ index → index ≤ i → index < i
    differs_above i index other le = elim (cases_lt index i) [
      | inl lt ↦ lt
      | inr ge ↦ absurd (other (omega (arith, le, ge)))
    ]

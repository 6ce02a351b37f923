-- The counts of a title, one more at a time, and the networks of squares.
use Rattle.std.proofs.Common.{◌≡◌, ℕ, ◌+◌, ◌<◌, List, [], ◌∷◌, ◌++◌, length, get_or, take, refl, sym, ap, ◌∙◌, subst}
use Rattle.std.proofs.Common.{append_assoc, append-nil}
use Rattle.std.proofs.lemmas.List.{take_more}
use Rattle.ipnet_base.specs.Network.{Network}
use Rattle.svg_maps.specs.declared.square.Counted.{Counted}
use Rattle.svg_maps.specs.Squares.{IsCountText, AreCountTexts}

counts_push : (n : Network) (cs : List Counted) (c : Counted) (text one : List ℕ) → AreCountTexts n cs text
    → IsCountText n c one → AreCountTexts n (cs ++ c ∷ []) (text ++ one)
counts_push n [] c text one h r = (one, [], r, refl, ap (λ z. z ++ one) h ∙ sym (append-nil one))
counts_push n (d ∷ cs) c text one h r = (
  h.0,
  h.1 ++ one,
  h.2,
  counts_push n cs c h.1 one h.3 r,
  ap (λ z. z ++ one) h.4 ∙ append_assoc h.0 h.1 one,
)

pub one_count_more : (n : Network) (cs : List Counted) (i : ℕ) (c : Counted) (text one : List ℕ) → i < length cs
    → c ≡ get_or cs i c → AreCountTexts n (take i cs) text → IsCountText n c one
    → AreCountTexts n (take (i + 1) cs) (text ++ one)
one_count_more n cs i c text one l is so_far r =
    let more : take (i + 1) cs ≡ take i cs ++ c ∷ [] = take_more cs i c l ∙ ap (λ z. take i cs ++ z ∷ []) (sym is) in
    subst (λ z. AreCountTexts n z (text ++ one)) (sym more) (counts_push n (take i cs) c text one so_far r)

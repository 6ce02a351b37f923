-- A line that is read at the front of the bytes, and the text after it.
use Rattle.std.proofs.Common.{◌≡◌, ℕ, ◌+◌, ◌<◌, List, ◌∷◌, ◌++◌, length, take, drop, get_or, codes}
use Rattle.std.proofs.Common.{refl, sym, ap, ◌∙◌, subst, arith, inl, inr, IsUtf8, length-append}
use Rattle.std.proofs.lemmas.Str.{IsCharBoundary-after_ascii}
use Rattle.std.specs.Str.{IsCharBoundary}
use Rattle.ipnet.specs.Network.{Network}
use Rattle.ipnet.specs.declared.parser.Grammar.{Grammar}
use Rattle.ipnet.specs.declared.parser.Grammar.TheVariants.{Strict}
use Rattle.ipnet.specs.Lines.{lines_of}
use Rattle.ipnet.specs.NetworkTexts.{IsNetworkText}
use Rattle.ipnet.proofs.StrictTexts.{network_in}

some_text : (text : List ℕ) (n : Network) → IsNetworkText Strict text n → 0 < length text
some_text text n (inl h) =
    let one : length (codes "/") ≡ 1 = refl in
    omega (
      arith,
      one,
      ap length h.spelled,
      length-append (h.address_text ++ codes "/") h.length_text,
      length-append h.address_text (codes "/"),
    )
some_text text n (inr h) =
    let one : length (codes "/") ≡ 1 = refl in
    omega (
      arith,
      one,
      ap length h.spelled,
      length-append (h.address_text ++ codes "/") h.length_text,
      length-append h.address_text (codes "/"),
    )

-- the first line of the text and the text after it
pub record IsFrontLine (grammar : Grammar) (text line after : List ℕ) (n : Network) : Type 0 where
  pub cut : lines_of text ≡ line ∷ lines_of after
  pub some : 0 < length line
  pub is : IsNetworkText grammar line n

pub front_line : (grammar : Grammar) (text bytes after : List ℕ) (len : ℕ) (n : Network) → bytes ≡ text
    → after ≡ drop (len + 1) text → IsNetworkText Strict (take len bytes) n
    → lines_of bytes ≡ take len bytes ∷ lines_of (drop (len + 1) bytes)
    → IsFrontLine grammar text (take len text) after n
front_line grammar text bytes after len n same after_is is cut =
    subst (λ a. IsFrontLine grammar text (take len text) a n) (sym after_is)
    (subst (λ z. IsFrontLine grammar z (take len z) (drop (len + 1) z) n) same (record {
      cut = cut;
      some = some_text (take len bytes) n is;
      is = network_in grammar (take len bytes) n is;
    }))

-- a text can be cut after a newline
pub cut_after : (text bytes : List ℕ) (len : ℕ) → bytes ≡ text → len < length bytes → get_or bytes len 0 ≡ 10
    → IsUtf8 text → IsCharBoundary text (len + 1)
cut_after text bytes len same within is utf8 =
    let here : get_or text len 0 ≡ 10 = sym (ap (λ z. get_or z len 0) same) ∙ is in
    IsCharBoundary-after_ascii text len utf8 (omega (arith, within, ap length same)) (omega (arith, here))

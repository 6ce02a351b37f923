-- The result of reading a JSON value, from the result of reading its text.
use Rattle.std.proofs.Common.{◌≡◌, ◌↔◌, ℕ, List, Some, Result, Ok, Err, MatchResult, refl, sym, ap, ◌∙◌, subst}
use Rattle.serde_json.specs.Data.{Data, null, boolean, number, string, array, object}
use Rattle.serde_json.specs.Find.{as_str}
use Rattle.ipnet_base.specs.Network.{Network}
use Rattle.ipnet.specs.NetworkTexts.{ReadsNetwork}
use Rattle.ipnet_base.specs.Results.{IsOkExactlyAt}
use Rattle.ipnet.specs.JsonTexts.{IsNetworkJson, IsNotJsonString, IsJsonStringOfNoNetwork}
use Rattle.ipnet.specs.declared.json.JsonError.{JsonError}
use Rattle.ipnet.specs.declared.json.JsonError.TheVariants.{NotString, Syntax}

same_text : (value : Data) (text other : List ℕ) → value ≡ string text → value ≡ string other → text ≡ other
same_text value text other e e' = let same : string text ≡ string other = sym e ∙ e' in cc

-- the value whose text was found is the JSON string of that text
string_of_text : (value : Data) (text : List ℕ) → as_str value ≡ Some text → value ≡ string text
string_of_text null text e = absurd (cc)
string_of_text (boolean b) text e = absurd (cc)
string_of_text (number n) text e = absurd (cc)
string_of_text (string s) text e = let same : s ≡ text = cc in ap string same
string_of_text (array ds) text e = absurd (cc)
string_of_text (object ms) text e = absurd (cc)

-- If each value has a network of its own, and a text writes at most one network, then reading the text of a JSON string
-- and reading the JSON value give the same.
pub json_read : {N E : Type 0} (network_of : N → Network) (one : (x y : N) → network_of x ≡ network_of y → x ≡ y)
    (Writes : List ℕ → Network → Type 0)
    (one_network : (text : List ℕ) (m n : Network) → Writes text m → Writes text n → m ≡ n) (value : Data)
    (text : List ℕ) (read : Result N E) (result : Result N JsonError)
    → as_str value ≡ Some text → ReadsNetwork network_of Writes text read
    → MatchResult read (λ n. result ≡ Ok n) (λ _. result ≡ Err Syntax)
    → IsOkExactlyAt result (λ n. IsNetworkJson Writes value (network_of n))
    × ((result ≡ Err NotString) ↔ IsNotJsonString value)
    × ((result ≡ Err Syntax) ↔ IsJsonStringOfNoNetwork Writes value)
json_read network_of one Writes one_network value text (Ok m) result found read e =
    let writes = (read.ok m).0 refl in
    let is = string_of_text value text found in (
      λ n. (
        λ ok. let same : m ≡ n = cc in (text, is, subst (λ x. Writes text (network_of x)) same writes),
        λ h. e ∙ ap Ok (one m n (one_network text (network_of m) (network_of n) writes
            (subst (λ t. Writes t (network_of n)) (same_text value h.0 text h.1 is) h.2))),
      ),
      (λ wrong. absurd (cc), λ none. absurd (none text is)),
      (
        λ wrong. absurd (cc),
        λ h. absurd (h.2 (network_of m)
            (subst (λ t. Writes t (network_of m)) (same_text value text h.0 is h.1) writes)),
      ),
    )
json_read network_of one Writes one_network value text (Err _) result found read e =
    let none = read.error.0 refl in
    let is = string_of_text value text found in (
      λ n. (
        λ wrong. absurd (cc),
        λ h. absurd
            (none (network_of n) (subst (λ t. Writes t (network_of n)) (same_text value h.0 text h.1 is) h.2)),
      ),
      (λ wrong. absurd (cc), λ no_string. absurd (no_string text is)),
      (λ _. (text, is, none), λ _. e),
    )

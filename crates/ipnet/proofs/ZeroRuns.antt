-- The run of zero groups that "::" stands for.
use Rattle.std.proofs.Common.{◌≡◌, ℕ, zero, suc, ◌<◌, ◌≤◌, Bool, true, false, List, [], ◌∷◌, ◌++◌, length, take, drop}
use Rattle.std.proofs.Common.{get_or, replicate, codes, bytes_eq, refl, sym, ap, ◌∙◌, arith, inl, inr, lt-ltb, le-ltb}
use Rattle.std.proofs.Common.{length-drop, get_or-drop}
use Rattle.std.proofs.lemmas.Bool.{cases_lt}
use Rattle.std.proofs.lemmas.List.{get_or-take, get_or-replicate}
use Rattle.std.proofs.lemmas.Slice.Eq.{bytes_eq-Decides}
use Rattle.std.specs.Net.Addr.{IsIpv4Mapped, octets_of}
use Rattle.std.specs.Net.Text.{ipv4_text, ipv6_text, longest_zero_run, hex_groups_text}
use Rattle.std.proofs.NetLemmas.Texts.{IsZeroRun as StdZeroRun, IsZeroRun-longest_zero_run, longest_zero_run_first}
use Rattle.ipnet.specs.CanonicalTexts.{IsZeroRun, IsShortenedRun, IsShortened}

-- the run as std says it, and back
zeros_taken : (len : ℕ) (groups : List ℕ) → len ≤ length groups → ((k : ℕ) → k < len → get_or groups k 0 ≡ 0)
    → take len groups ≡ replicate len 0
zeros_taken zero groups within zeros = refl
zeros_taken (suc len) [] within zeros = absurd (omega arith)
zeros_taken (suc len) (g ∷ groups) within zeros =
    let later = zeros_taken len groups (omega arith) (λ k less. zeros (suc k) (omega arith)) in
    rw (zeros 0 (omega arith), later)

to_std : (groups : List ℕ) (start len : ℕ) → IsZeroRun groups start len → StdZeroRun groups start len
to_std groups start len h = (
  h.within,
  zeros_taken len (drop start groups) (omega (arith, h.within, length-drop start groups))
      (λ k less. get_or-drop start groups k 0 ∙ h.zeros k less),
)

from_std : (groups : List ℕ) (start len : ℕ) → StdZeroRun groups start len → IsZeroRun groups start len
from_std groups start len h = record {
  within = h.0;
  zeros =
      λ k less. sym (get_or-drop start groups k 0) ∙ sym (get_or-take len (drop start groups) k 0 less)
      ∙ ap (λ gs. get_or gs k 0) h.1 ∙ get_or-replicate len k 0 0 less;
}

longest : (groups : List ℕ) → 1 < (longest_zero_run groups).1
    → IsShortenedRun groups (longest_zero_run groups).0 (longest_zero_run groups).1
longest groups some = record {
  run = from_std groups _ _ (IsZeroRun-longest_zero_run groups);
  two_or_more = some;
  longest = λ other more h. (longest_zero_run_first groups other more (to_std groups other more h)).0;
  first = λ other h. (longest_zero_run_first groups other _ (to_std groups other _ h)).1 refl;
}

shortened : (groups : List ℕ) → IsShortened groups (hex_groups_text groups)
unfolding hex_groups_text
shortened groups =
    let run = longest_zero_run groups in
    elim (cases_lt 1 run.1) [
      | inl some ↦ rw (lt-ltb 1 run.1 some) (inl (run.0, run.1, longest groups some, refl))
      | inr none ↦ rw (le-ltb 1 run.1 none)
          (inr (
            λ start len h. omega (
              arith,
              none,
              (longest_zero_run_first groups start len (to_std groups start len h)).0,
            ),
            refl,
          ))
    ]

refuted : (b : Bool) → ¬ (b ≡ true) → b ≡ false
refuted true h = absurd (h refl)
refuted false h = refl

-- an address outside the mapped range is written in groups
pub groups_written : (groups : List ℕ) → ¬ (IsIpv4Mapped groups) → IsShortened groups (ipv6_text groups)
unfolding ipv6_text
groups_written groups other =
    let prefix = 0 ∷ 0 ∷ 0 ∷ 0 ∷ 0 ∷ 0xffff ∷ [] in
    let test : bytes_eq (take 6 groups) prefix ≡ false =
    refuted _ (λ same. other ((bytes_eq-Decides (take 6 groups) prefix).0 same)) in
    rw test (shortened groups)

-- a mapped one in dotted form
pub mapped_written : (groups : List ℕ) → IsIpv4Mapped groups
    → ipv6_text groups ≡ codes "::ffff:" ++ ipv4_text (octets_of (drop 6 groups))
unfolding ipv6_text
mapped_written groups mapped =
    let prefix = 0 ∷ 0 ∷ 0 ∷ 0 ∷ 0 ∷ 0xffff ∷ [] in
    let test : bytes_eq (take 6 groups) prefix ≡ true = (bytes_eq-Decides (take 6 groups) prefix).1 mapped in
    rw test

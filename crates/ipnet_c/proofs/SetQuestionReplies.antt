-- Replies to questions about sets that are given by their images.
use Rattle.std.proofs.Common.{◌≡◌, ◌≢◌, ℕ, ◌+◌, ◌-◌, ◌*◌, ◌<◌, ◌≤◌, ◌⊎◌, ◌↔◌, ◌==◌, Bool, true, false, IsTrue, List}
use Rattle.std.proofs.Common.{length, take, drop, get_or, slice_set, Ok, inl, inr, refl, sym, subst, ◌∙◌, arith}
use Rattle.std.proofs.lemmas.Bool.{cases_lt}
use Rattle.std.proofs.lemmas.Grind.{get_or-set_at}
use Rattle.std.proofs.lemmas.List.{length-set, get_or-set_other}
use Rattle.std.specs.Int.{from_bool}
use Rattle.ipnet.specs.Address.{Address}
use Rattle.ipnet.specs.Network.{InBlock}
use Rattle.ipnet.specs.NetworkOf.{ip_network}
use Rattle.ipnet.specs.declared.net.IpNet.{IpNet}
use Rattle.ipnet_sets.specs.declared.set.IpSet.{IpSet}
use Rattle.ipnet_sets.specs.Images.{HasHeader, IsImage, IsImageOf}
use Rattle.ipnet_sets.specs.Members.{IsMember, IsSubset}
use Rattle.ipnet_c.specs.Replies.{AreBytesOf}
use Rattle.ipnet_c.specs.SetReplies.{IsCoversReply, IsContainsAllReply, IsSubsetReply, AreOctetsOf, IsAnswerAt}
use Rattle.ipnet_c.specs.SetReplies.{AreCountsOf, IsCountsReply, IsCoversAllReply}
use Rattle.ipnet_c.proofs.ListReplies.{TellsFaults}
use Rattle.ipnet_c.proofs.StatusLaws.{differ, is_bit, yes_exactly, answered_at}
use Rattle.ipnet_c.proofs.TableReplies.{address_once}

-- and it differs from each other status
not_code : (answer : Bool) (status other : ℕ) → status ≡ from_bool answer → (0 == other) ≡ false
    → (1 == other) ≡ false → status ≢ other
not_code true status other e zero one same = differ 1 other one (sym e ∙ same)
not_code false status other e zero one same = differ 0 other zero (sym e ∙ same)

-- whether a set covers a network
pub covers_answered : (set bytes : List ℕ) (net : IpNet) (answer : Bool) (status : ℕ) → TellsFaults bytes (Ok net)
    → AreBytesOf bytes (ip_network net) → HasHeader set
    → ((s : IpSet) → IsImageOf set s
    → IsTrue answer ↔ ((x : Address) → InBlock (ip_network net) x → IsMember s x))
    → status ≡ from_bool answer → IsCoversReply set bytes status
covers_answered set bytes net answer status faults is header h shown = record {
  answer = λ bit. (
    ip_network net,
    is,
    λ s image. yes_exactly ((x : Address) → InBlock (ip_network net) x → IsMember s x) answer status (h s image) shown,
  );
  known = λ n are has. is_bit answer status shown;
  wrong_length = (
    λ e. absurd (not_code answer status 6 shown refl refl e),
    λ wrong. let clash = faults.length.1 wrong in absurd cc,
  );
  unknown_family = (
    λ e. absurd (not_code answer status 7 shown refl refl e),
    λ wrong. let clash = faults.variant.1 wrong in absurd cc,
  );
  prefix_too_long = (
    λ e. absurd (not_code answer status 8 shown refl refl e),
    λ wrong. let clash = faults.prefix.1 wrong in absurd cc,
  );
  not_a_set = (λ e. absurd (not_code answer status 11 shown refl refl e), λ both. absurd (both.1 header));
}

-- bytes that have no header of an image
pub covers_refused : (set bytes : List ℕ) (net : IpNet) → TellsFaults bytes (Ok net) → AreBytesOf bytes (ip_network net)
    → ¬ (HasHeader set) → IsCoversReply set bytes 11
covers_refused set bytes net faults is none = record {
  answer = λ bit. elim bit [ inl e ↦ absurd (differ 11 0 refl e) | inr e ↦ absurd (differ 11 1 refl e) ];
  known = λ n are has. absurd (none has);
  wrong_length = (λ e. absurd (differ 11 6 refl e), λ wrong. let clash = faults.length.1 wrong in absurd cc);
  unknown_family = (λ e. absurd (differ 11 7 refl e), λ wrong. let clash = faults.variant.1 wrong in absurd cc);
  prefix_too_long = (λ e. absurd (differ 11 8 refl e), λ wrong. let clash = faults.prefix.1 wrong in absurd cc);
  not_a_set = (λ e. ((ip_network net, is), none), λ both. refl);
}

-- whether a set is a subset of another
pub subset_answered : (set other : List ℕ) (answer : Bool) (status : ℕ) → IsImage set → IsImage other
    → ((s t : IpSet) → IsImageOf set s → IsImageOf other t → IsTrue answer ↔ IsSubset s t)
    → status ≡ from_bool answer → IsSubsetReply set other status
subset_answered set other answer status is is_other h shown = record {
  known = λ a b. elim (is_bit answer status shown) [ inl e ↦ inl e | inr e ↦ inr (inl e) ];
  answer = λ s t image image_other memory. yes_exactly (IsSubset s t) answer status (h s t image image_other) shown;
  not_a_set = (λ e. absurd (not_code answer status 11 shown refl refl e), λ none. absurd (none is));
  other_not_a_set = (λ e. absurd (not_code answer status 12 shown refl refl e), λ both. absurd (both.1 is_other));
}

-- whether a set contains the address of the octets
pub octets_answered : (set octets : List ℕ) (y x : Address) (answer : Bool) (shown : ℕ) → AreOctetsOf octets y
    → AreOctetsOf octets x → ((s : IpSet) → IsImageOf set s → IsTrue answer ↔ IsMember s y) → shown ≡ from_bool answer
    → IsAnswerAt set x shown
octets_answered set octets y x answer shown of_y of_x h e =
    subst (λ z. IsAnswerAt set z shown) (address_once octets y x of_y of_x) (answered_at set y answer shown h e)

-- Each byte before the index has the answer for the address with the same index.
pub record AreAnsweredTo (set addresses : List ℕ) (width index : ℕ) (old answers : List ℕ) : Type 0 where
  pub as_many : length answers ≡ length old
  pub done : (i : ℕ) → i < index → (x : Address) → AreOctetsOf (take width (drop (i * width) addresses)) x
      → IsAnswerAt set x (get_or answers i 0)

one_width : (index width : ℕ) → (index + 1) * width - index * width ≡ width
one_width index width = omega arith

-- one answer more
pub answered_more : (set addresses : List ℕ) (width index : ℕ) (old answers : List ℕ) (value : ℕ)
    → AreAnsweredTo set addresses width index old answers → index < length answers
    → ((x : Address) → AreOctetsOf (take ((index + 1) * width - index * width) (drop (index * width) addresses)) x
    → IsAnswerAt set x value)
    → AreAnsweredTo set addresses width (index + 1) old (slice_set answers index value)
answered_more set addresses width index old answers value h within answer = record {
  as_many = length-set answers index value ∙ h.as_many;
  done = λ i less x octets. elim (cases_lt i index) [
    | inl before ↦ subst (IsAnswerAt set x)
        (sym (get_or-set_other answers index i value 0 (λ same. let wrong : ⊥ = omega (arith, same, before) in wrong)))
        (h.done i before x octets)
    | inr not ↦ let same : i ≡ index = omega (arith, less, not) in
        subst (IsAnswerAt set x) (sym (get_or-set_at answers index i value 0 same within))
        (answer x (subst (λ k. AreOctetsOf (take k (drop (index * width) addresses)) x)
        (sym (one_width index width)) (subst (λ j. AreOctetsOf (take width (drop (j * width) addresses)) x) same
        octets)))
  ];
}

-- every address has its answer
pub answered_all : (set addresses : List ℕ) (width index : ℕ) (old answers : List ℕ) → HasHeader set
    → ((width ≡ 4) ⊎ (width ≡ 16)) × (length addresses ≡ length old * width)
    → AreAnsweredTo set addresses width index old answers → length old ≤ index
    → IsContainsAllReply set addresses width old answers 0
answered_all set addresses width index old answers header as_shown h all = record {
  known = inl refl;
  ok = λ e i less. h.done i (omega (arith, less, all));
  as_many = h.as_many;
  wrong_length = (λ e. absurd (differ 0 6 refl e), λ wrong. absurd (wrong as_shown));
  not_a_set = (λ e. absurd (differ 0 11 refl e), λ both. absurd (both.1 header));
  kept = λ e. absurd (e refl);
}

-- Each byte before the index is the answer for the network with the same index.
pub record AreCoversOf (set networks : List ℕ) (width index : ℕ) (old answers : List ℕ) : Type 0 where
  pub as_many : length answers ≡ length old
  pub done : (i : ℕ) → i < index → IsCoversReply set (take width (drop (i * width) networks)) (get_or answers i 0)

-- one answer more
pub covers_more : (set networks : List ℕ) (width index : ℕ) (old answers : List ℕ) (value : ℕ)
    → AreCoversOf set networks width index old answers → index < length answers
    → IsCoversReply set (take ((index + 1) * width - index * width) (drop (index * width) networks)) value
    → AreCoversOf set networks width (index + 1) old (slice_set answers index value)
covers_more set networks width index old answers value h within answer = record {
  as_many = length-set answers index value ∙ h.as_many;
  done = λ i less. elim (cases_lt i index) [
    | inl before ↦ subst (IsCoversReply set (take width (drop (i * width) networks)))
        (sym (get_or-set_other answers index i value 0 (λ same. let wrong : ⊥ = omega (arith, same, before) in wrong)))
        (h.done i before)
    | inr not ↦ let same : i ≡ index = omega (arith, less, not) in
        subst (IsCoversReply set (take width (drop (i * width) networks)))
        (sym (get_or-set_at answers index i value 0 same within))
        (subst (λ j. IsCoversReply set (take width (drop (j * width) networks)) value) (sym same)
        (subst (λ k. IsCoversReply set (take k (drop (index * width) networks)) value) (one_width index width) answer))
  ];
}

-- every network has its answer
pub covers_all : (set networks : List ℕ) (width index : ℕ) (old answers : List ℕ) → HasHeader set
    → ((width ≡ 6) ⊎ (width ≡ 18)) × (length networks ≡ length old * width)
    → AreCoversOf set networks width index old answers → length old ≤ index
    → IsCoversAllReply set networks width old answers 0
covers_all set networks width index old answers header as_shown h all = record {
  known = inl refl;
  ok = λ e i less. h.done i (omega (arith, less, all));
  as_many = h.as_many;
  wrong_length = (λ e. absurd (differ 0 6 refl e), λ wrong. absurd (wrong as_shown));
  not_a_set = (λ e. absurd (differ 0 11 refl e), λ both. absurd (both.1 header));
  kept = λ e. absurd (e refl);
}

-- the numbers of addresses
pub counted : (set old new : List ℕ) (s : IpSet) → length old ≡ 4 → IsImage set → IsImageOf set s → AreCountsOf s new
    → IsCountsReply set old new 0
counted set old new s four is image counts = record {
  known = inl refl;
  ok = λ e. (s, image, counts);
  wrong_length = (λ e. absurd (differ 0 6 refl e), λ wrong. absurd (wrong four));
  not_a_set = (λ e. absurd (differ 0 11 refl e), λ both. absurd (both.1 is));
  kept = λ not_ok. absurd (not_ok refl);
}

-- Rows of payloads and of routes, and the replies about images of tables of payloads.
use Rattle.std.proofs.Common.{◌≡◌, ℕ, ◌+◌, ◌≤◌, ◌⊎◌, List, [], ◌∷◌, ◌++◌, length, get_or, Some}
use Rattle.std.proofs.Common.{inl, inr, refl, sym, ap, subst, ◌∙◌, arith}
use Rattle.std.proofs.lemmas.Bool.{cases_lt}
use Rattle.std.proofs.lemmas.List.{length_push, get_or_push, get_or_append_left}
use Rattle.std.proofs.lemmas.List.Sorted.{Contains-permutation, IsPermutation-sym}
use Rattle.ipnet_base.proofs.NetworkLaws.{same_network}
use Rattle.ipnet.specs.Address.{Address}
use Rattle.ipnet.specs.Network.{Network}
use Rattle.ipnet.specs.NetworkParts.{own_address}
use Rattle.ipnet_origins.specs.declared.payload.Payload.{Payload}
use Rattle.ipnet_origins.specs.declared.origins.Validity.{Validity}
use Rattle.ipnet_origins.specs.declared.origins.Validity.TheVariants.{Valid, Invalid, NotFound}
use Rattle.ipnet_origins.specs.Origins.{IsValidity}
use Rattle.ipnet_origins.specs.OriginImages.{IsOriginImage, IsOriginImageOf, HasPayloadsOf}
use Rattle.ipnet_origins.proofs.RecordLaws.{image_validity}
use Rattle.ipnet_origins.proofs.ValidityLaws.{by_members}
use Rattle.ipnet_c.specs.Buffers.{IsWritten, IsTooLong}
use Rattle.ipnet_c.specs.OriginReplies.{Columns, AreColumns, IsNetworkRow, IsNetworkAtRow, IsPayloadAtRow, AreGoodRows}
use Rattle.ipnet_c.specs.OriginReplies.{ArePayloadsOfRows, IsFirstBadRow, IsImageOfRows, IsOriginsReply}
use Rattle.ipnet_c.specs.OriginReplies.{validity_byte, IsRowValidity, IsValidityReply}
use Rattle.ipnet_c.proofs.StatusLaws.{differ, not_other}
use Rattle.ipnet_c.proofs.RowLaws.{row_once}
use Rattle.ipnet_c.proofs.ColumnLaws.{AreRightTo}

-- ---- rows

-- a row is one network
one_network_row : (family : ℕ) (bytes : List ℕ) (len : ℕ) (n k : Network) → IsNetworkRow family bytes len n
    → IsNetworkRow family bytes len k → n ≡ k
one_network_row family bytes len n k h e =
    let same : own_address n ≡ own_address k
    = row_once family bytes (own_address n) (own_address k) h.address e.address in
    same_network n k (ap (λ (x : Address). x.family) same) (ap (λ (x : Address). x.number) same)
    (h.len_is ∙ sym e.len_is)

-- the rows so far are payloads
pub good_more : (c : Columns) (max_lens : List ℕ) (count : ℕ) (vrp : Payload) → IsPayloadAtRow c max_lens count vrp
    → AreGoodRows c max_lens count → AreGoodRows c max_lens (count + 1)
good_more c max_lens count vrp is h i l = elim (cases_lt i count) [
  | inl lt ↦ h i lt
  | inr ge ↦
      let same : count ≡ i = omega (arith, ge, l) in
      (vrp, subst (λ k. IsPayloadAtRow c max_lens k vrp) same is)
]

-- one payload more
pub payloads_more : (c : Columns) (max_lens : List ℕ) (count : ℕ) (vrps more : List Payload) (vrp : Payload)
    → more ≡ vrps ++ vrp ∷ [] → IsPayloadAtRow c max_lens count vrp → ArePayloadsOfRows c max_lens count vrps
    → ArePayloadsOfRows c max_lens (count + 1) more
payloads_more c max_lens count vrps more vrp e is h = record {
  as_many = ap length e ∙ omega (arith, length_push vrps vrp, h.as_many);
  each = λ i d l. elim (cases_lt i count) [
    | inl lt ↦ subst (IsPayloadAtRow c max_lens i)
        (sym (ap (λ z. get_or z i d) e ∙ get_or_append_left vrps (vrp ∷ []) d i (omega (arith, lt, h.as_many))))
        (h.each i d lt)
    | inr ge ↦
        let same : count ≡ i = omega (arith, ge, l) in
        subst (IsPayloadAtRow c max_lens i)
        (sym (ap (λ z. get_or z i d) e ∙ get_or_push vrps vrp d i (h.as_many ∙ same)))
        (subst (λ k. IsPayloadAtRow c max_lens k vrp) same is)
  ];
}

-- ---- images

-- no row is the first bad one if all are good
none_bad : (c : Columns) (max_lens : List ℕ) (row : ℕ) → AreGoodRows c max_lens (length max_lens)
    → IsFirstBadRow c max_lens row → ⊥
none_bad c max_lens row good h = let (vrp, is) = good row h.within in h.bad vrp is

-- an image, which is written if there is room
pub origins_made : (c : Columns) (max_lens image old new : List ℕ) (count_old count status : ℕ)
    → AreColumns c (length max_lens) → AreGoodRows c max_lens (length max_lens) → IsImageOfRows c max_lens image
    → (status ≡ 0) ⊎ (status ≡ 4) → (status ≡ 0 → IsWritten image old new count)
    → (status ≡ 4 → IsTooLong image old new count) → IsOriginsReply c max_lens old new count_old count status
origins_made c max_lens image old new count_old count status as_shown good is known ok short = record {
  known = elim known [ inl e ↦ inl e | inr e ↦ inr (inl e) ];
  ok = λ e. (image, is, ok e);
  too_short = λ e. (image, is, short e);
  bad_row = λ e. absurd (not_other status 15 known refl refl e);
  bad = λ row columns h. absurd (none_bad c max_lens row good h);
  wrong_length = (λ e. absurd (not_other status 6 known refl refl e), λ wrong. absurd (wrong as_shown));
  buffer_kept = λ not_ok. elim known [ inl e ↦ absurd (not_ok e) | inr e ↦ (short e).kept ];
  count_kept = λ e. elim e [
    | inl e ↦ absurd (not_other status 6 known refl refl e)
    | inr e ↦ absurd (not_other status 3 known refl refl e)
  ];
}

-- no memory for the image
pub memory_refused : (c : Columns) (max_lens old : List ℕ) (count : ℕ) → AreColumns c (length max_lens)
    → AreGoodRows c max_lens (length max_lens) → IsOriginsReply c max_lens old old count count 3
memory_refused c max_lens old count as_shown good = record {
  known = inr (inr (inr (inr refl)));
  ok = λ e. absurd (differ 3 0 refl e);
  too_short = λ e. absurd (differ 3 4 refl e);
  bad_row = λ e. absurd (differ 3 15 refl e);
  bad = λ row columns h. absurd (none_bad c max_lens row good h);
  wrong_length = (λ e. absurd (differ 3 6 refl e), λ wrong. absurd (wrong as_shown));
  buffer_kept = λ e. refl;
  count_kept = λ e. refl;
}

-- ---- validities

-- a validity has a byte of its own
not_three : (v : Validity) → validity_byte v ≡ 3 → ⊥
not_three Valid e = differ 1 3 refl e
not_three Invalid e = differ 2 3 refl e
not_three NotFound e = differ 0 3 refl e

-- the answer for a row that is a network
pub row_answered : (vrps : List Payload) (c : Columns) (i answer : ℕ) (n : Network) (v : Validity)
    → IsNetworkAtRow c i n → IsValidity vrps n (Some (get_or c.asns i 0)) v → answer ≡ validity_byte v
    → IsRowValidity vrps c i answer
row_answered vrps c i answer n v row is e = record {
  network = λ k of_k. (
    v,
    subst (λ m. IsValidity vrps m (Some (get_or c.asns i 0)) v)
        (one_network_row (get_or c.families i 0) _ (get_or c.lengths i 0) n k row of_k) is,
    e,
  );
  none = (λ three. absurd (not_three v (sym e ∙ three)), λ none. absurd (none n row));
}

-- and for a row that is not
pub row_unanswered : (vrps : List Payload) (c : Columns) (i : ℕ) → ((n : Network) → IsNetworkAtRow c i n → ⊥)
    → IsRowValidity vrps c i 3
row_unanswered vrps c i out = record {
  network = λ n row. absurd (out n row);
  none = (λ three. out, λ none. refl);
}

-- the answer by a table is the answer by the payloads of its image
row_of_image : (origins : List ℕ) (vrps given : List Payload) (c : Columns) (i answer : ℕ)
    → HasPayloadsOf origins vrps → IsOriginImageOf origins given → IsRowValidity vrps c i answer
    → IsRowValidity given c i answer
row_of_image origins vrps given c i answer has image h = record {
  network = λ n row.
      let (v, is, e) = h.network n row in
      let origin = Some (get_or c.asns i 0) in
      let stored = has.stored in (
        v,
        image_validity origins stored given n origin v has.image_of image
            (by_members vrps stored n origin v
            (λ vrp. (
              Contains-permutation vrps stored vrp (IsPermutation-sym stored vrps has.same),
              Contains-permutation stored vrps vrp has.same,
            )) is),
        e,
      );
  none = h.none;
}

-- the validity of each row
pub validities : (origins : List ℕ) (vrps : List Payload) (c : Columns) (index : ℕ) (old new : List ℕ)
    → HasPayloadsOf origins vrps → IsOriginImage origins → AreColumns c (length old)
    → AreRightTo (IsRowValidity vrps c) index old new → length old ≤ index → IsValidityReply origins c old new 0
validities origins vrps c index old new has image as_shown h all = record {
  known = inl refl;
  ok = λ given e of_given i less. row_of_image origins vrps given c i (get_or new i 0) has of_given
      (h.done i (omega (arith, less, all)));
  image = λ e. image;
  as_many = h.as_many;
  wrong_length = (λ e. absurd (differ 0 6 refl e), λ wrong. absurd (wrong as_shown));
  not_origins = (λ e. absurd (differ 0 16 refl e), λ both. absurd (both.1 image));
  kept = λ not_ok. absurd (not_ok refl);
}

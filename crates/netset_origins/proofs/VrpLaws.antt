-- The VRPs of lines and of JSON.
use Rattle.std.proofs.Common.{◌≡◌, ◌≢◌, ◌↔◌, ◌≤◌, ℕ, [], ◌∷◌, ◌++◌, List, Option, Some, None, Result, Ok, Err}
use Rattle.std.proofs.Common.{Bool, true, false, IfOk, IfErr, option_map, option_and_then}
use Rattle.std.proofs.Common.{ap, sym, ◌∙◌, subst, append_assoc, append-nil, refl, codes, length, get_or, arith}
use Rattle.serde_json.specs.Data.{Data, Items, array}
use Rattle.serde_json.specs.Find.{get, as_array}
use Rattle.serde_json.specs.View.{items_of}
use Rattle.ipnet_base.specs.Network.{Network}
use Rattle.ipnet.specs.declared.parser.Grammar.{Grammar}
use Rattle.ipnet_lists.specs.Causes.{Has}
use Rattle.ipnet_lists.specs.Entries.{IsNetworkOrMasked}
use Rattle.ipnet_origins.specs.declared.payload.Payload.{Payload}
use Rattle.netset_origins.specs.Fields.{first_field, after_field, IsNumber, IsAsn}
use Rattle.netset_origins.specs.VrpJson.{text_at, IsAsnFrom, IsAsnAt, IsMaxLenAt, IsVrpData, IsDataCause, AreVrpItems}
use Rattle.netset_origins.specs.VrpLines.{network_field, length_field, free_fields, all_added, IsVrpOf, IsVrpText}
use Rattle.netset_origins.specs.VrpLines.{IsDivided, IsLengthCause, IsVrpCause}
use Rattle.netset_origins.specs.declared.vrp_line.VrpCause.{VrpCause}
use Rattle.netset_origins.specs.declared.vrp_line.VrpCause.TheVariants as Causes

-- ---- lines

-- the VRPs of one line more
pub added_last : (lines : List (List Payload)) (added : List Payload)
    → all_added (lines ++ added ∷ []) ≡ all_added lines ++ added
added_last [] added = append-nil added
added_last (line ∷ lines) added =
    ap (λ z. line ++ z) (added_last lines added) ∙ sym (append_assoc line (all_added lines) added)

-- the search for a comma in the last fields found none, nor did the search for a `;` from the fourth field on
pub is_divided : (comma semicolon : Bool) (text one two free last : List ℕ) → one ≡ after_field text
    → two ≡ after_field one → free ≡ after_field two → last ≡ after_field free → (Has 44 last → comma ≡ true)
    → comma ≡ false → (Has 59 free → semicolon ≡ true) → semicolon ≡ false → IsDivided text
is_divided comma semicolon text one two free last first second third fourth few no_comma plain no_semicolon =
    let is : free ≡ free_fields text
    = third ∙ ap after_field (second ∙ ap after_field first) in (
      λ h.
          let clash : comma ≡ true = few (subst (Has 44) (sym (fourth ∙ ap after_field is)) h) in
          absurd cc,
      λ h.
          let clash : semicolon ≡ true = plain (subst (Has 59) (sym is) h) in
          absurd cc,
    )

module _ (grammar : Grammar) (text : List ℕ) (asn : ℕ) (n : Network) (max : Option ℕ)
    (has_asn : IsAsn (first_field text) asn) (writes : IsNetworkOrMasked grammar (network_field text) n)
    (same : (m : ℕ) → (max ≡ Some m) ↔ IsNumber (length_field text) m) where
  pub line_vrp : (r : Result Payload VrpCause) → IsDivided text
      → IfOk r (λ vrp. IsVrpOf asn n vrp × (max ≡ Some vrp.max_len)) → IfOk r (IsVrpText grammar text)
  line_vrp (Ok vrp) divided h = record {
    network = n;
    without_host_bits = h.0.of_network;
    writes_asn = subst (IsAsn (first_field text)) (sym h.0.of_asn) has_asn;
    writes_network = writes;
    writes_max_len = (same vrp.max_len).0 h.1;
    fields = divided;
  }
  line_vrp (Err cause) divided h = tt

  pub line_cause : (r : Result Payload VrpCause) → IsDivided text
      → IfErr r (IsLengthCause n (λ m. max ≡ Some m)) → IfErr r (IsVrpCause grammar text)
  line_cause (Ok vrp) divided h = tt
  line_cause (Err Causes.TooManyFields) divided h = absurd h
  line_cause (Err Causes.Semicolon) divided h = absurd h
  line_cause (Err Causes.NoAsn) divided h = absurd h
  line_cause (Err (Causes.NoNetwork cause)) divided h = absurd h
  line_cause (Err Causes.NoMaxLen) divided h = ((divided, (asn, has_asn)), (n, writes, λ m k. h m ((same m).1 k)))
  line_cause (Err (Causes.RefusedMaxLen error)) divided (m, is, refused) =
      ((divided, (asn, has_asn)), (n, writes, (m, (same m).0 is, refused)))

-- ---- JSON

pub nil_of : (text : List ℕ) → length text ≡ 0 → text ≡ []
nil_of [] h = refl
nil_of (b ∷ text) h = absurd (omega (arith, h))

pub no_brace : (text : List ℕ) → text ≡ [] → get_or text 0 0 ≡ 123 → ⊥
no_brace text e h = let zero : 0 ≡ 123 = ap (λ z. get_or z 0 0) (sym e) ∙ h in omega (arith, zero)

pub asn_empty : (text : List ℕ) (number r : Option ℕ) (n : ℕ) → text ≡ []
    → ((r ≡ Some n) ↔ ((number ≡ Some n) × (n ≤ 4294967295))) → (r ≡ Some n) ↔ IsAsnFrom text number n
asn_empty text number r n e same = subst (λ t. (r ≡ Some n) ↔ IsAsnFrom t number n) (sym e) same

pub asn_text : (text : List ℕ) (number r : Option ℕ) (n : ℕ) → text ≢ [] → ((r ≡ Some n) ↔ IsAsn text n)
    → (r ≡ Some n) ↔ IsAsnFrom text number n
asn_text [] number r n some same = absurd (some refl)
asn_text (b ∷ text) number r n some same = same

module _ (grammar : Grammar) (d : Data) (asn : ℕ) (n : Network) (max : Option ℕ) (has_asn : IsAsnAt d asn)
    (writes : IsNetworkOrMasked grammar (text_at (codes "prefix") d) n)
    (same : (m : ℕ) → (max ≡ Some m) ↔ IsMaxLenAt d m) where
  pub data_vrp : (r : Result Payload VrpCause)
      → IfOk r (λ vrp. IsVrpOf asn n vrp × (max ≡ Some vrp.max_len)) → IfOk r (IsVrpData grammar d)
  data_vrp (Ok vrp) h = record {
    network = n;
    without_host_bits = h.0.of_network;
    has_asn = subst (IsAsnAt d) (sym h.0.of_asn) has_asn;
    has_network = writes;
    has_max_len = (same vrp.max_len).0 h.1;
  }
  data_vrp (Err cause) h = tt

  pub data_cause : (r : Result Payload VrpCause) → IfErr r (IsLengthCause n (λ m. max ≡ Some m))
      → IfErr r (IsDataCause grammar d)
  data_cause (Ok vrp) h = tt
  data_cause (Err Causes.TooManyFields) h = absurd h
  data_cause (Err Causes.Semicolon) h = absurd h
  data_cause (Err Causes.NoAsn) h = absurd h
  data_cause (Err (Causes.NoNetwork cause)) h = absurd h
  data_cause (Err Causes.NoMaxLen) h = ((asn, has_asn), (n, writes, λ m k. h m ((same m).1 k)))
  data_cause (Err (Causes.RefusedMaxLen error)) (m, is, refused) =
      ((asn, has_asn), (n, writes, (m, (same m).0 is, refused)))

-- data without an array under the key
pub no_array : {T : Type 0} (items_of_value : T → Items) (r : Option T) (d : Data) (key : List ℕ) → r ≡ None
    → option_map items_of_value r ≡ option_and_then as_array (get key d) → (items : List Data)
    → get key d ≢ Some (array (items_of items))
no_array items_of_value r d key none same items has =
    let clash : None ≡ Some (items_of items)
    = ap (option_map items_of_value) (sym none) ∙ same ∙ ap (option_and_then as_array) has in
    absurd cc

-- one item more
pub items_last : (grammar : Grammar) (items : List Data) (vrps : List Payload) (d : Data) (vrp : Payload)
    → AreVrpItems grammar items vrps → IsVrpData grammar d vrp
    → AreVrpItems grammar (items ++ d ∷ []) (vrps ++ vrp ∷ [])
items_last grammar [] vrps d vrp h is =
    (vrp, [], is, ap (λ z. z ++ vrp ∷ []) h, refl)
items_last grammar (e ∷ items) vrps d vrp (first, more, one, spelled, h) is = (
  first,
  more ++ vrp ∷ [],
  one,
  ap (λ z. z ++ vrp ∷ []) spelled,
  items_last grammar items more d vrp h is,
)

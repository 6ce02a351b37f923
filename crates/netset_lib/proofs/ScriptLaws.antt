-- Answers are keys of their addresses, and a script gives the text of its set.
use Rattle.std.proofs.Common.{◌≡◌, ℕ, ◌+◌, ◌<◌, ◌⊎◌, ◌↔◌, ◌^◌, List, [], ◌∷◌, ◌++◌, All, refl, sym, ap, ◌∙◌}
use Rattle.std.proofs.Common.{subst, arith, inl, inr, codes}
use Rattle.std.proofs.lemmas.List.Elements.{All-nil, All-cons, All-head, All-contains}
use Rattle.ipnet_base.specs.Address.{Family, Address, IsAddress, width}
use Rattle.ipnet_base.specs.Ranges.{AddressRange}
use Rattle.ipnet_base.specs.Network.{Network, IsNetwork}
use Rattle.ipnet_base.proofs.BlockLaws.{last_fits}
use Rattle.ipnet_base.proofs.UniqueLaws.{AreMaximalBlocks-unique, AreMaximalBlocks-same_set}
use Rattle.ipnet.specs.declared.parser.Grammar.{Grammar}
use Rattle.ipnet.proofs.ValidTexts.{text_is_network}
use Rattle.ipnet_sets.proofs.SetRangeLaws.{any_cases, any_here, any_there}
use Rattle.ipnet_text.specs.LineTexts.{text_of_lines}
use Rattle.netset_lib.specs.declared.answer.Form.{Form}
use Rattle.netset_lib.specs.declared.answer.Form.TheVariants.{Networks, Ranges}
use Rattle.netset_lib.specs.declared.operation.Families.{Families}
use Rattle.netset_lib.specs.declared.operation.Families.TheVariants.{Named, Ipv4, Ipv6, Both}
use Rattle.netset_lib.specs.Operations as Operations
use Rattle.netset_lib.specs.Answers.{AreListsRead, IsAnswer, IsSetText}
use Rattle.ipnet_lists.specs.SetLines.{text_of_ranges}
use Rattle.ipnet_lists.specs.Entries.{IsAddressText, IsNetworkOrMasked, IsEntryText, after_blanks}
use Rattle.ipnet_lists.specs.Lists.{ListEntry, Refusal, AreRead, IsListRead, IsInEntries, HaveAddresses}
use Rattle.netset_lib.specs.Operations.{ListOperation, IsChosen, IsInResult}
use Rattle.netset_lib.specs.Scripts.{Script, File, Aggregate, Union, Intersection, Difference, SymmetricDifference}
use Rattle.netset_lib.specs.Scripts.{Complement, IsCall, IsInFile, IsChosenFor, IsInScript, Gives}
use Rattle.netset_lib.specs.Scripts.{IsListOf}
use Rattle.netset_lib.proofs.AnswerReading.{answer_is_list}
use Rattle.netset_lib.proofs.AnswerTexts.{text_of_same}
use Rattle.ipnet_lists.proofs.EntryTexts.{with_32, with_length}
use Rattle.ipnet_lists.proofs.OneRanges.{one_ranges}
use Rattle.ipnet_lists.proofs.OneReading.{one_reading}

-- ---- sets and their texts

-- two answers of one form for the same addresses are one text
pub one_text : (form : Form) (A B : Address → Type 0) (text other : List ℕ) → ((x : Address) → A x ↔ B x)
    → IsSetText form A text → IsSetText form B other → text ≡ other
one_text Networks A B text other same h k =
    h.spelled
    ∙ ap text_of_lines
    (AreMaximalBlocks-unique B 0 h.blocks k.blocks (AreMaximalBlocks-same_set A B 0 h.blocks same h.maximal) k.maximal)
    ∙ sym k.spelled
one_text Ranges A B text other same h k =
    let moved = text_of_same Ranges A B text same h in
    moved.spelled ∙ ap text_of_ranges (one_ranges B moved.ranges k.ranges moved.fewest k.fewest) ∙ sym k.spelled

-- sets that are read from one text are one
lists_of_one_text : (grammar : Grammar) (A B : Address → Type 0) (text : List ℕ) → IsListOf grammar A text
    → IsListOf grammar B text → (x : Address) → A x ↔ B x
lists_of_one_text grammar A B text h k x =
    let same = (one_reading grammar 0 text h.entries k.entries [] [] h.read k.read).0 in
    let have : B x ↔ IsInEntries h.entries x = subst (λ es. B x ↔ IsInEntries es x) (sym same) (k.addresses x) in (
      λ a. have.1 ((h.addresses x).0 a),
      λ b. (h.addresses x).1 (have.0 b),
    )

-- two answers are one text only for the same addresses
pub one_set : (grammar : Grammar) (form other_form : Form) (A B : Address → Type 0) (text other : List ℕ)
    → ((x : Address) → A x → IsAddress x) → ((x : Address) → B x → IsAddress x) → IsSetText form A text
    → IsSetText other_form B other → text ≡ other → (x : Address) → A x ↔ B x
one_set grammar form other_form A B text other fits fit h k same =
    lists_of_one_text grammar A B text (answer_is_list form grammar A text fits h)
    (subst (IsListOf grammar B) (sym same) (answer_is_list other_form grammar B other fit k))

-- ---- the addresses of entries

network_fits : (grammar : Grammar) (text : List ℕ) (n : Network) → IsNetworkOrMasked grammar text n → IsNetwork n
network_fits grammar text n (inl h) = text_is_network grammar text n h
network_fits grammar text n (inr h) = h.parts.addresses.has.network

address_fits : (grammar : Grammar) (text : List ℕ) (x : Address) → IsAddressText grammar text x → IsAddress x
address_fits grammar text x h =
    (text_is_network grammar (text ++ codes "/32") (with_32 x) (with_length grammar text x h)).address_fits

-- the end of the range of an entry is an address
entry_fits : (grammar : Grammar) (text : List ℕ) (r : AddressRange) → IsEntryText grammar text r
    → r.end < 2 ^ width r.family
entry_fits grammar text r (inl (inl h)) =
    subst (λ z. z.end < 2 ^ width z.family) (sym h.is)
    (last_fits h.network (network_fits grammar text h.network h.writes))
entry_fits grammar text r (inl (inr h)) =
    subst (λ z. z.end < 2 ^ width z.family) (sym h.is) (address_fits grammar text h.address h.writes)
entry_fits grammar text r (inr h) =
    let last = address_fits grammar (after_blanks h.last_text) h.ends.last h.ends.writes_last in
    subst (λ z. z.end < 2 ^ width z.family) (sym h.ends.addresses.is)
    (subst (λ f. h.ends.last.number < 2 ^ width f) (sym h.ends.addresses.same_family) last)

entries_fit : (grammar : Grammar) (list line : ℕ) (texts : List (List ℕ)) (entries : List ListEntry)
    (refusals : List Refusal) → AreRead grammar list line texts entries refusals
    → All (λ e. e.range.end < 2 ^ width e.range.family) entries
entries_fit grammar list line [] entries refusals h =
    subst (All (λ e. e.range.end < 2 ^ width e.range.family)) (sym h.0)
    (All-nil (λ e. e.range.end < 2 ^ width e.range.family))
entries_fit grammar list line ([] ∷ texts) entries refusals h =
    entries_fit grammar list (line + 1) texts entries refusals h
entries_fit grammar list line ((b ∷ text) ∷ texts) entries refusals (inl (more, next, h)) =
    subst (All (λ e. e.range.end < 2 ^ width e.range.family)) (sym next.next)
    (All-cons (λ e. e.range.end < 2 ^ width e.range.family) (record { text = b ∷ text; range = next.range }) more
    (entry_fits grammar (b ∷ text) next.range next.writes)
    (entries_fit grammar list (line + 1) texts more refusals h))
entries_fit grammar list line ((b ∷ text) ∷ texts) entries refusals (inr (more, next, h)) =
    entries_fit grammar list (line + 1) texts entries more h

in_entries_fits : (entries : List ListEntry) → All (λ e. e.range.end < 2 ^ width e.range.family) entries → (x : Address)
    → IsInEntries entries x → IsAddress x
in_entries_fits entries h x (i, e, less, is, m) =
    let fits = All-contains (λ e. e.range.end < 2 ^ width e.range.family) entries e h (i, less, is) in
    omega (arith, m.to_end, fits, ap (λ f. 2 ^ width f) m.of_family)

-- the addresses of a list that was read
read_fits : (grammar : Grammar) (bytes : List ℕ) (entries : List ListEntry)
    → IsListRead grammar 0 bytes entries [] → (x : Address) → IsInEntries entries x → IsAddress x
read_fits grammar bytes entries (texts, are, read) x m =
    in_entries_fits entries (entries_fit grammar 0 1 texts entries [] read) x m

-- ---- lists without refused lines

none_front : {X : Type 0} (xs ys : List X) → [] ≡ xs ++ ys → xs ≡ []
none_front [] ys e = refl
none_front (x ∷ xs) ys e = absurd cc

none_back : {X : Type 0} (xs ys : List X) → [] ≡ xs ++ ys → ys ≡ []
none_back [] ys e = sym e
none_back (x ∷ xs) ys e = absurd cc

-- the index of a list does not matter
other_index : (grammar : Grammar) (i j line : ℕ) (texts : List (List ℕ)) (entries : List ListEntry)
    → AreRead grammar i line texts entries [] → AreRead grammar j line texts entries []
other_index grammar i j line [] entries h = h
other_index grammar i j line ([] ∷ texts) entries h = other_index grammar i j (line + 1) texts entries h
other_index grammar i j line ((b ∷ text) ∷ texts) entries (inl (more, next, h)) =
    inl (more, next, other_index grammar i j (line + 1) texts more h)
other_index grammar i j line ((b ∷ text) ∷ texts) entries (inr (more, next, h)) = absurd (let e = next.next in cc)

at_nought : (grammar : Grammar) (i : ℕ) (bytes : List ℕ) (entries : List ListEntry) (refusals : List Refusal)
    → refusals ≡ [] → IsListRead grammar i bytes entries refusals → IsListRead grammar 0 bytes entries []
at_nought grammar i bytes entries refusals none (texts, are, h) =
    (texts, are, other_index grammar i 0 1 texts entries (subst (AreRead grammar i 1 texts entries) none h))

-- the only list
one_list_read : (grammar : Grammar) (bytes : List ℕ) (entries : List (List ListEntry))
    → AreListsRead grammar 0 (bytes ∷ []) entries []
    → (first : List ListEntry) × (entries ≡ first ∷ []) × IsListRead grammar 0 bytes first []
one_list_read grammar bytes entries (first, others, here, later, is, none, read, rest) = (
  first,
  is ∙ ap (λ z. first ∷ z) rest.0,
  at_nought grammar 0 bytes first here (none_front here later none) read,
)

-- the two lists
two_lists_read : (grammar : Grammar) (bytes more : List ℕ) (entries : List (List ListEntry))
    → AreListsRead grammar 0 (bytes ∷ more ∷ []) entries []
    → (first second : List ListEntry) × (entries ≡ first ∷ second ∷ []) × IsListRead grammar 0 bytes first []
    × IsListRead grammar 0 more second []
two_lists_read grammar bytes more entries (first, others, here, later, is, none, read, rest) =
    let (second, nothing, there, last, also, nor, reads, end) = rest in
    let empty : later ≡ [] = none_back here later none in (
      first,
      second,
      is ∙ ap (λ z. first ∷ z) (also ∙ ap (λ z. second ∷ z) end.0),
      at_nought grammar 0 bytes first here (none_front here later none) read,
      at_nought grammar 1 more second there (none_front there last (sym empty ∙ nor)) reads,
    )

-- ---- calls

-- each list without refused lines that the bytes are has these addresses
abbrev pub HaveOnly : Grammar → (Address → Type 0) → List ℕ → Type 0
HaveOnly grammar A bytes = (entries : List ListEntry) → IsListRead grammar 0 bytes entries [] → HaveAddresses A entries

module _ (grammar : Grammar) (form : Form) (A : Address → Type 0) (bytes : List ℕ) (have : HaveOnly grammar A bytes)
    (text : List ℕ) where
  aggregate_text : IsAnswer Operations.Union grammar form (bytes ∷ []) text → IsSetText form A text
  aggregate_text h =
      let (first, is, read) = one_list_read grammar bytes h.entries h.read in
      let same = have first read in
      text_of_same form (IsInResult IsInEntries Operations.Union h.entries) A text
      (λ x. subst (λ es. IsInResult IsInEntries Operations.Union es x ↔ A x) (sym is) (
        λ k. elim (any_cases (λ e. IsInEntries e x) first [] k) [
          | inl here ↦ (same x).1 here
          | inr there ↦ absurd (omega (arith, there.2))
        ],
        λ a. any_here (λ e. IsInEntries e x) first [] ((same x).0 a),
      ))
      h.right

  chosen_same : (families : Families) (first : List ListEntry) (f : Family) → HaveAddresses A first
      → IsChosen IsInEntries families first f ↔ IsChosenFor families A f
  chosen_same Named first f same = (λ k. (k.0, k.1, (same k.0).1 k.2), λ k. (k.0, k.1, (same k.0).0 k.2))
  chosen_same Ipv4 first f same = (λ k. k, λ k. k)
  chosen_same Ipv6 first f same = (λ k. k, λ k. k)
  chosen_same Both first f same = (λ k. k, λ k. k)

  complement_text : (families : Families)
      → IsAnswer (Operations.Complement families) grammar form (bytes ∷ []) text
      → IsSetText form (λ x. IsAddress x × IsChosenFor families A x.family × ¬ (A x)) text
  complement_text families h =
      let (first, is, read) = one_list_read grammar bytes h.entries h.read in
      let same = have first read in
      text_of_same form (IsInResult IsInEntries (Operations.Complement families) h.entries)
      (λ x. IsAddress x × IsChosenFor families A x.family × ¬ (A x)) text
      (λ x.
      let chosen = chosen_same families first x.family same in
      subst
      (λ es. IsInResult IsInEntries (Operations.Complement families) es x
      ↔ (IsAddress x × IsChosenFor families A x.family × ¬ (A x)))
      (sym is) (
        λ k. (k.0, chosen.0 k.1, λ a. k.2 ((same x).0 a)),
        λ k. (k.0, chosen.1 k.1, λ e. k.2 ((same x).1 e)),
      ))
      h.right

module _ (grammar : Grammar) (form : Form) (A B : Address → Type 0) (one other : List ℕ)
    (have : HaveOnly grammar A one) (also : HaveOnly grammar B other) (text : List ℕ) where
  -- a text of the result on two lists is a text of a set with the same addresses
  two_text : (operation : ListOperation) (C : Address → Type 0)
      → ((first second : List ListEntry) (x : Address) → (IsInEntries first x ↔ A x) → (IsInEntries second x ↔ B x)
      → IsInResult IsInEntries operation (first ∷ second ∷ []) x ↔ C x)
      → IsAnswer operation grammar form (one ∷ other ∷ []) text → IsSetText form C text
  two_text operation C result h =
      let (first, second, is, read, reads) = two_lists_read grammar one other h.entries h.read in
      let same = have first read in
      let same_too = also second reads in
      text_of_same form (IsInResult IsInEntries operation h.entries) C text
      (λ x. subst (λ es. IsInResult IsInEntries operation es x ↔ C x) (sym is)
      (result first second x ((same x).1, (same x).0) ((same_too x).1, (same_too x).0)))
      h.right

  union_text : IsAnswer Operations.Union grammar form (one ∷ other ∷ []) text → IsSetText form (λ x. A x ⊎ B x) text
  union_text = two_text Operations.Union (λ x. A x ⊎ B x) (λ first second x a b. (
    λ k. elim (any_cases (λ e. IsInEntries e x) first (second ∷ []) k) [
      | inl here ↦ inl (a.0 here)
      | inr there ↦ elim (any_cases (λ e. IsInEntries e x) second [] there) [
        | inl last ↦ inr (b.0 last)
        | inr none ↦ absurd (omega (arith, none.2))
      ]
    ],
    λ k. elim k [
      | inl y ↦ any_here (λ e. IsInEntries e x) first (second ∷ []) (a.1 y)
      | inr z ↦ any_there (λ e. IsInEntries e x) first (second ∷ []) (any_here (λ e. IsInEntries e x) second [] (b.1 z))
    ],
  ))

  intersection_text : IsAnswer Operations.Intersection grammar form (one ∷ other ∷ []) text
      → IsSetText form (λ x. A x × B x) text
  intersection_text = two_text Operations.Intersection (λ x. A x × B x) (λ first second x a b. (
    λ k. (a.0 k.0, b.0 (All-head (λ e. IsInEntries e x) second [] k.1)),
    λ k. (a.1 k.0, All-cons (λ e. IsInEntries e x) second [] (b.1 k.1) (All-nil (λ e. IsInEntries e x))),
  ))

  difference_text : IsAnswer Operations.Difference grammar form (one ∷ other ∷ []) text
      → IsSetText form (λ x. A x × ¬ (B x)) text
  difference_text = two_text Operations.Difference (λ x. A x × ¬ (B x)) (λ first second x a b. (
    λ k. (a.0 k.0, λ y. All-head (λ e. ¬ (IsInEntries e x)) second [] k.1 (b.1 y)),
    λ k. (
      a.1 k.0,
      All-cons (λ e. ¬ (IsInEntries e x)) second [] (λ e. k.1 (b.0 e)) (All-nil (λ e. ¬ (IsInEntries e x))),
    ),
  ))

  symmetric_text : IsAnswer Operations.SymmetricDifference grammar form (one ∷ other ∷ []) text
      → IsSetText form (λ x. (A x × ¬ (B x)) ⊎ (B x × ¬ (A x))) text
  symmetric_text = two_text Operations.SymmetricDifference (λ x. (A x × ¬ (B x)) ⊎ (B x × ¬ (A x)))
      (λ first second x a b. (
        λ k. elim k [
          | inl y ↦ inl (a.0 y.0, λ z. y.1 (b.1 z))
          | inr y ↦ inr (b.0 y.0, λ z. y.1 (a.1 z))
        ],
        λ k. elim k [
          | inl y ↦ inl (a.1 y.0, λ z. y.1 (b.0 z))
          | inr y ↦ inr (b.1 y.0, λ z. y.1 (a.0 z))
        ],
      ))

-- ---- scripts

file_fits : (grammar : Grammar) (bytes : List ℕ) (x : Address) → IsInFile grammar bytes x → IsAddress x
file_fits grammar bytes x h = read_fits grammar bytes h.entries h.read x h.member

-- the addresses of a script are valid
pub script_fits : (grammar : Grammar) (script : Script) (x : Address) → IsInScript grammar script x → IsAddress x
script_fits grammar (File bytes) x h = file_fits grammar bytes x h
script_fits grammar (Aggregate only) x h = script_fits grammar only x h
script_fits grammar (Union first second) x (inl h) = script_fits grammar first x h
script_fits grammar (Union first second) x (inr h) = script_fits grammar second x h
script_fits grammar (Intersection first second) x h = script_fits grammar first x h.0
script_fits grammar (Difference first second) x h = script_fits grammar first x h.0
script_fits grammar (SymmetricDifference first second) x (inl h) = script_fits grammar first x h.0
script_fits grammar (SymmetricDifference first second) x (inr h) = script_fits grammar second x h.0
script_fits grammar (Complement families only) x h = h.0

-- a text of a set without invalid addresses has only these
have_only : (grammar : Grammar) (form : Form) (A : Address → Type 0) (text : List ℕ)
    → ((x : Address) → A x → IsAddress x) → IsSetText form A text → HaveOnly grammar A text
have_only grammar form A text fits h entries read =
    let list = answer_is_list form grammar A text fits h in
    subst (HaveAddresses A) ((one_reading grammar 0 text list.entries entries [] [] list.read read).0) list.addresses

file_has : (grammar : Grammar) (bytes : List ℕ) → HaveOnly grammar (IsInFile grammar bytes) bytes
file_has grammar bytes entries read x = (
  λ h. subst (λ es. IsInEntries es x) ((one_reading grammar 0 bytes h.entries entries [] [] h.read read).0) h.member,
  λ m. record { entries = entries; read = read; member = m },
)

-- what a script gives has the addresses of its set, and is their text if it is a call
pub record IsGivenRight (grammar : Grammar) (form : Form) (script : Script) (text : List ℕ) : Type 0 where
  pub have : HaveOnly grammar (IsInScript grammar script) text
  pub right : IsCall script → IsSetText form (IsInScript grammar script) text

call_right : (grammar : Grammar) (form : Form) (script : Script) (text : List ℕ)
    → IsSetText form (IsInScript grammar script) text → IsGivenRight grammar form script text
call_right grammar form script text h = record {
  have = have_only grammar form (IsInScript grammar script) text (script_fits grammar script) h;
  right = λ call. h;
}

pub given_right : (grammar : Grammar) (form : Form) (script : Script) (text : List ℕ) → Gives grammar form script text
    → IsGivenRight grammar form script text
given_right grammar form (File bytes) text is = record {
  have = subst (HaveOnly grammar (IsInFile grammar bytes)) (sym is) (file_has grammar bytes);
  right = λ call. absurd call;
}
given_right grammar form (Aggregate only) text (below, list, gives, answer) =
    let one = given_right grammar below only list gives in
    call_right grammar form (Aggregate only) text
    (aggregate_text grammar form (IsInScript grammar only) list one.have text answer)
given_right grammar form (Union first second) text (left, right, one, other, gives, also, answer) =
    let a = given_right grammar left first one gives in
    let b = given_right grammar right second other also in
    call_right grammar form (Union first second) text
    (union_text grammar form (IsInScript grammar first) (IsInScript grammar second) one other a.have b.have text answer)
given_right grammar form (Intersection first second) text (left, right, one, other, gives, also, answer) =
    let a = given_right grammar left first one gives in
    let b = given_right grammar right second other also in
    call_right grammar form (Intersection first second) text
    (intersection_text grammar form (IsInScript grammar first) (IsInScript grammar second) one other a.have b.have text
    answer)
given_right grammar form (Difference first second) text (left, right, one, other, gives, also, answer) =
    let a = given_right grammar left first one gives in
    let b = given_right grammar right second other also in
    call_right grammar form (Difference first second) text
    (difference_text grammar form (IsInScript grammar first) (IsInScript grammar second) one other a.have b.have text
    answer)
given_right grammar form (SymmetricDifference first second) text (left, right, one, other, gives, also, answer) =
    let a = given_right grammar left first one gives in
    let b = given_right grammar right second other also in
    call_right grammar form (SymmetricDifference first second) text
    (symmetric_text grammar form (IsInScript grammar first) (IsInScript grammar second) one other a.have b.have text
    answer)
given_right grammar form (Complement families only) text (below, list, gives, answer) =
    let one = given_right grammar below only list gives in
    call_right grammar form (Complement families only) text
    (complement_text grammar form (IsInScript grammar only) list one.have text families answer)

-- scripts give one text if and only if they make one set
pub one_script : (grammar : Grammar) (form : Form) (s t : Script) (text other : List ℕ) → IsCall s → IsCall t
    → Gives grammar form s text → Gives grammar form t other
    → (text ≡ other) ↔ ((x : Address) → IsInScript grammar s x ↔ IsInScript grammar t x)
one_script grammar form s t text other call called h k =
    let A = IsInScript grammar s in
    let B = IsInScript grammar t in
    let right = (given_right grammar form s text h).right call in
    let also = (given_right grammar form t other k).right called in (
      λ same. one_set grammar form form A B text other (script_fits grammar s) (script_fits grammar t) right also same,
      λ same. one_text form A B text other same right also,
    )

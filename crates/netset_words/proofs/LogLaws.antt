-- The entries of a line of a log, one after another, and the verdict on it.
use Rattle.std.proofs.Common.{◌≡◌, ◌⊎◌, ◌↔◌, ℕ, ◌-◌, ◌<◌, ◌≤◌, Bool, true, false, List, [], ◌∷◌, ◌++◌, All}
use Rattle.std.proofs.Common.{length, take, drop, refl, sym, ap, ◌∙◌, arith, inl, inr, subst, append_assoc, append-nil}
use Rattle.std.proofs.Common.{get_or, IsTrue}
use Rattle.std.proofs.lemmas.List.{take_rest}
use Rattle.std.proofs.lemmas.List.Elements.{All-nil, All-cons, All-append, All-weaker}
use Rattle.std.proofs.Common.{codes}
use Rattle.std.specs.Net.Addr.{ipv4_octets, ipv4_bits}
use Rattle.std.specs.declared.net.ipv4_addr.Ipv4Addr.{Ipv4Addr}
use Rattle.std.specs.declared.net.ip_addr.IpAddr.TheVariants as Ip
use Rattle.ipnet.specs.AddressTexts.{IsIpv4AddressText, IsJoined}
use Rattle.ipnet.specs.Numerals.{IsOctet}
use Rattle.ipnet.specs.declared.parser.Grammar.TheVariants.{Strict}
use Rattle.ipnet_base.specs.Address.{Address, IsAddress, address_at, ipv4_address}
use Rattle.ipnet_base.specs.Ranges.{AddressRange}
use Rattle.ipnet.specs.declared.parser.Grammar.{Grammar}
use Rattle.ipnet_sets.specs.Members.{IsMember}
use Rattle.ipnet_sets.specs.SetRanges.{IsInRange, range_of}
use Rattle.ipnet_sets.specs.declared.set.IpSet.{IpSet}
use Rattle.ipnet_lists.specs.declared.entry.Entry.TheVariants as Entries
use Rattle.ipnet_lists.specs.Entries.{IsEntryText, IsIpv4Text}
use Rattle.ipnet_lists.specs.EntryOf.{entry_range}
use Rattle.netset_lib.specs.Filtering.{HasAddresses}
use Rattle.netset_words.specs.declared.lines_request.LinesRequest.{LinesRequest}
use Rattle.netset_words.specs.declared.log_line.Verdict.{Verdict}
use Rattle.netset_words.specs.declared.log_line.Verdict.TheVariants as Verdicts
use Rattle.netset_words.specs.LogEntries.{IsNoEntryWord}
use Rattle.netset_words.specs.LogLines.{LiesIn, IsInsideWord, IsOutsideWord, AreChosen}
use Rattle.netset_words.specs.LogLines.{AreNotChosen, IsVerdict}
use Rattle.netset_words.specs.LogSteps.{IsNextLogEntry}
use Rattle.netset_words.specs.Places.{IsRangeOf}
use Rattle.netset_words.specs.Words.{Word, cuts, first_gap, words_of}
use Rattle.netset_words.proofs.MappedLaws.{ipv4_is_not_mapped}
use Rattle.netset_words.proofs.WordLaws.{onto_rest, word_front}

-- ---- the next entry

-- a word at the front of the bytes that is an entry
pub front_entry : (how : LinesRequest) (bytes : List ℕ) (len : ℕ) (range : AddressRange) → 0 < len
    → len ≤ length bytes → ((k : ℕ) → k < len → cuts (get_or bytes k 0) ≡ false)
    → (len < length bytes → cuts (get_or bytes len 0) ≡ true) → IsEntryText how.grammar (take len bytes) range
    → IsRangeOf how.mapped how.grammar (take len bytes) range
    → IsNextLogEntry how bytes range (take (length bytes - len) (drop len bytes))
front_entry how bytes len range some within letters next entry is =
    let rest = take (length bytes - len) (drop len bytes) in
    record {
      before = [];
      word = record { before = []; text = take len bytes; after = first_gap (words_of rest) };
      cut = word_front len bytes some within letters next
          ∙ ap (onto_rest [] (take len bytes)) (sym (take_rest bytes len));
      none = All-nil (IsNoEntryWord how.grammar);
      is = (take len bytes, inl (refl, (range, entry)), is);
    }

-- a text of the strict grammar is one of each grammar
any_octet : (grammar : Grammar) (text : List ℕ) (n : ℕ) → IsOctet Strict text n → IsOctet grammar text n
any_octet grammar text n h = record {
  digits = h.digits;
  value = h.value;
  short = h.short;
  small = h.small;
  plain = λ is zero. h.plain refl zero;
}

any_joined : (grammar : Grammar) (text octets : List ℕ) → IsJoined (codes ".") (IsOctet Strict) text octets
    → IsJoined (codes ".") (IsOctet grammar) text octets
any_joined grammar text [] h = h
any_joined grammar text (a ∷ []) h = any_octet grammar text a h
any_joined grammar text (a ∷ b ∷ octets) (first, rest, cut, is, more) =
    (first, rest, cut, any_octet grammar first a is, any_joined grammar rest (b ∷ octets) more)

any_address : (grammar : Grammar) (text : List ℕ) (a : Ipv4Addr) → IsIpv4AddressText Strict text (ipv4_octets a)
    → IsIpv4Text grammar text (ipv4_address a)
unfolding ipv4_bits
any_address grammar text a h = record {
  octets = ipv4_octets a;
  writes = (any_joined grammar text (ipv4_octets a) h.0, h.1);
  family = refl;
  number = refl;
}

-- an address at the front of the bytes
pub address_front : (how : LinesRequest) (bytes : List ℕ) (len : ℕ) (a : Ipv4Addr) → 0 < len → len ≤ length bytes
    → ((k : ℕ) → k < len → cuts (get_or bytes k 0) ≡ false)
    → (len < length bytes → cuts (get_or bytes len 0) ≡ true)
    → IsIpv4AddressText Strict (take len bytes) (ipv4_octets a)
    → IsNextLogEntry how bytes (entry_range (Entries.Address (Ip.V4 a)))
    (take (length bytes - len) (drop len bytes))
address_front how bytes len a some within letters next writes =
    let grammar = how.grammar in
    let text = take len bytes in
    let is = any_address grammar text a writes in
    let entry : IsEntryText grammar text (entry_range (Entries.Address (Ip.V4 a))) =
    inl (inr record { address = ipv4_address a; writes = inl is; is = refl }) in
    front_entry how bytes len (entry_range (Entries.Address (Ip.V4 a))) some within letters next entry
    (inr (λ on. ipv4_is_not_mapped grammar text (ipv4_address a) refl (inl is), entry))

-- words that are not entries were passed
pub record IsPassed (grammar : Grammar) (bytes rest : List ℕ) : Type 0 where
  pub passed : List Word
  pub cut : words_of bytes ≡ passed ++ words_of rest
  pub none : All (IsNoEntryWord grammar) passed

pub none_passed : (grammar : Grammar) (bytes : List ℕ) → IsPassed grammar bytes bytes
none_passed grammar bytes = record { passed = []; cut = refl; none = All-nil (IsNoEntryWord grammar) }

pub one_passed : (grammar : Grammar) (bytes rest after : List ℕ) (w : Word) → IsPassed grammar bytes rest
    → words_of rest ≡ w ∷ words_of after → IsNoEntryWord grammar w → IsPassed grammar bytes after
one_passed grammar bytes rest after w h is none = record {
  passed = h.passed ++ w ∷ [];
  cut = h.cut ∙ ap (λ z. h.passed ++ z) is ∙ sym (append_assoc h.passed (w ∷ []) (words_of after));
  none = All-append (IsNoEntryWord grammar) h.passed (w ∷ []) h.none
      (All-cons (IsNoEntryWord grammar) w [] none (All-nil (IsNoEntryWord grammar)));
}

pub all_passed : (grammar : Grammar) (bytes rest : List ℕ) → IsPassed grammar bytes rest → words_of rest ≡ []
    → All (IsNoEntryWord grammar) (words_of bytes)
all_passed grammar bytes rest h none =
    subst (All (IsNoEntryWord grammar)) (sym (h.cut ∙ ap (λ z. h.passed ++ z) none ∙ append-nil h.passed)) h.none

-- ---- an entry in a set

-- the set has all numbers of the range if and only if these addresses have
pub lies_so : (set : IpSet) (range : AddressRange) → HasAddresses range
    → ((x : Address) → IsInRange range x → IsMember set x) ↔ LiesIn (IsMember set) range
lies_so set range fits = (λ all x is inside. all x inside, λ all x inside. all x (fits x inside) inside)

-- a range of one address
pub one_lies : (set : IpSet) (a : Address) (r : Bool) → IsAddress a → (IsTrue r ↔ IsMember set a)
    → IsTrue r ↔ LiesIn (IsMember set) (range_of a.family a.number a.number)
one_lies set a r fits h = (
  λ t x is inside. subst (IsMember set) (only x inside) (h.0 t),
  λ all. h.1 (all a fits record { of_family = refl; from_start = omega arith; to_end = omega arith }),
)
  where
    only : (x : Address) → IsInRange (range_of a.family a.number a.number) x → a ≡ x
    only x k =
        let number : a.number ≡ x.number = omega (arith, k.from_start, k.to_end) in
        ap (λ f. address_at f a.number) (sym k.of_family) ∙ ap (address_at x.family) number

-- ---- the verdict

-- words that do not choose their line
abbrev pub IsSoFar : LinesRequest → (Address → Type 0) → List Word → Verdict → Type 0
IsSoFar how InSet words Verdicts.Chosen = ⊥
IsSoFar how InSet words Verdicts.Other = (how.any ≡ true) × AreNotChosen true how InSet words
IsSoFar how InSet words Verdicts.NoEntry = All (IsNoEntryWord how.grammar) words

-- words were judged, and they do not choose the line
pub record IsJudged (how : LinesRequest) (InSet : Address → Type 0) (bytes rest : List ℕ) (verdict : Verdict) : Type 0
  where
    pub judged : List Word
    pub cut : words_of bytes ≡ judged ++ words_of rest
    pub so_far : IsSoFar how InSet judged verdict

pub none_judged : (how : LinesRequest) (InSet : Address → Type 0) (bytes : List ℕ)
    → IsJudged how InSet bytes bytes Verdicts.NoEntry
none_judged how InSet bytes = record { judged = []; cut = refl; so_far = All-nil (IsNoEntryWord how.grammar) }

none_are_passed : (how : LinesRequest) (InSet : Address → Type 0) (words : List Word)
    → All (IsNoEntryWord how.grammar) words → All (λ w. IsNoEntryWord how.grammar w ⊎ IsOutsideWord how InSet w) words
none_are_passed how InSet words h =
    All-weaker (IsNoEntryWord how.grammar) (λ w. IsNoEntryWord how.grammar w ⊎ IsOutsideWord how InSet w)
    (λ w no. inl no) words h

-- the next entry chooses the line
pub chosen_now : (how : LinesRequest) (InSet : Address → Type 0) (judged : List Word) (bytes rest after : List ℕ)
    (verdict : Verdict) (range : AddressRange) → words_of bytes ≡ judged ++ words_of rest
    → IsSoFar how InSet judged verdict → IsNextLogEntry how rest range after → LiesIn InSet range
    → AreChosen how.any how InSet (words_of bytes)
chosen_now how InSet judged bytes rest after verdict range cut so_far next lies =
    choose how.any verdict refl so_far
  where
    all : words_of bytes ≡ (judged ++ next.before) ++ next.word ∷ words_of after
    all = cut ∙ ap (λ z. judged ++ z) next.cut ∙ sym (append_assoc judged next.before (next.word ∷ words_of after))

    inside : IsInsideWord how InSet next.word
    inside = (range, next.is, lies)

    choose : (any : Bool) (v : Verdict) → how.any ≡ any → IsSoFar how InSet judged v
        → AreChosen any how InSet (words_of bytes)
    choose true v is h = record {
      before = judged ++ next.before;
      word = next.word;
      after = words_of after;
      cut = all;
      is = inside;
    }
    choose false Verdicts.Chosen is h = absurd h
    choose false Verdicts.Other is h = let clash : true ≡ false = sym h.0 ∙ is in absurd cc
    choose false Verdicts.NoEntry is h = record {
      before = judged ++ next.before;
      word = next.word;
      after = words_of after;
      cut = all;
      none = All-append (IsNoEntryWord how.grammar) judged next.before h next.none;
      is = inside;
    }

-- the next entry is the first, and does not choose the line
pub other_now : (how : LinesRequest) (InSet : Address → Type 0) (judged : List Word) (bytes rest after : List ℕ)
    (verdict : Verdict) (range : AddressRange) → words_of bytes ≡ judged ++ words_of rest
    → IsSoFar how InSet judged verdict → IsNextLogEntry how rest range after → ¬ (LiesIn InSet range)
    → how.any ≡ false → AreNotChosen how.any how InSet (words_of bytes)
other_now how InSet judged bytes rest after verdict range cut so_far next out only =
    subst (λ any. AreNotChosen any how InSet (words_of bytes)) (sym only) (first verdict so_far)
  where
    first : (v : Verdict) → IsSoFar how InSet judged v → AreNotChosen false how InSet (words_of bytes)
    first Verdicts.Chosen h = absurd h
    first Verdicts.Other h = let clash : true ≡ false = sym h.0 ∙ only in absurd cc
    first Verdicts.NoEntry h = record {
      before = judged ++ next.before;
      word = next.word;
      after = words_of after;
      cut = cut ∙ ap (λ z. judged ++ z) next.cut
          ∙ sym (append_assoc judged next.before (next.word ∷ words_of after));
      none = All-append (IsNoEntryWord how.grammar) judged next.before h next.none;
      is = (range, next.is, out);
    }

-- the next entry does not choose the line, and a later one may
pub judged_more : (how : LinesRequest) (InSet : Address → Type 0) (bytes rest after : List ℕ) (verdict : Verdict)
    (range : AddressRange) → (h : IsJudged how InSet bytes rest verdict) → IsNextLogEntry how rest range after
    → ¬ (LiesIn InSet range) → how.any ≡ true
    → IsJudged how InSet bytes after Verdicts.Other
judged_more how InSet bytes rest after verdict range h next out any = record {
  judged = (h.judged ++ next.before) ++ next.word ∷ [];
  cut = h.cut ∙ ap (λ z. h.judged ++ z) next.cut
      ∙ sym (append_assoc h.judged next.before (next.word ∷ words_of after))
      ∙ sym (append_assoc (h.judged ++ next.before) (next.word ∷ []) (words_of after));
  so_far = (
    any,
    (
      record {
        before = h.judged ++ next.before;
        word = next.word;
        after = [];
        cut = refl;
        is = (range, next.is, out);
      },
      All-append (λ w. IsNoEntryWord how.grammar w ⊎ IsOutsideWord how InSet w) (h.judged ++ next.before)
          (next.word ∷ [])
          (All-append (λ w. IsNoEntryWord how.grammar w ⊎ IsOutsideWord how InSet w) h.judged next.before
          (passed verdict h.so_far) (none_are_passed how InSet next.before next.none))
          (All-cons (λ w. IsNoEntryWord how.grammar w ⊎ IsOutsideWord how InSet w) next.word []
          (inr (range, next.is, out))
          (All-nil (λ w. IsNoEntryWord how.grammar w ⊎ IsOutsideWord how InSet w))),
    ),
  );
}
  where
    passed : (v : Verdict) → IsSoFar how InSet h.judged v
        → All (λ w. IsNoEntryWord how.grammar w ⊎ IsOutsideWord how InSet w) h.judged
    passed Verdicts.Chosen k = absurd k
    passed Verdicts.Other k = k.1.1
    passed Verdicts.NoEntry k = none_are_passed how InSet h.judged k

-- no entry is left
pub judged_all : (how : LinesRequest) (InSet : Address → Type 0) (bytes rest : List ℕ) (verdict : Verdict)
    → IsJudged how InSet bytes rest verdict → All (IsNoEntryWord how.grammar) (words_of rest)
    → IsVerdict how InSet (words_of bytes) verdict
judged_all how InSet bytes rest verdict h none =
    subst (λ ws. IsVerdict how InSet ws verdict) (sym h.cut) (whole verdict h.so_far)
  where
    whole : (v : Verdict) → IsSoFar how InSet h.judged v → IsVerdict how InSet (h.judged ++ words_of rest) v
    whole Verdicts.Chosen k = absurd k
    whole Verdicts.Other k =
        subst (λ any. AreNotChosen any how InSet (h.judged ++ words_of rest)) (sym k.0) (
          record {
            before = k.1.0.before;
            word = k.1.0.word;
            after = k.1.0.after ++ words_of rest;
            cut = ap (λ z. z ++ words_of rest) k.1.0.cut
                ∙ append_assoc k.1.0.before (k.1.0.word ∷ k.1.0.after) (words_of rest);
            is = k.1.0.is;
          },
          All-append (λ w. IsNoEntryWord how.grammar w ⊎ IsOutsideWord how InSet w) h.judged (words_of rest)
              k.1.1 (none_are_passed how InSet (words_of rest) none),
        )
    whole Verdicts.NoEntry k = All-append (IsNoEntryWord how.grammar) h.judged (words_of rest) k none

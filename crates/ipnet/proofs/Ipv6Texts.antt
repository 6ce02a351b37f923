-- `read_groups` and `read_ipv6` read their part of the grammar, and nothing else.
use Rattle.std.proofs.Common.{◌≡◌, ◌≢◌, ℕ, zero, suc, ◌+◌, ◌*◌, ◌-◌, ◌<◌, ◌≤◌, ◌⊎◌, Bool, true, false, ◌==◌, nat_lt}
use Rattle.std.proofs.Common.{List, [], ◌∷◌, ◌++◌, length, get_or, drop, Option, Some, None, cond, refl, sym, ap, ◌∙◌}
use Rattle.std.proofs.Common.{subst, arith, inl, inr, append_assoc, append-nil, lit≤, lt-ltb, eq-eqb, ne_eqb, eqb-true}
use Rattle.std.proofs.lemmas.Bool.{and_parts, cases_eq, ltb-true, cases_Bool}
use Rattle.std.proofs.lemmas.Option.{none-some, same_Some, option_and_then_some, some_pair_parts}
use Rattle.std.proofs.NetLemmas.Options.{cond_none, map_some}
use Rattle.std.proofs.NetLemmas.Numbers.{NoDigit}
use Rattle.std.proofs.NetLemmas.Ipv4.{read_byte_sound}
use Rattle.std.specs.Char.{digit_value}
use Rattle.std.specs.Str.Parse.{AllDigits}
use Rattle.std.specs.Net.Addr.{segments_of}
use Rattle.ipnet.specs.declared.parser.Grammar.{Grammar}
use Rattle.ipnet.specs.declared.parser.Grammar.TheVariants.{Strict, Legacy}
use Rattle.ipnet.specs.Numerals.{IsGroup}
use Rattle.ipnet.specs.AddressTexts.{IsIpv4AddressText, IsGroups, EndsInIpv4, IsIpv6AddressText, most_written_groups}
use Rattle.ipnet.specs.AddressTexts.{expanded}
use Rattle.ipnet.specs.ReaderSteps.{Groups, after, digit_run, hex_run, decimal_of, group_of, is_single_colon}
use Rattle.ipnet.specs.ReaderSteps.{read_dotted_groups, read_dotted, read_groups, read_byte, read_compressed, read_ipv6}
use Rattle.ipnet.proofs.DigitTexts.{digit_run-append, digit_run_sound, decimal_of_complete, decimal_of_sound}
use Rattle.ipnet.proofs.DigitTexts.{group_of_complete, group_of_sound, AllDigits_hex}
use Rattle.ipnet.proofs.Ipv4Texts.{Dots, Dots-from, Dots-rest, octet_hex_run, read_dotted_complete, read_dotted_sound}

-- no group or dotted address goes on into the text, and no group follows a ":"
pub record Stops (text : List ℕ) : Type 0 where
  no_digit : NoDigit 16 text
  no_dot : get_or text 0 0 ≢ 46
  no_colon : is_single_colon text ≡ false

pub slash_stops : (text : List ℕ) → Stops (47 ∷ text)
slash_stops text = record { no_digit = lit≤ tt; no_dot = omega arith; no_colon = refl }

pub colons_stop : (text : List ℕ) → Stops (58 ∷ 58 ∷ text)
colons_stop text = record { no_digit = lit≤ tt; no_dot = omega arith; no_colon = refl }

-- the groups at the front of a text
abbrev pub groups_at : Grammar → ℕ → List ℕ → Groups
groups_at grammar room text = read_groups grammar room (hex_run text).0 (hex_run text).1

-- the text begins with a digit
abbrev pub Begins : List ℕ → Type 0
Begins text = digit_value (get_or text 0 0) < 16

first_digit : (ds rest : List ℕ) → 0 < length ds → AllDigits 16 ds → Begins (ds ++ rest)
first_digit [] rest some all = absurd (omega arith)
first_digit (d ∷ ds) rest some all = all.0

-- a ":" before a digit is a single one
single : (text : List ℕ) → Begins text → is_single_colon (58 ∷ text) ≡ true
single text begins =
    let other : get_or text 0 0 ≢ 58 = λ colon. let v : digit_value 58 < 16 = rw colon at begins in omega arith in
    rw (ne_eqb _ 58 other)

last_group : (grammar : Grammar) (room : ℕ) (ds rest : List ℕ) (g : ℕ) → IsGroup ds g → Stops rest
    → groups_at grammar (suc room) (ds ++ rest) ≡ Some (g ∷ [], false, rest)
unfolding read_groups
last_group grammar room ds rest g h stop =
    rw (
      digit_run-append 16 4 ds rest h.digits.1 h.short stop.no_digit,
      ne_eqb _ 46 stop.no_dot,
      group_of_complete ds g h,
      stop.no_colon,
    )

one_group : (grammar : Grammar) (room : ℕ) (ds text : List ℕ) (g : ℕ) → IsGroup ds g → Begins text
    → groups_at grammar (suc room) (ds ++ (58 ∷ text)) ≡ after (g ∷ []) (groups_at grammar room text)
unfolding read_groups
one_group grammar room ds text g h begins =
    rw (
      digit_run-append 16 4 ds (58 ∷ text) h.digits.1 h.short (lit≤ tt),
      group_of_complete ds g h,
      single text begins,
    )

pub groups_begin : (text rest : List ℕ) (g : ℕ) (groups : List ℕ) → IsGroups text (g ∷ groups) → Begins (text ++ rest)
groups_begin text rest g [] h = first_digit text rest h.digits.0 h.digits.1
groups_begin text rest g (i ∷ groups) h =
    rw (h.2, append_assoc h.0, append_assoc h.0) (first_digit h.0 _ h.3.digits.0 h.3.digits.1)

pub mixed_begins : (grammar : Grammar) (text rest groups : List ℕ) → EndsInIpv4 grammar text groups
    → Begins (text ++ rest)
mixed_begins grammar text rest [] h = absurd h
mixed_begins grammar text rest (g ∷ []) h = absurd h
mixed_begins grammar text rest (g ∷ i ∷ []) (octets, dotted, value) =
    let dots = Dots-from grammar text octets dotted in
    rw (Dots-rest grammar text octets rest dots)
    (first_digit dots.t₁ _ dots.is_a.digits.0 (AllDigits_hex dots.t₁ dots.is_a.digits.1))
mixed_begins grammar text rest (g ∷ i ∷ j ∷ groups) h =
    rw (h.2, append_assoc h.0, append_assoc h.0) (first_digit h.0 _ h.3.digits.0 h.3.digits.1)

pub groups_complete : (grammar : Grammar) (room : ℕ) (text rest : List ℕ) (g : ℕ) (groups : List ℕ)
    → IsGroups text (g ∷ groups) → Stops rest → length groups < room
    → groups_at grammar room (text ++ rest) ≡ Some (g ∷ groups, false, rest)
groups_complete grammar zero text rest g groups h stop fits = absurd (omega arith)
groups_complete grammar (suc room) text rest g [] h stop fits = last_group grammar room text rest g h stop
groups_complete grammar (suc room) text rest g (i ∷ groups) h stop fits =
    let later = groups_complete grammar room h.1 rest i groups h.4 stop (omega arith) in
    rw (
      h.2,
      append_assoc h.0,
      append_assoc h.0,
      one_group grammar room h.0 (h.1 ++ rest) g h.3 (groups_begin h.1 rest i groups h.4),
      later,
    )

last_dotted : (grammar : Grammar) (room : ℕ) (text rest octets : List ℕ) → IsIpv4AddressText grammar text octets
    → Stops rest → 0 < room → groups_at grammar (suc room) (text ++ rest) ≡ Some (segments_of octets, true, rest)
unfolding read_groups read_dotted_groups
last_dotted grammar room text rest octets h stop some =
    let dots = Dots-from grammar text octets h in
    rw (
      Dots-rest grammar text octets rest dots,
      octet_hex_run grammar dots.t₁ dots.a _ dots.is_a (lit≤ tt),
      lt-ltb 0 room some,
      decimal_of_complete grammar dots.t₁ dots.a dots.is_a,
      read_dotted_complete grammar text octets rest dots stop.no_digit,
    )

pub mixed_complete : (grammar : Grammar) (room : ℕ) (text rest groups : List ℕ) → EndsInIpv4 grammar text groups
    → Stops rest → length groups ≤ room → groups_at grammar room (text ++ rest) ≡ Some (groups, true, rest)
mixed_complete grammar room text rest [] h stop fits = absurd h
mixed_complete grammar room text rest (g ∷ []) h stop fits = absurd h
mixed_complete grammar zero text rest (g ∷ i ∷ groups) h stop fits = absurd (omega arith)
mixed_complete grammar (suc room) text rest (g ∷ i ∷ []) (octets, dotted, value) stop fits =
    last_dotted grammar room text rest octets dotted stop (omega arith) ∙ ap (λ gs. Some (gs, true, rest)) (sym value)
mixed_complete grammar (suc room) text rest (g ∷ i ∷ j ∷ groups) h stop fits =
    let later = mixed_complete grammar room h.1 rest (i ∷ j ∷ groups) h.4 stop (omega arith) in
    rw (
      h.2,
      append_assoc h.0,
      append_assoc h.0,
      one_group grammar room h.0 (h.1 ++ rest) g h.3 (mixed_begins grammar h.1 rest (i ∷ j ∷ groups) h.4),
      later,
    )

-- ---- a whole address, followed by "/"

run_some : (text : List ℕ) → Begins text → (length (hex_run text).0 == 0) ≡ false
unfolding digit_run
run_some [] begins = absurd (omega arith)
run_some (c ∷ text) begins = rw (lt-ltb (digit_value c) 16 begins) (ne_eqb _ 0 (omega arith))

IsTail : Grammar → List ℕ → List ℕ → Type 0
IsTail grammar text groups = IsGroups text groups ⊎ EndsInIpv4 grammar text groups

tail_pieces : (grammar : Grammar) (head : List ℕ) (tail_text more tail : List ℕ) → Begins (tail_text ++ (47 ∷ more))
    → (dotted : Bool) → groups_at grammar (most_written_groups grammar - length head) (tail_text ++ (47 ∷ more))
    ≡ Some (tail, dotted, 47 ∷ more) → read_compressed grammar head (58 ∷ 58 ∷ (tail_text ++ (47 ∷ more)))
    ≡ Some (expanded head tail, 47 ∷ more)
unfolding read_compressed
tail_pieces grammar head tail_text more tail begins dotted read = rw (run_some _ begins, read)

read_compressed_complete : (grammar : Grammar) (head tail tail_text more : List ℕ)
    → length head + length tail ≤ most_written_groups grammar → IsTail grammar tail_text tail
    → read_compressed grammar head (58 ∷ 58 ∷ (tail_text ++ (47 ∷ more))) ≡ Some (expanded head tail, 47 ∷ more)
unfolding IsTail
read_compressed_complete grammar head [] tail_text more room (inl h) = unfold read_compressed in unfold digit_run in
    rw h
read_compressed_complete grammar head (g ∷ tail) tail_text more room (inl h) =
    tail_pieces grammar head tail_text more (g ∷ tail) (groups_begin tail_text _ g tail h) false
    (groups_complete grammar _ tail_text _ g tail h (slash_stops more) (omega arith))
read_compressed_complete grammar head tail tail_text more room (inr h) =
    tail_pieces grammar head tail_text more tail (mixed_begins grammar tail_text _ tail h) true
    (mixed_complete grammar _ tail_text _ tail h (slash_stops more) (omega arith))

whole_pieces : (grammar : Grammar) (text rest groups : List ℕ) → Begins text → (dotted : Bool)
    → groups_at grammar 8 text ≡ Some (groups, dotted, rest) → length groups ≡ 8
    → read_ipv6 grammar text ≡ Some (groups, rest)
unfolding read_ipv6
whole_pieces grammar text rest groups begins dotted read eight = rw (run_some text begins, read, eight)

head_pieces : (grammar : Grammar) (text rest head : List ℕ) → Begins text
    → groups_at grammar 8 text ≡ Some (head, false, rest) → length head ≤ 7
    → read_ipv6 grammar text ≡ read_compressed grammar head rest
unfolding read_ipv6
head_pieces grammar text rest head begins read short =
    rw (run_some text begins, read, ne_eqb (length head) 8 (omega arith))

no_head : (grammar : Grammar) (text : List ℕ) → read_ipv6 grammar (58 ∷ text) ≡ read_compressed grammar [] (58 ∷ text)
unfolding read_ipv6 digit_run
no_head grammar text = refl

elided_complete : (grammar : Grammar) (more head_text tail_text head tail : List ℕ) → IsGroups head_text head
    → IsTail grammar tail_text tail → length head ≤ 7 → length head + length tail ≤ most_written_groups grammar
    → read_ipv6 grammar (head_text ++ (58 ∷ 58 ∷ (tail_text ++ (47 ∷ more)))) ≡ Some (expanded head tail, 47 ∷ more)
elided_complete grammar more head_text tail_text [] tail h k short room =
    rw (h, no_head grammar) (read_compressed_complete grammar [] tail tail_text more room k)
elided_complete grammar more head_text tail_text (g ∷ head) tail h k short room =
    let rest = 58 ∷ 58 ∷ (tail_text ++ (47 ∷ more)) in
    head_pieces grammar (head_text ++ rest) rest (g ∷ head) (groups_begin head_text rest g head h)
    (groups_complete grammar 8 head_text rest g head h (colons_stop _) (omega arith)) short
    ∙ read_compressed_complete grammar (g ∷ head) tail tail_text more room k

pub read_ipv6_complete : (grammar : Grammar) (text groups more : List ℕ) → IsIpv6AddressText grammar text groups
    → read_ipv6 grammar (text ++ (47 ∷ more)) ≡ Some (groups, 47 ∷ more)
unfolding IsTail
read_ipv6_complete grammar text [] more (inl h) = absurd (omega (arith, h.0))
read_ipv6_complete grammar text (g ∷ groups) more (inl h) =
    whole_pieces grammar _ _ (g ∷ groups) (groups_begin text _ g groups h.1) false
    (groups_complete grammar 8 text _ g groups h.1 (slash_stops more) (omega (arith, h.0))) h.0
read_ipv6_complete grammar text groups more (inr (inl h)) =
    whole_pieces grammar _ _ groups (mixed_begins grammar text _ groups h.1) true
    (mixed_complete grammar 8 text _ groups h.1 (slash_stops more) (omega (arith, h.0))) h.0
read_ipv6_complete grammar text groups more (inr (inr h)) =
    let shown : text ++ (47 ∷ more) ≡ h.head_text ++ (58 ∷ 58 ∷ (h.tail_text ++ (47 ∷ more))) =
    rw h.spelled (simp append_assoc) in
    rw (
      shown,
      elided_complete grammar more h.head_text h.tail_text h.head h.tail h.head_groups h.tail_groups
          h.short_head h.room,
      h.value,
    )

-- ---- what was read is in the grammar

-- groups as they were read, with a dotted address at the end or none
Written : Grammar → Bool → List ℕ → List ℕ → Type 0
Written grammar false text groups = IsGroups text groups
Written grammar true text groups = EndsInIpv4 grammar text groups

record Found (grammar : Grammar) (room : ℕ) (ds text groups : List ℕ) (dotted : Bool) (rest : List ℕ) : Type 0 where
  front : List ℕ
  split : text ≡ front ++ rest
  written : Written grammar dotted (ds ++ front) groups
  some : 0 < length groups
  fits : length groups ≤ room

colon_first : (text : List ℕ) → is_single_colon text ≡ true → text ≡ 58 ∷ drop 1 text
colon_first [] e = cc
colon_first (c ∷ text) e = let (colon, _) = and_parts _ _ e in ap (λ b. b ∷ text) (eqb-true c 58 colon)

-- one group more at the front
prepend : (grammar : Grammar) (dotted : Bool) (ds text : List ℕ) (g : ℕ) (groups : List ℕ) → IsGroup ds g
    → 0 < length groups → Written grammar dotted text groups → Written grammar dotted (ds ++ (58 ∷ text)) (g ∷ groups)
unfolding Written
prepend grammar dotted ds text g [] is some h = absurd (omega arith)
prepend grammar false ds text g (i ∷ groups) is some h = (ds, text, simp append_assoc, is, h)
prepend grammar true ds text g (i ∷ []) is some h = absurd h
prepend grammar true ds text g (i ∷ j ∷ groups) is some h = (ds, text, simp append_assoc, is, h)

pub three_parts : {A B C : Type 0} (a x : A) (b y : B) (c z : C)
    → ◌≡◌ {A = Option (A × B × C)} (Some (a, b, c)) (Some (x, y, z)) → (a ≡ x) × (b ≡ y) × (c ≡ z)
three_parts a x b y c z e = let same = same_Some _ _ e in (ap (λ p. p.0) same, ap (λ p. p.1) same, ap (λ p. p.2) same)

length-segments_of : (grammar : Grammar) (text octets : List ℕ) → Dots grammar text octets
    → length (segments_of octets) ≡ 2
length-segments_of grammar text octets h = ap (λ o. length (segments_of o)) h.value

at_last : (grammar : Grammar) (ds text groups rest : List ℕ) (dotted : Bool) (octets left front : List ℕ)
    → segments_of octets ≡ groups → true ≡ dotted → left ≡ rest → text ≡ front ++ left
    → IsIpv4AddressText grammar (ds ++ front) octets → Found grammar 2 ds text groups dotted rest
unfolding Written
at_last grammar ds text groups rest false octets left front groups_are dotted_is rest_is split is = cc
at_last grammar ds text groups rest true octets left front groups_are dotted_is rest_is split is =
    let dots = Dots-from grammar (ds ++ front) octets is in
    let len = length-segments_of grammar (ds ++ front) octets dots in
    let two : (dots.a * 256 + dots.b) ∷ (dots.c * 256 + dots.d) ∷ [] ≡ groups =
    ap segments_of (sym dots.value) ∙ groups_are in
    record {
      front = front;
      split = split ∙ ap (λ t. front ++ t) rest_is;
      written = subst (EndsInIpv4 grammar (ds ++ front)) two (octets, is, ap segments_of (sym dots.value));
      some = omega (arith, ap length groups_are, len);
      fits = omega (arith, ap length groups_are, len);
    }

last_sound : (grammar : Grammar) (ds text groups rest : List ℕ) (dotted : Bool)
    → read_dotted_groups grammar ds text ≡ Some (groups, dotted, rest)
    → Found grammar 2 ds text groups dotted rest
unfolding read_dotted_groups Written
last_sound grammar ds text groups rest dotted e =
    option_and_then_some _ (decimal_of grammar ds) _ e λ first octet e₁.
    option_and_then_some _ (read_dotted grammar first text) _ e₁ λ address read e₂.
    let (groups_are, dotted_is, rest_is) = three_parts (segments_of address.0) groups true dotted address.1 rest e₂ in
    let is_first = decimal_of_sound grammar ds first octet in
    let (front, split, is) = read_dotted_sound grammar ds first text address.0 address.1 is_first read in
    at_last grammar ds text groups rest dotted address.0 address.1 front groups_are dotted_is rest_is split is

-- what was found is after a group that goes before it
at_group : (grammar : Grammar) (room : ℕ) (ds text groups : List ℕ) (dotted : Bool) (rest : List ℕ) (g : ℕ)
    → IsGroup ds g → is_single_colon text ≡ true
    → ((groups' : List ℕ) → groups_at grammar room (drop 1 text) ≡ Some (groups', dotted, rest)
    → Found grammar room (hex_run (drop 1 text)).0 (hex_run (drop 1 text)).1 groups' dotted rest)
    → (found : List ℕ × Bool × List ℕ) → groups_at grammar room (drop 1 text) ≡ Some found → g ∷ found.0 ≡ groups
    → found.1 ≡ dotted → found.2 ≡ rest → Found grammar (suc room) ds text groups dotted rest
at_group grammar room ds text groups dotted rest g is colon later found read groups_are dotted_is rest_is =
    let more = later found.0 (read ∙ rw (dotted_is, rest_is)) in
    let run = digit_run_sound 16 4 (drop 1 text) in
    let ds' = (hex_run (drop 1 text)).0 in
    let split : text ≡ (58 ∷ (ds' ++ more.front)) ++ rest =
    colon_first text colon ∙ ap (λ t. 58 ∷ t) (run.spelled ∙ ap (λ t. ds' ++ t) more.split ∙ simp append_assoc) in
    record {
      front = 58 ∷ (ds' ++ more.front);
      split = split;
      written =
          subst (Written grammar dotted (ds ++ (58 ∷ (ds' ++ more.front)))) groups_are
          (prepend grammar dotted ds (ds' ++ more.front) g found.0 is more.some more.written);
      some = omega (arith, ap length groups_are);
      fits = omega (arith, ap length groups_are, more.fits);
    }

end_group : (grammar : Grammar) (room : ℕ) (ds text groups : List ℕ) (dotted : Bool) (rest : List ℕ) (g : ℕ)
    → IsGroup ds g → g ∷ [] ≡ groups → false ≡ dotted → text ≡ rest
    → Found grammar (suc room) ds text groups dotted rest
unfolding Written
end_group grammar room ds text groups true rest g is groups_are dotted_is rest_is = cc
end_group grammar room ds text groups false rest g is groups_are dotted_is rest_is =
    record {
      front = [];
      split = rest_is;
      written = subst (IsGroups (ds ++ [])) groups_are (rw append-nil is);
      some = omega (arith, ap length groups_are);
      fits = omega (arith, ap length groups_are);
    }

wider : (grammar : Grammar) (room room' : ℕ) (ds text groups : List ℕ) (dotted : Bool) (rest : List ℕ) → room ≤ room'
    → Found grammar room ds text groups dotted rest → Found grammar room' ds text groups dotted rest
wider grammar room room' ds text groups dotted rest more h = record {
  front = h.front;
  split = h.split;
  written = h.written;
  some = h.some;
  fits = omega (arith, h.fits);
}

guarded : {A : Type 0} (b : Bool) (o : Option A) (y : A) → cond b o None ≡ Some y → (b ≡ true) × (o ≡ Some y)
guarded true o y e = (refl, e)
guarded false o y e = absurd (none-some y e)

groups_sound : (grammar : Grammar) (room : ℕ) (ds text groups : List ℕ) (dotted : Bool) (rest : List ℕ)
    → AllDigits 16 ds → length ds ≤ 4 → read_groups grammar room ds text ≡ Some (groups, dotted, rest)
    → Found grammar room ds text groups dotted rest
unfolding read_groups
groups_sound grammar zero ds text groups dotted rest all short e = absurd (none-some _ e)
groups_sound grammar (suc room) ds text groups dotted rest all short e =
    elim (cases_eq (get_or text 0 0) 46) [
      | inl dot ↦
          let (room_left, last) =
          guarded (nat_lt 0 room) (read_dotted_groups grammar ds text) _
          (rw (eq-eqb _ 46 dot) at e) in
          let wide : 2 ≤ suc room = omega (arith, ltb-true 0 room room_left) in
          wider grammar 2 (suc room) ds text groups dotted rest wide
          (last_sound grammar ds text groups rest dotted last)
      | inr other ↦
          option_and_then_some _ (group_of ds) _ (rw (ne_eqb _ 46 other) at e) λ g group e₁.
          let is = group_of_sound ds g all short group in
          elim (cases_Bool (is_single_colon text)) [
            | inl colon ↦
                map_some _ (groups_at grammar room (drop 1 text)) _ (rw colon at e₁) λ found read same.
                let run = digit_run_sound 16 4 (drop 1 text) in
                at_group grammar room ds text groups dotted rest g is colon
                (λ groups' again. groups_sound grammar room _ _ groups' dotted rest run.all run.fits again) found read
                (ap (λ p. p.0) same) (ap (λ p. p.1) same) (ap (λ p. p.2) same)
            | inr end ↦
                let (groups_are, dotted_is, rest_is) =
                three_parts (g ∷ []) groups false dotted text rest (rw end at e₁) in
                end_group grammar room ds text groups dotted rest g is groups_are dotted_is rest_is
          ]
    ]

-- ---- addresses

tail_written : (grammar : Grammar) (dotted : Bool) (text groups : List ℕ) → Written grammar dotted text groups
    → IsGroups text groups ⊎ EndsInIpv4 grammar text groups
unfolding Written
tail_written grammar false text groups h = inl h
tail_written grammar true text groups h = inr h

-- what was read of an address is the front of the text
record FoundAt (grammar : Grammar) (head_text head text groups rest : List ℕ) : Type 0 where
  tail_text : List ℕ
  tail : List ℕ
  split : text ≡ 58 ∷ 58 ∷ (tail_text ++ rest)
  tail_groups : IsGroups tail_text tail ⊎ EndsInIpv4 grammar tail_text tail
  room : length head + length tail ≤ most_written_groups grammar
  value : groups ≡ expanded head tail

two_colons : (text one two : List ℕ) → read_byte 58 text ≡ Some one → read_byte 58 one ≡ Some two → text ≡ 58 ∷ 58 ∷ two
two_colons text one two e₁ e₂ = read_byte_sound 58 text one e₁ ∙ ap (λ t. 58 ∷ t) (read_byte_sound 58 one two e₂)

short_head : (grammar : Grammar) (n : ℕ) → n ≤ 7 → n ≤ most_written_groups grammar
short_head Strict n h = omega arith
short_head Legacy n h = omega arith

empty_run : (ds : List ℕ) → (length ds == 0) ≡ true → ds ≡ []
empty_run [] e = refl
empty_run (d ∷ ds) e = absurd (omega (arith, eqb-true (length (d ∷ ds)) 0 e))

read_compressed_sound : (grammar : Grammar) (head_text head text groups rest : List ℕ) → length head ≤ 7
    → read_compressed grammar head text ≡ Some (groups, rest) → FoundAt grammar head_text head text groups rest
unfolding read_compressed
read_compressed_sound grammar head_text head text groups rest short e =
    option_and_then_some _ (read_byte 58 text) _ e λ one first e₁.
    option_and_then_some _ (read_byte 58 one) _ e₁ λ two second e₂.
    let run = digit_run_sound 16 4 two in
    let ds = (hex_run two).0 in
    let left = (hex_run two).1 in
    let colons = two_colons text one two first second in
    elim (cases_Bool (length ds == 0)) [
      | inl none ↦
          let (groups_are, rest_is) = some_pair_parts (expanded head []) groups left rest (rw none at e₂) in
          let all : two ≡ rest = run.spelled ∙ ap (λ t. t ++ left) (empty_run ds none) ∙ rest_is in
          record {
            tail_text = [];
            tail = [];
            split = colons ∙ ap (λ t. 58 ∷ 58 ∷ t) all;
            tail_groups = inl refl;
            room = let enough = short_head grammar (length head) short in omega arith;
            value = sym groups_are;
          }
      | inr some ↦
          option_and_then_some _ (read_groups grammar (most_written_groups grammar - length head) ds left) _
          (rw some at e₂) λ tail read e₃.
          let (groups_are, rest_is) = some_pair_parts (expanded head tail.0) groups tail.2 rest e₃ in
          let found =
          groups_sound grammar (most_written_groups grammar - length head) ds left tail.0 tail.1 tail.2 run.all
          run.fits read in
          record {
            tail_text = ds ++ found.front;
            tail = tail.0;
            split =
                colons ∙ ap (λ t. 58 ∷ 58 ∷ t)
                (run.spelled ∙ ap (λ t. ds ++ t) found.split ∙ sym (append_assoc ds found.front tail.2)
                ∙ ap (λ t. (ds ++ found.front) ++ t) rest_is);
            tail_groups = tail_written grammar tail.1 _ tail.0 found.written;
            room = omega (arith, found.fits, found.some);
            value = sym groups_are;
          }
    ]

to_elided : (grammar : Grammar) (head_text head text groups rest : List ℕ) → IsGroups head_text head → length head ≤ 7
    → FoundAt grammar head_text head text groups rest
    → (front : List ℕ) × (head_text ++ text ≡ front ++ rest) × IsIpv6AddressText grammar front groups
to_elided grammar head_text head text groups rest is short h = (
  head_text ++ (58 ∷ 58 ∷ []) ++ h.tail_text,
  ap (λ t. head_text ++ t) h.split ∙ simp append_assoc,
  inr (inr (record {
    head_text = head_text;
    tail_text = h.tail_text;
    head = head;
    tail = h.tail;
    spelled = refl;
    head_groups = is;
    tail_groups = h.tail_groups;
    short_head = short;
    room = h.room;
    value = h.value;
  })),
)

all_eight : (grammar : Grammar) (dotted : Bool) (text groups : List ℕ) → length groups ≡ 8
    → Written grammar dotted text groups → IsIpv6AddressText grammar text groups
unfolding Written
all_eight grammar false text groups eight h = inl (eight, h)
all_eight grammar true text groups eight h = inr (inl (eight, h))

plain_written : (grammar : Grammar) (dotted : Bool) (text groups : List ℕ) → dotted ≡ false
    → Written grammar dotted text groups → IsGroups text groups
unfolding Written
plain_written grammar false text groups e h = h
plain_written grammar true text groups e h = cc

pub read_ipv6_sound : (grammar : Grammar) (text groups rest : List ℕ) → read_ipv6 grammar text ≡ Some (groups, rest)
    → (front : List ℕ) × (text ≡ front ++ rest) × IsIpv6AddressText grammar front groups
unfolding read_ipv6
read_ipv6_sound grammar text groups rest e =
    let run = digit_run_sound 16 4 text in
    let ds = (hex_run text).0 in
    let left = (hex_run text).1 in
    elim (cases_Bool (length ds == 0)) [
      | inl none ↦
          let found = read_compressed_sound grammar [] [] left groups rest (omega arith) (rw none at e) in
          let (front, split, is) = to_elided grammar [] [] left groups rest refl (omega arith) found in
          (front, run.spelled ∙ ap (λ t. t ++ left) (empty_run ds none) ∙ split, is)
      | inr some ↦
          option_and_then_some _ (read_groups grammar 8 ds left) _ (rw some at e) λ head read e₁.
          let found = groups_sound grammar 8 ds left head.0 head.1 head.2 run.all run.fits read in
          let split : text ≡ (ds ++ found.front) ++ head.2 =
          run.spelled ∙ ap (λ t. ds ++ t) found.split ∙ sym (append_assoc ds found.front head.2) in
          elim (cases_eq (length head.0) 8) [
            | inl eight ↦
                let (groups_are, rest_is) = some_pair_parts head.0 groups head.2 rest (rw (eq-eqb _ 8 eight) at e₁) in (
                  ds ++ found.front,
                  split ∙ ap (λ t. (ds ++ found.front) ++ t) rest_is,
                  subst (IsIpv6AddressText grammar (ds ++ found.front)) groups_are
                      (all_eight grammar head.1 _ head.0 eight found.written),
                )
            | inr fewer ↦
                let (plain, tail) =
                cond_none head.1 (read_compressed grammar head.0 head.2) _ (rw (ne_eqb _ 8 fewer) at e₁) in
                let short : length head.0 ≤ 7 = omega (arith, found.fits) in
                let is_head : IsGroups (ds ++ found.front) head.0 =
                plain_written grammar head.1 _ head.0 plain found.written in
                let (front, split', is) =
                to_elided grammar (ds ++ found.front) head.0 head.2 groups rest is_head short
                (read_compressed_sound grammar (ds ++ found.front) head.0 head.2 groups rest short tail) in
                (front, split ∙ split', is)
          ]
    ]

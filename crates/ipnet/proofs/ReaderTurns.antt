-- One turn of the loop that reads groups: what is read in all, by what it meets.
use Rattle.std.proofs.Common.{◌≡◌, ◌≢◌, ℕ, zero, suc, ◌+◌, ◌-◌, ◌<◌, ◌==◌, true, false, List, [], ◌∷◌, ◌++◌, length}
use Rattle.std.proofs.Common.{drop, get_or, Some, None, refl, sym, ◌∙◌, arith, append_assoc, eq-eqb, ne_eqb, eqb-true}
use Rattle.std.proofs.Common.{lt-ltb, le-ltb}
use Rattle.std.specs.Str.Parse.{digits_value}
use Rattle.ipnet.specs.declared.parser.Grammar.{Grammar}
use Rattle.ipnet.specs.ReaderSteps.{Groups, after, group_of, hex_run, is_single_colon, read_dotted_groups, read_groups}

after-after : (front more : List ℕ) (found : Groups) → after front (after more found) ≡ after (front ++ more) found
after-after front more None = refl
after-after front more (Some p) = rw append_assoc

-- what isn't 0 is more
some_of : (n : ℕ) → (n == 0) ≡ false → 0 < n
some_of zero e = cc
some_of (suc n) e = omega arith

module _ (grammar : Grammar) (room n : ℕ) (front text digits : List ℕ) (whole : Groups) (within : n < room)
    (so_far : whole ≡ after front (read_groups grammar (room - n) digits text)) where
  one_more : room - n ≡ suc (room - (n + 1))
  one_more = omega arith

  pub no_room : get_or text 0 0 ≡ 46 → n + 1 ≡ room → whole ≡ None
  unfolding read_groups
  no_room dot full = so_far ∙ rw (one_more, eq-eqb _ 46 dot, le-ltb 0 (room - (n + 1)) (omega arith))

  pub dotted : get_or text 0 0 ≡ 46 → n + 1 ≢ room → whole ≡ after front (read_dotted_groups grammar digits text)
  unfolding read_groups
  dotted dot some = so_far ∙ rw (one_more, eq-eqb _ 46 dot, lt-ltb 0 (room - (n + 1)) (omega arith))

  pub no_group : get_or text 0 0 ≢ 46 → (length digits == 0) ≡ true → whole ≡ None
  unfolding read_groups group_of
  no_group other none = so_far ∙ rw (one_more, ne_eqb _ 46 other, eqb-true (length digits) 0 none)

  -- the group that the digits write
  is_group : (g : ℕ) → (length digits == 0) ≡ false → g ≡ digits_value 16 digits → group_of digits ≡ Some g
  unfolding group_of
  is_group g some value = rw (lt-ltb 0 (length digits) (some_of (length digits) some), value)

  pub last_group : (g : ℕ) → get_or text 0 0 ≢ 46 → (length digits == 0) ≡ false → g ≡ digits_value 16 digits
      → is_single_colon text ≡ false → whole ≡ Some (front ++ g ∷ [], false, text)
  unfolding read_groups
  last_group g other some value end = so_far ∙ rw (one_more, ne_eqb _ 46 other, is_group g some value, end)

  pub next_group : (g : ℕ) → get_or text 0 0 ≢ 46 → (length digits == 0) ≡ false → g ≡ digits_value 16 digits
      → is_single_colon text ≡ true → whole ≡ after (front ++ g ∷ []) (read_groups grammar (room - (n + 1))
      (hex_run (drop 1 text)).0 (hex_run (drop 1 text)).1)
  unfolding read_groups
  next_group g other some value more =
      so_far ∙ rw (one_more, ne_eqb _ 46 other, is_group g some value, more) (after-after front (g ∷ []) _)

  -- the same, as the loop goes on
  pub goes_on : (g m : ℕ) (front' text' digits' rest' : List ℕ) → get_or text 0 0 ≢ 46 → (length digits == 0) ≡ false
      → g ≡ digits_value 16 digits → true ≡ is_single_colon text → m ≡ n + 1 → front' ≡ front ++ g ∷ []
      → text' ≡ drop 1 text → digits' ≡ (hex_run text').0 → rest' ≡ (hex_run text').1
      → whole ≡ after front' (read_groups grammar (room - m) digits' rest')
  goes_on g m front' text' digits' rest' other some value more count front_is text_is digits_is rest_is =
      rw (count, front_is, digits_is, rest_is, text_is) (next_group g other some value (sym more))

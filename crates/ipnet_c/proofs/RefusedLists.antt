-- The first refused line of a list, and lists without one.
use Rattle.std.proofs.Common.{◌≡◌, ℕ, ◌<◌, ◌⊎◌, List, [], ◌∷◌, length, map, take, get_or, inl, inr, refl, ap, sym, ◌∙◌}
use Rattle.std.proofs.Common.{subst, arith}
use Rattle.ipnet.specs.declared.parser.Grammar.{Grammar}
use Rattle.ipnet_sets.specs.declared.set.IpSet.{IpSet}
use Rattle.ipnet_sets.specs.Images.{IsImageOf}
use Rattle.ipnet_lists.specs.Lists.{Refusal, IsListRead}
use Rattle.ipnet_lists.specs.ListTexts.{IsReadList}
use Rattle.ipnet_lists.specs.RefusedLines.{RefusedLine, RefusedLines, refusal_of}
use Rattle.ipnet_c.specs.Buffers.{IsWritten, IsTooLong}
use Rattle.ipnet_c.specs.ListReplies.{HasAddressesOfList, IsListReply}
use Rattle.ipnet_c.specs.SetReplies.{IsImageWith}
use Rattle.ipnet_c.proofs.StatusLaws.{differ, not_other}

none_refused : (shown : List RefusedLine) (refusals : List Refusal) → map refusal_of shown ≡ take 10 refusals
    → length shown ≡ 0 → refusals ≡ []
none_refused [] [] e none = refl
none_refused [] (first ∷ refusals) e none = absurd cc
none_refused (r ∷ shown) refusals e none = absurd (omega (arith, none))

first_refused : (shown : List RefusedLine) (refusals : List Refusal) (line : RefusedLine)
    → map refusal_of shown ≡ take 10 refusals → 0 < length shown → line ≡ get_or shown 0 line
    → (first : Refusal) × (others : List Refusal) × (refusals ≡ first ∷ others) × (first.number ≡ line.number)
first_refused [] refusals line e some is = absurd (omega (arith, some))
first_refused (r ∷ shown) [] line e some is = absurd cc
first_refused (r ∷ shown) (first ∷ refusals) line e some is =
    let same : refusal_of r ≡ first = ap (λ l. get_or l 0 first) e in
    (first, refusals, refl, ap (λ z. z.number) (sym same) ∙ ap (λ z. z.number) (sym is))

-- a list with a refused line
pub list_refused : (grammar : Grammar) (text buffer : List ℕ) (count_old : ℕ) (set : IpSet) (refused : RefusedLines)
    (line : RefusedLine)
    → IsReadList grammar text set refused → 0 < length refused.shown.items → line ≡ get_or refused.shown.items 0 line
    → IsListReply grammar text buffer buffer count_old line.number 1
list_refused grammar text buffer count_old set refused line h some is =
    let (first, others, cut, number) = first_refused refused.shown.items h.refusals line h.kept.shown some is in
    record {
      known = inr (inr (inl refl));
      ok = λ e. absurd (differ 1 0 refl e);
      too_short = λ e. absurd (differ 1 4 refl e);
      bad_line = λ e. (h.entries, first, others, subst (IsListRead grammar 0 text h.entries) cut h.read, number);
      buffer_kept = λ e. refl;
      count_kept = λ e. absurd (differ 1 3 refl e);
    }

-- a list without one
pub list_compiled : (grammar : Grammar) (text image old new : List ℕ) (count_old count status : ℕ) (set : IpSet)
    (refused : RefusedLines)
    → IsReadList grammar text set refused → length refused.shown.items ≡ 0 → IsImageOf image set
    → (status ≡ 0) ⊎ (status ≡ 4) → (status ≡ 0 → IsWritten image old new count)
    → (status ≡ 4 → IsTooLong image old new count) → IsListReply grammar text old new count_old count status
list_compiled grammar text image old new count_old count status set refused h none is known ok short =
    let made : IsImageWith (HasAddressesOfList grammar text) image = record {
      set = set;
      image_of = is;
      holds = (
        h.entries,
        subst (IsListRead grammar 0 text h.entries) (none_refused refused.shown.items h.refusals h.kept.shown none)
            h.read,
        h.addresses,
      );
    } in
    record {
      known = elim known [ inl e ↦ inl e | inr e ↦ inr (inl e) ];
      ok = λ e. (image, made, ok e);
      too_short = λ e. (image, made, short e);
      bad_line = λ e. absurd (not_other status 1 known refl refl e);
      buffer_kept = λ not_ok. elim known [ inl e ↦ absurd (not_ok e) | inr e ↦ (short e).kept ];
      count_kept = λ e. absurd (not_other status 3 known refl refl e);
    }

-- The lines of unreached rules, written one rule after the other.
use Rattle.std.proofs.Common.{◌≡◌, ℕ, ◌+◌, ◌-◌, ◌<◌, ◌≤◌, zero, suc, Bool, true, false, not, List, [], ◌∷◌, ◌++◌}
use Rattle.std.proofs.Common.{length}
use Rattle.std.proofs.Common.{Option, refl, sym, ap, subst, ◌∙◌, arith, inl, inr, append_assoc, append-nil}
use Rattle.std.specs.Io.{StartsWith}
use Rattle.std.specs.Io.KnownBytes.{Appends}
use Rattle.std.proofs.KnownBytes.{Appends-nil, Appends-trans}
use Rattle.std.proofs.lemmas.Bool.{cases_lt, false≢true}
use Rattle.ipnet_rules.specs.declared.rules.Rule.{Rule}
use Rattle.ipnet_rules.specs.declared.unreached.Unreached.{Unreached}
use Rattle.ipnet_rules.specs.UnreachedRules.{IsUnreached, IsUnreachedAt}
use Rattle.ipnet_rules.proofs.UnreachedLaws.{AreUnreachedTo, unreached_none, unreached_push, unreached_skip}
use Rattle.ipnet_rules.proofs.UnreachedLaws.{unreached_end}
use Rattle.ipnet_text.specs.Outputs.{IsWritten, IsFrontWritten}
use Rattle.ipnet_text.specs.Pieces.{IsInPieces}
use Rattle.ipnet_text.proofs.WritingLaws.{front_written, all_written}
use Rattle.ipnet_lists.specs.ContentLines.{ContentLine}
use Rattle.netset_lib.specs.declared.rule_list.RuleList.{RuleList}
use Rattle.netset_lib.specs.declared.rule_writing.Prepared.{Prepared}
use Rattle.netset_lib.specs.RuleAnswers.{unreached_lines, AreUnreachedLines, AreReached}
use Rattle.netset_lib.specs.RuleContentsOf.{contents_of}
use Rattle.netset_lib.specs.RuleWriting.{IsAnswered, AreAnswered, IsPrepared, rule_lines}
use Rattle.netset_lib.proofs.RuleLaws.{all_rules}

-- ---- what is known of the rules below a place

-- no rule is below the first place
pub answered_none : (rules : List Rule) → AreAnswered rules 0 false
answered_none rules = record {
  each = λ i less. absurd (let wrong : ⊥ = omega (arith, less) in wrong);
  found = λ e. absurd (false≢true e);
  none = λ e i less. absurd (let wrong : ⊥ = omega (arith, less) in wrong);
}

-- the rule at the place decides on no address
pub answered_some : (rules : List Rule) (place : ℕ) (some : Bool) (u : Unreached) → AreAnswered rules place some
    → IsUnreachedAt rules place u → AreAnswered rules (place + 1) true
answered_some rules place some u h is = record {
  each = λ i less. elim (cases_lt i place) [
    | inl before ↦ h.each i before
    | inr not ↦ let same : place ≡ i = omega (arith, less, not) in inr (u, subst (λ j. IsUnreachedAt rules j u) same is)
  ];
  found = λ e. (place, is.unreached);
  none = λ e. absurd (false≢true (sym e));
}

-- the rule at the place decides on an address
pub answered_not : (rules : List Rule) (place : ℕ) (some : Bool) → AreAnswered rules place some
    → (IsUnreached rules place → ⊥) → AreAnswered rules (place + 1) some
answered_not rules place some h not_so = record {
  each = λ i less. elim (cases_lt i place) [
    | inl before ↦ h.each i before
    | inr not ↦ let same : i ≡ place = omega (arith, less, not) in
        inl (λ is. not_so (subst (IsUnreached rules) same is))
  ];
  found = h.found;
  none = λ e i less. elim (cases_lt i place) [
    | inl before ↦ h.none e i before
    | inr not ↦ let same : i ≡ place = omega (arith, less, not) in λ is. not_so (subst (IsUnreached rules) same is)
  ];
}

-- ---- the lines of more rules

lines_append : (lines : List ContentLine) (found more : List Unreached)
    → unreached_lines lines (found ++ more) ≡ unreached_lines lines found ++ unreached_lines lines more
lines_append lines [] more = refl
lines_append lines (u ∷ found) more =
    ap (λ z. rule_lines lines u ++ z) (lines_append lines found more)
    ∙ sym (append_assoc (rule_lines lines u) (unreached_lines lines found) (unreached_lines lines more))

lines_push : (lines : List ContentLine) (found : List Unreached) (u : Unreached)
    → unreached_lines lines (found ++ u ∷ []) ≡ unreached_lines lines found ++ rule_lines lines u
lines_push lines found u =
    lines_append lines found (u ∷ []) ∙ ap (λ z. unreached_lines lines found ++ z) (append-nil (rule_lines lines u))

-- The rules from the place on can be added to those before it, since it is known of each whether it decides.
rest_of : (rules : List Rule) → ((i : ℕ) → i < length rules → IsAnswered rules i) → (more place : ℕ)
    (found : List Unreached) → place + more ≡ length rules → AreUnreachedTo rules place found
    → (rest : List Unreached) × AreUnreachedTo rules (length rules) (found ++ rest)
rest_of rules told zero place found e h =
    let same : place ≡ length rules = omega (arith, e) in (
      [],
      subst (AreUnreachedTo rules (length rules)) (sym (append-nil found))
          (subst (λ i. AreUnreachedTo rules i found) same h),
    )
rest_of rules told (suc more) place found e h = elim (told place (omega (arith, e))) [
  | inl not ↦ rest_of rules told more (place + 1) found (omega (arith, e)) (unreached_skip rules place found h not)
  | inr u ↦
      let next = rest_of rules told more (place + 1) (found ++ u.0 ∷ []) (omega (arith, e))
      (unreached_push rules place found u.0 h u.1.unreached u.1.of_place u.1.deciders) in
      (u.0 ∷ next.0, subst (AreUnreachedTo rules (length rules)) (append_assoc found (u.0 ∷ []) next.0) next.1)
]

-- The rules before the place are found. A front of their lines is written, and the piece has the rest.
pub record AreWrittenTo (rules : List Rule) (lines : List ContentLine) (place : ℕ) (a b : Option (List ℕ))
    (piece : List ℕ) : Type 0 where
  pub found : List Unreached
  pub to : AreUnreachedTo rules place found
  pub pieces : IsInPieces a b piece (unreached_lines lines found)

pub written_none : (rules : List Rule) (lines : List ContentLine) (a : Option (List ℕ)) (piece : List ℕ) → piece ≡ []
    → AreWrittenTo rules lines 0 a a piece
written_none rules lines a piece none = record {
  found = [];
  to = unreached_none rules;
  pieces = record { done = []; written = Appends-nil a; is = none };
}

pub written_skip : (rules : List Rule) (lines : List ContentLine) (place : ℕ) (a b : Option (List ℕ))
    (piece : List ℕ) → AreWrittenTo rules lines place a b piece → (IsUnreached rules place → ⊥)
    → AreWrittenTo rules lines (place + 1) a b piece
written_skip rules lines place a b piece h not_so = record {
  found = h.found;
  to = unreached_skip rules place h.found h.to not_so;
  pieces = h.pieces;
}

pub written_more : (rules : List Rule) (lines : List ContentLine) (place : ℕ) (a b c : Option (List ℕ))
    (piece new : List ℕ) (u : Unreached) → AreWrittenTo rules lines place a b piece → IsUnreachedAt rules place u
    → IsInPieces b c new (piece ++ rule_lines lines u) → AreWrittenTo rules lines (place + 1) a c new
written_more rules lines place a b c piece new u h is k =
    let chunk = rule_lines lines u in
    let p = h.pieces in
    record {
      found = h.found ++ u ∷ [];
      to = unreached_push rules place h.found u h.to is.unreached is.of_place is.deciders;
      pieces = record {
        done = p.done ++ k.done;
        written = Appends-trans a b c p.done k.done p.written k.written;
        is = append_assoc p.done k.done new ∙ ap (λ z. p.done ++ z) k.is ∙ sym (append_assoc p.done piece chunk)
            ∙ ap (λ z. z ++ chunk) p.is ∙ sym (lines_push lines h.found u);
      };
    }

-- ---- the whole answer, and a front of it

answer_of : (rules : List Rule) (lines : List ContentLine) (found : List Unreached)
    → AreUnreachedTo rules (length rules) found
    → AreUnreachedLines (record { rules = rules; lines = lines }) (unreached_lines lines found)
answer_of rules lines found h = record {
  found = found;
  unreached = unreached_end rules (length rules) found h (λ less. let wrong : ⊥ = omega (arith, less) in wrong);
  spelled = refl;
}

-- a front of what is left is written, and nothing more
pub front_out : (rules : List Rule) (lines : List ContentLine) (place : ℕ) (a b c : Option (List ℕ))
    (piece : List ℕ) → ((i : ℕ) → i < length rules → IsAnswered rules i) → AreWrittenTo rules lines place a b piece
    → place ≤ length rules → (front : List ℕ) × StartsWith piece front × Appends b c front
    → IsFrontWritten (AreUnreachedLines (record { rules = rules; lines = lines })) a c
front_out rules lines place a b c piece told h within front =
    let rest = rest_of rules told (length rules - place) place h.found (omega (arith, within)) h.to in
    let f = front_written a b c piece (unreached_lines lines h.found) (unreached_lines lines rest.0)
    (unreached_lines lines (h.found ++ rest.0)) h.pieces (lines_append lines h.found rest.0) front in
    record {
      text = unreached_lines lines (h.found ++ rest.0);
      right = answer_of rules lines (h.found ++ rest.0) rest.1;
      front = f.0;
      begins = f.1;
      written = f.2;
    }

-- nothing more is written
pub stopped : (rules : List Rule) (lines : List ContentLine) (place : ℕ) (a b : Option (List ℕ)) (piece : List ℕ)
    → ((i : ℕ) → i < length rules → IsAnswered rules i) → AreWrittenTo rules lines place a b piece
    → place ≤ length rules → IsFrontWritten (AreUnreachedLines (record { rules = rules; lines = lines })) a b
stopped rules lines place a b piece told h within =
    front_out rules lines place a b b piece told h within ([], refl, Appends-nil b)

-- a front of the lines of the rule at the place is written
pub stopped_in : (rules : List Rule) (lines : List ContentLine) (place : ℕ) (a b c : Option (List ℕ))
    (piece : List ℕ) (u : Unreached) → ((i : ℕ) → i < length rules → IsAnswered rules i)
    → AreWrittenTo rules lines place a b piece → place < length rules → IsUnreachedAt rules place u
    → (front : List ℕ) × StartsWith (piece ++ rule_lines lines u) front × Appends b c front
    → IsFrontWritten (AreUnreachedLines (record { rules = rules; lines = lines })) a c
stopped_in rules lines place a b c piece u told h less is front =
    let whole = piece ++ rule_lines lines u in
    front_out rules lines (place + 1) a b c whole told
    (written_more rules lines place a b b piece whole u h is
    (record { done = []; written = Appends-nil b; is = refl })) (omega (arith, less)) front

-- all is written
pub whole_out : (rules : List Rule) (lines : List ContentLine) (place : ℕ) (a b c : Option (List ℕ))
    (piece : List ℕ) → AreWrittenTo rules lines place a b piece → place ≡ length rules → Appends b c piece
    → IsWritten (AreUnreachedLines (record { rules = rules; lines = lines })) a c
whole_out rules lines place a b c piece h all written = record {
  text = unreached_lines lines h.found;
  right = answer_of rules lines h.found (subst (λ i. AreUnreachedTo rules i h.found) all h.to);
  written = all_written a b c piece (unreached_lines lines h.found) h.pieces written;
}

-- ---- the outcome of a list that was read

-- whether each rule decides on an address
pub outcome_of_list : (list : RuleList) (p : Prepared) → list.refused.count ≡ 0 → IsPrepared (contents_of list) p
    → AreReached list (not p.has_unreached)
outcome_of_list list p none h = of p.has_unreached refl
  where
    of : (some : Bool) → p.has_unreached ≡ some → AreReached list (not some)
    of false e = λ grammar bytes read. record {
      contents = contents_of list;
      read = all_rules grammar bytes list read none;
      reached = λ index never.
          let here = subst (λ z. IsUnreached z.rules index) (sym h.of_contents) never in
          h.answered.none e index here.within here;
    }
    of true e = λ grammar bytes read.
        let found = h.answered.found e in record {
          contents = contents_of list;
          read = all_rules grammar bytes list read none;
          index = found.0;
          unreached = subst (λ z. IsUnreached z.rules found.0) h.of_contents found.1;
        }

-- A list that is read from its first line to its last.
use Rattle.std.proofs.Common.{◌≡◌, ℕ, ◌+◌, ◌↔◌, List, [], ◌++◌, subst, append-nil, refl}
use Rattle.ipnet_base.specs.Address.{Address}
use Rattle.ipnet.specs.declared.parser.Grammar.{Grammar}
use Rattle.ipnet.specs.Lines.{lines_of}
use Rattle.ipnet_sets.specs.declared.set.IpSet.{IpSet}
use Rattle.ipnet_sets.specs.declared.set.builder.IpSetBuilder.{IpSetBuilder}
use Rattle.ipnet_sets.specs.Members.{IsMember}
use Rattle.ipnet_sets.specs.Pushed.{IsPushed}
use Rattle.ipnet_lists.specs.declared.reader.LineReader.{LineReader}
use Rattle.ipnet_lists.specs.Lists.{ListEntry, AreRead, AreContents, HaveAddresses, after_mark}
use Rattle.ipnet_lists.specs.ListTexts.{IsReadList, IsMadeList}
use Rattle.ipnet_lists.specs.Reading.{ReadsLines}
use Rattle.ipnet_lists.specs.RefusedLines.{AreRefused}
use Rattle.ipnet_lists.proofs.RangeCovers.{has_none}
use Rattle.ipnet_lists.proofs.RefusalLaws.{more_refused}

-- what was made of the entries of a list
pub made_list : (grammar : Grammar) (bytes rest : List ℕ) (old new : LineReader)
    (IsMade IsMadeNow : List ListEntry → Type 0) → old.grammar ≡ grammar → old.list ≡ 0 → old.line ≡ 0
    → AreRefused old.refused [] → rest ≡ after_mark bytes → ReadsLines old new (lines_of rest) IsMade IsMadeNow
    → IsMade [] → IsMadeList grammar bytes IsMadeNow new.refused
made_list grammar bytes rest old new IsMade IsMadeNow same list line none is (texts, are, lines) start =
    let whole : AreRead old.grammar old.list (old.line + 1) (texts ++ []) (lines.entries ++ [])
    (lines.refusals ++ []) = lines.read [] [] [] (refl, refl) in
    record {
      entries = lines.entries;
      refusals = lines.refusals;
      read = (
        texts,
        subst (λ b. AreContents (lines_of b) texts) is are,
        subst (λ g. AreRead g 0 1 texts lines.entries lines.refusals) same
            (subst (λ n. AreRead old.grammar n 1 texts lines.entries lines.refusals) list
            (subst (λ n. AreRead old.grammar old.list (n + 1) texts lines.entries lines.refusals) line
            (subst (λ rs. AreRead old.grammar old.list (old.line + 1) texts lines.entries rs)
            (append-nil lines.refusals)
            (subst (λ es. AreRead old.grammar old.list (old.line + 1) texts es (lines.refusals ++ []))
            (append-nil lines.entries)
            (subst (λ ts. AreRead old.grammar old.list (old.line + 1) ts (lines.entries ++ []) (lines.refusals ++ []))
            (append-nil texts) whole))))),
      );
      made = lines.made [] start;
      kept = more_refused old.refused new.refused [] lines.refusals none lines.added;
    }

-- the addresses of a list
pub whole_list : (grammar : Grammar) (bytes rest : List ℕ) (old new : LineReader) (empty builder : IpSetBuilder)
    (set : IpSet) → old.grammar ≡ grammar → old.list ≡ 0 → old.line ≡ 0 → AreRefused old.refused []
    → rest ≡ after_mark bytes
    → ReadsLines old new (lines_of rest) (HaveAddresses (IsPushed empty)) (HaveAddresses (IsPushed builder))
    → ((x : Address) → ¬ (IsPushed empty x)) → ((x : Address) → IsMember set x ↔ IsPushed builder x)
    → IsReadList grammar bytes set new.refused
whole_list grammar bytes rest old new empty builder set same list line none is lines nothing made =
    let all = made_list grammar bytes rest old new (HaveAddresses (IsPushed empty)) (HaveAddresses (IsPushed builder))
    same list line none is lines (has_none (IsPushed empty) nothing) in
    record {
      entries = all.entries;
      refusals = all.refusals;
      read = all.read;
      addresses = λ x. (λ m. (all.made x).0 ((made x).0 m), λ e. (made x).1 ((all.made x).1 e));
      kept = all.kept;
    }

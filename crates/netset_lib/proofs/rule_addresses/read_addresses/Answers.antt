-- The text is one of these.
use Rattle.std.proofs.Common.{◌≡◌, refl, inl, inr, codes, rules}
use Rattle.ipnet_lists.specs.EntryOf.{entry_range}
use Rattle.netset_lib.proofs.rule_addresses.read_addresses.Goals as goal

pub returns-in-Some-clause-some : goal.returns-in-Some-clause-some
returns-in-Some-clause-some c =
    inr (entry_range c.in-Some.found.entry, inl c.in-Some.ensures.reads.some, c.addresses_of.ensures)

pub returns-in-Some-read_two_words-clause-some : goal.returns-in-Some-read_two_words-clause-some
returns-in-Some-read_two_words-clause-some c = inr (
  entry_range c.in-Some-read_two_words.entry,
  inr c.in-Some-read_two_words.ensures.some,
  c.addresses_of-in-Some-read_two_words.ensures,
)

pub returns-in-None-clause-none : goal.returns-in-None-clause-none
returns-in-None-clause-none c = λ none.
    let other : c.args.text.now ≡ codes "any" → ⊥ = search rules in (
      other,
      λ range h. elim h [
        | inl entry ↦ c.in_default.ensures.reads.none.0 refl range entry
        | inr two ↦ c.in-None.ensures.none refl range two
      ],
    )

-- Lists that are read one after the other.
use Rattle.std.proofs.Common.{◌≡◌, ℕ, ◌+◌, List, [], ◌∷◌, ◌++◌, All, length, refl, sym, ap, ◌∙◌, Option}
use Rattle.std.proofs.Common.{arith, subst, append_assoc, append-nil, length-append}
use Rattle.ipnet.specs.declared.parser.Grammar.{Grammar}
use Rattle.netset_lib.specs.declared.set_reader.SetReader.{SetReader}
use Rattle.netset_lib.specs.Answers.{AreListsRead}
use Rattle.ipnet_lists.specs.Lists.{ListEntry, Refusal, IsListRead}
use Rattle.ipnet_lists.specs.Reading.{WasMadeOf}
use Rattle.ipnet_lists.specs.declared.reading.Reading.{Reading}
use Rattle.netset_lib.specs.SetReaders.{ReadsNext}
use Rattle.ipnet_lists.proofs.RefusalLaws.{more_refused}
use Rattle.netset_lib.proofs.RouteLaws.{entries_some, HasSome}

-- ---- one list more

pub lists_push : (grammar : Grammar) (list : ℕ) (lists : List (List ℕ)) (entries : List (List ListEntry))
    (refusals : List Refusal) (bytes : List ℕ) (more : List ListEntry) (later : List Refusal)
    → AreListsRead grammar list lists entries refusals → IsListRead grammar (list + length lists) bytes more later
    → AreListsRead grammar list (lists ++ bytes ∷ []) (entries ++ more ∷ []) (refusals ++ later)
lists_push grammar list [] entries refusals bytes more later h k =
    let same : list + 0 ≡ list = omega arith in
    let read = subst (λ n. IsListRead grammar n bytes more later) same k in (
      more,
      [],
      later,
      [],
      ap (λ es. es ++ more ∷ []) h.0,
      ap (λ rs. rs ++ later) h.1 ∙ sym (append-nil later),
      read,
      (refl, refl),
    )
lists_push grammar list (first ∷ lists) entries refusals bytes more later (e, es, r, rs, cut, split, read, h) k =
    let next : list + length (first ∷ lists) ≡ list + 1 + length lists = omega arith in
    let rest = lists_push grammar (list + 1) lists es rs bytes more later h
    (subst (λ n. IsListRead grammar n bytes more later) next k) in (
      e,
      es ++ more ∷ [],
      r,
      rs ++ later,
      ap (λ z. z ++ more ∷ []) cut,
      ap (λ z. z ++ later) split ∙ append_assoc r rs later,
      read,
      rest,
    )

-- a reader that reads one list more has read the lists before and it
pub next_read : (Of : List ListEntry → Type 0) (left left_after : Option (List ℕ)) (old new : SetReader)
    → WasMadeOf left left_after old.reading new.reading Of → ReadsNext Of left left_after old new
next_read Of left left_after old new k grammar lists entries h =
    let place : old.reading.lines.list ≡ 0 + length lists = omega (arith, h.count) in
    let is = subst (λ g. IsListRead g old.reading.lines.list k.bytes k.entries k.refusals) h.same_grammar k.read in
    record {
      bytes = k.bytes;
      given = k.given;
      next = k.entries;
      read = record {
        same_grammar = k.same_grammar ∙ h.same_grammar;
        count = omega (arith, k.next, h.count, length-append lists (k.bytes ∷ []));
        refusals = h.refusals ++ k.refusals;
        read = lists_push grammar 0 lists entries h.refusals k.bytes k.entries k.refusals h.read
            (subst (λ n. IsListRead grammar n k.bytes k.entries k.refusals) place is);
        kept = more_refused old.reading.lines.refused new.reading.lines.refused h.refusals k.refusals h.kept k.added;
      };
      of_next = k.made;
      noted = k.noted;
    }

-- a list was read, with something else made of its entries, which have an address
pub made_else : (A B : List ListEntry → Type 0) (left left_after : Option (List ℕ)) (old new : Reading)
    → WasMadeOf left left_after old new A → ((entries : List ListEntry) → All HasSome entries → A entries → B entries)
    → WasMadeOf left left_after old new B
made_else A B left left_after old new k weaker = record {
  bytes = k.bytes;
  given = k.given;
  entries = k.entries;
  refusals = k.refusals;
  read = k.read;
  added = k.added;
  same_grammar = k.same_grammar;
  next = k.next;
  made = weaker k.entries
      (entries_some old.lines.grammar old.lines.list 1 k.read.0 k.entries k.refusals k.read.2) k.made;
  noted = k.noted;
}

pub none_of_length : {X : Type 0} (xs : List X) → length xs ≡ 0 → xs ≡ []
none_of_length [] e = refl
none_of_length (x ∷ xs) e = absurd (omega (arith, e))

-- Texts that are put one after another: what the writer has received, and what the piece still has.
use Rattle.std.proofs.Common.{◌≡◌, ℕ, Bool, true, false, List, [], ◌∷◌, ◌++◌, refl, sym, ap, ◌∙◌, Option}
use Rattle.std.proofs.Common.{append_assoc, append-nil, Result, Ok, Err, OnOk, OnErr, codes, take, get_or}
use Rattle.std.proofs.Common.{length, ◌<◌, ◌+◌, subst}
use Rattle.std.specs.Borrow.{Bor}
use Rattle.std.specs.Io.{StartsWith}
use Rattle.std.specs.Io.KnownBytes.{Appends}
use Rattle.std.proofs.KnownBytes.{Appends-nil, Appends-trans}
use Rattle.std.proofs.lemmas.List.{take_more}
use Rattle.ipnet_base.specs.Address.{Address}
use Rattle.ipnet_base.specs.Network.{Network, IsLeastOf, IsGreatestOf, first_of, last_of}
use Rattle.ipnet.specs.CanonicalTexts.{address_text}
use Rattle.ipnet_text.specs.Pieces.{IsInPieces}
use Rattle.ipnet_text.proofs.WritingLaws.{front_written}
use Rattle.netset_forms.specs.FormSteps.{IsCut, IsPutUpTo, text_of_all, lead_of, end_of, rest_in, front_in, none_after}
use Rattle.netset_forms.specs.Layouts.{Layout}
use Rattle.ipnet_lists.proofs.EndLaws.{least_is_first, greatest_is_last}

-- ---- one text after another

pub put_then : (a b c : Option (List ℕ)) (piece middle last text more : List ℕ)
    → IsInPieces a b middle (piece ++ text) → IsInPieces b c last (middle ++ more)
    → IsInPieces a c last (piece ++ (text ++ more))
put_then a b c piece middle last text more h k = record {
  done = h.done ++ k.done;
  written = Appends-trans a b c h.done k.done h.written k.written;
  is = append_assoc h.done k.done last ∙ ap (λ z. h.done ++ z) k.is ∙ sym (append_assoc h.done middle more)
      ∙ ap (λ z. z ++ more) h.is ∙ append_assoc piece text more;
}

-- what is cut off in a text is cut off in a longer one
pub cut_first : (a b : Option (List ℕ)) (piece text more : List ℕ) → IsCut a b piece text
    → IsCut a b piece (text ++ more)
cut_first a b piece text more cut =
    front_written a a b (piece ++ text) (piece ++ text) more (piece ++ (text ++ more))
    (record { done = []; written = Appends-nil a; is = refl }) (sym (append_assoc piece text more)) cut

-- and so is what is cut off after a text
pub cut_then : (a b c : Option (List ℕ)) (piece middle text more : List ℕ) → IsInPieces a b middle (piece ++ text)
    → IsCut b c middle more → IsCut a c piece (text ++ more)
cut_then a b c piece middle text more h cut =
    front_written a b c (middle ++ more) (piece ++ (text ++ more)) [] (piece ++ (text ++ more))
    (record {
      done = h.done;
      written = h.written;
      is = sym (append_assoc h.done middle more) ∙ ap (λ z. z ++ more) h.is ∙ append_assoc piece text more;
    })
    (sym (append-nil (piece ++ (text ++ more)))) cut

-- a piece that is empty now was written
pub piece_written : (a b : Option (List ℕ)) (piece left : List ℕ) → IsInPieces a b left piece → left ≡ []
    → Appends a b piece
piece_written a b piece left h empty =
    subst (Appends a b) (sym (append-nil h.done) ∙ ap (λ z. h.done ++ z) (sym empty) ∙ h.is) h.written

-- a text that has no room in a piece is written after the piece
pub both_written : (a b c : Option (List ℕ)) (piece text new : List ℕ) → Appends a b piece → Appends b c text
    → new ≡ [] → IsInPieces a c new (piece ++ text)
both_written a b c piece text new first second empty = record {
  done = piece ++ text;
  written = Appends-trans a b c piece text first second;
  is = ap (λ z. (piece ++ text) ++ z) empty ∙ append-nil (piece ++ text);
}

pub front_of_both : (a b c : Option (List ℕ)) (piece text : List ℕ) → Appends a b piece
    → (front : List ℕ) × StartsWith text front × Appends b c front → IsCut a c piece text
front_of_both a b c piece text first cut =
    front_written a b c text (piece ++ text) [] (piece ++ text)
    (record { done = piece; written = first; is = refl }) (sym (append-nil (piece ++ text))) cut

-- a clause of a call that succeeded, and of one that failed
pub if_ok : {T E P : Type 0} (r : Result T E) → P → OnOk r P
if_ok (Ok x) h = h
if_ok (Err e) h = tt

pub if_err : {T E P : Type 0} (r : Result T E) → P → OnErr r P
if_err (Ok x) h = tt
if_err (Err e) h = h

-- ---- a text up to here

pub up_to_start : (a : Option (List ℕ)) (piece text : List ℕ) → IsPutUpTo a a piece piece text text
up_to_start a piece text = record {
  done = [];
  pieces = record { done = []; written = Appends-nil a; is = sym (append-nil piece) };
  split = refl;
}

pub up_to_more : (a b c : Option (List ℕ)) (piece here new rest more left text : List ℕ)
    → IsPutUpTo a b piece here rest text → rest ≡ more ++ left → IsInPieces b c new (here ++ more)
    → IsPutUpTo a c piece new left text
up_to_more a b c piece here new rest more left text h cut put = record {
  done = h.done ++ more;
  pieces = put_then a b c piece here new h.done more h.pieces put;
  split = append_assoc h.done more left ∙ ap (λ z. h.done ++ z) (sym cut) ∙ h.split;
}

pub up_to_cut : (a b c : Option (List ℕ)) (piece here rest more left text : List ℕ)
    → IsPutUpTo a b piece here rest text → rest ≡ more ++ left → IsCut b c here more → IsCut a c piece text
up_to_cut a b c piece here rest more left text h split cut =
    let whole : (h.done ++ more) ++ left ≡ text =
    append_assoc h.done more left ∙ ap (λ z. h.done ++ z) (sym split) ∙ h.split in
    rw (← whole) (cut_first a c piece (h.done ++ more) left (cut_then a b c piece here h.done more h.pieces cut))

pub up_to_end : (a b : Option (List ℕ)) (piece here rest text : List ℕ) → rest ≡ []
    → IsPutUpTo a b piece here rest text → IsInPieces a b here (piece ++ text)
up_to_end a b piece here rest text none h =
    let whole : h.done ≡ text = sym (append-nil h.done) ∙ ap (λ z. h.done ++ z) (sym none) ∙ h.split in
    rw (← whole) h.pieces

-- ---- items in a layout

pub rest_more : (l : Layout) (none : Bool) (item : List ℕ) (items : List (List ℕ))
    → rest_in l none (item ∷ items) ≡ (lead_of l none ++ item) ++ rest_in l false items
rest_more l true item items = sym (append_assoc l.before item (rest_in l false items))
rest_more l false item items = sym (append_assoc l.between item (rest_in l false items))

pub front_more : (l : Layout) (none : Bool) (item : List ℕ) (items : List (List ℕ))
    → front_in l none (item ∷ items) ≡ (lead_of l none ++ item) ++ front_in l false items
front_more l none item items = sym (append_assoc (lead_of l none) item (front_in l false items))

-- some item was written, and then others
pub after_some : (items : List (List ℕ)) → none_after false items ≡ false
after_some [] = refl
after_some (item ∷ items) = refl

-- the items of two lists are the items of the first, and then the items of the second
pub rest_append : (l : Layout) (none : Bool) (items others : List (List ℕ))
    → rest_in l none (items ++ others) ≡ front_in l none items ++ rest_in l (none_after none items) others
rest_append l none [] others = refl
rest_append l none (item ∷ items) others =
    rest_more l none item (items ++ others)
    ∙ ap (λ z. (lead_of l none ++ item) ++ z) (rest_append l false items others
    ∙ ap (λ b. front_in l false items ++ rest_in l b others) (after_some items))
    ∙ sym (append_assoc (lead_of l none ++ item) (front_in l false items) (rest_in l false others))
    ∙ ap (λ z. z ++ rest_in l false others) (sym (front_more l none item items))

pub rest_none : (l : Layout) (none : Bool) → rest_in l none [] ≡ end_of l none ++ []
rest_none l true = sym (append-nil l.none)
rest_none l false = sym (append-nil l.after)

-- the two addresses of a row are the first and the last of the network
pub pair_same : (n : Network) (a b : Address) → IsLeastOf n a → IsGreatestOf n b
    → address_text a.family a.number ++ codes "," ++ address_text b.family b.number
    ≡ address_text n.family (first_of n) ++ codes "," ++ address_text n.family (last_of n)
pair_same n a b least greatest =
    ap (λ x. address_text x.family x.number ++ codes "," ++ address_text b.family b.number) (least_is_first n a least)
    ∙ ap (λ x. address_text n.family (first_of n) ++ codes "," ++ address_text x.family x.number)
    (greatest_is_last n b greatest)

-- ---- texts that are joined

text_of_all-push : (texts : List (Bor (List ℕ))) (t : Bor (List ℕ))
    → text_of_all (texts ++ t ∷ []) ≡ text_of_all texts ++ t.now
text_of_all-push [] t = append-nil t.now
text_of_all-push (x ∷ texts) t =
    ap (λ z. x.now ++ z) (text_of_all-push texts t) ∙ sym (append_assoc x.now (text_of_all texts) t.now)

pub one_text_more : (texts : List (Bor (List ℕ))) (i : ℕ) (d : Bor (List ℕ)) (old new : List ℕ) → i < length texts
    → old ≡ text_of_all (take i texts) → new ≡ old ++ (get_or texts i d).now → new ≡ text_of_all (take (i + 1) texts)
one_text_more texts i d old new less so_far pushed =
    pushed ∙ ap (λ z. z ++ (get_or texts i d).now) so_far ∙ sym (text_of_all-push (take i texts) (get_or texts i d))
    ∙ ap text_of_all (sym (take_more texts i d less))

-- An input that is read through a window: its front, and what is pending.
use Rattle.std.proofs.Common.{◌≡◌, ℕ, Bool, true, false, List, [], ◌++◌, refl, sym, ap, ◌∙◌, subst, append_assoc}
use Rattle.std.proofs.Common.{append-nil, Option}
use Rattle.std.specs.Io.KnownBytes.{Consumes, IsAtEnd}
use Rattle.std.proofs.KnownBytes.{Consumes-trans}
use Rattle.ipnet_text.specs.declared.window.Window.{Window}
use Rattle.ipnet_text.specs.Inputs.{GaveWhole}
use Rattle.ipnet_text.specs.Window.{held}
use Rattle.ipnet_lists.specs.Lists.{after_mark}
use Rattle.ipnet_lists.specs.Marks.{IsPastMark}

-- the input returned a byte order mark, if it has one, the front, and what is pending
pub record IsInputUpTo (more : Bool) (left left_now : Option (List ℕ)) (front pending : List ℕ) : Type 0 where
  pub mark : List ℕ
  pub read : Consumes left left_now (mark ++ (front ++ pending))
  pub past : (rest : List ℕ) → (more ≡ false → rest ≡ []) → after_mark (mark ++ ((front ++ pending) ++ rest))
      ≡ (front ++ pending) ++ rest
  pub end : more ≡ false → IsAtEnd left_now

pub input_begins : (more : Bool) (left left_now : Option (List ℕ)) (window : Window)
    → IsPastMark more left left_now window → IsInputUpTo more left left_now [] (held window)
input_begins more left left_now window h =
    record { mark = h.mark; read = h.read; past = h.past; end = h.end }

-- more of the pending bytes belong to the front
pub input_moves : (more : Bool) (left left_now : Option (List ℕ)) (front pending taken rest : List ℕ)
    → pending ≡ taken ++ rest → IsInputUpTo more left left_now front pending
    → IsInputUpTo more left left_now (front ++ taken) rest
input_moves more left left_now front pending taken rest is h =
    let all : front ++ pending ≡ (front ++ taken) ++ rest =
    ap (λ z. front ++ z) is ∙ sym (append_assoc front taken rest) in
    record {
      mark = h.mark;
      read = subst (λ z. Consumes left left_now (h.mark ++ z)) all h.read;
      past = λ later over. subst (λ z. after_mark (h.mark ++ (z ++ later)) ≡ z ++ later) all (h.past later over);
      end = h.end;
    }

-- and more bytes
pub input_grows : (more : Bool) (a b c : Option (List ℕ)) (front pending given : List ℕ)
    → IsInputUpTo true a b front pending → Consumes b c given → (more ≡ false → IsAtEnd c)
    → IsInputUpTo more a c front (pending ++ given)
input_grows more a b c front pending given h read end =
    let all : (front ++ pending) ++ given ≡ front ++ (pending ++ given) = append_assoc front pending given in
    record {
      mark = h.mark;
      read = subst (Consumes a c) (append_assoc h.mark (front ++ pending) given ∙ ap (λ z. h.mark ++ z) all)
          (Consumes-trans a b c (h.mark ++ (front ++ pending)) given h.read read);
      past = λ later over. subst (λ z. after_mark (h.mark ++ z) ≡ z)
          (sym (append_assoc (front ++ pending) given later) ∙ ap (λ z. z ++ later) all)
          (h.past (given ++ later) (λ e. let clash : true ≡ false = e in absurd cc));
      end = end;
    }

-- all of it
pub input_ends : (left left_now : Option (List ℕ)) (front pending : List ℕ)
    → IsInputUpTo false left left_now front pending
    → (bytes : List ℕ) × GaveWhole left left_now bytes × (after_mark bytes ≡ front ++ pending)
input_ends left left_now front pending h = (
  h.mark ++ (front ++ pending),
  record { given = h.read; whole = h.end refl },
  subst (λ z. after_mark (h.mark ++ z) ≡ z) (append-nil (front ++ pending)) (h.past [] (λ e. refl)),
)

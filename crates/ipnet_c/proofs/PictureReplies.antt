-- Replies of the calls that draw.
use Rattle.std.proofs.Common.{◌≡◌, ◌≢◌, ℕ, ◌⊎◌, ◌↔◌, ◌==◌, false, List, Result, Ok, IfOk}
use Rattle.std.proofs.Common.{Option, Some, None, IfSome, String, Global, string_bytes, inl, inr, refl, sym, ◌∙◌, subst}
use Rattle.ipnet_bars.specs.declared.frame.Frame.{Frame}
use Rattle.ipnet_bars.specs.Frames.{HasNoFrame}
use Rattle.ipnet_sets.specs.declared.set.IpSet.{IpSet}
use Rattle.ipnet_sets.specs.Images.{IsImage, IsImageOf}
use Rattle.ipnet_sets.specs.Members.{IsMember, IsUnion}
use Rattle.ipnet_c.specs.Buffers.{IsWritten, IsTooLong}
use Rattle.ipnet_c.specs.Pictures.{AreBytesOfFrame, HasFrame}
use Rattle.ipnet_c.specs.PictureReplies.{IsFrameFault, IsPictureOf, HasNoPicture, IsPictureReply}
use Rattle.ipnet_c.specs.PictureReplies.{IsSetPictureReply}
use Rattle.ipnet_c.proofs.StatusLaws.{differ, neither}

module _ (AreOptions : Type 0) (IsPicture : IpSet → IpSet → Frame → List ℕ → Type 0) (set other network : List ℕ) where
  -- the status of bytes that are not a network is none of the others
  frame_status : (status other_status : ℕ) → (status ≡ 6) ⊎ ((status ≡ 7) ⊎ (status ≡ 8))
      → (6 == other_status) ≡ false → (7 == other_status) ≡ false → (8 == other_status) ≡ false
      → status ≢ other_status
  frame_status status k (inl e) six seven eight same = differ 6 k six (sym e ∙ same)
  frame_status status k (inr e) six seven eight same = neither 7 8 status k e seven eight same

  frame_known : (status : ℕ) → (status ≡ 6) ⊎ ((status ≡ 7) ⊎ (status ≡ 8))
      → (status ≡ 0) ⊎ ((status ≡ 4) ⊎ ((status ≡ 17) ⊎ ((status ≡ 6) ⊎ ((status ≡ 7) ⊎ ((status ≡ 8)
      ⊎ ((status ≡ 11) ⊎ ((status ≡ 12) ⊎ ((status ≡ 18) ⊎ (status ≡ 3)))))))))
  frame_known status (inl e) = inr (inr (inr (inl e)))
  frame_known status (inr (inl e)) = inr (inr (inr (inr (inl e))))
  frame_known status (inr (inr e)) = inr (inr (inr (inr (inr (inl e)))))

  -- bytes that say no network
  pub frame_refused : (buffer : List ℕ) (count status : ℕ) → AreOptions → IsFrameFault network status
      → IsPictureReply AreOptions IsPicture set other network buffer buffer count count status
  frame_refused buffer count status options fault = record {
    known = frame_known status fault.known;
    ok = λ e. absurd (frame_status status 0 fault.known refl refl refl e);
    too_short = λ e. absurd (frame_status status 4 fault.known refl refl refl e);
    unknown_option = (λ e. absurd (frame_status status 17 fault.known refl refl refl e), λ n. absurd (n options));
    wrong_length = (λ e. (options, fault.no_frame, fault.wrong_length.0 e), λ h. fault.wrong_length.1 h.2);
    unknown_family = (λ e. (options, fault.no_frame, fault.unknown_family.0 e), λ h. fault.unknown_family.1 h.2);
    prefix_too_long = (λ e. (options, fault.no_frame, fault.prefix_too_long.0 e), λ h. fault.prefix_too_long.1 h.2);
    not_a_set = (λ e. absurd (frame_status status 11 fault.known refl refl refl e), λ h. absurd (fault.no_frame h.1));
    other_not_a_set = (
      λ e. absurd (frame_status status 12 fault.known refl refl refl e),
      λ h. absurd (fault.no_frame h.1),
    );
    no_address = λ e. absurd (frame_status status 18 fault.known refl refl refl e);
    buffer_kept = λ e. refl;
    count_kept = λ a b. refl;
  }

  -- the status of a picture that is written, is too long, or is not drawn
  drawn_status : (status k : ℕ) → (status ≡ 0) ⊎ ((status ≡ 4) ⊎ ((status ≡ 18) ⊎ (status ≡ 3))) → (0 == k) ≡ false
      → (4 == k) ≡ false → (18 == k) ≡ false → (3 == k) ≡ false → status ≢ k
  drawn_status status k (inl e) a b c d same = differ 0 k a (sym e ∙ same)
  drawn_status status k (inr (inl e)) a b c d same = differ 4 k b (sym e ∙ same)
  drawn_status status k (inr (inr e)) a b c d same = neither 18 3 status k e c d same

  drawn_known : (status : ℕ) → (status ≡ 0) ⊎ ((status ≡ 4) ⊎ ((status ≡ 18) ⊎ (status ≡ 3)))
      → (status ≡ 0) ⊎ ((status ≡ 4) ⊎ ((status ≡ 17) ⊎ ((status ≡ 6) ⊎ ((status ≡ 7) ⊎ ((status ≡ 8)
      ⊎ ((status ≡ 11) ⊎ ((status ≡ 12) ⊎ ((status ≡ 18) ⊎ (status ≡ 3)))))))))
  drawn_known status (inl e) = inl e
  drawn_known status (inr (inl e)) = inr (inl e)
  drawn_known status (inr (inr e)) = inr (inr (inr (inr (inr (inr (inr (inr e)))))))

  -- a picture that is drawn, or none
  pub drawn : (old new : List ℕ) (count_old count status : ℕ) → AreOptions → HasFrame network → IsImage set
      → IsImage other → (status ≡ 0) ⊎ ((status ≡ 4) ⊎ ((status ≡ 18) ⊎ (status ≡ 3)))
      → (status ≡ 0 → (text : List ℕ) × IsPictureOf IsPicture set other network text × IsWritten text old new count)
      → (status ≡ 4 → (text : List ℕ) × IsPictureOf IsPicture set other network text × IsTooLong text old new count)
      → (status ≡ 18 → HasNoPicture set other network)
      → (status ≢ 0 → status ≢ 4 → (new ≡ old) × (count ≡ count_old))
      → IsPictureReply AreOptions IsPicture set other network old new count_old count status
  drawn old new count_old count status options frame is is_other known ok short none kept = record {
    known = drawn_known status known;
    ok = ok;
    too_short = short;
    unknown_option = (λ e. absurd (drawn_status status 17 known refl refl refl refl e), λ n. absurd (n options));
    wrong_length = (λ e. absurd (drawn_status status 6 known refl refl refl refl e), λ h. absurd (h.1 frame));
    unknown_family = (λ e. absurd (drawn_status status 7 known refl refl refl refl e), λ h. absurd (h.1 frame));
    prefix_too_long = (λ e. absurd (drawn_status status 8 known refl refl refl refl e), λ h. absurd (h.1 frame));
    not_a_set = (λ e. absurd (drawn_status status 11 known refl refl refl refl e), λ h. absurd (h.2 is));
    other_not_a_set = (λ e. absurd (drawn_status status 12 known refl refl refl refl e), λ h. absurd (h.3 is_other));
    no_address = none;
    buffer_kept = λ not_ok. elim known [
      | inl e ↦ absurd (not_ok e)
      | inr more ↦ elim more [
        | inl e ↦ let (text, picture, long) = short e in long.kept
        | inr last ↦ (kept not_ok (neither 18 3 status 4 last refl refl)).0
      ]
    ];
    count_kept = λ not_ok not_short. (kept not_ok not_short).1;
  }

-- a picture of one set
pub set_drawn : {E : Type 0} (AreOptions : Type 0) (IsPicture : IpSet → Frame → List ℕ → Type 0)
    (set bytes network old new : List ℕ) (count_old count status : ℕ) (frame : Frame)
    (made : Result (Option (String Global)) E) → AreOptions → AreBytesOfFrame frame network → IsImage bytes
    → bytes ≡ set
    → IfOk made (λ found. IfSome found (λ text. (first : IpSet) × IsImageOf bytes first
    × IsPicture first frame (string_bytes text)))
    → IfOk made (λ found. found ≡ None → (first : IpSet) × IsImageOf bytes first × HasNoFrame frame (IsMember first))
    → (status ≡ 0) ⊎ ((status ≡ 4) ⊎ ((status ≡ 18) ⊎ (status ≡ 3)))
    → (status ≡ 0 → (text : String Global) × (made ≡ Ok (Some text)) × IsWritten (string_bytes text) old new count)
    → (status ≡ 4 → (text : String Global) × (made ≡ Ok (Some text)) × IsTooLong (string_bytes text) old new count)
    → (status ≡ 18) ↔ (made ≡ Ok None) → (status ≢ 0 → status ≢ 4 → (new ≡ old) × (count ≡ count_old))
    → IsSetPictureReply AreOptions IsPicture set network old new count_old count status
set_drawn AreOptions IsPicture set bytes network old new count_old count status frame made options of_frame is same
    picture nothing known ok short none kept =
    let P : Option (String Global) → Type 0 = λ found. IfSome found (λ text. (first : IpSet) × IsImageOf bytes first
    × IsPicture first frame (string_bytes text)) in
    let N : Option (String Global) → Type 0 = λ found. found ≡ None → (first : IpSet) × IsImageOf bytes first
    × HasNoFrame frame (IsMember first) in
    let of_text : (text : String Global) → made ≡ Ok (Some text)
    → IsPictureOf (λ s t. IsPicture s) set set network (string_bytes text) = λ text e.
    let (first, image, right) = subst (λ r. IfOk r P) e picture in
    record {
      first = first;
      second = first;
      first_image = subst (λ z. IsImageOf z first) same image;
      second_image = subst (λ z. IsImageOf z first) same image;
      frame = frame;
      is_frame = of_frame;
      picture = right;
    } in
    drawn AreOptions (λ s t. IsPicture s) set set network old new count_old count status options (frame, of_frame)
    (subst IsImage same is) (subst IsImage same is) known
    (λ e. let (text, drawn_is, written) = ok e in (string_bytes text, of_text text drawn_is, written))
    (λ e. let (text, drawn_is, long) = short e in (string_bytes text, of_text text drawn_is, long))
    (λ e. let (first, image, no_frame) = subst (λ r. IfOk r N) (none.0 e) nothing refl in record {
      first = first;
      second = first;
      first_image = subst (λ z. IsImageOf z first) same image;
      second_image = subst (λ z. IsImageOf z first) same image;
      all = first;
      both = λ x. (λ m. inl m, λ m. elim m [ inl a ↦ a | inr b ↦ b ]);
      frame = frame;
      is_frame = of_frame;
      none = no_frame;
    })
    kept

-- a picture of two sets
pub pair_drawn : {E : Type 0} (AreOptions : Type 0) (IsPicture : IpSet → IpSet → Frame → List ℕ → Type 0)
    (set bytes other other_bytes network old new : List ℕ) (count_old count status : ℕ) (frame : Frame)
    (made : Result (Option (String Global)) E) → AreOptions → AreBytesOfFrame frame network → IsImage bytes
    → bytes ≡ set → IsImage other_bytes → other_bytes ≡ other
    → IfOk made (λ found. IfSome found (λ text. (before after : IpSet) × IsImageOf bytes before
    × IsImageOf other_bytes after × IsPicture before after frame (string_bytes text)))
    → IfOk made (λ found. found ≡ None → (before after all : IpSet) × IsImageOf bytes before
    × IsImageOf other_bytes after × IsUnion all before after × HasNoFrame frame (IsMember all))
    → (status ≡ 0) ⊎ ((status ≡ 4) ⊎ ((status ≡ 18) ⊎ (status ≡ 3)))
    → (status ≡ 0 → (text : String Global) × (made ≡ Ok (Some text)) × IsWritten (string_bytes text) old new count)
    → (status ≡ 4 → (text : String Global) × (made ≡ Ok (Some text)) × IsTooLong (string_bytes text) old new count)
    → (status ≡ 18) ↔ (made ≡ Ok None) → (status ≢ 0 → status ≢ 4 → (new ≡ old) × (count ≡ count_old))
    → IsPictureReply AreOptions IsPicture set other network old new count_old count status
pair_drawn AreOptions IsPicture set bytes other other_bytes network old new count_old count status frame made options
    of_frame is same is_other same_other picture nothing known ok short none kept =
    let P : Option (String Global) → Type 0 = λ found. IfSome found (λ text. (before after : IpSet)
    × IsImageOf bytes before × IsImageOf other_bytes after × IsPicture before after frame (string_bytes text)) in
    let N : Option (String Global) → Type 0 = λ found. found ≡ None → (before after all : IpSet)
    × IsImageOf bytes before × IsImageOf other_bytes after × IsUnion all before after
    × HasNoFrame frame (IsMember all) in
    let of_text : (text : String Global) → made ≡ Ok (Some text)
    → IsPictureOf IsPicture set other network (string_bytes text) = λ text e.
    let (before, after, image, image_other, right) = subst (λ r. IfOk r P) e picture in
    record {
      first = before;
      second = after;
      first_image = subst (λ z. IsImageOf z before) same image;
      second_image = subst (λ z. IsImageOf z after) same_other image_other;
      frame = frame;
      is_frame = of_frame;
      picture = right;
    } in
    drawn AreOptions IsPicture set other network old new count_old count status options (frame, of_frame)
    (subst IsImage same is) (subst IsImage same_other is_other) known
    (λ e. let (text, drawn_is, written) = ok e in (string_bytes text, of_text text drawn_is, written))
    (λ e. let (text, drawn_is, long) = short e in (string_bytes text, of_text text drawn_is, long))
    (λ e. let (before, after, all, image, image_other, both, no_frame) = subst (λ r. IfOk r N) (none.0 e) nothing refl
    in record {
      first = before;
      second = after;
      first_image = subst (λ z. IsImageOf z before) same image;
      second_image = subst (λ z. IsImageOf z after) same_other image_other;
      all = all;
      both = both;
      frame = frame;
      is_frame = of_frame;
      none = no_frame;
    })
    kept

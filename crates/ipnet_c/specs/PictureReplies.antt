-- The result of each C function that draws: its status, and what it leaves in the caller's memory. `old` and `new` are
-- the buffer before and after the call, `count_old` and `count` the length that the call may write.
use Rattle.std.specs.Prelude.{◌≡◌, ◌≢◌, ◌↔◌, ◌⊎◌, ℕ, List}
use Rattle.ipnet.specs.Bytes.{HasWrongTaggedLen, HasUnknownVariant, HasLongTaggedPrefix}
use Rattle.ipnet_bars.specs.declared.frame.Frame.{Frame}
use Rattle.ipnet_bars.specs.Frames.{HasNoFrame}
use Rattle.ipnet_sets.specs.declared.set.IpSet.{IpSet}
use Rattle.ipnet_sets.specs.Images.{IsImage, IsImageOf}
use Rattle.ipnet_sets.specs.Members.{IsMember, IsUnion}
use Rattle.ipnet_c.specs.Statuses as statuses
use Rattle.ipnet_c.specs.Buffers.{IsWritten, IsTooLong}
use Rattle.ipnet_c.specs.Pictures.{AreBytesOfFrame, HasFrame}

-- The bytes do not say which network a picture shows, and the status says why.
pub record IsFrameFault (bytes : List ℕ) (status : ℕ) : Type 0 where
  pub known : (status ≡ statuses.wrong_length) ⊎ ((status ≡ statuses.unknown_family)
      ⊎ (status ≡ statuses.prefix_too_long))
  pub no_frame : ¬ (HasFrame bytes)
  pub wrong_length : (status ≡ statuses.wrong_length) ↔ HasWrongTaggedLen bytes
  pub unknown_family : (status ≡ statuses.unknown_family) ↔ HasUnknownVariant bytes
  pub prefix_too_long : (status ≡ statuses.prefix_too_long) ↔ HasLongTaggedPrefix bytes

-- The text is a picture of the two sets whose images the bytes are, of the network that `network` says.
pub record IsPictureOf (IsPicture : IpSet → IpSet → Frame → List ℕ → Type 0) (set other network text : List ℕ) : Type 0
  where
    pub first : IpSet
    pub second : IpSet
    pub first_image : IsImageOf set first
    pub second_image : IsImageOf other second
    pub frame : Frame
    pub is_frame : AreBytesOfFrame frame network
    pub picture : IsPicture first second frame text

-- The two sets whose images the bytes are have no address around which to draw the network that `network` says.
pub record HasNoPicture (set other network : List ℕ) : Type 0 where
  pub first : IpSet
  pub second : IpSet
  pub first_image : IsImageOf set first
  pub second_image : IsImageOf other second
  pub all : IpSet
  pub both : IsUnion all first second
  pub frame : Frame
  pub is_frame : AreBytesOfFrame frame network
  pub none : HasNoFrame frame (IsMember all)

-- Drawing two sets: `count` is the length of the picture. `AreOptions` says that the number of the options is known.
-- The options are checked first, then the network, and then the images.
pub record IsPictureReply (AreOptions : Type 0) (IsPicture : IpSet → IpSet → Frame → List ℕ → Type 0)
    (set other network old new : List ℕ) (count_old count status : ℕ) : Type 0 where
  pub known : (status ≡ statuses.ok) ⊎ ((status ≡ statuses.buffer_too_short) ⊎ ((status ≡ statuses.unknown_option)
      ⊎ ((status ≡ statuses.wrong_length) ⊎ ((status ≡ statuses.unknown_family)
      ⊎ ((status ≡ statuses.prefix_too_long) ⊎ ((status ≡ statuses.not_a_set) ⊎ ((status ≡ statuses.other_not_a_set)
      ⊎ ((status ≡ statuses.no_address) ⊎ (status ≡ statuses.out_of_memory)))))))))
  pub ok : status ≡ statuses.ok
      → (text : List ℕ) × IsPictureOf IsPicture set other network text × IsWritten text old new count
  pub too_short : status ≡ statuses.buffer_too_short
      → (text : List ℕ) × IsPictureOf IsPicture set other network text × IsTooLong text old new count
  pub unknown_option : (status ≡ statuses.unknown_option) ↔ ¬ AreOptions
  pub wrong_length : (status ≡ statuses.wrong_length)
      ↔ (AreOptions × ¬ (HasFrame network) × HasWrongTaggedLen network)
  pub unknown_family : (status ≡ statuses.unknown_family)
      ↔ (AreOptions × ¬ (HasFrame network) × HasUnknownVariant network)
  pub prefix_too_long : (status ≡ statuses.prefix_too_long)
      ↔ (AreOptions × ¬ (HasFrame network) × HasLongTaggedPrefix network)
  pub not_a_set : (status ≡ statuses.not_a_set) ↔ (AreOptions × HasFrame network × ¬ (IsImage set))
  pub other_not_a_set : (status ≡ statuses.other_not_a_set)
      ↔ (AreOptions × HasFrame network × IsImage set × ¬ (IsImage other))
  pub no_address : status ≡ statuses.no_address → HasNoPicture set other network
  pub buffer_kept : status ≢ statuses.ok → new ≡ old
  pub count_kept : status ≢ statuses.ok → status ≢ statuses.buffer_too_short → count ≡ count_old

-- Drawing one set: the reply for this set twice.
abbrev pub IsSetPictureReply : (AreOptions : Type 0) → (IsPicture : IpSet → Frame → List ℕ → Type 0)
    → (set network old new : List ℕ) → (count_old count status : ℕ) → Type 0
IsSetPictureReply AreOptions IsPicture set network old new count_old count status =
    IsPictureReply AreOptions (λ s t. IsPicture s) set set network old new count_old count status

-- Changes that are applied to the set before make the set after.
use Rattle.std.proofs.Common.{◌≡◌, ◌↔◌, ℕ, List, [], All, Contains, subst, inl, inr}
use Rattle.ipnet_base.specs.Address.{Address, IsAddress}
use Rattle.ipnet_base.specs.Blocks.{AreMaximalBlocks}
use Rattle.ipnet_base.specs.Network.{Network}
use Rattle.ipnet_base.proofs.ListLaws.{all_from_members}
use Rattle.ipnet.specs.declared.parser.Grammar.{Grammar}
use Rattle.ipnet_sets.specs.declared.set.IpSet.{IpSet}
use Rattle.ipnet_sets.specs.Members.{IsMember}
use Rattle.netset_lib.specs.declared.answer.Form.{Form}
use Rattle.netset_lib.specs.declared.change_line.ChangeCause.{ChangeCause}
use Rattle.netset_lib.specs.Answers.{IsSetText}
use Rattle.netset_lib.specs.Changes.{ListChange, Added, Removed, AreChanges, AreChangeLines}
use Rattle.netset_lib.specs.ChangeLists.{IsAnswerNetwork, IsChangeList, IsKeptOrAdded, IsInChanged}
use Rattle.netset_lib.specs.ChangeLists.{IsChangedText, HasRefusedChanges}
use Rattle.ipnet_lists.specs.Lists.{RefusalFor}
use Rattle.netset_lib.proofs.AnswerTexts.{text_of_same}
use Rattle.netset_lib.proofs.ChangeLaws.{other_list_made}
use Rattle.netset_lib.proofs.ChangeTexts.{IsGoodChange, changes_read}
use Rattle.netset_lib.proofs.CoveredLaws.{member_is_covered}

-- the changes from the networks of a set to the networks of another
module _ (A B : Address → Type 0) (fits : (x : Address) → B x → IsAddress x) (before after : List Network)
    (of_before : AreMaximalBlocks A 0 before) (of_after : AreMaximalBlocks B 0 after) (changes : List ListChange)
    (exact : AreChanges before after changes) where
  good : (change : ListChange) → Contains changes change → IsGoodChange (IsAnswerNetwork A) change
  good (Added n) c =
      let (to, out) = (exact.added n).0 c in
      let m = (of_after.members n).0 to in
      record {
        plain = record { network = m.inside.network; truncated = m.inside.truncated };
        fits = λ has. out ((of_before.members n).1 has);
      }
  good (Removed n) c =
      let (from, out) = (exact.removed n).0 c in
      let m = (of_before.members n).0 from in
      record { plain = record { network = m.inside.network; truncated = m.inside.truncated }; fits = m }

  pub all_good : All (IsGoodChange (IsAnswerNetwork A)) changes
  all_good = all_from_members (IsGoodChange (IsAnswerNetwork A)) changes good

  -- the networks after them are the networks of the other set
  kept_is_after : (n : Network) → IsKeptOrAdded (IsAnswerNetwork A) changes n → Contains after n
  kept_is_after n (inl (has, stays)) =
      (other_list_made before after changes exact n).1 (inl ((of_before.members n).1 has, stays))
  kept_is_after n (inr added) = (other_list_made before after changes exact n).1 (inr added)

  after_is_kept : (n : Network) → Contains after n → IsKeptOrAdded (IsAnswerNetwork A) changes n
  after_is_kept n c = elim ((other_list_made before after changes exact n).0 c) [
    | inl (has, stays) ↦ inl ((of_before.members n).0 has, stays)
    | inr added ↦ inr added
  ]

  pub changed_is_other : (x : Address) → IsInChanged (IsAnswerNetwork A) changes x ↔ B x
  changed_is_other x = (
    λ h. ((of_after.members h.0).0 (kept_is_after h.0 h.1)).inside.within x h.2,
    λ b.
        let (i, n, less, is, a) = member_is_covered B after of_after x (fits x b) b in
        (n, after_is_kept n (i, less, is), a),
  )

-- the changes are read as they are
module _ (grammar : Grammar) (before after : IpSet) (changes : List ℕ)
    (h : AreChangeLines (IsMember before) (IsMember after) changes) where
  fits_after : (x : Address) → IsMember after x → IsAddress x
  fits_after x m = m.fits

  read_right : (taken : List ListChange) (refused : List (RefusalFor ChangeCause))
      → IsChangeList grammar (IsAnswerNetwork (IsMember before)) changes taken refused
      → (taken ≡ h.changes) × (refused ≡ [])
  read_right taken refused list =
      changes_read grammar (IsAnswerNetwork (IsMember before)) h.changes taken refused
      (all_good (IsMember before) (IsMember after) fits_after h.before h.after h.of_before h.of_after h.changes h.exact)
      (subst (λ t. IsChangeList grammar (IsAnswerNetwork (IsMember before)) t taken refused) h.spelled list)

  -- the text is the text of the set after
  pub applied_is_other : (form : Form) (text : List ℕ) → IsChangedText form grammar (IsMember before) changes text
      → IsSetText form (IsMember after) text
  applied_is_other form text k =
      let same = (read_right k.changes [] k.read).0 in
      text_of_same form (IsInChanged (IsAnswerNetwork (IsMember before)) h.changes) (IsMember after) text
      (changed_is_other (IsMember before) (IsMember after) fits_after h.before h.after h.of_before h.of_after h.changes
      h.exact)
      (subst (λ cs. IsSetText form (IsInChanged (IsAnswerNetwork (IsMember before)) cs) text) same k.right)

  -- none of the changes is refused
  pub none_refused : (refused : List (RefusalFor ChangeCause))
      → ¬ (HasRefusedChanges grammar (IsMember before) changes refused)
  none_refused refused k = k.some ((read_right k.changes refused k.read).1)

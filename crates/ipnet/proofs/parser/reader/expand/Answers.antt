-- The head pasted at the front of eight zeros, and the tail at their end, are the expanded groups.
use Rattle.std.proofs.Common.{◌≡◌, ℕ, ◌+◌, ◌-◌, ◌≤◌, List, ◌++◌, length, take, drop, replicate, refl, ap, ◌∙◌, arith}
use Rattle.std.proofs.Common.{append-nil, take_all, length-append, length-drop}
use Rattle.std.proofs.lemmas.List.{drop-replicate, take-replicate, drop_all}
use Rattle.std.proofs.Math.Seq.{take-append-add}
use Rattle.std.proofs.lemmas.Slice.{put_mid-paste}
use borrow.Rule.Slice.PartMut.{put_mid}
use Rattle.ipnet.proofs.parser.reader.expand.Goals as goal

-- the head is at the front of eight zeros, and the tail at their end
placed : (head tail one two : List ℕ) → length head + length tail ≤ 8 → one ≡ head → two ≡ tail
    → put_mid (8 - length tail) (8 - (8 - length tail)) (one ++ drop (length head) (replicate 8 0)) two
    ≡ head ++ replicate (8 - length head - length tail) 0 ++ tail
placed head tail one two room is_head is_tail =
    let h = length head in
    let t = length tail in
    let zeros : List ℕ = drop h (replicate 8 0) in
    let gap = 8 - h - t in
    let front : 8 - t ≡ h + gap = omega arith in
    let xs = one ++ zeros in
    let few : gap ≤ 8 - h = omega arith in
    let len : length xs ≡ 8 =
    omega (arith, length-append one zeros, length-drop h (replicate {A = ℕ} 8 0), ap length is_head) in
    let left : take gap zeros ≡ replicate gap 0 =
    rw (drop-replicate {X = ℕ} h 8 0) (take-replicate gap (8 - h) 0 few) in
    let kept : take (8 - t) xs ≡ head ++ replicate gap 0 = rw (is_head, front, take-append-add head zeros gap, left) in
    let pasted = put_mid-paste (8 - t) (8 - (8 - t)) xs two tail t is_tail (omega arith) refl in
    let nothing = drop_all (8 - t + t) xs (omega arith) in
    pasted ∙ rw (nothing, append-nil, take_all t tail (omega arith), kept)

pub returns : goal.returns
returns c =
    c.from_segments.ensures ∙ placed c.args.head.now c.args.tail.now _ _ c.requires c.copy_from_slice.ensures.after
    c.copy_from_slice-2.ensures.after

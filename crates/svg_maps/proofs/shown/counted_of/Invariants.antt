-- After `place` sets these sets are counted, with the words at their places if each set has words.
use Rattle.std.proofs.Common.{◌≡◌, length, map, take, string_bytes}
use Rattle.svg_maps.proofs.shown.counted_of.Given as goal

abbrev pub invariant-loop-place : goal.invariant-loop-place
invariant-loop-place l = record {
  sets : map (λ c. c.set.now) l.list.items ≡ take l.place l.sets;
  words : length l.words ≡ length l.sets
      → map (λ c. c.words.now) l.list.items ≡ map string_bytes (take l.place l.words);
}

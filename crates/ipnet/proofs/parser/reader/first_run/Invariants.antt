-- The number so far is what the digits so far write, of which there are four at most.
use Rattle.std.proofs.Common.{◌≡◌, ◌-◌, ◌≤◌, ◌<◌, ◌^◌, length, take}
use Rattle.std.specs.Str.Parse.{AllDigits, digits_value}
use Rattle.ipnet.proofs.parser.reader.first_run.Given as goal

abbrev pub invariant-loop-count : goal.invariant-loop-count
invariant-loop-count l = record {
  fits : l.count ≤ 4;
  within : l.count ≤ length l.rest;
  all : AllDigits 16 (take l.count l.rest);
  number : l.number ≡ digits_value 16 (take l.count l.rest);
  below : l.number < 16 ^ l.count;
}

abbrev pub decreases-loop-count : goal.decreases-loop-count
decreases-loop-count l = 4 - l.count

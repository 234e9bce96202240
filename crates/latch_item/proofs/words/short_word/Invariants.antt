use Rattle.std.proofs.Common.{◌≡◌, ◌^◌, ◌<◌}
use Rattle.latch_item.specs.Bytes.{number, skip}
use Rattle.latch_item.proofs.words.short_word.Given as goal

abbrev pub invariant-loop-k : goal.invariant-loop-k
invariant-loop-k l = record {
  is : l.word ≡ number l.k (skip l.at l.bytes);
  low : l.word < 256 ^ l.k;
}

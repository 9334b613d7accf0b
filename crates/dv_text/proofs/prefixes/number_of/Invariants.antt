use Rattle.dv_text.proofs.Vocabulary.{drop, spelt, ◌-◌, ◌<◌, ◌^◌, ◌≡◌}
use Rattle.dv_text.proofs.prefixes.number_of.Given as goal

-- what the bytes that are left spell behind the number
abbrev pub invariant-loop-place : goal.invariant-loop-place
invariant-loop-place l = record {
  value : spelt (16 - l.place) l.number (drop l.place l.bytes) ≡ spelt 16 0 l.bytes;
  within : l.number < 256 ^ l.place;
}

use Rattle.std.proofs.Common.{◌≡◌, ◌<◌, ◌≤◌, ◌*◌, ◌%◌, ◌^◌, length, ℕ, get_or}
use Rattle.ds_tlb.proofs.indexed.empty_buckets.Given as goal

abbrev pub invariant-loop-slot : goal.invariant-loop-slot
invariant-loop-slot l = record {
  size : length l.buckets ≡ 128;
  set : (h : ℕ) → h < l.slot → get_or l.buckets h 0 ≡ 1 * 2 ^ h % 2 ^ 64;
  clear : (h : ℕ) → l.slot ≤ h → h < 128 → get_or l.buckets h 0 ≡ 0;
}

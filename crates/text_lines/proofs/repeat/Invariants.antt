-- What is filled is the part, over and over, and ends with a whole one as long as there is more to fill.
use Rattle.std.proofs.Common.{◌≡◌, ℕ, ◌-◌, ◌%◌, ◌<◌, ◌≤◌, length, slice_index}
use Rattle.text_lines.proofs.repeat.Given as goal

abbrev pub invariant-loop-done : goal.invariant-loop-done
invariant-loop-done l = record {
  in_bounds : l.done ≤ length l.to;
  begun : l.done < length l.to → 0 < l.done;
  whole : l.done < length l.to → l.done % length l.part ≡ 0;
  filled : (k : ℕ) → k < l.done → slice_index l.to k ≡ slice_index l.part (k % length l.part);
}

abbrev pub decreases-loop-done : goal.decreases-loop-done
decreases-loop-done l = length l.to - l.done

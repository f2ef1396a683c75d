use Rattle.std.proofs.Common.{◌≡◌, ℕ, ◌<◌, ◌≤◌, ltb, get_or}
use Rattle.cdf.specs.Words.{moved}
use Rattle.cdf.proofs.adapt.update_cdf.Given as goal

-- the words below i are moved, and those from i on are as they were
abbrev pub invariant-loop-i : goal.invariant-loop-i
invariant-loop-i l = record {
  done : (k : ℕ) → k < l.i → get_or l.cdf k 0 ≡ moved l.rate (ltb k l.val) (get_or l.initial.cdf k 0);
  left : (k : ℕ) → l.i ≤ k → get_or l.cdf k 0 ≡ get_or l.initial.cdf k 0;
}

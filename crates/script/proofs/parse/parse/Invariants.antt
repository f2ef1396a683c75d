use Rattle.std.proofs.Common.{◌≡◌, ◌+◌, vec_items}
use Rattle.std.specs.Iterator.Adapters.{enumerate_source, enumerate_count}
use Rattle.std.specs.Str.Iter.{lines_rest}
use Rattle.script.proofs.Running.{Sofar}
use Rattle.script.proofs.parse.parse.Given as goal

abbrev pub invariant-loop-i : goal.invariant-loop-i
invariant-loop-i l =
    record {
      sofar : Sofar l.text (lines_rest (enumerate_source l.i-iterator)) (enumerate_count l.i-iterator) l.head (vec_items l.lines);
      ended : l.end ≡ enumerate_count l.i-iterator + 1;
      can_next : (goal.iterator-loop-i).can_next l.i-iterator;
      is_finite : (goal.iterator-loop-i).is_finite l.i-iterator;
    }

use Rattle.std.proofs.Common.{◌≡◌, length, take, drop}
use Rattle.cdf.specs.Lists.{Each}
use Rattle.model.specs.Reading as by_step
use Rattle.replay.specs.Books.{Stands}
use Rattle.replay.specs.Reads.{state_read, units_read}
use Rattle.replay.proofs.Reading.{Left}
use Rattle.replay.proofs.read.read_each.Given as goal

abbrev pub invariant-loop-i : goal.invariant-loop-i
invariant-loop-i g l =
    let first = l.initial in
    let es = g.Q.Source.list first.source in
    let n = length first.map in
    record {
      list : g.Q.Source.list l.source ≡ es;
      units : units_read l.reader ≡ units_read first.reader;
      behind : drop (units_read first.reader) l.map ≡ drop (units_read first.reader) first.map;
      stands : Each Stands (take l.i l.answers);
      rest : drop l.i l.answers ≡ drop l.i first.answers;
      left : Left n es l.questions l.i l.answers (state_read l.reader l.map) (g.Q.Source.place l.source)
          (by_step.read_each n es l.questions (state_read first.reader first.map) (g.Q.Source.place first.source));
    }

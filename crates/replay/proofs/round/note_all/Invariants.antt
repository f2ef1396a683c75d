use Rattle.std.proofs.Common.{◌≡◌, ◌-◌, length, drop}
use Rattle.cdf.specs.Lists.{Each}
use Rattle.replay.specs.Books.{book, in_book, Room}
use Rattle.replay.specs.Rounds.{MadeOf}
use Rattle.replay.specs.Runs.{book_of}
use Rattle.replay.proofs.round.note_all.Given as goal

-- what is left of the calls makes the book that all of them make
abbrev pub invariant-loop-i : goal.invariant-loop-i
invariant-loop-i l =
    record {
      room : Room (length l.calls - l.i) l.taken;
      made : Each (MadeOf l.calls l.answers) (in_book l.initial.taken) → Each (MadeOf l.calls l.answers) (in_book l.taken);
      left : book_of (book l.taken) (drop l.i l.calls) (drop l.i l.answers) ≡ book_of (book l.initial.taken) l.calls l.answers;
    }

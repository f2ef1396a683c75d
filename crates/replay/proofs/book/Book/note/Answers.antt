use Rattle.std.proofs.Common.{refl}
use Rattle.replay.proofs.book.Book.note.Goals as goal

pub returns-in-TakeBack-Ok-Done-clause-room : goal.returns-in-TakeBack-Ok-Done-clause-room
returns-in-TakeBack-Ok-Done-clause-room c n room = (refl, c.cut.ensures.room n room)

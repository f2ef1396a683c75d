use Rattle.std.proofs.Common.{◌≡◌, ◌+◌, ◌-◌, length, drop, sym, ap, ◌∙◌, subst, arith}
use Rattle.replay.specs.Books.{book, Room}
use Rattle.replay.specs.Runs.{book_of}
use Rattle.replay.proofs.Noting.{made_more, noted_more}
use Rattle.replay.proofs.round.note_all.Goals as goal

pub loop-i-preserved : goal.loop-i-preserved
loop-i-preserved c =
    let calls = c.args.calls.now in
    let answers = c.args.answers.now in
    let i = c.loop-i.i in
    let one : length calls - i ≡ (length calls - (i + 1)) + 1 = omega arith in
    record {
      room = (c.note.ensures.room (length calls - (i + 1)) (subst (λ n. Room n c.loop-i.taken) one c.loop-i.invariant.room)).1;
      made = λ first. made_more calls answers i _ _ _ _ (omega arith) (omega (arith, c.requires.answered)) c.in-Ok.ensures.kept (c.loop-i.invariant.made first);
      left = ap (λ b. book_of b (drop (i + 1) calls) (drop (i + 1) answers)) c.in-Ok.ensures.noted ∙ sym (noted_more calls answers i _ _ (book c.loop-i.taken) (omega arith) (omega (arith, c.requires.answered))) ∙ c.loop-i.invariant.left;
    }

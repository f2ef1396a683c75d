use Rattle.std.proofs.Common.{◌≡◌, ◌≤◌, ◌++◌, map, length, take, drop, sym, ap, ap₂, ◌∙◌, subst, arith}
use Rattle.cdf.specs.Lists.{Each}
use Rattle.model.specs.declared.Question.{Question}
use Rattle.model.specs.Decisions.{Decision, stage}
use Rattle.model.specs.Runs.{Book, empty_book, question_of, reads}
use Rattle.model.specs.Worked.{start}
use Rattle.replay.specs.Books.{in_book, standing_calls}
use Rattle.replay.specs.Reads.{reading_of, state_read}
use Rattle.replay.specs.Rounds.{MadeOf}
use Rattle.replay.specs.Runs.{book_of, started}
use Rattle.replay.proofs.Noting.{book_take, made_front}
use Rattle.replay.proofs.Rounds.{all_written, as_many, book_few, came_back, none_taken, not_stopped, taken_stood}
use Rattle.replay.proofs.Traces.{front_answers}
use Rattle.stage.specs.View.{lanes}
use Rattle.replay.proofs.round.write_and_read.Goals as goal

pub ask_all-requires : goal.ask_all-requires
ask_all-requires g c =
    let calls = c.args.calls.now in
    let answers = c.write_calls.new.answers in
    let noted = ap (λ (b : Book Question Decision). b.standing) (c.note_all.ensures.noted ∙ ap (λ b. book_of b calls answers) c.in_ok-taken.ensures.empty) in
    omega (arith, book_few calls answers (in_book c.note_all.new.taken) noted, ap length c.standing.ensures, c.in_ok-questions.ensures.len, c.in_ok-questions.ensures.capacity)

pub unreachable-requires-in_default-read_back : goal.unreachable-requires-in_default-read_back
unreachable-requires-in_default-read_back g c =
    let calls = c.args.calls.now in
    let answers = c.write_calls.new.answers in
    let taken = in_book c.note_all.new.taken in
    let noted = ap (λ (b : Book Question Decision). b.standing) (c.note_all.ensures.noted ∙ ap (λ b. book_of b calls answers) c.in_ok-taken.ensures.empty) in
    let asked : c.deref.result.now ≡ map (question_of stage) (standing_calls taken) = c.deref.ensures.value ∙ c.ask_all.ensures ∙ ap₂ (λ l m. l ++ map (question_of stage) (standing_calls m)) c.in_ok-questions.ensures.items c.standing.ensures in
    let few : length c.deref.result.now ≤ length c.deref_mut.result.now =
    omega (arith, book_few calls answers taken noted, as_many taken c.deref.result.now asked, c.deref_mut.ensures.len, c.in_ok-read.ensures.len) in
    let e = c.in_default-read_back.ensures.asked ∙ not_stopped c.args.columns c.args.rows c.args.last _ _ _ few (sym c.in_ok-ask_start-2.ensures.asked) in
    cc

pub returns-clause-book : goal.returns-clause-book
returns-clause-book g c =
    let calls = c.args.calls.now in
    let answers = c.write_calls.new.answers in
    let taken = in_book c.note_all.new.taken in
    let first = none_taken (in_book c.in_ok-taken.taken) (ap (λ (b : Book Question Decision). b.standing) c.in_ok-taken.ensures.empty) in
    record {
      noted = c.note_all.ensures.noted ∙ ap (λ b. book_of b calls answers) c.in_ok-taken.ensures.empty ∙ book_take calls answers (empty_book stage);
      made = made_front calls answers taken (c.note_all.ensures.made (subst (Each (MadeOf calls answers)) (sym first) tt));
    }

pub returns-clause-reading : goal.returns-clause-reading
returns-clause-reading g c =
    let calls = c.args.calls.now in
    let answers = c.write_calls.new.answers in
    let taken = in_book c.note_all.new.taken in
    let noted = ap (λ (b : Book Question Decision). b.standing) (c.note_all.ensures.noted ∙ ap (λ b. book_of b calls answers) c.in_ok-taken.ensures.empty) in
    let asked : c.deref.result.now ≡ map (question_of stage) (standing_calls taken) = c.deref.ensures.value ∙ c.ask_all.ensures ∙ ap₂ (λ l m. l ++ map (question_of stage) (standing_calls m)) c.in_ok-questions.ensures.items c.standing.ensures in
    let long : length c.read_back.new.answers ≡ c.in_ok-read.read.len = omega (arith, c.read_back.auto.answers, c.deref_mut.ensures.len) in
    let back = all_written c.in_ok-read.read.len c.read_back.new.answers c.in_ok-read.read.items long in
    let read = c.in-Ok-read_back.ensures.read in (
      read.0,
      ap₂ (λ n l. reading_of n c.in-Ok-read_back.run'.stop l (state_read c.in-Ok-read_back.run'.reader c.read_back.new.map) (g.S.Sink.list c.write_calls.new.sink) read.0) (sym (as_many taken c.deref.result.now asked)) back
          ∙ read.1
          ∙ ap (λ qs. reads stage (length c.args.reader_map.now) (start c.args.columns c.args.rows c.args.last) qs (g.S.Sink.list c.write_calls.new.sink) 0) (asked ∙ ap (map (question_of stage)) (taken_stood calls answers taken noted)),
    )

pub returns-clause-back : goal.returns-clause-back
returns-clause-back g c empty =
    let from = start c.args.columns c.args.rows c.args.last in
    let lent = lanes c.args.log.now in
    let es = g.S.Sink.list c.args.sink.now in
    let room = g.S.Sink.rooms c.args.sink.now in
    let n = length c.args.map.now in
    let calls = c.args.calls.now in
    let answers = c.write_calls.new.answers in
    let answered = front_answers n room calls (started from lent es) answers (drop (length calls) c.args.answers.now) c.in-Ok.ensures.answers in
    let taken = in_book c.note_all.new.taken in
    let noted = ap (λ (b : Book Question Decision). b.standing) (c.note_all.ensures.noted ∙ ap (λ b. book_of b calls answers) c.in_ok-taken.ensures.empty) in
    let asked : c.deref.result.now ≡ map (question_of stage) (standing_calls taken) = c.deref.ensures.value ∙ c.ask_all.ensures ∙ ap₂ (λ l m. l ++ map (question_of stage) (standing_calls m)) c.in_ok-questions.ensures.items c.standing.ensures in
    let p = came_back n room from lent es calls answers _ answered (sym c.in-Ok.ensures.world) empty taken noted c.deref.result.now asked _ _ _ _ c.in-Ok-read_back.ensures.read.2 in
    let long : length c.read_back.new.answers ≡ c.in_ok-read.read.len = omega (arith, c.read_back.auto.answers, c.deref_mut.ensures.len) in
    let back = all_written c.in_ok-read.read.len c.read_back.new.answers c.in_ok-read.read.items long in
    record {
      whole = p.0;
      read = ap (λ l. standing_calls (take (length taken) l)) back ∙ p.1;
      state = p.2;
    }

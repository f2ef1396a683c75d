use Rattle.std.proofs.Common.{ℕ, ◌-◌, List, length, reverse, ap, ◌∙◌, vec_items}
use Rattle.std.specs.List.{slice_get}
use Rattle.model.specs.Decisions.{stage}
use Rattle.model.specs.Runs as model
use Rattle.replay.specs.Books.{standing_calls}
use Rattle.replay.specs.Runs.{stood}
use Rattle.replay.specs.declared.book.Standing.{Standing}
use Rattle.replay.proofs.Noting.{cut_to_last}
use Rattle.replay.proofs.book.Book.cut.Goals as goal

pub returns-in-Some-clause-cut : goal.returns-in-Some-clause-cut
returns-in-Some-clause-cut c =
    let b = c.args.self.now in
    let last = c.in-Some.ensures.value ∙ ap (λ (l : List ℕ). slice_get l (length l - 1)) c.deref.ensures.value in
    ap (λ (l : List (model.Standing stage)). record { standing = l; numbers = reverse (vec_items b.numbers) })
    (ap standing_calls c.truncate.ensures.items ∙ cut_to_last (λ (s : Standing). stood s.call s.segment) (vec_items b.standing) (vec_items b.numbers) c.in-Some.number.now last)

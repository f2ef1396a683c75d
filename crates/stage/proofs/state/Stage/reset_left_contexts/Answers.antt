use Rattle.std.proofs.Common.{◌≡◌, ◌<◌, true, length, refl, rules}
use Rattle.std.proofs.lemmas.Bool.{both_ways}
use Rattle.stage.specs.View.{open_trials, state_of}
use Rattle.stage.proofs.Contexts.{row_refused, row_started}
use Rattle.stage.proofs.state.Stage.reset_left_contexts.Goals as goal

pub returns-then-not-is_empty : goal.returns-then-not-is_empty
returns-then-not-is_empty c =
    let s = c.args.self.now in
    let some : 0 < open_trials s.journal = search rules in
    record { step = λ memory rooms l entries. row_refused (length memory) rooms (state_of s memory) s.journal l entries some; still = λ h. refl }

pub returns : goal.returns
returns c =
    let s = c.args.self.now in
    let none : open_trials s.journal ≡ 0 = search rules in
    record { step = λ memory rooms l entries. row_started (length memory) rooms (state_of s memory) s.journal l entries none s.beside; still = λ h. absurd (both_ways true h refl) }

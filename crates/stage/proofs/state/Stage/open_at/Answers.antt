use Rattle.std.proofs.Common.{◌≡◌, ◌<◌, ◌≤◌, true, length, refl, arith, rules}
use Rattle.std.proofs.lemmas.Bool.{both_ways}
use Rattle.stage.specs.View.{open_trials, state_of}
use Rattle.stage.proofs.Trials.{open_refused, open_accepted}
use Rattle.stage.proofs.state.Stage.open_at.Goals as goal

pub returns-then-is_full : goal.returns-then-is_full
returns-then-is_full g c =
    let s = c.args.self.now in
    let full : open_trials s.journal ≡ 16 = search rules in
    let many : 16 ≤ open_trials s.journal = omega (arith, full) in
    record { step = λ memory rooms l. open_refused (length memory) rooms (state_of s memory) s.journal l (g.S.Sink.list c.args.sink.now) many; still = λ h. refl }

pub returns : goal.returns
returns g c =
    let s = c.args.self.now in
    let few : open_trials s.journal < 16 = search rules in
    record {
      step = λ memory rooms l.
          open_accepted (length memory) rooms (state_of s memory) s.journal l (g.S.Sink.list c.args.sink.now) c.count.result c.len.result
          (record { marks = c.push.new.self; used = s.journal.used }) few c.count.ensures (search rules) c.push.ensures.items refl;
      still = λ h. absurd (both_ways true h refl);
    }

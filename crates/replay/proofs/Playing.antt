-- A list of calls, call by call: what is left of it gives what all of it gives.
use Rattle.std.proofs.Common.{◌≡◌, ℕ, ◌+◌, ◌<◌, List, [], ◌∷◌, ◌++◌, length, get_or, take, drop, set, sym, ap, ◌∙◌, ap₂}
use Rattle.std.proofs.lemmas.List.{at_drop_more, take_more_set, append_assoc}
use Rattle.cdf.specs.declared.entry.Entry.{Entry}
use Rattle.model.specs.Decisions.{stage}
use Rattle.model.specs.Runs.{World}
use Rattle.av1.specs.declared.call.Call.{Call}
use Rattle.replay.specs.Calls.{Answered, call_step}
use Rattle.replay.specs.Runs.{ran}

-- call i of the list, made in world w over a map of length m and a sink with room r, answers a and leaves world v
module _ (memory : ℕ) (room : List Entry → ℕ) (cs : List Call) (i : ℕ) (c : Call) (w : World stage) {a : Answered} {v : World stage} {m : ℕ} {r : List Entry → ℕ}
    (long : m ≡ memory) (same : r ≡ room) (step : ◌≡◌ {A = Answered × World stage} (a, v) (call_step m r (get_or cs i c) w)) (within : i < length cs) where
  stepped : ◌≡◌ {A = Answered × World stage} (a, v) (call_step memory room (get_or cs i c) w)
  stepped = step ∙ ap₂ (λ n f. call_step n f (get_or cs i c) w) long same

  pub world_again : {z : World stage} → (ran memory room (drop i cs) w).world ≡ z → (ran memory room (drop (i + 1) cs) v).world ≡ z
  world_again inv =
      ap (λ (p : Answered × World stage). (ran memory room (drop (i + 1) cs) p.1).world) stepped ∙ sym (at_drop_more (λ l. (ran memory room l w).world) cs i c within) ∙ inv

  pub answers_again : (as' : List Answered) {z : List Answered} → i < length as' → take i as' ++ (ran memory room (drop i cs) w).answers ≡ z
      → take (i + 1) (set as' i a) ++ (ran memory room (drop (i + 1) cs) v).answers ≡ z
  answers_again as' h inv =
      ap (λ l. l ++ (ran memory room (drop (i + 1) cs) v).answers) (take_more_set as' i a h)
      ∙ append_assoc (take i as') (a ∷ []) (ran memory room (drop (i + 1) cs) v).answers
      ∙ ap (λ (p : Answered × World stage). take i as' ++ (p.0 ∷ (ran memory room (drop (i + 1) cs) p.1).answers)) stepped
      ∙ sym (ap (λ l. take i as' ++ l) (at_drop_more (λ l. (ran memory room l w).answers) cs i c within)) ∙ inv

use Rattle.std.proofs.Common.{◌≡◌, ℕ, ◌/◌, ◌%◌, [], ◌∷◌, ◌++◌, refl, rules}
use Rattle.script.specs.Digests.{step}
use Rattle.script.proofs.Hashing.{one_more}
use Rattle.script.proofs.digest.Digest.word.Goals as goal

pub returns : goal.returns
returns c =
    let hash : ℕ = c.args.self.now.hash in
    let low : ℕ = c.args.word % 256 in
    let high : ℕ = c.args.word / 256 in
    let after : c.bytes.new.self.hash ≡ step (step hash low) high = search rules in
    record { after = after; digests = λ bs h. one_more (step hash low) _ high (bs ++ low ∷ []) after (one_more hash (step hash low) low bs refl h) }

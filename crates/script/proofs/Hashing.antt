-- Hashes of longer and longer lists.
use Rattle.std.proofs.Common.{◌≡◌, ℕ, List, [], ◌∷◌, ◌++◌, sym, ap, ◌∙◌}
use Rattle.std.proofs.lemmas.List.Sums.{fold_push, fold-append}
use Rattle.script.specs.Digests.{offset, step, steps, Digests}

pub one_more : (h g b : ℕ) (bs : List ℕ) → g ≡ step h b → Digests h bs → Digests g (bs ++ b ∷ [])
one_more h g b bs e d = e ∙ ap (λ x. step x b) d ∙ sym (fold_push step offset bs b)

pub many_more : (h g : ℕ) (xs bs : List ℕ) → g ≡ steps h xs → Digests h bs → Digests g (bs ++ xs)
many_more h g xs bs e d = e ∙ ap (λ x. steps x xs) d ∙ sym (fold-append step offset bs xs)

-- The words of a line.
use Rattle.std.specs.Prelude.{ℕ, Bool, cond, ◌||◌, List, [], ◌∷◌, ◌++◌, ◌==◌}
use Rattle.std.specs.Borrow.{Bor}

-- a space, a tab or a carriage return
abbrev pub blank : ℕ → Bool
blank b = b == 32 || (b == 9 || b == 13)

-- a word, unless it is empty
abbrev pub flush : List ℕ → List (List ℕ)
flush [] = []
flush (b ∷ bs) = (b ∷ bs) ∷ []

-- the words of a line whose first word so far is w; `#` ends the last word
abbrev pub words_from : List ℕ → List ℕ → List (List ℕ)
words_from w [] = flush w
words_from w (b ∷ bs) = cond (b == 35) (flush w) (cond (blank b) (flush w ++ words_from [] bs) (words_from (w ++ b ∷ []) bs))

abbrev pub words_of : List ℕ → List (List ℕ)
words_of line = words_from [] line

-- what ends a word: a blank, or a comment
abbrev pub ends_word : ℕ → Bool
ends_word b = b == 35 || blank b

-- the words of a line that are not read yet: those of what is left of it
abbrev pub unread : Bor (List ℕ) → List (List ℕ)
unread rest = words_of rest.now

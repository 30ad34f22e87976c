-- The words of a line, which single spaces part. A line without a space is one word.
use Rattle.std.specs.Prelude.{ℕ, zero, suc, ◌+◌, cond, List, [], ◌∷◌, eqb, take, drop}
use Rattle.text.specs.Search.{index_of}

-- how many words a line has: one more than spaces
unfoldable pub word_count : List ℕ → ℕ
word_count [] = 1
word_count (c ∷ cs) = cond (eqb c 32) 1 0 + word_count cs

-- a line's bytes before its first space, and those behind that space
unfoldable pub first_word : List ℕ → List ℕ
first_word line = take (index_of 32 line) line

unfoldable pub behind_first : List ℕ → List ℕ
behind_first line = drop (index_of 32 line + 1) line

-- what is left of a line behind its first n words
unfoldable pub behind_words : ℕ → List ℕ → List ℕ
behind_words zero line = line
behind_words (suc n) line = behind_first (behind_words n line)

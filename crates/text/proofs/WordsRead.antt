-- The words of a line, as the library finds its spaces.
use Rattle.std.proofs.Common.{◌≡◌, refl, ℕ, ◌+◌, ◌-◌, ◌≤◌, cond, List, [], ◌∷◌, length, take, drop, sym, ap, ◌∙◌, arith, eqb, position, count_by, Some, None}
use Rattle.std.proofs.Common.{drop_of_length-le, take_all, length-drop, add-one}
use Rattle.std.specs.List.{position_or_len}
use Rattle.std.proofs.lemmas.List.Sums.{sum_by-cons}
use Rattle.text.specs.Search.{index_of}
use Rattle.text.specs.Words.{word_count, first_word, behind_first, behind_words}

-- ---- where the first space is

pub place_is : (b : ℕ) (l : List ℕ) → position_or_len (λ (c : ℕ). eqb c b) l ≡ index_of b l
unfolding index_of
place_is b [] = refl
place_is b (c ∷ cs) = grind (arith, place_is b cs)

found : (n : ℕ) (l : List ℕ) → position (λ (c : ℕ). eqb c 32) l ≡ Some n → n ≡ index_of 32 l
found n l e = grind (arith, e, place_is 32 l)

none : (l : List ℕ) → position (λ (c : ℕ). eqb c 32) l ≡ None → length l ≤ index_of 32 l
none l e = grind (arith, e, place_is 32 l)

-- ---- what stands before it, and behind it

pub before_space : (n : ℕ) (l : List ℕ) → position (λ (c : ℕ). eqb c 32) l ≡ Some n → take n l ≡ first_word l
unfolding first_word
before_space n l e = ap (λ (m : ℕ). take m l) (found n l e)

pub without_space : (l : List ℕ) → position (λ (c : ℕ). eqb c 32) l ≡ None → l ≡ first_word l
unfolding first_word
without_space l e = sym (take_all (index_of 32 l) l (none l e))

pub behind_space : (n : ℕ) (l : List ℕ) → position (λ (c : ℕ). eqb c 32) l ≡ Some n
    → take (length l - (n + 1)) (drop (n + 1) l) ≡ behind_first l
unfolding behind_first
behind_space n l e =
    let long : length (drop (n + 1) l) ≡ length l - (n + 1) = length-drop (n + 1) l in
    take_all (length l - (n + 1)) (drop (n + 1) l) (omega (arith, long)) ∙ ap (λ (m : ℕ). drop (m + 1) l) (found n l e)

pub behind_all : (l : List ℕ) → position (λ (c : ℕ). eqb c 32) l ≡ None → [] ≡ behind_first l
unfolding behind_first
behind_all l e = let past : length l ≤ index_of 32 l = none l e in sym (drop_of_length-le l {i = index_of 32 l + 1} (omega arith))

-- ---- one word after the other

pub none_passed : (l : List ℕ) → l ≡ behind_words 0 l
unfolding behind_words
none_passed l = refl

pub one_passed : (k : ℕ) (r s l : List ℕ) → r ≡ behind_words k l → s ≡ behind_first r → s ≡ behind_words (k + 1) l
unfolding behind_words
one_passed k r s l e q = q ∙ ap (λ (m : List ℕ). behind_first m) e ∙ ap (λ (n : ℕ). behind_words n l) (sym (add-one k))

pub word_is : (n : ℕ) (w r l : List ℕ) → r ≡ behind_words n l → w ≡ first_word r → w ≡ first_word (behind_words n l)
word_is n w r l e q = q ∙ ap (λ (m : List ℕ). first_word m) e

-- ---- how many

pub counted : (l : List ℕ) → count_by (λ (c : ℕ). eqb c 32) l + 1 ≡ word_count l
unfolding word_count
counted [] = refl
counted (c ∷ cs) = let more = sum_by-cons (λ (x : ℕ). cond (eqb x 32) 1 0) c cs in grind (arith, counted cs, more)

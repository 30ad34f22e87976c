-- Document 01, Lent and given back, the exported sampler: the number returned, and what is lent afterwards.
use Rattle.std.specs.Prelude.{ℕ, zero, suc, cond, not, ◌&&◌, List, [], ◌∷◌, length, ◌==◌}
use Rattle.sampling.specs.core.FirstNumber.{line, first_number}
use Rattle.sampling.specs.core.BigEndian.{bytes_of}
use Rattle.sampling.specs.core.Sample.{uniform, value_of, bernoulli}
use Rattle.sampling.specs.declared.sample.U128.{U128}

-- the exported draw: a value that is drawn fills the 8 bytes; with any other number they stay as they were lent
unfoldable pub with_lent : ℕ → ℕ → List ℕ → ℕ × List ℕ
with_lent zero v out = (0, bytes_of 8 v)
with_lent (suc k) v out = (suc k, out)

-- by the table's order: 7 for n = 0, 8 for a wrong length; else the draw's number
unfoldable pub exported_uniform : List ℕ → ℕ → List ℕ → ℕ × List ℕ
exported_uniform h n out =
    let number : ℕ = first_number (line 7 (n == 0) ∷ line 8 (not (length h == 16 && length out == 8)) ∷ (uniform h n).0 ∷ []) in
    with_lent number (uniform h n).1 out

-- a wrong length of h is 8; else 1 for yes, 0 for no
unfoldable pub exported_bernoulli : List ℕ → U128 → ℕ
exported_bernoulli h x = cond (length h == 16) (cond (bernoulli h (value_of x)) 1 0) 8

-- What words write, as numbers.
use Rattle.std.specs.Prelude.{◌≡◌, ℕ, true, List}
use Rattle.sampling.specs.declared.sample.U128.{U128}
use Rattle.text.specs.Decimal.{is_decimal, decimal_value}
use Rattle.text.specs.Hexadecimal.{is_sixteen, sixteen_value}

-- Some word writes n in decimal.
pub record IsInDecimal (n : ℕ) : Type 0 where
  pub word : List ℕ
  pub digits : is_decimal word ≡ true
  pub value : n ≡ decimal_value word

-- Some 16 digits write the high half of x, and some 16 the low half.
pub record IsInDigits (x : U128) : Type 0 where
  pub high : List ℕ
  pub low : List ℕ
  pub high_digits : is_sixteen high ≡ true
  pub low_digits : is_sixteen low ≡ true
  pub high_value : x.hi ≡ sixteen_value high
  pub low_value : x.lo ≡ sixteen_value low

-- `unit_threshold`: the five cases of the exponent's field.
use Rattle.std.proofs.Common.{T, sym, subst}
use lib.Ieee.{binary64, fits}
use Rattle.sampling.specs.laws.SampleLaws.{inside_no_nan}
use Rattle.sampling.proofs.ThresholdBits.{no_half, low_half, both_halves, high_half, full_halves}
use Rattle.sampling.proofs.sample.unit_threshold.Goals as goal

pub float_to_bits-bits : goal.float_to_bits-bits
float_to_bits-bits c = inside_no_nan c.args.q c.requires

-- an `f64` is a double that the format holds
held : (c : goal.Then-exponent-lt884) → T (fits binary64 c.args.q)
held c = subst T (sym c.well_formed.0.1) tt

pub returns-then-exponent-lt884 : goal.returns-then-exponent-lt884
returns-then-exponent-lt884 c = no_half c.args.q (held c) c.if-exponent-lt884.true

held_2 : (c : goal.Then-exponent-le947) → T (fits binary64 c.args.q)
held_2 c = subst T (sym c.well_formed.0.1) tt

pub returns-then-exponent-le947 : goal.returns-then-exponent-le947
returns-then-exponent-le947 c = let s = c in low_half s.args.q (held_2 s) c.if-exponent-lt884.false c.if-exponent-le947.true

held_3 : (c : goal.Then-exponent-lt1011) → T (fits binary64 c.args.q)
held_3 c = subst T (sym c.well_formed.0.1) tt

pub returns-then-exponent-lt1011 : goal.returns-then-exponent-lt1011
returns-then-exponent-lt1011 c = let s = c in both_halves s.args.q (held_3 s) c.if-exponent-le947.false c.if-exponent-lt1011.true

held_4 : (c : goal.Then-exponent-lt1023) → T (fits binary64 c.args.q)
held_4 c = subst T (sym c.well_formed.0.1) tt

pub returns-then-exponent-lt1023 : goal.returns-then-exponent-lt1023
returns-then-exponent-lt1023 c = let s = c in high_half s.args.q (held_4 s) c.if-exponent-lt1011.false c.if-exponent-lt1023.true

held_5 : (c : goal.Else-exponent-lt1023) → T (fits binary64 c.args.q)
held_5 c = subst T (sym c.well_formed.0.1) tt

pub returns : goal.returns
returns c =
    let s = c in full_halves s.args.q (held_5 s) (inside_no_nan s.args.q s.requires) c.if-exponent-lt1023.false

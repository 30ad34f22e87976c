-- `mod_by_halves`: with n at most 2 ^ 32, what is left and a digit of 32 bits stay below 2 ^ 64.
use Rattle.std.proofs.Common.{◌+◌, ◌*◌, ◌/◌, ◌%◌, ◌^◌, ◌<◌, mod-lt, arith}
use Rattle.sampling.proofs.Remainder.{two_digits}
use Rattle.sampling.proofs.sample.mod_by_halves.Goals as goal

pub overflow_mul-second : goal.overflow_mul-second
overflow_mul-second c = let s = c in omega (arith, mod-lt s.args.i.hi s.requires.0)

pub overflow_add-second : goal.overflow_add-second
overflow_add-second c = let s = c in omega (arith, mod-lt s.args.i.hi s.requires.0)

-- what is left after the first digit
left_fits : (c : goal.After-struct_known-2-1) → (c.args.i.hi % c.args.n * 2 ^ 32 + c.args.i.lo / 2 ^ 32) % c.args.n < c.args.n
left_fits c = mod-lt (c.args.i.hi % c.args.n * 2 ^ 32 + c.args.i.lo / 2 ^ 32) c.requires.0

pub overflow_mul-result : goal.overflow_mul-result
overflow_mul-result c = omega (arith, left_fits c)

left_fits_2 : (c : goal.After-struct_known-3-1) → (c.args.i.hi % c.args.n * 2 ^ 32 + c.args.i.lo / 2 ^ 32) % c.args.n < c.args.n
left_fits_2 c = mod-lt (c.args.i.hi % c.args.n * 2 ^ 32 + c.args.i.lo / 2 ^ 32) c.requires.0

pub overflow_add-result : goal.overflow_add-result
overflow_add-result c = omega (arith, left_fits_2 c)

pub returns : goal.returns
returns c = let a = c.args in two_digits a.i.hi a.i.lo a.n

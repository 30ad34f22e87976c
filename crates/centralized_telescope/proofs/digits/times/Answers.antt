-- `times`: of the digits so far the product is made, but for what is carried.
use Rattle.std.proofs.Common.{◌-◌, ◌^◌, ◌≤◌, get_or, mul-le-mul, refl, arith, rules, lit<}
use Rattle.centralized_telescope.specs.laws.DigitsLaws.{product_none, product_more, behind_same, product_whole}
use Rattle.centralized_telescope.proofs.digits.times.Goals as goal

pub loop-digit-init : goal.loop-digit-init
loop-digit-init c = (lit< tt, product_none c.args.k c.args.digits.now, λ j h. refl)

pub loop-digit-preserved : goal.loop-digit-preserved
loop-digit-preserved c =
    let l = c.loop-digit in
    let z = c.args in
    let i = l.digit-index in
    let there = l.invariant.2 i (omega arith) in
    let d : get_or l.digits i 0 ≤ 2 ^ 32 - 1 = search rules in
    let k : z.k ≤ 2 ^ 32 - 1 = omega arith in
    rw (c.from.ensures, c.from-in-loop-digit.ensures) (
      omega (arith, mul-le-mul d k, l.invariant.0),
      product_more z.k z.digits.now l.digits i l.carry (omega arith) there l.invariant.1,
      behind_same z.digits.now l.digits i l.invariant.2 _,
    )

pub returns : goal.returns
returns c =
    let l = c.loop-digit in
    let z = c.args in (
      l.auto.digits,
      product_whole z.k z.digits.now l.digits l.digit-index l.carry l.auto.digits (omega arith) c.requires l.invariant.1,
    )

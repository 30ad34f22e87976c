-- `is_below`: a pair of digits more of both is compared.
use Rattle.std.proofs.Common.{◌≡◌, ◌≢◌, get_or, length, sym, ◌∙◌, arith, rules}
use Rattle.std.proofs.lemmas.List.{length_push}
use Rattle.std.proofs.lemmas.Slice.Zip.{zip_turn}
use Rattle.centralized_telescope.specs.laws.DigitsLaws.{none_below, fits_more, below_same, below_differ}
use Rattle.centralized_telescope.proofs.digits.is_below.Goals as goal

pub loop-x-init : goal.loop-x-init
loop-x-init c = none_below c.args.a.now c.args.b.now

pub loop-x-preserved-then-x-y : goal.loop-x-preserved-then-x-y
loop-x-preserved-then-x-y c =
    let l = c.loop-x in
    let a = c.args.a.now in
    let b = c.args.b.now in
    let i = length l.yielded in
    let t = zip_turn a b l.yielded c.into_iter-x-iterator.result l.x-iterator c.next.new.self _ (search rules) (search rules) l.yielded_by _ c.in-Some.is c.next.ensures.steps in
    let x : c.in-Some.x.now ≡ get_or a i 0 = t.2 0 in
    let y : c.in-Some.y.now ≡ get_or b i 0 = t.3 0 in
    let differ : get_or a i 0 ≢ get_or b i 0 = omega (arith, c.if-x-y.true) in
    rw (length_push l.yielded (c.in-Some.x, c.in-Some.y), x, y) (
      fits_more i a l.invariant.0 (omega (arith, c.type_inv.a i)),
      fits_more i b l.invariant.1 (omega (arith, c.type_inv.b i)),
      sym (below_differ i a b l.invariant.0 l.invariant.1 differ),
    )

pub loop-x-preserved : goal.loop-x-preserved
loop-x-preserved c =
    let l = c.loop-x in
    let a = c.args.a.now in
    let b = c.args.b.now in
    let i = length l.yielded in
    let t = zip_turn a b l.yielded c.into_iter-x-iterator.result l.x-iterator c.next.new.self _ (search rules) (search rules) l.yielded_by _ c.in-Some.is c.next.ensures.steps in
    let x : c.in-Some.x.now ≡ get_or a i 0 = t.2 0 in
    let y : c.in-Some.y.now ≡ get_or b i 0 = t.3 0 in
    let equal : get_or a i 0 ≡ get_or b i 0 = omega (arith, c.if-x-y.false) in
    rw (length_push l.yielded (c.in-Some.x, c.in-Some.y)) (
      fits_more i a l.invariant.0 (omega (arith, c.type_inv.a i)),
      fits_more i b l.invariant.1 (omega (arith, c.type_inv.b i)),
      l.invariant.2 ∙ sym (below_same i a b equal),
    )
